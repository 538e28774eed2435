use Rattle.std.proofs.Common.{◌≡◌, ◌∙◌, ◌++◌, ◌∷◌, [], arith, rules, sym, refl, ap, append_assoc, true, List, ℕ, ◌≤◌, ◌+◌, ◌-◌, vec_len, vec_capacity, take, length}
use Rattle.std.proofs.lemmas.List.{append-nil, take_all}
use Rattle.std.proofs.lemmas.Result.{err_from_is_err_and}
use Rattle.csv.specs.Records.{fields_of}
use Rattle.trace_csv.specs.Trace.{each_from}
use Rattle.trace_csv.specs.Words.{slots_in, spread, word_of}
use Rattle.trace_csv.proofs.EachLemmas.{field-more, field-stop, field-there}
use Rattle.trace_csv.proofs.TraceLemmas.{line_of-refused, line_of-words, slots_in-more, slots_in-within, spread-more, spread-none}
use Rattle.trace_csv.proofs.read.add_line.Goals as goal

pub loop-i-init : goal.loop-i-init
unfolding each_from
loop-i-init c =
    let room : vec_len c.reserve.new.self + slots_in c.args.form c.args.fields ≤ vec_capacity c.reserve.new.self = search rules in
    record {
      words = [];
      items = sym (ap (λ t. c.reserve.new.self.items ++ t) (spread-none c.args.form) ∙ append-nil _);
      so_far = refl;
      room = omega (arith, room);
    }

pub unreachable-requires : goal.unreachable-requires
unreachable-requires c = field-there (fields_of c.args.row.now) c.loop-i.i (omega arith) (sym c.in_default.ensures.value)

pub returns-in_err-word-clause-refused : goal.returns-in_err-word-clause-refused
returns-in_err-word-clause-refused c =
    let p = err_from_is_err_and c.from_residual.result c.from_residual.ensures.1 in
    rw (p.1, p.2) (λ _. line_of-refused c.args.form c.args.fields c.args.number (fields_of c.args.row.now) _ (omega arith)
    (field-stop (word_of c.args.form c.args.number) (fields_of c.args.row.now) c.loop-i.i c.in-Some.text.now c.loop-i.invariant.words _
    (omega arith) (sym c.in-Some.ensures.value) c.loop-i.invariant.so_far (sym c.in_err-word.ensures)))

pub loop-i-preserved : goal.loop-i-preserved
loop-i-preserved c =
    let inv = c.loop-i.invariant in
    let form = c.args.form in
    let within = slots_in-within form (c.loop-i.i + 1) c.args.fields (omega arith) in
    let one = c.in-Ok.ensures in
    record {
      words = inv.words ++ c.in_ok-word.word ∷ [];
      items = one.added ∙ ap (λ (t : List ℕ). t ++ spread form (c.in_ok-word.word ∷ [])) inv.items
          ∙ append_assoc c.reserve.new.self.items (spread form inv.words) (spread form (c.in_ok-word.word ∷ []))
          ∙ ap (λ t. c.reserve.new.self.items ++ t) (sym (spread-more form inv.words c.in_ok-word.word));
      so_far = field-more (word_of form c.args.number) (fields_of c.args.row.now) c.loop-i.i c.in-Some.text.now inv.words _
          (omega arith) (sym c.in-Some.ensures.value) inv.so_far (sym c.in_ok-word.ensures);
      room = omega (arith, within, slots_in-more form c.loop-i.i, one.longer, one.kept, inv.room);
    }

pub returns-clause-added : goal.returns-clause-added
returns-clause-added c =
    let inv = c.loop-i.invariant in
    let all : take c.loop-i.i (fields_of c.args.row.now) ≡ fields_of c.args.row.now = take_all c.loop-i.i (fields_of c.args.row.now) (omega arith) in
    let items : c.reserve.new.self.items ≡ c.args.numbers.now.items = c.reserve.ensures.items in
    record {
      added = spread c.args.form inv.words;
      is_line = line_of-words c.args.form c.args.fields c.args.number (fields_of c.args.row.now) inv.words (omega arith)
          (ap (each_from (word_of c.args.form c.args.number) 1) (sym all) ∙ inv.so_far);
      at_end = inv.items ∙ ap (λ t. t ++ spread c.args.form inv.words) items;
    }
