use Rattle.std.proofs.lemmas.List.{length-replicate}
use Rattle.std.proofs.Common.{length, arith, ap, ◌∙◌, ◌≡◌, ◌+◌, sym, suc, refl, [], subst}
use Rattle.atomic_table.specs.Table.{opening}
use Rattle.pair_rule.proofs.Passes.{opens_words}
use Rattle.pair_rule.proofs.Rests.{rests_first, pass_rests}
use Rattle.pair_rule.specs.Laws.{IsAbout}
use Rattle.pair_rule.specs.Part.{Store}
use Rattle.pair_rule.specs.Paths.{node_buckets, size}
use Rattle.pair_rule.specs.Rest.{names_of_callers}
use Rattle.pair_rule.specs.Rule.{StoreRule}
use Rattle.pair_rule.specs.View.{newcomer}
use Rattle.pair_rule.specs.declared.sizes.About.{About}
use Rattle.pair_rule.specs.declared.view.View.{View}
use Rattle.pair_rule.proofs.table.PairTable.create.Goals as goal

pub of-requires : goal.of-requires
of-requires g c =
    let about : About = record { sizes = c.args.sizes.now; slots = c.args.slots; root_words = c.words-root_words.result; width = g.row.W; flags = g.row.F } in
    (newcomer (g.R.RootPart.first about) about, refl)

pub of_words-requires : goal.of_words-requires
unfolding size
of_words-requires g c =
    let about : About = record { sizes = c.args.sizes.now; slots = c.args.slots; root_words = c.words-root_words.result; width = g.row.W; flags = g.row.F } in
    let is : IsAbout g.R.RootPart.part.sized g.R.RootPart.part.count about = record { range = c.requires; root_words_are = c.words-root_words.ensures.all; root_words_small = c.words-root_words.ensures.small } in
    let count : (1 + c.bucket_count.result) + c.words-root_words.result ≡ suc (size (node_buckets about)) + c.words-root_words.result = omega (arith, c.bucket_count.ensures.same) in
    subst (λ (v : View g.row.R-View.Denot). StoreRule about (g.R.RootPart.part.roots about) (g.R.RootPart.holds about) (opening c.as_slice.result.now [] v)) (sym c.of.ensures)
    (opens_words _ about g.R.RootPart.part.roots (g.R.RootPart.holds about) c.as_slice.result.now (g.R.RootPart.first about) ((1 + c.bucket_count.result) + c.words-root_words.result) []
    (c.as_slice.ensures.value ∙ c.in_ok-words.ensures) count c.requires.least_nodes (g.met.R.RootPart.roots_first about) (λ ws long zero. g.met.R.RootPart.starts about ws refl refl is long zero))

pub invariant_of-result : goal.invariant_of-result
unfolding size
invariant_of-result g c =
    let about : About = record { sizes = c.args.sizes.now; slots = c.args.slots; root_words = c.words-root_words.result; width = g.row.W; flags = g.row.F } in
    let e = c.in_ok-table.ensures in
    let n : c.in_ok-table.table.shared.table_id.words ≡ (1 + c.bucket_count.result) + c.words-root_words.result = e.0 ∙ (ap length (c.as_slice.ensures.value ∙ c.in_ok-words.ensures) ∙ length-replicate _ _) in (
      ap (λ opening. opening.about) e.5,
      record {
        is_about = record { range = c.requires; root_words_are = c.words-root_words.ensures.all; root_words_small = c.words-root_words.ensures.small };
        width_is = refl;
        flags_are = refl;
        words_are = omega (arith, n, c.bucket_count.ensures.same);
      },
    )

pub returns-clause-table : goal.returns-clause-table
unfolding size
returns-clause-table g c =
    let about : About = record { sizes = c.args.sizes.now; slots = c.args.slots; root_words = c.words-root_words.result; width = g.row.W; flags = g.row.F } in
    let e = c.in_ok-table.ensures in
    let n : c.in_ok-table.table.shared.table_id.words ≡ (1 + c.bucket_count.result) + c.words-root_words.result = e.0 ∙ (ap length (c.as_slice.ensures.value ∙ c.in_ok-words.ensures) ∙ length-replicate _ _) in
    record {
      is_about = record { range = c.requires; root_words_are = c.words-root_words.ensures.all; root_words_small = c.words-root_words.ensures.small };
      width_is = refl;
      flags_are = refl;
      words_are = omega (arith, n, c.bucket_count.ensures.same);
    }

pub returns-clause-rest : goal.returns-clause-rest
unfolding size
returns-clause-rest g c =
    let about : About = record { sizes = c.args.sizes.now; slots = c.args.slots; root_words = c.words-root_words.result; width = g.row.W; flags = g.row.F } in
    let is : IsAbout g.R.RootPart.part.sized g.R.RootPart.part.count about = record { range = c.requires; root_words_are = c.words-root_words.ensures.all; root_words_small = c.words-root_words.ensures.small } in
    let count : (1 + c.bucket_count.result) + c.words-root_words.result ≡ suc (size (node_buckets about)) + c.words-root_words.result = omega (arith, c.bucket_count.ensures.same) in
    let kept = opens_words _ about g.R.RootPart.part.roots (g.R.RootPart.holds about) c.as_slice.result.now (g.R.RootPart.first about) ((1 + c.bucket_count.result) + c.words-root_words.result) []
    (c.as_slice.ensures.value ∙ c.in_ok-words.ensures) count c.requires.least_nodes (g.met.R.RootPart.roots_first about) (λ ws long zero. g.met.R.RootPart.starts about ws refl refl is long zero) in
    let e = c.in_ok-table.ensures in
    let b = c.in_ok-buffers.ensures in
    let store : Store = record { table = c.in_ok-table.table.shared.table_id; about = about } in
    let me = e.4 ∙ ap (λ (v : View g.row.R-View.Denot). (v, [])) c.of.ensures in
    let seat = rests_first g.R.RootPart.part store (g.R.RootPart.holds about) (g.met.R.RootPart.sounds about) (g.met.R.RootPart.houses about) is
    (newcomer (g.R.RootPart.first about) about) c.as_slice.result.now c.in_ok-table.seat kept refl refl refl refl e.2 me in
    rw c.with_seat.ensures (pass_rests g.R.RootPart.part store _ seat b.last b.next b.marks refl
    (ap (λ m. length m.0.made) (sym me)) (ap (λ m. names_of_callers m.0.numbers m.0.seen) (sym me)))
