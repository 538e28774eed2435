-- A worker takes one line after another.
use Rattle.std.proofs.Common.{◌≡◌, ℕ, List, [], ◌∷◌, ◌++◌, length, map, Some, refl, sym, ◌∙◌, subst, append-nil}
use Rattle.std.specs.Prelude.{All, slice_get}
use Rattle.std.proofs.lemmas.List.{length-map, map-append}
use Rattle.std.proofs.lemmas.List.Elements.{All-nil, All-push}
use Rattle.tdb_base.specs.History.{Vector, History}
use Rattle.tdb_base.specs.Lines.{picked}
use Rattle.tdb_base.specs.declared.reply.Reply.{Reply}
use Rattle.tdb_base.proofs.PickLemmas.{picked_push}
use Rattle.pair_rule.specs.declared.pass.PassOf.{PassOf}
use Rattle.pair_rule.specs.Part.{Store, Part}
use Rattle.pair_rule.specs.Rest.{AtRest}
use Rattle.pair_nodes.specs.Roots.{Refusals}
use Rattle.work_run.specs.declared.worker.Worker.{Worker}
use Rattle.work_run.specs.Giving.{Giving, AddsUp}
use Rattle.work_run.specs.Inserted.{Inserted}
use Rattle.work_run.specs.Telling.{Telling, told_entries}
use Rattle.work_run.specs.Work.{HasTakenLines}
use Rattle.work_run.proofs.Answered.{none_inserted, more_inserted}
use Rattle.work_run.proofs.Telling.{told_more}

module _ {T S A : Type 0} (part : Part T) (refusals : Refusals part) (store : Store) (giving : Giving S) (adds : AddsUp giving) (telling : Telling A) (trace : List Vector) where
  -- none yet
  pub taken_none : (w : Worker T S A) → AtRest part store w.pass → w.answers.items ≡ [] → HasTakenLines part store giving telling trace [] w w
  taken_none w rests empty = record {
    number = refl;
    given = adds.none w.lines;
    inserted = subst (λ (xs : List A). Inserted part store [] (map telling.reply xs) (λ c. told_entries telling c [] xs) w.pass w.pass) (sym empty)
        (none_inserted part refusals store w.pass rests);
    proper = subst (λ (xs : List A). All telling.proper xs) (sym empty) (All-nil telling.proper);
  }

  -- one line more
  pub taken_more : (first old new : Worker T S A) (lines : List ℕ) (i : ℕ) (v : Vector) (a : A)
      → HasTakenLines part store giving telling trace lines first old
      → slice_get trace i ≡ Some v → giving.gives old.lines (i ∷ []) new.lines
      → Inserted part store (v ∷ []) (telling.reply a ∷ []) (λ c. telling.entries c v a) old.pass new.pass
      → telling.proper a
      → new.answers.items ≡ old.answers.items ++ a ∷ [] → new.number ≡ old.number
      → HasTakenLines part store giving telling trace (lines ++ i ∷ []) first new
  taken_more first old new lines i v a t at given one own pushed same =
      let answers = old.answers.items in
      let vectors = picked trace lines in
      let each : length answers ≡ length vectors = sym (length-map answers telling.reply) ∙ t.inserted.one_each in
      let more = more_inserted part refusals store first.pass old.pass new.pass vectors (map telling.reply answers) (λ c. told_entries telling c vectors answers) (λ c. telling.entries c v a) v (telling.reply a) t.inserted one in
      let told : (λ (c : ℕ). told_entries telling c (vectors ++ v ∷ []) (answers ++ a ∷ [])) ≡ (λ (c : ℕ). told_entries telling c vectors answers ++ telling.entries c v a) =
      (λ k c. told_more telling c vectors answers v a each k) in
      let replied = map-append telling.reply answers (a ∷ []) in
      let as_told = subst (λ (es : ℕ → History). Inserted part store (vectors ++ v ∷ []) (map telling.reply answers ++ telling.reply a ∷ []) es first.pass new.pass) (sym told) more in
      let as_replied = subst (λ (rs : List Reply). Inserted part store (vectors ++ v ∷ []) rs (λ c. told_entries telling c (vectors ++ v ∷ []) (answers ++ a ∷ [])) first.pass new.pass) (sym replied) as_told in
      let as_picked = subst (λ (vs : List Vector). Inserted part store vs (map telling.reply (answers ++ a ∷ [])) (λ c. told_entries telling c vs (answers ++ a ∷ [])) first.pass new.pass) (sym (picked_push trace lines i v at)) as_replied in
      record {
        number = same ∙ t.number;
        given = adds.more first.lines old.lines new.lines lines (i ∷ []) t.given given;
        inserted = subst (λ (xs : List A). Inserted part store (picked trace (lines ++ i ∷ [])) (map telling.reply xs) (λ c. told_entries telling c (picked trace (lines ++ i ∷ [])) xs) first.pass new.pass) (sym pushed) as_picked;
        proper = subst (λ (xs : List A). All telling.proper xs) (sym pushed) (All-push telling.proper answers a t.proper own);
      }

  -- no line more
  pub taken_all : (first old new : Worker T S A) (lines : List ℕ) → HasTakenLines part store giving telling trace lines first old
      → giving.gives old.lines [] new.lines → new.number ≡ old.number → new.pass ≡ old.pass → new.answers.items ≡ old.answers.items
      → HasTakenLines part store giving telling trace lines first new
  taken_all first old new lines t given number pass answers = record {
    number = number ∙ t.number;
    given = subst (λ (ls : List ℕ). giving.gives first.lines ls new.lines) (append-nil lines) (adds.more first.lines old.lines new.lines lines [] t.given given);
    inserted = subst (λ (q : PassOf T). Inserted part store (picked trace lines) (map telling.reply new.answers.items) (λ c. told_entries telling c (picked trace lines) new.answers.items) first.pass q) (sym pass)
        (subst (λ (xs : List A). Inserted part store (picked trace lines) (map telling.reply xs) (λ c. told_entries telling c (picked trace lines) xs) first.pass old.pass) (sym answers) t.inserted);
    proper = subst (λ (xs : List A). All telling.proper xs) (sym answers) t.proper;
  }
