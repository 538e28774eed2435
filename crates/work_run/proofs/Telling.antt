-- What the answers to lines tell of, line after line.
use Rattle.std.proofs.Common.{◌≡◌, ◌<◌, ℕ, List, [], ◌∷◌, ◌++◌, length, map, Option, Some, None, refl, sym, ap, ◌∙◌, subst, arith, append-nil, append_assoc}
use Rattle.std.specs.Prelude.{All, flat_map, option_to_list, slice_get}
use Rattle.std.proofs.lemmas.List.{map-id}
use Rattle.std.proofs.lemmas.List.Elements.{All-head, All-tail}
use Rattle.tdb_base.specs.Agrees.{entry_of_both, entries_of_insertion}
use Rattle.tdb_base.specs.History.{Vector, History}
use Rattle.tdb_base.specs.Lines.{picked}
use Rattle.tdb_base.specs.declared.reply.Reply.{Reply}
use Rattle.tdb_base.proofs.ListLemmas.{at-within}
use Rattle.pair_rule.specs.declared.pass.PassOf.{PassOf}
use Rattle.pair_rule.specs.declared.sizes.About.{About}
use Rattle.pair_rule.specs.Part.{Part}
use Rattle.work_run.specs.Ran.{HasRunOver, HasRunTold}
use Rattle.work_run.specs.Telling.{Telling, told_entries, entries_of_both, entries_at, insertion}

module _ {A : Type 0} (telling : Telling A) (c : ℕ) where
  -- one line more
  pub told_more : (vectors : List Vector) (answers : List A) (v : Vector) (a : A) → length answers ≡ length vectors
      → told_entries telling c (vectors ++ v ∷ []) (answers ++ a ∷ []) ≡ told_entries telling c vectors answers ++ telling.entries c v a
  told_more [] [] v a same = append-nil (telling.entries c v a)
  told_more [] (b ∷ answers) v a same = absurd (omega arith)
  told_more (w ∷ vectors) [] v a same = absurd (omega arith)
  told_more (w ∷ vectors) (b ∷ answers) v a same =
      ap (λ (h : History). telling.entries c w b ++ h) (told_more vectors answers v a (omega arith))
      ∙ sym (append_assoc (telling.entries c w b) (told_entries telling c vectors answers) (telling.entries c v a))

  -- line by line, what is told of the lines at some places
  pub told_picked : (trace : List Vector) (answers : List A) (places : List ℕ) → length answers ≡ length trace → All (λ k. k < length trace) places
      → flat_map (entries_at telling trace answers c) places ≡ told_entries telling c (picked trace places) (picked answers places)
  told_picked trace answers [] same within = refl
  told_picked trace answers (k ∷ places) same within =
      let lt = All-head (λ (k : ℕ). k < length trace) k places within in
      let line = at-within trace k lt in
      let answer = at-within answers k (omega arith) in
      let rest = told_picked trace answers places same (All-tail (λ (k : ℕ). k < length trace) k places within) in
      rw (line.1, answer.1) (ap (λ (h : History). telling.entries c line.0 answer.0 ++ h) rest)

-- of an insertion this is the entry that the reply tells of, if it tells of one
pub insertion_of_both : (c : ℕ) (v : Option Vector) (reply : Option Reply) → entries_of_both insertion c v reply ≡ option_to_list (entry_of_both c v reply)
insertion_of_both c None reply = refl
insertion_of_both c (Some v) None = refl
insertion_of_both c (Some v) (Some reply) = refl

-- a run of insertions, by its replies
pub insertion_run : {T : Type 0} (part : Part T) (about : About) (trace : List Vector) (replies : List Reply) (lines_of : ℕ → List ℕ) (workers : ℕ) (base new : PassOf T)
    → HasRunTold lines_of insertion part about trace replies workers base new
    → HasRunOver lines_of (entries_of_insertion trace replies) part about trace replies workers base new
insertion_run part about trace replies lines_of workers base new run =
    subst (λ (rs : List Reply). HasRunOver lines_of (entries_of_insertion trace replies) part about trace rs workers base new) (map-id replies)
    (subst (λ (es : ℕ → ℕ → History). HasRunOver lines_of es part about trace (map insertion.reply replies) workers base new)
    (λ i c k. insertion_of_both c (slice_get trace k) (slice_get replies k) i) run.ran)
