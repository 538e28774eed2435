-- A run of workers who draw their blocks.
use Rattle.std.proofs.Common.{◌≡◌, ◌<◌, ℕ, List, [], length, get_or, map, sym, ap, ◌∙◌, subst, arith}
use Rattle.std.specs.Prelude.{All}
use Rattle.std.specs.Prelude.{slice_index}
use Rattle.std.proofs.lemmas.List.{get_or-map, length-map}
use Rattle.std.proofs.lemmas.List.Elements.{All-get_or}
use Rattle.tdb_base.specs.History.{Vector}
use Rattle.tdb_base.specs.Lines.{picked}
use Rattle.tdb_base.proofs.PickLemmas.{picked_length}
use Rattle.tdb_base.specs.declared.reply.Reply.{Reply}
use Rattle.pair_rule.specs.declared.sizes.About.{About}
use Rattle.pair_rule.specs.declared.pass.PassOf.{PassOf}
use Rattle.pair_rule.specs.Part.{Store, Part}
use Rattle.pair_rule.specs.Rest.{AtRest}
use Rattle.pair_nodes.specs.Roots.{Refusals}
use Rattle.block_claims.specs.Drawers.{Pool}
use Rattle.work_run.specs.declared.worker.Worker.{Worker}
use Rattle.work_run.specs.BlockLines.{LinesDrawn, IsFreshLines, blocks_of, drawn_blocks, lines_of_blocks}
use Rattle.work_run.specs.Drew.{AnswerTheirLines, ArePlaced, HasDrawnFrom, HasRunDrawn, HasRunDrawnTask}
use Rattle.tdb_base.specs.Lines.{owned}
use Rattle.work_run.specs.Ran.{HasRunTold}
use Rattle.work_run.specs.Telling.{Telling, insertion}
use Rattle.work_run.specs.Work.{CanWork, HasTakenLines, HasWorked}
use Rattle.pair_rule.specs.Callers.{AreJoined}
use Rattle.work_run.specs.Workers.{AreSplitWorkers}
use Rattle.work_run.proofs.BlockLines.{blocks_below}
use Rattle.work_run.proofs.DrawingLines.{gave_all}
use Rattle.work_run.proofs.Running.{can_work, runs}
use Rattle.work_run.proofs.Telling.{insertion_run}

module _ {T A : Type 0} (part : Part T) (store : Store) (telling : Telling A) (trace : List Vector) (n workers block : ℕ) (some : 0 < block) (same : n ≡ length trace) (pool : Pool) (base now : PassOf T) (all_workers after : List (Worker T LinesDrawn A))
    (split : AreSplitWorkers part store drawn_blocks.left (λ j lines. IsFreshLines pool n block lines) base now all_workers) where
  -- they can begin
  pub drawn_can_work : All (CanWork part store drawn_blocks (length trace)) all_workers
  drawn_can_work = can_work part store drawn_blocks (λ j lines. IsFreshLines pool n block lines) base now all_workers (length trace) split
      (λ j s h. (let e = h.lines_are in omega (arith, e, same)))

  module _ (worked : (j : ℕ) (d : Worker T LinesDrawn A) → j < length all_workers → HasWorked part store drawn_blocks telling trace (get_or all_workers j d) (get_or after j d)) (all_after : length after ≡ length all_workers) where
    -- their passes are between two calls
    pub drawn_rest : All (λ w. AtRest part store w.pass) after
    drawn_rest = λ j d lt. (worked j d (omega (arith, lt, all_after))).taken.inserted.rest

    -- each has drawn all that it could
    pub drawn_from : All (λ w. HasDrawnFrom pool n block w.lines) after
    drawn_from = λ j d lt.
        (let here : j < length all_workers = omega (arith, lt, all_after) in
        let w = worked j d here in
        let fresh = (split.each j d here).begins_so in
        record {
          over = w.over;
          pool_is = w.taken.given.pool_is ∙ fresh.pool_is;
          lines_are = w.taken.given.lines_are ∙ fresh.lines_are;
          block_is = w.taken.given.block_is ∙ fresh.block_is;
        })

    -- the lines that it took are those of its blocks
    gave : (j : ℕ) (d : Worker T LinesDrawn A) (lt : j < length all_workers) → (worked j d lt).lines ≡ lines_of_blocks n block (blocks_of (get_or after j d).lines)
    gave j d lt = let w = worked j d lt in gave_all pool n block (get_or all_workers j d).lines (get_or after j d).lines w.lines (split.each j d lt).begins_so w.taken.given w.over

    -- and each has an answer for each of them
    pub drawn_answered : AnswerTheirLines n block after
    drawn_answered = λ j d lt.
        (let here : j < length all_workers = omega (arith, lt, all_after) in
        let w = worked j d here in
        let is = gave j d here in
        let below : All (λ i. i < length trace) w.lines =
        subst (λ (m : ℕ). All (λ i. i < m) w.lines) same (subst (λ (xs : List ℕ). All (λ i. i < n) xs) (sym is) (blocks_below n block some (blocks_of (get_or after j d).lines))) in
        sym (length-map (get_or after j d).answers.items telling.reply) ∙ (w.taken.inserted.one_each ∙ (picked_length trace w.lines below ∙ ap (λ (xs : List ℕ). length xs) is)))

    -- all of them together ran
    pub drawn_run : Refusals part → (new : PassOf T) (answers : List A) (drawn : List ℕ) → length all_workers ≡ workers → ArePlaced n workers block after answers drawn
        → AreJoined part store now new (map (λ (w : Worker T LinesDrawn A). w.pass) after)
        → HasRunTold (owned (length trace) (slice_index drawn)) telling part store.about trace answers workers base new
    drawn_run refusals new answers drawn all_split are joint =
        let owner : ℕ → ℕ = slice_index drawn in
        let among : (i : ℕ) → i < length trace → owner i < workers = λ i lt. All-get_or (λ (j : ℕ). j < workers) drawn i 0 (let long = are.drew.one_each in omega (arith, lt, long, same)) are.drew.among in
        let took : (j : ℕ) (d : Worker T LinesDrawn A) → j < length all_workers → HasTakenLines part store drawn_blocks telling trace (owned (length trace) owner j) (get_or all_workers j d) (get_or after j d) =
        λ j d lt. (let here : j < length after = omega (arith, lt, all_after) in
        let its = get_or-map (λ (x : Worker T LinesDrawn A). blocks_of x.lines) after j d [] here in
        let inside : j < length (map (λ (x : Worker T LinesDrawn A). blocks_of x.lines) after) = omega (arith, here, length-map after (λ (x : Worker T LinesDrawn A). blocks_of x.lines)) in
        let is : (worked j d lt).lines ≡ owned (length trace) owner j =
        gave j d lt ∙ (ap (lines_of_blocks n block) (sym its) ∙ (are.own j inside ∙ ap (λ (m : ℕ). owned m owner j) same)) in
        subst (λ (lines : List ℕ). HasTakenLines part store drawn_blocks telling trace lines (get_or all_workers j d) (get_or after j d)) is (worked j d lt).taken) in
        let placed : (j : ℕ) (d : Worker T LinesDrawn A) → j < length after → picked answers (owned (length trace) owner j) ≡ (get_or after j d).answers.items =
        λ j d lt. ap (λ (m : ℕ). picked answers (owned m owner j)) (sym same) ∙ are.placed j d lt in
        runs part refusals store drawn_blocks telling (λ j lines. IsFreshLines pool n block lines) base now new trace answers owner workers among
        all_workers after split all_split took all_after (are.one_each ∙ same) placed joint

-- a run of insertions, by its replies
pub drawn_insertion_run : {T : Type 0} (part : Part T) (about : About) (trace : List Vector) (replies : List Reply) (drawn : List ℕ) (workers block : ℕ) (base new : PassOf T)
    → HasRunDrawnTask insertion part about trace replies drawn workers block base new → HasRunDrawn part about trace replies drawn workers block base new
drawn_insertion_run part about trace replies drawn workers block base new run = record {
  drew = run.drew;
  ran = insertion_run part about trace replies (owned (length trace) (slice_index drawn)) workers base new run.ran;
}
