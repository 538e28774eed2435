use Rattle.std.specs.Prelude.{◌≡◌, ◌<◌, ℕ, None, Some, map, slice_get, true}
use Rattle.tdb_base.specs.History as h
use Rattle.tdb_base.specs.Replies as answers
use Rattle.tdb_base.specs.declared.reply.Reply.{Reply}
use Rattle.tdb_base.proofs.plain.agrees.full_unnamed.Given as goal

abbrev pub invariant-loop-i : goal.invariant-loop-i
invariant-loop-i l = (k : ℕ) (v : h.Vector) (reply : Reply) → k < l.i → slice_get (map (λ v. v.items) l.trace) k ≡ Some v → slice_get l.replies k ≡ Some reply
    → answers.is_full reply ≡ true → h.name_of l.later v ≡ None
