-- What insertions leave of the pass that makes them.
use Rattle.std.specs.Prelude.{◌≡◌, ◌+◌, ◌≤◌, ◌⊎◌, ℕ, true, List, [], ◌∷◌, ◌++◌, Option, Some, length}
use Rattle.std.specs.Prelude.{slice_get, if◌then◌else◌}
use Rattle.tree_shape.specs.Tree.{Has, IsPart}
use Rattle.tdb_base.specs.History.{Vector, History, calls}
use Rattle.tdb_base.specs.Legal.{Extends}
use Rattle.tdb_base.specs.Replies.{is_full}
use Rattle.tdb_base.specs.declared.reply.Reply.{Reply}
use Rattle.pair_rule.specs.declared.sizes.About.{About}
use Rattle.pair_rule.specs.declared.pass.PassOf.{PassOf}
use Rattle.pair_rule.specs.View.{face}
use Rattle.pair_rule.specs.Part.{Store, Part, root_pairs}
use Rattle.pair_rule.specs.Rest.{AtRest, view, last_vector}
use Rattle.tree_store.specs.Store.{NeverNamed}
use Rattle.tree_store.specs.Vectors.{puts_after}
use Rattle.work_run.specs.Full.{Barred, IsOfOne, full_inside}

-- the vector of the last tree after a vector was answered
abbrev pub last_after : Option Vector → Vector → Reply → Option Vector
last_after last v reply = if is_full reply then last else Some v

-- the vector of the last tree after some vectors were answered: the last of them that was not full
abbrev pub last_of : Option Vector → List Vector → List Reply → Option Vector
last_of last [] replies = last
last_of last (v ∷ vectors) [] = last
last_of last (v ∷ vectors) (reply ∷ replies) = last_of (last_after last v reply) vectors replies

-- how many nodes have to be put for some vectors: for each, those that differ from the last vector before it
-- that was not full, or all
abbrev pub puts_of : About → Option Vector → List Vector → List Reply → ℕ
puts_of about last [] replies = 0
puts_of about last (v ∷ vectors) [] = 0
puts_of about last (v ∷ vectors) (reply ∷ replies) =
    puts_after about last v + puts_of about (last_after last v reply) vectors replies

-- the pass inserted these vectors, one after the other, and was answered so; its calls are these
pub record Inserted {T : Type 0} (part : Part T) (store : Store) (vectors : List Vector)
    (replies : List Reply) (entries : ℕ → History) (old new : PassOf T) : Type 0 where
  pub one_each : length replies ≡ length vectors
  pub rest : AtRest part store new
  pub face_is : face (view new) ≡ face (view old)
  pub seen : Extends (view old).seen (view new).seen
  pub known : IsPart (view old).known (view new).known
  pub roots : IsPart (root_pairs part (view old)) (root_pairs part (view new))
  pub own : calls (view new).seen (view old).number
      ≡ calls (view old).seen (view old).number ++ entries (view old).number
  pub never : (i : ℕ) (v : Vector) (reply : Reply) → slice_get vectors i ≡ Some v
      → slice_get replies i ≡ Some reply → is_full reply ≡ true → NeverNamed part store new v
  pub barred : (i : ℕ) (v : Vector) (reply : Reply) → slice_get vectors i ≡ Some v
      → slice_get replies i ≡ Some reply
      → Barred part store.about (view new).known (root_pairs part (view new)) v reply
  pub made : (index : ℕ) → Has index (view new).made
      → Has index (view old).made ⊎ IsOfOne store.about (view new).known vectors index
  pub last : last_vector new ≡ last_of (last_vector old) vectors replies
  pub probes : (view new).probes ≤ (view old).probes + puts_of store.about (last_vector old) vectors replies
  -- each probe put one node at most, and one for each line that was full inside put none
  pub few_made : length (view new).made + full_inside replies + (view old).probes
      ≤ length (view old).made + (view new).probes
