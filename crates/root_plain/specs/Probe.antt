-- How a walk along a root pair's path goes.
use Rattle.std.specs.Prelude.{◌≡◌, ◌≢◌, ℕ, ◌*◌, ◌<◌, List, []}
use Rattle.tree_shape.specs.Tree.{Has}
use Rattle.probe_path.specs.Path.{Course}
use Rattle.pair_rule.specs.declared.view.View.{View}
use Rattle.pair_rule.specs.declared.sizes.About.{About}
use Rattle.pair_rule.specs.Plays.{Caught}
use Rattle.pair_rule.specs.Paths.{Buckets, root_buckets, bucket, reach, Passed, Listed}
use Rattle.root_plain.specs.declared.root.Roots.{Roots}
use Rattle.root_plain.specs.Plain.{plain}

-- the bucket has another pair
abbrev pub HasOther : ℕ → ℕ → View Roots → Type 0
HasOther at pair w = (other : ℕ) × Has (at, other) w.root.roots × (other ≢ pair)

-- the bucket is the next one of the pair's path: in all buckets before it other pairs are known
abbrev pub IsNextBucket : Buckets → List (ℕ × ℕ) → ℕ → ℕ → Type 0
IsNextBucket b roots pair at = (step : ℕ) × (step < reach b) × (bucket b pair step ≡ at)
    × Passed b (Listed roots) pair step

-- w is v after it caught up and found other pairs in the first `count` buckets of the pair's path
pub record Passes (about : About) (pair count : ℕ) (v w : View Roots) : Type 0 where
  pub caught : Caught plain [] v w
  pub passed : Passed (root_buckets about) (Listed w.root.roots) pair count

-- the course is that of the pair's path in the root table
pub record Along (about : About) (pair : ℕ) (course : Course) : Type 0 where
  pub pair_is : course.pair ≡ pair
  pub table_is : course.d ≡ about.sizes.roots
  pub all : 8 * course.lines ≡ reach (root_buckets about)
