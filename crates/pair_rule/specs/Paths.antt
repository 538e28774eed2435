-- Pairs in a table of buckets, each on the path of its pair.
use Rattle.std.specs.Prelude.{◌≡◌, ◌≢◌, ℕ, ◌*◌, ◌^◌, ◌<◌, List}
use Rattle.tree_shape.specs.Tree.{Has}
use Rattle.probe_path.specs.Path.{bucket_at, path_length}
use Rattle.pair_rule.specs.declared.sizes.About.{About}

-- a table of 2 ^ d buckets: how many bits a part of a pair has, and how many lines of it a path walks at most
pub record Buckets : Type 0 where
  pub width : ℕ
  pub d : ℕ
  pub probe : ℕ

abbrev pub node_buckets : About → Buckets
node_buckets about = record { width = about.width; d = about.sizes.nodes; probe = about.sizes.probe }

abbrev pub root_buckets : About → Buckets
root_buckets about = record { width = about.width; d = about.sizes.roots; probe = about.sizes.probe }

-- how many buckets there are
unfoldable pub size : Buckets → ℕ
size b = 2 ^ b.d

-- the bucket of a step of a pair's path, and how many steps the path has
unfoldable pub bucket : Buckets → ℕ → ℕ → ℕ
bucket b pair step = bucket_at b.width b.d pair step

unfoldable pub reach : Buckets → ℕ
reach b = path_length b.d b.probe

-- a number that is a packed pair
abbrev pub IsPair : Buckets → ℕ → Type 0
IsPair b pair = pair < 2 ^ (2 * b.width)

-- Which pair a bucket has, as a relation of the bucket's number and the pair.

-- the first `count` buckets of the pair's path have other pairs
abbrev pub Passed : Buckets → (ℕ → ℕ → Type 0) → ℕ → ℕ → Type 0
Passed b In pair count = (step : ℕ) → step < count
    → (other : ℕ) × In (bucket b pair step) other × (other ≢ pair)

-- the bucket i is on the pair's path, and all earlier buckets of the path have other pairs
pub record OnPath (b : Buckets) (In : ℕ → ℕ → Type 0) (i pair : ℕ) : Type 0 where
  pub step : ℕ
  pub within : step < reach b
  pub here : bucket b pair step ≡ i
  pub passed : Passed b In pair step

-- what a list of both says
abbrev pub Listed : List (ℕ × ℕ) → ℕ → ℕ → Type 0
Listed known i pair = Has (i, pair) known

-- each bucket of the pair's whole path has another pair, so there is no place for this one
abbrev pub Blocked : Buckets → List (ℕ × ℕ) → ℕ → Type 0
Blocked b known pair = Passed b (Listed known) pair (reach b)
