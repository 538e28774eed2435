-- What a call on nodes leaves of a pass's view.
use Rattle.std.specs.Prelude.{◌≡◌, ℕ, ◌+◌, ◌-◌, ◌⊎◌, ◌∷◌, true}
use Rattle.tree_shape.specs.Tree.{Has}
use Rattle.probe_path.specs.Path.{Course, walked_lines}
use Rattle.pair_rule.specs.declared.view.View.{View}
use Rattle.pair_rule.specs.declared.pass.PassOf.{PassOf}
use Rattle.pair_rule.specs.declared.sizes.About.{About}
use Rattle.pair_rule.specs.View.{Grown, node_word}
use Rattle.pair_rule.specs.Paths.{node_buckets, IsPair, Passed, Listed}

-- the pair of a node's word
abbrev pub pair_of_word : ℕ → ℕ
pair_of_word word = word - 9223372036854775808

-- the word is that of a node
pub record IsNodeWord (about : About) (word : ℕ) : Type 0 where
  pub whole : word ≡ node_word (pair_of_word word)
  pub is_pair : IsPair (node_buckets about) (pair_of_word word)

-- the course of a walk along a node's path
abbrev pub course_of : About → ℕ → Course
course_of about word =
    record {
      pair = pair_of_word word;
      d = about.sizes.nodes;
      lines =
          walked_lines about.sizes.nodes about.sizes.probe;
    }

module _ {T : Type 0} where
  -- the first `count` buckets of the pair's path are known to have other pairs
  abbrev pub HasPassed : View T → ℕ → ℕ → Type 0
  HasPassed v pair count = Passed (node_buckets v.about) (Listed v.known) pair count

  -- the new view knows more nodes, began so many probes, and put no pair
  pub record Probed (probes : ℕ) (old new : View T) : Type 0 where
    pub grown : Grown old new
    pub made : new.made ≡ old.made
    pub probes_are : new.probes ≡ old.probes + probes

  -- the same, but the pair at the index may be one that it put there, where it knew none
  pub record PutAt (index probes : ℕ) (old new : View T) : Type 0 where
    pub grown : Grown old new
    pub made : (new.made ≡ old.made) ⊎
        ((new.made ≡ index ∷ old.made) × ((pair : ℕ) → Has (index, pair) old.known → ⊥))
    pub probes_are : new.probes ≡ old.probes + probes

  -- so many probes began; the last one has met `count` buckets, all with other pairs
  pub record Underway (pair count probes : ℕ) (old new : View T) : Type 0 where
    pub probed : Probed probes old new
    pub probing : new.probing ≡ true
    pub passed : HasPassed new pair count

  -- so many probes began; the last one has found its pair, or put it, at the index
  pub record Ended (pair index probes : ℕ) (old new : View T) : Type 0 where
    pub put_at : PutAt index probes old new
    pub there : Has (index, pair) new.known

  -- the pass's tree, its buffers and its names are as they were
  abbrev pub KeepsTree : PassOf T → PassOf T → Type 0
  KeepsTree old new = new ≡ record old { seat = new.seat; nodes_count = new.nodes_count }
