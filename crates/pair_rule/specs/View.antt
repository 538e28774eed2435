-- How views change as passes are made, split and joined, and as nodes are met.
use Rattle.std.specs.Prelude.{◌≡◌, ◌==◌, ℕ, suc, ◌+◌, ◌-◌, List, [], ◌∷◌, ◌++◌, true, false, if◌then◌else◌}
use Rattle.std.specs.Prelude.{nat_lt, length}
use Rattle.tree_shape.specs.Tree.{IsPart}
use Rattle.tdb_base.specs.History.{History}
use Rattle.pair_rule.specs.declared.view.View.{View}
use Rattle.pair_rule.specs.declared.view.Old.{Old}
use Rattle.pair_rule.specs.declared.sizes.About.{About}
use Rattle.pair_rule.specs.Numbers.{child, Face}

-- the longer of two histories
abbrev pub longer : History → History → History
longer g h = if nat_lt (length h) (length g) then g else h

-- the present word of a pair, given as one number, with no flag set
abbrev pub node_word : ℕ → ℕ
node_word pair = 9223372036854775808 + pair

-- the nodes known, after the word was found in the bucket i
abbrev pub gained : ℕ → ℕ → List (ℕ × ℕ) → List (ℕ × ℕ)
gained i word known = if word == 0 then known else (i, word - 9223372036854775808) ∷ known

module _ {T : Type 0} where
  abbrev pub face : View T → Face
  face v = record { live = v.live; number = v.number; splits = v.splits; numbers = v.numbers; born = v.born }

  abbrev pub made_of : View T → List ℕ
  made_of v = v.made

  -- w is v with more nodes known, and other counters
  pub record Grown (v w : View T) : Type 0 where
    pub about : w.about ≡ v.about
    pub face_is : face w ≡ face v
    pub busy : w.busy ≡ v.busy
    pub seen : w.seen ≡ v.seen
    pub known : IsPart v.known w.known
    pub root : w.root ≡ v.root

  -- the view of a new table's first pass
  abbrev pub newcomer : T → About → View T
  newcomer t about = record {
    live = true;
    busy = false;
    probing = false;
    about = about;
    number = 0;
    splits = 0;
    numbers = 0 ∷ [];
    born = [];
    seen = [];
    known = [];
    made = [];
    probes = 0;
    olds = [];
    root = t;
  }

  -- what is left of a view when a pass was split from it, and the new pass's view
  abbrev pub parent_view : View T → View T
  parent_view v = record v { splits = suc v.splits; born = child v.number v.splits ∷ v.born }

  abbrev pub child_view : (T → T) → View T → View T
  child_view split v = record {
    live = true;
    busy = false;
    probing = false;
    about = v.about;
    number = child v.number v.splits;
    splits = 0;
    numbers = child v.number v.splits ∷ [];
    born = [];
    seen = v.seen;
    known = v.known;
    made = [];
    probes = 0;
    olds = [];
    root = split v.root;
  }

  abbrev pub old_of : View T → Old
  old_of v = record { seen = v.seen; numbers = v.numbers }

  -- two views as one, before the load that follows, and after it
  abbrev pub joining_view : (T → T → T) → View T → View T → View T
  joining_view join v w = record v {
    numbers = v.numbers ++ w.numbers;
    born = v.born ++ w.born;
    seen = longer v.seen w.seen;
    known = v.known ++ w.known;
    made = v.made ++ w.made;
    probes = v.probes + w.probes;
    olds = old_of v ∷ old_of w ∷ [];
    root = join v.root w.root;
  }

  abbrev pub joined_view : (T → T → T) → View T → View T → View T
  joined_view join v w = record (joining_view join v w) { olds = [] }

  -- what stands in the place of a view that was joined into another
  abbrev pub nobody : T → View T
  nobody t = record {
    live = false;
    busy = false;
    probing = false;
    about = record {
      sizes = record { nodes = 0; roots = 0; region = 0; probe = 0 };
      slots = 0;
      root_words =
          0;
      width = 0;
      flags = 0;
    };
    number = 0;
    splits = 0;
    numbers = [];
    born = [];
    seen = [];
    known = [];
    made = [];
    probes = 0;
    olds = [];
    root = t;
  }

  -- the word was found in the bucket i
  abbrev pub learned : ℕ → ℕ → View T → View T
  learned i word v = record v { known = gained i word v.known }

  -- the same, as the first of a probe
  abbrev pub begun : ℕ → ℕ → View T → View T
  begun i word v = record v { known = gained i word v.known; probing = true; probes = suc v.probes }

  -- the pair was put into the bucket i, and so the probe ended
  abbrev pub published : ℕ → ℕ → View T → View T
  published i pair v = record v { known = (i, pair) ∷ v.known; made = i ∷ v.made; probing = false }
