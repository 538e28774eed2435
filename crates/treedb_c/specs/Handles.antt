-- Calls on handles: what they stand for, before and after.
use Rattle.std.specs.Prelude.{◌≡◌, ◌⊎◌, ℕ, Option, Some, None, Result, Ok, Err, Bool, true, false, ⊤}
use Rattle.tdb_base.specs.declared.reply.Reply.{Reply}
use Rattle.tdb_base.specs.declared.reply.Reply.TheVariants as r
use Rattle.pair_rule.specs.declared.sizes.Sizes.{Sizes}
use Rattle.treedb_c.specs.Holding.{Holding}
use Rattle.treedb_c.specs.Calls.{IsCreated, IsNotCreated, IsSplitOff}
use Rattle.treedb_c.specs.Inner.{holding}
use Rattle.treedb_c.specs.declared.inner.Inner.{Inner}
use Rattle.treedb_c.specs.declared.code.Code.{Code}
use Rattle.treedb_c.specs.declared.code.Code.TheVariants as c

-- the handle stood for something, and now stands for something that is so
abbrev pub WhereLive : Option Inner → Option Inner → (Holding → Holding → Type 0) → Type 0
WhereLive None new Holds = ⊤
WhereLive (Some x) new Holds = (y : Inner) × (new ≡ Some y) × Holds (holding x) (holding y)

-- what an insertion is answered, and which identifier is written
abbrev pub code_of : Option Reply → Code
code_of (Some (r.New id)) = c.New
code_of (Some (r.Seen id)) = c.Seen
code_of (Some r.FullNodes) = c.FullNodes
code_of (Some r.FullRoots) = c.FullRoots
code_of None = c.BadVector

abbrev pub id_after : Option Reply → ℕ → ℕ
id_after (Some (r.New id)) old = id
id_after (Some (r.Seen id)) old = id
id_after (Some r.FullNodes) old = old
id_after (Some r.FullRoots) old = old
id_after None old = old

-- what a search for an identifier is answered
abbrev pub found_code : Option Bool → Code
found_code (Some true) = c.Seen
found_code (Some false) = c.NoName
found_code None = c.BadVector

-- what setting or clearing a flag is answered
abbrev pub flag_code : Code → Code → Result Bool Code → Code
flag_code first again (Ok true) = first
flag_code first again (Ok false) = again
flag_code first again (Err code) = code

-- what reading the flags is answered, and what is written
abbrev pub flags_code : Option ℕ → Code
flags_code (Some flags) = c.Done
flags_code None = c.NoName

abbrev pub flags_after : Option ℕ → ℕ → ℕ
flags_after (Some flags) old = flags
flags_after None old = old

-- what a creation leaves in a handle that stood for nothing
abbrev pub IsMade : ℕ → ℕ → Sizes → Option Inner → Code → Type 0
IsMade profile slots sizes (Some x) code = (code ≡ c.Done) × IsCreated profile slots sizes (holding x)
IsMade profile slots sizes None code = IsNotCreated profile slots sizes code

-- the pass is as it was, or gave a number that nobody has
abbrev pub KeepsAllButNumber : Holding → Holding → Type 0
KeepsAllButNumber old new = (new ≡ old) ⊎ ((lost : Holding) × IsSplitOff old new lost)

-- what a split leaves in the two handles
abbrev pub IsDivided : Option Inner → Code → Holding → Holding → Type 0
IsDivided (Some child) code old new = (code ≡ c.Done) × IsSplitOff old new (holding child)
IsDivided None code old new = (code ≡ c.NoMemory) × KeepsAllButNumber old new
