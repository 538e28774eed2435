-- When the replies to a trace's lines form one history: said once, whichever lines each worker has and
-- whichever entries a line has, and then for lines that are dealt out in blocks and inserted.
use Rattle.std.specs.Prelude.{◌≡◌, ◌++◌, ℕ, true, false, List, [], Option, Some, None, Contains, flat_map}
use Rattle.std.specs.Prelude.{length, option_to_list, slice_get}
use Rattle.std.specs.List.{filter_map, zip}
use Rattle.tdb_base.specs.Replies.{is_full}
use Rattle.tdb_base.specs.History.{Vector, Put, Entry, History, name_of, calls}
use Rattle.tdb_base.specs.Legal.{IsLegal, Extends}
use Rattle.tdb_base.specs.Lines.{dealt_to, owned}
use Rattle.tdb_base.specs.declared.reply.Reply.{Reply}
use Rattle.tdb_base.specs.declared.reply.Reply.TheVariants as r

-- the entry that a reply to a vector tells of, if it isn't full
abbrev pub entry_of : ℕ → Vector → Reply → Option Entry
entry_of caller v (r.New id) = Some (record { caller = caller; act = Put true; vector = v; id = id })
entry_of caller v (r.Seen id) = Some (record { caller = caller; act = Put false; vector = v; id = id })
entry_of caller v r.FullNodes = None
entry_of caller v r.FullRoots = None

-- the same, where there are a vector and a reply
abbrev pub entry_of_both : ℕ → Option Vector → Option Reply → Option Entry
entry_of_both caller (Some v) (Some reply) = entry_of caller v reply
entry_of_both caller _ _ = None

-- the entry that the reply to the line with this number tells of
abbrev pub entry_of_line : ℕ → List Vector → List Reply → ℕ → Option Entry
entry_of_line caller trace replies i = entry_of_both caller (slice_get trace i) (slice_get replies i)

-- the entries of one caller that the replies to some vectors tell of
abbrev pub entries_of : ℕ → List Vector → List Reply → History
entries_of caller vectors replies = filter_map (λ line. entry_of caller line.0 line.1) (zip vectors replies)

-- the entries that a caller makes by inserting the line with this number: the one that its reply tells of, if
-- it tells of one
abbrev pub entries_of_insertion : List Vector → List Reply → ℕ → ℕ → History
entries_of_insertion trace replies caller i = option_to_list (entry_of_line caller trace replies i)

-- the replies to a trace's lines are those of one history that goes on from an earlier one. The workers, each
-- of whom has these lines in this order, are these callers, and a line has these entries of its caller.
-- Others may have called too
pub record AgreesOverAmongOthers (flag_count : ℕ) (lines_of : ℕ → List ℕ) (line_entries : ℕ → ℕ → History)
    (trace : List Vector) (replies : List Reply) (workers : ℕ)
    (earlier later : History) (callers : List ℕ) : Type 0 where
  pub one_each : length replies ≡ length trace
  pub legal : IsLegal flag_count later
  pub extends : Extends earlier later
  pub callers_count : length callers ≡ workers
  pub callers_differ : (j k c : ℕ) → slice_get callers j ≡ Some c → slice_get callers k ≡ Some c → j ≡ k
  pub callers_new : (c : ℕ) → Contains callers c → calls earlier c ≡ []
  pub in_order : (j c : ℕ) → slice_get callers j ≡ Some c
      → calls later c ≡ flat_map (line_entries c) (lines_of j)
  pub full : (i : ℕ) (v : Vector) (reply : Reply)
      → slice_get trace i ≡ Some v → slice_get replies i ≡ Some reply
      → is_full reply ≡ true → name_of later v ≡ None

-- the same, where nobody else called after the earlier history
pub record AgreesOver (flag_count : ℕ) (lines_of : ℕ → List ℕ) (line_entries : ℕ → ℕ → History)
    (trace : List Vector) (replies : List Reply) (workers : ℕ)
    (earlier later : History) (callers : List ℕ) : Type 0 where
  pub among : AgreesOverAmongOthers flag_count lines_of line_entries
      trace replies workers earlier later callers
  pub no_others : (more : History) → later ≡ earlier ++ more
      → (e : Entry) → Contains more e → Contains callers e.caller

-- this says whose each line is, and the lines are inserted
abbrev pub AgreesOwnedAmongOthers :
    (flag_count : ℕ) (owner : ℕ → ℕ) (trace : List Vector) (replies : List Reply) (workers : ℕ)
    (earlier later : History) (callers : List ℕ) → Type 0
AgreesOwnedAmongOthers flag_count owner trace replies workers earlier later callers =
    AgreesOverAmongOthers flag_count (owned (length trace) owner) (entries_of_insertion trace replies)
    trace replies workers earlier later callers

-- the same, where nobody else called after the earlier history
abbrev pub AgreesOwned :
    (flag_count : ℕ) (owner : ℕ → ℕ) (trace : List Vector) (replies : List Reply) (workers : ℕ)
    (earlier later : History) (callers : List ℕ) → Type 0
AgreesOwned flag_count owner trace replies workers earlier later callers =
    AgreesOver flag_count (owned (length trace) owner) (entries_of_insertion trace replies)
    trace replies workers earlier later callers

-- the lines are dealt out to the workers in blocks of `block` lines, and inserted
abbrev pub AgreesAmongOthers :
    (flag_count : ℕ) (trace : List Vector) (replies : List Reply) (workers block : ℕ)
    (earlier later : History) (callers : List ℕ) → Type 0
AgreesAmongOthers flag_count trace replies workers block =
    AgreesOwnedAmongOthers flag_count (dealt_to workers block) trace replies workers

-- the same, where nobody else called after the earlier history
abbrev pub Agrees :
    (flag_count : ℕ) (trace : List Vector) (replies : List Reply) (workers block : ℕ)
    (earlier later : History) (callers : List ℕ) → Type 0
Agrees flag_count trace replies workers block =
    AgreesOwned flag_count (dealt_to workers block) trace replies workers
