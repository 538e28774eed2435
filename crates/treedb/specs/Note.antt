-- How a run ends: its status, and the note line that tells of it.
use Rattle.std.specs.Prelude.{ℕ, Bool, true, false, List, [], ◌++◌, codes}
use Rattle.std.specs.Fmt.{decimal}
use Rattle.tdb_base.specs.declared.reply.Status.{Status}
use Rattle.tdb_base.specs.declared.reply.Status.TheVariants as s
use Rattle.trace_csv.specs.declared.form.Form.{Form}
use Rattle.trace_csv.specs.declared.form.Form.TheVariants.{Unsigned, Signed}
use Rattle.trace_csv.specs.declared.refusal.TraceError.{TraceError}
use Rattle.trace_csv.specs.declared.refusal.TraceError.TheVariants as t
use Rattle.treedb.specs.declared.ended.Ended.{Ended}
use Rattle.treedb.specs.declared.ended.Ended.TheVariants as e

-- the status that a run is answered
abbrev pub status_of : Ended → Status
status_of e.Done = s.Done
status_of e.Usage = s.Usage
status_of (e.BadTrace form error) = s.BadTrace
status_of e.TooMuch = s.TooMuch
status_of (e.Full lines) = s.Full
status_of e.ReadFault = s.ReadFault
status_of e.WriteFault = s.WriteFault
status_of e.NoMemory = s.NoMemory
status_of e.NoReport = s.BadReport
status_of (e.WrongReport line) = s.BadReport
status_of e.Refuted = s.Refuted

-- the end has a note: `Done` and `Refuted` have none
abbrev pub has_note : Status → Bool
has_note s.Done = false
has_note s.Refuted = false
has_note s.Usage = true
has_note s.BadTrace = true
has_note s.TooMuch = true
has_note s.Full = true
has_note s.ReadFault = true
has_note s.WriteFault = true
has_note s.NoMemory = true
has_note s.BadReport = true

-- how the words of the command line are written
unfoldable pub usage : List ℕ
usage =
    codes "usage: treedb insert|distinct|bench|check|mark [--mode plain|compact] [--profile 16|28|31]\n"
    ++ codes "  [--workers N] [--block N] [--nodes D] [--roots R] [--region S] [--probe P]\n"
    ++ codes "  [--stats] [--lines N] [--slots K] [--values M] [--seed S]\n"
    ++ codes "  [--signed] [--claims] [--flag B]\n"

abbrev pub no_memory : List ℕ
no_memory = codes "treedb: no memory\n"

-- what is said of a number that is out of its range, and of a first record with too few fields or too many
abbrev pub range_text : Form → List ℕ
range_text (Unsigned width) = codes " is too big\n"
range_text Signed = codes " is out of range\n"

abbrev pub fields_text : Form → List ℕ
fields_text (Unsigned width) = codes " fields, 2 to 1024 are allowed\n"
fields_text Signed = codes " fields, 2 to 512 are allowed\n"

-- why the bytes write no trace; want of memory is no such reason, and is never told here
abbrev pub trace_text : Form → TraceError → List ℕ
trace_text form (t.NotANumber row field) =
    codes "treedb: record " ++ decimal row ++ codes " field " ++ decimal field ++ codes " is not a number\n"
trace_text form (t.TooBig row field) =
    codes "treedb: record " ++ decimal row ++ codes " field " ++ decimal field ++ range_text form
trace_text form (t.Ragged row fields first) =
    codes "treedb: record " ++ decimal row ++ codes " has " ++ decimal fields ++ codes
    " fields, the first has " ++ decimal first ++ codes "\n"
trace_text form (t.Length row fields) =
    codes "treedb: record " ++ decimal row ++ codes " has " ++ decimal fields ++ fields_text form
trace_text form t.NoRecords = codes "treedb: no records\n"
trace_text form t.NoMemory = no_memory

-- the note: what a run's end writes to standard error
abbrev pub note_text : Ended → List ℕ
note_text e.Done = []
note_text e.Usage = usage
note_text (e.BadTrace form error) = trace_text form error
note_text e.TooMuch = codes "treedb: input is over 67108864 bytes\n"
note_text (e.Full lines) = codes "treedb: " ++ decimal lines ++ codes " lines full\n"
note_text e.ReadFault = codes "treedb: read fault\n"
note_text e.WriteFault = codes "treedb: write fault\n"
note_text e.NoMemory = no_memory
note_text e.NoReport = codes "treedb: no report\n"
note_text (e.WrongReport line) = codes "treedb: report line " ++ decimal line ++ codes " is wrong\n"
note_text e.Refuted = []
