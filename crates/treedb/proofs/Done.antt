-- A run whose tables have room for all its lines is not answered full.
use Rattle.std.proofs.Common.{◌≡◌, ◌≤◌, ◌+◌, ◌-◌, ◌*◌, ◌^◌, ℕ, List, [], ◌∷◌, length, Bool, true, false, Option, Some, None, refl, sym, ap, ◌∙◌, subst, inl, inr, ⊎_elim, arith}
use Rattle.std.specs.Prelude.{◌⊎◌, All, Ok}
use Rattle.std.proofs.Math.Nat.{mul-le-mul_right, mul_assoc, mul_comm}
use Rattle.trace_csv.specs.Trace.{trace_of}
use Rattle.trace_csv.specs.declared.form.Form.{Form}
use Rattle.trace_csv.specs.declared.form.Form.TheVariants.{Unsigned, Signed}
use Rattle.trace_csv.proofs.BytesTaken.{signed-bytes, signed-least, unsigned-bytes}
use Rattle.trace_csv.proofs.FewLines.{drawn_length}
use Rattle.trace_csv.proofs.WalkLemmas.{walk-each}
use Rattle.command_line.specs.Valid.{IsValid}
use Rattle.std.specs.List.{list_any}
use Rattle.tdb_base.specs.Causes.{Rose}
use Rattle.tdb_base.specs.History.{Vector, History}
use Rattle.tdb_base.specs.Replies.{is_full}
use Rattle.tdb_base.specs.declared.reply.Reply.{Reply}
use Rattle.tdb_base.specs.declared.reply.Status.{Status}
use Rattle.tdb_base.specs.declared.reply.Status.TheVariants as s
use Rattle.trace_csv.specs.declared.report.Stats.{Stats}
use Rattle.command_line.specs.declared.outcome.Choice.{Choice}
use Rattle.command_line.specs.declared.outcome.Job.{Job}
use Rattle.command_line.specs.declared.outcome.Job.TheVariants.{Insert, Distinct, Bench, Check, Mark}
use Rattle.command_line.specs.declared.outcome.Mode.{Mode}
use Rattle.command_line.specs.declared.outcome.Mode.TheVariants.{Plain, Compact}
use Rattle.treedb.specs.Chosen.{is_check}
use Rattle.treedb.specs.Lines.{IsTraceFor, drawn_lines, form_of, is_reader}
use Rattle.treedb.specs.Outcome.{IsDoneWhere, IsValidInput, Outcome, SinkStep, SourceStep}
use Rattle.treedb.specs.Room.{HasAutomaticSizes, HasFewNodes, HasRoomFor, IsTraceWithin}
use Rattle.treedb.specs.Run.{IsOfMode, Run, is_printed}
use Rattle.treedb.proofs.Complete.{by_status}
use Rattle.treedb.proofs.RoomLemmas.{automatic_room, few_pairs}
use Rattle.treedb.proofs.LineLemmas.{lines_were}

-- what a store of the mode says of its lines
never_full : (mode : Mode) (c : Choice) (trace : List Vector) (replies : List Reply) (h : History) (stats : Option Stats) → c.mode ≡ mode → IsOfMode mode c trace replies h stats
    → HasRoomFor c trace → list_any is_full replies ≡ false
never_full Plain c trace replies h stats is store room = store.never_full (room store.about.slots store.about_is.sizes store.about_is.is_about.range.least_slots store.about_is.slots store.about_is.are_sizes)
never_full Compact c trace replies h stats is store room = store.never_full (room store.about.slots store.about_is.sizes store.about_is.is_about.range.least_slots store.about_is.slots store.about_is.are_sizes)

-- a job inserts one trace
one_trace : (c : Choice) (told : Option (List ℕ)) (job : Job) (trace other : List Vector) → IsTraceFor c told job trace
    → (is_reader job ≡ true → (bytes : List ℕ) × (told ≡ Some bytes) × (length bytes ≤ 67108864)) → IsTraceFor c told job other → trace ≡ other
one_trace c told Insert trace other one within two = let bytes = within refl in
    let first = subst (λ (o : Option (List ℕ)). IsTraceFor c o Insert trace) bytes.1 one in
    let second = subst (λ (o : Option (List ℕ)). IsTraceFor c o Insert other) bytes.1 two in
    cc (first, second)
one_trace c told Distinct trace other one within two = let bytes = within refl in
    let first = subst (λ (o : Option (List ℕ)). IsTraceFor c o Distinct trace) bytes.1 one in
    let second = subst (λ (o : Option (List ℕ)). IsTraceFor c o Distinct other) bytes.1 two in
    cc (first, second)
one_trace c told Mark trace other one within two = let bytes = within refl in
    let first = subst (λ (o : Option (List ℕ)). IsTraceFor c o Mark trace) bytes.1 one in
    let second = subst (λ (o : Option (List ℕ)). IsTraceFor c o Mark other) bytes.1 two in
    cc (first, second)
one_trace c told Bench trace other one within two = one ∙ sym two
one_trace c told Check trace other one within two = absurd one

-- a trace of an input makes it a valid one
valid_input : (c : Choice) (bytes : List ℕ) (job : Job) (trace : List Vector) → IsTraceFor c (Some bytes) job trace → IsValidInput job c bytes
valid_input c bytes Insert trace lines = (trace, lines)
valid_input c bytes Distinct trace lines = (trace, lines)
valid_input c bytes Mark trace lines = (trace, lines)
valid_input c bytes Bench trace lines = tt
valid_input c bytes Check trace lines = absurd lines

inserts : (c : Choice) (told : Option (List ℕ)) (job : Job) (trace : List Vector) → IsTraceFor c told job trace → is_check job ≡ false
inserts c told Insert trace lines = refl
inserts c told Distinct trace lines = refl
inserts c told Mark trace lines = refl
inserts c told Bench trace lines = refl
inserts c told Check trace lines = absurd lines

-- where a trace is read, its bytes are given, and where it is drawn, the choice says how
read_of : (c : Choice) (bytes : List ℕ) (job : Job) (trace : List Vector) → is_reader job ≡ true → IsTraceFor c (Some bytes) job trace → trace_of (form_of c) bytes ≡ Ok trace
read_of c bytes Insert trace reads lines = lines_were c bytes trace lines
read_of c bytes Distinct trace reads lines = lines_were c bytes trace lines
read_of c bytes Mark trace reads lines = lines_were c bytes trace lines
read_of c bytes Bench trace reads lines = cc reads
read_of c bytes Check trace reads lines = absurd lines

drawn_for : (c : Choice) (told : Option (List ℕ)) (job : Job) (trace : List Vector) → is_reader job ≡ false → IsTraceFor c told job trace → (job ≡ Bench) × (trace ≡ drawn_lines c)
drawn_for c told Insert trace reads lines = cc reads
drawn_for c told Distinct trace reads lines = cc reads
drawn_for c told Mark trace reads lines = cc reads
drawn_for c told Bench trace reads lines = (refl, lines)
drawn_for c told Check trace reads lines = absurd lines

module _ (c : Choice) (told : Option (List ℕ)) (trace : List Vector) (input : IsTraceWithin c told trace) (valid : IsValid c) where
  -- what holds of all lines holds of the first
  of_first : (P : Vector → Type 0) (line : Vector) (rest : List Vector) → trace ≡ line ∷ rest → All P trace → P line
  of_first P line rest is each = subst (λ (t : List Vector). All P t) is each 0 line (omega arith)

  module _ (slots : ℕ) (two : 2 ≤ slots) (line : Vector) (rest : List Vector) (is : trace ≡ line ∷ rest) (each : All (λ (v : Vector). length v ≡ slots) trace) where
    size : length line ≡ slots
    size = of_first (λ (v : Vector). length v ≡ slots) line rest is each

    -- lines that are read take their bytes
    few_read : (form : Form) (bytes : List ℕ) → trace_of form bytes ≡ Ok trace → length bytes ≤ 67108864 → HasFewNodes form trace → ((slots - 2) * length trace ≤ 2 ^ 25) × (length trace ≤ 2 ^ 24)
    few_read (Unsigned width) bytes lines within nodes =
        let taken = of_first (λ (v : Vector). 2 * length v * length trace ≤ length bytes + 1) line rest is (unsigned-bytes width bytes trace lines) in
        let few : 2 * slots * length trace ≤ length bytes + 1 = rw (sym size) taken in
        let whole : 2 * slots * length trace ≡ 2 * (slots * length trace) = mul_assoc 2 slots (length trace) in
        few_pairs slots (length trace) two (omega (arith, few, whole, within))
    few_read Signed bytes lines within nodes =
        let taken : length line * length trace ≤ length bytes + 1 = of_first (λ (v : Vector). length v * length trace ≤ length bytes + 1) line rest is (signed-bytes bytes trace lines) in
        let least : 4 ≤ length line = of_first (λ (v : Vector). 4 ≤ length v) line rest is (signed-least bytes trace lines) in
        let many : 4 * length trace ≤ length line * length trace = mul-le-mul_right {m = 4} {n = length line} (length trace) least in
        (nodes slots each, omega (arith, taken, many, within))

    -- so do lines that are drawn
    few_drawn : is_reader c.job ≡ false → ((slots - 2) * length trace ≤ 2 ^ 25) × (length trace ≤ 2 ^ 24)
    few_drawn draws =
        let drawn = drawn_for c told c.job trace draws input.lines in
        let one = of_first (λ (v : Vector). length v ≡ c.slots) line rest is
        (subst (λ (t : List Vector). All (λ (v : Vector). length v ≡ c.slots) t) (sym drawn.1) (walk-each c.lines c.slots c.values c.seed)) in
        let many : length trace ≡ c.lines = ap (λ (t : List Vector). length t) drawn.1 ∙ drawn_length c.lines c.slots c.values c.seed valid.in_range.lines.0 in
        let same : slots ≡ c.slots = sym size ∙ one in
        let few : slots * length trace ≤ 2 ^ 25 = rw (same, many) (subst (λ (n : ℕ). n ≤ 2 ^ 25) (mul_comm c.lines c.slots) (valid.together.bench_trace drawn.0)) in
        few_pairs slots (length trace) two few

    few_lines : HasFewNodes (form_of c) trace → ((slots - 2) * length trace ≤ 2 ^ 25) × (length trace ≤ 2 ^ 24)
    few_lines nodes = by (is_reader c.job) refl
      where
        by : (b : Bool) → is_reader c.job ≡ b → ((slots - 2) * length trace ≤ 2 ^ 25) × (length trace ≤ 2 ^ 24)
        by true reads =
            let given = input.within reads in
            let lines = read_of c given.0 c.job trace reads (subst (λ (o : Option (List ℕ)). IsTraceFor c o c.job trace) given.1 input.lines) in
            few_read (form_of c) given.0 lines given.2 nodes
        by false draws = few_drawn draws

  pub automatic_for : HasAutomaticSizes c → HasFewNodes (form_of c) trace → HasRoomFor c trace
  automatic_for automatic nodes slots s two each are = automatic_room c automatic slots (length trace) (by trace refl) s are
    where
      by : (t : List Vector) → trace ≡ t → ((slots - 2) * length trace ≤ 2 ^ 25) × (length trace ≤ 2 ^ 24)
      by [] is = (rw is (omega arith), rw is (omega arith))
      by (x ∷ t) is = few_lines slots two x t is each nodes

-- the run whose text was written inserted this trace, so with room for it the status is not `Full`
run_not_full : (c : Choice) (told : Option (List ℕ)) (trace : List Vector) → IsTraceWithin c told trace → (run : Run (Some c) told)
    → HasRoomFor c trace → list_any is_full run.replies ≡ false
run_not_full c told trace input run room = by run.choice (let same = run.chose in cc same) run.read run.of_mode
  where
    by : (d : Choice) → c ≡ d → IsTraceFor d told d.job run.trace → IsOfMode d.mode d run.trace run.replies run.history run.stats → list_any is_full run.replies ≡ false
    by d is read store =
        let mine = subst (λ (x : Choice). IsTraceFor x told x.job run.trace) (sym is) read in
        let same : run.trace ≡ trace = sym (one_trace c told c.job trace run.trace input.lines input.within mine) in
        let kept = subst (λ (x : Choice). IsOfMode x.mode x run.trace run.replies run.history run.stats) (sym is) store in
        never_full c.mode c run.trace run.replies run.history run.stats refl kept (subst (λ (t : List Vector). HasRoomFor c t) (sym same) room)

module _ {S K : Type 0} (c : Choice) (source : SourceStep S) (sink : SinkStep K) (read : Rose (source.faults source.old) (source.faults source.new) → ⊥)
    (wrote : Rose (sink.faults sink.old) (sink.faults sink.new) → ⊥) where
  -- a run that reads nothing is not ended by its input
  unread : (status : Status) → Outcome (Some c) source sink status → is_reader c.job ≡ false → (is_printed status ≡ true) ⊎ (status ≡ s.NoMemory)
  unread s.Done outcome draws = inl refl
  unread s.Full outcome draws = inl refl
  unread s.Refuted outcome draws = inl refl
  unread s.NoMemory outcome draws = inr refl
  unread s.Usage outcome draws = (let none = outcome.usage refl in cc none)
  unread s.WriteFault outcome draws = absurd (wrote (outcome.write_fault refl))
  unread s.ReadFault outcome draws = (let reads = outcome.of_input refl in cc (reads, draws))
  unread s.TooMuch outcome draws = (let reads = outcome.of_input refl in cc (reads, draws))
  unread s.BadTrace outcome draws = (let reads = outcome.of_input refl in cc (reads, draws))
  unread s.BadReport outcome draws = (let reads = outcome.of_input refl in cc (reads, draws))

  -- a run that inserts lines of a valid input comes through
  comes_through : (status : Status) → Outcome (Some c) source sink status → (trace : List Vector) → IsTraceWithin c (source.left source.old) trace
      → (is_printed status ≡ true) ⊎ (status ≡ s.NoMemory)
  comes_through status outcome trace input = by (is_reader c.job) refl
    where
      by : (b : Bool) → is_reader c.job ≡ b → (is_printed status ≡ true) ⊎ (status ≡ s.NoMemory)
      by true reads =
          let given = input.within reads in by_status source sink read wrote c given.0 status outcome given.1 given.2
          (valid_input c given.0 c.job trace (subst (λ (o : Option (List ℕ)). IsTraceFor c o c.job trace) given.1 input.lines))
      by false draws = unread status outcome draws

  -- and it is done, where none of its lines is full
  pub done_where : (status : Status) → Outcome (Some c) source sink status → (trace : List Vector) → IsTraceWithin c (source.left source.old) trace
      → (IsValid c → HasRoomFor c trace) → (status ≡ s.Done) ⊎ (status ≡ s.NoMemory)
  done_where status outcome trace input room = by status outcome (comes_through status outcome trace input)
    where
      inserted : is_check c.job ≡ false
      inserted = inserts c (source.left source.old) c.job trace input.lines

      by : (status : Status) → Outcome (Some c) source sink status → (is_printed status ≡ true) ⊎ (status ≡ s.NoMemory) → (status ≡ s.Done) ⊎ (status ≡ s.NoMemory)
      by s.Done outcome through = inl refl
      by s.NoMemory outcome through = inr refl
      by s.Full outcome through =
          let printed = outcome.replies_form_one_history refl inserted in
          let full = printed.full.0 refl in
          let valid = subst (λ (d : Choice). IsValid d) (let same = printed.run.chose in cc same) printed.run.valid in
          let none = run_not_full c (source.left source.old) trace input printed.run (room valid) in
          cc (full, none)
      by s.Refuted outcome through = absurd ((outcome.replies_form_one_history refl inserted).never_refuted refl)
      by s.Usage outcome through = (let none = outcome.usage refl in cc none)
      by s.WriteFault outcome through = absurd (wrote (outcome.write_fault refl))
      by s.ReadFault outcome through = ⊎_elim (λ p. cc p) (λ m. cc m) through
      by s.TooMuch outcome through = ⊎_elim (λ p. cc p) (λ m. cc m) through
      by s.BadTrace outcome through = ⊎_elim (λ p. cc p) (λ m. cc m) through
      by s.BadReport outcome through = ⊎_elim (λ p. cc p) (λ m. cc m) through

pub done_with_room : {S K : Type 0} (offer : Option Choice) (source : SourceStep S) (sink : SinkStep K) (status : Status) → Outcome offer source sink status
    → IsDoneWhere HasRoomFor offer source sink status
done_with_room None source sink status outcome = λ read wrote. tt
done_with_room (Some c) source sink status outcome = λ read wrote trace input room. done_where c source sink read wrote status outcome trace input (λ valid. room)

pub done_by_default : {S K : Type 0} (offer : Option Choice) (source : SourceStep S) (sink : SinkStep K) (status : Status) → Outcome offer source sink status
    → IsDoneWhere (λ c trace. HasAutomaticSizes c × HasFewNodes (form_of c) trace) offer source sink status
done_by_default None source sink status outcome = λ read wrote. tt
done_by_default (Some c) source sink status outcome = λ read wrote trace input automatic.
    done_where c source sink read wrote status outcome trace input (λ valid. automatic_for c (source.left source.old) trace input valid automatic.0 automatic.1)
