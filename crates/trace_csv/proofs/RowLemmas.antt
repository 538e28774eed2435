-- How the records that a reader gives stand among those that it has left.
use Rattle.std.proofs.Common.{◌≡◌, ◌≤◌, ◌<◌, ◌+◌, ℕ, zero, suc, List, [], ◌∷◌, ◌++◌, length, Option, Some, None, Bool, true, false, refl, ap, subst, arith, add-one}
use Rattle.std.specs.Prelude.{if◌then◌else◌, ◌==◌, ◌||◌, IsSome, unwrap_or}
use Rattle.std.specs.Borrow.{Bor}
use Rattle.csv.specs.Machine.{Read, ends_at_end, field_after, fields_after, in_field, is_end, next_record, step}
use Rattle.csv.specs.Reading.{NextIs, ReadRecord, ReadsNext, default_config, pending_of, reader_state, records_from, records_next}
use Rattle.csv.specs.declared.parser.State.{State}
use Rattle.csv.specs.declared.parser.State.TheVariants as st
use Rattle.csv.specs.declared.parser.Action.{Action}
use Rattle.csv.specs.declared.parser.Action.TheVariants as act
use Rattle.csv.specs.declared.reader.Reader.{Reader}
use Rattle.trace_csv.specs.Rows.{IsBetween, IsReading, bytes_left, rows_from, rows_left}

-- where the step ends a record, the state after it is one between records
abbrev EndsBetween : State × Action → Type 0
EndsBetween x = is_end x.1 ≡ true → IsBetween x.0

either : (b : Bool) (x y : State × Action) → EndsBetween x → EndsBetween y → EndsBetween (if b then x else y)
either true x y hx hy = hx
either false x y hx hy = hy

after_line : (b : Bool) → EndsBetween ((if b then st.AfterCr else st.StartRecord), act.EndRecord)
after_line true h = tt
after_line false h = tt

in_field-between : (c : ℕ) → EndsBetween (in_field default_config c)
in_field-between c = either (c == 44) _ _ (λ e. cc e) (either ((c == 13) || (c == 10)) _ _ (after_line (c == 13)) (λ e. cc e))

start_field-between : (c : ℕ) → EndsBetween (step default_config st.StartField c)
start_field-between c = either (c == 34) _ _ (λ e. cc e) (in_field-between c)

start_record-between : (c : ℕ) → EndsBetween (step default_config st.StartRecord c)
start_record-between c = either ((c == 13) || (c == 10)) _ _ (λ e. tt) (start_field-between c)

step-between : (s : State) (c : ℕ) → EndsBetween (step default_config s c)
step-between st.StartRecord c = start_record-between c
step-between st.StartField c = start_field-between c
step-between st.InField c = in_field-between c
step-between st.InQuoted c = either (c == 34) _ _ (λ e. cc e) (λ e. cc e)
step-between st.InEscape c = λ e. cc e
step-between st.AfterQuote c = either (c == 34) _ _ (λ e. cc e) (in_field-between c)
step-between st.InComment c = either (c == 10) _ _ (λ e. tt) (λ e. cc e)
step-between st.AfterCr c = either (c == 10) _ _ (λ e. tt) (start_record-between c)

-- what is left after a record: the text is no longer, and shorter where there was some, and the state is between two records
pub record Leaves (xs : List ℕ) (p : Read) : Type 0 where
  pub rest : IsBetween p.1
  pub no_longer : length p.2 ≤ length xs
  pub shorter : 0 < length xs → length p.2 < length xs

at-end : (b : Bool) (fields : List (List ℕ)) (p : Read) → (if b then Some (fields, st.StartRecord, []) else None) ≡ Some p → Leaves [] p
at-end true fields p e =
    let same : (fields, st.StartRecord, []) ≡ p = cc e in
    subst (λ (x : Read). Leaves [] x) same (record { rest = tt; no_longer = omega arith; shorter = λ h. absurd (omega arith) })
at-end false fields p e = cc e

pub leaves : (xs : List ℕ) (s : State) (f : List (List ℕ)) (d : List ℕ) (p : Read) → next_record default_config s f d xs ≡ Some p → Leaves xs p
unfolding next_record
leaves [] s f d p h = at-end (ends_at_end s) (f ++ (d ∷ [])) p h
leaves (c ∷ rest) s f d p h = by (is_end (step default_config s c).1) refl h (leaves rest (step default_config s c).0 _ _ p)
  where
    by : (b : Bool) → is_end (step default_config s c).1 ≡ b
        → (if b then Some (fields_after (step default_config s c).1 f d, (step default_config s c).0, rest)
        else next_record default_config (step default_config s c).0 (fields_after (step default_config s c).1 f d) (field_after (step default_config s c).1 c d) rest) ≡ Some p
        → (next_record default_config (step default_config s c).0 (fields_after (step default_config s c).1 f d) (field_after (step default_config s c).1 c d) rest ≡ Some p → Leaves rest p)
        → Leaves (c ∷ rest) p
    by true e q more =
        let same : (fields_after (step default_config s c).1 f d, (step default_config s c).0, rest) ≡ p = cc q in
        subst (λ (x : Read). Leaves (c ∷ rest) x) same (record { rest = step-between s c e; no_longer = omega arith; shorter = λ h. omega arith })
    by false e q more =
        let later = more q in
        let few : length p.2 ≤ length rest = later.no_longer in
        record { rest = later.rest; no_longer = omega arith; shorter = λ h. omega arith }

-- between two records, a record that comes takes a byte
pub not-empty : (s : State) (xs : List ℕ) (p : Read) → IsBetween s → next_record default_config s [] [] xs ≡ Some p → 0 < length xs
unfolding next_record
not-empty st.StartRecord [] p r e = cc e
not-empty st.AfterCr [] p r e = cc e
not-empty st.StartField [] p r e = absurd r
not-empty st.InField [] p r e = absurd r
not-empty st.InQuoted [] p r e = absurd r
not-empty st.AfterQuote [] p r e = absurd r
not-empty st.InEscape [] p r e = absurd r
not-empty st.InComment [] p r e = absurd r
not-empty s (x ∷ xs) p r e = omega arith

-- more turns than bytes give the same records
pub same-rows : (n m : ℕ) (s : State) (xs : List ℕ) → IsBetween s → length xs < n → length xs < m
    → records_from default_config n s xs ≡ records_from default_config m s xs
unfolding records_from
same-rows zero m s xs b h k = absurd (omega arith)
same-rows (suc n) zero s xs b h k = absurd (omega arith)
same-rows (suc n) (suc m) s xs b h k = by (next_record default_config s [] [] xs) refl
    (λ p left short. same-rows n m p.1 p.2 left (omega arith) (omega arith))
  where
    by : (o : Option Read) → next_record default_config s [] [] xs ≡ o
        → ((p : Read) → IsBetween p.1 → length p.2 < length xs → records_from default_config n p.1 p.2 ≡ records_from default_config m p.1 p.2)
        → records_next (records_from default_config n) o ≡ records_next (records_from default_config m) o
    by None e more = refl
    by (Some p) e more =
        let left = leaves xs s [] [] p e in
        let some = not-empty s xs p b e in
        ap (λ (t : List (List (List ℕ))). p.0 ∷ t) (more p left.rest (left.shorter some))

-- a record, and then those after it
pub rows-some : (s : State) (xs : List ℕ) (p : Read) → IsBetween s → next_record default_config s [] [] xs ≡ Some p
    → rows_from s xs ≡ p.0 ∷ rows_from p.1 p.2
unfolding records_from
rows-some s xs p b e =
    let left = leaves xs s [] [] p e in
    let some = not-empty s xs p b e in
    let short : length p.2 < length xs = left.shorter some in
    rw (add-one, e) (ap (λ (t : List (List (List ℕ))). p.0 ∷ t) (same-rows (length xs) (length p.2 + 1) p.1 p.2 left.rest short (omega arith)))

pub rows-none : (s : State) (xs : List ℕ) → next_record default_config s [] [] xs ≡ None → rows_from s xs ≡ []
unfolding records_from
rows-none s xs e = rw (add-one, e) refl

-- what a read of a record leaves
pub record Next (old new : Reader (Bor (List ℕ))) (row : List (List ℕ)) : Type 0 where
  pub between : IsBetween (reader_state new)
  pub known : IsSome (bytes_left new)
  pub rows : rows_left old ≡ row ∷ rows_left new

after-some : (o : Option Read) (row : List (List ℕ)) (s : State) (rest : List ℕ) → NextIs o true row s rest → o ≡ Some (row, s, rest)
after-some None row s rest h = cc h
after-some (Some p) row s rest h =
    let first : row ≡ p.0 = h.1 in
    let second : s ≡ p.1 = h.2 in
    let third : rest ≡ p.2 = h.3 in
    rw (first, second, third) refl

after-none : (o : Option Read) (row : List (List ℕ)) (s : State) (rest : List ℕ) → NextIs o false row s rest → o ≡ None
after-none None row s rest h = refl
after-none (Some p) row s rest h = cc h.0

reads-some : (s s2 : State) (xs : List ℕ) (row : List (List ℕ)) (after : Option (List ℕ)) → IsBetween s
    → ReadsNext default_config s (Some xs) after true row s2
    → IsBetween s2 × IsSome after × (rows_from s xs ≡ row ∷ rows_from s2 (unwrap_or after []))
reads-some s s2 xs row None b h = absurd h
reads-some s s2 xs row (Some ys) b h =
    let e = after-some _ row s2 ys h in
    let left = leaves xs s [] [] _ e in
    (left.rest, refl, rows-some s xs _ b e)

reads-none : (s s2 : State) (xs : List ℕ) (row : List (List ℕ)) (after : Option (List ℕ))
    → ReadsNext default_config s (Some xs) after false row s2 → rows_from s xs ≡ []
reads-none s s2 xs row None h = absurd h
reads-none s s2 xs row (Some ys) h = rows-none s xs (after-none _ row s2 ys h)

known-is : (o : Option (List ℕ)) → IsSome o → o ≡ Some (unwrap_or o [])
known-is None h = cc h
known-is (Some xs) h = refl

-- a read that gives a record
pub next-some : (old new : Reader (Bor (List ℕ))) (row : List (List ℕ)) → IsReading old
    → ReadRecord (λ (s : Bor (List ℕ)). Some s.now) old new true row → Next old new row
next-some old new row r h =
    let read = rw (r.config, known-is (bytes_left old) r.known) at h.0 in
    let left = reads-some old.state new.state (unwrap_or (bytes_left old) []) row (pending_of (Some new.rdr.now) new) r.between read in
    record {
      between = left.0;
      known = rw h.1 left.1;
      rows = rw h.1 left.2;
    }

-- a read that gives none
pub next-none : (old new : Reader (Bor (List ℕ))) (row : List (List ℕ)) → IsReading old
    → ReadRecord (λ (s : Bor (List ℕ)). Some s.now) old new false row → rows_left old ≡ []
next-none old new row r h =
    let read = rw (r.config, known-is (bytes_left old) r.known) at h.0 in
    reads-none old.state new.state (unwrap_or (bytes_left old) []) row (pending_of (Some new.rdr.now) new) read
