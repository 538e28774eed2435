-- A hash table of lines.
use Rattle.std.proofs.Common.{◌⊎◌, inl, inr, ◌≡◌, ◌≢◌, ◌≤◌, ◌<◌, ◌+◌, ◌-◌, ◌∙◌, ℕ, List, [], length, get_or, set, take, replicate, Bool, refl, sym, ap, subst, arith}
use Rattle.std.proofs.lemmas.Bool.{cases_eq, cases_lt}
use Rattle.std.proofs.lemmas.List.Sums.{fold_more}
use Rattle.std.specs.Bool.{Decides}
use Rattle.std.specs.Borrow.{Bor}
use Rattle.std.specs.Prelude.{◌↔◌, IsTrue}
use Rattle.std.proofs.lemmas.List.{get_or-replicate, get_or-set_other, get_or-set_same, get_or_past, length-replicate, length-set}
use Rattle.tdb_base.specs.History.{Vector}
use Rattle.tdb_base.specs.declared.reply.Reply.{Reply}
use Rattle.tdb_base.specs.declared.reply.Reply.TheVariants as r
use Rattle.tdb_base.proofs.ListLemmas.{before-or-last}
use Rattle.run_check.specs.Reached.{Line}
use Rattle.run_check.specs.Table.{HasKey, IsFree, IsTableOf, NoneHas, HasSlot, key_hash, is_vector, mixed, probe, spread, vector_hash}
use Rattle.run_check.specs.declared.table.Key.{Key}
use Rattle.run_check.specs.declared.table.Key.TheVariants as k
use Rattle.run_check.proofs.Dealt.{line-reply, line-vector, new-id}

-- a line has one hash
same-hash : (trace : List Vector) (replies : List Reply) (i : ℕ) (a b : Key) → HasKey trace replies i a → HasKey trace replies i b → is_vector a ≡ is_vector b → key_hash a ≡ key_hash b
same-hash trace replies i (k.Vector v) (k.Vector w) one other e = ap (λ (u : Vector). spread (vector_hash u)) (line-vector trace replies i v.now w.now (r.New one.0) (r.New other.0) one.1 other.1)
same-hash trace replies i (k.Vector v) (k.Identifier b) one other e = cc e
same-hash trace replies i (k.Identifier a) (k.Vector w) one other e = cc e
same-hash trace replies i (k.Identifier a) (k.Identifier b) one other e = ap spread (new-id a b (line-reply trace replies i one.0 other.0 (r.New a) (r.New b) one.1 other.1))

pub kept-none : (trace : List Vector) (replies : List Reply) (vectors : Bool) (n : ℕ) (slots : List ℕ) → slots ≡ replicate (n + 1) 0 → IsTableOf trace replies 0 vectors slots
kept-none trace replies vectors n slots e = record {
  some = (let size = ap length e ∙ length-replicate (n + 1) 0 in omega arith);
  within = λ slot line here. absurd (empty slot line here);
  there = λ line key lt has kind. absurd (omega (arith, lt));
}
  where
    empty : (slot line : ℕ) → get_or slots slot 0 ≡ line + 1 → ⊥
    empty slot line here = by (cases_lt slot (n + 1))
      where
        by : (slot < n + 1) ⊎ (n + 1 ≤ slot) → ⊥
        by (inl lt) = let none = ap (λ (t : List ℕ). get_or t slot 0) e ∙ get_or-replicate (n + 1) slot 0 0 lt in omega arith
        by (inr past) = let size : length (replicate {A = ℕ} (n + 1) 0) ≡ n + 1 = length-replicate (n + 1) 0 in let none = ap (λ (t : List ℕ). get_or t slot 0) e ∙ get_or_past (replicate (n + 1) 0) slot 0 (omega (arith, size, past)) in omega arith

module _ (trace : List Vector) (replies : List Reply) (i : ℕ) (key : Key) (slots : List ℕ) (kept : IsTableOf trace replies i (is_vector key) slots) where
  -- so many slots are looked at, and have other lines
  abbrev pub Passed : ℕ → Type 0
  Passed steps = (t : ℕ) → t < steps → (line : ℕ) → get_or slots (probe (length slots) (key_hash key) t) 0 ≡ line + 1 → HasKey trace replies line key → ⊥

  pub none-at-free : (step : ℕ) → Passed step → get_or slots (probe (length slots) (key_hash key) step) 0 ≡ 0 → NoneHas trace replies i key
  none-at-free step passed empty line lt has = by (cases_lt stands.step step)
    where
      stands : HasSlot slots (key_hash key) line
      stands = kept.there line key lt has refl

      by : (stands.step < step) ⊎ (step ≤ stands.step) → ⊥
      by (inl less) = passed stands.step less line stands.here has
      by (inr most) = past (cases_lt step stands.step)
        where
          past : (step < stands.step) ⊎ (stands.step ≤ step) → ⊥
          past (inl less) = stands.before step less empty
          past (inr least) =
              let same : stands.step ≡ step = omega arith in
              let value = ap (λ t. get_or slots (probe (length slots) (key_hash key) t) 0) same in
              let here = stands.here in
              omega arith

  pub none-at-full : Passed (length slots) → NoneHas trace replies i key
  none-at-full passed line lt has =
      let stands = kept.there line key lt has refl in
      passed stands.step stands.few line stands.here has

  pub kept-more : (slot : ℕ) (new : List ℕ) → IsFree slots (key_hash key) slot → HasKey trace replies i key → new ≡ set slots slot (i + 1) → slot < length slots → IsTableOf trace replies (i + 1) (is_vector key) new
  kept-more slot new free has e inside = subst (IsTableOf trace replies (i + 1) (is_vector key)) (sym e) (record {
    some = (let some = kept.some in let e = size in omega arith);
    within = λ at line here. within at line here (cases_eq at slot);
    there = λ line other lt its kind. there line other its kind (before-or-last line i lt);
  })
    where
      size : length (set slots slot (i + 1)) ≡ length slots
      size = length-set slots slot (i + 1)

      within : (at line : ℕ) → get_or (set slots slot (i + 1)) at 0 ≡ line + 1 → (at ≡ slot) ⊎ (at ≢ slot) → line < i + 1
      within at line here (inl same) = let value = ap (λ n. get_or (set slots slot (i + 1)) n 0) same ∙ get_or-set_same slots slot (i + 1) 0 inside in omega arith
      within at line here (inr other) = let less = kept.within at line (sym (get_or-set_other slots slot at (i + 1) 0 other) ∙ here) in omega arith

      -- a slot that isn't free stays
      stays : (at : ℕ) → get_or slots at 0 ≢ 0 → get_or (set slots slot (i + 1)) at 0 ≡ get_or slots at 0
      stays at some = by (cases_eq at slot)
        where
          by : (at ≡ slot) ⊎ (at ≢ slot) → get_or (set slots slot (i + 1)) at 0 ≡ get_or slots at 0
          by (inl same) = absurd (some (ap (λ n. get_or slots n 0) same ∙ free.empty))
          by (inr other) = get_or-set_other slots slot at (i + 1) 0 other

      sized : (hash line : ℕ) → (step : ℕ) → step < length slots → get_or (set slots slot (i + 1)) (probe (length slots) hash step) 0 ≡ line + 1
          → ((t : ℕ) → t < step → get_or (set slots slot (i + 1)) (probe (length slots) hash t) 0 ≢ 0) → HasSlot (set slots slot (i + 1)) hash line
      sized hash line step few here before = record {
        step = step;
        few = (let e = size in omega arith);
        here = ap (λ n. get_or (set slots slot (i + 1)) (probe n hash step) 0) size ∙ here;
        before = λ t lt e. before t lt (sym (ap (λ n. get_or (set slots slot (i + 1)) (probe n hash t) 0) size) ∙ e);
      }

      keeps : (at : ℕ) → get_or slots at 0 ≢ 0 → get_or (set slots slot (i + 1)) at 0 ≢ 0
      keeps at some e = some (sym (stays at some) ∙ e)

      there : (line : ℕ) (other : Key) → HasKey trace replies line other → is_vector other ≡ is_vector key → (line < i) ⊎ (line ≡ i) → HasSlot (set slots slot (i + 1)) (key_hash other) line
      there line other its kind (inl less) =
          let stands = kept.there line other less its kind in
          let here = stands.here in
          sized (key_hash other) line stands.step stands.few (stays (probe (length slots) (key_hash other) stands.step) (λ e. omega (arith, e, here)) ∙ here)
          (λ t lt. keeps (probe (length slots) (key_hash other) t) (stands.before t lt))
      there line other its kind (inr last) =
          let hash : key_hash key ≡ key_hash other = same-hash trace replies i key other has (subst (λ (n : ℕ). HasKey trace replies n other) last its) (sym kind) in
          subst (λ (h : ℕ). HasSlot (set slots slot (i + 1)) h line) hash
          (sized (key_hash key) line free.step free.few
          (ap (λ n. get_or (set slots slot (i + 1)) n 0) (sym free.place) ∙ get_or-set_same slots slot (i + 1) 0 inside ∙ ap (λ n. n + 1) (sym last))
          (λ t lt. keeps (probe (length slots) (key_hash key) t) (free.before t lt)))

-- a line that isn't answered new
pub kept-other : (trace : List Vector) (replies : List Reply) (i : ℕ) (vectors : Bool) (slots : List ℕ) → IsTableOf trace replies i vectors slots → ((key : Key) → HasKey trace replies i key → ⊥)
    → IsTableOf trace replies (i + 1) vectors slots
kept-other trace replies i vectors slots kept none = record {
  some = kept.some;
  within = λ slot line here. (let less = kept.within slot line here in omega arith);
  there = λ line key lt has kind. there line key has kind (before-or-last line i lt);
}
  where
    there : (line : ℕ) (key : Key) → HasKey trace replies line key → is_vector key ≡ vectors → (line < i) ⊎ (line ≡ i) → HasSlot slots (key_hash key) line
    there line key has kind (inl less) = kept.there line key less has kind
    there line key has kind (inr last) = absurd (none key (subst (λ (n : ℕ). HasKey trace replies n key) last has))

-- whether a line has a key
pub is-vector : (trace : List Vector) (replies : List Reply) (line : ℕ) (key : Key) (v : Bor (List ℕ)) (w : Vector) (id : ℕ) → key ≡ k.Vector v → Line trace replies line w (r.New id)
    → (b : Bool) → Decides b (w ≡ v.now) → IsTrue b ↔ HasKey trace replies line key
is-vector trace replies line key v w id is here b decides = (
  λ yes. subst (HasKey trace replies line) (sym is) (id, subst (λ (u : Vector). Line trace replies line u (r.New id)) (decides.0 yes) here),
  λ has. (let it = subst (HasKey trace replies line) is has in decides.1 (line-vector trace replies line w v.now (r.New id) (r.New it.0) here it.1)),
)

pub is-identifier : (trace : List Vector) (replies : List Reply) (line : ℕ) (key : Key) (wanted : ℕ) (w : Vector) (id : ℕ) → key ≡ k.Identifier wanted → Line trace replies line w (r.New id)
    → (b : Bool) → Decides b (id ≡ wanted) → IsTrue b ↔ HasKey trace replies line key
is-identifier trace replies line key wanted w id is here b decides = (
  λ yes. subst (HasKey trace replies line) (sym is) (w, subst (λ (n : ℕ). Line trace replies line w (r.New n)) (decides.0 yes) here),
  λ has. (let it = subst (HasKey trace replies line) is has in decides.1 (new-id id wanted (line-reply trace replies line w it.0 (r.New id) (r.New wanted) here it.1))),
)

-- the hash of a vector, a slot after a slot
pub hash-none : ◌≡◌ {A = ℕ} 0 (vector_hash [])
unfolding vector_hash
hash-none = refl

pub hash-more : (v : Vector) (i hash new : ℕ) → i < length v → hash ≡ vector_hash (take i v) → new ≡ mixed hash (get_or v i 0) → new ≡ vector_hash (take (i + 1) v)
unfolding vector_hash
hash-more v i hash new lt old e = e ∙ ap (λ h. mixed h (get_or v i 0)) old ∙ sym (fold_more mixed 0 v i 0 lt)

-- what a search in a table has passed
pub record Seeks (trace : List Vector) (replies : List Reply) (key : Key) (slots : List ℕ) (steps : ℕ) : Type 0 where
  pub filled : (t : ℕ) → t < steps → get_or slots (probe (length slots) (key_hash key) t) 0 ≢ 0
  pub passed : (t : ℕ) → t < steps → (line : ℕ) → get_or slots (probe (length slots) (key_hash key) t) 0 ≡ line + 1 → HasKey trace replies line key → ⊥

pub seeks-none : (trace : List Vector) (replies : List Reply) (key : Key) (slots : List ℕ) → Seeks trace replies key slots 0
seeks-none trace replies key slots = record { filled = λ t lt. absurd (omega (arith, lt)); passed = λ t lt. absurd (omega (arith, lt)) }

module _ (trace : List Vector) (replies : List Reply) (key : Key) (slots : List ℕ) (step slot entry : ℕ) (old : Seeks trace replies key slots step)
    (at : slot ≡ probe (length slots) (key_hash key) step) (value : entry ≡ get_or slots slot 0) where
  here : entry ≡ get_or slots (probe (length slots) (key_hash key) step) 0
  here = value ∙ ap (λ n. get_or slots n 0) at

  pub seeks-more : entry ≢ 0 → (HasKey trace replies (entry - 1) key → ⊥) → Seeks trace replies key slots (step + 1)
  seeks-more some other = record {
    filled = λ t lt. filled t (before-or-last t step lt);
    passed = λ t lt line. passed t line (before-or-last t step lt);
  }
    where
      filled : (t : ℕ) → (t < step) ⊎ (t ≡ step) → get_or slots (probe (length slots) (key_hash key) t) 0 ≢ 0
      filled t (inl less) = old.filled t less
      filled t (inr last) = λ e. some (here ∙ sym (ap (λ n. get_or slots (probe (length slots) (key_hash key) n) 0) last) ∙ e)

      passed : (t line : ℕ) → (t < step) ⊎ (t ≡ step) → get_or slots (probe (length slots) (key_hash key) t) 0 ≡ line + 1 → HasKey trace replies line key → ⊥
      passed t line (inl less) e has = old.passed t less line e has
      passed t line (inr last) e has =
          let whole : entry ≡ line + 1 = here ∙ sym (ap (λ n. get_or slots (probe (length slots) (key_hash key) n) 0) last) ∙ e in
          let same : line ≡ entry - 1 = omega arith in
          other (subst (λ (n : ℕ). HasKey trace replies n key) same has)

  pub place-free : entry ≡ 0 → step < length slots → (i : ℕ) → IsTableOf trace replies i (is_vector key) slots → NoneHas trace replies i key × IsFree slots (key_hash key) slot
  place-free empty few i kept = (
    none-at-free trace replies i key slots kept step old.passed (sym here ∙ empty),
    record { step = step; few = few; place = at; empty = sym value ∙ empty; before = old.filled },
  )

  pub place-line : entry ≢ 0 → HasKey trace replies (entry - 1) key → (i : ℕ) → IsTableOf trace replies i (is_vector key) slots → (entry - 1 < i) × HasKey trace replies (entry - 1) key
  place-line some has i kept = (kept.within slot (entry - 1) (let same : entry - 1 + 1 ≡ entry = omega arith in sym (same ∙ value)), has)
