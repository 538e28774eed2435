-- What the plain slow functions tell of a line.
use Rattle.std.proofs.Common.{◌⊎◌, inl, inr, ◌≡◌, ◌<◌, ◌∙◌, ℕ, List, length, get_or, Option, Some, None, Bool, true, false, ◌||◌, refl, sym, ap, subst, arith, set}
use Rattle.std.proofs.lemmas.List.{get_or-set_other, length-set}
use Rattle.std.proofs.lemmas.Option.{slice_get_within}
use Rattle.std.specs.Bool.{Decides}
use Rattle.std.specs.Prelude.{◌==◌, ◌↔◌, IsTrue, slice_get}
use Rattle.tdb_base.specs.History.{Vector}
use Rattle.tdb_base.specs.declared.reply.Reply.{Reply}
use Rattle.tdb_base.specs.declared.reply.Reply.TheVariants as r
use Rattle.run_check.specs.Claim.{IsFirst}
use Rattle.run_check.specs.Plain.{AreReached, AreSound, HasMark, IsToMark, MayMark, NewHasMark}
use Rattle.run_check.specs.Reached.{Line, Reached, after_new, by_itself, is_seen, owner}
use Rattle.run_check.specs.Sentences.{IsTwice}
use Rattle.tdb_base.proofs.ListLemmas.{at-within}
use Rattle.run_check.proofs.ClaimLemmas.{at-get, unseen}
use Rattle.run_check.proofs.Dealt.{line-reply, line-vector, new-id}

-- one line of a trace has one vector
pub one-vector : (trace : List Vector) (i : ℕ) (v w : Vector) → slice_get trace i ≡ Some v → slice_get trace i ≡ Some w → v ≡ w
one-vector trace i v w a b = cc (a, b)

pub first-none : (P : ℕ → Type 0) (o : Option ℕ) → ((n : ℕ) → o ≡ Some n → ⊥) → IsFirst o P → (n : ℕ) → P n → ⊥
first-none P None none first = first
first-none P (Some m) none first = absurd (none m refl)

module _ (trace : List Vector) (replies : List Reply) where
  pub named-told : (k id : ℕ) (v w : Vector) (b : Bool) → Line trace replies k w (r.New id) → Decides b (w ≡ v) → IsTrue b ↔ Line trace replies k v (r.New id)
  named-told k id v w b here decides = (
    λ yes. subst (λ (u : Vector). Line trace replies k u (r.New id)) (decides.0 yes) here,
    λ line. decides.1 (line-vector trace replies k w v (r.New id) (r.New id) here line),
  )

  pub new-told : (k id : ℕ) (v w : Vector) (b : Bool) → Line trace replies k w (r.New id) → Decides b (w ≡ v) → IsTrue b ↔ ((n : ℕ) × Line trace replies k v (r.New n))
  new-told k id v w b here decides = (
    λ yes. (id, subst (λ (u : Vector). Line trace replies k u (r.New id)) (decides.0 yes) here),
    λ line. decides.1 (line-vector trace replies k w v (r.New id) (r.New line.0) here line.1),
  )

  pub twice-told : (first second id next : ℕ) (v w : Vector) (b c : Bool) → first < second → Line trace replies first v (r.New id) → Line trace replies second w (r.New next)
      → Decides b (v ≡ w) → Decides c (id ≡ next) → IsTrue (b || c) ↔ IsTwice trace replies second first
  twice-told first second id next v w b c before here there vectors ids = (to b c vectors ids, from)
    where
      twice : (v ≡ w) ⊎ (id ≡ next) → IsTwice trace replies second first
      twice equal = record { before = before; vector = v; other = w; id = id; next = next; here = here; there = there; equal = equal }

      to : (b c : Bool) → Decides b (v ≡ w) → Decides c (id ≡ next) → IsTrue (b || c) → IsTwice trace replies second first
      to true c one other t = twice (inl (one.0 refl))
      to false true one other t = twice (inr (other.0 refl))
      to false false one other t = absurd (let e : false ≡ true = t in cc e)

      right : (b c : Bool) → c ≡ true → (b || c) ≡ true
      right true c e = refl
      right false c e = e

      by : (x y : Vector) (m n : ℕ) → v ≡ x → w ≡ y → id ≡ m → next ≡ n → (x ≡ y) ⊎ (m ≡ n) → IsTrue (b || c)
      by x y m n vx wy im nn (inl same) = ap (λ (t : Bool). t || c) (vectors.1 (vx ∙ same ∙ sym wy))
      by x y m n vx wy im nn (inr same) = right b c (ids.1 (im ∙ same ∙ sym nn))

      from : IsTwice trace replies second first → IsTrue (b || c)
      from it =
          by it.vector it.other it.id it.next
          (line-vector trace replies first v it.vector (r.New id) (r.New it.id) here it.here)
          (line-vector trace replies second w it.other (r.New next) (r.New it.next) there it.there)
          (new-id id it.id (line-reply trace replies first v it.vector (r.New id) (r.New it.id) here it.here))
          (new-id next it.next (line-reply trace replies second w it.other (r.New next) (r.New it.next) there it.there)) it.equal

module _ (trace : List Vector) (replies : List Reply) (workers block : ℕ) where
  -- a line may be marked where it is reached, and all lines before that count are marked
  may-reached : (marks : List Bool) (i : ℕ) → AreSound trace replies workers block marks → MayMark trace replies workers block marks i → Reached trace replies workers block i
  may-reached marks i sound may = by may.reply may.line may.known
    where
      earlier : (k : ℕ) → k < i → owner workers block k ≡ owner workers block i → Reached trace replies workers block k
      earlier k less own = sound.reached k (may.earlier k less own)

      by : (reply : Reply) → Line trace replies i may.vector reply → (is_seen reply ≡ true → NewHasMark trace replies marks may.vector) → Reached trace replies workers block i
      by (r.New id) line known = by_itself may.vector (r.New id) line refl earlier
      by (r.Seen id) line known = let new = known refl in after_new may.vector id line earlier new.1 new.2 (sound.reached new.0 new.3)
      by r.FullNodes line known = by_itself may.vector r.FullNodes line refl earlier
      by r.FullRoots line known = by_itself may.vector r.FullRoots line refl earlier

  pub mark-sound : (marks : List Bool) (i : ℕ) → i < length trace → AreSound trace replies workers block marks → IsToMark trace replies workers block marks i
      → AreSound trace replies workers block (set marks i true)
  mark-sound marks i inside sound to = record { count = length-set marks i true ∙ sound.count; reached = λ k. reached k (k == i) refl }
    where
      reached : (k : ℕ) (b : Bool) → (k == i) ≡ b → HasMark (set marks i true) k → Reached trace replies workers block k
      reached k true t marked = (let one : i ≡ k = grind arith in subst (Reached trace replies workers block) one (may-reached marks i sound to.1))
      reached k false t marked =
          sound.reached k (sym (get_or-set_other marks i k true false (λ (one : k ≡ i). (let yes : (k == i) ≡ true = grind arith in cc (yes, t)))) ∙ marked)

  module _ (marks : List Bool) (i : ℕ) (one_each : length replies ≡ length trace) (inside : i < length trace) (free : get_or marks i false ≡ false)
      (earlier : (k : ℕ) → k < i → owner workers block k ≡ owner workers block i → HasMark marks k) where
    line-here : (reply : Reply) → get_or replies i (r.New 0) ≡ reply → (v : Vector) → slice_get trace i ≡ Some v → Line trace replies i v reply
    line-here reply e v at = (at, at-get replies i (r.New 0) reply (omega (arith, inside, one_each)) e)

    pub to-mark-itself : ((id : ℕ) → get_or replies i (r.New 0) ≡ r.Seen id → ⊥) → IsTrue true ↔ IsToMark trace replies workers block marks i
    to-mark-itself other =
        let v = at-within trace i inside in
        let reply = get_or replies i (r.New 0) in (
          λ t. (
            free,
            record {
              vector = v.0;
              reply = reply;
              line = line-here reply refl v.0 v.1;
              earlier = earlier;
              known = λ seen. absurd (let quiet = unseen reply other in let e : true ≡ false = sym seen ∙ quiet in cc e);
            },
          ),
          λ it. refl,
        )

    pub to-mark-by-new : (id : ℕ) (v : Vector) → slice_get trace i ≡ Some v → get_or replies i (r.New 0) ≡ r.Seen id → (b : Bool) → IsTrue b ↔ NewHasMark trace replies marks v
        → IsTrue b ↔ IsToMark trace replies workers block marks i
    to-mark-by-new id v at e b new = (
      λ yes. (free, record { vector = v; reply = r.Seen id; line = line-here (r.Seen id) e v at; earlier = earlier; known = λ seen. new.0 yes }),
      λ it. (let line = line-here (r.Seen id) e v at in
          let reply = line-reply trace replies i v it.1.vector (r.Seen id) it.1.reply line it.1.line in
          let vector = line-vector trace replies i it.1.vector v it.1.reply (r.Seen id) it.1.line line in
          new.1 (subst (NewHasMark trace replies marks) vector (it.1.known (sym (ap is_seen reply))))),
    )

  -- where none may be marked that isn't, all that are reached are marked
  module _ (marks : List Bool) (sound : AreSound trace replies workers block marks)
      (none : (i : ℕ) → i < length trace → IsToMark trace replies workers block marks i → ⊥) where
    closed : (i : ℕ) → MayMark trace replies workers block marks i → HasMark marks i
    closed i may = by (get_or marks i false) refl
      where
        by : (b : Bool) → get_or marks i false ≡ b → get_or marks i false ≡ true
        by true e = e
        by false e = absurd (none i (slice_get_within trace i may.vector may.line.0) (e, may))

    all-marked : (i : ℕ) → Reached trace replies workers block i → HasMark marks i
    all-marked i (by_itself v reply line quiet earlier) =
        closed i (record { vector = v; reply = reply; line = line; earlier = λ k less own. all-marked k (earlier k less own); known = λ e. absurd (let f : true ≡ false = sym e ∙ quiet in cc f) })
    all-marked i (after_new {m = m} v id line earlier other there reached) =
        closed i (record { vector = v; reply = r.Seen id; line = line; earlier = λ k less own. all-marked k (earlier k less own); known = λ e. (m, other, there, all-marked m reached) })

    pub are-reached : AreReached trace replies workers block marks
    are-reached = record { sound = sound; all = all-marked }
