-- Of a history of insertions and marks two further ones are taken: that of its insertions, and that of its marks,
-- each as the insertion that it would be if a vector got its name by the first mark. Both are legal.
use Rattle.std.proofs.Common.{◌≡◌, ℕ, zero, suc, List, [], ◌∷◌, ◌++◌, length, Option, Some, None, Bool, true, false, cond, refl, sym, ap, subst, ◌∙◌, append-nil}
use Rattle.std.specs.Prelude.{◌&&◌, ◌==◌, Contains, flat_map, if◌then◌else◌, is_some, not, option_map, slice_get, ⊤}
use Rattle.std.specs.List.{cons_option, filter_map}
use Rattle.std.proofs.lemmas.List.Elements.{filter_map-append}
use Rattle.std.proofs.lemmas.Bool.{eq-eqb}
use Rattle.std.specs.Int.{bit_at}
use Rattle.std.proofs.lemmas.List.Sums.{fold-append}
use Rattle.std.proofs.lemmas.Nat.Bits.{bit_at-zero}
use Rattle.packed_word.proofs.Flags.{set_here}
use Rattle.root_plain.proofs.FlagBits.{with_bit_is}
use Rattle.pair_nodes.specs.Roots.{deed}
use Rattle.tdb_base.specs.Agrees.{AgreesOver}
use Rattle.tdb_base.specs.History.{Vector, Act, Put, Set, Clear, Look, Entry, History, calls, flags_after, flags_of, has_bit, is_fresh, name_of, names, same, with_bit}
use Rattle.tdb_base.specs.Legal.{Allows, IsLegal}
use Rattle.tdb_base.specs.Replies.{is_full}
use Rattle.tdb_base.specs.declared.reply.Reply.{Reply}
use Rattle.tdb_base.proofs.ListLemmas.{At, at-contained, at-left, at-next, at-right}
use Rattle.tdb_base.proofs.NameLemmas.{entry-named, flags-nil, legal-push, legal-walk, name-kept, name-push, names-differ, names-this, same-equal}
use Rattle.tdb_base.proofs.TallyLemmas.{contained-at}

-- ---- parts of a history

-- its insertions
abbrev pub put_of : Act → Entry → Option Entry
put_of (Put fresh) e = Some e
put_of (Set bit first) e = None
put_of (Clear bit first) e = None
put_of (Look flags) e = None

abbrev pub puts_in : History → History
puts_in h = filter_map (λ e. put_of e.act e) h

-- its marks, as insertions
abbrev pub mark_of : Act → Entry → Option Entry
mark_of (Put fresh) e = None
mark_of (Set bit first) e = Some (record e { act = Put first })
mark_of (Clear bit first) e = None
mark_of (Look flags) e = None

abbrev pub marks_in : History → History
marks_in h = filter_map (λ e. mark_of e.act e) h

pub put-caller : (act : Act) (e x : Entry) → put_of act e ≡ Some x → x.caller ≡ e.caller
put-caller (Put fresh) e x t = let one : e ≡ x = cc t in ap (λ (y : Entry). y.caller) (sym one)
put-caller (Set bit first) e x t = cc t
put-caller (Clear bit first) e x t = cc t
put-caller (Look flags) e x t = cc t

pub mark-caller : (act : Act) (e x : Entry) → mark_of act e ≡ Some x → x.caller ≡ e.caller
mark-caller (Put fresh) e x t = cc t
mark-caller (Set bit first) e x t = let one : record e { act = Put first } ≡ x = cc t in ap (λ (y : Entry). y.caller) (sym one)
mark-caller (Clear bit first) e x t = cc t
mark-caller (Look flags) e x t = cc t

-- ---- lists

filter_map-at : {A B : Type 0} (f : A → Option B) (xs : List A) (y : B) (k : ℕ) → slice_get (filter_map f xs) k ≡ Some y → (x : A) × At xs x × (f x ≡ Some y)
filter_map-at f [] y k e = cc e
filter_map-at {A = A} {B = B} f (x ∷ xs) y k e = by (f x) refl (filter_map-at f xs y) k e
  where
    by : (o : Option B) → f x ≡ o → ((k : ℕ) → slice_get (filter_map f xs) k ≡ Some y → (z : A) × At xs z × (f z ≡ Some y))
        → (k : ℕ) → slice_get (cons_option o (filter_map f xs)) k ≡ Some y → (z : A) × At (x ∷ xs) z × (f z ≡ Some y)
    by None t more k e = let rest = more k e in (rest.0, at-next x xs rest.0 rest.1, rest.2)
    by (Some z) t more zero e = (x, (zero, refl), t ∙ e)
    by (Some z) t more (suc k) e = let rest = more k e in (rest.0, at-next x xs rest.0 rest.1, rest.2)

pub flat_map-at : {A B : Type 0} (f : A → List B) (xs : List A) (y : B) → At (flat_map f xs) y → (x : A) × At xs x × At (f x) y
flat_map-at f [] y e = cc e.1
flat_map-at {A = A} {B = B} f (x ∷ xs) y e = by (f x) e.0 e.1 (λ k t. flat_map-at f xs y (k, t)) (λ t. (x, (zero, refl), t))
  where
    by : (ys : List B) (k : ℕ) → slice_get (ys ++ flat_map f xs) k ≡ Some y → ((k : ℕ) → slice_get (flat_map f xs) k ≡ Some y → (z : A) × At xs z × At (f z) y)
        → (At ys y → (z : A) × At (x ∷ xs) z × At (f z) y) → (z : A) × At (x ∷ xs) z × At (f z) y
    by [] k t more here = let rest = more k t in (rest.0, at-next x xs rest.0 rest.1, rest.2)
    by (w ∷ ys) zero t more here = here (zero, t)
    by (w ∷ ys) (suc k) t more here = by ys k t more (λ a. here (at-next w ys y a))

-- what is kept of the calls of a caller are the calls of what is kept
calls-kept : (f : Entry → Option Entry) → ((e x : Entry) → f e ≡ Some x → x.caller ≡ e.caller) → (h : History) (c : ℕ) → calls (filter_map f h) c ≡ filter_map f (calls h c)
calls-kept f keeps [] c = refl
calls-kept f keeps (e ∷ h) c = by (f e) refl (e.caller == c) refl (calls-kept f keeps h c)
  where
    by : (o : Option Entry) → f e ≡ o → (b : Bool) → (e.caller == c) ≡ b → calls (filter_map f h) c ≡ filter_map f (calls h c)
        → calls (cons_option o (filter_map f h)) c ≡ filter_map f (cond b (e ∷ calls h c) (calls h c))
    by None t true u rest = rest ∙ ap (λ (q : Option Entry). cons_option q (filter_map f (calls h c))) (sym t)
    by None t false u rest = rest
    by (Some x) t b u rest =
        let own : (x.caller == c) ≡ b = ap (λ (n : ℕ). n == c) (keeps e x t) ∙ u in
        ap (λ (d : Bool). cond d (x ∷ calls (filter_map f h) c) (calls (filter_map f h) c)) own ∙ which b t rest
      where
        which : (b : Bool) → f e ≡ Some x → calls (filter_map f h) c ≡ filter_map f (calls h c)
            → cond b (x ∷ calls (filter_map f h) c) (calls (filter_map f h) c) ≡ filter_map f (cond b (e ∷ calls h c) (calls h c))
        which true t rest = ap (λ (l : History). x ∷ l) rest ∙ ap (λ (q : Option Entry). cons_option q (filter_map f (calls h c))) (sym t)
        which false t rest = rest

kept-flat : (f : Entry → Option Entry) (g k : ℕ → History) → ((i : ℕ) → filter_map f (g i) ≡ k i) → (xs : List ℕ) → filter_map f (flat_map g xs) ≡ flat_map k xs
kept-flat f g k same [] = refl
kept-flat f g k same (x ∷ xs) = filter_map-append f (g x) (flat_map g xs) ∙ (λ i. same x i ++ kept-flat f g k same xs i)

-- of a history from nothing that agrees with replies, what is kept agrees with these replies
module _ (f : Entry → Option Entry) (keeps : (e x : Entry) → f e ≡ Some x → x.caller ≡ e.caller) where
  pub kept-agrees : (count : ℕ) (lines_of : ℕ → List ℕ) (old new : ℕ → ℕ → History) (trace : List Vector) (replies others : List Reply) (workers : ℕ) (h : History) (callers : List ℕ)
      → AgreesOver count lines_of old trace replies workers [] h callers → ((c i : ℕ) → filter_map f (old c i) ≡ new c i) → length others ≡ length trace → IsLegal count (filter_map f h)
      → ((i : ℕ) (v : Vector) (reply : Reply) → slice_get trace i ≡ Some v → slice_get others i ≡ Some reply → is_full reply ≡ true → name_of (filter_map f h) v ≡ None)
      → AgreesOver count lines_of new trace others workers [] (filter_map f h) callers
  kept-agrees count lines_of old new trace replies others workers h callers a same long legal full = record {
    among = record {
      one_each = long;
      legal = legal;
      extends = record { more = filter_map f h; whole = refl };
      callers_count = a.among.callers_count;
      callers_differ = a.among.callers_differ;
      callers_new = λ c t. refl;
      in_order = λ j c at. calls-kept f keeps h c ∙ (ap (filter_map f) (a.among.in_order j c at) ∙ kept-flat f (old c) (new c) (same c) (lines_of j));
      full = full;
    };
    no_others = λ more whole e there.
        (let at = at-contained more e there in
        let source = filter_map-at f h e at.0 (ap (λ (t : History). slice_get t at.0) whole ∙ at.1) in
        subst (λ (c : ℕ). Contains callers c) (sym (keeps source.0 e source.2)) (a.no_others h refl source.0 (contained-at h source.0 source.1)));
  }

-- ---- a history of insertions and marks of one flag

abbrev pub IsOfMarks : ℕ → Act → Type 0
IsOfMarks flag (Put fresh) = ⊤
IsOfMarks flag (Set bit first) = bit ≡ flag
IsOfMarks flag (Clear bit first) = ⊥
IsOfMarks flag (Look flags) = ⊥

flags-push : (h : History) (e : Entry) (v : Vector) → flags_of (h ++ e ∷ []) v ≡ (if same e.vector v then flags_after e.act (flags_of h v) else flags_of h v)
unfolding flags_of
flags-push h e v = fold-append (λ (now : Option ℕ) (e : Entry). if same e.vector v then flags_after e.act now else now) None h (e ∷ [])

set-bit : (n bit : ℕ) → has_bit (with_bit n bit) bit ≡ true
set-bit n bit = eq-eqb (bit_at (with_bit n bit) bit) 1 (ap (λ (m : ℕ). bit_at m bit) (sym (with_bit_is n bit)) ∙ set_here n bit)

no-bit : (bit : ℕ) → has_bit 0 bit ≡ false
no-bit bit = ap (λ (n : ℕ). n == 1) (bit_at-zero bit)

-- what is so of it, and of its parts
pub record Kept (count flag : ℕ) (h : History) : Type 0 where
  pub legal : IsLegal count h
  pub puts_legal : IsLegal count (puts_in h)
  pub puts_names : (v : Vector) → name_of (puts_in h) v ≡ name_of h v
  pub marks_legal : IsLegal count (marks_in h)
  pub marks_names : (v : Vector) (id : ℕ) → name_of (marks_in h) v ≡ Some id → name_of h v ≡ Some id
  -- a vector's flag is set where it was marked
  pub flags : (v : Vector) (n : ℕ) → flags_of h v ≡ Some n → has_bit n flag ≡ is_some (name_of (marks_in h) v)

nothing : (before after : History) (e : Entry) → [] ≡ before ++ e ∷ after → ⊥
nothing [] after e whole = cc whole
nothing (b ∷ before) after e whole = cc whole

legal-nil : (count : ℕ) → IsLegal count []
legal-nil count = record { each = λ before e after whole. absurd (nothing before after e whole) }

kept-nil : (count flag : ℕ) → Kept count flag []
kept-nil count flag = record {
  legal = legal-nil count;
  puts_legal = legal-nil count;
  puts_names = λ v. refl;
  marks_legal = legal-nil count;
  marks_names = λ v id n. n;
  flags = λ v n f. cc (flags-nil v, f);
}

-- one entry more
module _ (count flag : ℕ) (h : History) (k : Kept count flag h) (c : ℕ) (v : Vector) (id : ℕ) where
  named-one : (act : Act) → is_fresh act ≡ false → (w : Vector) → name_of (h ++ deed c act v id ∷ []) w ≡ name_of h w
  named-one act old w = name-push h (deed c act v id) w ∙ ap (λ (b : Bool). if b && same v w then Some id else name_of h w) old

  kept-new : Allows count h v id (Put true) → Kept count flag (h ++ deed c (Put true) v id ∷ [])
  kept-new a =
      let e = deed c (Put true) v id in
      let legal = legal-push count h e k.legal a in
      let puts : puts_in (h ++ e ∷ []) ≡ puts_in h ++ e ∷ [] = filter_map-append (λ (x : Entry). put_of x.act x) h (e ∷ []) in
      let marks : marks_in (h ++ e ∷ []) ≡ marks_in h = filter_map-append (λ (x : Entry). mark_of x.act x) h (e ∷ []) ∙ append-nil (marks_in h) in
      record {
        legal = legal;
        puts_legal = subst (λ (x : History). IsLegal count x) (sym puts) (legal-push count (puts_in h) e k.puts_legal (k.puts_names v ∙ a.0, λ w t. a.1 w (sym (k.puts_names w) ∙ t)));
        puts_names = λ w. ap (λ (x : History). name_of x w) puts
            ∙ (name-push (puts_in h) e w ∙ (ap (λ (o : Option ℕ). if names e w then Some id else o) (k.puts_names w) ∙ sym (name-push h e w)));
        marks_legal = subst (λ (x : History). IsLegal count x) (sym marks) k.marks_legal;
        marks_names = λ w i t. name-kept count w i h (e ∷ []) legal (k.marks_names w i (ap (λ (x : History). name_of x w) (sym marks) ∙ t));
        flags = λ w n f. by w n (same v w) refl (sym (flags-push h e w) ∙ f) ∙ ap (λ (x : History). is_some (name_of x w)) (sym marks);
      }
    where
      none : (w : Vector) → v ≡ w → (o : Option ℕ) → name_of (marks_in h) w ≡ o → false ≡ is_some o
      none w own None t = refl
      none w own (Some i) t = let named = k.marks_names w i t in let free = subst (λ (x : Vector). name_of h x ≡ None) own a.0 in cc (named, free)

      by : (w : Vector) (n : ℕ) (b : Bool) → same v w ≡ b → (if b then Some 0 else flags_of h w) ≡ Some n → has_bit n flag ≡ is_some (name_of (marks_in h) w)
      by w n true s f =
          let zeros : 0 ≡ n = cc f in
          ap (λ (m : ℕ). has_bit m flag) (sym zeros) ∙ (no-bit flag ∙ none w (same-equal v w s) (name_of (marks_in h) w) refl)
      by w n false s f = k.flags w n f

  kept-seen : Allows count h v id (Put false) → Kept count flag (h ++ deed c (Put false) v id ∷ [])
  kept-seen a =
      let e = deed c (Put false) v id in
      let puts : puts_in (h ++ e ∷ []) ≡ puts_in h ++ e ∷ [] = filter_map-append (λ (x : Entry). put_of x.act x) h (e ∷ []) in
      let marks : marks_in (h ++ e ∷ []) ≡ marks_in h = filter_map-append (λ (x : Entry). mark_of x.act x) h (e ∷ []) ∙ append-nil (marks_in h) in
      record {
        legal = legal-push count h e k.legal a;
        puts_legal = subst (λ (x : History). IsLegal count x) (sym puts) (legal-push count (puts_in h) e k.puts_legal (k.puts_names v ∙ a));
        puts_names = λ w. ap (λ (x : History). name_of x w) puts ∙ (name-push (puts_in h) e w ∙ (k.puts_names w ∙ sym (named-one (Put false) refl w)));
        marks_legal = subst (λ (x : History). IsLegal count x) (sym marks) k.marks_legal;
        marks_names = λ w i t. named-one (Put false) refl w ∙ k.marks_names w i (ap (λ (x : History). name_of x w) (sym marks) ∙ t);
        flags = λ w n f. by w n (same v w) refl (sym (flags-push h e w) ∙ f) ∙ ap (λ (x : History). is_some (name_of x w)) (sym marks);
      }
    where
      by : (w : Vector) (n : ℕ) (b : Bool) → same v w ≡ b → (if b then flags_of h w else flags_of h w) ≡ Some n → has_bit n flag ≡ is_some (name_of (marks_in h) w)
      by w n true s f = k.flags w n f
      by w n false s f = k.flags w n f

  -- a mark may come next as the insertion that it stands for
  allows-mark : (bit : ℕ) (first : Bool) → bit ≡ flag → Allows count h v id (Set bit first) → Allows count (marks_in h) v id (Put first)
  allows-mark bit first own a = by (name_of (marks_in h) v) refl (a.2.2 ∙ ap not (ap (has_bit a.2.0) own ∙ k.flags v a.2.0 a.2.1))
    where
      by : (o : Option ℕ) → name_of (marks_in h) v ≡ o → first ≡ not (is_some o) → Allows count (marks_in h) v id (Put first)
      by None t u = subst (λ (b : Bool). Allows count (marks_in h) v id (Put b)) (sym u) (
        t,
        λ w named. (let same-vector : w ≡ v = names-differ count h k.legal w v id (k.marks_names w id named) a.0 in
            let here = subst (λ (x : Vector). name_of (marks_in h) x ≡ Some id) same-vector named in cc (here, t)),
      )
      by (Some i) t u =
          let named = k.marks_names v i t in
          let one : i ≡ id = cc (named, a.0) in
          subst (λ (b : Bool). Allows count (marks_in h) v id (Put b)) (sym u) (t ∙ ap Some one)

  kept-set : (bit : ℕ) (first : Bool) → bit ≡ flag → Allows count h v id (Set bit first) → Kept count flag (h ++ deed c (Set bit first) v id ∷ [])
  kept-set bit first own a =
      let e = deed c (Set bit first) v id in
      let puts : puts_in (h ++ e ∷ []) ≡ puts_in h = filter_map-append (λ (x : Entry). put_of x.act x) h (e ∷ []) ∙ append-nil (puts_in h) in
      let marks : marks_in (h ++ e ∷ []) ≡ marks_in h ++ deed c (Put first) v id ∷ [] = filter_map-append (λ (x : Entry). mark_of x.act x) h (e ∷ []) in
      record {
        legal = legal-push count h e k.legal a;
        puts_legal = subst (λ (x : History). IsLegal count x) (sym puts) k.puts_legal;
        puts_names = λ w. ap (λ (x : History). name_of x w) puts ∙ (k.puts_names w ∙ sym (named-one (Set bit first) refl w));
        marks_legal = subst (λ (x : History). IsLegal count x) (sym marks) marked;
        marks_names = λ w i t. named-one (Set bit first) refl w ∙ of-mark w i (names (deed c (Put first) v id) w) refl (sym (name-push (marks_in h) (deed c (Put first) v id) w) ∙ (ap (λ (x : History). name_of x w) (sym marks) ∙ t));
        flags = λ w n f. by w n (same v w) refl (sym (flags-push h e w) ∙ f) ∙ ap (λ (x : History). is_some (name_of x w)) (sym marks);
      }
    where
      marked : IsLegal count (marks_in h ++ deed c (Put first) v id ∷ [])
      marked = legal-push count (marks_in h) (deed c (Put first) v id) k.marks_legal (allows-mark bit first own a)

      of-mark : (w : Vector) (i : ℕ) (b : Bool) → names (deed c (Put first) v id) w ≡ b → (if b then Some id else name_of (marks_in h) w) ≡ Some i → name_of h w ≡ Some i
      of-mark w i true s t = subst (λ (x : Vector). name_of h x ≡ Some id) (names-this (deed c (Put first) v id) w s).1 a.0 ∙ t
      of-mark w i false s t = k.marks_names w i t

      named-now : (w : Vector) → v ≡ w → name_of (marks_in h ++ deed c (Put first) v id ∷ []) w ≡ Some id
      named-now w same-vector = subst (λ (x : Vector). name_of (marks_in h ++ deed c (Put first) v id ∷ []) x ≡ Some id) same-vector
          (entry-named count (marks_in h ++ deed c (Put first) v id ∷ []) (marks_in h) [] (deed c (Put first) v id) marked refl)

      both-false : (b : Bool) → (b && false) ≡ false
      both-false true = refl
      both-false false = refl

      by : (w : Vector) (n : ℕ) (b : Bool) → same v w ≡ b → (if b then option_map (λ m. with_bit m bit) (flags_of h w) else flags_of h w) ≡ Some n
          → has_bit n flag ≡ is_some (name_of (marks_in h ++ deed c (Put first) v id ∷ []) w)
      by w n true s f =
          let same-vector = same-equal v w s in
          let before = subst (λ (x : Vector). flags_of h x ≡ Some a.2.0) same-vector a.2.1 in
          let now : with_bit a.2.0 bit ≡ n = cc (ap (option_map (λ (m : ℕ). with_bit m bit)) before, f) in
          ap (has_bit n) (sym own) ∙ (ap (λ (m : ℕ). has_bit m bit) (sym now) ∙ (set-bit a.2.0 bit ∙ ap is_some (sym (named-now w same-vector))))
      by w n false s f =
          k.flags w n f
          ∙ ap is_some (sym (name-push (marks_in h) (deed c (Put first) v id) w ∙ ap (λ (b : Bool). if b then Some id else name_of (marks_in h) w) (ap (λ (b : Bool). first && b) s ∙ both-false first)))

  kept-more : (act : Act) → Allows count h v id act → IsOfMarks flag act → Kept count flag (h ++ deed c act v id ∷ [])
  kept-more (Put true) a m = kept-new a
  kept-more (Put false) a m = kept-seen a
  kept-more (Set bit first) a m = kept-set bit first m a
  kept-more (Clear bit first) a m = absurd m
  kept-more (Look flags) a m = absurd m

pub kept-all : (count flag : ℕ) (h : History) → IsLegal count h → ((e : Entry) → At h e → IsOfMarks flag e.act) → Kept count flag h
kept-all count flag h legal = legal-walk count (λ x. ((e : Entry) → At x e → IsOfMarks flag e.act) → Kept count flag x)
    (λ x e a p all. kept-more count flag x (p (λ f t. all f (t.0, at-left x (e ∷ []) f t.0 t.1))) e.caller e.vector e.id e.act a (all e (at-right x (e ∷ []) e (zero, refl))))
    [] h legal (λ none. kept-nil count flag)
