-- Other numbers for the callers of a history change no name, no flag and nothing that is legal; where the callers stay apart, what agreed agrees.
use Rattle.std.proofs.Common.{◌≡◌, ◌<◌, ◌+◌, ◌∙◌, ℕ, zero, suc, List, [], ◌∷◌, ◌++◌, length, get_or, Option, Some, None, Bool, true, false, cond, refl, sym, ap, subst, arith}
use Rattle.std.proofs.lemmas.List.{length-map, map-append}
use Rattle.std.proofs.lemmas.List.Folds.{fold-map}
use Rattle.std.proofs.lemmas.List.Sums.{position_or_len_is}
use Rattle.std.proofs.lemmas.Option.{get_or_from_slice_get, slice_get-get_or, slice_get_within}
use Rattle.std.specs.Prelude.{◌==◌, Contains, filter, flat_map, if◌then◌else◌, map, option_to_list, slice_get}
use Rattle.std.specs.List.{range_with_len}
use Rattle.tdb_base.specs.Agrees.{AgreesOver, AgreesOwned, entries_of_insertion, entry_of_both}
use Rattle.tdb_base.specs.History.{Vector, Act, Put, Set, Clear, Look, Entry, History, calls, flags_after, flags_of, is_fresh, name_of, names, same}
use Rattle.tdb_base.specs.Legal.{Allows, IsLegal}
use Rattle.tdb_base.specs.Lines.{distinct, named}
use Rattle.tdb_base.specs.Renamed.{position_of, renamed, renamed_entry}
use Rattle.tdb_base.specs.declared.reply.Reply.{Reply}
use Rattle.tdb_base.specs.declared.reply.Reply.TheVariants as r
use Rattle.tdb_base.proofs.DistinctLemmas.{at-map, map-at}
use Rattle.tdb_base.proofs.ListLemmas.{At, at-contained}
use Rattle.tdb_base.proofs.TallyLemmas.{contained-at}

-- no name and no flag changes
pub name-renamed : (f : ℕ → ℕ) (h : History) (v : Vector) → name_of (renamed f h) v ≡ name_of h v
unfolding name_of
name-renamed f h v = fold-map (λ (now : Option ℕ) (e : Entry). if names e v then Some e.id else now) (renamed_entry f) None h

pub flags-renamed : (f : ℕ → ℕ) (h : History) (v : Vector) → flags_of (renamed f h) v ≡ flags_of h v
unfolding flags_of
flags-renamed f h v =
    fold-map (λ (now : Option ℕ) (e : Entry). if same e.vector v then flags_after e.act now else now) (renamed_entry f) None h

-- each entry is an old one but for its caller
pub renamed-at : (f : ℕ → ℕ) (h : History) (k : ℕ) (e : Entry) → slice_get (renamed f h) k ≡ Some e
    → (old : Entry) × (slice_get h k ≡ Some old) × (e.caller ≡ f old.caller) × (e.act ≡ old.act) × (e.vector ≡ old.vector) × (e.id ≡ old.id)
renamed-at f h k e at =
    let old = map-at (renamed_entry f) h e k at in (
      old.0,
      old.1,
      ap (λ (x : Entry). x.caller) (sym old.2),
      ap (λ (x : Entry). x.act) (sym old.2),
      ap (λ (x : Entry). x.vector) (sym old.2),
      ap (λ (x : Entry). x.id) (sym old.2),
    )

-- the same vectors have a name
pub named-renamed : (f : ℕ → ℕ) (h : History) → named (renamed f h) ≡ named h
named-renamed f h = ap distinct (vectors h)
  where
    vectors : (h : History) → map (λ e. e.vector) (filter (λ e. is_fresh e.act) (renamed f h)) ≡ map (λ e. e.vector) (filter (λ e. is_fresh e.act) h)
    vectors [] = refl
    vectors (e ∷ h) = by (is_fresh e.act) (vectors h)
      where
        by : (b : Bool) → map (λ e. e.vector) (filter (λ e. is_fresh e.act) (renamed f h)) ≡ map (λ e. e.vector) (filter (λ e. is_fresh e.act) h)
            → map (λ e. e.vector) (cond b (renamed_entry f e ∷ filter (λ e. is_fresh e.act) (renamed f h)) (filter (λ e. is_fresh e.act) (renamed f h)))
            ≡ map (λ e. e.vector) (cond b (e ∷ filter (λ e. is_fresh e.act) h) (filter (λ e. is_fresh e.act) h))
        by true rest = ap (λ (t : List Vector). e.vector ∷ t) rest
        by false rest = rest

-- what a history allows, one with the same names and flags allows
allows-same : (count : ℕ) (h other : History) (v : Vector) (id : ℕ) (act : Act) → ((w : Vector) → name_of other w ≡ name_of h w) → ((w : Vector) → flags_of other w ≡ flags_of h w)
    → Allows count h v id act → Allows count other v id act
allows-same count h other v id (Put true) name flags a = (name v ∙ a.0, λ w given. a.1 w (sym (name w) ∙ given))
allows-same count h other v id (Put false) name flags a = name v ∙ a
allows-same count h other v id (Set bit first) name flags a = (name v ∙ a.0, a.1, (a.2.0, flags v ∙ a.2.1, a.2.2))
allows-same count h other v id (Clear bit first) name flags a = (name v ∙ a.0, a.1, (a.2.0, flags v ∙ a.2.1, a.2.2))
allows-same count h other v id (Look n) name flags a = (name v ∙ a.0, flags v ∙ a.1)

-- where a list of images is cut, so are the elements
record MapCut {A B : Type 0} (f : A → B) (xs : List A) (before : List B) (y : B) : Type 0 where
  front : List A
  item : A
  after : List A
  whole : xs ≡ front ++ item ∷ after
  fronts : map f front ≡ before
  image : f item ≡ y

map-cut : {A B : Type 0} (f : A → B) (xs : List A) (before : List B) (y : B) (after : List B) → map f xs ≡ before ++ y ∷ after → MapCut f xs before y
map-cut f [] [] y after whole = cc whole
map-cut f [] (b ∷ before) y after whole = cc whole
map-cut f (x ∷ xs) [] y after whole = record { front = []; item = x; after = xs; whole = refl; fronts = refl; image = cc whole }
map-cut f (x ∷ xs) (b ∷ before) y after whole =
    let one : f x ≡ b = cc whole in
    let rest = map-cut f xs before y after (cc whole) in
    record {
      front = x ∷ rest.front;
      item = rest.item;
      after = rest.after;
      whole = ap (λ (t : List _). x ∷ t) rest.whole;
      fronts = let fronts = rest.fronts in cc (one, fronts);
      image = rest.image;
    }

pub legal-renamed : (count : ℕ) (f : ℕ → ℕ) (h : History) → IsLegal count h → IsLegal count (renamed f h)
legal-renamed count f h l = record {
  each = λ before e after whole.
      let cut = map-cut (renamed_entry f) h before e after whole in
      let allowed = allows-same count cut.front (renamed f cut.front) cut.item.vector cut.item.id cut.item.act (name-renamed f cut.front) (flags-renamed f cut.front)
      (l.each cut.front cut.item cut.after cut.whole) in
      let here = subst (λ (t : History). Allows count t cut.item.vector cut.item.id cut.item.act) cut.fronts allowed in
      subst (λ (x : Entry). Allows count before x.vector x.id x.act) cut.image here;
}

-- the calls of a caller whose number nobody else is given
calls-renamed : (f : ℕ → ℕ) (h : History) (c : ℕ) → ((e : Entry) → At h e → f e.caller ≡ f c → e.caller ≡ c) → calls (renamed f h) (f c) ≡ renamed f (calls h c)
calls-renamed f [] c apart = refl
calls-renamed f (e ∷ h) c apart = by (f e.caller == f c) (e.caller == c) refl refl (calls-renamed f h c (λ x at. apart x (suc at.0, at.1)))
  where
    by : (new old : Bool) → (f e.caller == f c) ≡ new → (e.caller == c) ≡ old → calls (renamed f h) (f c) ≡ renamed f (calls h c)
        → cond new (renamed_entry f e ∷ calls (renamed f h) (f c)) (calls (renamed f h) (f c)) ≡ renamed f (cond old (e ∷ calls h c) (calls h c))
    by true true s t rest = ap (λ (x : History). renamed_entry f e ∷ x) rest
    by false false s t rest = rest
    by true false s t rest =
        let new : f e.caller ≡ f c = grind arith in
        let old : e.caller ≡ c = apart e (zero, refl) new in
        let yes : (e.caller == c) ≡ true = grind arith in
        cc (yes, t)
    by false true s t rest =
        let old : e.caller ≡ c = grind arith in
        let new : f e.caller ≡ f c = ap f old in
        let yes : (f e.caller == f c) ≡ true = grind arith in
        cc (yes, s)

-- a line has the same entries of every caller, but for who called
abbrev pub RenamesAlike : (ℕ → ℕ → History) → Type 0
RenamesAlike line_entries = (f : ℕ → ℕ) (c i : ℕ) → renamed f (line_entries c i) ≡ line_entries (f c) i

-- what an insertion makes, made by another caller
insertion-renamed : (trace : List Vector) (replies : List Reply) → RenamesAlike (entries_of_insertion trace replies)
insertion-renamed trace replies f c i = both (slice_get trace i) (slice_get replies i)
  where
    both : (v : Option Vector) (reply : Option Reply)
        → renamed f (option_to_list (entry_of_both c v reply)) ≡ option_to_list (entry_of_both (f c) v reply)
    both (Some v) (Some (r.New id)) = refl
    both (Some v) (Some (r.Seen id)) = refl
    both (Some v) (Some r.FullNodes) = refl
    both (Some v) (Some r.FullRoots) = refl
    both (Some v) None = refl
    both None (Some reply) = refl
    both None None = refl

-- the entries of some lines, of another caller
lines-renamed : (f : ℕ → ℕ) (line_entries : ℕ → ℕ → History) (c : ℕ) (places : List ℕ) → RenamesAlike line_entries
    → renamed f (flat_map (line_entries c) places) ≡ flat_map (line_entries (f c)) places
lines-renamed f line_entries c [] alike = refl
lines-renamed f line_entries c (i ∷ places) alike =
    map-append (renamed_entry f) (line_entries c i) (flat_map (line_entries c) places)
    ∙ ap (λ (t : History). t ++ renamed f (flat_map (line_entries c) places)) (alike f c i)
    ∙ ap (λ (t : History). line_entries (f c) i ++ t) (lines-renamed f line_entries c places alike)

-- no two of these callers are given one number
abbrev pub KeepsApart : (ℕ → ℕ) → List ℕ → Type 0
KeepsApart f callers = (a b : ℕ) → Contains callers a → Contains callers b → f a ≡ f b → a ≡ b

-- what agrees with a history from nothing agrees with it under other numbers that keep the callers apart
pub agrees_apart : {flag_count : ℕ} {lines_of : ℕ → List ℕ} {line_entries : ℕ → ℕ → History}
    {trace : List Vector} {replies : List Reply} {workers : ℕ} {h : History} {callers : List ℕ}
    (f : ℕ → ℕ) → KeepsApart f callers → RenamesAlike line_entries
    → AgreesOver flag_count lines_of line_entries trace replies workers [] h callers
    → AgreesOver flag_count lines_of line_entries trace replies workers [] (renamed f h) (map f callers)
agrees_apart {flag_count} {lines_of} {line_entries} {trace} {replies} {workers} {h} {callers} f apart alike agrees = record {
  among = record {
    one_each = agrees.among.one_each;
    legal = legal-renamed flag_count f h agrees.among.legal;
    extends = record { more = renamed f h; whole = refl };
    callers_count = length-map callers f ∙ agrees.among.callers_count;
    callers_differ = λ j k c a b.
        (let first = map-at f callers c j a in
        let second = map-at f callers c k b in
        let one = apart first.0 second.0 (contained-at callers first.0 (j, first.1)) (contained-at callers second.0 (k, second.1)) (first.2 ∙ sym second.2) in
        agrees.among.callers_differ j k second.0 (subst (λ (x : ℕ). slice_get callers j ≡ Some x) one first.1) second.1);
    callers_new = λ c there. refl;
    in_order = λ j c a.
        (let old = map-at f callers c j a in
        let known = contained-at callers old.0 (j, old.1) in
        subst (λ (x : ℕ). calls (renamed f h) x ≡ flat_map (line_entries x) (lines_of j)) old.2
        (calls-renamed f h old.0 (λ e at. apart e.caller old.0 (own e at) known)
        ∙ ap (renamed f) (agrees.among.in_order j old.0 old.1)
        ∙ lines-renamed f line_entries old.0 (lines_of j) alike));
    full = λ i v reply at reply-at full. name-renamed f h v ∙ agrees.among.full i v reply at reply-at full;
  };
  no_others = λ more whole e there.
      (let at = at-contained more e there in
      let old = renamed-at f h at.0 e (subst (λ (t : History). slice_get t at.0 ≡ Some e) (sym whole) at.1) in
      let known = at-contained callers old.0.caller (own old.0 (at.0, old.1)) in
      subst (λ (x : ℕ). Contains (map f callers) x) (sym old.2) (contained-at (map f callers) (f old.0.caller) (known.0, at-map f callers old.0.caller known.0 known.1)));
}
  where
    own : (e : Entry) → At h e → Contains callers e.caller
    own e at = agrees.no_others h refl e (contained-at h e at)

-- a number that stands at a single place stands at its place
place-at : (numbers : List ℕ) (k n : ℕ) → ((i j : ℕ) → slice_get numbers i ≡ Some n → slice_get numbers j ≡ Some n → i ≡ j) → slice_get numbers k ≡ Some n → position_of numbers n ≡ k
place-at numbers k n single at =
    let within = slice_get_within numbers k n at in
    position_or_len_is (λ (x : ℕ). x == n) numbers k n (omega arith) before (λ inside. here)
  where
    here : (get_or numbers k n == n) ≡ true
    here = let is = get_or_from_slice_get numbers k n n at in grind arith

    before : (i : ℕ) → i < k → (get_or numbers i n == n) ≡ false
    before i low = by (get_or numbers i n == n) refl
      where
        by : (b : Bool) → (get_or numbers i n == n) ≡ b → b ≡ false
        by false e = refl
        by true e =
            let within = slice_get_within numbers k n at in
            let is : get_or numbers i n ≡ n = grind arith in
            let place = single i k (slice_get-get_or numbers i n (omega arith) ∙ ap Some is) at in
            absurd (omega arith)

-- the places of the elements of a list, in order, are the numbers below its length
map-places : (f : ℕ → ℕ) (xs : List ℕ) (from : ℕ) → ((k x : ℕ) → slice_get xs k ≡ Some x → f x ≡ from + k) → map f xs ≡ range_with_len from (length xs)
map-places f [] from places = refl
map-places f (x ∷ xs) from places =
    let here : f x ≡ from = places zero x refl ∙ omega arith in
    let rest = map-places f xs (from + 1) (λ k y at. places (suc k) y at ∙ omega arith) in
    rw (here, rest) refl

-- a run's history can be told with the workers numbered from 0
pub agrees-numbered : {flag_count : ℕ} {lines_of : ℕ → List ℕ} {line_entries : ℕ → ℕ → History}
    {trace : List Vector} {replies : List Reply} {workers : ℕ} {h : History} {callers : List ℕ}
    → RenamesAlike line_entries → AgreesOver flag_count lines_of line_entries trace replies workers [] h callers
    → AgreesOver flag_count lines_of line_entries trace replies workers []
    (renamed (position_of callers) h) (range_with_len 0 workers)
agrees-numbered {flag_count} {lines_of} {line_entries} {trace} {replies} {workers} {h} {callers} alike agrees =
    let numbers : map (position_of callers) callers ≡ range_with_len 0 workers =
    map-places (position_of callers) callers 0 (λ k c at. place k c at ∙ omega arith) ∙ ap (range_with_len 0) agrees.among.callers_count in
    subst (λ (t : List ℕ). AgreesOver flag_count lines_of line_entries trace replies workers [] (renamed (position_of callers) h) t) numbers
    (agrees_apart (position_of callers) apart alike agrees)
  where
    place : (k c : ℕ) → slice_get callers k ≡ Some c → position_of callers c ≡ k
    place k c at = place-at callers k c (λ i j a b. agrees.among.callers_differ i j c a b) at

    apart : KeepsApart (position_of callers) callers
    apart a b known other same =
        let here = at-contained callers a known in
        let there = at-contained callers b other in
        let one : here.0 ≡ there.0 = sym (place here.0 a here.1) ∙ same ∙ place there.0 b there.1 in
        let at : slice_get callers there.0 ≡ Some a = subst (λ (k : ℕ). slice_get callers k ≡ Some a) one here.1 in
        cc (at, there.1)

pub agrees_renamed : (flag_count : ℕ) (owner : ℕ → ℕ) (trace : List Vector) (replies : List Reply) (workers : ℕ) (h : History) (callers : List ℕ)
    → AgreesOwned flag_count owner trace replies workers [] h callers
    → AgreesOwned flag_count owner trace replies workers [] (renamed (position_of callers) h) (range_with_len 0 workers)
agrees_renamed flag_count owner trace replies workers h callers agrees = agrees-numbered (insertion-renamed trace replies) agrees
