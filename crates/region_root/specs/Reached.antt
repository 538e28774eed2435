-- Words that a reader or a holder reaches, one after another.
use Rattle.std.proofs.Common.{◌≡◌, ℕ, List, [], ◌∷◌, length, refl, sym, ap, ◌∙◌, subst}
use Rattle.std.specs.Prelude.{slice_index}
use Rattle.pair_rule.specs.declared.pass.PassOf.{PassOf}
use Rattle.pair_rule.specs.Part.{Store}
use Rattle.pair_rule.specs.Rest.{view}
use Rattle.region_root.specs.declared.root.Regions.{Regions}
use Rattle.region_root.specs.declared.root.Holding.{Holding}
use Rattle.region_root.specs.Plays.{recopied, reloaded}
use Rattle.region_root.specs.Work.{AtWork, HasLoaded, CanRead, ReadsOn, CanWrite, Rewrites, held_words}
use Rattle.region_root.specs.Work.{copy_in}

abbrev P : Type 0
P = PassOf Regions

-- the words of the region that a pass holds
pub held_is : (p : P) (h : Holding) → (view p).root.held ≡ h ∷ [] → held_words p ≡ h.copy
held_is p h e = ap copy_in e

module _ (width flags : ℕ) where
  pub reads_stay : (store : Store) (p : P) → ReadsOn width flags store p p
  reads_stay store p = record {
    rest = λ r. r;
    view_is = λ r e. (
      r.loads,
      ap (λ l. record (view p) { root = record (view p).root { reader = l } }) e,
      (λ i x h. h),
    );
    others = refl;
  }

  pub reads_join : (store : Store) (p q s : P) → ReadsOn width flags store p q → ReadsOn width flags store q s
      → ReadsOn width flags store p s
  reads_join store p q s a b = record {
    rest = λ r. b.rest (a.rest r);
    view_is = λ r e.
        let x = a.view_is r e in
        let y = b.view_is (record r { loads = x.0 }) (ap (λ v. v.root.reader) x.1) in
        (y.0, y.1 ∙ ap (λ v. reloaded y.0 r v) x.1, (λ i w h. y.2 i w (x.2 i w h)));
    others = b.others ∙ ap (λ (z : P). record z { seat = s.seat }) a.others;
  }

  -- how many words there are stays, and what was found stays found
  pub reads_keep : (old new : Store × ℕ × P) → new.0 ≡ old.0 → new.1 ≡ old.1
      → ReadsOn width flags old.0 old.2 new.2 → (count : ℕ) → CanRead width flags old.0 old.1 old.2 count
      → CanRead width flags new.0 new.1 new.2 count
  reads_keep old new stores begins on count c =
      let x = on.view_is c.reader.0 c.reader.1 in
      let here : CanRead width flags old.0 old.1 new.2 count = record {
        all = c.all;
        rest = on.rest c.rest;
        reader = (
          record c.reader.0 { loads = x.0 },
          ap (λ v. v.root.reader) x.1,
          c.reader.2,
          c.reader.3,
        );
      } in
      subst (λ (z : Store × ℕ). CanRead width flags z.0 z.1 new.2 count) (λ i. (
        sym stores i,
        sym begins i,
      )) here

  pub loaded_keep : (store : Store) (p q : P) → ReadsOn width flags store p q → (i m : ℕ) → HasLoaded p i m
      → HasLoaded q i m
  loaded_keep store p q on i m h =
      let x = on.view_is h.0 h.1 in
      (record h.0 { loads = x.0 }, ap (λ v. v.root.reader) x.1, x.2 i m h.2)

  pub rewrites_stay : (store : Store) (p : P) → Rewrites width flags store p p
  rewrites_stay store p = record {
    work = λ h w. subst (λ (l : List ℕ). AtWork width flags store (record h { copy = l }) p)
        (sym (held_is p h w.held)) w;
    view_is = λ h e. ap (λ l. record (view p) { root = record (view p).root { held = l } }) e
        ∙ ap (λ l. recopied l h (view p)) (sym (held_is p h e));
    others = refl;
  }

  pub rewrites_join : (store : Store) (p q s : P) → Rewrites width flags store p q
      → Rewrites width flags store q s → Rewrites width flags store p s
  rewrites_join store p q s a b = record {
    work = λ h w. b.work (record h { copy = held_words q }) (a.work h w);
    view_is = λ h e.
        let x = a.view_is h e in
        let held : (view q).root.held ≡ (record h { copy = held_words q }) ∷ [] = ap (λ v. v.root.held) x in
        b.view_is (record h { copy = held_words q }) held ∙ ap (λ v. recopied (held_words s) h v) x;
    others = b.others ∙ ap (λ (z : P). record z { seat = s.seat }) a.others;
  }

  pub writes_keep : (old new : Store × ℕ × P) → new.0 ≡ old.0 → new.1 ≡ old.1
      → Rewrites width flags old.0 old.2 new.2 → (count : ℕ) → CanWrite width flags old.0 old.1 old.2 count
      → CanWrite width flags new.0 new.1 new.2 count
  writes_keep old new stores begins on count c =
      let here : CanWrite width flags old.0 old.1 new.2 count = record {
        all = c.all;
        hold = record c.hold { copy = held_words new.2 };
        work = on.work c.hold c.work;
        begins = c.begins;
      } in
      subst (λ (z : Store × ℕ). CanWrite width flags z.0 z.1 new.2 count) (λ i. (sym stores i, sym begins i))
      here

  pub words_long : (store : Store) (from : ℕ) (p : P) (count : ℕ) → CanWrite width flags store from p count
      → length (held_words p) ≡ count
  words_long store from p count c = ap length (held_is p c.hold c.work.held) ∙ (c.work.long ∙ sym c.all)

  pub rewrites_same : (store : Store) (p q : P) → q ≡ p → Rewrites width flags store p q
  rewrites_same store p q same = subst (λ (z : P). Rewrites width flags store p z) (sym same) (rewrites_stay
      store p)

  pub same_span : (old new : Store × ℕ × P) → new.0 ≡ old.0 → new.1 ≡ old.1 → new.2 ≡ old.2 → (count : ℕ)
      → CanWrite width flags old.0 old.1 old.2 count → CanWrite width flags new.0 new.1 new.2 count
  same_span old new stores begins same = writes_keep old new stores begins (rewrites_same old.0 old.2 new.2
      same)

pub same_words : (p q : P) → q ≡ p → (i m : ℕ) → slice_index (held_words p) i ≡ m
    → slice_index (held_words q) i ≡ m
same_words p q same i m h = ap (λ (z : P). slice_index (held_words z) i) same ∙ h
