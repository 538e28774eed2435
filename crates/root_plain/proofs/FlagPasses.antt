-- Passes that set, cleared or read the flags in a named vector's root word.
use Rattle.std.proofs.Common.{◌≡◌, ℕ, ◌+◌, ◌-◌, ◌*◌, ◌^◌, ◌<◌, not, Some, bit_and, bit_or, sym, ap, ◌∙◌, subst}
use mathlib.Core.Option.{none}
use Rattle.std.specs.Int.{bit_not, w64}
use Rattle.atomic_table.specs.Table.{step, Allows}
use Rattle.packed_word.specs.Word.{flag_bits}
use Rattle.tdb_base.specs.History.{Vector, Act, Set, Clear, Look, name_of}
use Rattle.pair_nodes.specs.Roots.{RootActed}
use Rattle.pair_rule.specs.declared.view.View.{View}
use Rattle.pair_rule.specs.declared.sizes.About.{About}
use Rattle.pair_rule.specs.declared.pass.PassOf.{PassOf}
use Rattle.pair_rule.specs.Part.{Store}
use Rattle.pair_rule.specs.Plays.{first_root}
use Rattle.pair_rule.specs.Rest.{AtRest, view}
use Rattle.pair_rule.specs.Rule.{StoreRule}
use Rattle.root_plain.specs.declared.root.Roots.{Roots}
use Rattle.root_plain.specs.Plain.{Plain, plain}
use Rattle.root_plain.specs.Plays.{DoesTo, flag_in, flag_set, flag_cleared, flags_read}
use Rattle.root_plain.proofs.RootPasses.{bucket_of_word}
use Rattle.root_plain.proofs.RootTurns.{sets, clears, reads}

-- a pass of a store, and a bucket of its roots that is a name which the pass has seen
module _ (store : Store) (p : PassOf Roots) (r : AtRest plain store p) (at word : ℕ) (here : first_root store.about + at ≡ word) where
  module _ (key : About) (slots : ℕ) (u : Vector) (same : key ≡ store.about) (named : name_of (view p).seen u ≡ Some at) where
    pub set_allowed : (b new : ℕ) → b < store.about.flags → new ≡ 2 ^ (2 * store.about.width + b)
        → Allows (StoreRule key (plain.roots key) (Plain key)) slots p.seat.id p.seat.me word (λ n. bit_or n new) (flag_set (step slots word new 0 none) p.seat.me)
    set_allowed b new low is =
        subst (λ (k : About). Allows (StoreRule k (plain.roots k) (Plain k)) slots p.seat.id p.seat.me word (λ n. bit_or n new) (flag_set (step slots word new 0 none) p.seat.me)) (sym same)
        (sets _ store.about slots p.seat.id p.seat.me at word u r.seat.live r.seat.about_is here named r.seat.is_about b new low is)

    pub clear_allowed : (b new : ℕ) → b < store.about.flags → new ≡ bit_not w64 (2 ^ (2 * store.about.width + b))
        → Allows (StoreRule key (plain.roots key) (Plain key)) slots p.seat.id p.seat.me word (λ n. bit_and n new) (flag_cleared (step slots word new 0 none) p.seat.me)
    clear_allowed b new low is =
        subst (λ (k : About). Allows (StoreRule k (plain.roots k) (Plain k)) slots p.seat.id p.seat.me word (λ n. bit_and n new) (flag_cleared (step slots word new 0 none) p.seat.me)) (sym same)
        (clears _ store.about slots p.seat.id p.seat.me at word u r.seat.live r.seat.about_is here named r.seat.is_about b new low is)

    pub read_allowed : Allows (StoreRule key (plain.roots key) (Plain key)) slots p.seat.id p.seat.me word (λ n. n) (flags_read (step slots word 0 0 none) p.seat.me)
    read_allowed =
        subst (λ (k : About). Allows (StoreRule k (plain.roots k) (Plain k)) slots p.seat.id p.seat.me word (λ n. n) (flags_read (step slots word 0 0 none) p.seat.me)) (sym same)
        (reads _ store.about slots p.seat.id p.seat.me at word u r.seat.live r.seat.about_is here named r.seat.is_about)

  module _ (w : View Roots) (width flags : ℕ) (wide : store.about.width ≡ width) (many : store.about.flags ≡ flags) where
    width_is : (view p).about.width ≡ width
    width_is = ap (λ (y : About). y.width) r.seat.about_is ∙ wide

    flags_are : (view p).about.flags ≡ flags
    flags_are = ap (λ (y : About). y.flags) r.seat.about_is ∙ many

    -- what a step told by the view's own table, told by the call's width and number of flags
    retold : (act : ℕ → ℕ → Act) → DoesTo (act (view p).about.width (view p).about.flags) (word - first_root (view p).about) (view p) w → DoesTo (act width flags) at (view p) w
    retold act h =
        let d = bucket_of_word (view p) store.about at word r.seat.about_is here in
        subst (λ (q : ℕ × ℕ × ℕ). DoesTo (act q.0 q.1) q.2 (view p) w) (λ j. (width_is j, flags_are j, d j)) h

    pub set_told : (b new n : ℕ) → b < flags → new ≡ 2 ^ (2 * width + b)
        → ((c : ℕ) → c < (view p).about.flags → new ≡ 2 ^ (2 * (view p).about.width + c) → DoesTo (Set c (not (flag_in (view p).about.width (view p).about.flags n c))) (word - first_root (view p).about) (view p) w)
        → DoesTo (Set b (not (flag_in width flags n b))) at (view p) w
    set_told b new n low is told =
        retold (λ x y. Set b (not (flag_in x y n b))) (told b (subst (λ (m : ℕ). b < m) (sym flags_are) low) (is ∙ ap (λ (m : ℕ). 2 ^ (2 * m + b)) (sym width_is)))

    pub clear_told : (b new n : ℕ) → b < flags → new ≡ bit_not w64 (2 ^ (2 * width + b))
        → ((c : ℕ) → c < (view p).about.flags → new ≡ bit_not w64 (2 ^ (2 * (view p).about.width + c)) → DoesTo (Clear c (flag_in (view p).about.width (view p).about.flags n c)) (word - first_root (view p).about) (view p) w)
        → DoesTo (Clear b (flag_in width flags n b)) at (view p) w
    clear_told b new n low is told =
        retold (λ x y. Clear b (flag_in x y n b)) (told b (subst (λ (m : ℕ). b < m) (sym flags_are) low) (is ∙ ap (λ (m : ℕ). bit_not w64 (2 ^ (2 * m + b))) (sym width_is)))

    pub read_told : (n : ℕ) → DoesTo (Look (flag_bits (view p).about.width (view p).about.flags n)) (word - first_root (view p).about) (view p) w → DoesTo (Look (flag_bits width flags n)) at (view p) w
    read_told n h = retold (λ x y. Look (flag_bits x y n)) h

-- what such a call leaves of the pass
pub acted : (store : Store) (p q : PassOf Roots) (act : Act) (id : ℕ) (u : Vector) → name_of (view p).seen u ≡ Some id → AtRest plain store q → DoesTo act id (view p) (view q) → q ≡ record p { seat = q.seat } → RootActed plain store act id p q
acted store p q act id u named rest told same = record { rest = rest; entry = told; call = (told u named).roots_stay; buffers = same }
