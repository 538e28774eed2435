-- Puts one after the other, and what is kept of the last tree.
use Rattle.std.proofs.Common.{◌≡◌, ℕ, suc, ◌+◌, ◌*◌, ◌<◌, ◌≤◌, List, [], ◌++◌, length, Option, refl, sym, ap, ◌∙◌, ⊎_elim, arith, append_assoc, length-append, length-drop}
use Rattle.std.specs.Prelude.{option_map}
use Rattle.tree_shape.specs.Tree.{Has, IsPart, Stands}
use Rattle.tree_shape.specs.Changed.{IsChanged}
use Rattle.tree_shape.proofs.Trees.{stands_more, stands_same, same_slots}
use Rattle.tdb_base.specs.History.{Vector}
use Rattle.tdb_base.specs.Fakes.{counted}
use Rattle.pair_rule.specs.declared.view.View.{View}
use Rattle.pair_rule.specs.declared.sizes.About.{About}
use Rattle.pair_rule.specs.declared.pass.PassOf.{PassOf}
use Rattle.pair_rule.proofs.Lists.{has_either}
use Rattle.pair_nodes.specs.Probe.{Probed}
use Rattle.pair_nodes.proofs.Views.{grown_refl, grown_trans}
use Rattle.tree_store.specs.Vectors.{IsInTree, slots_of, raised, IsBlockedInside, Gained, Building, Refused, KeepsLast}

pub slots_long : (about : About) (tree : List ℕ) → length tree ≡ 2 * about.slots → length (slots_of about tree) ≡ about.slots
slots_long about tree long = length-drop about.slots tree ∙ (omega (arith, long))

-- the number of a position below which two vectors are the same stands for both
pub keep_stands : (about : About) (nodes : List (ℕ × ℕ)) (last next : List ℕ) (position x : ℕ) → 2 ≤ position → position < about.slots → length last ≡ 2 * about.slots → length next ≡ 2 * about.slots
    → (IsChanged about.slots (slots_of about last) (slots_of about next) position → ⊥) → Stands about.width about.slots nodes (slots_of about last) position x → Stands about.width about.slots nodes (slots_of about next) position x
keep_stands about nodes last next position x low high long_last long_next same stands =
    stands_same about.width about.slots nodes (slots_of about last) (slots_of about next) position x
    (same_slots about.slots (slots_of about last) (slots_of about next) position (slots_long about last long_last) (slots_long about next long_next) (λ differs. same (low, high, differs)))
    stands

pub ticked_more : (n : ℕ) (old now new : Option ℕ) → now ≡ raised n old → new ≡ option_map counted now → new ≡ raised (n + 1) old
ticked_more n old now new p q = q ∙ (ap (option_map counted) p ∙ ap (λ (m : ℕ). raised m old) (let e : suc n ≡ n + 1 = omega arith in e))

pub in_more : (about : About) (v : Vector) (nodes more : List (ℕ × ℕ)) (index : ℕ) → IsPart nodes more → IsInTree about nodes v index → IsInTree about more v index
in_more about v nodes more index part t = (t.0, t.1, t.2, stands_more about.width about.slots nodes more v t.0 index part t.3)

module _ {T : Type 0} (about : About) (v : Vector) where
  pub gained_none : (old new : View T) → new.made ≡ old.made → Gained about v 0 old new
  gained_none old new same = record { more = []; made = same; few = omega arith; in_tree = λ i h. absurd h }

  pub gained_then : (n m : ℕ) (old now new : View T) → IsPart now.known new.known → Gained about v n old now → Gained about v m now new → Gained about v (n + m) old new
  gained_then n m old now new part a b = record {
    more = b.more ++ a.more;
    made = b.made ∙ (ap (λ (l : List ℕ). b.more ++ l) a.made ∙ sym (append_assoc b.more a.more old.made));
    few = let l = length-append b.more a.more in let p = a.few in let q = b.few in omega arith;
    in_tree = λ i h. ⊎_elim (λ (x : Has i b.more). b.in_tree i x) (λ (x : Has i a.more). in_more about v now.known new.known i part (a.in_tree i x)) (has_either i b.more a.more h);
  }

  pub gained_within : (n m : ℕ) (old new : View T) → n ≤ m → Gained about v n old new → Gained about v m old new
  gained_within n m old new le a = record { more = a.more; made = a.made; few = let p = a.few in omega arith; in_tree = a.in_tree }

  pub built_none : (old : View T) → Building about v 0 old old
  built_none old = record { grown = grown_refl old; gained = gained_none old old refl; probes_are = omega arith }

  pub built_then : (n m : ℕ) (old now new : View T) → Building about v n old now → Building about v m now new → Building about v (n + m) old new
  built_then n m old now new a b = record {
    grown = grown_trans old now new a.grown b.grown;
    gained = gained_then n m old now new b.grown.known a.gained b.gained;
    probes_are = let p = a.probes_are in let q = b.probes_are in omega arith;
  }

  -- puts, and then one that found no place
  pub refused_then : (n most : ℕ) (old now new : View T) → n < most → Building about v n old now → Probed 1 now new → IsBlockedInside about new.known v → Refused about v most old new
  refused_then n most old now new fewer a p blocked = record {
    puts = n;
    fewer = fewer;
    grown = grown_trans old now new a.grown p.grown;
    gained = gained_within (n + 0) n old new (omega arith) (gained_then n 0 old now new p.grown.known a.gained (gained_none now new p.made));
    probes_are = let x = a.probes_are in let y = p.probes_are in omega arith;
    blocked = blocked;
  }

pub keeps_last_then : {T : Type 0} (p q r : PassOf T) → KeepsLast p q → KeepsLast q r → KeepsLast p r
keeps_last_then {T} p q r a b = b ∙ ap (λ (x : PassOf T). record x { seat = r.seat; nodes_count = r.nodes_count; next_tree = r.next_tree; marks = r.marks }) a
