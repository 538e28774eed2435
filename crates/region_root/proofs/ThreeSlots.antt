-- In a store of three slots, a node of two zeros and a slot are a root.
use Rattle.std.proofs.Common.{◌≡◌, ℕ, ◌^◌, ◌<◌, ◌*◌, ◌+◌, ◌/◌, ◌%◌, List, [], ◌∷◌, Bool, Some, sym, subst, arith}
use Rattle.std.proofs.lemmas.Nat.{shr_high, mod_low, pow_pos}
use Rattle.tree_shape.specs.Tree.{Has, RootStands, Stands, left_part, right_part, slot, node}
use Rattle.packed_word.specs.Word.{pair_of}
use Rattle.pair_rule.specs.declared.sizes.About.{About}
use Rattle.pair_rule.specs.Calls.{call, IsSomeRoot}
use Rattle.tdb_base.specs.History.{Vector, Act, name_of}
use Rattle.tdb_base.specs.Legal.{Extends}
use Rattle.tdb_base.proofs.NameLemmas.{entry-named, keeps-names}
use Rattle.pair_rule.specs.declared.pass.PassOf.{PassOf}
use Rattle.pair_rule.specs.Part.{Store}
use Rattle.pair_rule.specs.Rest.{view}
use Rattle.pair_rule.proofs.Histories.{extends_trans}
use Rattle.region_root.specs.declared.root.Regions.{Regions}
use Rattle.pair_nodes.specs.Roots.{RootPut, RootActed, deed}
use Rattle.region_root.specs.Compact.{compact}

zero_parts : (width : ℕ) → (left_part width 0 ≡ 0) × (right_part width 0 ≡ 0)
zero_parts width =
    let none : 0 * 2 ^ width + 0 ≡ 0 = omega arith in
    (subst (λ (n : ℕ). n / 2 ^ width ≡ 0) none (shr_high 0 width 0 (pow_pos width)), subst (λ (n : ℕ). n % 2 ^ width ≡ 0) none (mod_low 0 width 0 (pow_pos width)))

stands : (width slots index right : ℕ) (known : List (ℕ × ℕ)) → slots ≡ 3 → right < 2 ^ width → Has (index, 0) known → RootStands width slots known (pair_of width index right) (right ∷ 0 ∷ 0 ∷ [])
stands width slots index right known three small has =
    let v : List ℕ = right ∷ 0 ∷ 0 ∷ [] in
    let z = zero_parts width in
    let below : Stands width 3 known v 2 index = node 0 (omega arith) has (slot (omega arith) z.0) (slot (omega arith) z.1) in
    let left : Stands width 3 known v 2 (left_part width (pair_of width index right)) = subst (λ (x : ℕ). Stands width 3 known v 2 x) (sym (shr_high index width right small)) below in
    let both : RootStands width 3 known (pair_of width index right) v = (left, slot (omega arith) (mod_low index width right small)) in
    subst (λ (k : ℕ). RootStands width k known (pair_of width index right) v) (sym three) both

pub three_slots : (about : About) (index right : ℕ) (known : List (ℕ × ℕ)) → about.slots ≡ 3 → right < 2 ^ about.width → Has (index, 0) known → IsSomeRoot about known (pair_of about.width index right)
three_slots about index right known three small has = (right ∷ 0 ∷ 0 ∷ [], stands about.width about.slots index right known three small has, sym three)

pub wide : {width : ℕ} → width ≡ 16 → (n : ℕ) → n < 2 ^ 16 → n < 2 ^ width
wide is n below = subst (λ (w : ℕ). n < 2 ^ w) (sym is) below

-- a put gives its root's vector a name
pub put_named : (store : Store) (pair id : ℕ) (fresh : Bool) (p q : PassOf Regions) → RootPut (compact 16 8) store pair id fresh p q → IsSomeRoot store.about (view p).known pair → (vector : Vector) × (name_of (view q).seen vector ≡ Some id)
put_named store pair id fresh p q put some =
    let k = put.entry some.0 some.1 some.2 in
    (some.0, entry-named (view q).about.flags (view q).seen k.log [] (call (view p).number fresh some.0 id) k.sound.legal k.seen)

-- a call on flags leaves its vector's name
pub still_named : (store : Store) (act : Act) (id : ℕ) (p q : PassOf Regions) → RootActed (compact 16 8) store act id p q → (vector : Vector) × (name_of (view p).seen vector ≡ Some id) → (vector : Vector) × (name_of (view q).seen vector ≡ Some id)
still_named store act id p q a n =
    let c = a.entry n.0 n.1 in
    let whole : Extends c.log (view q).seen = record { more = deed (view p).number act n.0 id ∷ []; whole = c.seen } in
    (n.0, keeps-names (view q).about.flags (view p).seen (view q).seen c.sound.legal (extends_trans (view p).seen c.log (view q).seen c.begins whole) n.0 id n.1)
