-- A root for which there was no place gets no name later, and there are few names.
use Rattle.std.proofs.Common.{◌≡◌, ◌<◌, ◌≤◌, ◌-◌, ◌^◌, ℕ, arith, pow_pos, Option, Some, None, refl, sym, ap, ◌∙◌, subst}
use Rattle.tree_shape.specs.Tree.{Has, IsPart, RootStands}
use Rattle.tree_shape.proofs.Trees.{one_root}
use Rattle.tdb_base.specs.History.{Vector, name_of}
use Rattle.tdb_base.proofs.NameLemmas.{names-differ}
use Rattle.pair_rule.specs.declared.sizes.About.{About}
use Rattle.pair_rule.specs.declared.pass.PassOf.{PassOf}
use Rattle.pair_rule.specs.Part.{Store}
use Rattle.pair_rule.specs.Paths.{root_buckets, size, bucket, reach, Blocked}
use Rattle.pair_rule.specs.Rest.{AtRest, view}
use Rattle.pair_rule.proofs.Names.{root_more}
use Rattle.pair_rule.proofs.Counts.{few_names}
use Rattle.std.proofs.Math.Pow.{pow_mono}
use Rattle.pair_nodes.specs.Roots.{Refusals, HasFewNames}
use Rattle.pair_nodes.proofs.PassLaws.{roots_naming}
use Rattle.root_plain.specs.declared.root.Roots.{Roots}
use Rattle.root_plain.specs.Plain.{IsPlain, Lies, plain}

pub never_named : (store : Store) (p q : PassOf Roots) (pair : ℕ) (v : Vector) → AtRest plain store p
    → AtRest plain store q → IsPart (view p).known (view q).known
    → IsPart (view p).root.roots (view q).root.roots
    → RootStands store.about.width store.about.slots (view p).known pair v
    → Blocked (root_buckets store.about) (view p).root.roots pair → name_of (view q).seen v ≡ None
never_named store p q pair v rp rq known roots stands blocked = by (name_of (view q).seen v) refl
  where
    by : (o : Option ℕ) → name_of (view q).seen v ≡ o → o ≡ None
    by None t = refl
    by (Some id) t =
        let s = rq.seat.sound in
        let is = rq.seat.about_is in
        let k = s.named.each v id t in
        let m = s.named.only id k.0 k.1 in
        let same = names-differ (view q).about.flags (view q).seen s.legal m.0 v id m.1 t in
        let theirs : RootStands store.about.width store.about.slots (view q).known k.0 v =
        subst (λ (y : About). RootStands y.width y.slots (view q).known k.0 v) is
        (subst (λ (u : Vector). RootStands (view q).about.width (view q).about.slots
        (view q).known k.0 u) same m.2) in
        let one : k.0 ≡ pair =
        one_root store.about.width store.about.slots (view q).known s.nodes.naming k.0 pair v theirs
        (root_more store.about (view p).known (view q).known pair v known stands) in
        let l = subst (λ (y : About). Lies (root_buckets y) id k.0) is (s.root_sound.lies id k.0 k.1) in
        let other = blocked l.step l.within in
        let here : bucket (root_buckets store.about) pair l.step ≡ id =
        ap (λ (x : ℕ). bucket (root_buckets store.about) x l.step) (sym one) ∙ l.here in
        let there : Has (id, other.0) (view q).root.roots =
        subst (λ (i : ℕ). Has (i, other.0) (view q).root.roots) here
        (roots (bucket (root_buckets store.about) pair l.step) other.0 other.1) in
        absurd (other.2 ((roots_naming plain store q rq).one_pair id other.0 k.0 there k.1 ∙ one))

-- a path has a step
has_steps : (about : About) → IsPlain about → 0 < reach (root_buckets about)
unfolding reach
has_steps about is =
    let some : 1 ≤ 2 ^ (about.sizes.roots - 3) = pow_pos (about.sizes.roots - 3) in
    omega (arith, some, is.range.least_probe)

pub plain_refusals : Refusals plain
plain_refusals = record {
  none_at_first = λ about pair is blocked. (blocked 0 (has_steps about is)).1;
  stay = λ store p q pair rp rq known roots blocked step lt.
      (let o = blocked step lt in (o.0, roots _ o.0 o.1, o.2));
  for_good = never_named;
}

-- a name is a bucket's number, and there are at most 2 ^ 24 buckets
pub few_plain_names : HasFewNames plain
unfolding size
few_plain_names store p r =
    let s = r.seat.sound in
    let about = store.about in
    let small : (v : Vector) (id : ℕ) → name_of (view p).seen v ≡ Some id → id < 2 ^ about.sizes.roots =
    λ v id named. let k = s.named.each v id named in
    subst (λ (y : About). id < 2 ^ y.sizes.roots) r.seat.about_is (s.root_sound.lies id k.0 k.1).inside in
    let most = few_names (view p).about.flags (2 ^ about.sizes.roots) (view p).numbers (view p).seen s.legal small in
    let room : 2 ^ about.sizes.roots ≤ 2 ^ 24 = pow_mono r.seat.is_about.range.roots.1 in
    let count = r.names_count in
    omega (arith, most, room, count)
