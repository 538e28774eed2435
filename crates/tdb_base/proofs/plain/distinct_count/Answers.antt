use Rattle.std.proofs.Common.{◌≡◌, ◌≤◌, ◌+◌, arith, sym, ap, ◌∙◌, length, ℕ, List, Bool, true, false}
use Rattle.std.proofs.lemmas.List.{take_all}
use Rattle.std.specs.Prelude.{if◌then◌else◌, map, take, Vec}
use Rattle.std.specs.Global.{Global}
use Rattle.std.specs.List.{list_any}
use Rattle.tdb_base.specs.History.{Vector, same}
use Rattle.tdb_base.specs.Lines.{distinct}
use Rattle.tdb_base.proofs.DistinctLemmas.{distinct-nil, distinct-step}
use Rattle.tdb_base.proofs.plain.distinct_count.Goals as goal

at-most-one : (n m : ℕ) (b : Bool) → n ≡ m + (if b then 0 else 1) → n ≤ m + 1
at-most-one n m true h = omega arith
at-most-one n m false h = omega arith

pub loop-i-init : goal.loop-i-init
loop-i-init c = record { same = sym (ap length distinct-nil); few = omega arith }

pub loop-i-preserved : goal.loop-i-preserved
loop-i-preserved c =
    let items = λ (v : Vec ℕ Global). v.items in
    let xs = c.args.vectors.now in
    let item = c.index-vectors-i.result in
    let held : c.holds.result ≡ list_any (λ v. same v.items item.items) (take c.loop-i.i xs) =
    c.holds.ensures ∙ ap (λ (t : List (Vec ℕ Global)). list_any (λ v. same v.items c.deref.result.now) t) c.split_at.ensures.front
    ∙ ap (λ (u : Vector). list_any (λ (v : Vec ℕ Global). same v.items u) (take c.loop-i.i xs)) c.deref.ensures.value in
    let few = at-most-one c.counted-count.result c.loop-i.count c.holds.result c.counted-count.ensures in
    record {
      same = c.counted-count.ensures
          ∙ ap (λ (n : ℕ). n + (if c.holds.result then 0 else 1)) c.loop-i.invariant.same
          ∙ ap (λ (b : Bool). length (distinct (map items (take c.loop-i.i xs))) + (if b then 0 else 1)) held
          ∙ sym (distinct-step items xs c.loop-i.i item c.loop-i-test.true c.index-vectors-i.is);
      few = omega (arith, few, c.loop-i.invariant.few);
    }

pub returns : goal.returns
returns c = c.loop-i.invariant.same ∙ ap (λ (t : List (Vec ℕ Global)). length (distinct (map (λ v. v.items) t))) (take_all c.loop-i.i c.args.vectors.now c.loop-i-test.false)
