use Rattle.std.proofs.Common.{◌≡◌, ℕ, length, sym, ap, ◌∙◌, subst, rules}
use Rattle.std.specs.Prelude.{All, ◌<◌, ◌^◌}
use Rattle.tdb_base.specs.History.{Vector}
use Rattle.command_line.specs.Sizes.{AreTableSizes}
use Rattle.pair_rule.specs.declared.sizes.Sizes.{Sizes}
use Rattle.command_line.specs.Rules.{flag_count}
use Rattle.tree_store.specs.Ranges.{IsFirstOut}
use Rattle.treedb.specs.ReadBack.{AwaitsLines, IfPrinted}
use Rattle.treedb.proofs.store.make_ready.Goals as goal

pub make_store-requires : goal.make_store-requires
make_store-requires g c =
    let part = g.R.RootPart.part in
    let sizes = c.store_sizes-sizes.result in
    let fit : (n : ℕ) → IsFirstOut part g.row.W sizes n → ⊥ = λ n. subst (λ (w : ℕ). IsFirstOut part w sizes n → ⊥) c.requires.profile.0 (c.requires.of_mode.takes sizes c.store_sizes-sizes.ensures.fit n) in
    (search rules, (c.requires.layout, (search rules, fit)))

pub returns : goal.returns
returns g c =
    let choice = c.args.choice.now in
    let trace = c.args.trace.now in
    let made = c.in_ok-store.ensures in
    let about = c.in_ok-store.store.about in
    let sizes = c.store_sizes-sizes.ensures.sizes in
    let width = c.requires.profile.0 in
    let flags = c.requires.profile.1 in
    let size : (part : Sizes → ℕ) → part about.sizes ≡ part c.store_sizes-sizes.result = λ part. ap part made.sizes in
    let each : All (λ (v : Vector). length v ≡ about.slots) trace = subst (λ (n : ℕ). All (λ (v : Vector). length v ≡ n) trace) (sym made.slots) c.slots-slots.ensures.each in
    let below : All (λ (line : Vector). All (λ (n : ℕ). n < 2 ^ about.width) line) trace =
    subst (λ (w : ℕ). All (λ (line : Vector). All (λ (n : ℕ). n < 2 ^ w) line) trace) (sym made.store.width_is) c.requires.below in
    record {
      about_is = record {
        is_about = made.store.is_about;
        width = made.store.width_is ∙ sym width;
        flags = made.store.flags_are ∙ flags ∙ ap flag_count (sym width);
        slots = each;
        sizes = sizes.sizes;
        are_sizes = subst (λ (n : ℕ). AreTableSizes choice n (length trace) sizes.sizes) (sym made.slots) (subst (λ (n : ℕ). AreTableSizes choice c.slots-slots.result n sizes.sizes) c.len.ensures.count sizes.are_sizes);
        nodes = size (λ (s : Sizes). s.nodes) ∙ sizes.nodes;
        roots = size (λ (s : Sizes). s.roots) ∙ sizes.roots;
        region = size (λ (s : Sizes). s.region) ∙ sizes.region;
        probe = size (λ (s : Sizes). s.probe) ∙ sizes.probe;
      };
      unknown = g.R.RootPart.first about;
      begins = made.view;
      whole = made.whole;
      rest = made.rest;
      fit = λ k d lt. record { slots = each k d lt; below = below k d lt };
      few = c.requires.lines;
      room_is = subst (λ (n : ℕ). IfPrinted choice.job c.in_ok-room.room (AwaitsLines n (length trace))) (sym made.slots)
          (subst (λ (n : ℕ). IfPrinted choice.job c.in_ok-room.room (AwaitsLines c.slots-slots.result n)) c.len-2.ensures.count c.in_ok-room.ensures);
    }
