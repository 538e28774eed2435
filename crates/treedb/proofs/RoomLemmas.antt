-- Tables that have room for all lines, and that automatic ones have it.
use Rattle.std.proofs.Common.{◌≡◌, ◌≤◌, ◌*◌, ◌-◌, ◌^◌, ℕ, suc, List, [], ◌∷◌, false, Option, refl, sym, ap, ◌∙◌, subst, ⊎_elim, arith}
use Rattle.std.specs.Prelude.{◌||◌, MatchOption, if◌then◌else◌, max, min, unwrap_or}
use Rattle.std.specs.List.{list_any}
use Rattle.std.proofs.Math.Nat.{min-eq_left, min-eq_right, mul-le-mul_right}
use Rattle.std.proofs.Math.Pow.{pow_mono}
use Rattle.probe_path.proofs.Buckets.{lines_of_8}
use Rattle.tdb_base.specs.Replies.{is_full}
use Rattle.tdb_base.specs.declared.reply.Reply.{Reply}
use Rattle.tdb_base.specs.declared.reply.Reply.TheVariants as r
use Rattle.pair_rule.specs.Paths.{Buckets, reach, size}
use Rattle.pair_rule.specs.Rest.{Whole}
use Rattle.pair_rule.specs.View.{newcomer}
use Rattle.pair_rule.specs.declared.view.View.{View}
use Rattle.pair_rule.specs.declared.sizes.About.{About}
use Rattle.region_root.specs.Layout.{most}
use Rattle.work_run.specs.Enough.{HasBucketsFor, IsOfNewStore, NeverAnswered}
use Rattle.command_line.specs.Rules.{is_compact}
use Rattle.command_line.specs.Sizes.{AreTableSizes, IsLeastExponent, least_roots, node_need, root_need}
use Rattle.command_line.specs.declared.outcome.Choice.{Choice}
use Rattle.command_line.specs.declared.outcome.Mode.{Mode}
use Rattle.command_line.specs.declared.outcome.Mode.TheVariants.{Plain}
use Rattle.command_line.specs.declared.table.TableSizes.{TableSizes}
use Rattle.treedb.specs.Room.{HasAutomaticSizes, HasBuckets, HasRootRoom, HaveRoom}

-- a new store's first view has seen nothing
pub of_new_store : {T : Type 0} (v : View T) (unknown : T) (about : About) → v ≡ newcomer unknown about → Whole v → IsOfNewStore v
of_new_store v unknown about begins whole = record {
  whole = whole;
  no_calls = ap (λ (x : View _). x.seen) begins;
  no_nodes = ap (λ (x : View _). x.known) begins;
}

-- buckets of a table of this size
pub buckets_for : (b : Buckets) (pairs d probe : ℕ) → b.d ≡ d → b.probe ≡ probe → 3 ≤ b.d → HasBuckets pairs d probe → HasBucketsFor pairs b
unfolding size reach
buckets_for b pairs d probe same lines deep room =
    let all = lines_of_8 b.d deep in
    let walked : 2 ^ b.d ≤ 8 * b.probe = rw (same, lines) room.all_walked in
    let few : min b.probe (2 ^ (b.d - 3)) ≡ 2 ^ (b.d - 3) = min-eq_right (omega (arith, all, walked)) in
    record {
      all_walked = ap (λ (n : ℕ). 8 * n) few ∙ sym all;
      enough = rw same room.enough;
    }

-- and cells of a region
pub cells_for : (about : About) (lines region : ℕ) → about.sizes.region ≡ region → lines ≤ 2 ^ region → lines ≤ most about
unfolding most
cells_for about lines region same few = rw same few

-- where no line is answered full in either way, none is full
pub none_is_full : (replies : List Reply) → NeverAnswered replies r.FullNodes → NeverAnswered replies r.FullRoots → list_any is_full replies ≡ false
none_is_full [] nodes roots = refl
none_is_full (x ∷ replies) nodes roots = by x nodes roots (none_is_full replies (λ i at. nodes (suc i) at) (λ i at. roots (suc i) at))
  where
    by : (x : Reply) → NeverAnswered (x ∷ replies) r.FullNodes → NeverAnswered (x ∷ replies) r.FullRoots → list_any is_full replies ≡ false → (is_full x || list_any is_full replies) ≡ false
    by (r.New id) nodes roots rest = rest
    by (r.Seen id) nodes roots rest = rest
    by r.FullNodes nodes roots rest = absurd (nodes 0 refl)
    by r.FullRoots nodes roots rest = absurd (roots 0 refl)

-- a line of an input or of a draw has two slots at least, so one in 2 ^ 25 slots is one of 2 ^ 24 lines
pub few_pairs : (slots lines : ℕ) → 2 ≤ slots → slots * lines ≤ 2 ^ 25 → ((slots - 2) * lines ≤ 2 ^ 25) × (lines ≤ 2 ^ 24)
few_pairs slots lines two few =
    let half : 2 * lines ≤ slots * lines = mul-le-mul_right lines two in
    let less : (slots - 2) * lines ≤ slots * lines = mul-le-mul_right lines (omega arith) in
    (omega (arith, less, few), omega (arith, half, few))

-- an exponent that is the least to reach a need reaches it, where the greatest does
reached : (low high need exponent : ℕ) → IsLeastExponent low high need exponent → need ≤ 2 ^ high → need ≤ 2 ^ exponent
reached low high need exponent least enough = ⊎_elim (λ (r : need ≤ 2 ^ exponent). r) (λ (top : exponent ≡ high). rw top enough) least.reaches

-- automatic sizes of a plain table with wide slots have room for so few nodes and roots
module _ (c : Choice) (automatic : HasAutomaticSizes c) (slots lines : ℕ) (each : ((slots - 2) * lines ≤ 2 ^ 25) × (lines ≤ 2 ^ 24)) where
  pub automatic_room : (s : TableSizes) → AreTableSizes c slots lines s → HaveRoom c.mode slots lines s
  automatic_room s sizes =
      let most : min 25 c.profile ≡ 25 = min-eq_left (let wide = automatic.wide in omega (arith, wide)) in
      let nodes = subst (λ (o : Option ℕ). MatchOption o (IsLeastExponent 3 (min 25 c.profile) (node_need slots lines) s.nodes) (λ n. s.nodes ≡ n)) automatic.nodes sizes.nodes in
      let deep : IsLeastExponent 3 25 (node_need slots lines) s.nodes = subst (λ (n : ℕ). IsLeastExponent 3 n (node_need slots lines) s.nodes) most nodes in
      let roots = subst (λ (m : Mode). IsLeastExponent (if is_compact m then max 6 (unwrap_or c.region 6) else 3) 24 (root_need m lines) s.roots) automatic.plain
      (subst (λ (o : Option ℕ). MatchOption o (IsLeastExponent (least_roots c) 24 (root_need c.mode lines) s.roots) (λ n. s.roots ≡ n)) automatic.roots sizes.roots) in
      let probe : 2 ^ 25 ≤ 8 * s.probe = rw (sizes.probe, automatic.probe) (omega arith) in
      let walked : (d : ℕ) → d ≤ 25 → 2 ^ d ≤ 8 * s.probe = λ d shallow. (let below = pow_mono shallow in omega (arith, below, probe)) in
      let plain : HasRootRoom Plain s lines = record { enough = reached 3 24 lines s.roots roots each.1; all_walked = walked s.roots (let top = roots.at_most in omega (arith, top)) } in
      record {
        nodes = record { enough = reached 3 25 (node_need slots lines) s.nodes deep each.0; all_walked = walked s.nodes deep.at_most };
        roots = subst (λ (m : Mode). HasRootRoom m s lines) (sym automatic.plain) plain;
      }
