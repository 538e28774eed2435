-- Where all lines of a table are searched, a path that is blocked shows that each of its places is taken.
use Rattle.std.proofs.Common.{◌≡◌, ℕ, ◌^◌, ◌<◌, ◌≤◌, sym, subst, arith}
use Rattle.tdb_base.specs.History.{Vector}
use Rattle.tdb_base.specs.declared.reply.Reply.{Reply}
use Rattle.tdb_base.specs.declared.reply.Reply.TheVariants as r
use Rattle.probe_path.proofs.Buckets.{buckets_met, lines_of_8, few_lines}
use Rattle.probe_path.specs.Path.{path_length}
use Rattle.pair_rule.specs.declared.pass.PassOf.{PassOf}
use Rattle.pair_rule.specs.Part.{Store}
use Rattle.pair_rule.specs.Paths.{Buckets, node_buckets, root_buckets, bucket, reach, Listed, Passed}
use Rattle.pair_rule.specs.Rest.{AtRest, view}
use Rattle.root_plain.specs.declared.root.Roots.{Roots}
use Rattle.root_plain.specs.Plain.{plain}
use Rattle.tree_store.specs.Store.{IsAnswered}
use Rattle.treedb_c.specs.Full.{IsTakenUp}

-- a path is as long as the table
goes_through : (d probe : ℕ) → 3 ≤ d → d ≤ 25 → probe ≡ 4194304 → 2 ^ d ≤ path_length d probe
goes_through d probe deep shallow all =
    let eight = lines_of_8 d deep in let few = few_lines d shallow in
    subst (λ (n : ℕ). 2 ^ d ≤ path_length d n) (sym all) (omega (arith, eight, few))

taken : (b : Buckets) (In : ℕ → ℕ → Type 0) (pair : ℕ) → 3 ≤ b.d → b.d ≤ 25 → b.probe ≡ 4194304
    → Passed b In pair (reach b) → (i : ℕ) → i < 2 ^ b.d → (other : ℕ) × In i other
unfolding reach bucket
taken b In pair deep shallow all passed i below =
    let met = buckets_met b.width b.d pair deep i below in
    let here = passed met.0 (omega (arith, met.1, lines_of_8 b.d deep, goes_through b.d b.probe deep shallow all)) in
    (here.0, subst (λ (n : ℕ). In n here.0) met.2 here.1)

-- a full answer shows so of its table
pub full_is_taken : (store : Store) (last : _) (vector : Vector) (reply : Reply) (old new : PassOf Roots)
    → AtRest plain store new → IsAnswered plain store last vector reply old new
    → IsTakenUp reply (record { store = store; pass = new })
full_is_taken store last vector (r.New id) old new rest answered = tt
full_is_taken store last vector (r.Seen id) old new rest answered = tt
full_is_taken store last vector r.FullNodes old new rest answered = λ all.
    let range = rest.seat.is_about.range in
    taken (node_buckets store.about) (Listed (view new).known) _ range.least_nodes range.most_nodes all answered.refused.blocked.blocked
full_is_taken store last vector r.FullRoots old new rest answered = λ all id below.
    let range = rest.seat.is_about.range in
    let here = taken (root_buckets store.about) (Listed (view new).root.roots) _ range.roots.0 (omega (arith, range.roots.1)) all answered.blocked.2 id below in
    let name = rest.seat.sound.named.only id here.0 here.1 in
    (name.0, name.1)
