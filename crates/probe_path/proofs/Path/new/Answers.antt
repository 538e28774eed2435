use Rattle.std.proofs.Common.{◌≡◌, ◌-◌, ◌*◌, ◌%◌, ◌^◌, ℕ, refl, sym, subst, arith}
use Rattle.std.proofs.lemmas.Nat.{one_shl}
use Rattle.std.proofs.Math.Nat.{min-le_right, min-eq_right}
use Rattle.probe_path.specs.Path.{table_lines, walked_lines, IsCourse, MeetsEachBucket}
use Rattle.probe_path.proofs.Buckets.{buckets_differ, buckets_met, prepared}
use Rattle.probe_path.proofs.Path.new.Goals as goal

pub invariant_of-result : goal.invariant_of-result
invariant_of-result g c =
    let count : 1 * 2 ^ (c.args.d - 3) % 2 ^ 64 ≡ table_lines c.args.d = one_shl (c.args.d - 3) 64 (omega arith) in
    let fits : IsCourse g.row.W (record { pair = c.args.pair; d = c.args.d; lines = c.min.result }) = record {
      pair = c.requires.pair;
      smallest = c.requires.table.0;
      largest = c.requires.table.1;
      walked = omega (arith, c.min.ensures, count);
    } in
    prepared g.row.W c.args.d c.args.pair c.min.result c.mix-hash.result c.low_bits-first_bucket.result (1 * 2 ^ (c.args.d - 3) % 2 ^ 64)
    fits c.mix-hash.ensures.steps c.low_bits-first_bucket.ensures refl

pub returns-clause-differ : goal.returns-clause-differ
returns-clause-differ g c =
    buckets_differ g.row.W c.args.d c.args.pair c.requires.table.0 (walked_lines c.args.d c.args.lines) (min-le_right c.args.lines (table_lines c.args.d))

pub returns-clause-met : goal.returns-clause-met
returns-clause-met g c enough =
    let all : walked_lines c.args.d c.args.lines ≡ table_lines c.args.d = min-eq_right enough in
    subst (λ (n : ℕ). MeetsEachBucket g.row.W c.args.d c.args.pair (8 * n)) (sym all) (buckets_met g.row.W c.args.d c.args.pair c.requires.table.0)
