use Rattle.std.proofs.Common.{ℕ, rules, is_lt}
use Rattle.std.proofs.lemmas.Fn.{always_returns_same}
use Rattle.trace_csv.specs.Vectors.{vector_at}
use Rattle.treedb.specs.Listing.{form_order}
use Rattle.treedb.proofs.OrderLemmas.{ranks}
use Rattle.treedb.proofs.distinct.ReadBack.sort.Goals as goal

pub returns-clause-sorted : goal.returns-clause-sorted
returns-clause-sorted c =
    let key = vector_at c.args.self.now.slots c.args.self.now.flat.items in
    let form = c.args.form in
    c.sort_unstable_by.ensures.sorted (λ (x y : ℕ). is_lt (form_order form (key x) (key y))) (ranks form key) (always_returns_same _ _ _ (λ a r f' k. search rules))
