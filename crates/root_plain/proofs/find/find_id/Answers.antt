use Rattle.std.proofs.Math.Nat.{mod-lt}
use Rattle.std.proofs.lemmas.Nat.{pow_pos}
use Rattle.packed_word.specs.Word.{pair_of, left_of, right_of}
use Rattle.pair_rule.specs.Calls.{Called}
use Rattle.pair_rule.proofs.Widths.{below_part}
use Rattle.std.proofs.Common.{arith, ℕ, refl, false, subst, sym, ap, ◌∙◌, ◌≤◌, ◌^◌, ◌<◌, ⊎_elim}
use Rattle.std.proofs.lemmas.Bool.{cases_lt}
use Rattle.pair_rule.specs.declared.sizes.Sizes.{Sizes}
use Rattle.pair_rule.specs.Rest.{AtRest, view}
use Rattle.pair_rule.proofs.Calling.{caught_still}
use Rattle.root_plain.specs.Plain.{plain}
use Rattle.root_plain.proofs.Probing.{no_bucket, bucket_of_id, shows_each}
use Rattle.root_plain.proofs.find.find_id.Goals as goal

pub has_bucket-requires : goal.has_bucket-requires
has_bucket-requires g c =
    let about = c.args.nodes.now.about in
    let sizes = c.sizes-sizes.ensures.sizes ∙ ap (λ t. t.about.sizes) c.table-table.ensures.table in
    subst (λ (z : Sizes). z.roots ≤ 24) (sym sizes) c.requires.rest.seat.is_about.range.roots.1

pub returns-then-not-has_bucket : goal.returns-then-not-has_bucket
returns-then-not-has_bucket g c =
    let sizes = c.sizes-sizes.ensures.sizes ∙ ap (λ t. t.about.sizes) c.table-table.ensures.table in
    let past : 2 ^ c.sizes-sizes.result.now.roots ≤ c.args.id = ⊎_elim (λ lt. absurd (cc (c.has_bucket.ensures.1 lt, c.if-not-has_bucket.true))) (λ le. le) (cases_lt c.args.id (2 ^ c.sizes-sizes.result.now.roots)) in
    record {
      rest = c.requires.rest;
      no_call = caught_still plain c.args.nodes.now c.args.pass.now c.requires.rest;
      no_name = no_bucket c.args.nodes.now c.args.pass.now c.args.id c.requires.rest (subst (λ (z : Sizes). 2 ^ z.roots ≤ c.args.id) sizes past);
      buffers = refl;
    }

pub look-word-requires : goal.look-word-requires
look-word-requires g c =
    let about = c.args.nodes.now.about in
    let sizes = c.sizes-sizes.ensures.sizes ∙ ap (λ t. t.about.sizes) c.table-table.ensures.table in
    let lt : c.args.id < 2 ^ c.sizes-sizes.result.now.roots = c.has_bucket.ensures.0 c.if-not-has_bucket.false in
    (omega arith, (omega arith, rw c.table-table.ensures.table (c.requires.rest, bucket_of_id about c.args.id (subst (λ (z : Sizes). c.args.id < 2 ^ z.roots) sizes lt))))

pub returns-then-word-eq0 : goal.returns-then-word-eq0
returns-then-word-eq0 g c =
    let e = c.look-word.ensures in
    let z = c.if-word-eq0.true in record {
      rest = subst (λ t. AtRest plain t c.look-word.new.pass) c.table-table.ensures.table e.rest;
      no_call = (e.shows.empty z).0;
      no_name = (e.shows.empty z).1;
      buffers = e.tree;
    }

pub returns : goal.returns
returns g c =
    let about = c.args.nodes.now.about in
    let store = c.args.nodes.now in
    let is = c.table-table.ensures.store in
    let e = c.look-word.ensures in
    let read = shows_each about g.row.W c.args.id c.look-word.result (view c.args.pass.now) (view c.look-word.new.pass) is.is_about is.width_is c.requires.rest.seat.about_is e.shows c.if-word-eq0.false in
    rw (c.left.ensures, c.right.ensures) (record {
      rest = subst (λ t. AtRest plain t c.look-word.new.pass) c.table-table.ensures.table e.rest;
      parts_are = (below_part _ store refl is _ (mod-lt _ (pow_pos g.row.W)), below_part _ store refl is _ (mod-lt _ (pow_pos g.row.W)));
      called = subst (λ (w : ℕ). Called plain false c.args.id (pair_of w (left_of g.row.W c.look-word.result) (right_of g.row.W c.look-word.result)) (view c.args.pass.now) (view c.look-word.new.pass)) (sym is.width_is) read;
      buffers = e.tree;
    })
