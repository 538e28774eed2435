use Rattle.std.proofs.Common.{◌<◌, ◌*◌, ◌^◌, ℕ, sym, ap, subst, ◌∙◌}
use Rattle.mix_hash.specs.Places.{place_of}
use Rattle.mix_hash.proofs.Cutting.{joined_below, or_is_joined, place_of-joined, joined_only}
use Rattle.mix_hash.proofs.unsplit.Goals as goal

pub returns-clause-parts : goal.returns-clause-parts
returns-clause-parts g c =
    or_is_joined g.row.W c.args.r c.args.s c.requires.width.1 c.requires.region.1 c.requires.table.1 c.args.place.now c.requires.in_range

pub returns-clause-splits_to : goal.returns-clause-splits_to
returns-clause-splits_to g c =
    ap (λ n. place_of c.args.r c.args.s n) (or_is_joined g.row.W c.args.r c.args.s c.requires.width.1 c.requires.region.1 c.requires.table.1 c.args.place.now c.requires.in_range)
    ∙ place_of-joined g.row.W c.args.r c.args.s c.requires.width.1 c.requires.region.1 c.requires.table.1 c.args.place.now c.requires.in_range

pub returns-clause-fits : goal.returns-clause-fits
returns-clause-fits g c =
    subst (λ (n : ℕ). n < 2 ^ (2 * g.row.W)) (sym (or_is_joined g.row.W c.args.r c.args.s c.requires.width.1 c.requires.region.1 c.requires.table.1 c.args.place.now c.requires.in_range))
    (joined_below g.row.W c.args.r c.args.s c.requires.width.1 c.requires.region.1 c.requires.table.1 c.args.place.now c.requires.in_range)

pub returns-clause-only : goal.returns-clause-only
returns-clause-only g c h same =
    or_is_joined g.row.W c.args.r c.args.s c.requires.width.1 c.requires.region.1 c.requires.table.1 c.args.place.now c.requires.in_range
    ∙ joined_only g.row.W c.args.r c.args.s c.requires.width.1 c.requires.region.1 c.requires.table.1 c.args.place.now c.requires.in_range h same
