use Rattle.mix_hash.proofs.Cutting.{place_of-in_range, hash_of-place_of}
use Rattle.mix_hash.proofs.split.Goals as goal

pub returns-clause-parts : goal.returns-clause-parts
returns-clause-parts g c =
    rw (c.low_bits-home.ensures, c.low_bits-global_home.ensures) (hash_of-place_of c.args.r c.args.s c.args.h)

pub returns-clause-in_range : goal.returns-clause-in_range
returns-clause-in_range g c =
    rw (c.low_bits-home.ensures, c.low_bits-global_home.ensures)
    (place_of-in_range g.row.W c.args.r c.args.s c.args.h c.requires.region.1 c.requires.table.1 c.requires.fits)
