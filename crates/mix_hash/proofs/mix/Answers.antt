use Rattle.std.proofs.Common.{◌≡◌, ◌<◌, ◌*◌, ◌^◌, ℕ, sym, subst}
use Rattle.mix_hash.specs.Hash.{mix_of}
use Rattle.mix_hash.proofs.Hashing.{mix_of-below}
use Rattle.mix_hash.proofs.mix.Goals as goal

pub returns-clause-steps : goal.returns-clause-steps
unfolding mix_of
returns-clause-steps g c = cc

pub returns-clause-fits : goal.returns-clause-fits
unfolding mix_of
returns-clause-fits g c =
    let steps : c.fold.result ≡ mix_of g.row.W c.args.x = cc in
    subst (λ (n : ℕ). n < 2 ^ (2 * g.row.W)) (sym steps) (mix_of-below g.row.W c.requires.width.1 c.args.x)
