use Rattle.std.proofs.Common.{◌≡◌, ◌<◌, ◌*◌, ◌^◌, ℕ, ap, sym, subst, ◌∙◌}
use Rattle.mix_hash.specs.Hash.{mix_of}
use Rattle.mix_hash.proofs.Hashing.{unmixed, unmixed-below, unmixed-mix_of, mix_of-unmixed}
use Rattle.mix_hash.proofs.unmix.Goals as goal

pub returns-clause-hashes_to : goal.returns-clause-hashes_to
unfolding unmixed
returns-clause-hashes_to g c =
    let steps : c.fold.result ≡ unmixed g.row.W c.args.h = cc in
    ap (λ n. mix_of g.row.W n) steps ∙ mix_of-unmixed g.row.W c.requires.width.1 c.args.h c.requires.fits

pub returns-clause-fits : goal.returns-clause-fits
unfolding unmixed
returns-clause-fits g c =
    let steps : c.fold.result ≡ unmixed g.row.W c.args.h = cc in
    subst (λ (n : ℕ). n < 2 ^ (2 * g.row.W)) (sym steps) (unmixed-below g.row.W c.requires.width.1 c.args.h)

pub returns-clause-only : goal.returns-clause-only
unfolding unmixed
returns-clause-only g c x fits same =
    let steps : c.fold.result ≡ unmixed g.row.W c.args.h = cc in
    steps ∙ ap (λ n. unmixed g.row.W n) (sym same) ∙ unmixed-mix_of g.row.W c.requires.width.1 x fits
