use Rattle.std.proofs.Common.{◌∙◌, get_or, sym, ap}
use Rattle.cleary_core.proofs.region.Region.find.Goals as goal

pub returns : goal.returns
returns g c = λ keys k. c.find_in.ensures.decided c.args.words.now keys c.requires.words (λ i m h. ap (λ s. get_or s.words.now i 0) (sym c.find_in.ensures.reads) ∙ h) k
