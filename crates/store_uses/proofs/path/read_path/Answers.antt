use Rattle.std.proofs.Common.{All, subst, sym}
use Rattle.store_uses.specs.Known.{IsStored}
use Rattle.store_uses.proofs.Known.{all_reversed}
use Rattle.store_uses.proofs.path.read_path.Goals as goal

pub returns-clause-stored : goal.returns-clause-stored
returns-clause-stored c =
    let P = IsStored c.read_back.new.pass in
    subst (λ l. All P l) (sym c.reverse.ensures.items) (all_reversed P c.read_back.new.path.items c.in_ok-read_back.ensures.stored)
