use Rattle.std.proofs.Common.{List, sym, subst}
use Rattle.cleary_core.specs.Map.{Key, KeepsMap}
use Rattle.cleary_core.specs.declared.cells.Sizes.{Sizes}
use Rattle.cleary_core.proofs.Kept.{kept_of}
use Rattle.cleary_core.proofs.region.Region.insert_in.Goals as goal

pub returns-clause-kept : goal.returns-clause-kept
returns-clause-kept g c =
    let kept = subst (λ (z : Sizes). (keys : List Key) × KeepsMap z (g.A.WriteWords.words c.args.access.now) keys) (sym c.self.view_is) c.requires.kept in
    subst (λ (z : Sizes). (keys : List Key) × KeepsMap z (g.A.WriteWords.words c.insert_key.new.access) keys) c.self.view_is
    (kept_of c.insert_key.result c.self.inside.sizes kept.0 c.args.home c.args.quotient (g.A.WriteWords.words c.insert_key.new.access) (c.insert_key.ensures.answer kept.0 kept.1))
