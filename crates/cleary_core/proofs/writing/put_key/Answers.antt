use Rattle.std.proofs.Common.{suc, arith}
use Rattle.cleary_core.proofs.Reaching.{onward, widen}
use Rattle.cleary_core.proofs.writing.put_key.Goals as goal

pub returns-clause-near : goal.returns-clause-near
returns-clause-near g c = λ low high a b d e.
    onward (g.A.ReadWords.reached c.args.access.now) (g.A.ReadWords.reached c.write_cell.new.access) (g.A.ReadWords.reached c.mark_home.new.access) c.args.sizes.now low high
    (onward (g.A.ReadWords.reached c.args.access.now) (g.A.ReadWords.reached c.own_marks-before.new.access) (g.A.ReadWords.reached c.write_cell.new.access) c.args.sizes.now low high
    (widen (g.A.ReadWords.reached c.args.access.now) (g.A.ReadWords.reached c.own_marks-before.new.access) c.args.sizes.now c.args.place (suc c.args.place) low high a (omega (arith, b)) c.own_marks-before.ensures.near)
    (widen (g.A.ReadWords.reached c.own_marks-before.new.access) (g.A.ReadWords.reached c.write_cell.new.access) c.args.sizes.now c.args.place (suc c.args.place) low high a (omega (arith, b)) c.write_cell.ensures.near))
    (widen (g.A.ReadWords.reached c.write_cell.new.access) (g.A.ReadWords.reached c.mark_home.new.access) c.args.sizes.now c.args.home (suc c.args.home) low high d (omega (arith, e)) c.mark_home.ensures.near)
