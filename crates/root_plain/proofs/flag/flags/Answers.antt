use Rattle.std.proofs.Common.{arith, ℕ, sym, subst}
use Rattle.tdb_base.specs.History.{Look}
use Rattle.pair_rule.specs.Rest.{AtRest, view}
use Rattle.root_plain.specs.Plain.{plain}
use Rattle.root_plain.specs.Plays.{DoesTo}
use Rattle.root_plain.proofs.Probing.{name_bucket}
use Rattle.root_plain.proofs.FlagPasses.{acted}
use Rattle.root_plain.proofs.flag.flags.Goals as goal

pub read_word-word-requires : goal.read_word-word-requires
read_word-word-requires g c = (omega arith, (omega arith, rw c.table.ensures.table (c.requires.rest, (name_bucket c.args.nodes.now c.args.pass.now c.args.id c.requires.named.0 c.requires.rest c.requires.named.1, c.requires.named))))

pub returns : goal.returns
returns g c =
    let rest = subst (λ t. AtRest plain t c.read_word-word.new.pass) c.table.ensures.table c.read_word-word.ensures.rest in
    let told = subst (λ (x : ℕ). DoesTo (Look x) c.args.id (view c.args.pass.now) (view c.read_word-word.new.pass)) (sym c.flags.ensures) c.read_word-word.ensures.told in
    acted c.args.nodes.now c.args.pass.now c.read_word-word.new.pass _ c.args.id c.requires.named.0 c.requires.named.1 rest told c.read_word-word.ensures.tree
