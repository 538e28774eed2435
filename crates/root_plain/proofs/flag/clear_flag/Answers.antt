use Rattle.std.proofs.Common.{arith, Bool, ℕ, ◌<◌, sym, subst}
use Rattle.tdb_base.specs.History.{Clear}
use Rattle.pair_rule.specs.Rest.{AtRest, view}
use Rattle.root_plain.specs.Plain.{plain}
use Rattle.root_plain.specs.Plays.{DoesTo}
use Rattle.root_plain.proofs.Probing.{name_bucket}
use Rattle.root_plain.proofs.FlagPasses.{acted}
use Rattle.root_plain.proofs.flag.clear_flag.Goals as goal

pub clear_in_word-word-requires : goal.clear_in_word-word-requires
clear_in_word-word-requires g c = (omega arith, (omega arith, rw c.table.ensures.table (c.requires.rest, (name_bucket c.args.nodes.now c.args.pass.now c.args.id c.requires.named.0 c.requires.rest c.requires.named.1, (c.requires.named, subst (λ (m : ℕ). c.args.b < m) c.table.ensures.store.flags_are c.requires.bit)))))

pub returns : goal.returns
returns g c =
    let rest = subst (λ t. AtRest plain t c.clear_in_word-word.new.pass) c.table.ensures.table c.clear_in_word-word.ensures.rest in
    let told = subst (λ (x : Bool). DoesTo (Clear c.args.b x) c.args.id (view c.args.pass.now) (view c.clear_in_word-word.new.pass)) (sym c.is_set.ensures) c.clear_in_word-word.ensures.told in
    acted c.args.nodes.now c.args.pass.now c.clear_in_word-word.new.pass _ c.args.id c.requires.named.0 c.requires.named.1 rest told c.clear_in_word-word.ensures.tree
