-- What a pass has seen named stays named.
use Rattle.std.proofs.Common.{ℕ, List, All}
use Rattle.std.proofs.lemmas.List.Elements.{All-weaker}
use Rattle.tdb_base.specs.History.{History}
use Rattle.tdb_base.specs.Legal.{Extends}
use Rattle.tdb_base.proofs.NameLemmas.{keeps-names}
use Rattle.pair_rule.specs.declared.pass.PassOf.{PassOf}
use Rattle.pair_rule.specs.Part.{Part}
use Rattle.pair_rule.specs.Plays.{Caught}
use Rattle.pair_rule.specs.Rest.{view, KnowsName}
use Rattle.pair_rule.proofs.Histories.{extends_trans}

pub stays_named : {T : Type 0} (part : Part T) (calls : History) (p q : PassOf T) → Caught part calls (view p) (view q) → (id : ℕ) → KnowsName p id → KnowsName q id
stays_named part calls p q c id n =
    let whole : Extends c.log (view q).seen = record { more = calls; whole = c.seen } in
    (n.0, keeps-names (view q).about.flags (view p).seen (view q).seen c.sound.legal (extends_trans (view p).seen c.log (view q).seen c.begins whole) n.0 id n.1)

pub stay_named : {T : Type 0} (part : Part T) (calls : History) (p q : PassOf T) → Caught part calls (view p) (view q) → (ids : List ℕ) → All (KnowsName p) ids → All (KnowsName q) ids
stay_named part calls p q c ids each = All-weaker (KnowsName p) (KnowsName q) (stays_named part calls p q c) ids each
