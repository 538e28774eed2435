use Rattle.tdb_base.proofs.NameLemmas.{given-name, name-given}
use Rattle.tdb_base.proofs.laws.names_are_given_by_entries.Goals as goal

pub returns-clause-given : goal.returns-clause-given
returns-clause-given c = name-given

pub returns-clause-named : goal.returns-clause-named
returns-clause-named c = given-name
