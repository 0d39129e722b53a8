use Rattle.pg_assertion.proofs.LayoutOrder as law
use Rattle.pg_assertion.proofs.layout.atoms_are_counted.Goals as goal

pub returns-clause-counted : goal.returns-clause-counted
returns-clause-counted c = law.atoms_are_counted

pub returns-clause-most : goal.returns-clause-most
returns-clause-most c = law.largest_has_most
