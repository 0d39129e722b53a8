use Rattle.pg_assertion_text.proofs.AtomLaws.{raw_found, raw_again, raw_begins}
use Rattle.pg_assertion_text.proofs.atoms.RawAtomReadAtom.agrees.Goals as goal

pub returns-clause-found : goal.returns-clause-found
returns-clause-found c = raw_found

pub returns-clause-again : goal.returns-clause-again
returns-clause-again c = raw_again

pub returns-clause-begins : goal.returns-clause-begins
returns-clause-begins c = raw_begins
