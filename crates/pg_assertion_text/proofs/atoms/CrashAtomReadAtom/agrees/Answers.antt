use Rattle.pg_assertion_text.proofs.AtomLaws.{crash_found, crash_again, crash_begins}
use Rattle.pg_assertion_text.proofs.atoms.CrashAtomReadAtom.agrees.Goals as goal

pub returns-clause-found : goal.returns-clause-found
returns-clause-found c = crash_found

pub returns-clause-again : goal.returns-clause-again
returns-clause-again c = crash_again

pub returns-clause-begins : goal.returns-clause-begins
returns-clause-begins c = crash_begins
