use Rattle.std.proofs.Common.{sym, subst}
use Rattle.pg_assertion.specs.declared.atom.ViewAtom.{ViewAtom}
use Rattle.pg_assertion.specs.Formula.{Plain}
use Rattle.pg_layers.specs.Clauses.{layout_of}
use Rattle.pg_layers.specs.Top.{IsPart}
use Rattle.pg_layers.proofs.Parts.{note_part}
use Rattle.pg_layers.proofs.obligation.note.Goals as goal

pub returns-clause-part : goal.returns-clause-part
returns-clause-part c = subst (λ (f : Plain ViewAtom). IsPart (layout_of c.args.o.now) f) (sym c.note.ensures.formula) (note_part c.args.o.now c.program-made.ensures.made c.args.thread c.args.point)
