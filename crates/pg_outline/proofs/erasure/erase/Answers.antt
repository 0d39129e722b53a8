use Rattle.std.proofs.Common.{◌≡◌, IfOk, subst}
use Rattle.pg_program.specs.Program.{ProgramTable}
use Rattle.pg_outline.specs.Erasure.{erased}
use Rattle.pg_outline.proofs.erasure.erase.Goals as goal

pub returns : goal.returns
returns c = subst (λ (q : ProgramTable). IfOk c.erased_program.result (λ p. p ≡ erased q)) c.program.ensures.program c.erased_program.ensures
