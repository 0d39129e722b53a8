use Rattle.std.proofs.Common.{◌≡◌, subst, List, map, Some, IfSome, Vec, Global}
use Rattle.pg_program.specs.declared.syntax.Stmt.{Stmt}
use Rattle.pg_program.specs.Fault.{first_fault, plain_fault}
use Rattle.pg_program.proofs.graph.Program.build.Goals as goal

pub returns-in-Err : goal.returns-in-Err
returns-in-Err c =
    subst (λ (l : List (Vec Stmt Global)). IfSome (plain_fault c.in-Err.fault) (λ f. first_fault c.args.names (map (λ (t : Vec Stmt Global). t.items) l) ≡ Some f))
    c.deref.ensures.value c.in-Err.ensures.fault
