use Rattle.pg_program_text.specs.Limits.{text_limits}
use Rattle.std.proofs.Common.{◌≡◌, ◌-◌, []}
use Rattle.pg_program_text.specs.Limits.{most_assignments}
use Rattle.pg_program_text.specs.Stmt as spec
use Rattle.pg_program_text.proofs.stmt.assignments.Given as goal

-- the assignments that are left give what all of them give
abbrev pub invariant-assignments : goal.invariant-assignments
invariant-assignments l =
    spec.assignments_on text_limits l.names most_assignments [] l.fn.tokens ≡ spec.assignments_on text_limits l.names (most_assignments - l.i) l.found l.tokens
