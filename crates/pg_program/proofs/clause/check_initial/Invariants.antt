use Rattle.std.proofs.Common.{◌≡◌, drop, map}
use Rattle.pg_program.specs.NameTable.{initial}
use Rattle.pg_program.specs.Fault.{first_outside}
use Rattle.pg_program.proofs.clause.check_initial.Given as goal

-- the initial values so far are inside
abbrev pub invariant-loop-x : goal.invariant-loop-x
invariant-loop-x l = first_outside l.names.domain (map (λ e. e.init) (drop l.x l.names.locations)) ≡ first_outside l.names.domain (initial l.names)
