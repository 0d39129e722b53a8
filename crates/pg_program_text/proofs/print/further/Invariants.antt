use Rattle.std.proofs.Common.{◌≡◌, ◌++◌, drop}
use Rattle.pg_program_text.specs.Spelling.{further}
use Rattle.pg_program_text.proofs.print.further.Given as goal

-- the assignments so far are appended
abbrev pub invariant-loop-assign : goal.invariant-loop-assign
invariant-loop-assign l = l.into.items ++ further l.names (drop l.assign-index l.aux) ≡ l.initial.into.items ++ further l.names l.aux
