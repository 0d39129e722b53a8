use Rattle.std.proofs.Common.{◌≡◌, ◌+◌, ◌-◌, length, map}
use Rattle.std.specs.List.{range_with_len}
use Rattle.pg_replay.specs.Violation.{assertion_violation, first_of, state_violation}
use Rattle.pg_replay.proofs.violation.state_violation.Given as goal

-- the first violation is still to be found
abbrev pub invariant-threads : goal.invariant-threads
invariant-threads l =
    first_of (map (assertion_violation l.o l.line l.state.state) (range_with_len l.thread (length l.o.program.threads + 1 - l.thread))) ≡ state_violation l.o l.line l.state.state
