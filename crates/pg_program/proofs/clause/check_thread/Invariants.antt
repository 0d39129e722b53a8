use Rattle.std.proofs.Common.{◌≡◌, ◌+◌, drop}
use Rattle.pg_program.specs.Block.{block}
use Rattle.pg_program.specs.Graph.{statements}
use Rattle.pg_program.specs.Fault.{in_thread}
use Rattle.pg_program.specs.Clause.{clause_of}
use Rattle.pg_program.proofs.clause.check_thread.Given as goal

-- the statements so far meet the clause
abbrev pub invariant-loop-place : goal.invariant-loop-place
invariant-loop-place l =
    in_thread (clause_of l.clause l.names) l.thread (l.place + 1) (drop l.place (statements (block l.stmts))) ≡ in_thread (clause_of l.clause l.names) l.thread 1 (statements (block l.stmts))
