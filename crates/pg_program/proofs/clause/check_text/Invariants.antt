use Rattle.std.proofs.Common.{◌≡◌, ◌+◌, drop, map}
use Rattle.pg_program.specs.Fault.{in_threads}
use Rattle.pg_program.specs.Clause.{clause_of}
use Rattle.pg_program.proofs.clause.check_text.Given as goal

-- the threads so far meet the clause
abbrev pub invariant-loop-i : goal.invariant-loop-i
invariant-loop-i l =
    in_threads (clause_of l.clause l.names) (l.i + 1) (drop l.i (map (λ t. t.items) l.threads)) ≡ in_threads (clause_of l.clause l.names) 1 (map (λ t. t.items) l.threads)
