use Rattle.std.proofs.Common.{◌≡◌, length, map, All}
use Rattle.pg_program.specs.Program.{IsThread}
use Rattle.pg_cases.proofs.programs.threads.Given as goal

abbrev pub invariant-loop-i : goal.invariant-loop-i
invariant-loop-i l = All (IsThread l.names) (map (λ t. t.items) l.threads.items) × (length l.threads.items ≡ l._i)
