use Rattle.std.proofs.Common.{◌≡◌, map, take}
use Rattle.pg_outline.specs.Erasure.{erased_stmt, new_place}
use Rattle.pg_outline.proofs.erasure.erased_threads.Given as goal

-- the threads so far are erased
abbrev pub invariant-loop-t : goal.invariant-loop-t
invariant-loop-t l = map (λ t. t.items) l.threads.items ≡ map (map (erased_stmt (new_place l.program.names))) (take l.t l.program.threads)
