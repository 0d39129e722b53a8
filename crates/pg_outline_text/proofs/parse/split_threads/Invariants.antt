use Rattle.std.proofs.Common.{◌≡◌, ◌++◌, map}
use Rattle.pg_assertion.specs.Formula.{plain}
use Rattle.pg_program_text.specs.Text.{lines}
use Rattle.pg_outline_text.proofs.parse.split_threads.Given as goal

-- what is taken apart, and what is left, are all of it
abbrev pub invariant-loop-thread : goal.invariant-loop-thread
invariant-loop-thread l =
    (map (λ t. t.items) l.stmts.items ++ map (λ t. (lines t).stmts) l.thread-iterator.rest.items ≡ map (λ t. (lines t).stmts) l.fn.threads.items)
    × (map (λ t. map plain t.items) l.notes.items ++ map (λ t. (lines t).notes) l.thread-iterator.rest.items ≡ map (λ t. (lines t).notes) l.fn.threads.items)
