use Rattle.std.proofs.Common.{◌≡◌, ◌-◌, map, length}
use Rattle.pg_program_text.specs.Text.{lines}
use Rattle.pg_outline_text.specs.Reading as spec
use Rattle.pg_outline_text.proofs.thread.threads.Given as goal

-- the threads that are left give what all of them give
abbrev pub invariant-threads : goal.invariant-threads
invariant-threads l =
    (spec.threads l.names l.fn.tokens ≡ spec.threads_on l.names (l.i-end - l.i) (map lines l.found.items) l.tokens)
    × (length l.found.items ≡ l.i)
