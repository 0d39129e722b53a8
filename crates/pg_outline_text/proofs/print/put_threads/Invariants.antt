use Rattle.std.proofs.Common.{◌≡◌, ◌+◌, ◌++◌, drop}
use Rattle.pg_outline_text.specs.Spelling.{threads_lines}
use Rattle.pg_outline_text.proofs.print.put_threads.Given as goal

-- with the lines of the threads that are left the text is whole
abbrev pub invariant-threads : goal.invariant-threads
invariant-threads l = l.into.items ++ threads_lines l.o.program.names (l.i + 1) (drop l.i l.o.program.threads) (drop l.i l.o.notes) ≡ l.initial.into.items ++ threads_lines l.o.program.names 1 l.o.program.threads l.o.notes
