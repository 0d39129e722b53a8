use Rattle.std.proofs.Common.{◌-◌}
use Rattle.pg_outline_text.proofs.SpellingParts.{thread_names}
use Rattle.pg_outline_text.proofs.print.put_thread.Goals as goal

pub print_thread-requires-clause-notes : goal.print_thread-requires-clause-notes
print_thread-requires-clause-notes c =
    let o = c.args.o.now in
    let declared = thread_names o.program.names o.notes (c.args.k - 1) c.program-program.ensures.made.draft.notes in
    rw (c.names.ensures.names, c.program-program.ensures.program, c.thread_notes.ensures.notes) declared
