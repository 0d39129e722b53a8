-- The three givens of an interference stand one behind the other.
use Rattle.pg_outline.specs.Outline.{note_at}
use Rattle.pg_report.specs.Obligations.{given_line, assertion, crash}
use Rattle.pg_report.proofs.Appended.{on_ok, three-appended}
use Rattle.pg_report.proofs.obligations.append_givens.Goals as goal

pub returns-in_ok-append_note-in-Interfere-2 : goal.returns-in_ok-append_note-in-Interfere-2
returns-in_ok-append_note-in-Interfere-2 c =
    let o = c.args.o.now in
    let s = c.in-Interfere.step in
    let at = c.in-Interfere.at in
    rw c.in-Interfere.is
    (on_ok c.append_crash.result
    (three-appended c.args.text.now.items c.append_note.new.text.items c.append_note-in-Interfere.new.text.items c.append_crash.new.text.items
    (given_line o.program.names (assertion (note_at o s.thread s.point)))
    (given_line o.program.names (assertion (note_at o at.thread at.point)))
    (given_line o.program.names (crash o.crash))
    c.in_ok-append_note-in-Interfere.ensures c.in_ok-append_note-in-Interfere-2.ensures)
    c.append_crash.ensures)
