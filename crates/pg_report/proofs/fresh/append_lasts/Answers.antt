use Rattle.std.specs.Prelude.{slice_index}
use Rattle.pg_program.specs.NameTable.{initial}
use Rattle.pg_assertion.specs.declared.atom.ViewAtom.TheVariants.{Last}
use Rattle.pg_report.specs.Fresh.{true_line}
use Rattle.pg_report.proofs.FreshLines.{append-from_0}
use Rattle.pg_report.proofs.fresh.append_lasts.Goals as goal

pub locations-preserved : goal.locations-preserved
locations-preserved c =
    append-from_0 (λ x. true_line c.args.p.now.names (Last x (slice_index (initial c.args.p.now.names) x))) c.locations.x c.args.text.now.items c.locations.text.items c.append_true.new.text.items c.locations.invariant
    (rw (c.names-names.ensures.names, c.first_value.ensures) at c.in_ok-append_true.ensures)
