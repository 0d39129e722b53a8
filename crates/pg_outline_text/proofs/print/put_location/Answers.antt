use Rattle.std.proofs.Common.{Some, sym, ap, ◌∙◌}
use Rattle.std.specs.Prelude.{slice_get}
use Rattle.pg_outline_text.proofs.SpellingParts.{location_entry, on_ok}
use Rattle.pg_outline_text.proofs.print.put_location.Goals as goal

pub returns : goal.returns
returns c =
    on_ok c.put_entry.result
    (location_entry (slice_get c.args.names.now.locations c.args.x) c.as_bytes-name.result.now c.init.result c.args.into.now.items c.put_entry.new.into.items
    (c.location_name.ensures ∙ ap Some (sym c.as_bytes-name.ensures.value)) c.init.ensures)
    c.put_entry.ensures
