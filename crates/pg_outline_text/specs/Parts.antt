-- What contracts see of what a text is read as.
use Rattle.std.specs.Prelude.{map}
use Rattle.pg_assertion.specs.Formula.{plain}
use Rattle.pg_program_text.specs.Text.{lines}
use Rattle.pg_outline_text.specs.declared.source.Source.{Source as ReadSource}
use Rattle.pg_outline_text.specs.Source.{Source}

abbrev pub as_source : ReadSource → Source
as_source r = record { names = r.names; pre = plain r.pre; crash = plain r.crash; threads = map lines r.threads.items }
