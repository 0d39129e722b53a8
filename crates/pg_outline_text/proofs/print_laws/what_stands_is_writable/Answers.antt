use Rattle.pg_outline_text.proofs.SpellingWritable.{what_stands_is_writable}
use Rattle.pg_outline_text.proofs.print_laws.what_stands_is_writable.Goals as goal

pub returns : goal.returns
returns c = what_stands_is_writable
