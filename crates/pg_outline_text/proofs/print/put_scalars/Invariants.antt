use Rattle.std.proofs.Common.{◌≡◌, ◌++◌, drop}
use Rattle.std.specs.List.{flat_map}
use Rattle.pg_outline_text.specs.Spelling.{scalar_line}
use Rattle.pg_outline_text.proofs.print.put_scalars.Given as goal

-- with the lines that are left the text is whole
abbrev pub invariant-scalars : goal.invariant-scalars
invariant-scalars l = l.into.items ++ flat_map scalar_line (drop l.r l.names.scalars) ≡ l.initial.into.items ++ flat_map scalar_line l.names.scalars
