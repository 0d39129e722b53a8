use Rattle.std.proofs.Common.{◌≡◌, ◌++◌, ◌-◌}
use Rattle.pg_program_text.specs.Spelling.{indent}
use Rattle.pg_program_text.proofs.print.indent.Given as goal

-- the blanks so far are appended
abbrev pub invariant-loop-brace : goal.invariant-loop-brace
invariant-loop-brace l = l.into.items ++ indent (l.depth - l._brace) ≡ l.initial.into.items ++ indent l.depth
