use Rattle.std.proofs.Common.{◌≡◌, ◌++◌, take}
use Rattle.pg_derivation.specs.Derivation.{trees_of}
use Rattle.pg_derivation.specs.Text.{header_text, trees_text}
use Rattle.pg_derivation.proofs.print.append_text.Given as goal

abbrev pub invariant-loop-i : goal.invariant-loop-i
invariant-loop-i l = l.text.items ≡ header_text ++ trees_text 1 (take l.i (trees_of l.d))
