use Rattle.std.proofs.Common.{◌≡◌, drop, map}
use Rattle.std.specs.List.{list_any}
use Rattle.pg_program.specs.Expr.{reads}
use Rattle.pg_program.specs.Words.{is_wide}
use Rattle.pg_program.proofs.words.bracket_reads_many.Given as goal

-- the expressions so far read few names
abbrev pub invariant-loop-assign : goal.invariant-loop-assign
invariant-loop-assign l = list_any is_wide (map (λ a. reads a.expr) (drop l.assign-index l.aux)) ≡ list_any is_wide (map (λ a. reads a.expr) l.aux)
