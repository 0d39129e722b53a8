use Rattle.pg_program_text.specs.Limits.{text_limits}
use Rattle.std.proofs.Common.{◌≡◌, ◌+◌, ◌-◌, ◌*◌}
use Rattle.pg_assertion_text.specs.Below.{above}
use Rattle.pg_program_text.specs.Thread as spec
use Rattle.pg_program_text.specs.Text.{lines}
use Rattle.pg_program_text.proofs.thread.+thread.Given as goal

abbrev pub decreases-block_lines : goal.decreases-block_lines
decreases-block_lines l = 8 * l.levels + 7

abbrev pub decreases-line : goal.decreases-line
decreases-line l = 8 * l.levels + 6

abbrev pub decreases-statement : goal.decreases-statement
decreases-statement l = 8 * l.levels + 5

abbrev pub decreases-statement_in : goal.decreases-statement_in
decreases-statement_in l = 8 * above l.below + 4

abbrev pub decreases-branch : goal.decreases-branch
decreases-branch l = 8 * above l.below + 3

abbrev pub decreases-repeat : goal.decreases-repeat
decreases-repeat l = 8 * above l.below + 3

abbrev pub decreases-else_part : goal.decreases-else_part
decreases-else_part l = 8 * above l.below + 2

abbrev pub decreases-block : goal.decreases-block
decreases-block l = 8 * above l.below + 1

-- what is left of the block gives what the whole block gives
abbrev pub invariant-block_lines-lines : goal.invariant-block_lines-lines
invariant-block_lines-lines l =
    let stmt = spec.statement text_limits l.names l.levels in
    spec.lines text_limits l.names stmt l.fn.tokens ≡ spec.lines_on text_limits l.names stmt (l._i-end - l._i) (lines l.text) l.tokens
