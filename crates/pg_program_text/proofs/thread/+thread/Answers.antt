-- Each goal says what the lines of a block lead to, by what their turn met.
use Rattle.pg_program_text.specs.Limits.{text_limits}
use Rattle.std.proofs.Common.{rules, ◌≡◌, ◌≢◌, ◌∙◌, ap, sym, subst, Ok, Err, arith}
use Rattle.pg_lex.specs.declared.fault.TextFault.TheVariants.{NoMemory}
use Rattle.pg_assertion_text.specs.Below.{above}
use Rattle.pg_assertion_text.specs.Input.{Parser, Reads}
use Rattle.pg_program_text.specs.Thread as spec
use Rattle.pg_program_text.specs.Thread.{Noted}
use Rattle.pg_program_text.specs.Text.{lines, noted}
use Rattle.pg_program_text.proofs.Lined.{lines_stop, lines_end, lines_fail, lines_go, lines_out}
use Rattle.pg_program_text.proofs.Levels.{statement_below}
use Rattle.pg_program_text.proofs.thread.+thread.Goals as goal
use Rattle.pg_program_text.proofs.thread.+thread.Goals.{statement-then-levels-eq0, statement-else-levels-eq0}

pub statement-returns : goal.statement-returns
statement-returns t c =
    let levels : above c.if-levels-eq0.below ≡ c.args.levels =
    elim c.if-levels-eq0.branch [
      | statement-then-levels-eq0 w ↦ ap above w.below-is ∙ sym w.if-levels-eq0.true
      | statement-else-levels-eq0 w ↦ ap above w.below-is ∙ omega arith
    ] in
    subst (λ o. Reads noted o c.statement_in.result c.statement_in.new.tokens)
    (ap (λ (p : Parser Noted). p c.args.tokens.now) (sym (statement_below c.args.names.now c.args.levels c.if-levels-eq0.below levels))) c.statement_in.ensures

pub block_lines-returns-in_err-ends : goal.block_lines-returns-in_err-ends
block_lines-returns-in_err-ends t c =
    let fails = lines_stop c.args.names.now (spec.statement text_limits c.args.names.now c.args.levels) c.turns-i-end.result c.lines._i (lines c.lines.text) c.lines.tokens _ _ c.lines-test.true c.lines.invariant c.in_err-ends.ensures in
    search rules

pub block_lines-returns-then-branch : goal.block_lines-returns-then-branch
block_lines-returns-then-branch t c =
    lines_end c.args.names.now (spec.statement text_limits c.args.names.now c.args.levels) c.turns-i-end.result c.lines._i (lines c.lines.text) c.lines.tokens _ c.ends.new.tokens c.lines-test.true c.lines.invariant (c.in_ok-ends.ensures ∙ ap (λ b. Ok (b, c.ends.new.tokens)) c.if-branch.true)

pub block_lines-returns-in_err-line : goal.block_lines-returns-in_err-line
block_lines-returns-in_err-line t c =
    let fails = λ (memory : c.in_err-line.field-0.0 ≢ NoMemory).
    lines_fail c.args.names.now (spec.statement text_limits c.args.names.now c.args.levels) c.turns-i-end.result c.lines._i (lines c.lines.text) c.lines.tokens _ c.ends.new.tokens _ c.lines-test.true c.lines.invariant (c.in_ok-ends.ensures ∙ ap (λ b. Ok (b, c.ends.new.tokens)) c.if-branch.false) (c.in_err-line.ensures memory) in
    search rules

pub block_lines-lines-preserved : goal.block_lines-lines-preserved
block_lines-lines-preserved t c =
    lines_go c.args.names.now (spec.statement text_limits c.args.names.now c.args.levels) c.turns-i-end.result c.lines._i (lines c.lines.text) c.lines.tokens _ c.ends.new.tokens c.line.new.tokens (lines c.line.new.text) c.lines-test.true c.lines.invariant
    (c.in_ok-ends.ensures ∙ ap (λ b. Ok (b, c.ends.new.tokens)) c.if-branch.false) c.in_ok-line.ensures

pub block_lines-returns : goal.block_lines-returns
block_lines-returns t c = λ memory. lines_out c.args.names.now (spec.statement text_limits c.args.names.now c.args.levels) c.turns-i-end.result c.lines._i (lines c.lines.text) c.lines.tokens _ c.lines-test.false c.lines.invariant ∙ ap Err (sym c.refused.ensures)
