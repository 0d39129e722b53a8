-- Each goal says what the body leads to, by what its turn met.
use Rattle.std.proofs.Common.{rules, ◌≢◌, ◌∙◌, ap, sym, Ok, Err}
use Rattle.pg_lex.specs.declared.fault.TextFault.TheVariants.{NoMemory}
use Rattle.pg_program_text.specs.Text.{lines}
use Rattle.pg_program_text.proofs.Lined.{body_fails, body_ends, body_continues, body_out}
use Rattle.pg_program_text.proofs.thread.body.Goals as goal

pub returns-in_err-body_line : goal.returns-in_err-body_line
returns-in_err-body_line c =
    let fails = λ (memory : c.in_err-body_line.field-0.0 ≢ NoMemory).
    body_fails c.args.names.now c.turns-i-end.result c.lines._i (lines c.lines.text) c.lines.tokens _ _ c.lines-test.true c.lines.invariant (c.in_err-body_line.ensures memory) in
    search rules

pub returns-then-not-branch : goal.returns-then-not-branch
returns-then-not-branch c =
    body_ends c.args.names.now c.turns-i-end.result c.lines._i (lines c.lines.text) c.lines.tokens _ c.body_line.new.tokens (lines c.body_line.new.text) c.lines-test.true c.lines.invariant
    (c.in_ok-body_line.ensures ∙ ap (λ b. Ok ((lines c.body_line.new.text, b), c.body_line.new.tokens)) c.if-not-branch.true)

pub lines-preserved : goal.lines-preserved
lines-preserved c =
    body_continues c.args.names.now c.turns-i-end.result c.lines._i (lines c.lines.text) c.lines.tokens _ c.body_line.new.tokens (lines c.body_line.new.text) c.lines-test.true c.lines.invariant
    (c.in_ok-body_line.ensures ∙ ap (λ b. Ok ((lines c.body_line.new.text, b), c.body_line.new.tokens)) c.if-not-branch.false)

pub returns : goal.returns
returns c = λ memory. body_out c.args.names.now c.turns-i-end.result c.lines._i (lines c.lines.text) c.lines.tokens _ c.lines-test.false c.lines.invariant ∙ ap Err (sym c.refused.ensures)
