-- Each goal says what the bracket leads to, by what its turn met.
use Rattle.pg_program_text.specs.Limits.{text_limits}
use Rattle.std.proofs.Common.{rules, ◌≢◌, ◌∙◌, ◌+◌, ◌-◌, ap, sym, Ok}
use Rattle.pg_lex.specs.declared.fault.TextFault.TheVariants.{NoMemory}
use Rattle.pg_program_text.specs.Limits.{most_assignments}
use Rattle.pg_program_text.specs.Stmt as spec
use Rattle.pg_program_text.proofs.Assigned.{bracket_fails, bracket_stops, bracket_ends, bracket_goes, bracket_last}
use Rattle.pg_program_text.proofs.stmt.assignments.Goals as goal

pub returns-in_err-next : goal.returns-in_err-next
returns-in_err-next c =
    let fails = λ (memory : c.in_err-next.field-0.0 ≢ NoMemory).
    bracket_fails c.args.names.now most_assignments c.assignments.i c.assignments.found c.assignments.tokens _ _ c.assignments-test.true c.assignments.invariant (c.in_err-next.ensures memory) in
    search rules

pub returns-in_err-separator : goal.returns-in_err-separator
returns-in_err-separator c =
    let fails = bracket_stops c.args.names.now most_assignments c.assignments.i c.assignments.found c.in_ok-next.next c.assignments.tokens c.assignment.new.tokens _ _ c.assignments-test.true c.assignments.invariant
    c.in_ok-next.ensures c.in_err-separator.ensures in
    search rules

pub returns-then-not-branch : goal.returns-then-not-branch
returns-then-not-branch c =
    bracket_ends c.args.names.now most_assignments c.assignments.i c.assignments.found c.in_ok-next.next c.assignments.tokens c.assignment.new.tokens c.separator.new.tokens _ c.assignments-test.true c.assignments.invariant
    c.in_ok-next.ensures (c.in_ok-separator.ensures ∙ ap (λ b. Ok (b, c.separator.new.tokens)) c.if-not-branch.true)
    ∙ ap (λ l. Ok (l, c.separator.new.tokens)) (sym c.in_ok-push.ensures.ok)

pub assignments-preserved : goal.assignments-preserved
assignments-preserved c =
    bracket_goes c.args.names.now most_assignments c.assignments.i c.assignments.found c.in_ok-next.next c.assignments.tokens c.assignment.new.tokens c.separator.new.tokens _ c.assignments-test.true c.assignments.invariant
    c.in_ok-next.ensures (c.in_ok-separator.ensures ∙ ap (λ b. Ok (b, c.separator.new.tokens)) c.if-not-branch.false)
    ∙ ap (λ l. spec.assignments_on text_limits c.args.names.now (most_assignments - (c.assignments.i + 1)) l c.separator.new.tokens) (sym c.in_ok-push.ensures.ok)

pub returns-in_err-assignment : goal.returns-in_err-assignment
returns-in_err-assignment c =
    let fails = λ (memory : c.in_err-assignment.field-0.0 ≢ NoMemory).
    bracket_last c.args.names.now most_assignments c.assignments.i c.assignments.found c.assignments.tokens _ _ c.assignments-test.false c.assignments.invariant (c.in_err-assignment.ensures memory) in
    search rules

pub returns : goal.returns
returns c =
    bracket_last c.args.names.now most_assignments c.assignments.i c.assignments.found c.assignments.tokens _ _ c.assignments-test.false c.assignments.invariant c.in_ok-assignment.ensures
    ∙ ap (λ l. Ok (l, c.assignment-2.new.tokens)) (sym c.in_ok-push-2.ensures.ok)
