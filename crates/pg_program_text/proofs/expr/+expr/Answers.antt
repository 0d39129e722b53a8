-- Each goal says what a chain leads to, by what its turn met.
use Rattle.std.proofs.Common.{rules, ◌≡◌, ◌≢◌, ◌∙◌, ◌+◌, ◌-◌, ap, sym, subst, Ok, Err, arith}
use Rattle.pg_lex.specs.declared.fault.TextFault.TheVariants.{NoMemory}
use Rattle.pg_program.specs.declared.syntax.Expr.{Expr}
use Rattle.pg_assertion_text.specs.Below.{above}
use Rattle.pg_assertion_text.specs.Input.{Parser, Reads}
use Rattle.pg_assertion_text.proofs.Outcomes.{did, did_not, read, read_not}
use Rattle.pg_program_text.specs.Expr as spec
use Rattle.pg_program_text.proofs.Links.{link_stops, link_ends, link_fails, link_goes, link_out}
use Rattle.pg_program_text.proofs.Levels.{factor_below}
use Rattle.pg_program_text.proofs.expr.+expr.Goals as goal
use Rattle.pg_program_text.proofs.expr.+expr.Goals.{factor-then-levels-eq0, factor-else-levels-eq0}

pub factor-returns : goal.factor-returns
factor-returns t c =
    let levels : above c.if-levels-eq0.below ≡ c.args.levels =
    elim c.if-levels-eq0.branch [
      | factor-then-levels-eq0 w ↦ ap above w.below-is ∙ sym w.if-levels-eq0.true
      | factor-else-levels-eq0 w ↦ ap above w.below-is ∙ omega arith
    ] in
    subst (λ o. Reads (λ a. a) o c.factor_in.result c.factor_in.new.tokens)
    (ap (λ (p : Parser Expr). p c.args.tokens.now) (sym (factor_below c.args.names.now c.args.levels c.if-levels-eq0.below levels))) c.factor_in.ensures

pub product-returns-in_err-read : goal.product-returns-in_err-read
product-returns-in_err-read t c =
    let fails = link_stops (spec.factor_of c.args.names.now c.args.levels) spec.times c.turns-i-end.result c.signs._i c.signs.left c.signs.tokens _ c.in_err-read.field-0.0 c.signs-test.true c.signs.invariant
    (did_not (λ z. z) (spec.times c.signs.tokens) c.times.result c.times.new.tokens c.in_err-read.field-0.0 c.times.ensures c.in_err-read.ensures.err) in
    search rules

pub product-returns-in-None : goal.product-returns-in-None
product-returns-in-None t c =
    link_ends (spec.factor_of c.args.names.now c.args.levels) spec.times c.turns-i-end.result c.signs._i c.signs.left c.signs.tokens c.times.new.tokens _ c.signs-test.true c.signs.invariant
    (did (λ z. z) (spec.times c.signs.tokens) c.times.result c.times.new.tokens c.in_ok-read.sign c.times.ensures c.in_ok-read.ensures.ok.1 ∙ ap (λ z. Ok (z, c.times.new.tokens)) c.in-None.is)
    ∙ ap (λ a. Ok (a, c.times.new.tokens)) (sym c.in_ok-read.ensures.ok.0)

pub product-returns-in_err-read-2 : goal.product-returns-in_err-read-2
product-returns-in_err-read-2 t c =
    let fails = λ (memory : c.in_err-read-2.field-0.0 ≢ NoMemory).
    link_fails (spec.factor_of c.args.names.now c.args.levels) spec.times c.turns-i-end.result c.signs._i c.signs.left c.in-Some.sign c.signs.tokens c.times.new.tokens _ c.in_err-read-2.field-0.0 c.signs-test.true c.signs.invariant
    (did (λ z. z) (spec.times c.signs.tokens) c.times.result c.times.new.tokens c.in_ok-read.sign c.times.ensures c.in_ok-read.ensures.ok.1 ∙ ap (λ z. Ok (z, c.times.new.tokens)) c.in-Some.is)
    (read_not (λ a. a) ((spec.factor_of c.args.names.now c.args.levels) c.times.new.tokens) c.factor-in-signs.result c.factor-in-signs.new.tokens c.in_err-read-2.field-0.0 c.factor-in-signs.ensures c.in_err-read-2.ensures.err memory) in
    search rules

pub product-signs-preserved : goal.product-signs-preserved
product-signs-preserved t c =
    link_goes (spec.factor_of c.args.names.now c.args.levels) spec.times c.turns-i-end.result c.signs._i c.signs.left c.in_ok-read-2.right c.in-Some.sign c.signs.tokens c.times.new.tokens c.factor-in-signs.new.tokens _ c.signs-test.true c.signs.invariant
    (did (λ z. z) (spec.times c.signs.tokens) c.times.result c.times.new.tokens c.in_ok-read.sign c.times.ensures c.in_ok-read.ensures.ok.1 ∙ ap (λ z. Ok (z, c.times.new.tokens)) c.in-Some.is)
    (read (λ a. a) ((spec.factor_of c.args.names.now c.args.levels) c.times.new.tokens) c.factor-in-signs.result c.factor-in-signs.new.tokens c.in_ok-read-2.right c.factor-in-signs.ensures c.in_ok-read-2.ensures.ok.1)
    ∙ ap (λ a. spec.linked_on (spec.factor_of c.args.names.now c.args.levels) spec.times (c.turns-i-end.result - (c.signs._i + 1)) a c.factor-in-signs.new.tokens)
    (ap (λ a. spec.by_sign c.in-Some.sign a c.in_ok-read-2.right) (sym (c.in_ok-read-2.ensures.ok.0 ∙ c.in_ok-read.ensures.ok.0)) ∙ sym c.in_ok-left-2.ensures)

pub product-returns : goal.product-returns
product-returns t c = λ memory.
    link_out (spec.factor_of c.args.names.now c.args.levels) spec.times c.turns-i-end.result c.signs._i c.signs.left c.signs.tokens _ c.signs-test.false c.signs.invariant ∙ ap Err (sym c.endless.ensures)

pub sum-returns-in_err-read : goal.sum-returns-in_err-read
sum-returns-in_err-read t c =
    let fails = link_stops (spec.product (spec.factor_of c.args.names.now c.args.levels)) spec.plus_or_minus c.turns-i-end.result c.signs._i c.signs.left c.signs.tokens _ c.in_err-read.field-0.0 c.signs-test.true c.signs.invariant
    (did_not (λ z. z) (spec.plus_or_minus c.signs.tokens) c.plus_or_minus.result c.plus_or_minus.new.tokens c.in_err-read.field-0.0 c.plus_or_minus.ensures c.in_err-read.ensures.err) in
    search rules

pub sum-returns-in-None : goal.sum-returns-in-None
sum-returns-in-None t c =
    link_ends (spec.product (spec.factor_of c.args.names.now c.args.levels)) spec.plus_or_minus c.turns-i-end.result c.signs._i c.signs.left c.signs.tokens c.plus_or_minus.new.tokens _ c.signs-test.true c.signs.invariant
    (did (λ z. z) (spec.plus_or_minus c.signs.tokens) c.plus_or_minus.result c.plus_or_minus.new.tokens c.in_ok-read.sign c.plus_or_minus.ensures c.in_ok-read.ensures.ok.1 ∙ ap (λ z. Ok (z, c.plus_or_minus.new.tokens)) c.in-None.is)
    ∙ ap (λ a. Ok (a, c.plus_or_minus.new.tokens)) (sym c.in_ok-read.ensures.ok.0)

pub sum-returns-in_err-read-2 : goal.sum-returns-in_err-read-2
sum-returns-in_err-read-2 t c =
    let fails = λ (memory : c.in_err-read-2.field-0.0 ≢ NoMemory).
    link_fails (spec.product (spec.factor_of c.args.names.now c.args.levels)) spec.plus_or_minus c.turns-i-end.result c.signs._i c.signs.left c.in-Some.sign c.signs.tokens c.plus_or_minus.new.tokens _ c.in_err-read-2.field-0.0 c.signs-test.true c.signs.invariant
    (did (λ z. z) (spec.plus_or_minus c.signs.tokens) c.plus_or_minus.result c.plus_or_minus.new.tokens c.in_ok-read.sign c.plus_or_minus.ensures c.in_ok-read.ensures.ok.1 ∙ ap (λ z. Ok (z, c.plus_or_minus.new.tokens)) c.in-Some.is)
    (read_not (λ a. a) ((spec.product (spec.factor_of c.args.names.now c.args.levels)) c.plus_or_minus.new.tokens) c.product-in-signs.result c.product-in-signs.new.tokens c.in_err-read-2.field-0.0 c.product-in-signs.ensures c.in_err-read-2.ensures.err memory) in
    search rules

pub sum-signs-preserved : goal.sum-signs-preserved
sum-signs-preserved t c =
    link_goes (spec.product (spec.factor_of c.args.names.now c.args.levels)) spec.plus_or_minus c.turns-i-end.result c.signs._i c.signs.left c.in_ok-read-2.right c.in-Some.sign c.signs.tokens c.plus_or_minus.new.tokens c.product-in-signs.new.tokens _ c.signs-test.true c.signs.invariant
    (did (λ z. z) (spec.plus_or_minus c.signs.tokens) c.plus_or_minus.result c.plus_or_minus.new.tokens c.in_ok-read.sign c.plus_or_minus.ensures c.in_ok-read.ensures.ok.1 ∙ ap (λ z. Ok (z, c.plus_or_minus.new.tokens)) c.in-Some.is)
    (read (λ a. a) ((spec.product (spec.factor_of c.args.names.now c.args.levels)) c.plus_or_minus.new.tokens) c.product-in-signs.result c.product-in-signs.new.tokens c.in_ok-read-2.right c.product-in-signs.ensures c.in_ok-read-2.ensures.ok.1)
    ∙ ap (λ a. spec.linked_on (spec.product (spec.factor_of c.args.names.now c.args.levels)) spec.plus_or_minus (c.turns-i-end.result - (c.signs._i + 1)) a c.product-in-signs.new.tokens)
    (ap (λ a. spec.by_sign c.in-Some.sign a c.in_ok-read-2.right) (sym (c.in_ok-read-2.ensures.ok.0 ∙ c.in_ok-read.ensures.ok.0)) ∙ sym c.in_ok-left-2.ensures)

pub sum-returns : goal.sum-returns
sum-returns t c = λ memory.
    link_out (spec.product (spec.factor_of c.args.names.now c.args.levels)) spec.plus_or_minus c.turns-i-end.result c.signs._i c.signs.left c.signs.tokens _ c.signs-test.false c.signs.invariant ∙ ap Err (sym c.endless.ensures)
