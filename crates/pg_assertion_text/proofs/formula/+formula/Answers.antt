-- Each goal says what a chain leads to, by what its turn met.
use Rattle.std.proofs.Common.{rules, ◌≡◌, ◌≢◌, ◌∙◌, ap, sym, Ok, Err, ◌+◌, ◌-◌, arith, subst, map, ◌∷◌, ◌++◌, []}
use Rattle.std.proofs.lemmas.List.{map-append}
use Rattle.std.specs.Prelude.{option_map}
use Rattle.pg_lex.specs.declared.token.Sign.TheVariants.{And, Or, Arrow}
use Rattle.pg_lex.specs.declared.fault.TextFault.TheVariants.{NoMemory}
use Rattle.pg_assertion.specs.declared.formula.Formula.{the_lemmas}
use Rattle.pg_assertion.specs.Formula.{Plain, plain, atom, both, either}
use Rattle.pg_assertion_text.specs.Below.{above}
use Rattle.pg_assertion_text.specs.Input.{Parser, Reads, and_then, pure, goes_on}
use Rattle.pg_assertion_text.specs.Reading as spec
use Rattle.pg_assertion_text.specs.declared.formula.Opening.TheVariants as opens
use Rattle.pg_assertion_text.proofs.Chains.{chain_stops, chain_ends, chain_fails, chain_goes, chain_out, arrow_fails, arrow_stops, arrow_ends, arrow_goes, arrow_out}
use Rattle.pg_assertion_text.proofs.Levels.{unary_below}
use Rattle.pg_assertion_text.proofs.Openings.{operand_opens}
use Rattle.pg_assertion_text.proofs.Outcomes.{did, did_not, read, read_not}
use Rattle.pg_assertion_text.proofs.formula.+formula.Goals as goal
use Rattle.pg_assertion_text.proofs.formula.+formula.Goals.{unary-then-levels-eq0, unary-else-levels-eq0}

pub unary-returns : goal.unary-returns
unary-returns g t c =
    let levels : above c.if-levels-eq0.below ≡ c.args.levels =
    elim c.if-levels-eq0.branch [
      | unary-then-levels-eq0 w ↦ ap above w.below-is ∙ sym w.if-levels-eq0.true
      | unary-else-levels-eq0 w ↦ ap above w.below-is ∙ omega arith
    ] in
    subst (λ o. Reads plain o c.operand.result c.operand.new.tokens)
    (ap (λ (p : Parser (Plain g.row.T.Denot)). p c.args.tokens.now) (sym (unary_below (g.T.ReadAtom.read c.args.names.now) c.args.levels c.if-levels-eq0.below levels))) c.operand.ensures

pub formula-returns-in_err-last : goal.formula-returns-in_err-last
formula-returns-in_err-last g t c =
    let fails = λ (memory : c.in_err-last.field-0.0 ≢ NoMemory).
    arrow_fails (spec.disjunction (spec.unary (g.T.ReadAtom.read c.args.names.now) c.args.levels)) c.turns-i-end.result c.arrows._i (map plain c.arrows.premises.items) c.arrows.tokens _ _ c.arrows-test.true c.arrows.invariant (c.in_err-last.ensures memory) in
    search rules

pub conjunction-returns-in_err-read : goal.conjunction-returns-in_err-read
conjunction-returns-in_err-read g t c =
    let fails = chain_stops (spec.unary (g.T.ReadAtom.read c.args.names.now) c.args.levels) And both c.turns-i-end.result c.signs._i (plain c.signs.left) c.signs.tokens _ c.in_err-read.field-0.0 c.signs-test.true c.signs.invariant
    (did_not (λ b. b) (goes_on And c.signs.tokens) c.goes_on.result c.goes_on.new.self c.in_err-read.field-0.0 c.goes_on.ensures c.in_err-read.ensures.err) in
    search rules

pub conjunction-returns-then-not-more : goal.conjunction-returns-then-not-more
conjunction-returns-then-not-more g t c =
    chain_ends (spec.unary (g.T.ReadAtom.read c.args.names.now) c.args.levels) And both c.turns-i-end.result c.signs._i (plain c.signs.left) c.signs.tokens _ c.goes_on.new.self c.signs-test.true c.signs.invariant
    (did (λ b. b) (goes_on And c.signs.tokens) c.goes_on.result c.goes_on.new.self c.in_ok-read.more c.goes_on.ensures c.in_ok-read.ensures.ok.1 ∙ ap (λ b. Ok (b, c.goes_on.new.self)) c.if-not-more.true)
    ∙ ap (λ f. Ok (plain f, c.goes_on.new.self)) (sym c.in_ok-read.ensures.ok.0)

pub conjunction-returns-in_err-read-2 : goal.conjunction-returns-in_err-read-2
conjunction-returns-in_err-read-2 g t c =
    let fails = λ (memory : c.in_err-read-2.field-0.0 ≢ NoMemory).
    chain_fails (spec.unary (g.T.ReadAtom.read c.args.names.now) c.args.levels) And both c.turns-i-end.result c.signs._i (plain c.signs.left) c.signs.tokens _ c.goes_on.new.self c.in_err-read-2.field-0.0 c.signs-test.true c.signs.invariant
    (did (λ b. b) (goes_on And c.signs.tokens) c.goes_on.result c.goes_on.new.self c.in_ok-read.more c.goes_on.ensures c.in_ok-read.ensures.ok.1 ∙ ap (λ b. Ok (b, c.goes_on.new.self)) c.if-not-more.false)
    (read_not plain ((spec.unary (g.T.ReadAtom.read c.args.names.now) c.args.levels) c.goes_on.new.self) c.unary-in-signs.result c.unary-in-signs.new.tokens c.in_err-read-2.field-0.0 c.unary-in-signs.ensures c.in_err-read-2.ensures.err memory) in
    search rules

pub conjunction-signs-preserved : goal.conjunction-signs-preserved
conjunction-signs-preserved g t c =
    chain_goes (spec.unary (g.T.ReadAtom.read c.args.names.now) c.args.levels) And both c.turns-i-end.result c.signs._i (plain c.signs.left) c.signs.tokens _ (plain c.in_ok-read-2.right) c.goes_on.new.self c.unary-in-signs.new.tokens c.signs-test.true c.signs.invariant
    (did (λ b. b) (goes_on And c.signs.tokens) c.goes_on.result c.goes_on.new.self c.in_ok-read.more c.goes_on.ensures c.in_ok-read.ensures.ok.1 ∙ ap (λ b. Ok (b, c.goes_on.new.self)) c.if-not-more.false)
    (read plain ((spec.unary (g.T.ReadAtom.read c.args.names.now) c.args.levels) c.goes_on.new.self) c.unary-in-signs.result c.unary-in-signs.new.tokens c.in_ok-read-2.right c.unary-in-signs.ensures c.in_ok-read-2.ensures.ok.1)
    ∙ ap (λ f. spec.chain_on (spec.unary (g.T.ReadAtom.read c.args.names.now) c.args.levels) And both (c.turns-i-end.result - (c.signs._i + 1)) f c.unary-in-signs.new.tokens)
    (ap (λ f. both (plain f) (plain c.in_ok-read-2.right)) (sym (c.in_ok-read-2.ensures.ok.0 ∙ c.in_ok-read.ensures.ok.0)) ∙ sym c.in_ok-left-2.ensures)

pub conjunction-returns : goal.conjunction-returns
conjunction-returns g t c = λ memory.
    chain_out (spec.unary (g.T.ReadAtom.read c.args.names.now) c.args.levels) And both c.turns-i-end.result c.signs._i (plain c.signs.left) c.signs.tokens _ c.signs-test.false c.signs.invariant ∙ ap Err (sym c.endless.ensures)

pub disjunction-returns-in_err-read : goal.disjunction-returns-in_err-read
disjunction-returns-in_err-read g t c =
    let fails = chain_stops (spec.conjunction (spec.unary (g.T.ReadAtom.read c.args.names.now) c.args.levels)) Or either c.turns-i-end.result c.signs._i (plain c.signs.left) c.signs.tokens _ c.in_err-read.field-0.0 c.signs-test.true c.signs.invariant
    (did_not (λ b. b) (goes_on Or c.signs.tokens) c.goes_on.result c.goes_on.new.self c.in_err-read.field-0.0 c.goes_on.ensures c.in_err-read.ensures.err) in
    search rules

pub disjunction-returns-then-not-more : goal.disjunction-returns-then-not-more
disjunction-returns-then-not-more g t c =
    chain_ends (spec.conjunction (spec.unary (g.T.ReadAtom.read c.args.names.now) c.args.levels)) Or either c.turns-i-end.result c.signs._i (plain c.signs.left) c.signs.tokens _ c.goes_on.new.self c.signs-test.true c.signs.invariant
    (did (λ b. b) (goes_on Or c.signs.tokens) c.goes_on.result c.goes_on.new.self c.in_ok-read.more c.goes_on.ensures c.in_ok-read.ensures.ok.1 ∙ ap (λ b. Ok (b, c.goes_on.new.self)) c.if-not-more.true)
    ∙ ap (λ f. Ok (plain f, c.goes_on.new.self)) (sym c.in_ok-read.ensures.ok.0)

pub disjunction-returns-in_err-read-2 : goal.disjunction-returns-in_err-read-2
disjunction-returns-in_err-read-2 g t c =
    let fails = λ (memory : c.in_err-read-2.field-0.0 ≢ NoMemory).
    chain_fails (spec.conjunction (spec.unary (g.T.ReadAtom.read c.args.names.now) c.args.levels)) Or either c.turns-i-end.result c.signs._i (plain c.signs.left) c.signs.tokens _ c.goes_on.new.self c.in_err-read-2.field-0.0 c.signs-test.true c.signs.invariant
    (did (λ b. b) (goes_on Or c.signs.tokens) c.goes_on.result c.goes_on.new.self c.in_ok-read.more c.goes_on.ensures c.in_ok-read.ensures.ok.1 ∙ ap (λ b. Ok (b, c.goes_on.new.self)) c.if-not-more.false)
    (read_not plain ((spec.conjunction (spec.unary (g.T.ReadAtom.read c.args.names.now) c.args.levels)) c.goes_on.new.self) c.conjunction-in-signs.result c.conjunction-in-signs.new.tokens c.in_err-read-2.field-0.0 c.conjunction-in-signs.ensures c.in_err-read-2.ensures.err memory) in
    search rules

pub disjunction-signs-preserved : goal.disjunction-signs-preserved
disjunction-signs-preserved g t c =
    chain_goes (spec.conjunction (spec.unary (g.T.ReadAtom.read c.args.names.now) c.args.levels)) Or either c.turns-i-end.result c.signs._i (plain c.signs.left) c.signs.tokens _ (plain c.in_ok-read-2.right) c.goes_on.new.self c.conjunction-in-signs.new.tokens c.signs-test.true c.signs.invariant
    (did (λ b. b) (goes_on Or c.signs.tokens) c.goes_on.result c.goes_on.new.self c.in_ok-read.more c.goes_on.ensures c.in_ok-read.ensures.ok.1 ∙ ap (λ b. Ok (b, c.goes_on.new.self)) c.if-not-more.false)
    (read plain ((spec.conjunction (spec.unary (g.T.ReadAtom.read c.args.names.now) c.args.levels)) c.goes_on.new.self) c.conjunction-in-signs.result c.conjunction-in-signs.new.tokens c.in_ok-read-2.right c.conjunction-in-signs.ensures c.in_ok-read-2.ensures.ok.1)
    ∙ ap (λ f. spec.chain_on (spec.conjunction (spec.unary (g.T.ReadAtom.read c.args.names.now) c.args.levels)) Or either (c.turns-i-end.result - (c.signs._i + 1)) f c.conjunction-in-signs.new.tokens)
    (ap (λ f. either (plain f) (plain c.in_ok-read-2.right)) (sym (c.in_ok-read-2.ensures.ok.0 ∙ c.in_ok-read.ensures.ok.0)) ∙ sym c.in_ok-left-2.ensures)

pub disjunction-returns : goal.disjunction-returns
disjunction-returns g t c = λ memory.
    chain_out (spec.conjunction (spec.unary (g.T.ReadAtom.read c.args.names.now) c.args.levels)) Or either c.turns-i-end.result c.signs._i (plain c.signs.left) c.signs.tokens _ c.signs-test.false c.signs.invariant ∙ ap Err (sym c.endless.ensures)

pub formula-returns-in_err-last-2 : goal.formula-returns-in_err-last-2
formula-returns-in_err-last-2 g t c =
    let fails = arrow_stops (spec.disjunction (spec.unary (g.T.ReadAtom.read c.args.names.now) c.args.levels)) c.turns-i-end.result c.arrows._i (map plain c.arrows.premises.items) c.arrows.tokens _ (plain c.in_ok-last.last) c.disjunction.new.tokens c.in_err-last-2.field-0.0 c.arrows-test.true c.arrows.invariant c.in_ok-last.ensures
    (did_not (λ b. b) (goes_on Arrow c.disjunction.new.tokens) c.goes_on.result c.goes_on.new.self c.in_err-last-2.field-0.0 c.goes_on.ensures c.in_err-last-2.ensures.err) in
    search rules

pub formula-returns-then-not-more : goal.formula-returns-then-not-more
formula-returns-then-not-more g t c =
    arrow_ends (spec.disjunction (spec.unary (g.T.ReadAtom.read c.args.names.now) c.args.levels)) c.turns-i-end.result c.arrows._i (map plain c.arrows.premises.items) c.arrows.tokens _ (plain c.in_ok-last.last) c.disjunction.new.tokens c.goes_on.new.self c.arrows-test.true c.arrows.invariant c.in_ok-last.ensures
    (did (λ b. b) (goes_on Arrow c.disjunction.new.tokens) c.goes_on.result c.goes_on.new.self c.in_ok-last-2.more c.goes_on.ensures c.in_ok-last-2.ensures.ok.1 ∙ ap (λ b. Ok (b, c.goes_on.new.self)) c.if-not-more.true)
    ∙ ap (λ f. Ok (spec.implied (map plain c.arrows.premises.items) (plain f), c.goes_on.new.self)) (sym c.in_ok-last-2.ensures.ok.0)
    ∙ ap (λ f. Ok (f, c.goes_on.new.self)) (sym c.in_ok-implied.ensures)

pub formula-arrows-preserved : goal.formula-arrows-preserved
formula-arrows-preserved g t c =
    arrow_goes (spec.disjunction (spec.unary (g.T.ReadAtom.read c.args.names.now) c.args.levels)) c.turns-i-end.result c.arrows._i (map plain c.arrows.premises.items) c.arrows.tokens _ (plain c.in_ok-last.last) c.disjunction.new.tokens c.goes_on.new.self c.arrows-test.true c.arrows.invariant c.in_ok-last.ensures
    (did (λ b. b) (goes_on Arrow c.disjunction.new.tokens) c.goes_on.result c.goes_on.new.self c.in_ok-last-2.more c.goes_on.ensures c.in_ok-last-2.ensures.ok.1 ∙ ap (λ b. Ok (b, c.goes_on.new.self)) c.if-not-more.false)
    ∙ ap (λ fs. spec.arrows_on (spec.disjunction (spec.unary (g.T.ReadAtom.read c.args.names.now) c.args.levels)) (c.turns-i-end.result - (c.arrows._i + 1)) fs c.goes_on.new.self)
    (ap (λ f. map plain c.arrows.premises.items ++ plain f ∷ []) (sym c.in_ok-last-2.ensures.ok.0)
    ∙ sym (ap (map plain) c.in_ok-push.ensures.items ∙ map-append plain c.arrows.premises.items (c.in_ok-last-2.last ∷ [])))

pub formula-returns : goal.formula-returns
formula-returns g t c = λ memory.
    arrow_out (spec.disjunction (spec.unary (g.T.ReadAtom.read c.args.names.now) c.args.levels)) c.turns-i-end.result c.arrows._i (map plain c.arrows.premises.items) c.arrows.tokens _ c.arrows-test.false c.arrows.invariant ∙ ap Err (sym c.refused.ensures)

pub operand-returns-in_err-opening : goal.operand-returns-in_err-opening
operand-returns-in_err-opening g t c =
    let fails : spec.operand (g.T.ReadAtom.read c.args.names.now) (option_map (spec.unary (g.T.ReadAtom.read c.args.names.now)) c.args.below) c.args.tokens.now ≡ Err c.in_err-opening.field-0.0 =
    operand_opens (g.T.ReadAtom.read c.args.names.now) (option_map (spec.unary (g.T.ReadAtom.read c.args.names.now)) c.args.below) c.args.tokens.now (Err c.in_err-opening.field-0.0) c.in_err-opening.ensures in
    search rules

pub operand-returns-in-Negation : goal.operand-returns-in-Negation
operand-returns-in-Negation g t c =
    let begins = operand_opens (g.T.ReadAtom.read c.args.names.now) (option_map (spec.unary (g.T.ReadAtom.read c.args.names.now)) c.args.below) c.args.tokens.now (Ok ((opens.Negation, c.in_ok-opening.place), c.opened.new.tokens))
    (c.in_ok-opening.ensures ∙ ap (λ o. Ok ((o, c.in_ok-opening.place), c.opened.new.tokens)) c.in-Negation.is) in
    subst (λ o. Reads plain o c.negation.result c.negation.new.tokens) (sym begins) c.negation.ensures

pub operand-returns-in-Bracket : goal.operand-returns-in-Bracket
operand-returns-in-Bracket g t c =
    let begins = operand_opens (g.T.ReadAtom.read c.args.names.now) (option_map (spec.unary (g.T.ReadAtom.read c.args.names.now)) c.args.below) c.args.tokens.now (Ok ((opens.Bracket, c.in_ok-opening.place), c.opened.new.tokens))
    (c.in_ok-opening.ensures ∙ ap (λ o. Ok ((o, c.in_ok-opening.place), c.opened.new.tokens)) c.in-Bracket.is) in
    subst (λ o. Reads plain o c.bracketed.result c.bracketed.new.tokens) (sym begins) c.bracketed.ensures

pub operand-returns-in-Constant : goal.operand-returns-in-Constant
operand-returns-in-Constant g t c =
    operand_opens (g.T.ReadAtom.read c.args.names.now) (option_map (spec.unary (g.T.ReadAtom.read c.args.names.now)) c.args.below) c.args.tokens.now (Ok ((opens.Constant c.in-Constant.constant, c.in_ok-opening.place), c.opened.new.tokens))
    (c.in_ok-opening.ensures ∙ ap (λ o. Ok ((o, c.in_ok-opening.place), c.opened.new.tokens)) c.in-Constant.is)
    ∙ ap (λ f. Ok (f, c.opened.new.tokens)) (sym c.truth.ensures)

pub operand-returns-in_ok-read-in-Atom : goal.operand-returns-in_ok-read-in-Atom
operand-returns-in_ok-read-in-Atom g t c =
    let reads : spec.operand (g.T.ReadAtom.read c.args.names.now) (option_map (spec.unary (g.T.ReadAtom.read c.args.names.now)) c.args.below) c.args.tokens.now ≡ Ok (atom c.in_ok-read-in-Atom.field-0, c.read.new.tokens) =
    operand_opens (g.T.ReadAtom.read c.args.names.now) (option_map (spec.unary (g.T.ReadAtom.read c.args.names.now)) c.args.below) c.args.tokens.now (Ok ((opens.Atom, c.in_ok-opening.place), c.opened.new.tokens))
    (c.in_ok-opening.ensures ∙ ap (λ o. Ok ((o, c.in_ok-opening.place), c.opened.new.tokens)) c.in-Atom.is)
    ∙ ap (λ o. and_then o (λ a. pure (atom a))) c.in_ok-read-in-Atom.ensures in
    search (rules, the_lemmas)

pub operand-returns-in_err-read-in-Atom : goal.operand-returns-in_err-read-in-Atom
operand-returns-in_err-read-in-Atom g t c =
    let fails : spec.operand (g.T.ReadAtom.read c.args.names.now) (option_map (spec.unary (g.T.ReadAtom.read c.args.names.now)) c.args.below) c.args.tokens.now ≡ Err c.in_err-read-in-Atom.field-0.0 =
    operand_opens (g.T.ReadAtom.read c.args.names.now) (option_map (spec.unary (g.T.ReadAtom.read c.args.names.now)) c.args.below) c.args.tokens.now (Ok ((opens.Atom, c.in_ok-opening.place), c.opened.new.tokens))
    (c.in_ok-opening.ensures ∙ ap (λ o. Ok ((o, c.in_ok-opening.place), c.opened.new.tokens)) c.in-Atom.is)
    ∙ ap (λ o. and_then o (λ a. pure (atom a))) c.in_err-read-in-Atom.ensures in
    search rules
