use Rattle.std.proofs.Common.{◌≡◌, map, ◌+◌, ◌-◌, ◌*◌}
use Rattle.pg_lex.specs.declared.token.Sign.TheVariants.{And, Or}
use Rattle.pg_assertion.specs.Formula.{plain, both, either}
use Rattle.pg_assertion_text.specs.Below.{above}
use Rattle.pg_assertion_text.specs.Reading as spec
use Rattle.pg_assertion_text.proofs.formula.+formula.Given as goal

abbrev pub decreases-bracketed : goal.decreases-bracketed
decreases-bracketed g l = 8 * above l.below + 2

abbrev pub decreases-conjunction : goal.decreases-conjunction
decreases-conjunction g l = 8 * l.levels + 5

abbrev pub decreases-disjunction : goal.decreases-disjunction
decreases-disjunction g l = 8 * l.levels + 6

abbrev pub decreases-formula : goal.decreases-formula
decreases-formula g l = 8 * l.levels + 7

abbrev pub decreases-negation : goal.decreases-negation
decreases-negation g l = 8 * above l.below + 2

abbrev pub decreases-operand : goal.decreases-operand
decreases-operand g l = 8 * above l.below + 3

abbrev pub decreases-unary : goal.decreases-unary
decreases-unary g l = 8 * l.levels + 4

-- what is left of the chain gives what the whole phrase gives
abbrev pub invariant-conjunction-signs : goal.invariant-conjunction-signs
invariant-conjunction-signs g l =
    let unary = spec.unary (g.T.ReadAtom.read l.names) l.levels in
    spec.conjunction unary l.fn.tokens ≡ spec.chain_on unary And both (l._i-end - l._i) (plain l.left) l.tokens

abbrev pub invariant-disjunction-signs : goal.invariant-disjunction-signs
invariant-disjunction-signs g l =
    let unary = spec.unary (g.T.ReadAtom.read l.names) l.levels in
    spec.disjunction unary l.fn.tokens ≡ spec.chain_on (spec.conjunction unary) Or either (l._i-end - l._i) (plain l.left) l.tokens

abbrev pub invariant-formula-arrows : goal.invariant-formula-arrows
invariant-formula-arrows g l =
    let unary = spec.unary (g.T.ReadAtom.read l.names) l.levels in
    spec.formula_of unary l.fn.tokens ≡ spec.arrows_on (spec.disjunction unary) (l._i-end - l._i) (map plain l.premises.items) l.tokens
