use Rattle.std.proofs.Common.{◌∙◌, refl, sym, ap, ap₂}
use Rattle.std.proofs.lemmas.Result.{err_from_is_err_and}
use Rattle.pg_assertion.specs.declared.formula.Formula.TheVariants as formula
use Rattle.pg_assertion.specs.Formula.{plain, with_atoms}
use Rattle.pg_clauses.specs.Definitional.{both_node, either_node, implies_node}
use Rattle.pg_clauses.proofs.Nodes.{and_parts, or_parts, implies_parts, first_stopped, second_stopped, number, whole}
use Rattle.pg_clauses.proofs.definitional.+defined.Goals as goal

pub returns-in_err-a-in-And : goal.returns-in_err-a-in-And
returns-in_err-a-in-And g t c =
    let numbering = λ (a : g.row.T.Denot). g.M.Numbering.number_on c.args.numbers.now a c.args.side in
    let is = c.in-And.is ∙ sym (ap₂ formula.And c.get-in-And.ensures refl) in
    let f = with_atoms numbering (plain c.get-in-And.result.now) in
    let h = with_atoms numbering (plain c.in-And.g) in
    let x = with_atoms numbering (plain c.args.f.now) in
    let parts = and_parts numbering c.args.next c.args.f.now c.get-in-And.result.now c.in-And.g is in
    let p = err_from_is_err_and c.from_residual-in_err-a-in-And.result c.from_residual-in_err-a-in-And.ensures.1 in
    rw p.1 (first_stopped c.args.next x f h both_node parts g.S.ClauseSink.takes _ _ c.in_err-a-in-And.ensures)

pub returns-in_err-b-in-And : goal.returns-in_err-b-in-And
returns-in_err-b-in-And g t c =
    let numbering = λ (a : g.row.T.Denot). g.M.Numbering.number_on c.args.numbers.now a c.args.side in
    let is = c.in-And.is ∙ sym (ap₂ formula.And c.get-in-And.ensures c.get-in-And-2.ensures) in
    let f = with_atoms numbering (plain c.get-in-And.result.now) in
    let h = with_atoms numbering (plain c.get-in-And-2.result.now) in
    let x = with_atoms numbering (plain c.args.f.now) in
    let parts = and_parts numbering c.args.next c.args.f.now c.get-in-And.result.now c.get-in-And-2.result.now is in
    let p = err_from_is_err_and c.from_residual-in_err-b-in-And.result c.from_residual-in_err-b-in-And.ensures.1 in
    rw p.1 (second_stopped c.args.next x f h both_node parts g.S.ClauseSink.takes _ _ _ c.in_ok-a-in-And.a c.in_ok-a-in-And.ensures c.in_err-b-in-And.ensures)

pub conjunction-requires : goal.conjunction-requires
conjunction-requires g t c =
    let numbering = λ (a : g.row.T.Denot). g.M.Numbering.number_on c.args.numbers.now a c.args.side in
    let is = c.in-And.is ∙ sym (ap₂ formula.And c.get-in-And.ensures c.get-in-And-2.ensures) in
    let f = with_atoms numbering (plain c.get-in-And.result.now) in
    let h = with_atoms numbering (plain c.get-in-And-2.result.now) in
    let x = with_atoms numbering (plain c.args.f.now) in
    let parts = and_parts numbering c.args.next c.args.f.now c.get-in-And.result.now c.get-in-And-2.result.now is in
    number c.args.next x f h both_node parts _ _ _ c.in_ok-a-in-And.a c.in_ok-b-in-And.b c.in_ok-a-in-And.ensures c.in_ok-b-in-And.ensures c.requires.fits

pub returns-in_ok-b-in-And : goal.returns-in_ok-b-in-And
returns-in_ok-b-in-And g t c =
    let numbering = λ (a : g.row.T.Denot). g.M.Numbering.number_on c.args.numbers.now a c.args.side in
    let is = c.in-And.is ∙ sym (ap₂ formula.And c.get-in-And.ensures c.get-in-And-2.ensures) in
    let f = with_atoms numbering (plain c.get-in-And.result.now) in
    let h = with_atoms numbering (plain c.get-in-And-2.result.now) in
    let x = with_atoms numbering (plain c.args.f.now) in
    let parts = and_parts numbering c.args.next c.args.f.now c.get-in-And.result.now c.get-in-And-2.result.now is in
    whole c.args.next x f h both_node parts _ _ _ _ c.in_ok-a-in-And.a c.in_ok-b-in-And.b c.in_ok-a-in-And.ensures c.in_ok-b-in-And.ensures g.S.ClauseSink.takes _ c.conjunction.ensures

pub returns-in_err-a-in-Or : goal.returns-in_err-a-in-Or
returns-in_err-a-in-Or g t c =
    let numbering = λ (a : g.row.T.Denot). g.M.Numbering.number_on c.args.numbers.now a c.args.side in
    let is = c.in-Or.is ∙ sym (ap₂ formula.Or c.get-in-Or.ensures refl) in
    let f = with_atoms numbering (plain c.get-in-Or.result.now) in
    let h = with_atoms numbering (plain c.in-Or.g) in
    let x = with_atoms numbering (plain c.args.f.now) in
    let parts = or_parts numbering c.args.next c.args.f.now c.get-in-Or.result.now c.in-Or.g is in
    let p = err_from_is_err_and c.from_residual-in_err-a-in-Or.result c.from_residual-in_err-a-in-Or.ensures.1 in
    rw p.1 (first_stopped c.args.next x f h either_node parts g.S.ClauseSink.takes _ _ c.in_err-a-in-Or.ensures)

pub returns-in_err-b-in-Or : goal.returns-in_err-b-in-Or
returns-in_err-b-in-Or g t c =
    let numbering = λ (a : g.row.T.Denot). g.M.Numbering.number_on c.args.numbers.now a c.args.side in
    let is = c.in-Or.is ∙ sym (ap₂ formula.Or c.get-in-Or.ensures c.get-in-Or-2.ensures) in
    let f = with_atoms numbering (plain c.get-in-Or.result.now) in
    let h = with_atoms numbering (plain c.get-in-Or-2.result.now) in
    let x = with_atoms numbering (plain c.args.f.now) in
    let parts = or_parts numbering c.args.next c.args.f.now c.get-in-Or.result.now c.get-in-Or-2.result.now is in
    let p = err_from_is_err_and c.from_residual-in_err-b-in-Or.result c.from_residual-in_err-b-in-Or.ensures.1 in
    rw p.1 (second_stopped c.args.next x f h either_node parts g.S.ClauseSink.takes _ _ _ c.in_ok-a-in-Or.a c.in_ok-a-in-Or.ensures c.in_err-b-in-Or.ensures)

pub disjunction-requires : goal.disjunction-requires
disjunction-requires g t c =
    let numbering = λ (a : g.row.T.Denot). g.M.Numbering.number_on c.args.numbers.now a c.args.side in
    let is = c.in-Or.is ∙ sym (ap₂ formula.Or c.get-in-Or.ensures c.get-in-Or-2.ensures) in
    let f = with_atoms numbering (plain c.get-in-Or.result.now) in
    let h = with_atoms numbering (plain c.get-in-Or-2.result.now) in
    let x = with_atoms numbering (plain c.args.f.now) in
    let parts = or_parts numbering c.args.next c.args.f.now c.get-in-Or.result.now c.get-in-Or-2.result.now is in
    number c.args.next x f h either_node parts _ _ _ c.in_ok-a-in-Or.a c.in_ok-b-in-Or.b c.in_ok-a-in-Or.ensures c.in_ok-b-in-Or.ensures c.requires.fits

pub returns-in_ok-b-in-Or : goal.returns-in_ok-b-in-Or
returns-in_ok-b-in-Or g t c =
    let numbering = λ (a : g.row.T.Denot). g.M.Numbering.number_on c.args.numbers.now a c.args.side in
    let is = c.in-Or.is ∙ sym (ap₂ formula.Or c.get-in-Or.ensures c.get-in-Or-2.ensures) in
    let f = with_atoms numbering (plain c.get-in-Or.result.now) in
    let h = with_atoms numbering (plain c.get-in-Or-2.result.now) in
    let x = with_atoms numbering (plain c.args.f.now) in
    let parts = or_parts numbering c.args.next c.args.f.now c.get-in-Or.result.now c.get-in-Or-2.result.now is in
    whole c.args.next x f h either_node parts _ _ _ _ c.in_ok-a-in-Or.a c.in_ok-b-in-Or.b c.in_ok-a-in-Or.ensures c.in_ok-b-in-Or.ensures g.S.ClauseSink.takes _ c.disjunction.ensures

pub returns-in_err-a-in-Implies : goal.returns-in_err-a-in-Implies
returns-in_err-a-in-Implies g t c =
    let numbering = λ (a : g.row.T.Denot). g.M.Numbering.number_on c.args.numbers.now a c.args.side in
    let is = c.in-Implies.is ∙ sym (ap₂ formula.Implies c.get-in-Implies.ensures refl) in
    let f = with_atoms numbering (plain c.get-in-Implies.result.now) in
    let h = with_atoms numbering (plain c.in-Implies.g) in
    let x = with_atoms numbering (plain c.args.f.now) in
    let parts = implies_parts numbering c.args.next c.args.f.now c.get-in-Implies.result.now c.in-Implies.g is in
    let p = err_from_is_err_and c.from_residual-in_err-a-in-Implies.result c.from_residual-in_err-a-in-Implies.ensures.1 in
    rw p.1 (first_stopped c.args.next x f h implies_node parts g.S.ClauseSink.takes _ _ c.in_err-a-in-Implies.ensures)

pub returns-in_err-b-in-Implies : goal.returns-in_err-b-in-Implies
returns-in_err-b-in-Implies g t c =
    let numbering = λ (a : g.row.T.Denot). g.M.Numbering.number_on c.args.numbers.now a c.args.side in
    let is = c.in-Implies.is ∙ sym (ap₂ formula.Implies c.get-in-Implies.ensures c.get-in-Implies-2.ensures) in
    let f = with_atoms numbering (plain c.get-in-Implies.result.now) in
    let h = with_atoms numbering (plain c.get-in-Implies-2.result.now) in
    let x = with_atoms numbering (plain c.args.f.now) in
    let parts = implies_parts numbering c.args.next c.args.f.now c.get-in-Implies.result.now c.get-in-Implies-2.result.now is in
    let p = err_from_is_err_and c.from_residual-in_err-b-in-Implies.result c.from_residual-in_err-b-in-Implies.ensures.1 in
    rw p.1 (second_stopped c.args.next x f h implies_node parts g.S.ClauseSink.takes _ _ _ c.in_ok-a-in-Implies.a c.in_ok-a-in-Implies.ensures c.in_err-b-in-Implies.ensures)

pub implication-requires : goal.implication-requires
implication-requires g t c =
    let numbering = λ (a : g.row.T.Denot). g.M.Numbering.number_on c.args.numbers.now a c.args.side in
    let is = c.in-Implies.is ∙ sym (ap₂ formula.Implies c.get-in-Implies.ensures c.get-in-Implies-2.ensures) in
    let f = with_atoms numbering (plain c.get-in-Implies.result.now) in
    let h = with_atoms numbering (plain c.get-in-Implies-2.result.now) in
    let x = with_atoms numbering (plain c.args.f.now) in
    let parts = implies_parts numbering c.args.next c.args.f.now c.get-in-Implies.result.now c.get-in-Implies-2.result.now is in
    number c.args.next x f h implies_node parts _ _ _ c.in_ok-a-in-Implies.a c.in_ok-b-in-Implies.b c.in_ok-a-in-Implies.ensures c.in_ok-b-in-Implies.ensures c.requires.fits

pub returns-in_ok-b-in-Implies : goal.returns-in_ok-b-in-Implies
returns-in_ok-b-in-Implies g t c =
    let numbering = λ (a : g.row.T.Denot). g.M.Numbering.number_on c.args.numbers.now a c.args.side in
    let is = c.in-Implies.is ∙ sym (ap₂ formula.Implies c.get-in-Implies.ensures c.get-in-Implies-2.ensures) in
    let f = with_atoms numbering (plain c.get-in-Implies.result.now) in
    let h = with_atoms numbering (plain c.get-in-Implies-2.result.now) in
    let x = with_atoms numbering (plain c.args.f.now) in
    let parts = implies_parts numbering c.args.next c.args.f.now c.get-in-Implies.result.now c.get-in-Implies-2.result.now is in
    whole c.args.next x f h implies_node parts _ _ _ _ c.in_ok-a-in-Implies.a c.in_ok-b-in-Implies.b c.in_ok-a-in-Implies.ensures c.in_ok-b-in-Implies.ensures g.S.ClauseSink.takes _ c.implication.ensures
