use Rattle.std.proofs.Common.{rules, ℕ, ◌<◌, ◌-◌, List, length, take, set, sym, ap, ap₂, ◌∙◌, arith}
use Rattle.std.specs.List.{All}
use Rattle.std.proofs.lemmas.List.Elements.{All-take}
use Rattle.pg_program.specs.declared.syntax.AuxAssign.{AuxAssign}
use Rattle.pg_program.specs.Expr.{reads}
use Rattle.pg_machine.specs.Step.{assigned}
use Rattle.pg_machine.proofs.Made.{last_at}
use Rattle.pg_machine.proofs.Uses.{assigned-snoc}
use Rattle.pg_machine.proofs.row.+assign.Goals as goal

pub assign-requires : goal.assign-requires
assign-requires t c = (
  search rules,
  (
    c.requires.domain,
    (
      c.requires.values,
      (
        All-take (λ (a : AuxAssign). a.target < length c.args.scalars.now) (length c.args.bracket.now - 1) c.args.bracket.now c.requires.targets,
        All-take (λ (a : AuxAssign). All (λ (r : ℕ). r < length c.args.scalars.now) (reads a.expr)) (length c.args.bracket.now - 1) c.args.bracket.now c.requires.names,
      ),
    ),
  ),
)

pub returns-in-len1-up-clause-together : goal.returns-in-len1-up-clause-together
returns-in-len1-up-clause-together t c =
    let d = c.args.domain in
    let seen = c.args.scalars.now in
    let bracket = c.args.bracket.now in
    let last = c.last-item.result in
    let front = take (length bracket - 1) bracket in
    ap (λ (l : List ℕ). set l c.from.result c.eval-value.result) c.assign.ensures.together
    ∙ (ap₂ (λ (q v : ℕ). set (assigned d seen front seen) q v) c.from.ensures c.eval-value.ensures.value
    ∙ (sym (assigned-snoc d seen front last seen) ∙ ap (λ (b : List AuxAssign). assigned d seen b seen) (last_at bracket (length bracket - 1) last (omega arith) c.last-item.is)))
