use Rattle.std.proofs.Common.{ℕ, ◌<◌, List, length, sym, subst, ap, ◌∙◌}
use Rattle.std.specs.List.{All}
use Rattle.pg_program.specs.declared.syntax.AuxAssign.{AuxAssign}
use Rattle.pg_program.specs.Expr.{reads}
use Rattle.pg_program.specs.Words.{outside, bracket_scalars}
use Rattle.pg_machine.specs.Step.{leaves, bracket_of, bracket_done}
use Rattle.pg_machine.proofs.Uses.{all_right, bracket_targets, bracket_names}
use Rattle.pg_machine.specs.StepParts.{seen_in}
use Rattle.pg_machine.proofs.row.run.Goals as goal

pub assign-requires-clause-targets : goal.assign-requires-clause-targets
assign-requires-clause-targets c =
    let bracket = bracket_of c.args.stmt.now in
    let n = length c.args.scalars.now in
    let all = bracket_targets n bracket (all_right n (outside c.args.stmt.now) (bracket_scalars bracket) c.requires.scalars) in
    let sized = subst (λ (m : ℕ). All (λ (a : AuxAssign). a.target < m) bracket) (sym c.act.auto.scalars) all in
    subst (λ (l : List AuxAssign). All (λ (a : AuxAssign). a.target < length c.act.new.scalars) l) (sym c.as_slice.ensures) sized

pub assign-requires-clause-names : goal.assign-requires-clause-names
assign-requires-clause-names c =
    let bracket = bracket_of c.args.stmt.now in
    let n = length c.args.scalars.now in
    let all = bracket_names n bracket (all_right n (outside c.args.stmt.now) (bracket_scalars bracket) c.requires.scalars) in
    let sized = subst (λ (m : ℕ). All (λ (a : AuxAssign). All (λ (r : ℕ). r < m) (reads a.expr)) bracket) (sym c.act.auto.scalars) all in
    subst (λ (l : List AuxAssign). All (λ (a : AuxAssign). All (λ (r : ℕ). r < length c.act.new.scalars) (reads a.expr)) l) (sym c.as_slice.ensures) sized

pub returns : goal.returns
returns c =
    let seen = seen_in c.act.new.memory c.act.new.views in
    record {
      ok = record {
        left = leaves seen c.act.new.scalars;
        row = c.in_ok-act.ensures.ok;
        becomes = ap (leaves seen) (c.assign.ensures.together ∙ ap (λ (b : List AuxAssign). bracket_done c.args.domain b c.act.new.scalars) c.as_slice.ensures);
      };
      err = tt;
      within = c.act.ensures.within;
      unchanged = tt;
      spare = c.act.ensures.spare;
    }
