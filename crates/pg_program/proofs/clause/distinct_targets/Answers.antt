use Rattle.std.proofs.Common.{map, ◌≡◌, ◌∙◌, ap, sym, true, ℕ, [], Some}
use Rattle.pg_program.specs.Words.{repeated, targets}
use Rattle.pg_program.specs.NameTable.{is_auxiliary}
use Rattle.pg_program.proofs.ClauseLemmas.{repeated-All, auxiliary_declared}
use Rattle.pg_program.proofs.clause.distinct_targets.Goals as goal

pub name_of-requires : goal.name_of-requires
name_of-requires c =
    let names = c.args.names.now in
    let ts = targets c.args.stmt.now in
    let is : Some c.in-Some.r ≡ repeated [] ts = c.in-Some.ensures ∙ ap (λ l. repeated [] (map (λ a. a.target) l)) c.as_slice.ensures in
    auxiliary_declared names c.in-Some.r (repeated-All (λ (r : ℕ). is_auxiliary names r ≡ true) [] ts c.in-Some.r (sym is) c.requires.targets)
