use Rattle.std.proofs.Common.{◌+◌, ◌-◌, List, sym, ap, ◌∙◌, arith}
use Rattle.std.proofs.lemmas.List.{drop_all}
use Rattle.pg_region.specs.Literal.{Literal}
use Rattle.pg_decider.specs.Assignment.{on}
use Rattle.pg_decider.specs.Noted.{run}
use Rattle.pg_region.specs.Region.{clause_at}
use Rattle.pg_decider.proofs.Least.{least-found}
use Rattle.pg_decider.proofs.Splits.{run-is}
use Rattle.pg_decider.proofs.split.split.Goals as goal

pub returns-clause-exact : goal.returns-clause-exact
returns-clause-exact c =
    let s = on c.args.trail.now.literals in
    c.pick-2.ensures
    ∙ (sym (c.clauses.invariant.3 ∙ ap (λ (cs : List (List Literal)). run s c.clauses.found cs) (drop_all c.clauses.k c.args.reader.now.clauses (omega arith)))
    ∙ run-is s c.args.reader.now.clauses)

pub returns-then-is_least-clause-exact : goal.returns-then-is_least-clause-exact
returns-then-is_least-clause-exact c =
    let s = on c.args.trail.now.literals in
    c.pick.ensures
    ∙ least-found s c.args.reader.now.clauses c.clauses.found c.note-found.result c.clauses.k c.clause-clause.result.now c.requires.long (omega arith)
    c.clauses.invariant.3 (c.clause-clause.ensures.clause ∙ ap (λ (cs : List (List Literal)). clause_at cs ((c.clauses.k + 1) - 1)) c.clauses.invariant.0) c.note-found.ensures (sym c.is_least.ensures ∙ c.if-is_least.true)
