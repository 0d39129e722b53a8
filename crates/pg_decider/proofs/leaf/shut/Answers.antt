use Rattle.std.proofs.Common.{List, subst, inl, inr}
use Rattle.std.proofs.lemmas.Bool.{cases_Bool}
use Rattle.pg_region.specs.Literal.{Literal}
use Rattle.pg_decider.specs.Assignment.{on, IsClosed, HasConflict}
use Rattle.pg_decider.specs.Watch.{Grown}
use Rattle.pg_decider.specs.declared.settle.Node.TheVariants.{Shut}
use Rattle.pg_decider.proofs.Visits.{grown-trans}
use Rattle.pg_decider.proofs.Trees.{node-open}
use Rattle.pg_decider.proofs.leaf.shut.Goals as goal

grown : (c : goal.After-propagate) → Grown c.args.reader.now.clauses c.args.trail.now c.propagate.new.trail
grown c = grown-trans c.args.reader.now.clauses c.args.trail.now c.attach.new.trail c.propagate.new.trail c.attach.ensures.grown
    (subst (λ (k : List (List Literal)). Grown k c.attach.new.trail c.propagate.new.trail) c.attach.ensures.reader.0 c.propagate.ensures.grown)

pub returns-clause-grown : goal.returns-clause-grown
returns-clause-grown c = grown c

pub returns-clause-shut : goal.returns-clause-shut
returns-clause-shut c =
    let cs = c.args.reader.now.clauses in
    let same = c.attach.ensures.reader.0 in
    elim (cases_Bool c.propagate.result) [
      | inl h ↦ node-open cs (on c.args.trail.now.literals) (on c.propagate.new.trail.literals) Shut (grown c).reached
          (subst (λ (k : List (List Literal)). IsClosed k (on c.propagate.new.trail.literals)) same (c.propagate.ensures.closed h)) c.requires.node
      | inr h ↦ subst (λ (k : List (List Literal)). HasConflict k (on c.propagate.new.trail.literals)) same (c.propagate.ensures.shut h)
    ]
