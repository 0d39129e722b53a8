-- What is printed of an obligation is what has to follow: its givens and its goal, in their order, the crash formula by its
-- expansion.
use Rattle.std.specs.Prelude.{◌≡◌, List, map}
use Rattle.pg_program.specs.declared.point.Step.{Step}
use Rattle.pg_assertion.specs.declared.atom.ViewAtom.{ViewAtom}
use Rattle.pg_assertion.specs.declared.layout.Side.{Side}
use Rattle.pg_assertion.specs.declared.layout.Side.TheVariants.{Before, After}
use Rattle.pg_assertion.specs.Formula.{Plain}
use Rattle.pg_assertion.specs.Expansion.{expansion}
use Rattle.pg_outline.specs.Outline.{OutlineTable}
use Rattle.pg_tables.specs.declared.clause.StepLiteral.{StepLiteral}
use Rattle.pg_obligations.specs.declared.obligation.Obligation.{Obligation}
use Rattle.pg_obligations.specs.declared.obligation.Obligation.TheVariants.{Fresh, Entry, EntryCrash, Local, Crash, Interfere}
use Rattle.pg_obligations.specs.Follow.{on, entailment}
use Rattle.pg_report.specs.Obligations.{Statement, assertion, crash, givens, goal}

-- what a statement says of a state
abbrev pub meaning : OutlineTable → Statement → Plain ViewAtom
meaning o (assertion f) = f
meaning o (crash f) = expansion o.program.names f

-- the goal is of the state after the step, if there is a step
abbrev pub goal_side : Obligation → Side
goal_side Fresh = Before
goal_side (Entry t) = Before
goal_side EntryCrash = Before
goal_side (Local s) = After
goal_side (Crash s) = After
goal_side (Interfere s at) = After

pub record IsMeant (o : OutlineTable) (rules : Step → List (List StepLiteral)) (ob : Obligation) : Type 0 where
  pub given : (entailment o rules ob).givens ≡ map (λ s. on Before (meaning o s)) (givens o ob)
  pub shown : (entailment o rules ob).goal ≡ on (goal_side ob) (meaning o (goal o ob))

abbrev pub WhatIsPrintedIsMeant : Type 0
WhatIsPrintedIsMeant = (o : OutlineTable) (rules : Step → List (List StepLiteral)) (ob : Obligation) → IsMeant o rules ob
