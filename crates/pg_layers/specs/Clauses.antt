-- The clauses of an obligation, over the numbers of its atoms. Their numbers, from 1 on, are their places in this list: the top part,
-- which says what is given and the opposite of the goal; the rules of the step, where there is one; and the axioms of each side.
use Rattle.std.specs.Prelude.{ℕ, ◌+◌, ◌-◌, List, [], ◌∷◌, ◌++◌, None, length, map, slice_index_or}
use Rattle.pg_program.specs.declared.point.Step.{Step}
use Rattle.pg_program.specs.Program.{ProgramTable}
use Rattle.pg_assertion.specs.declared.step_atom.StepAtom.{StepAtom}
use Rattle.pg_assertion.specs.Formula.{Plain, with_atoms}
use Rattle.pg_assertion.specs.Layout.{Sizes, sizes}
use Rattle.pg_assertion.specs.StepAtom.{step_number, step_atoms}
use Rattle.pg_outline.specs.Outline.{OutlineTable}
use Rattle.pg_region.specs.Literal.{Literal, negated}
use Rattle.pg_tables.specs.declared.clause.StepLiteral.{StepLiteral}
use Rattle.pg_tables.specs.Clause.{written}
use Rattle.pg_clauses.specs.Definitional.{after, literal, clauses}
use Rattle.pg_rules_access.specs.Access.{access}
use Rattle.pg_rules_persist.specs.Persist.{persist}
use Rattle.pg_obligations.specs.declared.obligation.Obligation.{Obligation}
use Rattle.pg_obligations.specs.declared.obligation.Obligation.TheVariants.{Fresh}
use Rattle.pg_obligations.specs.Obligations.{obligations}
use Rattle.pg_obligations.specs.Follow.{Entailment, entailment}

-- ---- over numbers

-- The top part, whose new atoms begin at n: for each formula that is given its definitional clauses and its literal alone, and then
-- those of the goal and the goal's negated literal alone.
abbrev pub top_part : ℕ → List (Plain ℕ) → Plain ℕ → List (List Literal)
top_part n [] goal = clauses n goal ++ ((negated (literal n goal) ∷ []) ∷ [])
top_part n (f ∷ givens) goal = clauses n f ++ ((literal n f ∷ []) ∷ top_part (after n f) givens goal)

-- the next new atom behind those of the top part
abbrev pub after_top : ℕ → List (Plain ℕ) → Plain ℕ → ℕ
after_top n [] goal = after n goal
after_top n (f ∷ givens) goal = after_top (after n f) givens goal

-- ---- in a layout

-- a formula, and clauses, over the numbers of their atoms
abbrev pub by_number : Sizes → Plain StepAtom → Plain ℕ
by_number l f = with_atoms (step_number l) f

abbrev pub by_numbers : Sizes → List (List StepLiteral) → List (List Literal)
by_numbers l cs = written (record { layout = l; case = None }) cs

-- new atoms begin behind the last atom of a step
abbrev pub first_new : Sizes → ℕ
first_new l = step_atoms l + 1

abbrev pub top_of : Sizes → Entailment → List (List Literal)
top_of l e = top_part (first_new l) (map (by_number l) e.givens) (by_number l e.goal)

-- the clauses of an entailment, and the number of its atoms, which is the greatest of their numbers
abbrev pub clauses_of : Sizes → Entailment → List (List Literal)
clauses_of l e = top_of l e ++ by_numbers l e.clauses

abbrev pub atoms_of : Sizes → Entailment → ℕ
atoms_of l e = after_top (first_new l) (map (by_number l) e.givens) (by_number l e.goal) - 1

-- ---- of an outline

abbrev pub layout_of : OutlineTable → Sizes
layout_of o = sizes o.program.names (length o.program.threads)

-- the rules of a step: those of accesses, and then those of persistency
abbrev pub rules_of : ProgramTable → Step → List (List StepLiteral)
rules_of p step = access p step ++ persist p step

-- what an obligation says by these rules
abbrev pub entailment_of : OutlineTable → Obligation → Entailment
entailment_of o ob = entailment o (rules_of o.program) ob

-- the clauses of an obligation, and the number of its atoms
abbrev pub obligation_clauses : OutlineTable → Obligation → List (List Literal)
obligation_clauses o ob = clauses_of (layout_of o) (entailment_of o ob)

abbrev pub obligation_atoms : OutlineTable → Obligation → ℕ
obligation_atoms o ob = atoms_of (layout_of o) (entailment_of o ob)

-- the obligation with a number, from 1 on
abbrev pub obligation : OutlineTable → ℕ → Obligation
obligation o i = slice_index_or (obligations o.program) (i - 1) Fresh
