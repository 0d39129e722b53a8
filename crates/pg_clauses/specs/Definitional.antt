-- The definitional clauses of a formula whose atoms are numbers. Each node but atoms and negations takes the next new atom, and its
-- clauses say that this atom is true just where the node is.
use Rattle.std.specs.Prelude.{ℕ, ◌+◌, true, false, List, [], ◌∷◌, ◌++◌}
use Rattle.pg_assertion.specs.Formula.{Plain, top, bottom, atom, neg, both, either, implies}
use Rattle.pg_region.specs.Literal.{Literal, negated}

abbrev pub yes : ℕ → Literal
yes n = record { atom = n; positive = true }

abbrev pub no : ℕ → Literal
no n = record { atom = n; positive = false }

-- the next new atom behind those that the formula takes, from n on: the left part before the right one, and both before the node
abbrev pub after : ℕ → Plain ℕ → ℕ
after n top = n + 1
after n bottom = n + 1
after n (atom a) = n
after n (neg f) = after n f
after n (both f g) = after (after n f) g + 1
after n (either f g) = after (after n f) g + 1
after n (implies f g) = after (after n f) g + 1

-- the literal that stands for the formula
abbrev pub literal : ℕ → Plain ℕ → Literal
literal n top = yes n
literal n bottom = yes n
literal n (atom a) = yes a
literal n (neg f) = negated (literal n f)
literal n (both f g) = yes (after (after n f) g)
literal n (either f g) = yes (after (after n f) g)
literal n (implies f g) = yes (after (after n f) g)

-- that d is a and b: not d or a; not d or b; d or not a or not b
abbrev pub both_node : ℕ → Literal → Literal → List (List Literal)
both_node d a b = (no d ∷ a ∷ []) ∷ (no d ∷ b ∷ []) ∷ (yes d ∷ negated a ∷ negated b ∷ []) ∷ []

-- that d is a or b
abbrev pub either_node : ℕ → Literal → Literal → List (List Literal)
either_node d a b = (no d ∷ a ∷ b ∷ []) ∷ (yes d ∷ negated a ∷ []) ∷ (yes d ∷ negated b ∷ []) ∷ []

-- that d is b where a is
abbrev pub implies_node : ℕ → Literal → Literal → List (List Literal)
implies_node d a b = (no d ∷ negated a ∷ b ∷ []) ∷ (yes d ∷ a ∷ []) ∷ (yes d ∷ negated b ∷ []) ∷ []

abbrev pub clauses : ℕ → Plain ℕ → List (List Literal)
clauses n top = (yes n ∷ []) ∷ []
clauses n bottom = (no n ∷ []) ∷ []
clauses n (atom a) = []
clauses n (neg f) = clauses n f
clauses n (both f g) = clauses n f ++ (clauses (after n f) g ++ both_node (after (after n f) g) (literal n f) (literal (after n f) g))
clauses n (either f g) = clauses n f ++ (clauses (after n f) g ++ either_node (after (after n f) g) (literal n f) (literal (after n f) g))
clauses n (implies f g) = clauses n f ++ (clauses (after n f) g ++ implies_node (after (after n f) g) (literal n f) (literal (after n f) g))
