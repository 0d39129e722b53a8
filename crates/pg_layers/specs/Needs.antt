-- How much room the clauses of an obligation need.
use Rattle.std.specs.Prelude.{ℕ, ◌+◌, ◌*◌, ◌≤◌, All, Contains, map, List}
use Rattle.pg_assertion.specs.Limits.{most_nodes, most_expansion_nodes}
use Rattle.pg_axioms.specs.Bound.{most_axioms_2, most_axiom_literals_2}
use Rattle.pg_rules_access.specs.Bound.{most_access_rules_2, most_access_literals_2}
use Rattle.pg_rules_persist.specs.Bound.{most_persist_2, most_persist_literals_2}
use Rattle.pg_outline.specs.Outline.{OutlineTable}
use Rattle.pg_obligations.specs.Obligations.{obligations}
use Rattle.pg_layers.specs.Clauses.{obligation_atoms}

-- A formula of n nodes has fewer than 2 n definitional clauses, with fewer than 4 n literals. The largest top part is that of an
-- assertion that is given, and the expansion of a crash formula, which is given and is the goal.
abbrev pub most_top_nodes : ℕ
most_top_nodes = most_nodes + 2 * most_expansion_nodes

-- Room for the axioms of both sides, the rules of a step and a top part together, in either version of the language. The rules need
-- not be those of the top part's step.
abbrev pub enough_spans : ℕ
enough_spans = 2 * most_axioms_2 + (most_access_rules_2 + most_persist_2) + 2 * most_top_nodes

abbrev pub enough_words : ℕ
enough_words = 2 * most_axiom_literals_2 + (most_access_literals_2 + most_persist_literals_2) + 4 * most_top_nodes

-- n is the greatest of some numbers
pub record IsGreatest (ns : List ℕ) (n : ℕ) : Type 0 where
  pub each : All (λ m. m ≤ n) ns
  pub one : Contains ns n

-- no obligation of the outline has more atoms than n, and one has as many
abbrev pub IsMostAtoms : OutlineTable → ℕ → Type 0
IsMostAtoms o n = IsGreatest (map (obligation_atoms o) (obligations o.program)) n
