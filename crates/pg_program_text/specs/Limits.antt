-- The limits of a text, which reading keeps.
use Rattle.std.specs.Prelude.{ℕ, ◌≤◌}
use Rattle.pg_assertion_text.specs.Limits as formulas

-- the most points that a thread may have
abbrev pub most_points : ℕ
most_points = 32

-- the most blocks of branches and loops that may be open at once
abbrev pub most_open_blocks : ℕ
most_open_blocks = 16

-- the most nodes that an expression may have: each number, name and sign is one
abbrev pub most_expression_nodes : ℕ
most_expression_nodes = 32

-- the most brackets of an expression that may be open at once
abbrev pub most_open_brackets : ℕ
most_open_brackets = 32

-- the most assignments that the bracket of a statement may have
abbrev pub most_assignments : ℕ
most_assignments = 4

-- ---- all limits of the text of a thread: of its own, of its expressions and of the formulas of its notes

pub record Limits : Type 0 where
  pub points : ℕ
  pub blocks : ℕ
  pub assignments : ℕ
  pub expression_nodes : ℕ
  pub brackets : ℕ
  pub formula_nodes : ℕ
  pub formula_brackets : ℕ

-- those that reading keeps
abbrev pub text_limits : Limits
text_limits = record {
  points = most_points;
  blocks = most_open_blocks;
  assignments = most_assignments;
  expression_nodes = most_expression_nodes;
  brackets = most_open_brackets;
  formula_nodes = formulas.most_nodes;
  formula_brackets = formulas.most_open;
}

-- none is lower
pub record AreLarger (more limits : Limits) : Type 0 where
  pub points : limits.points ≤ more.points
  pub blocks : limits.blocks ≤ more.blocks
  pub assignments : limits.assignments ≤ more.assignments
  pub expression_nodes : limits.expression_nodes ≤ more.expression_nodes
  pub brackets : limits.brackets ≤ more.brackets
  pub formula_nodes : limits.formula_nodes ≤ more.formula_nodes
  pub formula_brackets : limits.formula_brackets ≤ more.formula_brackets
