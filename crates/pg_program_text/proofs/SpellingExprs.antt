-- What an expression is spelled with stands for it.
use Rattle.std.proofs.Common.{◌≡◌, ℕ, zero, suc, ◌+◌, ◌≤◌, Bool, true, false, ◌++◌, refl, subst, arith}
use Rattle.pg_lex.specs.Lex.{Cursor}
use Rattle.pg_program.specs.NameTable.{NameTable, IsNameTable}
use Rattle.pg_program.specs.declared.syntax.Expr.{Expr}
use Rattle.pg_assertion_text.specs.Spelling.{AreNames, Ends, in_brackets, bracket}
use Rattle.pg_assertion_text.specs.SpellingLaws.{cursor}
use Rattle.pg_assertion_text.proofs.SpellingTokens.{Spells, joined, blank, mapped, widened, here, open_stands, close_stands}
use Rattle.pg_assertion_text.proofs.SpellingAtoms.{number_spells, scalar_spells}
use Rattle.pg_program_text.specs.Expr.{Rule, factor, term, expr, Is, a_number, a_scalar, a_bracket, a_term, a_product, an_expr, a_sum, a_difference}
use Rattle.pg_program_text.specs.Spelling.{Tree, number, name, sum, difference, product, tree, is_sum, is_binary, spell, spell_expr}
use Rattle.pg_program_text.specs.DeclaredNames.{Declared}
use Rattle.pg_program_text.specs.Measures.{opens, nodes, NumbersFit}
use Rattle.pg_program_text.specs.SpellingLaws.{IsWritable, ExpressionsStand}
use Rattle.pg_program_text.proofs.SpellingTrees.{expr_of, whole_is}
use Rattle.pg_program_text.proofs.SpellingSigns.{plus_stands, minus_stands, times_stands}

-- the rule that an expression without a bracket round it is a phrase of
abbrev rule_of : Tree → Rule
rule_of (number v) = factor
rule_of (name r) = factor
rule_of (sum a b) = expr
rule_of (difference a b) = expr
rule_of (product a b) = term

abbrev looseness : Rule → ℕ
looseness factor = 0
looseness term = 1
looseness expr = 2

at_least : (r : Rule) → looseness factor ≤ looseness r
at_least r = omega arith

at_most : (r : Rule) → looseness r ≤ looseness expr
at_most factor = omega arith
at_most term = omega arith
at_most expr = omega arith

no_sum : (t : Tree) → is_sum t ≡ false → looseness (rule_of t) ≤ looseness term
no_sum (number v) h = omega arith
no_sum (name r) h = omega arith
no_sum (sum a b) h = absurd (cc)
no_sum (difference a b) h = absurd (cc)
no_sum (product a b) h = omega arith

no_sign : (t : Tree) → is_binary t ≡ false → looseness (rule_of t) ≤ looseness factor
no_sign (number v) h = omega arith
no_sign (name r) h = omega arith
no_sign (sum a b) h = absurd (cc)
no_sign (difference a b) h = absurd (cc)
no_sign (product a b) h = absurd (cc)

module _ (names : NameTable) (table : IsNameTable names) (are : AreNames names) where
  -- from one place to another there stands the expression
  abbrev pub Phrase : Rule → ℕ → Tree → Cursor → Cursor → Type 0
  Phrase rule m t from to = Is names rule m (nodes t) from (expr_of t) to

  -- a phrase of a rule is one of each looser rule
  loosened : (r q : Rule) (m n : ℕ) (from to : Cursor) (a : Expr) → looseness r ≤ looseness q → Is names r m n from a to → Is names q m n from a to
  loosened factor factor m n from to a h is = is
  loosened factor term m n from to a h is = a_term m n from to a is
  loosened factor expr m n from to a h is = an_expr m n from to a (a_term m n from to a is)
  loosened term factor m n from to a h is = absurd (omega arith)
  loosened term term m n from to a h is = is
  loosened term expr m n from to a h is = an_expr m n from to a is
  loosened expr factor m n from to a h is = absurd (omega arith)
  loosened expr term m n from to a h is = absurd (omega arith)
  loosened expr expr m n from to a h is = is

  -- an operand with its brackets, where it needs some
  operand_spells : (loose : Bool) (rule : Rule) (t : Tree) (m : ℕ)
      → (loose ≡ false → looseness (rule_of t) ≤ looseness rule) → bracket loose + opens t ≤ m
      → ((k : ℕ) → opens t ≤ k → Spells Ends (Phrase (rule_of t) k t) (spell names t))
      → Spells Ends (Phrase rule m t) (in_brackets loose (spell names t))
  operand_spells false rule t m fits h spells =
      mapped (spells m (omega arith)) (λ from to phrase. loosened (rule_of t) rule m (nodes t) from to (expr_of t) (fits refl) phrase)
  operand_spells true rule t zero fits h spells = absurd (omega arith)
  operand_spells true rule t (suc m) fits h spells =
      mapped (widened (joined (open_stands names) (joined (spells m (omega arith)) (close_stands names) (λ more ok. refl)) (λ more ok. tt)))
      (λ from to way.
      let inner = loosened (rule_of t) expr m (nodes t) way.0 way.2.0 (expr_of t) (at_most (rule_of t)) way.2.1 in
      loosened factor rule (suc m) (nodes t) from to (expr_of t) (at_least rule) (a_bracket m (nodes t) from way.0 way.2.0 to (expr_of t) way.1 inner way.2.2))

  spells : (t : Tree) (m : ℕ) → Declared names t → NumbersFit t → opens t ≤ m → Spells Ends (Phrase (rule_of t) m t) (spell names t)
  unfolding spell opens nodes Declared NumbersFit
  spells (number v) m d f h = mapped (number_spells names v f) (λ from to stands. a_number m v from to stands)
  spells (name r) m d f h = mapped (scalar_spells names r table are d) (λ from to stands. a_scalar m r from to stands)
  spells (sum a b) m d f h =
      mapped
      (joined (spells a m d.0 f.0 (omega arith))
      (blank (joined (plus_stands names) (blank (operand_spells (is_sum b) term b m (no_sum b) (omega arith) (λ k low. spells b k d.1 f.1 low))) (λ more ok. tt)))
      (λ more ok. refl))
      (λ from to way.
      let left = loosened (rule_of a) expr m (nodes a) from way.0 (expr_of a) (at_most (rule_of a)) way.1 in
      a_sum m (nodes a) (nodes b) from way.0 way.2.0 to (expr_of a) (expr_of b) left way.2.1 way.2.2)
  spells (difference a b) m d f h =
      mapped
      (joined (spells a m d.0 f.0 (omega arith))
      (blank (joined (minus_stands names) (blank (operand_spells (is_sum b) term b m (no_sum b) (omega arith) (λ k low. spells b k d.1 f.1 low))) (λ more ok. refl)))
      (λ more ok. refl))
      (λ from to way.
      let left = loosened (rule_of a) expr m (nodes a) from way.0 (expr_of a) (at_most (rule_of a)) way.1 in
      a_difference m (nodes a) (nodes b) from way.0 way.2.0 to (expr_of a) (expr_of b) left way.2.1 way.2.2)
  spells (product a b) m d f h =
      mapped
      (joined (operand_spells (is_sum a) term a m (no_sum a) (omega arith) (λ k low. spells a k d.0 f.0 low))
      (blank (joined (times_stands names) (blank (operand_spells (is_binary b) factor b m (no_sign b) (omega arith) (λ k low. spells b k d.1 f.1 low))) (λ more ok. tt)))
      (λ more ok. refl))
      (λ from to way. a_product m (nodes a) (nodes b) from way.0 way.2.0 to (expr_of a) (expr_of b) way.1 way.2.1 way.2.2)

  -- as a whole expression
  pub expr_spells : (e : Expr) (m : ℕ) → IsWritable names (tree e) → opens (tree e) ≤ m
      → Spells Ends (λ from to. Is names expr m (nodes (tree e)) from e to) (spell_expr names e)
  expr_spells e m w h =
      mapped (spells (tree e) m w.0 w.1 h)
      (λ from to phrase.
      subst (λ (a : Expr). Is names expr m (nodes (tree e)) from a to) (whole_is e)
      (loosened (rule_of (tree e)) expr m (nodes (tree e)) from to (expr_of (tree e)) (at_most (rule_of (tree e))) phrase))

pub expressions_stand : ExpressionsStand
expressions_stand names e m at more table are w h ok =
    let from = cursor at (spell_expr names e ++ more) in
    (expr_spells names table are e m w h).stands from at more ok (here from)
