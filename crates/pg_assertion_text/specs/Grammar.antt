-- The grammar of formulas:
--
--   formula = disj [ "->" formula ]     disj = conj ( "|" conj )*     conj = unary ( "&" unary )*
--   unary = "!" unary | "(" formula ")" | "true" | "false" | atom
--
-- `&` and `|` group to the left, `->` to the right.
use Rattle.std.specs.Prelude.{ℕ, suc, codes}
use Rattle.pg_lex.specs.declared.token.Sign.TheVariants as s
use Rattle.pg_lex.specs.Lex.{Cursor}
use Rattle.pg_program.specs.NameTable.{NameTable}
use Rattle.pg_assertion.specs.Formula.{Plain, top, bottom, atom, neg, both, either, implies}
use Rattle.pg_assertion_text.specs.Words.{Stands, sign, word}

pub data Rule : Type 0 where
  unary : Rule
  conj : Rule
  disj : Rule
  formula : Rule

-- From one place of a text to another there stands a phrase of the rule, in which at most n brackets and `!` are open
-- at once.
pub data Is {T : Type 0} (names : NameTable) (IsAtom : Cursor → T → Cursor → Type 0) : Rule → ℕ → Cursor → Plain T → Cursor → Type 0 where
  a_true : (n : ℕ) (from to : Cursor) → Stands names (word (codes "true")) from to → Is names IsAtom unary n from top to
  a_false : (n : ℕ) (from to : Cursor) → Stands names (word (codes "false")) from to → Is names IsAtom unary n from bottom to
  an_atom : (n : ℕ) (from to : Cursor) (a : T) → IsAtom from a to → Is names IsAtom unary n from (atom a) to
  a_not : (n : ℕ) (from mid to : Cursor) (f : Plain T)
      → Stands names (sign s.Not) from mid → Is names IsAtom unary n mid f to → Is names IsAtom unary (suc n) from (neg f) to
  a_bracket : (n : ℕ) (from mid end to : Cursor) (f : Plain T)
      → Stands names (sign s.Open) from mid → Is names IsAtom formula n mid f end → Stands names (sign s.Close) end to
      → Is names IsAtom unary (suc n) from f to
  a_conj : (n : ℕ) (from to : Cursor) (f : Plain T) → Is names IsAtom unary n from f to → Is names IsAtom conj n from f to
  an_and : (n : ℕ) (from mid behind to : Cursor) (f g : Plain T)
      → Is names IsAtom conj n from f mid → Stands names (sign s.And) mid behind → Is names IsAtom unary n behind g to
      → Is names IsAtom conj n from (both f g) to
  a_disj : (n : ℕ) (from to : Cursor) (f : Plain T) → Is names IsAtom conj n from f to → Is names IsAtom disj n from f to
  an_or : (n : ℕ) (from mid behind to : Cursor) (f g : Plain T)
      → Is names IsAtom disj n from f mid → Stands names (sign s.Or) mid behind → Is names IsAtom conj n behind g to
      → Is names IsAtom disj n from (either f g) to
  a_formula : (n : ℕ) (from to : Cursor) (f : Plain T) → Is names IsAtom disj n from f to → Is names IsAtom formula n from f to
  an_implies : (n : ℕ) (from mid behind to : Cursor) (f g : Plain T)
      → Is names IsAtom disj n from f mid → Stands names (sign s.Arrow) mid behind → Is names IsAtom formula n behind g to
      → Is names IsAtom formula n from (implies f g) to
