-- Expressions: their grammar, and how they are read.
--
--   expr = term ( ( "+" | "-" ) term )*     term = factor ( "*" factor )*     factor = NUMBER | SCALAR | "(" expr ")"
--
-- All three signs group to the left.
use Rattle.std.specs.Prelude.{ℕ, zero, suc, ◌+◌, Bool, true, false, if◌then◌else◌, Option, Some, None}
use Rattle.pg_lex.specs.declared.token.Sign.{Sign}
use Rattle.pg_lex.specs.declared.token.Sign.TheVariants as s
use Rattle.pg_lex.specs.declared.token.TokenKind.{TokenKind}
use Rattle.pg_lex.specs.declared.token.TokenKind.TheVariants as kind
use Rattle.pg_lex.specs.declared.fault.TextKind.TheVariants.{Unexpected, TooMany, TooDeep}
use Rattle.pg_lex.specs.Lex.{Cursor, Lexeme}
use Rattle.pg_program.specs.NameTable.{NameTable}
use Rattle.pg_program.specs.declared.syntax.Expr.{Expr}
use Rattle.pg_program.specs.declared.syntax.Expr.TheVariants as e
use Rattle.pg_assertion_text.specs.Words.{Stands, sign, number, scalar}
use Rattle.pg_assertion_text.specs.Input.{Parser, ◌>>=◌, ◌>>◌, pure, refuse, allowed, next, node, goes_on, expect, is_sign, named, scalar_in}

-- ---- the grammar

pub data Rule : Type 0 where
  factor : Rule
  term : Rule
  expr : Rule

-- From one place of a text to another there stands a phrase of the rule, with at most m brackets open at once and with
-- n nodes: each number, name and sign is one.
pub data Is (names : NameTable) : Rule → ℕ → ℕ → Cursor → Expr → Cursor → Type 0 where
  a_number : (m v : ℕ) (from to : Cursor) → Stands names (number v) from to → Is names factor m 1 from (e.Value v) to
  a_scalar : (m r : ℕ) (from to : Cursor) → Stands names (scalar r) from to → Is names factor m 1 from (e.Scalar r) to
  a_bracket : (m n : ℕ) (from mid end to : Cursor) (a : Expr)
      → Stands names (sign s.Open) from mid → Is names expr m n mid a end → Stands names (sign s.Close) end to
      → Is names factor (suc m) n from a to
  a_term : (m n : ℕ) (from to : Cursor) (a : Expr) → Is names factor m n from a to → Is names term m n from a to
  a_product : (m k n : ℕ) (from mid behind to : Cursor) (a b : Expr)
      → Is names term m k from a mid → Stands names (sign s.Times) mid behind → Is names factor m n behind b to
      → Is names term m (1 + (k + n)) from (e.Mul a b) to
  an_expr : (m n : ℕ) (from to : Cursor) (a : Expr) → Is names term m n from a to → Is names expr m n from a to
  a_sum : (m k n : ℕ) (from mid behind to : Cursor) (a b : Expr)
      → Is names expr m k from a mid → Stands names (sign s.Plus) mid behind → Is names term m n behind b to
      → Is names expr m (1 + (k + n)) from (e.Add a b) to
  a_difference : (m k n : ℕ) (from mid behind to : Cursor) (a b : Expr)
      → Is names expr m k from a mid → Stands names (sign s.Minus) mid behind → Is names term m n behind b to
      → Is names expr m (1 + (k + n)) from (e.Sub a b) to

-- ---- how they are read

-- what a sign makes of the expressions on its two sides
abbrev pub by_sign : Sign → Expr → Expr → Expr
by_sign s.Times a b = e.Mul a b
by_sign s.Minus a b = e.Sub a b
by_sign _ a b = e.Add a b

-- the sign that a term goes on with, which then is taken and is a node
unfoldable pub times : Parser (Option Sign)
times = do
  more ← goes_on s.Times
  pure (if more then Some s.Times else None)

-- the sign that an expression goes on with
abbrev pub or_minus : Bool → Parser (Option Sign)
or_minus true = pure (Some s.Plus)
or_minus false = do
  minus ← goes_on s.Minus
  pure (if minus then Some s.Minus else None)

unfoldable pub plus_or_minus : Parser (Option Sign)
plus_or_minus = do
  plus ← goes_on s.Plus
  or_minus plus

-- nothing more after the item on the left, or the next item joined to it, and the rest
abbrev pub next_link : Parser Expr → (Expr → Parser Expr) → Expr → Option Sign → Parser Expr
next_link item rest left None = pure left
next_link item rest left (Some z) = do
  right ← item
  rest (by_sign z left right)

-- at most n turns
unfoldable pub linked_on : Parser Expr → Parser (Option Sign) → ℕ → Expr → Parser Expr
linked_on item link zero left = refuse 0 TooMany
linked_on item link (suc n) left = do
  z ← link
  next_link item (linked_on item link n) left z

-- Items with signs between them, joined to the left. A sign is a node, so that there is at most one turn more than there
-- are nodes to come.
unfoldable pub linked : Parser Expr → Parser (Option Sign) → Parser Expr
linked item link = do
  left ← item
  (λ i. linked_on item link (i.room + 1) left i)

unfoldable pub product : Parser Expr → Parser Expr
product u = linked u times

unfoldable pub sum : Parser Expr → Parser Expr
sum u = linked (product u) plus_or_minus

abbrev pub deeper : ℕ → Option (Parser Expr) → Parser Expr
deeper place None = refuse place TooDeep
deeper place (Some u) = do
  a ← sum u
  (expect s.Close >> pure a)

abbrev pub scalar_factor : NameTable → Lexeme → Parser Expr
scalar_factor names t = do
  r ← allowed t.place (scalar_in (named names t))
  (node t.place >> pure (e.Scalar r))

abbrev pub factor_by : NameTable → Option (Parser Expr) → Lexeme → TokenKind → Parser Expr
factor_by names below t (kind.Number v) = node t.place >> pure (e.Value v)
factor_by names below t (kind.Sign z) = if is_sign s.Open (kind.Sign z) then deeper t.place below else refuse t.place Unexpected
factor_by names below t kind.Word = scalar_factor names t
factor_by names below t (kind.Letter b) = refuse t.place Unexpected
factor_by names below t kind.End = refuse t.place Unexpected

unfoldable pub factor_in : NameTable → Option (Parser Expr) → Parser Expr
factor_in names below = do
  t ← next
  factor_by names below t t.kind

-- with this many brackets that may be open
unfoldable pub factor_of : NameTable → ℕ → Parser Expr
factor_of names zero = factor_in names None
factor_of names (suc n) = factor_in names (Some (factor_of names n))
