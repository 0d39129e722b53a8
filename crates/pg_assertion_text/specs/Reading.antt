-- How a formula is read: each phrase gives its formula and what is left to read, or the first fault. `unary` stands
-- for a reader of what `!` may stand in front of, with the brackets and `!` that may still be open counted in it.
use Rattle.std.specs.Prelude.{ℕ, zero, suc, ◌+◌, Bool, true, false, if◌then◌else◌, List, [], ◌∷◌, ◌++◌, codes, Option, Some, None}
use Rattle.std.specs.Str.{bytes_eq}
use Rattle.pg_lex.specs.declared.token.Sign.{Sign}
use Rattle.pg_lex.specs.declared.token.Sign.TheVariants as sign
use Rattle.pg_lex.specs.declared.token.TokenKind.{TokenKind}
use Rattle.pg_lex.specs.declared.token.TokenKind.TheVariants as kind
use Rattle.pg_lex.specs.declared.fault.TextKind.TheVariants.{TooMany, TooDeep}
use Rattle.pg_lex.specs.Lex.{Lexeme}
use Rattle.pg_assertion.specs.Formula.{Plain, top, bottom, atom, neg, both, either, implies}
use Rattle.pg_assertion_text.specs.declared.formula.Opening.{Opening}
use Rattle.pg_assertion_text.specs.declared.formula.Opening.TheVariants as opens
use Rattle.pg_assertion_text.specs.Input.{Parser, ◌>>=◌, ◌>>◌, pure, refuse, peek, next, node, goes_on, expect, is_sign}

-- ---- chains: an item, and more items with a sign in front of each, joined to the left

-- A sign is a node, so that a chain has at most one turn more than there are nodes to come.
unfoldable pub chain_on : {A : Type 0} → Parser A → Sign → (A → A → A) → ℕ → A → Parser A
chain_on item s join zero left = refuse 0 TooMany
chain_on item s join (suc n) left = do
  more ← goes_on s
  if more then (do right ← item; chain_on item s join n (join left right)) else pure left

unfoldable pub chain : {A : Type 0} → Parser A → Sign → (A → A → A) → Parser A
chain item s join = do
  left ← item
  (λ i. chain_on item s join (i.room + 1) left i)

-- ---- `f1 -> f2 -> .. -> g`, which groups to the right

abbrev pub implied : {T : Type 0} → List (Plain T) → Plain T → Plain T
implied [] g = g
implied (f ∷ fs) g = implies f (implied fs g)

unfoldable pub arrows_on : {T : Type 0} → Parser (Plain T) → ℕ → List (Plain T) → Parser (Plain T)
arrows_on item zero fs = refuse 0 TooMany
arrows_on item (suc n) fs = do
  g ← item
  more ← goes_on sign.Arrow
  if more then arrows_on item n (fs ++ g ∷ []) else pure (implied fs g)

unfoldable pub arrows : {T : Type 0} → Parser (Plain T) → Parser (Plain T)
arrows item = λ i. arrows_on item (i.room + 1) [] i

-- ---- the phrases

unfoldable pub conjunction : {T : Type 0} → Parser (Plain T) → Parser (Plain T)
conjunction unary = chain unary sign.And both

unfoldable pub disjunction : {T : Type 0} → Parser (Plain T) → Parser (Plain T)
disjunction unary = chain (conjunction unary) sign.Or either

unfoldable pub formula_of : {T : Type 0} → Parser (Plain T) → Parser (Plain T)
formula_of unary = arrows (disjunction unary)

-- what a token begins: a negation, a bracket, a constant, or else an atom
abbrev pub start_word : List ℕ → Opening
start_word text = if bytes_eq text (codes "true") then opens.Constant true else (if bytes_eq text (codes "false") then opens.Constant false else opens.Atom)

abbrev pub start_by : TokenKind → List ℕ → Opening
start_by (kind.Sign s) text = if is_sign sign.Not (kind.Sign s) then opens.Negation else (if is_sign sign.Open (kind.Sign s) then opens.Bracket else opens.Atom)
start_by kind.Word text = start_word text
start_by (kind.Number n) text = opens.Atom
start_by (kind.Letter b) text = opens.Atom
start_by kind.End text = opens.Atom

unfoldable pub start : Lexeme → Opening
start t = start_by t.kind t.text

abbrev pub truth : {T : Type 0} → Bool → Plain T
truth true = top
truth false = bottom

-- what may be read one level further in, if one more may be open
abbrev pub deeper : {T : Type 0} → ℕ → Option (Parser (Plain T)) → (Parser (Plain T) → Parser (Plain T)) → Parser (Plain T)
deeper place None read = refuse place TooDeep
deeper place (Some unary) read = read unary

abbrev pub negated : {T : Type 0} → Parser (Plain T) → Parser (Plain T)
negated unary = do
  f ← unary
  pure (neg f)

abbrev pub bracketed : {T : Type 0} → Parser (Plain T) → Parser (Plain T)
bracketed unary = do
  f ← formula_of unary
  (expect sign.Close >> pure f)

abbrev pub operand_by : {T : Type 0} → Parser T → Option (Parser (Plain T)) → Opening → ℕ → Parser (Plain T)
operand_by read_atom below opens.Negation place = node place >> next >> deeper place below negated
operand_by read_atom below opens.Bracket place = next >> deeper place below bracketed
operand_by read_atom below (opens.Constant b) place = node place >> next >> pure (truth b)
operand_by read_atom below opens.Atom place = do
  a ← read_atom
  pure (atom a)

-- what an opening takes: a node unless it is a `(`, and its token, but for an atom
abbrev pub opened_by : Opening → ℕ → Parser (Opening × ℕ)
opened_by opens.Negation place = node place >> next >> pure (opens.Negation, place)
opened_by opens.Bracket place = next >> pure (opens.Bracket, place)
opened_by (opens.Constant b) place = node place >> next >> pure (opens.Constant b, place)
opened_by opens.Atom place = pure (opens.Atom, place)

-- what begins here, and at which place
unfoldable pub opened : Parser (Opening × ℕ)
opened = do
  t ← peek
  opened_by (start t) t.place

-- what follows an opening
abbrev pub after_opening : {T : Type 0} → Parser T → Option (Parser (Plain T)) → Opening × ℕ → Parser (Plain T)
after_opening read_atom below (opens.Negation, place) = deeper place below negated
after_opening read_atom below (opens.Bracket, place) = deeper place below bracketed
after_opening read_atom below (opens.Constant b, place) = pure (truth b)
after_opening read_atom below (opens.Atom, place) = do
  a ← read_atom
  pure (atom a)

unfoldable pub operand : {T : Type 0} → Parser T → Option (Parser (Plain T)) → Parser (Plain T)
operand read_atom below = do
  t ← peek
  operand_by read_atom below (start t) t.place

-- with this many brackets and `!` that may be open
unfoldable pub unary : {T : Type 0} → Parser T → ℕ → Parser (Plain T)
unary read_atom zero = operand read_atom None
unary read_atom (suc n) = operand read_atom (Some (unary read_atom n))

abbrev pub formula : {T : Type 0} → Parser T → ℕ → Parser (Plain T)
formula read_atom n = formula_of (unary read_atom n)
