-- An operand begins with an opening, and what follows is read by what that was.
use Rattle.std.proofs.Common.{◌≡◌, ℕ, Ok, Err, refl, ap, ◌∙◌}
use Rattle.std.specs.Prelude.{Option}
use Rattle.pg_lex.specs.Lex.{Lexeme}
use Rattle.pg_assertion.specs.Formula.{Plain}
use Rattle.pg_assertion_text.specs.declared.formula.Opening.{Opening}
use Rattle.pg_assertion_text.specs.declared.formula.Opening.TheVariants as opens
use Rattle.pg_assertion_text.specs.Input.{Input, Outcome, Parser, and_then, ◌>>◌, pure, peek, next, node}
use Rattle.pg_assertion_text.specs.Reading.{start, operand, operand_by, opened, opened_by, after_opening}

passes : {A B C : Type 0} (o : Outcome A) (x : B) (f : B → Parser C) → and_then o (λ _. f x) ≡ and_then (and_then o (λ _. pure x)) f
passes (Ok p) x f = refl
passes (Err e) x f = refl

module _ {T : Type 0} (read : Parser T) (below : Option (Parser (Plain T))) where
  by_opening : (o : Opening) (place : ℕ) (i : Input) → operand_by read below o place i ≡ and_then (opened_by o place i) (after_opening read below)
  by_opening opens.Negation place i = passes ((node place >> next) i) (opens.Negation, place) (after_opening read below)
  by_opening opens.Bracket place i = passes (next i) (opens.Bracket, place) (after_opening read below)
  by_opening (opens.Constant b) place i = passes ((node place >> next) i) (opens.Constant b, place) (after_opening read below)
  by_opening opens.Atom place i = refl

  by_token : (o : Outcome Lexeme) → and_then o (λ t. operand_by read below (start t) t.place) ≡ and_then (and_then o (λ t. opened_by (start t) t.place)) (after_opening read below)
  by_token (Ok p) = by_opening (start p.0) p.0.place p.1
  by_token (Err e) = refl

  -- what an operand is, by its opening
  pub operand_opens : (i : Input) (o : Outcome (Opening × ℕ)) → opened i ≡ o → operand read below i ≡ and_then o (after_opening read below)
  unfolding opened operand
  operand_opens i o h = by_token (peek i) ∙ ap (λ o. and_then o (after_opening read below)) h
