-- A reader of operands with a number of levels, and one with the levels below it.
use Rattle.std.proofs.Common.{◌≡◌, ℕ, zero, suc, Some, None, refl, ap, arith}
use Rattle.std.specs.Prelude.{Option, option_map}
use Rattle.pg_assertion_text.specs.Input.{Parser}
use Rattle.pg_assertion_text.specs.Reading.{unary, operand}
use Rattle.pg_assertion_text.specs.Below.{above}

pub unary_below : {T : Type 0} (read : Parser T) (n : ℕ) (b : Option ℕ) → above b ≡ n → unary read n ≡ operand read (option_map (unary read) b)
unfolding unary
unary_below read zero None h = refl
unary_below read (suc n) None h = cc
unary_below read zero (Some b) h = absurd (omega arith)
unary_below read (suc n) (Some b) h = ap (λ k. operand read (Some (unary read k))) (omega arith)
