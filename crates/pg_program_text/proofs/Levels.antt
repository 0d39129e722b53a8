-- A reader of factors with a number of levels, and one with the levels below it.
use Rattle.pg_program_text.specs.Limits.{text_limits}
use Rattle.std.proofs.Common.{◌≡◌, ℕ, zero, suc, Some, None, refl, ap, arith}
use Rattle.std.specs.Prelude.{Option, option_map}
use Rattle.pg_program.specs.NameTable.{NameTable}
use Rattle.pg_assertion_text.specs.Below.{above}
use Rattle.pg_program_text.specs.Expr.{factor_of, factor_in}
use Rattle.pg_program_text.specs.Thread.{statement, statement_in}

pub factor_below : (names : NameTable) (n : ℕ) (b : Option ℕ) → above b ≡ n → factor_of names n ≡ factor_in names (option_map (factor_of names) b)
unfolding factor_of
factor_below names zero None h = refl
factor_below names (suc n) None h = cc
factor_below names zero (Some b) h = absurd (omega arith)
factor_below names (suc n) (Some b) h = ap (λ k. factor_in names (Some (factor_of names k))) (omega arith)

-- and the same of statements
pub statement_below : (names : NameTable) (n : ℕ) (b : Option ℕ) → above b ≡ n → statement text_limits names n ≡ statement_in text_limits names (option_map (statement text_limits names) b)
unfolding statement
statement_below names zero None h = refl
statement_below names (suc n) None h = cc
statement_below names zero (Some b) h = absurd (omega arith)
statement_below names (suc n) (Some b) h = ap (λ k. statement_in text_limits names (Some (statement text_limits names k))) (omega arith)
