-- What a chain of items that is read so far leads to, by what its next turn meets. The turn is the i-th of n, from 0.
use Rattle.std.proofs.Common.{◌≡◌, ℕ, ◌+◌, ◌-◌, ◌<◌, ◌≤◌, Ok, Err, Some, None, ap, ◌∙◌}
use Rattle.std.specs.Prelude.{Option}
use Rattle.pg_lex.specs.declared.token.Sign.{Sign}
use Rattle.pg_lex.specs.declared.fault.TextFault.{TextFault}
use Rattle.pg_lex.specs.declared.fault.TextFault.TheVariants.{At}
use Rattle.pg_lex.specs.declared.fault.TextKind.TheVariants.{TooMany}
use Rattle.pg_program.specs.declared.syntax.Expr.{Expr}
use Rattle.pg_assertion_text.specs.Input.{Input, Outcome, Parser, and_then}
use Rattle.pg_program_text.specs.Expr.{by_sign, next_link, linked_on}
use Rattle.pg_program_text.proofs.Turns.{next_turn, no_turn}

-- the sign gives this, and what is after it that
turn : (item : Parser Expr) (link : Parser (Option Sign)) (n i : ℕ) (left : Expr) (t : Input) (whole : Outcome Expr) (o : Outcome (Option Sign))
    → i < n → whole ≡ linked_on item link (n - i) left t → link t ≡ o → whole ≡ and_then o (next_link item (linked_on item link (n - (i + 1))) left)
unfolding linked_on
turn item link n i left t whole o below is gives =
    is ∙ next_turn (λ k. linked_on item link k left t) n i below ∙ ap (λ o. and_then o (next_link item (linked_on item link (n - (i + 1))) left)) gives

pub link_stops : (item : Parser Expr) (link : Parser (Option Sign)) (n i : ℕ) (left : Expr) (t : Input) (whole : Outcome Expr) (e : TextFault)
    → i < n → whole ≡ linked_on item link (n - i) left t → link t ≡ Err e → whole ≡ Err e
link_stops item link n i left t whole e below is stops = turn item link n i left t whole (Err e) below is stops

pub link_ends : (item : Parser Expr) (link : Parser (Option Sign)) (n i : ℕ) (left : Expr) (t u : Input) (whole : Outcome Expr)
    → i < n → whole ≡ linked_on item link (n - i) left t → link t ≡ Ok (None, u) → whole ≡ Ok (left, u)
link_ends item link n i left t u whole below is ends = turn item link n i left t whole (Ok (None, u)) below is ends

pub link_fails : (item : Parser Expr) (link : Parser (Option Sign)) (n i : ℕ) (left : Expr) (z : Sign) (t u : Input) (whole : Outcome Expr) (e : TextFault)
    → i < n → whole ≡ linked_on item link (n - i) left t → link t ≡ Ok (Some z, u) → item u ≡ Err e → whole ≡ Err e
link_fails item link n i left z t u whole e below is more fails =
    turn item link n i left t whole (Ok (Some z, u)) below is more ∙ ap (λ o. and_then o (λ right. linked_on item link (n - (i + 1)) (by_sign z left right))) fails

pub link_goes : (item : Parser Expr) (link : Parser (Option Sign)) (n i : ℕ) (left right : Expr) (z : Sign) (t u v : Input) (whole : Outcome Expr)
    → i < n → whole ≡ linked_on item link (n - i) left t → link t ≡ Ok (Some z, u) → item u ≡ Ok (right, v)
    → whole ≡ linked_on item link (n - (i + 1)) (by_sign z left right) v
link_goes item link n i left right z t u v whole below is more reads =
    turn item link n i left t whole (Ok (Some z, u)) below is more ∙ ap (λ o. and_then o (λ right. linked_on item link (n - (i + 1)) (by_sign z left right))) reads

pub link_out : (item : Parser Expr) (link : Parser (Option Sign)) (n i : ℕ) (left : Expr) (t : Input) (whole : Outcome Expr)
    → n ≤ i → whole ≡ linked_on item link (n - i) left t → whole ≡ Err (At 0 TooMany)
unfolding linked_on
link_out item link n i left t whole out is = is ∙ no_turn (λ k. linked_on item link k left t) n i out
