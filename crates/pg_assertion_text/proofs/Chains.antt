-- What a chain that is read so far leads to, by what its next turn meets. The turn is the i-th of n, from 0.
use Rattle.std.proofs.Common.{◌≡◌, ℕ, ◌+◌, ◌-◌, ◌<◌, ◌≤◌, Bool, Ok, Err, true, false, List, [], ◌∷◌, ◌++◌, refl, ap}
use Rattle.std.specs.Prelude.{if◌then◌else◌}
use Rattle.pg_lex.specs.declared.token.Sign.{Sign}
use Rattle.pg_lex.specs.declared.token.Sign.TheVariants.{Arrow}
use Rattle.pg_lex.specs.declared.fault.TextFault.{TextFault}
use Rattle.pg_lex.specs.declared.fault.TextFault.TheVariants.{At}
use Rattle.pg_lex.specs.declared.fault.TextKind.TheVariants.{TooMany}
use Rattle.pg_assertion.specs.Formula.{Plain, implies}
use Rattle.pg_assertion_text.specs.Input.{Input, Outcome, Parser, and_then, ◌>>=◌, pure, goes_on}
use Rattle.pg_assertion_text.specs.Reading.{chain_on, arrows_on, implied}
use Rattle.pg_assertion_text.proofs.Turns.{turn, after_turn, run_out}

-- ---- chains that group to the left

module _ {A : Type 0} (item : Parser A) (s : Sign) (join : A → A → A) (n i : ℕ) (left : A) (t : Input) (whole : Outcome A) where
  -- what follows the sign, or the end where there is none
  abbrev on : Bool → Parser A
  on more = if more then (item >>= λ right. chain_on item s join (n - (i + 1)) (join left right)) else pure left

  chain_turn : (o : Outcome Bool) → i < n → whole ≡ chain_on item s join (n - i) left t → goes_on s t ≡ o → whole ≡ and_then o on
  unfolding chain_on
  chain_turn o below is gives = turn (λ k. chain_on item s join k left t) (goes_on s t) on n i whole o refl below is gives

  -- the sign cannot be read
  pub chain_stops : (e : TextFault) → i < n → whole ≡ chain_on item s join (n - i) left t → goes_on s t ≡ Err e → whole ≡ Err e
  chain_stops e below is stops = chain_turn (Err e) below is stops

  -- no sign stands there
  pub chain_ends : (u : Input) → i < n → whole ≡ chain_on item s join (n - i) left t → goes_on s t ≡ Ok (false, u) → whole ≡ Ok (left, u)
  chain_ends u below is ends = chain_turn (Ok (false, u)) below is ends

  item_turn : (u : Input) (o : Outcome A) → i < n → whole ≡ chain_on item s join (n - i) left t → goes_on s t ≡ Ok (true, u) → item u ≡ o
      → whole ≡ and_then o (λ right. chain_on item s join (n - (i + 1)) (join left right))
  item_turn u o below is more gives =
      after_turn (item u) (λ right. chain_on item s join (n - (i + 1)) (join left right)) whole o (chain_turn (Ok (true, u)) below is more) gives

  -- the item after the sign cannot be read
  pub chain_fails : (u : Input) (e : TextFault) → i < n → whole ≡ chain_on item s join (n - i) left t → goes_on s t ≡ Ok (true, u) → item u ≡ Err e → whole ≡ Err e
  chain_fails u e below is more fails = item_turn u (Err e) below is more fails

  -- an item is read
  pub chain_goes : (right : A) (u v : Input) → i < n → whole ≡ chain_on item s join (n - i) left t → goes_on s t ≡ Ok (true, u) → item u ≡ Ok (right, v)
      → whole ≡ chain_on item s join (n - (i + 1)) (join left right) v
  chain_goes right u v below is more read = item_turn u (Ok (right, v)) below is more read

  -- there are no turns left
  pub chain_out : n ≤ i → whole ≡ chain_on item s join (n - i) left t → whole ≡ Err (At 0 TooMany)
  unfolding chain_on
  chain_out out is = run_out (λ k. chain_on item s join k left t) n i whole out is

-- ---- arrows

module _ {T : Type 0} (item : Parser (Plain T)) (n i : ℕ) (fs : List (Plain T)) (t : Input) (whole : Outcome (Plain T)) where
  -- what follows an arrow after g, or the end where there is none
  abbrev arrows_from : Plain T → Bool → Parser (Plain T)
  arrows_from g more = if more then arrows_on item (n - (i + 1)) (fs ++ g ∷ []) else pure (implied fs g)

  part_turn : (o : Outcome (Plain T)) → i < n → whole ≡ arrows_on item (n - i) fs t → item t ≡ o → whole ≡ and_then o (λ g. goes_on Arrow >>= arrows_from g)
  unfolding arrows_on
  part_turn o below is gives = turn (λ k. arrows_on item k fs t) (item t) (λ g. goes_on Arrow >>= arrows_from g) n i whole o refl below is gives

  -- the next part cannot be read
  pub arrow_fails : (e : TextFault) → i < n → whole ≡ arrows_on item (n - i) fs t → item t ≡ Err e → whole ≡ Err e
  arrow_fails e below is fails = part_turn (Err e) below is fails

  arrow_turn : (g : Plain T) (u : Input) (o : Outcome Bool) → i < n → whole ≡ arrows_on item (n - i) fs t → item t ≡ Ok (g, u) → goes_on Arrow u ≡ o
      → whole ≡ and_then o (arrows_from g)
  arrow_turn g u o below is read gives = after_turn (goes_on Arrow u) (arrows_from g) whole o (part_turn (Ok (g, u)) below is read) gives

  pub arrow_stops : (g : Plain T) (u : Input) (e : TextFault) → i < n → whole ≡ arrows_on item (n - i) fs t → item t ≡ Ok (g, u) → goes_on Arrow u ≡ Err e → whole ≡ Err e
  arrow_stops g u e below is read stops = arrow_turn g u (Err e) below is read stops

  pub arrow_ends : (g : Plain T) (u v : Input) → i < n → whole ≡ arrows_on item (n - i) fs t → item t ≡ Ok (g, u) → goes_on Arrow u ≡ Ok (false, v) → whole ≡ Ok (implied fs g, v)
  arrow_ends g u v below is read ends = arrow_turn g u (Ok (false, v)) below is read ends

  pub arrow_goes : (g : Plain T) (u v : Input) → i < n → whole ≡ arrows_on item (n - i) fs t → item t ≡ Ok (g, u) → goes_on Arrow u ≡ Ok (true, v)
      → whole ≡ arrows_on item (n - (i + 1)) (fs ++ g ∷ []) v
  arrow_goes g u v below is read more = arrow_turn g u (Ok (true, v)) below is read more

  pub arrow_out : n ≤ i → whole ≡ arrows_on item (n - i) fs t → whole ≡ Err (At 0 TooMany)
  unfolding arrows_on
  arrow_out out is = run_out (λ k. arrows_on item k fs t) n i whole out is

-- one premise more, the last
pub implied-append : {T : Type 0} (fs : List (Plain T)) (f g : Plain T) → implied (fs ++ f ∷ []) g ≡ implied fs (implies f g)
implied-append [] f g = refl
implied-append (h ∷ fs) f g = ap (implies h) (implied-append fs f g)
