-- What declarations and threads that are read so far lead to, by what their next turn meets. The turn is the i-th of n, from 0.
use Rattle.std.proofs.Common.{◌≡◌, ℕ, zero, suc, ◌+◌, ◌-◌, ◌<◌, ◌≤◌, Bool, true, false, Ok, Err, Some, None, List, [], ◌∷◌, ◌++◌, length, ap, ◌∙◌, arith}
use Rattle.std.specs.Prelude.{Option, if◌then◌else◌}
use Rattle.pg_lex.specs.declared.fault.TextFault.{TextFault}
use Rattle.pg_lex.specs.declared.fault.TextFault.TheVariants.{At}
use Rattle.pg_lex.specs.declared.fault.TextKind.TheVariants.{TooMany}
use Rattle.pg_lex.specs.Lex.{Lexeme}
use Rattle.pg_program.specs.NameTable.{NameTable}
use Rattle.pg_assertion_text.specs.Input.{Input, Outcome, Parser, and_then, pure, peek}
use Rattle.pg_program_text.specs.Thread.{Lines}
use Rattle.pg_outline_text.specs.Declaration.{declaration, and_more, declarations_on}
use Rattle.pg_outline_text.specs.Reading.{thread, is_end, threads_on}
use Rattle.pg_outline_text.specs.Reads.{ReadsMore}

turns_left : (n i : ℕ) → i < n → n - i ≡ suc (n - (i + 1))
turns_left n i h = omega arith

none_left : (n i : ℕ) → n ≤ i → n - i ≡ zero
none_left n i h = omega arith

-- ---- declarations

module _ (o : Outcome (Option NameTable)) (old names : NameTable) (new : Input) where
  pub one_read : (b : Bool) → b ≡ true → ReadsMore o (Ok b) old names new → o ≡ Ok (Some names, new)
  one_read true is reads = reads
  one_read false is reads = cc

  pub none_read : (b : Bool) → b ≡ false → ReadsMore o (Ok b) old names new → (o ≡ Ok (None, new)) × (names ≡ old)
  none_read true is reads = cc
  none_read false is reads = reads

module _ (n i : ℕ) (names : NameTable) (t : Input) (whole : Outcome NameTable) where
  declaration_turn : (o : Outcome (Option NameTable)) → i < n → whole ≡ declarations_on (n - i) names t → declaration names t ≡ o
      → whole ≡ and_then o (and_more (declarations_on (n - (i + 1))) names)
  unfolding declarations_on
  declaration_turn o below is gives =
      is ∙ ap (λ k. declarations_on k names t) (turns_left n i below) ∙ ap (λ o. and_then o (and_more (declarations_on (n - (i + 1))) names)) gives

  pub declarations_fail : (e : TextFault) → i < n → whole ≡ declarations_on (n - i) names t → declaration names t ≡ Err e → whole ≡ Err e
  declarations_fail e below is fails = declaration_turn (Err e) below is fails

  pub declarations_end : (u : Input) → i < n → whole ≡ declarations_on (n - i) names t → declaration names t ≡ Ok (None, u) → whole ≡ Ok (names, u)
  declarations_end u below is reads = declaration_turn (Ok (None, u)) below is reads

  pub declarations_go : (more : NameTable) (u : Input) → i < n → whole ≡ declarations_on (n - i) names t → declaration names t ≡ Ok (Some more, u)
      → whole ≡ declarations_on (n - (i + 1)) more u
  declarations_go more u below is reads = declaration_turn (Ok (Some more, u)) below is reads

  pub declarations_out : n ≤ i → whole ≡ declarations_on (n - i) names t → whole ≡ Err (At 0 TooMany)
  unfolding declarations_on
  declarations_out out is = is ∙ ap (λ k. declarations_on k names t) (none_left n i out)

-- ---- threads

module _ (names : NameTable) (n i : ℕ) (found : List Lines) (t : Input) (whole : Outcome (List Lines)) where
  -- another thread, or the end
  abbrev pub on : Lines → Bool → Parser (List Lines)
  on l ends = if ends then pure (found ++ l ∷ []) else threads_on names (n - (i + 1)) (found ++ l ∷ [])

  thread_turn : (o : Outcome Lines) → i < n → length found ≡ i → whole ≡ threads_on names (n - i) found t → thread names (i + 1) t ≡ o
      → whole ≡ and_then o (λ l u. and_then (peek u) (λ k. on l (is_end k.kind)))
  unfolding threads_on
  thread_turn o below many is gives =
      is ∙ ap (λ k. threads_on names k found t) (turns_left n i below)
      ∙ ap (λ o. and_then o (λ l u. and_then (peek u) (λ k. on l (is_end k.kind)))) (ap (λ k. thread names (k + 1) t) many ∙ gives)

  pub threads_fail : (e : TextFault) → i < n → length found ≡ i → whole ≡ threads_on names (n - i) found t → thread names (i + 1) t ≡ Err e → whole ≡ Err e
  threads_fail e below many is fails = thread_turn (Err e) below many is fails

  peeked : (l : Lines) (u : Input) (o : Outcome Lexeme) → i < n → length found ≡ i → whole ≡ threads_on names (n - i) found t → thread names (i + 1) t ≡ Ok (l, u) → peek u ≡ o
      → whole ≡ and_then o (λ k. on l (is_end k.kind))
  peeked l u o below many is reads sees = thread_turn (Ok (l, u)) below many is reads ∙ ap (λ o. and_then o (λ k. on l (is_end k.kind))) sees

  pub threads_stop : (l : Lines) (u : Input) (e : TextFault) → i < n → length found ≡ i → whole ≡ threads_on names (n - i) found t → thread names (i + 1) t ≡ Ok (l, u)
      → peek u ≡ Err e → whole ≡ Err e
  threads_stop l u e below many is reads fails = peeked l u (Err e) below many is reads fails

  pub threads_end : (l : Lines) (u v : Input) (k : Lexeme) → i < n → length found ≡ i → whole ≡ threads_on names (n - i) found t → thread names (i + 1) t ≡ Ok (l, u)
      → peek u ≡ Ok (k, v) → is_end k.kind ≡ true → whole ≡ Ok (found ++ l ∷ [], v)
  threads_end l u v k below many is reads sees ends = peeked l u (Ok (k, v)) below many is reads sees ∙ ap (λ b. on l b v) ends

  pub threads_go : (l : Lines) (u v : Input) (k : Lexeme) → i < n → length found ≡ i → whole ≡ threads_on names (n - i) found t → thread names (i + 1) t ≡ Ok (l, u)
      → peek u ≡ Ok (k, v) → is_end k.kind ≡ false → whole ≡ threads_on names (n - (i + 1)) (found ++ l ∷ []) v
  threads_go l u v k below many is reads sees goes = peeked l u (Ok (k, v)) below many is reads sees ∙ ap (λ b. on l b v) goes

  pub threads_out : n ≤ i → whole ≡ threads_on names (n - i) found t → whole ≡ Err (At 0 TooMany)
  unfolding threads_on
  threads_out out is = is ∙ ap (λ k. threads_on names k found t) (none_left n i out)
