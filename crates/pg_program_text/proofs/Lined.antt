-- What lines that are read so far lead to, by what their next turn meets. The turn is the i-th of n, from 0.
use Rattle.pg_program_text.specs.Limits.{text_limits}
use Rattle.std.proofs.Common.{◌≡◌, ℕ, ◌+◌, ◌-◌, ◌<◌, ◌≤◌, Bool, true, false, Ok, Err, ap, ◌∙◌}
use Rattle.pg_lex.specs.declared.fault.TextFault.{TextFault}
use Rattle.pg_lex.specs.declared.fault.TextFault.TheVariants.{At}
use Rattle.pg_lex.specs.declared.fault.TextKind.TheVariants.{TooMany}
use Rattle.pg_program.specs.NameTable.{NameTable}
use Rattle.pg_assertion_text.specs.Input.{Input, Outcome, Parser, and_then}
use Rattle.pg_program_text.specs.Thread.{Lines, Noted, ends, line, line_or_end, lines_on, line_of_body, body_goes_on, body_on}
use Rattle.pg_program_text.proofs.Turns.{next_turn, no_turn}

-- ---- blocks

module _ (names : NameTable) (stmt : Parser Noted) (n i : ℕ) (l : Lines) (t : Input) (whole : Outcome Lines) where
  line_turn : (o : Outcome Bool) → i < n → whole ≡ lines_on text_limits names stmt (n - i) l t → ends t ≡ o → whole ≡ and_then o (line_or_end text_limits names stmt (lines_on text_limits names stmt (n - (i + 1))) l)
  unfolding lines_on
  line_turn o below is gives = is ∙ next_turn (λ k. lines_on text_limits names stmt k l t) n i below ∙ ap (λ o. and_then o (line_or_end text_limits names stmt (lines_on text_limits names stmt (n - (i + 1))) l)) gives

  pub lines_stop : (e : TextFault) → i < n → whole ≡ lines_on text_limits names stmt (n - i) l t → ends t ≡ Err e → whole ≡ Err e
  lines_stop e below is stops = line_turn (Err e) below is stops

  pub lines_end : (u : Input) → i < n → whole ≡ lines_on text_limits names stmt (n - i) l t → ends t ≡ Ok (true, u) → whole ≡ Ok (l, u)
  lines_end u below is end = line_turn (Ok (true, u)) below is end

  line_read : (u : Input) (o : Outcome Lines) → i < n → whole ≡ lines_on text_limits names stmt (n - i) l t → ends t ≡ Ok (false, u) → line text_limits names stmt l u ≡ o → whole ≡ and_then o (lines_on text_limits names stmt (n - (i + 1)))
  line_read u o below is more gives = line_turn (Ok (false, u)) below is more ∙ ap (λ o. and_then o (lines_on text_limits names stmt (n - (i + 1)))) gives

  pub lines_fail : (u : Input) (e : TextFault) → i < n → whole ≡ lines_on text_limits names stmt (n - i) l t → ends t ≡ Ok (false, u) → line text_limits names stmt l u ≡ Err e → whole ≡ Err e
  lines_fail u e below is more fails = line_read u (Err e) below is more fails

  pub lines_go : (u v : Input) (m : Lines) → i < n → whole ≡ lines_on text_limits names stmt (n - i) l t → ends t ≡ Ok (false, u) → line text_limits names stmt l u ≡ Ok (m, v) → whole ≡ lines_on text_limits names stmt (n - (i + 1)) m v
  lines_go u v m below is more reads = line_read u (Ok (m, v)) below is more reads

  pub lines_out : n ≤ i → whole ≡ lines_on text_limits names stmt (n - i) l t → whole ≡ Err (At 0 TooMany)
  unfolding lines_on
  lines_out out is = is ∙ no_turn (λ k. lines_on text_limits names stmt k l t) n i out

-- ---- the body of a thread

module _ (names : NameTable) (n i : ℕ) (l : Lines) (t : Input) (whole : Outcome Lines) where
  body_turn : (o : Outcome (Lines × Bool)) → i < n → whole ≡ body_on text_limits names (n - i) l t → line_of_body text_limits names l t ≡ o → whole ≡ and_then o (body_goes_on (body_on text_limits names (n - (i + 1))))
  unfolding body_on
  body_turn o below is gives = is ∙ next_turn (λ k. body_on text_limits names k l t) n i below ∙ ap (λ o. and_then o (body_goes_on (body_on text_limits names (n - (i + 1))))) gives

  pub body_fails : (e : TextFault) → i < n → whole ≡ body_on text_limits names (n - i) l t → line_of_body text_limits names l t ≡ Err e → whole ≡ Err e
  body_fails e below is fails = body_turn (Err e) below is fails

  pub body_ends : (u : Input) (m : Lines) → i < n → whole ≡ body_on text_limits names (n - i) l t → line_of_body text_limits names l t ≡ Ok ((m, false), u) → whole ≡ Ok (m, u)
  body_ends u m below is last = body_turn (Ok ((m, false), u)) below is last

  pub body_continues : (u : Input) (m : Lines) → i < n → whole ≡ body_on text_limits names (n - i) l t → line_of_body text_limits names l t ≡ Ok ((m, true), u) → whole ≡ body_on text_limits names (n - (i + 1)) m u
  body_continues u m below is more = body_turn (Ok ((m, true), u)) below is more

  pub body_out : n ≤ i → whole ≡ body_on text_limits names (n - i) l t → whole ≡ Err (At 0 TooMany)
  unfolding body_on
  body_out out is = is ∙ no_turn (λ k. body_on text_limits names k l t) n i out
