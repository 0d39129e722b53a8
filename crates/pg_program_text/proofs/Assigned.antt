-- What a bracket that is read so far leads to, by what its next turn meets. The turn is the i-th of n, from 0.
use Rattle.pg_program_text.specs.Limits.{text_limits}
use Rattle.std.proofs.Common.{◌≡◌, ℕ, zero, ◌+◌, ◌-◌, ◌<◌, ◌≤◌, Bool, true, false, Ok, Err, List, [], ◌∷◌, ◌++◌, ap, sym, ◌∙◌}
use Rattle.std.specs.Prelude.{if◌then◌else◌}
use Rattle.pg_lex.specs.declared.fault.TextFault.{TextFault}
use Rattle.pg_program.specs.NameTable.{NameTable}
use Rattle.pg_program.specs.declared.syntax.AuxAssign.{AuxAssign}
use Rattle.pg_assertion_text.specs.Input.{Input, Outcome, Parser, and_then, pure}
use Rattle.pg_program_text.specs.Stmt.{assignment, separator, assignments_on}
use Rattle.pg_program_text.proofs.Turns.{next_turn, no_turn}

-- what is after an assignment
abbrev after : NameTable → ℕ → List AuxAssign → AuxAssign → Parser (List AuxAssign)
after names n found a = λ t. and_then (separator t) (λ more. if more then assignments_on text_limits names n (found ++ a ∷ []) else pure (found ++ a ∷ []))

turn : (names : NameTable) (n i : ℕ) (found : List AuxAssign) (t : Input) (whole : Outcome (List AuxAssign)) (o : Outcome AuxAssign)
    → i < n → whole ≡ assignments_on text_limits names (n - i) found t → assignment text_limits names (n - i) t ≡ o → whole ≡ and_then o (after names (n - (i + 1)) found)
unfolding assignments_on
turn names n i found t whole o below is gives =
    is ∙ next_turn (λ k. assignments_on text_limits names k found t) n i below
    ∙ sym (next_turn (λ k. and_then (assignment text_limits names k t) (after names (n - (i + 1)) found)) n i below)
    ∙ ap (λ o. and_then o (after names (n - (i + 1)) found)) gives

pub bracket_fails : (names : NameTable) (n i : ℕ) (found : List AuxAssign) (t : Input) (whole : Outcome (List AuxAssign)) (e : TextFault)
    → i < n → whole ≡ assignments_on text_limits names (n - i) found t → assignment text_limits names (n - i) t ≡ Err e → whole ≡ Err e
bracket_fails names n i found t whole e below is fails = turn names n i found t whole (Err e) below is fails

read : (names : NameTable) (n i : ℕ) (found : List AuxAssign) (a : AuxAssign) (t u : Input) (whole : Outcome (List AuxAssign)) (o : Outcome Bool)
    → i < n → whole ≡ assignments_on text_limits names (n - i) found t → assignment text_limits names (n - i) t ≡ Ok (a, u) → separator u ≡ o
    → whole ≡ and_then o (λ more. if more then assignments_on text_limits names (n - (i + 1)) (found ++ a ∷ []) else pure (found ++ a ∷ []))
read names n i found a t u whole o below is reads gives =
    turn names n i found t whole (Ok (a, u)) below is reads
    ∙ ap (λ o. and_then o (λ more. if more then assignments_on text_limits names (n - (i + 1)) (found ++ a ∷ []) else pure (found ++ a ∷ []))) gives

pub bracket_stops : (names : NameTable) (n i : ℕ) (found : List AuxAssign) (a : AuxAssign) (t u : Input) (whole : Outcome (List AuxAssign)) (e : TextFault)
    → i < n → whole ≡ assignments_on text_limits names (n - i) found t → assignment text_limits names (n - i) t ≡ Ok (a, u) → separator u ≡ Err e → whole ≡ Err e
bracket_stops names n i found a t u whole e below is reads stops = read names n i found a t u whole (Err e) below is reads stops

pub bracket_ends : (names : NameTable) (n i : ℕ) (found : List AuxAssign) (a : AuxAssign) (t u v : Input) (whole : Outcome (List AuxAssign))
    → i < n → whole ≡ assignments_on text_limits names (n - i) found t → assignment text_limits names (n - i) t ≡ Ok (a, u) → separator u ≡ Ok (false, v) → whole ≡ Ok (found ++ a ∷ [], v)
bracket_ends names n i found a t u v whole below is reads ends = read names n i found a t u whole (Ok (false, v)) below is reads ends

pub bracket_goes : (names : NameTable) (n i : ℕ) (found : List AuxAssign) (a : AuxAssign) (t u v : Input) (whole : Outcome (List AuxAssign))
    → i < n → whole ≡ assignments_on text_limits names (n - i) found t → assignment text_limits names (n - i) t ≡ Ok (a, u) → separator u ≡ Ok (true, v)
    → whole ≡ assignments_on text_limits names (n - (i + 1)) (found ++ a ∷ []) v
bracket_goes names n i found a t u v whole below is reads goes = read names n i found a t u whole (Ok (true, v)) below is reads goes

-- the one that is too many
pub bracket_last : (names : NameTable) (n i : ℕ) (found : List AuxAssign) (t : Input) (whole : Outcome (List AuxAssign)) (o : Outcome AuxAssign)
    → n ≤ i → whole ≡ assignments_on text_limits names (n - i) found t → assignment text_limits names zero t ≡ o → whole ≡ and_then o (λ a. pure (found ++ a ∷ []))
unfolding assignments_on
bracket_last names n i found t whole o out is gives =
    is ∙ no_turn (λ k. assignments_on text_limits names k found t) n i out ∙ ap (λ o. and_then o (λ a. pure (found ++ a ∷ []))) gives
