-- What texts have in common, token by token, and at which token a fault is.
use Rattle.std.specs.Prelude.{◌≡◌, ◌⊎◌, ℕ, zero, suc, Ok, Err}
use Rattle.pg_lex.specs.declared.fault.TextFault.{TextFault}
use Rattle.pg_lex.specs.declared.fault.TextFault.TheVariants.{At}
use Rattle.pg_lex.specs.declared.fault.TextKind.{TextKind}
use Rattle.pg_lex.specs.declared.fault.TextKind.TheVariants.{TooMany, TooDeep}
use Rattle.pg_lex.specs.Lex.{Cursor, Lexeme, token, after}

-- the place behind the next m tokens
abbrev pub ahead : ℕ → Cursor → Cursor
ahead zero c = c
ahead (suc m) c = ahead m (after c)

-- the next m tokens are the same in both texts, and stand at the same places
abbrev pub Alike : ℕ → Cursor → Cursor → Type 0
Alike zero c d = Unit {0}
Alike (suc m) c d = (token c ≡ token d) × Alike m (after c) (after d)

-- the fault is at the token behind the next m, or is the lexer's own there
abbrev pub FaultAt : Cursor → ℕ → TextFault → Type 0
FaultAt c m e = ((l : Lexeme) × (why : TextKind) × (token (ahead m c) ≡ Ok l) × (e ≡ At l.place why)) ⊎ (token (ahead m c) ≡ Err e)

-- the fault of a limit
abbrev pub IsLimit : TextFault → Type 0
IsLimit e = (place : ℕ) × ((e ≡ At place TooMany) ⊎ (e ≡ At place TooDeep))
