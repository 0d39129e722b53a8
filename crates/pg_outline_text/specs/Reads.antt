-- What a function that reads into a table of names ensures.
use Rattle.std.specs.Prelude.{◌≡◌, ◌≢◌, Bool, true, false, Option, Some, None, Result, Ok, Err}
use Rattle.pg_lex.specs.declared.fault.TextFault.{TextFault}
use Rattle.pg_lex.specs.declared.fault.TextFault.TheVariants.{NoMemory}
use Rattle.pg_program.specs.NameTable.{NameTable}
use Rattle.pg_assertion_text.specs.Input.{Input, Outcome}

-- the names that are read, unless memory runs out
abbrev pub ReadsNames : Outcome NameTable → Result (Unit {0}) TextFault → NameTable → Input → Type 0
ReadsNames outcome (Ok u) names new = outcome ≡ Ok (names, new)
ReadsNames outcome (Err e) names new = e ≢ NoMemory → outcome ≡ Err e

-- the names that are read, if any are
abbrev pub ReadsMore : Outcome (Option NameTable) → Result Bool TextFault → NameTable → NameTable → Input → Type 0
ReadsMore outcome (Ok true) old names new = outcome ≡ Ok (Some names, new)
ReadsMore outcome (Ok false) old names new = (outcome ≡ Ok (None, new)) × (names ≡ old)
ReadsMore outcome (Err e) old names new = e ≢ NoMemory → outcome ≡ Err e
