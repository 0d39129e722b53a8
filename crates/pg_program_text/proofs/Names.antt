-- A name that was found stands in the table.
use Rattle.std.proofs.Common.{◌≡◌, ℕ, ◌<◌, Ok, length}
use Rattle.pg_lex.specs.Lex.{Lexeme}
use Rattle.pg_program.specs.NameTable.{NameTable}
use Rattle.pg_program.specs.declared.name_table.NameRef.TheVariants as place
use Rattle.pg_assertion_text.specs.Input.{named}
use Rattle.pg_assertion_text.proofs.Steps.{named_found}
use Rattle.pg_assertion_text.proofs.Names as table

pub scalar_within : (names : NameTable) (t : Lexeme) (r : ℕ) → named names t ≡ Ok (place.Scalar r) → r < length names.scalars
scalar_within names t r h = let is = named_found names t (place.Scalar r) h in table.scalar_within names t.text r is.2
