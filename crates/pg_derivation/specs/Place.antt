-- A place of a text in the code, and what its functions answer.
use Rattle.std.specs.Prelude.{◌≡◌, Result, Ok, Err}
use Rattle.pg_document.specs.declared.fault.DocFault.{DocFault}
use Rattle.pg_derivation.specs.declared.place.Place.{Place}
use Rattle.pg_derivation.specs.Fault.{Cursor}

abbrev pub cursor : Place → Cursor
cursor p = record { at = p.at; rest = p.rest.now }

-- what was returned, seen so, is what stands there
abbrev pub Tells : {X Y : Type 0} → (X → Y) → Result X DocFault → Result Y DocFault → Type 0
Tells view (Ok x) read = read ≡ Ok (view x)
Tells view (Err e) read = read ≡ Err e
