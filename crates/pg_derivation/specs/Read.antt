-- What a call answers that reads.
use Rattle.std.specs.Prelude.{◌≡◌, ◌≢◌, List, [], ◌∷◌, ◌++◌, Result, Ok, Err}
use Rattle.pg_document.specs.declared.fault.DocFault.{DocFault}
use Rattle.pg_document.specs.declared.fault.DocFault.TheVariants.{NoMemory}
use Rattle.pg_derivation.specs.declared.place.Place.{Place}
use Rattle.pg_derivation.specs.Fault.{Read, ◌>>=◌}
use Rattle.pg_derivation.specs.Place.{cursor}
use Rattle.pg_derivation.specs.Derivation.{Node, DerivationTable, trees_of, numbered}

-- what was returned, seen so, is what is read, unless memory ran out
abbrev pub Reads : {X Y : Type 0} → (X → Y) → Result X DocFault → Result Y DocFault → Type 0
Reads view (Ok x) read = read ≡ Ok (view x)
Reads view (Err e) read = e ≢ NoMemory → read ≡ Err e

-- what was read before, and what is read from here on
abbrev pub with_front : {A : Type 0} → List A → Read (List A) → Read (List A)
with_front front read = read >>= λ x. Ok (front ++ x.0, x.1)

-- what was read, as a list
abbrev pub alone : {A : Type 0} → Read A → Read (List A)
alone read = read >>= λ x. Ok (x.0 ∷ [], x.1)

-- a list has become another one by what is read, up to the place that was returned
abbrev pub Adds : {A : Type 0} → List A → List A → Result Place DocFault → Read (List A) → Type 0
Adds old new result read = Reads (λ p. (new, cursor p)) result (with_front old read)

-- what was returned is what a text says, unless memory ran out
abbrev pub ReadsTrees : Result DerivationTable DocFault → Result (List (List Node)) DocFault → Type 0
ReadsTrees (Ok d) said = (said ≡ Ok (trees_of d)) × (d ≡ numbered (trees_of d))
ReadsTrees (Err e) said = e ≢ NoMemory → said ≡ Err e
