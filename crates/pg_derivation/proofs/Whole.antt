-- The whole text.
use Rattle.std.proofs.Common.{◌≡◌, ℕ, List, length, Result, Ok, refl, sym, ap, ◌∙◌}
use Rattle.pg_derivation.specs.Derivation.{Node, DerivationTable, trees_of, numbered}
use Rattle.pg_derivation.specs.Fault.{Cursor, header, trees, closing, derivation_of}
use Rattle.pg_document.specs.declared.fault.DocFault.{DocFault}
use Rattle.pg_derivation.proofs.Trees.{trees_of-trees_behind}

abbrev start : List ℕ → Cursor
start text = record { at = 0; rest = text }

abbrev said : List (List Node) → Result (List (List Node)) DocFault
said ts = Ok ts

pub all-said : (text : List ℕ) (from after end : Cursor) (ts : List (List Node)) (d : DerivationTable) → header (start text) ≡ Ok from → trees (length from.rest) 1 from ≡ Ok (ts, after) → closing after ≡ Ok end → d ≡ numbered ts
    → (derivation_of text ≡ Ok (trees_of d)) × (d ≡ numbered (trees_of d))
unfolding derivation_of
all-said text from after end ts d first middle last is =
    let again : trees_of d ≡ ts = ap trees_of is ∙ trees_of-trees_behind 1 ts in
    let whole : derivation_of text ≡ said ts = rw (first, middle, last) refl in
    (whole ∙ ap said (sym again), is ∙ ap numbered (sym again))
