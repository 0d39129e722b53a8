-- The texts of derivations, in the words of their spelling.
use Rattle.std.specs.Prelude.{◌≡◌, List, ℕ, Ok}
use Rattle.pg_derivation.specs.Derivation.{Node, AreTrees}
use Rattle.pg_derivation.specs.Fault.{derivation_of}
use Rattle.pg_derivation.specs.Text.{text_of}

-- a text without a fault is the one spelling of its trees
abbrev pub FoundIsSpelled : Type 0
FoundIsSpelled = (text : List ℕ) (trees : List (List Node)) → derivation_of text ≡ Ok trees → AreTrees trees × (text ≡ text_of trees)

-- what is the spelling of trees has no fault, and these are its trees
abbrev pub SpelledIsFound : Type 0
SpelledIsFound = (trees : List (List Node)) → AreTrees trees → derivation_of (text_of trees) ≡ Ok trees
