-- What a put does to the bytes that a sink tells it has written, `None` where it tells nothing.
use Rattle.std.specs.Prelude.{◌≡◌, ℕ, List, ◌++◌, take, Option, option_map}

-- what was written, with the piece after it
abbrev pub appended : Option (List ℕ) → List ℕ → Option (List ℕ)
appended written piece = option_map (λ bytes. bytes ++ piece) written

-- some prefix of the piece was appended, maybe none of it and maybe all
abbrev pub AppendsPart : Option (List ℕ) → Option (List ℕ) → List ℕ → Type 0
AppendsPart old new piece = (k : ℕ) × (new ≡ appended old (take k piece))
