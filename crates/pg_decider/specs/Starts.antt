-- The chains that starts and links stand for.
use Rattle.std.specs.Prelude.{ℕ, List, map}
use Rattle.pg_decider.specs.Chains.{walk}
use Rattle.pg_decider.specs.declared.chains.Start.{Start}

-- the lists that begin at the starts
abbrev pub lists_of : List ℕ → List Start → List (List ℕ)
lists_of next starts = map (λ s. walk next s.size s.head) starts
