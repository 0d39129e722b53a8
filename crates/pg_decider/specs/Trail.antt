-- The trail: the literals that were added and can be taken back, with the clause that forced each.
use Rattle.std.specs.Prelude.{◌≡◌, ℕ, ◌+◌, ◌-◌, ◌^◌, ◌<◌, ◌≤◌, Bool, true, false, ◌==◌, if◌then◌else◌, List, [], ◌∷◌, ◌++◌, length, take, slice_index_or}
use Rattle.pg_region.specs.Literal.{Literal, negated}
use Rattle.pg_decider.specs.Assignment.{on}
use Rattle.pg_decider.specs.Weigh.{weigh}

-- what stands in a list past its end
abbrev pub none : Literal
none = record { atom = 0; positive = false }

abbrev pub lit : List Literal → ℕ → Literal
lit ls i = slice_index_or ls i none

-- what contracts see of a trail: the greatest atom, the literals, and beside each the number of the clause that forced it
pub record TrailTable : Type 0 where
  pub atoms : ℕ
  pub literals : List Literal
  pub reasons : List ℕ

-- the number of the clause that forced the literal at i, 0 for one that was chosen
abbrev pub reason : TrailTable → ℕ → ℕ
reason t i = slice_index_or t.reasons i 0

-- the value of an atom; it is 0 where the atom has none
abbrev pub code : Bool → ℕ
code true = 1
code false = 2

-- how many atoms have no value
abbrev pub zeros : ℕ → ℕ
zeros v = if v == 0 then 1 else 0

abbrev pub unset : List ℕ → ℕ
unset values = weigh zeros values

-- a trail over atoms up to n, in which no atom stands twice
pub record IsTrail (n : ℕ) (t : List Literal) : Type 0 where
  pub fresh : (i : ℕ) (l : Literal) → i < length t → on (take i t) l ≡ true → l.atom ≡ (lit t i).atom → ⊥
  pub calm : (l : Literal) → on t l ≡ true → on t (negated l) ≡ true → ⊥
  pub over : (l : Literal) → on t l ≡ true → l.atom ≤ n
  pub few : length t ≤ n + 1

-- the values say what stands on the trail
pub record AreValues (values : List ℕ) (t : List Literal) (room : ℕ) : Type 0 where
  pub trail : IsTrail (length values - 1) t
  pub atoms : 0 < length values
  pub agrees : (l : Literal) → l.atom < length values → (slice_index_or values l.atom 0 == code l.positive) ≡ on t l
  pub low : (i : ℕ) → slice_index_or values i 0 ≤ 2
  pub counts : length t + unset values ≡ length values
  pub fits : length values ≤ room
  pub small : length values ≤ 2 ^ 31

-- a literal is added, and literals are taken back
abbrev pub added_to : TrailTable → Literal → ℕ → TrailTable
added_to t l n = record { atoms = t.atoms; literals = t.literals ++ l ∷ []; reasons = t.reasons ++ n ∷ [] }

abbrev pub cut : TrailTable → ℕ → TrailTable
cut t m = record { atoms = t.atoms; literals = take m t.literals; reasons = take m t.reasons }
