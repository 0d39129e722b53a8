-- Numbers among the words.
use Rattle.std.specs.Prelude.{ℕ, ◌+◌, ◌-◌, ◌*◌, ◌==◌, Bool, ◌&&◌, nat_le, List, [], ◌∷◌, Option, None, Some, option_and_then, if◌then◌else◌}

abbrev pub is_digit : ℕ → Bool
is_digit c = nat_le 48 c && nat_le c 57

-- the number that n becomes with these decimal digits behind it
abbrev pub read_on : ℕ → List ℕ → Option ℕ
read_on n [] = Some n
read_on n (c ∷ cs) = if is_digit c then read_on (n * 10 + (c - 48)) cs else None

-- the number that these decimal digits are, the first of which is not zero
abbrev pub numeral : List ℕ → Option ℕ
numeral [] = None
numeral (c ∷ cs) = if c == 48 then None else read_on 0 (c ∷ cs)

-- a number, if it is not above `most`
abbrev pub up_to : ℕ → Option ℕ → Option ℕ
up_to most number = option_and_then (λ n. if nat_le n most then Some n else None) number

-- a number from 1 to `most`, in decimal digits without a leading zero
abbrev pub number_up_to : ℕ → List ℕ → Option ℕ
number_up_to most word = up_to most (numeral word)
