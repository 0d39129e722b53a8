-- Literals, and the words that they are packed into.
--
-- The law at the end is no definition: the model of `Lit` cites it, and what a model cites stands in specs/.
use Rattle.std.specs.Prelude.{◌≡◌, ℕ, ◌+◌, ◌*◌, ◌/◌, ◌%◌, Bool, true, false, not, ◌&&◌, ◌==◌, refl}
use Rattle.std.proofs.Common.{zero, suc, ◌<◌, ◌∙◌, ap, arith}

-- an atom by its number, which is meant to be true or false
pub record Literal : Type 0 where
  pub atom : ℕ
  pub positive : Bool

-- the literal of the same atom that is meant the other way round
abbrev pub negated : Literal → Literal
negated l = record { atom = l.atom; positive = not l.positive }

-- two literals are the same one: they have one atom and one sign
abbrev pub same_sign : Bool → Bool → Bool
same_sign true b = b
same_sign false b = not b

abbrev pub same : Literal → Literal → Bool
same l m = (l.atom == m.atom) && same_sign l.positive m.positive

abbrev pub sign_bit : Bool → ℕ
sign_bit true = 1
sign_bit false = 0

-- the word of a literal, and the literal of a word
abbrev pub word_of : Literal → ℕ
word_of l = 2 * l.atom + sign_bit l.positive

abbrev pub literal_of : ℕ → Literal
literal_of w = record { atom = w / 2; positive = (w % 2 == 1) }

sign_bit-of_bit : (n : ℕ) → n < 2 → sign_bit (n == 1) ≡ n
sign_bit-of_bit zero h = refl
sign_bit-of_bit (suc zero) h = refl
sign_bit-of_bit (suc (suc n)) h = absurd (omega arith)

-- packing what was unpacked gives the same word
pub word_of-literal_of : (w : ℕ) → word_of (literal_of w) ≡ w
word_of-literal_of w =
    let bit = sign_bit-of_bit (w % 2) (omega arith) in
    ap (λ (n : ℕ). 2 * (w / 2) + n) bit ∙ omega arith
