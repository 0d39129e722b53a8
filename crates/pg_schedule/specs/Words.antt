-- Texts cut into lines, and lines cut into words, each with its place: the number of bytes in front of it.
use Rattle.std.specs.Prelude.{ℕ, ◌+◌, Bool, true, false, not, ◌||◌, ◌==◌, if◌then◌else◌, List, [], ◌∷◌, length, filter}

pub record Piece : Type 0 where
  pub place : ℕ
  pub text : List ℕ

abbrev pub piece : ℕ → List ℕ → Piece
piece place text = record { place = place; text = text }

-- a byte in front of pieces, that ends none
abbrev pub in_front : ℕ → ℕ → List Piece → List Piece
in_front at b [] = piece at (b ∷ []) ∷ []
in_front at b (p ∷ ps) = piece at (b ∷ p.text) ∷ ps

-- the pieces of what stands at a place, each up to a byte that ends it or up to the end
abbrev pub pieces : (ℕ → Bool) → ℕ → List ℕ → List Piece
pieces ends at [] = []
pieces ends at (b ∷ bs) = if ends b then piece at [] ∷ pieces ends (at + 1) bs else in_front at b (pieces ends (at + 1) bs)

abbrev pub is_newline : ℕ → Bool
is_newline b = b == 10

-- space, tab, carriage return
abbrev pub is_blank : ℕ → Bool
is_blank b = b == 32 || b == 9 || b == 13

abbrev pub is_empty : {A : Type 0} → List A → Bool
is_empty [] = true
is_empty (x ∷ xs) = false

-- the words of a line from a place on, and the place where one more would be missing: that of the newline, or of the text's end
pub record Words : Type 0 where
  pub left : List Piece
  pub end : ℕ

abbrev pub has_bytes : Piece → Bool
has_bytes p = not (is_empty p.text)

-- blanks stand between words, and at a line's ends
abbrev pub words : ℕ → List ℕ → Words
words at line = record { left = filter has_bytes (pieces is_blank at line); end = at + length line }

-- a line of a text, by its number from 1 on
pub record TextLine : Type 0 where
  pub number : ℕ
  pub words : Words

abbrev pub lines_from : ℕ → List Piece → List TextLine
lines_from n [] = []
lines_from n (l ∷ ls) = record { number = n; words = words l.place l.text } ∷ lines_from (n + 1) ls

-- The lines of a text. The last newline may be missing.
abbrev pub lines : List ℕ → List TextLine
lines text = lines_from 1 (pieces is_newline 0 text)

abbrev pub is_comment : List ℕ → Bool
is_comment [] = false
is_comment (b ∷ bs) = b == 35

-- a line says nothing where it has no words, or a first one that begins with `#`
abbrev pub says : List Piece → Bool
says [] = false
says (w ∷ ws) = not (is_comment w.text)

abbrev pub saying : List TextLine → List TextLine
saying ls = filter (λ l. says l.words.left) ls
