-- Rows and columns as numbers.
use Rattle.std.proofs.Common.{◌≡◌, ℕ, zero, suc, ◌+◌, ◌*◌, ◌/◌, ◌%◌, ◌<◌, arith}
use Rattle.std.proofs.Math.Nat.{div-lt_iff_lt-mul, mod-lt}
use Rattle.std.proofs.lemmas.Nat.{mul-add-lt, div-add-mod'}

-- the quotient and the rest give the place back
pub place_again : (place a b width row column : ℕ) → a ≡ width → b ≡ width → row ≡ place / a → column ≡ place % b
    → row * width + column ≡ place
place_again place a b width row column e f g h = rw (g, h, e, f) (div-add-mod' place width)

-- a place stands below the number of places
pub place_below : (row width column rows a : ℕ) → a ≡ width → row < rows → column < width → row * a + column < width * rows
place_below row width column rows a e p q = rw e (mul-add-lt row width column rows p q)

-- and the other way round: where there is a place, a row has some width, the quotient is a row and the rest a column
pub some_width : (place a width rows : ℕ) → a ≡ width → place < width * rows → 0 < a
some_width place zero zero rows e h = absurd (omega arith)
some_width place zero (suc width) rows e h = absurd (omega arith)
some_width place (suc a) width rows e h = omega arith

pub row_below : (place a width rows : ℕ) → a ≡ width → place < width * rows → place / a < rows
row_below place a width rows e h =
    let some = some_width place a width rows e h in
    let below : place < rows * a = rw e (omega (arith, h)) in
    (div-lt_iff_lt-mul {k = a} {x = place} {y = rows} some).1 below

pub column_below : (place a width rows : ℕ) → a ≡ width → place < width * rows → place % a < width
column_below place a width rows e h = let below : place % a < a = mod-lt place (some_width place a width rows e h) in omega (arith, below, e)
