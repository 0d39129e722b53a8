-- More digits spell no smaller number.
use Rattle.std.proofs.Common.{◌≡◌, ℕ, suc, ◌+◌, ◌-◌, ◌*◌, ◌<◌, ◌≤◌, List, [], ◌∷◌, drop, length, get_or, arith, drop-cons, ap}
use Rattle.pg_schedule.specs.Reading.{value_from}

pub value_from_grows : (n : ℕ) (ds : List ℕ) → n ≤ value_from n ds
value_from_grows n [] = omega arith
value_from_grows n (d ∷ ds) = omega (arith, value_from_grows (10 * n + (d - 48)) ds)

-- what is read up to a digit, and that digit
pub read_at_most_value :
    (ds : List ℕ) (i n : ℕ) → i < length ds → value_from n (drop i ds) ≡ value_from 0 ds
    → 10 * n + (get_or ds i 0 - 48) ≤ value_from 0 ds
read_at_most_value ds i n within so_far =
    let first = ap (value_from n) (drop-cons ds i 0 within) in
    let grows = value_from_grows (10 * n + (get_or ds i 0 - 48)) (drop (suc i) ds) in
    omega (arith, first, grows)
