-- Memory: the initial values and the cache lines of the locations, and the messages that the stores appended, in coherence
-- order.
use Rattle.std.specs.Prelude.{ℕ, zero, suc, Bool, true, false, not, ◌&&◌, ◌==◌, nat_le, nat_lt, if◌then◌else◌, List, [], ◌∷◌, ◌++◌, length, slice_index, slice_index_or}

-- the value of each location at first, the cache line that each stands on, and the messages, each with its location and value
pub record Memory : Type 0 where
  pub initial : List ℕ
  pub lines : List ℕ
  pub messages : List (ℕ × ℕ)

-- the line of a location
abbrev pub line_of : Memory → ℕ → ℕ
line_of m x = slice_index m.lines x

-- message i, counted from 0, is to x
abbrev pub is_to : List (ℕ × ℕ) → ℕ → ℕ → Bool
is_to [] x i = false
is_to (m ∷ ms) x zero = m.0 == x
is_to (m ∷ ms) x (suc i) = is_to ms x i

-- Positions: 0 stands for the initial values, and is a position of every location; position p is message p,
-- counted from 1, and is a position of that message's location.
abbrev pub is_at : List (ℕ × ℕ) → ℕ → ℕ → Bool
is_at ms x zero = true
is_at ms x (suc i) = is_to ms x i

-- the value at a position of x
abbrev pub value_at : Memory → ℕ → ℕ → ℕ
value_at m x zero = slice_index m.initial x
value_at m x (suc i) = (slice_index_or m.messages i (0, 0)).1

-- every number below n meets the test
abbrev pub every_below : (ℕ → Bool) → ℕ → Bool
every_below f zero = true
every_below f (suc n) = f n && every_below f n

-- at q, in (p, n], stands a message to x: it hides p, up to n
abbrev pub hides : List (ℕ × ℕ) → ℕ → ℕ → ℕ → ℕ → Bool
hides ms x p n q = is_at ms x q && (nat_lt p q && nat_le q n)

-- no message to x stands in (p, n]
abbrev pub is_clear : List (ℕ × ℕ) → ℕ → ℕ → ℕ → Bool
is_clear ms x p n = every_below (λ q. not (hides ms x p n q)) (suc (length ms))

-- p is a position of x, from c on, without a message to x in (p, n]
abbrev pub reaches : List (ℕ × ℕ) → ℕ → ℕ → ℕ → ℕ → Bool
reaches ms x c n p = is_at ms x p && (nat_le c p && is_clear ms x p n)

-- the greatest position of x that is n at most
abbrev pub last_upto : List (ℕ × ℕ) → ℕ → ℕ → ℕ
last_upto ms x zero = zero
last_upto ms x (suc n) = if is_to ms x n then suc n else last_upto ms x n

-- the greatest position of x, and the value there: the last value of x
abbrev pub last : List (ℕ × ℕ) → ℕ → ℕ
last ms x = last_upto ms x (length ms)

abbrev pub last_value : Memory → ℕ → ℕ
last_value m x = value_at m x (last m.messages x)

-- a message after all others: its location, and its value
abbrev pub message_appended : Memory → ℕ × ℕ → Memory
message_appended m st = record m { messages = m.messages ++ st ∷ [] }
