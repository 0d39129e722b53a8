-- What an appended message changes of the last values: that of its location alone.
use Rattle.std.proofs.Common.{◌≡◌, ℕ, zero, suc, ◌<◌, ◌≤◌, Bool, true, false, cond, ◌==◌, List, [], ◌∷◌, ◌++◌, length, refl, ap, ◌∙◌, arith}
use Rattle.std.proofs.lemmas.Bool.{eq-eqb}
use Rattle.std.proofs.lemmas.List.{get_or_append_left, get_or_push}
use Rattle.pg_machine.specs.Memory.{Memory, is_to, value_at, last_upto, last, last_value, message_appended}

pub same_number : (x : ℕ) → (x == x) ≡ true
same_number x = eq-eqb x x refl

pub is_to-front : (ms : List (ℕ × ℕ)) (m : ℕ × ℕ) (y i : ℕ) → i < length ms → is_to (ms ++ m ∷ []) y i ≡ is_to ms y i
is_to-front [] m y i lt = absurd (omega arith)
is_to-front (a ∷ ms) m y zero lt = refl
is_to-front (a ∷ ms) m y (suc i) lt = is_to-front ms m y i (omega arith)

pub is_to-new : (ms : List (ℕ × ℕ)) (m : ℕ × ℕ) (y : ℕ) → is_to (ms ++ m ∷ []) y (length ms) ≡ (m.0 == y)
is_to-new [] m y = refl
is_to-new (a ∷ ms) m y = is_to-new ms m y

pub length-appended : (ms : List (ℕ × ℕ)) (m : ℕ × ℕ) → length (ms ++ m ∷ []) ≡ suc (length ms)
length-appended [] m = refl
length-appended (a ∷ ms) m = ap suc (length-appended ms m)

pub last_upto-front : (ms : List (ℕ × ℕ)) (m : ℕ × ℕ) (y n : ℕ) → n ≤ length ms → last_upto (ms ++ m ∷ []) y n ≡ last_upto ms y n
last_upto-front ms m y zero lt = refl
last_upto-front ms m y (suc n) lt =
    ap (λ (b : Bool). cond b (suc n) (last_upto (ms ++ m ∷ []) y n)) (is_to-front ms m y n (omega arith))
    ∙ ap (λ (l : ℕ). cond (is_to ms y n) (suc n) l) (last_upto-front ms m y n (omega arith))

pub last_upto-within : (ms : List (ℕ × ℕ)) (y n : ℕ) → last_upto ms y n ≤ n
last_upto-within ms y zero = omega arith
last_upto-within ms y (suc n) = by (is_to ms y n) (last_upto-within ms y n)
  where
    by : (b : Bool) → last_upto ms y n ≤ n → cond b (suc n) (last_upto ms y n) ≤ suc n
    by true h = omega arith
    by false h = omega (arith, h)

last-appended : (ms : List (ℕ × ℕ)) (m : ℕ × ℕ) (y : ℕ) → last (ms ++ m ∷ []) y ≡ cond (m.0 == y) (suc (length ms)) (last ms y)
last-appended ms m y =
    ap (λ (n : ℕ). last_upto (ms ++ m ∷ []) y n) (length-appended ms m)
    ∙ (ap (λ (b : Bool). cond b (suc (length ms)) (last_upto (ms ++ m ∷ []) y (length ms))) (is_to-new ms m y)
    ∙ ap (λ (l : ℕ). cond (m.0 == y) (suc (length ms)) l) (last_upto-front ms m y (length ms) (omega arith)))

value_at-front : (m : Memory) (st : ℕ × ℕ) (y p : ℕ) → p ≤ length m.messages → value_at (message_appended m st) y p ≡ value_at m y p
value_at-front m st y zero h = refl
value_at-front m st y (suc i) h = ap (λ (e : ℕ × ℕ). e.1) (get_or_append_left m.messages (st ∷ []) (0, 0) i (omega (arith, h)))

value_at-new : (m : Memory) (st : ℕ × ℕ) (y : ℕ) → value_at (message_appended m st) y (suc (length m.messages)) ≡ st.1
value_at-new m st y = ap (λ (e : ℕ × ℕ). e.1) (get_or_push m.messages st (0, 0) (length m.messages) refl)

-- after a store its location has its value, and every other location the value that it had
pub last_value-appended : (m : Memory) (st : ℕ × ℕ) (y : ℕ) → last_value (message_appended m st) y ≡ cond (st.0 == y) st.1 (last_value m y)
last_value-appended m st y =
    ap (λ (p : ℕ). value_at (message_appended m st) y p) (last-appended m.messages st y) ∙ by (st.0 == y)
  where
    by : (b : Bool) → value_at (message_appended m st) y (cond b (suc (length m.messages)) (last m.messages y)) ≡ cond b st.1 (value_at m y (last m.messages y))
    by true = value_at-new m st y
    by false = value_at-front m st y (last m.messages y) (last_upto-within m.messages y (length m.messages))
