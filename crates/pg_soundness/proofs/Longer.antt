-- A memory with one message more: which positions are the last ones there, and which values are shown.
use Rattle.std.proofs.Common.{◌≡◌, ◌≢◌, ℕ, zero, suc, ◌≤◌, ◌==◌, Bool, true, false, cond, ◌&&◌, ◌||◌, List, [], ◌∷◌, ◌++◌, length, refl, sym, ap, ap₂, ◌∙◌, arith}
use Rattle.std.proofs.lemmas.Bool.{ne_eqb}
use Rattle.std.proofs.lemmas.List.{get_or_append_left, get_or_push}
use Rattle.pg_machine.specs.Memory.{Memory, is_at, value_at, last_upto, last, last_value, message_appended}
use Rattle.pg_machine.proofs.Appended.{same_number, is_to-new, length-appended, last_upto-front, last_upto-within, last_value-appended}
use Rattle.pg_machine.proofs.Reached.{least, last-above, last-alone, same_truth, reaches-front, reaches-new, reaches-other}
use Rattle.pg_views.specs.Atom.{some_below, shows, is_shown, is_last}
use Rattle.pg_views.proofs.Axioms.{last-shown, shown_where}
use Rattle.pg_soundness.proofs.Tests.{or-swap, some_below-alike}

-- ---- the last position

pub last-here : (ms : List (ℕ × ℕ)) (x v : ℕ) → last (ms ++ (x, v) ∷ []) x ≡ suc (length ms)
last-here ms x v =
    let longer = ms ++ (x, v) ∷ [] in
    let long = length-appended ms (x, v) in
    let above = last-above longer x (suc (length ms)) (is_to-new ms (x, v) x ∙ same_number x) in
    let within = last_upto-within longer x (length longer) in
    omega (arith, long, above, within)

pub last-there : (ms : List (ℕ × ℕ)) (x v y : ℕ) → y ≢ x → last (ms ++ (x, v) ∷ []) y ≡ last ms y
last-there ms x v y other =
    ap (last_upto (ms ++ (x, v) ∷ []) y) (length-appended ms (x, v))
    ∙ (ap (λ (b : Bool). cond b (suc (length ms)) (last_upto (ms ++ (x, v) ∷ []) y (length ms))) (is_to-new ms (x, v) y ∙ ne_eqb x y (λ e. other (sym e)))
    ∙ last_upto-front ms (x, v) y (length ms) (omega arith))

pub is_last-here : (m : Memory) (x e v : ℕ) → is_last (message_appended m (x, e)) x v ≡ (e == v)
is_last-here m x e v =
    ap (λ (k : ℕ). k == v) (last_value-appended m (x, e) x ∙ ap (λ (b : Bool). cond b e (last_value m x)) (same_number x))

pub is_last-there : (m : Memory) (x e y v : ℕ) → y ≢ x → is_last (message_appended m (x, e)) y v ≡ is_last m y v
is_last-there m x e y v other =
    ap (λ (k : ℕ). k == v) (last_value-appended m (x, e) y ∙ ap (λ (b : Bool). cond b e (last_value m y)) (ne_eqb x y (λ k. other (sym k))))

-- ---- what is shown

value_at-new : (m : Memory) (st : ℕ × ℕ) (y : ℕ) → value_at (message_appended m st) y (suc (length m.messages)) ≡ st.1
value_at-new m st y = ap (λ (e : ℕ × ℕ). e.1) (get_or_push m.messages st (0, 0) (length m.messages) refl)

pub shows-front : (m : Memory) (st : ℕ × ℕ) (x c n v p : ℕ) → n ≤ length m.messages → p ≤ length m.messages → shows (message_appended m st) x c n v p ≡ shows m x c n v p
shows-front m st x c n v p upto le = ap₂ (λ (a : Bool) (k : ℕ). a && (k == v)) (reaches-front m.messages st x c n p upto le) (value p le)
  where
    value : (q : ℕ) → q ≤ length m.messages → value_at (message_appended m st) x q ≡ value_at m x q
    value zero h = refl
    value (suc i) h = ap (λ (e : ℕ × ℕ). e.1) (get_or_append_left m.messages (st ∷ []) (0, 0) i (omega (arith, h)))

-- the new message shows its value, of its location alone
pub shows-new : (m : Memory) (x e c n v : ℕ) → c ≤ suc (length m.messages) → shows (message_appended m (x, e)) x c n v (suc (length m.messages)) ≡ (e == v)
shows-new m x e c n v le = ap₂ (λ (a : Bool) (k : ℕ). a && (k == v)) (reaches-new m.messages x e c n le) (value_at-new m (x, e) x)

pub shows-none : (m : Memory) (x e y c n v : ℕ) → y ≢ x → shows (message_appended m (x, e)) y c n v (suc (length m.messages)) ≡ false
shows-none m x e y c n v other =
    ap (λ (a : Bool). a && (value_at (message_appended m (x, e)) y (suc (length m.messages)) == v)) (reaches-other m.messages (x, e) y c n (λ k. other (sym k)))

-- some position of the longer memory: the new one, or one of those before
pub some-longer : (m : Memory) (st : ℕ × ℕ) (f : ℕ → Bool) → some_below f (suc (length (message_appended m st).messages)) ≡ (f (suc (length m.messages)) || some_below f (suc (length m.messages)))
some-longer m st f = ap (λ (k : ℕ). some_below f (suc k)) (length-appended m.messages st)

shown-longer : (m : Memory) (st : ℕ × ℕ) (x c n v : ℕ) → n ≤ length m.messages
    → is_shown (message_appended m st) x c n v ≡ (shows (message_appended m st) x c n v (suc (length m.messages)) || is_shown m x c n v)
shown-longer m st x c n v upto =
    some-longer m st (shows (message_appended m st) x c n v)
    ∙ ap (λ (b : Bool). shows (message_appended m st) x c n v (suc (length m.messages)) || b)
    (some_below-alike (shows (message_appended m st) x c n v) (shows m x c n v) (suc (length m.messages)) (λ p lt. shows-front m st x c n v p upto (omega arith)))

-- Up to an earlier position the new message hides none: of its location its value is shown too, and of each other one what was shown.
pub shown-here : (m : Memory) (x e c n v : ℕ) → c ≤ suc (length m.messages) → n ≤ length m.messages → is_shown (message_appended m (x, e)) x c n v ≡ (is_shown m x c n v || (e == v))
shown-here m x e c n v le upto =
    shown-longer m (x, e) x c n v upto
    ∙ (ap (λ (b : Bool). b || is_shown m x c n v) (shows-new m x e c n v le) ∙ or-swap (e == v) (is_shown m x c n v))

pub shown-there : (m : Memory) (x e y c n v : ℕ) → y ≢ x → n ≤ length m.messages → is_shown (message_appended m (x, e)) y c n v ≡ is_shown m y c n v
shown-there m x e y c n v other upto =
    shown-longer m (x, e) y c n v upto ∙ ap (λ (b : Bool). b || is_shown m y c n v) (shows-none m x e y c n v other)

-- ---- where the last position alone is reached

-- the last value alone is shown
pub shown-last : (m : Memory) (x c n v : ℕ) → is_at m.messages x c ≡ true → last m.messages x ≤ least m.messages x c n → is_shown m x c n v ≡ is_last m x v
shown-last m x c n v at le =
    same_truth (is_shown m x c n v) (is_last m x v)
    (λ h.
    let is = shown_where m x c n v h in
    ap (λ (p : ℕ). value_at m x p == v) (sym (last-alone m.messages x c n le is.0 is.1.reached)) ∙ is.1.value)
    (λ h. last-shown m x c n v at h)
