-- A crash that keeps some locations at positions of their own. Each other location is left at its greatest position up to where
-- its line is cut then.
use Rattle.std.proofs.Common.{◌≡◌, ℕ, ◌<◌, ◌≤◌, max, Bool, true, false, cond, List, map, length, get_or, refl, ap, ◌∙◌, arith}
use Rattle.std.specs.List.{range_with_len}
use Rattle.std.proofs.lemmas.List.{length-map, get_or-map}
use Rattle.std.proofs.lemmas.List.FromFn.{length-range_with_len, get_or-range_with_len}
use Rattle.pg_machine.specs.Memory.{line_of, reaches, last_upto}
use Rattle.pg_machine.specs.State.{State, greatest_on, committed}
use Rattle.pg_machine.proofs.Appended.{last_upto-within}
use Rattle.pg_machine.proofs.PositionLists.{greatest_on-above}
use Rattle.pg_machine.proofs.Reached.{reaches_of, of_reaches, last_upto-at, last_upto-grows, last_upto-max}
use Rattle.pg_views.specs.Atom.{committed_to}
use Rattle.pg_views.specs.Crash.{cut, IsCrashChoice}
use Rattle.pg_views.proofs.Lines.{greatest_on-least}

-- ---- a number for each location

abbrev pub each : ℕ → (ℕ → ℕ) → List ℕ
each n f = map f (range_with_len 0 n)

pub each-size : (n : ℕ) (f : ℕ → ℕ) → length (each n f) ≡ n
each-size n f = length-map (range_with_len 0 n) f ∙ length-range_with_len 0 n

pub each-get : (n : ℕ) (f : ℕ → ℕ) (x : ℕ) → x < n → get_or (each n f) x 0 ≡ f x
each-get n f x lt =
    let size = length-range_with_len 0 n in
    let is : get_or (range_with_len 0 n) x 0 ≡ x = let e = get_or-range_with_len 0 n x 0 lt in omega (arith, e) in
    get_or-map f (range_with_len 0 n) x 0 0 (omega (arith, size, lt)) ∙ ap f is

-- ---- where up to a position no message to x stands, and up to another

-- where a position is reached up to c, it is reached up to all that lies before c or before itself
pub reaches-cut : (ms : List (ℕ × ℕ)) (x c k p : ℕ) → reaches ms x 0 c p ≡ true → k ≤ max c p → reaches ms x 0 k p ≡ true
reaches-cut ms x c k p h le =
    let was = reaches_of ms x 0 c p h in
    let upto = was.last in
    let grows = last_upto-grows ms x k (max c p) le in
    let most = last_upto-max ms x c p in
    let within = last_upto-within ms x p in
    of_reaches ms x 0 k p (record { at = was.at; from = omega arith; last = omega (arith, upto, grows, most, within) })

-- ---- the locations that are kept

-- no message to x stands after its position up to what was committed to its line, and no two of these locations share a line
pub record AreKept (s : State) (is : ℕ → Bool) (at : ℕ → ℕ) : Type 0 where
  pub lined : length s.memory.lines ≡ length s.memory.initial
  pub reached : (x : ℕ) → is x ≡ true → reaches s.memory.messages x 0 (committed_to s x) (at x) ≡ true
  pub apart : (x y : ℕ) → x < length s.memory.initial → y < length s.memory.initial → is x ≡ true → is y ≡ true → line_of s.memory x ≡ line_of s.memory y → x ≡ y

-- the crash that keeps them
module _ (s : State) (is : ℕ → Bool) (at : ℕ → ℕ) where
  -- the positions that are kept, with 0 of each other location, and up to where the line l is cut then
  abbrev pub anchors : List ℕ
  anchors = each (length s.memory.initial) (λ x. cond (is x) (at x) 0)

  abbrev pub bound : ℕ → ℕ
  bound l = max (committed s l) (greatest_on s.memory.lines anchors l)

  abbrev pub kept_at : ℕ → ℕ
  kept_at x = cond (is x) (at x) (last_upto s.memory.messages x (bound (line_of s.memory x)))

  abbrev pub kept : List ℕ
  kept = each (length s.memory.initial) kept_at

  -- no position on a line is greater than the bound, so the crash cuts the line there at most
  cut-within : length s.memory.lines ≡ length s.memory.initial → (l : ℕ) → cut s kept l ≤ bound l
  cut-within lined l =
      let all = greatest_on-least s.memory.lines kept l (bound l) (λ i lt long on.
      let inside : i < length s.memory.initial = omega (arith, lined, lt) in
      let here = each-get (length s.memory.initial) kept_at i inside in
      let most = by i lt inside on (is i) refl in
      omega (arith, here, most)) in
      omega (arith, all)
    where
      by : (i : ℕ) → i < length s.memory.lines → i < length s.memory.initial → line_of s.memory i ≡ l → (b : Bool) → is i ≡ b → cond b (at i) (last_upto s.memory.messages i (bound (line_of s.memory i))) ≤ bound l
      by i lt inside on true e =
          let mine : get_or anchors i 0 ≡ at i = each-get (length s.memory.initial) (λ x. cond (is x) (at x) 0) i inside ∙ ap (λ (b : Bool). cond b (at i) 0) e in
          let above = greatest_on-above s.memory.lines anchors l i lt on in
          omega (arith, mine, above)
      by i lt inside on false e =
          let same = ap bound on in
          let within = last_upto-within s.memory.messages i (bound (line_of s.memory i)) in
          omega (arith, same, within)

  -- on the line of a location that is kept there is no other
  bound-within : AreKept s is at → (x : ℕ) → x < length s.memory.initial → is x ≡ true → bound (line_of s.memory x) ≤ max (committed_to s x) (at x)
  bound-within h x inside mine =
      let lined = h.lined in
      let all = greatest_on-least s.memory.lines anchors (line_of s.memory x) (at x) (λ i lt long on.
      let other : i < length s.memory.initial = omega (arith, lined, lt) in
      let here = each-get (length s.memory.initial) (λ y. cond (is y) (at y) 0) i other in
      let most = by i other on (is i) refl in
      omega (arith, here, most)) in
      omega (arith, all)
    where
      by : (i : ℕ) → i < length s.memory.initial → line_of s.memory i ≡ line_of s.memory x → (b : Bool) → is i ≡ b → cond b (at i) 0 ≤ at x
      by i other on true e = let same = ap at (h.apart i x other inside e mine on) in omega (arith, same)
      by i other on false e = omega arith

  pub kept-get : (x : ℕ) → x < length s.memory.initial → is x ≡ true → get_or kept x 0 ≡ at x
  kept-get x inside mine =
      each-get (length s.memory.initial) kept_at x inside
      ∙ ap (λ (b : Bool). cond b (at x) (last_upto s.memory.messages x (bound (line_of s.memory x)))) mine

  pub kept-size : length kept ≡ length s.memory.initial
  kept-size = each-size (length s.memory.initial) kept_at

  pub kept-is_choice : AreKept s is at → IsCrashChoice s kept
  kept-is_choice h = record {
    size = kept-size;
    positions = λ x inside. ap (reaches s.memory.messages x 0 (cut s kept (line_of s.memory x))) (each-get (length s.memory.initial) kept_at x inside) ∙ by x inside (is x) refl;
  }
    where
      by : (x : ℕ) → x < length s.memory.initial → (b : Bool) → is x ≡ b
          → reaches s.memory.messages x 0 (cut s kept (line_of s.memory x)) (cond b (at x) (last_upto s.memory.messages x (bound (line_of s.memory x)))) ≡ true
      by x inside true e =
          let one = cut-within h.lined (line_of s.memory x) in
          let two = bound-within h x inside e in
          reaches-cut s.memory.messages x (committed_to s x) (cut s kept (line_of s.memory x)) (at x) (h.reached x e) (omega (arith, one, two))
      by x inside false e =
          of_reaches s.memory.messages x 0 (cut s kept (line_of s.memory x)) (last_upto s.memory.messages x (bound (line_of s.memory x))) (record {
            at = last_upto-at s.memory.messages x (bound (line_of s.memory x));
            from = omega arith;
            last = last_upto-grows s.memory.messages x (cut s kept (line_of s.memory x)) (bound (line_of s.memory x)) (cut-within h.lined (line_of s.memory x));
          })
