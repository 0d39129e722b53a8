-- Loops over numbers that count up: what is left begins with the next one.
use Rattle.std.proofs.Common.{◌≡◌, ℕ, suc, ◌+◌, ◌-◌, ◌<◌, ◌≤◌, List, [], ◌∷◌, ◌++◌, map, Option, Some, None, sym, ap, ◌∙◌, arith, append_assoc}
use Rattle.std.specs.Option.{option_or}
use Rattle.std.specs.List.{flat_map, range_with_len}
use Rattle.std.proofs.lemmas.List.{append-nil}
use Rattle.pg_replay.specs.declared.answer.Violation.{Violation}
use Rattle.pg_replay.specs.Violation.{first_of}

range-next : (x n : ℕ) → x < n → range_with_len x (n - x) ≡ x ∷ range_with_len (x + 1) (n - (x + 1))
range-next x n lt = let e : n - x ≡ suc (n - (x + 1)) = omega arith in ap (range_with_len x) e

range-none : (x n : ℕ) → n ≤ x → range_with_len x (n - x) ≡ []
range-none x n le = let e : n - x ≡ 0 = omega arith in ap (range_with_len x) e

-- ---- texts

pub text-next : (f : ℕ → List ℕ) (x n : ℕ) (mid new whole : List ℕ) → x < n → mid ++ flat_map f (range_with_len x (n - x)) ≡ whole → new ≡ mid ++ f x
    → new ++ flat_map f (range_with_len (x + 1) (n - (x + 1))) ≡ whole
text-next f x n mid new whole lt so is =
    ap (λ (l : List ℕ). l ++ flat_map f (range_with_len (x + 1) (n - (x + 1)))) is
    ∙ (append_assoc mid (f x) (flat_map f (range_with_len (x + 1) (n - (x + 1))))
    ∙ (ap (λ (l : List ℕ). mid ++ flat_map f l) (sym (range-next x n lt)) ∙ so))

pub text-end : (f : ℕ → List ℕ) (x n : ℕ) (mid whole : List ℕ) → n ≤ x → mid ++ flat_map f (range_with_len x (n - x)) ≡ whole → mid ≡ whole
text-end f x n mid whole le so = sym (append-nil mid) ∙ (ap (λ (l : List ℕ). mid ++ flat_map f l) (sym (range-none x n le)) ∙ so)

-- ---- violations

pub first-init : (f : ℕ → Option Violation) (n : ℕ) → first_of (map f (range_with_len 1 (n + 1 - 1))) ≡ first_of (map f (range_with_len 1 n))
first-init f n = let e : n + 1 - 1 ≡ n = omega arith in ap (λ (k : ℕ). first_of (map f (range_with_len 1 k))) e

first-split : (f : ℕ → Option Violation) (t n : ℕ) (whole : Option Violation) → t < n → first_of (map f (range_with_len t (n - t))) ≡ whole
    → option_or (f t) (first_of (map f (range_with_len (t + 1) (n - (t + 1))))) ≡ whole
first-split f t n whole lt so = ap (λ (l : List ℕ). first_of (map f l)) (sym (range-next t n lt)) ∙ so

pub first-here : (f : ℕ → Option Violation) (t n : ℕ) (whole : Option Violation) (v : Violation) → t < n → first_of (map f (range_with_len t (n - t))) ≡ whole → Some v ≡ f t → Some v ≡ whole
first-here f t n whole v lt so here = ap (λ (o : Option Violation). option_or o (first_of (map f (range_with_len (t + 1) (n - (t + 1)))))) here ∙ first-split f t n whole lt so

pub first-past : (f : ℕ → Option Violation) (t n : ℕ) (whole : Option Violation) → t < n → first_of (map f (range_with_len t (n - t))) ≡ whole → None ≡ f t
    → first_of (map f (range_with_len (t + 1) (n - (t + 1)))) ≡ whole
first-past f t n whole lt so here = ap (λ (o : Option Violation). option_or o (first_of (map f (range_with_len (t + 1) (n - (t + 1)))))) here ∙ first-split f t n whole lt so

pub first-end : (f : ℕ → Option Violation) (t n : ℕ) (whole : Option Violation) → n ≤ t → first_of (map f (range_with_len t (n - t))) ≡ whole → None ≡ whole
first-end f t n whole le so = ap (λ (l : List ℕ). first_of (map f l)) (sym (range-none t n le)) ∙ so
