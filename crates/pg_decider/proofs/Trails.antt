use Rattle.std.proofs.Common.{◌≡◌, ℕ, zero, suc, ◌+◌, ◌-◌, ◌<◌, ◌≤◌, ◌==◌, Bool, true, false, not, ◌||◌, List, [], ◌∷◌, ◌++◌, length, get_or, set, take, refl, sym, ap, subst, ◌∙◌, arith, inl, inr, ◌⊎◌, replicate, ◌^◌}
use Rattle.std.proofs.lemmas.Bool.{cases_eq, cases_lt, eqb-true, eqb-false, eq-eqb, both_ways, or_right, or_from, false_from_ne_true}
use Rattle.std.proofs.lemmas.List.{get_or-set_same, get_or-set_other, length-set, take-append-le, take_all, get_or_append_left, get_or_push, length_push, get_or-replicate, length-replicate, get_or_past}
use Rattle.pg_region.specs.Literal.{Literal, same, negated}
use Rattle.pg_decider.specs.Assignment.{on}
use Rattle.pg_decider.specs.Trail.{lit, none, IsTrail, AreValues, code, zeros, unset}
use Rattle.pg_decider.proofs.Weighing.{weigh-set, weigh-at}
use Rattle.pg_decider.proofs.Literals.{same_parts, same-from, negated-other, negated-negated, on-push, added-cases, added-here}

zero-value : (v : ℕ) (b : Bool) → v ≤ 2 → (v == code b) ≡ false → (v == code (not b)) ≡ false → v ≡ 0
zero-value v true le a b = let x = eqb-false v 1 a in let y = eqb-false v 2 b in omega arith
zero-value v false le a b = let x = eqb-false v 2 a in let y = eqb-false v 1 b in omega arith

code-other : (b : Bool) → (code b == code (not b)) ≡ false
code-other true = refl
code-other false = refl

code-zero : (b : Bool) → (0 == code b) ≡ false
code-zero true = refl
code-zero false = refl

code-weight : (b : Bool) → zeros (code b) ≡ 0
code-weight true = refl
code-weight false = refl

code-le : (b : Bool) → code b ≤ 2
code-le true = omega arith
code-le false = omega arith

sign-cases : (a b : Bool) → (a ≡ b) ⊎ (a ≡ not b)
sign-cases true true = inl refl
sign-cases true false = inr refl
sign-cases false true = inr refl
sign-cases false false = inl refl

atom-cases : (m l : Literal) → m.atom ≡ l.atom → (m ≡ l) ⊎ (m ≡ negated l)
atom-cases m l e = elim (sign-cases m.positive l.positive) [
  | inl s ↦ inl (same_parts m l e s)
  | inr s ↦ inr (same_parts m (negated l) e s)
]

value-zero : (values : List ℕ) (t : List Literal) (room : ℕ) (l : Literal) → AreValues values t room → l.atom < length values → on t l ≡ false → on t (negated l) ≡ false → get_or values l.atom 0 ≡ 0
value-zero values t room l r lt free free2 = zero-value (get_or values l.atom 0) l.positive (r.low l.atom) (r.agrees l lt ∙ free) (r.agrees (negated l) lt ∙ free2)

pub trail-room : (values : List ℕ) (t : List Literal) (room : ℕ) (l : Literal) → AreValues values t room → l.atom < length values → on t l ≡ false → on t (negated l) ≡ false → length t < room
trail-room values t room l r lt free free2 =
    let z = value-zero values t room l r lt free free2 in
    omega (arith, r.counts, r.fits, weigh-at zeros values l.atom 0 lt, ap zeros z)

pub trail-below : (values : List ℕ) (t : List Literal) (room : ℕ) (l : Literal) → AreValues values t room → l.atom < length values → on t l ≡ false → on t (negated l) ≡ false → length t < length values
trail-below values t room l r lt free free2 =
    let z = value-zero values t room l r lt free free2 in
    omega (arith, r.counts, weigh-at zeros values l.atom 0 lt, ap zeros z)

pub trail-added : (values : List ℕ) (t : List Literal) (room : ℕ) (l : Literal) → AreValues values t room → l.atom < length values → on t l ≡ false → on t (negated l) ≡ false →
    AreValues (set values l.atom (code l.positive)) (t ++ l ∷ []) room
trail-added values t room l r lt free free2 = record {
  trail = subst (λ (n : ℕ). IsTrail (n - 1) (t ++ l ∷ [])) (sym long) (record {
    fresh = λ i m ilt h e. elim (cases_lt i (length t)) [
      | inl a ↦ r.trail.fresh i m a (subst (λ (ls : List Literal). on ls m ≡ true) (take-append-le i t (l ∷ []) (omega arith)) h) (e ∙ ap (λ (y : Literal). y.atom) (get_or_append_left t (l ∷ []) none i a))
      | inr a ↦
          let n : i ≡ length t = omega (arith, length_push t l) in
          let whole : take i (t ++ l ∷ []) ≡ t = take-append-le i t (l ∷ []) (omega arith) ∙ take_all i t (omega arith) in
          let last : lit (t ++ l ∷ []) i ≡ l = get_or_push t l none i (sym n) in
          not-on m (subst (λ (ls : List Literal). on ls m ≡ true) whole h) (atom-cases m l (e ∙ ap (λ (y : Literal). y.atom) last))
    ];
    calm = λ m h g. both m (added-cases l m (on t) (sym (on-push t l m) ∙ h)) (added-cases l (negated m) (on t) (sym (on-push t l (negated m)) ∙ g));
    over = λ m h. elim (added-cases l m (on t) (sym (on-push t l m) ∙ h)) [
      | inl e ↦ omega (arith, ap (λ (y : Literal). y.atom) e)
      | inr e ↦ r.trail.over m e
    ];
    few = omega (arith, length_push t l, r.counts, some, z1);
  });
  atoms = omega (arith, r.atoms, long);
  agrees = λ m mlt. elim (cases_eq m.atom l.atom) [
    | inl e ↦ here m e (atom-cases m l e)
    | inr e ↦ ap (λ (v : ℕ). v == code m.positive) (get_or-set_other values l.atom m.atom (code l.positive) 0 e)
        ∙ (r.agrees m (omega (arith, long)) ∙ sym (on-push t l m ∙ ap (λ (b : Bool). b || on t m) (same-from l m (λ s. e (ap (λ (y : Literal). y.atom) (sym s))))))
  ];
  low = λ i. elim (cases_eq i l.atom) [
    | inl e ↦ subst (λ (v : ℕ). v ≤ 2) (sym (ap (λ (n : ℕ). get_or (set values l.atom (code l.positive)) n 0) e ∙ get_or-set_same values l.atom (code l.positive) 0 lt)) (code-le l.positive)
    | inr e ↦ subst (λ (v : ℕ). v ≤ 2) (sym (get_or-set_other values l.atom i (code l.positive) 0 e)) (r.low i)
  ];
  counts = omega (arith, r.counts, length_push t l, long, weigh-set zeros values l.atom (code l.positive) 0 lt, z1, code-weight l.positive);
  fits = omega (arith, r.fits, long);
  small = omega (arith, r.small, long);
}
  where
    long : length (set values l.atom (code l.positive)) ≡ length values
    long = length-set values l.atom (code l.positive)

    z1 : zeros (get_or values l.atom 0) ≡ 1
    z1 = ap zeros (value-zero values t room l r lt free free2)

    some : zeros (get_or values l.atom 0) ≤ unset values
    some = weigh-at zeros values l.atom 0 lt

    not-on : (m : Literal) → on t m ≡ true → (m ≡ l) ⊎ (m ≡ negated l) → ⊥
    not-on m h (inl e) = both_ways (on t l) free (subst (λ (y : Literal). on t y ≡ true) e h)
    not-on m h (inr e) = both_ways (on t (negated l)) free2 (subst (λ (y : Literal). on t y ≡ true) e h)

    both : (m : Literal) → (l ≡ m) ⊎ (on t m ≡ true) → (l ≡ negated m) ⊎ (on t (negated m) ≡ true) → ⊥
    both m (inl a) (inl b) = negated-other m (sym a ∙ b)
    both m (inl a) (inr b) = not-on (negated m) b (inr (ap negated (sym a)))
    both m (inr a) (inl b) = not-on m a (inr (sym (ap negated b ∙ negated-negated m)))
    both m (inr a) (inr b) = r.trail.calm m a b

    here : (m : Literal) → m.atom ≡ l.atom → (m ≡ l) ⊎ (m ≡ negated l) → (get_or (set values l.atom (code l.positive)) m.atom 0 == code m.positive) ≡ on (t ++ l ∷ []) m
    here m e (inl s) =
        ap (λ (y : Literal). get_or (set values l.atom (code l.positive)) y.atom 0 == code y.positive) s
        ∙ (ap (λ (v : ℕ). v == code l.positive) (get_or-set_same values l.atom (code l.positive) 0 lt)
        ∙ (eq-eqb (code l.positive) (code l.positive) refl ∙ sym (ap (λ (y : Literal). on (t ++ l ∷ []) y) s ∙ (on-push t l l ∙ added-here l (on t)))))
    here m e (inr s) =
        ap (λ (y : Literal). get_or (set values l.atom (code l.positive)) y.atom 0 == code y.positive) s
        ∙ (ap (λ (v : ℕ). v == code (not l.positive)) (get_or-set_same values l.atom (code l.positive) 0 lt)
        ∙ (code-other l.positive ∙ sym (ap (λ (y : Literal). on (t ++ l ∷ []) y) s ∙ (on-push t l (negated l) ∙ or_from (same l (negated l)) (on t (negated l)) (same-from l (negated l) (negated-other l)) free2))))

pub trail-popped : (values : List ℕ) (t : List Literal) (room : ℕ) (l : Literal) → AreValues values (t ++ l ∷ []) room →
    (l.atom < length values) × AreValues (set values l.atom 0) t room
trail-popped values t room l r = (
  lt,
  record {
    trail = subst (λ (n : ℕ). IsTrail (n - 1) t) (sym long) (record {
      fresh = λ i m ilt h e. r.trail.fresh i m (omega (arith, length_push t l)) (subst (λ (ls : List Literal). on ls m ≡ true) (sym (take-append-le i t (l ∷ []) (omega arith))) h)
          (e ∙ sym (ap (λ (y : Literal). y.atom) (get_or_append_left t (l ∷ []) none i ilt)));
      calm = λ m h g. r.trail.calm m (up m h) (up (negated m) g);
      over = λ m h. r.trail.over m (up m h);
      few = omega (arith, r.trail.few, length_push t l);
    });
    atoms = omega (arith, r.atoms, long);
    agrees = λ m mlt. elim (cases_eq m.atom l.atom) [
      | inl e ↦ ap (λ (n : ℕ). get_or (set values l.atom 0) n 0 == code m.positive) e
          ∙ (ap (λ (v : ℕ). v == code m.positive) (get_or-set_same values l.atom 0 0 lt) ∙ (code-zero m.positive ∙ sym (false_from_ne_true (on t m) (λ h. alone m h e))))
      | inr e ↦ ap (λ (v : ℕ). v == code m.positive) (get_or-set_other values l.atom m.atom 0 0 e)
          ∙ (r.agrees m (omega (arith, long)) ∙ (on-push t l m ∙ ap (λ (b : Bool). b || on t m) (same-from l m (λ s. e (ap (λ (y : Literal). y.atom) (sym s))))))
    ];
    low = λ i. elim (cases_eq i l.atom) [
      | inl e ↦ subst (λ (v : ℕ). v ≤ 2) (sym (ap (λ (n : ℕ). get_or (set values l.atom 0) n 0) e ∙ get_or-set_same values l.atom 0 0 lt)) (omega arith)
      | inr e ↦ subst (λ (v : ℕ). v ≤ 2) (sym (get_or-set_other values l.atom i 0 0 e)) (r.low i)
    ];
    counts = omega (arith, r.counts, length_push t l, long, weigh-set zeros values l.atom 0 0 lt, z0);
    fits = omega (arith, r.fits, long);
    small = omega (arith, r.small, long);
  },
)
  where
    long : length (set values l.atom 0) ≡ length values
    long = length-set values l.atom 0

    up : (m : Literal) → on t m ≡ true → on (t ++ l ∷ []) m ≡ true
    up m h = on-push t l m ∙ or_right (same l m) (on t m) h

    top : on (t ++ l ∷ []) l ≡ true
    top = on-push t l l ∙ added-here l (on t)

    lt : l.atom < length values
    lt = omega (arith, r.trail.over l top, r.atoms)

    is-code : get_or values l.atom 0 ≡ code l.positive
    is-code = eqb-true (get_or values l.atom 0) (code l.positive) (r.agrees l lt ∙ top)

    z0 : zeros (get_or values l.atom 0) ≡ 0
    z0 = ap zeros is-code ∙ code-weight l.positive

    alone : (m : Literal) → on t m ≡ true → m.atom ≡ l.atom → ⊥
    alone m h e =
        let whole : take (length t) (t ++ l ∷ []) ≡ t = take-append-le (length t) t (l ∷ []) (omega arith) ∙ take_all (length t) t (omega arith) in
        r.trail.fresh (length t) m (omega (arith, length_push t l)) (subst (λ (ls : List Literal). on ls m ≡ true) (sym whole) h) (e ∙ sym (ap (λ (y : Literal). y.atom) (get_or_push t l none (length t) refl)))

unset-all : (k : ℕ) → unset (replicate k 0) ≡ k
unset-all zero = refl
unset-all (suc k) = omega (arith, unset-all k)

pub trail-made : (values : List ℕ) (n room : ℕ) → values ≡ replicate (n + 1) 0 → n + 1 ≤ room → n < 2 ^ 31 → AreValues values [] room
trail-made values n room e fit few = subst (λ (vs : List ℕ). AreValues vs [] room) (sym e) (record {
  trail = record {
    fresh = λ i l lt h a. absurd (omega arith);
    calm = λ l h g. both_ways false refl h;
    over = λ l h. absurd (both_ways false refl h);
    few = omega arith;
  };
  atoms = omega (arith, long);
  agrees = λ l lt. ap (λ (v : ℕ). v == code l.positive) (get_or-replicate (n + 1) l.atom 0 0 (omega (arith, long))) ∙ code-zero l.positive;
  low = λ i. small i (cases_lt i (n + 1));
  counts = omega (arith, long, unset-all (n + 1));
  fits = omega (arith, long);
  small = omega (arith, long);
})
  where
    long : length {A = ℕ} (replicate (n + 1) 0) ≡ n + 1
    long = length-replicate {A = ℕ} (n + 1) 0

    small : (i : ℕ) → (i < n + 1) ⊎ (n + 1 ≤ i) → get_or (replicate (n + 1) 0) i 0 ≤ 2
    small i (inl lt) = omega (arith, get_or-replicate {A = ℕ} (n + 1) i 0 0 lt)
    small i (inr le) = omega (arith, get_or_past {X = ℕ} (replicate (n + 1) 0) i 0 (omega (arith, long)))
