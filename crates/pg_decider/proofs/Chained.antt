use Rattle.std.proofs.Common.{◌≡◌, ℕ, zero, suc, ◌+◌, ◌<◌, ◌≤◌, List, [], ◌∷◌, length, get_or, set, map, refl, ap, subst, ◌∙◌, arith, inl, inr, replicate}
use Rattle.std.proofs.lemmas.Bool.{cases_eq, cases_lt}
use Rattle.std.proofs.lemmas.List.{get_or-set_other, length-set}
use Rattle.pg_decider.specs.Chains.{walk, chain, held, times, AreChains}
use Rattle.pg_decider.specs.Weigh.{weigh, occurs}
use Rattle.pg_decider.proofs.Weighing.{weigh-set, weigh-none, occurs-here, occurs-other}

pub length-walk : (next : List ℕ) (n h : ℕ) → length (walk next n h) ≡ n
length-walk next zero h = refl
length-walk next (suc n) h = ap suc (length-walk next n (get_or next h 0))

-- a walk that doesn't meet x doesn't read what stands there
pub walk-set : (next : List ℕ) (x v n h : ℕ) → occurs x (walk next n h) ≡ 0 → walk (set next x v) n h ≡ walk next n h
walk-set next x v zero h out = refl
walk-set next x v (suc n) h out = elim (cases_eq h x) [
  | inl is ↦ absurd (
      let e : occurs x (walk next (suc n) h) ≡ 1 + occurs x (walk next n (get_or next h 0)) = subst (λ (y : ℕ). occurs y (walk next (suc n) h) ≡ 1 + occurs y (walk next n (get_or next h 0))) is (occurs-here h (walk next n (get_or next h 0))) in
      omega arith)
  | inr other ↦
      let e = occurs-other x h (walk next n (get_or next h 0)) other in
      let rest = walk-set next x v n (get_or next h 0) (omega arith) in
      ap (λ (m : ℕ). h ∷ walk (set next x v) n m) (get_or-set_other next x h v 0 other) ∙ ap (λ (l : List ℕ). h ∷ l) rest
]

pub walks-set : {A : Type 0} (size head : A → ℕ) (next : List ℕ) (x v : ℕ) (ss : List A) → times x (map (λ (s : A). walk next (size s) (head s)) ss) ≡ 0 →
    map (λ (s : A). walk (set next x v) (size s) (head s)) ss ≡ map (λ (s : A). walk next (size s) (head s)) ss
walks-set size head next x v [] out = refl
walks-set size head next x v (s ∷ ss) out =
    ap (λ (l : List ℕ). l ∷ map (λ s. walk (set next x v) (size s) (head s)) ss) (walk-set next x v (size s) (head s) (omega arith))
    ∙ ap (λ (l : List (List ℕ)). walk next (size s) (head s) ∷ l) (walks-set size head next x v ss (omega arith))

pub chains-none : (n slots : ℕ) → AreChains (replicate n []) slots
chains-none n slots = record {
  once = λ x. omega (arith, weigh-none (occurs x) n [] refl);
  within = λ x h. weigh-none (occurs x) n [] refl;
  few = omega (arith, weigh-none {A = List ℕ} length n [] refl);
}

-- the first slot of chain m goes
pub chains-popped : (ls : List (List ℕ)) (slots m x : ℕ) (xs : List ℕ) → AreChains ls slots → m < length ls → chain ls m ≡ x ∷ xs →
    AreChains (set ls m xs) slots × (times x (set ls m xs) ≡ 0) × (x < slots) × (held (set ls m xs) < slots)
chains-popped ls slots m x xs r lt is =
    let weight : (y : ℕ) → times y (set ls m xs) + occurs y (x ∷ xs) ≡ times y ls + occurs y xs = λ y. subst (λ (l : List ℕ). times y (set ls m xs) + occurs y l ≡ times y ls + occurs y xs) is (weigh-set (occurs y) ls m xs [] lt) in
    let long : held (set ls m xs) + length (x ∷ xs) ≡ held ls + length xs = subst (λ (l : List ℕ). held (set ls m xs) + length l ≡ held ls + length xs) is (weigh-set length ls m xs [] lt) in
    let here = occurs-here x xs in (
      record {
        once = λ y. omega (arith, weight y, r.once y);
        within = λ y h. omega (arith, weight y, r.within y h);
        few = omega (arith, long, r.few);
      },
      omega (arith, weight x, here, r.once x),
      slot-below ls slots x r (omega (arith, weight x, here)),
      omega (arith, long, r.few),
    )
  where
    slot-below : (ls : List (List ℕ)) (slots x : ℕ) → AreChains ls slots → 0 < times x ls → x < slots
    slot-below ls slots x r h = elim (cases_lt x slots) [
      | inl lt ↦ lt
      | inr le ↦ absurd (omega (arith, r.within x le))
    ]

pub chains-pushed : (ls : List (List ℕ)) (slots m x : ℕ) → AreChains ls slots → m < length ls → times x ls ≡ 0 → x < slots → held ls < slots →
    AreChains (set ls m (x ∷ chain ls m)) slots
chains-pushed ls slots m x r lt out slot room =
    let weight : (y : ℕ) → times y (set ls m (x ∷ chain ls m)) ≡ times y ls + (occurs y (x ∷ [])) = λ y. omega (arith, weigh-set (occurs y) ls m (x ∷ chain ls m) [] lt) in
    let long = weigh-set length ls m (x ∷ chain ls m) [] lt in
    record {
      once = λ y. elim (cases_eq x y) [
        | inl is ↦ subst (λ (z : ℕ). times z (set ls m (x ∷ chain ls m)) ≤ 1) is (omega (arith, weight x, occurs-here x [], out))
        | inr other ↦ omega (arith, weight y, occurs-other y x [] other, r.once y)
      ];
      within = λ y h. omega (arith, weight y, occurs-other y x [] (λ e. omega arith), r.within y h);
      few = omega (arith, long, room);
    }

pub chains-moved : (ls : List (List ℕ)) (slots m : ℕ) → AreChains ls slots → 0 < m → m < length ls → chain ls 0 ≡ [] →
    AreChains (set (set ls 0 (chain ls m)) m []) slots
chains-moved ls slots m r pos lt empty =
    let moved = set ls 0 (chain ls m) in
    let lt2 : m < length moved = omega (arith, length-set ls 0 (chain ls m)) in
    let same : chain moved m ≡ chain ls m = get_or-set_other ls 0 m (chain ls m) [] (λ e. omega arith) in
    let weight : (w : List ℕ → ℕ) → w [] ≡ 0 → weigh w (set moved m []) ≡ weigh w ls = λ w z.
    omega (arith, weigh-set w moved m [] [] lt2, weigh-set w ls 0 (chain ls m) [] (omega arith), ap w same, ap w empty) in
    record {
      once = λ x. omega (arith, weight (occurs x) refl, r.once x);
      within = λ x h. omega (arith, weight (occurs x) refl, r.within x h);
      few = omega (arith, weight length refl, r.few);
    }
