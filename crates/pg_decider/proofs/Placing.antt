use Rattle.std.proofs.Common.{◌≡◌, ℕ, ◌+◌, ◌/◌, ◌<◌, true, List, [], ◌∷◌, length, set, sym, ap, subst, ◌∙◌, arith, inl, inr}
use Rattle.std.proofs.lemmas.Bool.{cases_eq, cases_lt}
use Rattle.std.proofs.lemmas.List.{get_or-set_same, get_or-set_other, length-set, get_or_past}
use Rattle.pg_region.specs.Literal.{Literal}
use Rattle.pg_region.specs.Region.{clause_at}
use Rattle.pg_decider.specs.Assignment.{on}
use Rattle.pg_decider.specs.Chains.{chain, times}
use Rattle.pg_decider.specs.Trail.{lit, none}
use Rattle.pg_decider.specs.Watch.{place, Placed}
use Rattle.pg_decider.specs.Weigh.{occurs}
use Rattle.pg_decider.proofs.Weighing.{occurs-here, occurs-other, weigh-at}

-- what stands in chain k after a write to chain m
pub chain-here : (ls : List (List ℕ)) (m : ℕ) (xs : List ℕ) → m < length ls → chain (set ls m xs) m ≡ xs
chain-here ls m xs lt = get_or-set_same ls m xs [] lt

pub chain-there : (ls : List (List ℕ)) (m k : ℕ) (xs : List ℕ) → (k ≡ m → ⊥) → chain (set ls m xs) k ≡ chain ls k
chain-there ls m k xs ne = get_or-set_other ls m k xs [] ne

pub times-at : (ls : List (List ℕ)) (x k : ℕ) → times x ls ≡ 0 → occurs x (chain ls k) ≡ 0
times-at ls x k out = elim (cases_lt k (length ls)) [
  | inl lt ↦ omega (arith, weigh-at (occurs x) ls k [] lt)
  | inr le ↦ ap (occurs x) (get_or_past ls k [] le)
]

pub placed-detached : (cs : List (List Literal)) (ws : List Literal) (ls : List (List ℕ)) (f g n : ℕ) → Placed cs ws ls g n → chain ls 0 ≡ [] → 0 < f → f < length ls →
    Placed cs ws (set (set ls 0 (chain ls f)) f []) f n
placed-detached cs ws ls f g n r empty pos lt =
    let l1 = set ls 0 (chain ls f) in
    let lt1 : f < length l1 = omega (arith, length-set ls 0 (chain ls f)) in
    let first : chain (set l1 f []) 0 ≡ chain ls f = chain-there l1 f 0 [] (λ e. omega arith) ∙ chain-here ls 0 (chain ls f) (omega arith) in
    let gone : chain (set l1 f []) f ≡ [] = chain-here l1 f [] lt1 in
    let rest : (k : ℕ) → 0 < k → (k ≡ f → ⊥) → chain (set l1 f []) k ≡ chain ls k = λ k kpos ne. chain-there l1 f k [] ne ∙ chain-there ls 0 k (chain ls f) (λ e. omega arith) in
    record {
      has = r.has;
      sound = λ x m mpos h. elim (cases_eq m f) [
        | inl e ↦ absurd (let z : occurs x (chain (set l1 f []) m) ≡ 0 = ap (occurs x) (ap (λ (k : ℕ). chain (set l1 f []) k) e ∙ gone) in omega arith)
        | inr e ↦ r.sound x m mpos (omega (arith, ap (occurs x) (rest m mpos e)))
      ];
      late = λ x h. r.sound x f pos (omega (arith, ap (occurs x) first));
      full = λ x xlt ne. elim (cases_eq (place (lit ws x)) f) [
        | inl e ↦ omega (arith, r.full x xlt ne, ap (occurs x) first, ap (occurs x) empty, ap (λ (k : ℕ). occurs x (chain ls k)) e)
        | inr e ↦ elim (cases_eq (place (lit ws x)) 0) [
          | inl z ↦ omega (arith, r.full x xlt ne, ap (λ (k : ℕ). occurs x (chain ls k)) z, ap (occurs x) empty)
          | inr z ↦ omega (arith, r.full x xlt ne, ap (occurs x) (rest (place (lit ws x)) (omega arith) e), ap (occurs x) empty)
        ]
      ];
    }

pub placed-popped : (cs : List (List Literal)) (ws : List Literal) (ls : List (List ℕ)) (f x : ℕ) (xs : List ℕ) → Placed cs ws ls f (length ws) → 0 < length ls → chain ls 0 ≡ x ∷ xs →
    Placed cs ws (set ls 0 xs) f x
placed-popped cs ws ls f x xs r pos is =
    let first : chain (set ls 0 xs) 0 ≡ xs = chain-here ls 0 xs pos in
    record {
      has = r.has;
      sound = λ y m mpos h. r.sound y m mpos (omega (arith, ap (occurs y) (chain-there ls 0 m xs (λ e. omega arith))));
      late = λ y h. r.late y (omega (arith, ap (occurs y) first, ap (occurs y) is));
      full = λ y ylt ne.
          let p = place (lit ws y) in
          let f1 = r.full y ylt (λ e. omega arith) in
          let o = occurs-other y x xs (λ e. ne (sym e)) in
          elim (cases_eq p 0) [
            | inl z ↦ omega (arith, f1, o, ap (occurs y) first, ap (occurs y) is, ap (λ (k : ℕ). occurs y (chain ls k)) z)
            | inr z ↦ omega (arith, f1, o, ap (occurs y) first, ap (occurs y) is, ap (occurs y) (chain-there ls 0 p xs z))
          ];
    }

pub placed-pushed : (cs : List (List Literal)) (ws : List Literal) (ls : List (List ℕ)) (f x m : ℕ) → Placed cs ws ls f x → x < length ws → m ≡ place (lit ws x) → 0 < m → m < length ls →
    Placed cs ws (set ls m (x ∷ chain ls m)) f (length ws)
placed-pushed cs ws ls f x m r xlt is pos lt =
    let here : chain (set ls m (x ∷ chain ls m)) m ≡ x ∷ chain ls m = chain-here ls m (x ∷ chain ls m) lt in
    let first : chain (set ls m (x ∷ chain ls m)) 0 ≡ chain ls 0 = chain-there ls m 0 (x ∷ chain ls m) (λ e. omega arith) in
    record {
      has = r.has;
      sound = λ y k kpos h. elim (cases_eq k m) [
        | inl e ↦ elim (cases_eq x y) [
          | inl s ↦ (omega arith, ap (λ (z : ℕ). place (lit ws z)) (sym s) ∙ (sym is ∙ sym e))
          | inr s ↦ r.sound y k kpos (omega (arith, ap (occurs y) (ap (λ (z : ℕ). chain (set ls m (x ∷ chain ls m)) z) e ∙ here), occurs-other y x (chain ls m) s, ap (λ (z : ℕ). occurs y (chain ls z)) e))
        ]
        | inr e ↦ r.sound y k kpos (omega (arith, ap (occurs y) (chain-there ls m k (x ∷ chain ls m) e)))
      ];
      late = λ y h. r.late y (omega (arith, ap (occurs y) first));
      full = λ y ylt ne. elim (cases_eq x y) [
        | inl s ↦
            let e : chain (set ls m (x ∷ chain ls m)) (place (lit ws y)) ≡ x ∷ chain ls m = ap (λ (z : ℕ). chain (set ls m (x ∷ chain ls m)) z) (ap (λ (z : ℕ). place (lit ws z)) (sym s) ∙ sym is) ∙ here in
            omega (arith, ap (occurs y) e, subst (λ (z : ℕ). occurs z (x ∷ chain ls m) ≡ 1 + occurs z (chain ls m)) s (occurs-here x (chain ls m)))
        | inr s ↦ elim (cases_eq (place (lit ws y)) m) [
          | inl e ↦ omega (arith, r.full y ylt (λ z. s (sym z)), ap (occurs y) (ap (λ (z : ℕ). chain (set ls m (x ∷ chain ls m)) z) e ∙ here), occurs-other y x (chain ls m) s, ap (λ (z : ℕ). occurs y (chain ls z)) e, ap (occurs y) first)
          | inr e ↦ omega (arith, r.full y ylt (λ z. s (sym z)), ap (occurs y) (chain-there ls m (place (lit ws y)) (x ∷ chain ls m) e), ap (occurs y) first)
        ]
      ];
    }

pub placed-moved : (cs : List (List Literal)) (ws : List Literal) (ls : List (List ℕ)) (f x : ℕ) (m : Literal) → Placed cs ws ls f x → x < length ws → ((k : ℕ) → occurs x (chain ls k) ≡ 0) →
    on (clause_at cs (x / 2)) m ≡ true → Placed cs (set ws x m) ls f x
placed-moved cs ws ls f x m r xlt out on-m =
    let long = length-set ws x m in
    let there : (y : ℕ) → (y ≡ x → ⊥) → lit (set ws x m) y ≡ lit ws y = λ y ne. get_or-set_other ws x y m none ne in
    let other : (y k : ℕ) → 0 < occurs y (chain ls k) → y ≡ x → ⊥ = λ y k h e. let z : occurs y (chain ls k) ≡ 0 = ap (λ (w : ℕ). occurs w (chain ls k)) e ∙ out k in omega arith in
    record {
      has = λ y ylt. elim (cases_eq y x) [
        | inl e ↦ subst (λ (z : ℕ). on (clause_at cs (z / 2)) (lit (set ws x m) z) ≡ true) (sym e)
            (subst (λ (l : Literal). on (clause_at cs (x / 2)) l ≡ true) (sym (get_or-set_same ws x m none xlt)) on-m)
        | inr e ↦ subst (λ (l : Literal). on (clause_at cs (y / 2)) l ≡ true) (sym (there y e)) (r.has y (omega arith))
      ];
      sound = λ y k kpos h. let s = r.sound y k kpos h in (omega (arith, s.0), ap place (there y (other y k h)) ∙ s.1);
      late = λ y h. let s = r.late y h in (omega (arith, s.0), ap place (there y (other y 0 h)) ∙ s.1);
      full = λ y ylt ne. omega (arith, r.full y (omega arith) ne, ap (λ (l : Literal). occurs y (chain ls (place l))) (there y ne));
    }
