use Rattle.std.proofs.Common.{◌≡◌, ℕ, ◌+◌, ◌-◌, ◌*◌, ◌/◌, ◌%◌, ◌<◌, ◌==◌, Bool, true, false, cond, List, [], ◌∷◌, length, set, refl, sym, ap, subst, ◌∙◌, arith, inl, inr, ◌⊎◌}
use Rattle.std.proofs.lemmas.Bool.{cases_eq, eqb-true, eqb-false, eq-eqb, ne_eqb, both_ways}
use Rattle.std.proofs.lemmas.List.{get_or-set_same, get_or-set_other, length-set}
use Rattle.pg_region.specs.Literal.{Literal, same, negated}
use Rattle.pg_region.specs.Region.{clause_at}
use Rattle.pg_decider.specs.Assignment.{on, added, Within, Forces, AreFalse, IsClosed}
use Rattle.pg_decider.specs.Trail.{lit, none}
use Rattle.pg_decider.specs.Watch.{other, Watching, Watched}
use Rattle.pg_decider.specs.Weigh.{occurs}
use Rattle.pg_decider.proofs.Weighing.{occurs-other}
use Rattle.pg_decider.proofs.Literals.{same-cases, same-not, negated-negated, added-cases}

-- the two slots of a clause
pub record Others (x : ℕ) : Type 0 where
  pub back : other (other x) ≡ x
  pub apart : other x ≡ x → ⊥
  pub half : other x / 2 ≡ x / 2
  pub within : (n : ℕ) → x < 2 * n → other x < 2 * n

pub others : (x : ℕ) → Others x
others x = go x (x % 2 == 0) refl
  where
    even : (x : ℕ) → x % 2 ≡ 0 → other x ≡ x + 1
    even x h = ap (λ (b : Bool). cond b (x + 1) (x - 1)) (eq-eqb (x % 2) 0 h)

    odd : (x : ℕ) → (x % 2 ≡ 0 → ⊥) → other x ≡ x - 1
    odd x h = ap (λ (b : Bool). cond b (x + 1) (x - 1)) (ne_eqb (x % 2) 0 h)

    go : (x : ℕ) (b : Bool) → (x % 2 == 0) ≡ b → Others x
    go x true h =
        let e = eqb-true (x % 2) 0 h in
        let o = even x e in
        let p : (x + 1) % 2 ≡ 0 → ⊥ = λ z. omega arith in
        record {
          back = ap other o ∙ (odd (x + 1) p ∙ omega arith);
          apart = λ z. omega arith;
          half = ap (λ (n : ℕ). n / 2) o ∙ omega arith;
          within = λ n l. omega arith;
        }
    go x false h =
        let e = eqb-false (x % 2) 0 h in
        let o = odd x e in
        let p : (x - 1) % 2 ≡ 0 = omega arith in
        record {
          back = ap other o ∙ (even (x - 1) p ∙ omega arith);
          apart = λ z. omega arith;
          half = ap (λ (n : ℕ). n / 2) o ∙ omega arith;
          within = λ n l. omega arith;
        }

pub watching-more : (cs : List (List Literal)) (ws : List Literal) (late : List ℕ) (p s s' : Literal → Bool) (but : ℕ) → Watching cs ws late p s but → Within s s' → Watching cs ws late p s' but
watching-more cs ws late p s s' but w sub = record {
  one = λ x m lt e h. sub m (w.one x m lt e h);
  held = λ x lt ne out h. sub (lit ws (other x)) (w.held x lt ne out h);
}

pub watching-visited : (cs : List (List Literal)) (ws : List Literal) (late : List ℕ) (p s : Literal → Bool) (x : ℕ) → Watching cs ws late p s x → s (lit ws (other x)) ≡ true → Watching cs ws late p s (length ws)
watching-visited cs ws late p s x w here = record {
  one = w.one;
  held = λ y lt ne out h. elim (cases_eq y x) [
    | inl e ↦ subst (λ (z : ℕ). s (lit ws (other z)) ≡ true) (sym e) here
    | inr e ↦ w.held y lt e out h
  ];
}

pub watching-popped : (cs : List (List Literal)) (ws : List Literal) (late : List ℕ) (p s : Literal → Bool) (x : ℕ) → Watching cs ws (x ∷ late) p s (length ws) → Watching cs ws late p s x
watching-popped cs ws late p s x w = record {
  one = w.one;
  held = λ y lt ne out h. w.held y lt (λ e. omega arith) (occurs-other y x late (λ e. ne (sym e)) ∙ out) h;
}

-- the literals that f falsifies come to those that were gone through, and the slots of f are late
pub watching-start : (cs : List (List Literal)) (ws : List Literal) (late : List ℕ) (p s : Literal → Bool) (f : Literal) → Watching cs ws [] p s (length ws) →
    ((x : ℕ) → x < length ws → lit ws x ≡ f → 0 < occurs x late) → Watching cs ws late (added (negated f) p) s (length ws)
watching-start cs ws late p s f w all = record {
  one = w.one;
  held = λ x lt ne out h. elim (added-cases (negated f) (negated (lit ws x)) p h) [
    | inl e ↦ absurd (
        let e2 : lit ws x ≡ f = sym (negated-negated (lit ws x)) ∙ (ap negated (sym e) ∙ negated-negated f) in
        let some : 0 < occurs x late = all x lt e2 in
        omega arith)
    | inr e ↦ w.held x lt ne refl e
  ];
}

-- a watch that is false in a set moves to a literal that is not: this stays true of each set within that one
pub watching-moved : (cs : List (List Literal)) (ws : List Literal) (late : List ℕ) (p s v : Literal → Bool) (but but' x : ℕ) (m : Literal) →
    Watching cs ws late p s but → Within p v → Within s v → ((l : Literal) → v l ≡ true → v (negated l) ≡ true → ⊥) →
    x < length ws → v (negated (lit ws x)) ≡ true → v (negated m) ≡ false → same m (lit ws (other x)) ≡ false →
    ((y : ℕ) → y < length ws → (y ≡ x → ⊥) → y ≡ but → ⊥) → Watching cs (set ws x m) late p s but'
watching-moved cs ws late p s v but but' x m w pv sv calm lt wrong unknown apart away = record {
  one = λ y l ylt e h. let ylt2 : y < length ws = omega (arith, length-set ws x m) in go-one y l ylt2 (cases_eq y x) (cases_eq (other y) x) e h;
  held = λ y ylt ne out h. let ylt2 : y < length ws = omega (arith, length-set ws x m) in go-held y ylt2 (cases_eq y x) (cases_eq (other y) x) out h;
}
  where
    here : lit (set ws x m) x ≡ m
    here = get_or-set_same ws x m none lt

    there : (y : ℕ) → (y ≡ x → ⊥) → lit (set ws x m) y ≡ lit ws y
    there y ne = get_or-set_other ws x y m none ne

    not-one : lit ws (other x) ≡ m → ⊥
    not-one e = same-not m (lit ws (other x)) apart (sym e)

    go-one : (y : ℕ) (l : Literal) → y < length ws → (y ≡ x) ⊎ (y ≡ x → ⊥) → (other y ≡ x) ⊎ (other y ≡ x → ⊥) → lit (set ws x m) y ≡ lit (set ws x m) (other y) → on (clause_at cs (y / 2)) l ≡ true → s l ≡ true
    go-one y l ylt (inl a) b e h = absurd (
        let e2 : lit (set ws x m) x ≡ lit (set ws x m) (other x) = subst (λ (z : ℕ). lit (set ws x m) z ≡ lit (set ws x m) (other z)) a e in
        not-one (sym (there (other x) (others x).apart) ∙ (sym e2 ∙ here)))
    go-one y l ylt (inr a) (inl b) e h = absurd (
        let yx : other x ≡ y = ap other (sym b) ∙ (others y).back in
        not-one (ap (λ (z : ℕ). lit ws z) yx ∙ (sym (there y a) ∙ (e ∙ (ap (λ (z : ℕ). lit (set ws x m) z) b ∙ here)))))
    go-one y l ylt (inr a) (inr b) e h = w.one y l ylt (sym (there y a) ∙ (e ∙ there (other y) b)) h

    go-held : (y : ℕ) → y < length ws → (y ≡ x) ⊎ (y ≡ x → ⊥) → (other y ≡ x) ⊎ (other y ≡ x → ⊥) → occurs y late ≡ 0 → p (negated (lit (set ws x m) y)) ≡ true → s (lit (set ws x m) (other y)) ≡ true
    go-held y ylt (inl a) b out h = absurd (
        both_ways (v (negated m)) unknown (pv (negated m) (subst (λ (z : Literal). p (negated z) ≡ true) (ap (λ (z : ℕ). lit (set ws x m) z) a ∙ here) h)))
    go-held y ylt (inr a) (inl b) out h = absurd (
        let held : s (lit ws (other y)) ≡ true = w.held y ylt (away y ylt a) out (subst (λ (z : Literal). p (negated z) ≡ true) (there y a) h) in
        let held2 : s (lit ws x) ≡ true = subst (λ (z : ℕ). s (lit ws z) ≡ true) b held in
        calm (lit ws x) (sv (lit ws x) held2) wrong)
    go-held y ylt (inr a) (inr b) out h =
        subst (λ (z : Literal). s z ≡ true) (sym (there (other y) b)) (w.held y ylt (away y ylt a) out (subst (λ (z : Literal). p (negated z) ≡ true) (there y a) h))

-- the slots 2 k and 2 k + 1
pub twice : (k : ℕ) → (other (2 * k) ≡ 2 * k + 1) × ((2 * k) / 2 ≡ k)
twice k = (ap (λ (b : Bool). cond b (2 * k + 1) (2 * k - 1)) (eq-eqb ((2 * k) % 2) 0 (omega arith)), omega arith)

pub watched-closed : (cs : List (List Literal)) (ws : List Literal) (s : Literal → Bool) → Watched cs ws s → ((l : Literal) → s l ≡ true → s (negated l) ≡ true → ⊥) →
    length ws ≡ 2 * length cs → ((x : ℕ) → x < length ws → on (clause_at cs (x / 2)) (lit ws x) ≡ true) → IsClosed cs s
watched-closed cs ws s w calm size has = record { each = λ k l lt f. go k l lt f (same-cases (lit ws (2 * k)) l) (same-cases (lit ws (other (2 * k))) l) }
  where
    go : (k : ℕ) (l : Literal) → k < length cs → Forces s (clause_at cs k) l → (lit ws (2 * k) ≡ l) ⊎ (same (lit ws (2 * k)) l ≡ false) → (lit ws (other (2 * k)) ≡ l) ⊎ (same (lit ws (other (2 * k))) l ≡ false) → s l ≡ true
    go k l lt f (inl a) (inl b) =
        w.one (2 * k) l (omega arith) (a ∙ sym b) (subst (λ (n : ℕ). on (clause_at cs n) l ≡ true) (sym (twice k).1) f.has)
    go k l lt f (inl a) (inr b) =
        let o = others (2 * k) in
        let y = other (2 * k) in
        let ylt : y < length ws = subst (λ (n : ℕ). y < n) (sym size) (o.within (length cs) (omega arith)) in
        let on-y : on (clause_at cs k) (lit ws y) ≡ true = subst (λ (n : ℕ). on (clause_at cs n) (lit ws y) ≡ true) (o.half ∙ (twice k).1) (has y ylt) in
        subst (λ (z : Literal). s z ≡ true) (ap (λ (n : ℕ). lit ws n) o.back ∙ a) (w.held y ylt (λ e. omega arith) refl (f.others (lit ws y) on-y b))
    go k l lt f (inr a) (inl b) =
        let on-x : on (clause_at cs k) (lit ws (2 * k)) ≡ true = subst (λ (n : ℕ). on (clause_at cs n) (lit ws (2 * k)) ≡ true) (twice k).1 (has (2 * k) (omega arith)) in
        subst (λ (z : Literal). s z ≡ true) b (w.held (2 * k) (omega arith) (λ e. omega arith) refl (f.others (lit ws (2 * k)) on-x a))
    go k l lt f (inr a) (inr b) = absurd (
        let o = others (2 * k) in
        let y = other (2 * k) in
        let ylt : y < length ws = subst (λ (n : ℕ). y < n) (sym size) (o.within (length cs) (omega arith)) in
        let on-x : on (clause_at cs k) (lit ws (2 * k)) ≡ true = subst (λ (n : ℕ). on (clause_at cs n) (lit ws (2 * k)) ≡ true) (twice k).1 (has (2 * k) (omega arith)) in
        let on-y : on (clause_at cs k) (lit ws y) ≡ true = subst (λ (n : ℕ). on (clause_at cs n) (lit ws y) ≡ true) (o.half ∙ (twice k).1) (has y ylt) in
        calm (lit ws y) (w.held (2 * k) (omega arith) (λ e. omega arith) refl (f.others (lit ws (2 * k)) on-x a)) (f.others (lit ws y) on-y b))

pub watched-calm : (cs : List (List Literal)) (ws : List Literal) (s : Literal → Bool) (k : ℕ) → Watched cs ws s → ((l : Literal) → s l ≡ true → s (negated l) ≡ true → ⊥) →
    length ws ≡ 2 * length cs → ((x : ℕ) → x < length ws → on (clause_at cs (x / 2)) (lit ws x) ≡ true) → k < length cs → AreFalse s (clause_at cs k) → ⊥
watched-calm cs ws s k w calm size has lt f =
    let o = others (2 * k) in
    let y = other (2 * k) in
    let ylt : y < length ws = subst (λ (n : ℕ). y < n) (sym size) (o.within (length cs) (omega arith)) in
    let on-x : on (clause_at cs k) (lit ws (2 * k)) ≡ true = subst (λ (n : ℕ). on (clause_at cs n) (lit ws (2 * k)) ≡ true) (twice k).1 (has (2 * k) (omega arith)) in
    let on-y : on (clause_at cs k) (lit ws y) ≡ true = subst (λ (n : ℕ). on (clause_at cs n) (lit ws y) ≡ true) (o.half ∙ (twice k).1) (has y ylt) in
    calm (lit ws y) (w.held (2 * k) (omega arith) (λ e. omega arith) refl (f.each (lit ws (2 * k)) on-x)) (f.each (lit ws y) on-y)
