-- The tests of a leaf and of a split say what their definitions say.
use Rattle.std.proofs.Common.{◌≡◌, ℕ, ◌-◌, ◌≤◌, nat_le, Bool, true, false, not, cond, ◌&&◌, ◌||◌, Option, Some, None, List, [], ◌∷◌, length, refl, sym, ap, subst, ◌∙◌, inl, inr}
use Rattle.std.proofs.lemmas.Bool.{both_ways, and_parts, and_from, or_left, or_right, or_cases, le-leb, leb-true, not-true}
use Rattle.pg_region.specs.Literal.{Literal, same, negated}
use Rattle.pg_region.specs.Region.{clause_at}
use Rattle.pg_decider.specs.Assignment.{Assignment, on, added, IsUnit}
use Rattle.pg_decider.specs.Leaf.{IsLeaf}
use Rattle.pg_decider.specs.Split.{free, first_free}
use Rattle.pg_decider.proofs.Literals.{same-is, same-refl}
use Rattle.pg_decider.proofs.Splits.{first-free-is}
use Rattle.pg_tree.specs.Valid.{IsClosing, MaySplit}
use Rattle.pg_tree.specs.Fault.{all_false, others_false, alone, unit, is_number, unit_fault, leaf_fault, may_split}
use Rattle.pg_tree.specs.declared.fault.TreeFault.{TreeFault}
use Rattle.pg_tree.specs.declared.fault.TreeFault.TheVariants.{BadClause, NotUnit, NoConflict}

pub some-none : (f : TreeFault) → Some f ≡ None → ⊥
some-none f e = cc

-- ---- a clause

pub all-false-from : (s : Assignment) (c : List Literal) → ((m : Literal) → on c m ≡ true → s (negated m) ≡ true) → all_false s c ≡ true
all-false-from s [] h = refl
all-false-from s (m ∷ c) h = and_from (s (negated m)) (all_false s c) (h m (or_left (same m m) (on c m) (same-refl m))) (all-false-from s c (λ k i. h k (or_right (same m k) (on c k) i)))

pub all-false-is : (s : Assignment) (c : List Literal) → all_false s c ≡ true → (m : Literal) → on c m ≡ true → s (negated m) ≡ true
all-false-is s [] h m i = absurd (both_ways false refl i)
all-false-is s (k ∷ c) h m i =
    let p = and_parts (s (negated k)) (all_false s c) h in
    elim (or_cases (same k m) (on c m) i) [
      | inl e ↦ subst (λ (y : Literal). s (negated y) ≡ true) (same-is k m e) p.0
      | inr e ↦ all-false-is s c p.1 m e
    ]

others-from : (s : Assignment) (l : Literal) (c : List Literal) → ((m : Literal) → on c m ≡ true → same m l ≡ false → s (negated m) ≡ true) → others_false s l c ≡ true
others-from s l [] h = refl
others-from s l (m ∷ c) h = and_from (same m l || s (negated m)) (others_false s l c) (go (same m l) refl) (others-from s l c (λ k i ne. h k (or_right (same m k) (on c k) i) ne))
  where
    go : (b : Bool) → same m l ≡ b → (same m l || s (negated m)) ≡ true
    go true e = or_left (same m l) (s (negated m)) e
    go false e = or_right (same m l) (s (negated m)) (h m (or_left (same m m) (on c m) (same-refl m)) e)

or-second : (a b : Bool) → (a || b) ≡ true → a ≡ false → b ≡ true
or-second true b h z = absurd (both_ways true z refl)
or-second false b h z = h

others-is : (s : Assignment) (l : Literal) (c : List Literal) → others_false s l c ≡ true → (m : Literal) → on c m ≡ true → same m l ≡ false → s (negated m) ≡ true
others-is s l [] h m i ne = absurd (both_ways false refl i)
others-is s l (k ∷ c) h m i ne =
    let p = and_parts (same k l || s (negated k)) (others_false s l c) h in
    elim (or_cases (same k m) (on c m) i) [
      | inl e ↦
          let is = same-is k m e in
          subst (λ (y : Literal). s (negated y) ≡ true) is (or-second (same k l) (s (negated k)) p.0 (subst (λ (y : Literal). same y l ≡ false) (sym is) ne))
      | inr e ↦ others-is s l c p.1 m e ne
    ]

first-from : (s : Assignment) (l : Literal) (c : List Literal) → on c l ≡ true → free s l ≡ true → ((m : Literal) → on c m ≡ true → same m l ≡ false → s (negated m) ≡ true) → first_free s c ≡ Some l
first-from s l [] i f h = absurd (both_ways false refl i)
first-from s l (m ∷ c) i f h = go (same m l) refl i (λ j. first-from s l c j f (λ k x ne. h k (or_right (same m k) (on c k) x) ne))
  where
    closed : (a b : Bool) → b ≡ true → (not a && not b) ≡ false
    closed true true e = refl
    closed false true e = refl
    closed a false e = absurd (both_ways false refl e)

    go : (b : Bool) → same m l ≡ b → (b || on c l) ≡ true → (on c l ≡ true → first_free s c ≡ Some l) → cond (free s m) (Some m) (first_free s c) ≡ Some l
    go true e j later =
        let is = same-is m l e in
        ap (λ (q : Bool). cond q (Some m) (first_free s c)) (subst (λ (y : Literal). free s y ≡ true) (sym is) f) ∙ ap (λ (y : Literal). Some y) is
    go false e j later = ap (λ (q : Bool). cond q (Some m) (first_free s c)) (closed (s m) (s (negated m)) (h m (or_left (same m m) (on c m) (same-refl m)) e)) ∙ later j

pub unit-from : (s : Assignment) (c : List Literal) (l : Literal) → IsUnit s c l → unit s c ≡ Some l
unit-from s c l u =
    let f : free s l ≡ true = and_from (not (s l)) (not (s (negated l))) (ap not u.free) (ap not u.unset) in
    ap (alone s c) (first-from s l c u.forced.has f u.forced.others) ∙ ap (λ (q : Bool). cond q (Some l) None) (others-from s l c u.forced.others)

pub unit-is : (s : Assignment) (c : List Literal) (l : Literal) → unit s c ≡ Some l → IsUnit s c l
unit-is s c l h = go (first_free s c) refl h
  where
    none-some : None ≡ Some l → ⊥
    none-some e = cc

    some-same : (k : Literal) → Some k ≡ Some l → k ≡ l
    some-same k e = cc

    inner : (k : Literal) → first_free s c ≡ Some k → (b : Bool) → others_false s k c ≡ b → cond b (Some k) None ≡ Some l → IsUnit s c l
    inner k e true o f =
        let p = first-free-is s c k (sym e) in
        subst (λ (y : Literal). IsUnit s c y) (some-same k f) (record { free = p.1; unset = p.2; forced = record { has = p.0; others = others-is s k c o } })
    inner k e false o f = absurd (none-some f)

    go : (o : Option Literal) → first_free s c ≡ o → alone s c o ≡ Some l → IsUnit s c l
    go None e f = absurd (none-some f)
    go (Some k) e f = inner k e (others_false s k c) refl f

-- ---- a leaf

pub number-is : (cs : List (List Literal)) (n : ℕ) → 1 ≤ n → n ≤ length cs → is_number cs n ≡ true
number-is cs n a b = and_from (nat_le 1 n) (nat_le n (length cs)) (le-leb 1 n a) (le-leb n (length cs) b)

number-parts : (cs : List (List Literal)) (n : ℕ) → is_number cs n ≡ true → (1 ≤ n) × (n ≤ length cs)
number-parts cs n h = let p = and_parts (nat_le 1 n) (nat_le n (length cs)) h in (leb-true 1 n p.0, leb-true n (length cs) p.1)

pub closing-fault : (cs : List (List Literal)) (line : ℕ) (s : Assignment) (ns : List ℕ) → IsClosing cs s ns → leaf_fault cs line s ns ≡ None
closing-fault cs line s [] h = absurd h
closing-fault cs line s (n ∷ []) h =
    ap (λ (q : Bool). cond q (cond (all_false s (clause_at cs (n - 1))) None (Some (NoConflict line))) (Some (BadClause line n))) (number-is cs n h.0 h.1)
    ∙ ap (λ (q : Bool). cond q None (Some (NoConflict line))) (all-false-from s (clause_at cs (n - 1)) h.2.each)
closing-fault cs line s (n ∷ m ∷ ns) h =
    ap (λ (q : Bool). cond q (unit_fault line n (unit s (clause_at cs (n - 1))) (λ l. leaf_fault cs line (added l s) (m ∷ ns))) (Some (BadClause line n))) (number-is cs n h.1.0.positive h.1.0.within)
    ∙ (ap (λ (u : Option Literal). unit_fault line n u (λ l. leaf_fault cs line (added l s) (m ∷ ns))) (unit-from s (clause_at cs (n - 1)) h.0 h.1.0.unit)
    ∙ closing-fault cs line (added h.0 s) (m ∷ ns) h.1.1)

pub fault-closing : (cs : List (List Literal)) (line : ℕ) (s : Assignment) (ns : List ℕ) → leaf_fault cs line s ns ≡ None → IsClosing cs s ns
fault-closing cs line s [] h = absurd (some-none (NoConflict line) h)
fault-closing cs line s (n ∷ []) h = go (is_number cs n) refl (all_false s (clause_at cs (n - 1))) refl h
  where
    go : (a : Bool) → is_number cs n ≡ a → (b : Bool) → all_false s (clause_at cs (n - 1)) ≡ b → cond a (cond b None (Some (NoConflict line))) (Some (BadClause line n)) ≡ None → IsClosing cs s (n ∷ [])
    go true e true f h = let p = number-parts cs n e in (p.0, p.1, record { each = all-false-is s (clause_at cs (n - 1)) f })
    go true e false f h = absurd (some-none (NoConflict line) h)
    go false e b f h = absurd (some-none (BadClause line n) h)
fault-closing cs line s (n ∷ m ∷ ns) h = go (λ l. fault-closing cs line (added l s) (m ∷ ns)) (is_number cs n) refl (unit s (clause_at cs (n - 1))) refl h
  where
    go : ((l : Literal) → leaf_fault cs line (added l s) (m ∷ ns) ≡ None → IsClosing cs (added l s) (m ∷ ns)) → (a : Bool) → is_number cs n ≡ a → (o : Option Literal) → unit s (clause_at cs (n - 1)) ≡ o
        → cond a (unit_fault line n o (λ l. leaf_fault cs line (added l s) (m ∷ ns))) (Some (BadClause line n)) ≡ None → IsClosing cs s (n ∷ m ∷ ns)
    go later true e None f h = absurd (some-none (NotUnit line n) h)
    go later true e (Some l) f h = let p = number-parts cs n e in (l, (record { positive = p.0; within = p.1; unit = unit-is s (clause_at cs (n - 1)) l f }, later l h))
    go later false e o f h = absurd (some-none (BadClause line n) h)

-- clauses that close a leaf, none of them in vain, close it
pub leaf-closing : (cs : List (List Literal)) (s : Assignment) (ns : List ℕ) → IsLeaf cs s ns → IsClosing cs s ns
leaf-closing cs s [] h = absurd h
leaf-closing cs s (n ∷ []) h = h
leaf-closing cs s (n ∷ m ∷ ns) h =
    (h.0, (record { positive = h.1.0.positive; within = h.1.0.within; unit = h.1.0.unit }, leaf-closing cs (added h.0 s) (m ∷ ns) h.1.1))

-- ---- a split

pub may-from : (n : ℕ) (s : Assignment) (l : Literal) → MaySplit n s l → may_split n s l ≡ true
may-from n s l h =
    and_from (nat_le 1 l.atom) (nat_le l.atom n && free s l) (le-leb 1 l.atom h.positive)
    (and_from (nat_le l.atom n) (free s l) (le-leb l.atom n h.within) (and_from (not (s l)) (not (s (negated l))) (ap not h.free) (ap not h.unset)))

pub may-is : (n : ℕ) (s : Assignment) (l : Literal) → may_split n s l ≡ true → MaySplit n s l
may-is n s l h =
    let p = and_parts (nat_le 1 l.atom) (nat_le l.atom n && free s l) h in
    let q = and_parts (nat_le l.atom n) (free s l) p.1 in
    let r = and_parts (not (s l)) (not (s (negated l))) q.1 in
    record { positive = leb-true 1 l.atom p.0; within = leb-true l.atom n q.0; free = not-true (s l) r.0; unset = not-true (s (negated l)) r.1 }
