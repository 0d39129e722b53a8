-- Definitional clauses tell the truth of a formula, and can be met.
use Rattle.std.proofs.Common.{◌≡◌, ℕ, ◌+◌, ◌<◌, ◌≤◌, Bool, true, false, cond, not, ◌||◌, ◌&&◌, nat_lt, List, ◌++◌, refl, sym, ap, ap₂, ◌∙◌, arith}
use Rattle.std.proofs.lemmas.Bool.{lt-ltb, le-ltb, and_from}
use Rattle.std.proofs.lemmas.List.Folds.{list_all-append}
use Rattle.pg_assertion.specs.Formula.{Plain, top, bottom, atom, neg, both, either, implies, AllAtoms}
use Rattle.pg_region.specs.Literal.{Literal, negated}
use Rattle.pg_views.specs.Formula.{true_in}
use Rattle.pg_clauses.specs.Definitional.{after, literal, clauses, both_node, either_node, implies_node}
use Rattle.pg_clauses.specs.Truth.{literal_true, clause_true, all_true, DefinitionsTellTheTruth, DefinitionsCanBeMet}
use Rattle.pg_clauses.proofs.Bools.{and-parts, is_both, is_either, is_implied, both_tells, either_tells, implied_tells, both_met, either_met, implied_met}
use Rattle.pg_clauses.proofs.Numbers.{later}

module _ (val : ℕ → Bool) where
  negated_by : (p b : Bool) → cond (not p) b (not b) ≡ not (cond p b (not b))
  negated_by true b = refl
  negated_by false true = refl
  negated_by false false = refl

  negated-true : (l : Literal) → literal_true val (negated l) ≡ not (literal_true val l)
  negated-true l = negated_by l.positive (val l.atom)

  both-node : (d : ℕ) (a b : Literal) → all_true val (both_node d a b) ≡ is_both (val d) (literal_true val a) (literal_true val b)
  both-node d a b =
      ap₂ (λ (x y : Bool). (not (val d) || (literal_true val a || false)) && ((not (val d) || (literal_true val b || false)) && ((val d || (x || (y || false))) && true)))
      (negated-true a) (negated-true b)

  either-node : (d : ℕ) (a b : Literal) → all_true val (either_node d a b) ≡ is_either (val d) (literal_true val a) (literal_true val b)
  either-node d a b =
      ap₂ (λ (x y : Bool). (not (val d) || (literal_true val a || (literal_true val b || false))) && ((val d || (x || false)) && ((val d || (y || false)) && true)))
      (negated-true a) (negated-true b)

  implied-node : (d : ℕ) (a b : Literal) → all_true val (implies_node d a b) ≡ is_implied (val d) (literal_true val a) (literal_true val b)
  implied-node d a b =
      ap₂ (λ (x y : Bool). (not (val d) || (x || (literal_true val b || false))) && ((val d || (literal_true val a || false)) && ((val d || (y || false)) && true)))
      (negated-true a) (negated-true b)

  -- three lists of clauses are true where each is
  parts : (xs ys zs : List (List Literal)) → all_true val (xs ++ (ys ++ zs)) ≡ true → (all_true val xs ≡ true) × (all_true val ys ≡ true) × (all_true val zs ≡ true)
  parts xs ys zs h =
      let p = and-parts (all_true val xs) (all_true val (ys ++ zs)) (sym (list_all-append (clause_true val) xs (ys ++ zs)) ∙ h) in
      let q = and-parts (all_true val ys) (all_true val zs) (sym (list_all-append (clause_true val) ys zs) ∙ p.1) in
      (p.0, q.0, q.1)

  joined : (xs ys zs : List (List Literal)) → all_true val xs ≡ true → all_true val ys ≡ true → all_true val zs ≡ true → all_true val (xs ++ (ys ++ zs)) ≡ true
  joined xs ys zs h k m =
      list_all-append (clause_true val) xs (ys ++ zs)
      ∙ and_from _ _ h (list_all-append (clause_true val) ys zs ∙ and_from _ _ k m)

  tells : (n : ℕ) (f : Plain ℕ) → all_true val (clauses n f) ≡ true → literal_true val (literal n f) ≡ true_in val f
  tells n top h = (and-parts _ _ (sym (one_by (val n)) ∙ h)).0
    where
      one_by : (b : Bool) → ((b || false) && true) ≡ (b && true)
      one_by true = refl
      one_by false = refl
  tells n bottom h = down (val n) h
    where
      down : (b : Bool) → ((not b || false) && true) ≡ true → b ≡ false
      down true e = sym e
      down false e = refl
  tells n (atom a) h = refl
  tells n (neg f) h = negated-true (literal n f) ∙ ap not (tells n f h)
  tells n (both f g) h =
      let p = parts (clauses n f) (clauses (after n f) g) _ h in
      both_tells _ _ _ (sym (both-node (after (after n f) g) (literal n f) (literal (after n f) g)) ∙ p.2)
      ∙ ap₂ ◌&&◌ (tells n f p.0) (tells (after n f) g p.1)
  tells n (either f g) h =
      let p = parts (clauses n f) (clauses (after n f) g) _ h in
      either_tells _ _ _ (sym (either-node (after (after n f) g) (literal n f) (literal (after n f) g)) ∙ p.2)
      ∙ ap₂ ◌||◌ (tells n f p.0) (tells (after n f) g p.1)
  tells n (implies f g) h =
      let p = parts (clauses n f) (clauses (after n f) g) _ h in
      implied_tells _ _ _ (sym (implied-node (after (after n f) g) (literal n f) (literal (after n f) g)) ∙ p.2)
      ∙ ap₂ ◌||◌ (ap not (tells n f p.0)) (tells (after n f) g p.1)

pub definitions_tell : DefinitionsTellTheTruth
definitions_tell n f val h = tells val n f h

-- ---- the truth of the atoms that a formula takes

chosen : {A : Type 0} (b : Bool) (x y : A) → b ≡ true → cond b x y ≡ x
chosen true x y h = refl
chosen false x y h = absurd (cc)

passed : {A : Type 0} (b : Bool) (x y : A) → b ≡ false → cond b x y ≡ y
passed true x y h = absurd (cc)
passed false x y h = refl

-- that of the one with number k: those of the left part, those of the right one, and the node's own
given : (ℕ → Bool) → ℕ → Plain ℕ → ℕ → Bool
given val n top k = true
given val n bottom k = false
given val n (atom a) k = false
given val n (neg f) k = given val n f k
given val n (both f g) k = cond (nat_lt k (after n f)) (given val n f k) (cond (nat_lt k (after (after n f) g)) (given val (after n f) g k) (true_in val f && true_in val g))
given val n (either f g) k = cond (nat_lt k (after n f)) (given val n f k) (cond (nat_lt k (after (after n f) g)) (given val (after n f) g k) (true_in val f || true_in val g))
given val n (implies f g) k = cond (nat_lt k (after n f)) (given val n f k) (cond (nat_lt k (after (after n f) g)) (given val (after n f) g k) (not (true_in val f) || true_in val g))

-- a valuation has the truth of another one for the atoms of a formula
Same : (ℕ → Bool) → (ℕ → Bool) → Plain ℕ → Type 0
Same v val f = AllAtoms (λ a. v a ≡ val a) f

same_truth : (v val : ℕ → Bool) (f : Plain ℕ) → AllAtoms (λ a. v a ≡ val a) f → true_in v f ≡ true_in val f
same_truth v val top h = refl
same_truth v val bottom h = refl
same_truth v val (atom a) h = h
same_truth v val (neg f) h = ap not (same_truth v val f h)
same_truth v val (both f g) h = ap₂ ◌&&◌ (same_truth v val f h.0) (same_truth v val g h.1)
same_truth v val (either f g) h = ap₂ ◌||◌ (same_truth v val f h.0) (same_truth v val g h.1)
same_truth v val (implies f g) h = ap₂ ◌||◌ (ap not (same_truth v val f h.0)) (same_truth v val g h.1)

module _ (v : ℕ → Bool) where
  -- v gives these truths to the numbers from n up to m
  abbrev Gives : ℕ → ℕ → (ℕ → Bool) → Type 0
  Gives n m w = (k : ℕ) → n ≤ k → k < m → v k ≡ w k

  -- so of two parts and a node, where each has its own
  left_of : (n m o : ℕ) (w u : ℕ → Bool) (own : Bool) → m ≤ o → Gives n (o + 1) (λ k. cond (nat_lt k m) (w k) (cond (nat_lt k o) (u k) own)) → Gives n m w
  left_of n m o w u own le h k from to = h k from (omega (arith, to, le)) ∙ chosen _ _ _ (lt-ltb k m to)

  right_of : (n m o : ℕ) (w u : ℕ → Bool) (own : Bool) → n ≤ m → m ≤ o → Gives n (o + 1) (λ k. cond (nat_lt k m) (w k) (cond (nat_lt k o) (u k) own)) → Gives m o u
  right_of n m o w u own low le h k from to =
      h k (omega (arith, from, low)) (omega (arith, to)) ∙ passed _ _ _ (le-ltb k m from) ∙ chosen _ _ _ (lt-ltb k o to)

  own_of : (n m o : ℕ) (w u : ℕ → Bool) (own : Bool) → n ≤ m → m ≤ o → Gives n (o + 1) (λ k. cond (nat_lt k m) (w k) (cond (nat_lt k o) (u k) own)) → v o ≡ own
  own_of n m o w u own low le h =
      h o (omega (arith, le, low)) (omega arith) ∙ passed _ _ _ (le-ltb o m le) ∙ passed _ _ _ (le-ltb o o (omega arith))

  module _ (val : ℕ → Bool) where
    meets : (n : ℕ) (f : Plain ℕ) → AllAtoms (λ a. v a ≡ val a) f → Gives n (after n f) (given val n f) → all_true v (clauses n f) ≡ true
    unfolding given
    meets n top s h = ap (λ (b : Bool). (b || false) && true) (h n (omega arith) (omega arith))
    meets n bottom s h = ap (λ (b : Bool). (not b || false) && true) (h n (omega arith) (omega arith))
    meets n (atom a) s h = refl
    meets n (neg f) s h = meets n f s h
    meets n (both f g) s h =
        let m = after n f in
        let o = after m g in
        let one = meets n f s.0 (left_of n m o (given val n f) (given val m g) _ (later m g) h) in
        let two = meets m g s.1 (right_of n m o (given val n f) (given val m g) _ (later n f) (later m g) h) in
        let a = tells v n f one ∙ same_truth v val f s.0 in
        let b = tells v m g two ∙ same_truth v val g s.1 in
        let d = own_of n m o (given val n f) (given val m g) _ (later n f) (later m g) h in
        joined v (clauses n f) (clauses m g) _ one two
        (both-node v o (literal n f) (literal m g)
        ∙ ap (λ (x : Bool). is_both x (literal_true v (literal n f)) (literal_true v (literal m g))) (d ∙ sym (ap₂ ◌&&◌ a b))
        ∙ both_met (literal_true v (literal n f)) (literal_true v (literal m g)))
    meets n (either f g) s h =
        let m = after n f in
        let o = after m g in
        let one = meets n f s.0 (left_of n m o (given val n f) (given val m g) _ (later m g) h) in
        let two = meets m g s.1 (right_of n m o (given val n f) (given val m g) _ (later n f) (later m g) h) in
        let a = tells v n f one ∙ same_truth v val f s.0 in
        let b = tells v m g two ∙ same_truth v val g s.1 in
        let d = own_of n m o (given val n f) (given val m g) _ (later n f) (later m g) h in
        joined v (clauses n f) (clauses m g) _ one two
        (either-node v o (literal n f) (literal m g)
        ∙ ap (λ (x : Bool). is_either x (literal_true v (literal n f)) (literal_true v (literal m g))) (d ∙ sym (ap₂ ◌||◌ a b))
        ∙ either_met (literal_true v (literal n f)) (literal_true v (literal m g)))
    meets n (implies f g) s h =
        let m = after n f in
        let o = after m g in
        let one = meets n f s.0 (left_of n m o (given val n f) (given val m g) _ (later m g) h) in
        let two = meets m g s.1 (right_of n m o (given val n f) (given val m g) _ (later n f) (later m g) h) in
        let a = tells v n f one ∙ same_truth v val f s.0 in
        let b = tells v m g two ∙ same_truth v val g s.1 in
        let d = own_of n m o (given val n f) (given val m g) _ (later n f) (later m g) h in
        joined v (clauses n f) (clauses m g) _ one two
        (implied-node v o (literal n f) (literal m g)
        ∙ ap (λ (x : Bool). is_implied x (literal_true v (literal n f)) (literal_true v (literal m g))) (d ∙ sym (ap₂ (λ (x y : Bool). not x || y) a b))
        ∙ implied_met (literal_true v (literal n f)) (literal_true v (literal m g)))

-- ---- the extension

-- those below n as they were, and the others as the formula has them
extended : (ℕ → Bool) → ℕ → Plain ℕ → ℕ → Bool
extended val n f k = cond (nat_lt k n) (val k) (given val n f k)

below : (val : ℕ → Bool) (n : ℕ) (w : ℕ → Bool) (f : Plain ℕ) → AllAtoms (λ a. a < n) f → AllAtoms (λ a. cond (nat_lt a n) (val a) (w a) ≡ val a) f
below val n w top h = tt
below val n w bottom h = tt
below val n w (atom a) h = chosen _ _ _ (lt-ltb a n h)
below val n w (neg f) h = below val n w f h
below val n w (both f g) h = (below val n w f h.0, below val n w g h.1)
below val n w (either f g) h = (below val n w f h.0, below val n w g h.1)
below val n w (implies f g) h = (below val n w f h.0, below val n w g h.1)

pub definitions_met : DefinitionsCanBeMet
definitions_met n f val h =
    let more : ℕ → Bool = λ k. cond (nat_lt k n) (val k) (given val n f k) in
    let same = below val n (given val n f) f h in
    let met : all_true more (clauses n f) ≡ true = meets more val n f same (λ k from to. passed _ _ _ (le-ltb k n from)) in (
      more,
      record {
        same = λ k lt. chosen _ _ _ (lt-ltb k n lt);
        meets = met;
        told = tells more n f met ∙ same_truth more val f same;
      },
    )
