-- The clauses of an entailment can be true together exactly where it does not follow.
use Rattle.std.proofs.Common.{◌≡◌, ℕ, ◌<◌, ◌≤◌, Bool, true, false, not, ◌||◌, ◌&&◌, cond, ◌⊎◌, inl, inr, List, [], ◌∷◌, map, refl, sym, ap, ap₂, ◌∙◌, arith}
use Rattle.std.specs.List.{All, list_all}
use Rattle.std.proofs.lemmas.Bool.{cases_lt, and_parts, and_from, true≢false}
use Rattle.std.proofs.lemmas.List.Folds.{list_all-append}
use Rattle.std.proofs.lemmas.List.Elements.{All-nil, All-cons, All-head, All-tail, All-map, All-weaker}
use Rattle.pg_assertion.specs.declared.step_atom.StepAtom.{StepAtom}
use Rattle.pg_assertion.specs.Formula.{Plain, top, bottom, atom, neg, both, either, implies, AllAtoms, with_atoms}
use Rattle.pg_assertion.specs.Layout.{Sizes}
use Rattle.pg_assertion.specs.StepAtom.{IsStepAtom, step_number, step_atoms}
use Rattle.pg_assertion.proofs.StepNumbers.{step_numbers_have_no_gap, step_numbers_tell_atoms_apart}
use Rattle.pg_region.specs.Literal.{Literal, negated}
use Rattle.pg_views.specs.Formula.{true_in}
use Rattle.pg_tables.specs.declared.clause.StepLiteral.{StepLiteral}
use Rattle.pg_tables.specs.Clause.{AreStepAtoms, numbered}
use Rattle.pg_tables.specs.Truth.{AllTrue}
use Rattle.pg_tables.specs.Truth as table
use Rattle.pg_clauses.specs.Definitional.{after, literal, clauses}
use Rattle.pg_clauses.specs.Truth.{literal_true, clause_true, all_true}
use Rattle.pg_clauses.proofs.Truths.{definitions_tell, definitions_met}
use Rattle.pg_clauses.proofs.Numbers.{later}
use Rattle.pg_obligations.specs.Follow.{Entailment, Follows}
use Rattle.pg_layers.specs.Clauses.{top_part, by_number, by_numbers, first_new, top_of, clauses_of}
use Rattle.pg_layers.proofs.Formulas.{all-with, all-weaker}
use Rattle.pg_layers.proofs.Over.{IsOver}
use Rattle.pg_layers.proofs.Below.{atoms-later, given-later, clauses-below, literal-below, table-below, same_literal, same_truth, same_formula}

module _ {T : Type 0} (val : ℕ → Bool) (number : T → ℕ) where
  -- a formula over numbers is true where it is over the atoms
  pub true-with : (f : Plain T) → true_in val (with_atoms number f) ≡ true_in (λ a. val (number a)) f
  unfolding with_atoms
  true-with top = refl
  true-with bottom = refl
  true-with (atom a) = refl
  true-with (neg f) = ap not (true-with f)
  true-with (both f g) = ap₂ ◌&&◌ (true-with f) (true-with g)
  true-with (either f g) = ap₂ ◌||◌ (true-with f) (true-with g)
  true-with (implies f g) = ap₂ ◌||◌ (ap not (true-with f)) (true-with g)

-- and formulas that agree on their atoms are true together
agree : {T : Type 0} (v w : T → Bool) (f : Plain T) → AllAtoms (λ a. v a ≡ w a) f → true_in v f ≡ true_in w f
agree v w top h = refl
agree v w bottom h = refl
agree v w (atom a) h = h
agree v w (neg f) h = ap not (agree v w f h)
agree v w (both f g) h = ap₂ ◌&&◌ (agree v w f h.0) (agree v w g h.1)
agree v w (either f g) h = ap₂ ◌||◌ (agree v w f h.0) (agree v w g h.1)
agree v w (implies f g) h = ap₂ ◌||◌ (ap not (agree v w f h.0)) (agree v w g h.1)

module _ (l : Sizes) (val : ℕ → Bool) (w : StepAtom → Bool) where
  -- the valuations agree on the atoms of the layout
  abbrev Agree : Type 0
  Agree = (a : StepAtom) → IsStepAtom l a → val (step_number l a) ≡ w a

  clause_agrees : Agree → (c : List StepLiteral) → AreStepAtoms l c → clause_true val (map (numbered l) c) ≡ table.clause_true w c
  clause_agrees same [] h = refl
  clause_agrees same (x ∷ c) h =
      ap₂ (λ (a b : Bool). cond x.positive a (not a) || b) (same x.atom (All-head (λ (y : StepLiteral). IsStepAtom l y.atom) x c h))
      (clause_agrees same c (All-tail (λ (y : StepLiteral). IsStepAtom l y.atom) x c h))

  pub table_agrees : Agree → (cs : List (List StepLiteral)) → All (AreStepAtoms l) cs → all_true val (by_numbers l cs) ≡ list_all (table.clause_true w) cs
  table_agrees same [] h = refl
  table_agrees same (c ∷ cs) h =
      ap₂ ◌&&◌ (clause_agrees same c (All-head (AreStepAtoms l) c cs h)) (table_agrees same cs (All-tail (AreStepAtoms l) c cs h))

module _ (l : Sizes) (val : ℕ → Bool) where
  -- a valuation of the atoms by their numbers
  abbrev read : StepAtom → Bool
  read a = val (step_number l a)

  clause_read : (c : List StepLiteral) → clause_true val (map (numbered l) c) ≡ table.clause_true (λ a. val (step_number l a)) c
  clause_read [] = refl
  clause_read (x ∷ c) = ap (λ (b : Bool). cond x.positive (val (step_number l x.atom)) (not (val (step_number l x.atom))) || b) (clause_read c)

  table_read : (cs : List (List StepLiteral)) → all_true val (by_numbers l cs) ≡ list_all (table.clause_true (λ a. val (step_number l a))) cs
  table_read [] = refl
  table_read (c ∷ cs) = ap₂ ◌&&◌ (clause_read c) (table_read cs)

-- ---- what true clauses tell

negated_by : (p b : Bool) → cond (not p) b (not b) ≡ not (cond p b (not b))
negated_by true b = refl
negated_by false true = refl
negated_by false false = refl

negated-true : (val : ℕ → Bool) (x : Literal) → literal_true val (negated x) ≡ not (literal_true val x)
negated-true val x = negated_by x.positive (val x.atom)

or_none : (b : Bool) → (b || false) ≡ b
or_none true = refl
or_none false = refl

and_all : (b : Bool) → (b && true) ≡ b
and_all true = refl
and_all false = refl

-- the unit clause of a literal
unit_true : (val : ℕ → Bool) (x : Literal) → clause_true val (x ∷ []) ≡ literal_true val x
unit_true val x = or_none (literal_true val x)

false_from : (b : Bool) → not b ≡ true → b ≡ false
false_from true h = sym h
false_from false h = refl

module _ (val : ℕ → Bool) where
  pub record TopTells (fs : List (Plain ℕ)) (g : Plain ℕ) : Type 0 where
    pub givens : All (λ f. true_in val f ≡ true) fs
    pub goal : true_in val g ≡ false

  top_tells : (n : ℕ) (fs : List (Plain ℕ)) (g : Plain ℕ) → all_true val (top_part n fs g) ≡ true → TopTells fs g
  top_tells n [] g h =
      let p = and_parts (all_true val (clauses n g)) _ (sym (list_all-append (clause_true val) (clauses n g) ((negated (literal n g) ∷ []) ∷ [])) ∙ h) in
      let u : not (literal_true val (literal n g)) ≡ true =
      sym (negated-true val (literal n g)) ∙ sym (unit_true val (negated (literal n g))) ∙ sym (and_all (clause_true val (negated (literal n g) ∷ []))) ∙ p.1 in
      record { givens = All-nil (λ (f : Plain ℕ). true_in val f ≡ true); goal = sym (definitions_tell n g val p.0) ∙ false_from (literal_true val (literal n g)) u }
  top_tells n (f ∷ fs) g h =
      let p = and_parts (all_true val (clauses n f)) _ (sym (list_all-append (clause_true val) (clauses n f) ((literal n f ∷ []) ∷ top_part (after n f) fs g)) ∙ h) in
      let q = and_parts (clause_true val (literal n f ∷ [])) (all_true val (top_part (after n f) fs g)) p.1 in
      let rest = top_tells (after n f) fs g q.1 in
      let first = sym (definitions_tell n f val p.0) ∙ sym (unit_true val (literal n f)) ∙ q.0 in
      record { givens = All-cons (λ (k : Plain ℕ). true_in val k ≡ true) f fs first rest.givens; goal = rest.goal }

-- ---- and that they can be true

record TopMet (val : ℕ → Bool) (n : ℕ) (fs : List (Plain ℕ)) (g : Plain ℕ) : Type 0 where
  more : ℕ → Bool
  same : (k : ℕ) → k < n → more k ≡ val k
  meets : all_true more (top_part n fs g) ≡ true

top_met : (val : ℕ → Bool) (n : ℕ) (fs : List (Plain ℕ)) (g : Plain ℕ) → All (AllAtoms (λ a. a < n)) fs → AllAtoms (λ a. a < n) g
    → All (λ f. true_in val f ≡ true) fs → true_in val g ≡ false → TopMet val n fs g
top_met val n [] g h k t fails =
    let e = definitions_met n g val k in
    let u : clause_true e.0 (negated (literal n g) ∷ []) ≡ true =
    unit_true e.0 (negated (literal n g)) ∙ negated-true e.0 (literal n g) ∙ ap not (e.1.told ∙ fails) in
    record {
      more = e.0;
      same = e.1.same;
      meets = list_all-append (clause_true e.0) (clauses n g) ((negated (literal n g) ∷ []) ∷ []) ∙ and_from _ _ e.1.meets (and_from _ _ u refl);
    }
top_met val n (f ∷ fs) g h k t fails =
    let first = All-head (AllAtoms (λ (a : ℕ). a < n)) f fs h in
    let others = All-tail (AllAtoms (λ (a : ℕ). a < n)) f fs h in
    let e = definitions_met n f val first in
    let truths = All-tail (λ (q : Plain ℕ). true_in val q ≡ true) f fs t in
    let still : All (λ q. true_in e.0 q ≡ true) fs = true_still n val e.0 e.1.same fs others truths in
    let rest = top_met e.0 (after n f) fs g (given-later n f fs others) (atoms-later n f g k) still (same_formula e.0 val n e.1.same g k ∙ fails) in
    let one : all_true rest.more (clauses n f) ≡ true = same_truth rest.more e.0 (after n f) rest.same (clauses n f) (clauses-below n f first) ∙ e.1.meets in
    let lit : clause_true rest.more (literal n f ∷ []) ≡ true =
    unit_true rest.more (literal n f) ∙ same_literal rest.more e.0 (after n f) rest.same (literal n f) (literal-below n f first) ∙ e.1.told ∙ All-head (λ (q : Plain ℕ). true_in val q ≡ true) f fs t in
    record {
      more = rest.more;
      same = λ q lt. rest.same q (omega (arith, lt, later n f)) ∙ e.1.same q lt;
      meets = list_all-append (clause_true rest.more) (clauses n f) ((literal n f ∷ []) ∷ top_part (after n f) fs g) ∙ and_from _ _ one (and_from _ _ lit rest.meets);
    }
  where
    true_still : (n : ℕ) (v w : ℕ → Bool) → ((q : ℕ) → q < n → w q ≡ v q) → (gs : List (Plain ℕ)) → All (AllAtoms (λ a. a < n)) gs → All (λ q. true_in v q ≡ true) gs
        → All (λ q. true_in w q ≡ true) gs
    true_still n v w same [] below all = All-nil (λ (q : Plain ℕ). true_in w q ≡ true)
    true_still n v w same (q ∷ gs) below all =
        All-cons (λ (r : Plain ℕ). true_in w r ≡ true) q gs
        (same_formula w v n same q (All-head (AllAtoms (λ (a : ℕ). a < n)) q gs below) ∙ All-head (λ (r : Plain ℕ). true_in v r ≡ true) q gs all)
        (true_still n v w same gs (All-tail (AllAtoms (λ (a : ℕ). a < n)) q gs below) (All-tail (λ (r : Plain ℕ). true_in v r ≡ true) q gs all))

-- ---- a valuation of the atoms of a step, as one of numbers

module _ (l : Sizes) (w : StepAtom → Bool) where
  at : (n : ℕ) → (0 < n) ⊎ (n ≤ 0) → (step_atoms l < n) ⊎ (n ≤ step_atoms l) → Bool
  at n (inl p) (inr q) = w (step_numbers_have_no_gap.1 l n p q).0
  at n (inl p) (inl q) = false
  at n (inr p) q = false

  pub by_atoms : ℕ → Bool
  by_atoms n = at n (cases_lt 0 n) (cases_lt (step_atoms l) n)

  pub by_atoms-is : (a : StepAtom) → IsStepAtom l a → by_atoms (step_number l a) ≡ w a
  unfolding by_atoms at
  by_atoms-is a h = by (cases_lt 0 (step_number l a)) (cases_lt (step_atoms l) (step_number l a))
    where
      by : (x : (0 < step_number l a) ⊎ (step_number l a ≤ 0)) (y : (step_atoms l < step_number l a) ⊎ (step_number l a ≤ step_atoms l)) → at (step_number l a) x y ≡ w a
      by (inl p) (inr q) = let it = step_numbers_have_no_gap.1 l (step_number l a) p q in ap w (step_numbers_tell_atoms_apart l it.0 a it.1 h it.2)
      by (inl p) (inl q) = let low = step_numbers_have_no_gap.0 l a h in absurd (omega (arith, low.1, q))
      by (inr p) q = let low = step_numbers_have_no_gap.0 l a h in absurd (omega (arith, low.0, p))

-- ---- the law

-- each atom of an entailment is one of the layout's
pub record IsEntailmentOver (l : Sizes) (e : Entailment) : Type 0 where
  pub clauses : IsOver l e.clauses
  pub givens : All (AllAtoms (IsStepAtom l)) e.givens
  pub goal : AllAtoms (IsStepAtom l) e.goal

module _ (l : Sizes) (e : Entailment) where
  pub only_then : Follows e → (val : ℕ → Bool) → all_true val (clauses_of l e) ≡ true → ⊥
  only_then follows val h =
      let p = and_parts (all_true val (top_of l e)) (all_true val (by_numbers l e.clauses)) (sym (list_all-append (clause_true val) (top_of l e) (by_numbers l e.clauses)) ∙ h) in
      let t = top_tells val (first_new l) (map (by_number l) e.givens) (by_number l e.goal) p.0 in
      let w : StepAtom → Bool = λ a. val (step_number l a) in
      let goal = follows w (record { all = sym (table_read l val e.clauses) ∙ p.1 }) (given val w e.givens t.givens) in
      true≢false (sym goal ∙ sym (true-with val (step_number l) e.goal) ∙ t.goal)
    where
      given : (v : ℕ → Bool) (w : StepAtom → Bool) (fs : List (Plain StepAtom)) → All (λ f. true_in v f ≡ true) (map (by_number l) fs) → All (λ f. true_in (λ a. v (step_number l a)) f ≡ true) fs
      given v w [] h = All-nil (λ (f : Plain StepAtom). true_in (λ a. v (step_number l a)) f ≡ true)
      given v w (f ∷ fs) h =
          All-cons (λ (g : Plain StepAtom). true_in (λ a. v (step_number l a)) g ≡ true) f fs
          (sym (true-with v (step_number l) f) ∙ All-head (λ (g : Plain ℕ). true_in v g ≡ true) (by_number l f) (map (by_number l) fs) h)
          (given v w fs (All-tail (λ (g : Plain ℕ). true_in v g ≡ true) (by_number l f) (map (by_number l) fs) h))

  module _ (over : IsEntailmentOver l e) (none : (val : ℕ → Bool) → all_true val (clauses_of l e) ≡ true → ⊥) where
    number_low : (a : StepAtom) → IsStepAtom l a → step_number l a < first_new l
    number_low a h = let low = step_numbers_have_no_gap.0 l a h in omega (arith, low.1)

    low : (f : Plain StepAtom) → AllAtoms (IsStepAtom l) f → AllAtoms (λ n. n < first_new l) (by_number l f)
    low f h = all-with (step_number l) (λ n. n < first_new l) f (all-weaker (IsStepAtom l) (λ a. step_number l a < first_new l) number_low f h)

    module _ (w : StepAtom → Bool) where
      same : (f : Plain StepAtom) → AllAtoms (IsStepAtom l) f → true_in (by_atoms l w) (by_number l f) ≡ true_in w f
      same f h =
          true-with (by_atoms l w) (step_number l) f
          ∙ agree (λ a. by_atoms l w (step_number l a)) w f (all-weaker (IsStepAtom l) (λ a. by_atoms l w (step_number l a) ≡ w a) (by_atoms-is l w) f h)

      lows : (fs : List (Plain StepAtom)) → All (AllAtoms (IsStepAtom l)) fs → All (AllAtoms (λ n. n < first_new l)) (map (by_number l) fs)
      lows fs h = All-map (AllAtoms (λ n. n < first_new l)) (by_number l) fs (All-weaker (AllAtoms (IsStepAtom l)) (λ f. AllAtoms (λ n. n < first_new l) (by_number l f)) low fs h)

      givens_true : (fs : List (Plain StepAtom)) → All (AllAtoms (IsStepAtom l)) fs → All (λ f. true_in w f ≡ true) fs → All (λ f. true_in (by_atoms l w) f ≡ true) (map (by_number l) fs)
      givens_true [] h t = All-nil (λ (f : Plain ℕ). true_in (by_atoms l w) f ≡ true)
      givens_true (f ∷ fs) h t =
          All-cons (λ (g : Plain ℕ). true_in (by_atoms l w) g ≡ true) (by_number l f) (map (by_number l) fs)
          (same f (All-head (AllAtoms (IsStepAtom l)) f fs h) ∙ All-head (λ (g : Plain StepAtom). true_in w g ≡ true) f fs t)
          (givens_true fs (All-tail (AllAtoms (IsStepAtom l)) f fs h) (All-tail (λ (g : Plain StepAtom). true_in w g ≡ true) f fs t))

      not_false : AllTrue w e.clauses → All (λ f. true_in w f ≡ true) e.givens → true_in w e.goal ≡ false → ⊥
      not_false all given fails =
          let m = top_met (by_atoms l w) (first_new l) (map (by_number l) e.givens) (by_number l e.goal) (lows e.givens over.givens) (low e.goal over.goal)
          (givens_true e.givens over.givens given) (same e.goal over.goal ∙ fails) in
          let base = table_agrees l (by_atoms l w) w (by_atoms-is l w) e.clauses over.clauses.are ∙ all.all in
          let more = same_truth m.more (by_atoms l w) (first_new l) m.same (by_numbers l e.clauses) (table-below l e.clauses over.clauses) ∙ base in
          none m.more (list_all-append (clause_true m.more) (top_of l e) (by_numbers l e.clauses) ∙ and_from _ _ m.meets more)

    true_by : (b : Bool) → (b ≡ false → ⊥) → b ≡ true
    true_by true h = refl
    true_by false h = absurd (h refl)

    pub then_follows : Follows e
    then_follows w all given = true_by (true_in w e.goal) (not_false w all given)
