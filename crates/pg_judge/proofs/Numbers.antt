-- The atoms of the clauses of an obligation are numbered from 1.
use Rattle.std.proofs.Common.{◌≡◌, ℕ, zero, suc, ◌≤◌, true, false, List, [], ◌∷◌, map, refl, subst, arith, inl, inr}
use Rattle.std.specs.List.{All}
use Rattle.std.proofs.lemmas.Bool.{both_ways, or_cases}
use Rattle.std.proofs.lemmas.List.Elements.{All-nil, All-cons, All-head, All-tail, All-append}
use Rattle.pg_assertion.specs.declared.layout.Side.TheVariants.{Before, After}
use Rattle.pg_assertion.specs.declared.step_atom.StepAtom.{StepAtom}
use Rattle.pg_assertion.specs.declared.step_atom.StepAtom.TheVariants.{On, Value, Expected, Success, Taken}
use Rattle.pg_assertion.specs.Formula.{Plain, top, bottom, atom, neg, both, either, implies, AllAtoms, with_atoms}
use Rattle.pg_assertion.specs.Layout.{Sizes}
use Rattle.pg_assertion.specs.StepAtom.{step_number}
use Rattle.pg_region.specs.Literal.{Literal, same, negated}
use Rattle.pg_region.specs.Region.{clause_at}
use Rattle.pg_decider.specs.Assignment.{on}
use Rattle.pg_decider.specs.Laws.{AreOver}
use Rattle.pg_decider.proofs.Literals.{same-is}
use Rattle.pg_tables.specs.declared.clause.StepLiteral.{StepLiteral}
use Rattle.pg_tables.specs.Clause.{numbered}
use Rattle.pg_clauses.specs.Definitional.{after, literal, clauses}
use Rattle.pg_clauses.proofs.Numbers.{later}
use Rattle.pg_obligations.specs.Follow.{Entailment}
use Rattle.pg_layers.specs.Clauses.{by_number, by_numbers, top_part, first_new, top_of, clauses_of}

abbrev From : List Literal → Type 0
From c = All (λ x. 1 ≤ x.atom) c

abbrev AllFrom : List (List Literal) → Type 0
AllFrom cs = All From cs

-- ---- tables

step-from : (l : Sizes) (a : StepAtom) → 1 ≤ step_number l a
step-from l (On a Before) = omega arith
step-from l (On a After) = omega arith
step-from l (Value v) = omega arith
step-from l (Expected v) = omega arith
step-from l Success = omega arith
step-from l Taken = omega arith

row-from : (l : Sizes) (c : List StepLiteral) → From (map (numbered l) c)
row-from l [] = All-nil (λ (x : Literal). 1 ≤ x.atom)
row-from l (x ∷ c) = All-cons (λ (y : Literal). 1 ≤ y.atom) (numbered l x) (map (numbered l) c) (step-from l x.atom) (row-from l c)

table-from : (l : Sizes) (cs : List (List StepLiteral)) → AllFrom (by_numbers l cs)
table-from l [] = All-nil From
table-from l (c ∷ cs) = All-cons From (map (numbered l) c) (by_numbers l cs) (row-from l c) (table-from l cs)

-- ---- formulas

formula-from : (l : Sizes) (f : Plain StepAtom) → AllAtoms (λ a. 1 ≤ a) (by_number l f)
unfolding with_atoms
formula-from l top = tt
formula-from l bottom = tt
formula-from l (atom a) = step-from l a
formula-from l (neg f) = formula-from l f
formula-from l (both f g) = (formula-from l f, formula-from l g)
formula-from l (either f g) = (formula-from l f, formula-from l g)
formula-from l (implies f g) = (formula-from l f, formula-from l g)

one : (a : Literal) → 1 ≤ a.atom → From (a ∷ [])
one a h = All-cons (λ (x : Literal). 1 ≤ x.atom) a [] h (All-nil (λ (x : Literal). 1 ≤ x.atom))

two : (a b : Literal) → 1 ≤ a.atom → 1 ≤ b.atom → From (a ∷ b ∷ [])
two a b h k = All-cons (λ (x : Literal). 1 ≤ x.atom) a (b ∷ []) h (one b k)

three : (a b c : Literal) → 1 ≤ a.atom → 1 ≤ b.atom → 1 ≤ c.atom → From (a ∷ b ∷ c ∷ [])
three a b c h k m = All-cons (λ (x : Literal). 1 ≤ x.atom) a (b ∷ c ∷ []) h (two b c k m)

clause-only : (c : List Literal) → From c → AllFrom (c ∷ [])
clause-only c h = All-cons From c [] h (All-nil From)

three-clauses : (c d e : List Literal) → From c → From d → From e → AllFrom (c ∷ d ∷ e ∷ [])
three-clauses c d e h k m = All-cons From c (d ∷ e ∷ []) h (All-cons From d (e ∷ []) k (clause-only e m))

literal-from : (n : ℕ) (f : Plain ℕ) → 1 ≤ n → AllAtoms (λ a. 1 ≤ a) f → 1 ≤ (literal n f).atom
literal-from n top le h = le
literal-from n bottom le h = le
literal-from n (atom a) le h = h
literal-from n (neg f) le h = literal-from n f le h
literal-from n (both f g) le h = omega (arith, le, later n f, later (after n f) g)
literal-from n (either f g) le h = omega (arith, le, later n f, later (after n f) g)
literal-from n (implies f g) le h = omega (arith, le, later n f, later (after n f) g)

after-from : (n : ℕ) (f : Plain ℕ) → 1 ≤ n → 1 ≤ after n f
after-from n f le = omega (arith, le, later n f)

clauses-from : (n : ℕ) (f : Plain ℕ) → 1 ≤ n → AllAtoms (λ a. 1 ≤ a) f → AllFrom (clauses n f)
clauses-from n top le h = clause-only _ (one _ le)
clauses-from n bottom le h = clause-only _ (one _ le)
clauses-from n (atom a) le h = All-nil From
clauses-from n (neg f) le h = clauses-from n f le h
clauses-from n (both f g) le h =
    let k = after-from n f le in
    let d = after-from (after n f) g k in
    let a = literal-from n f le h.0 in
    let b = literal-from (after n f) g k h.1 in
    All-append From (clauses n f) _ (clauses-from n f le h.0)
    (All-append From (clauses (after n f) g) _ (clauses-from (after n f) g k h.1) (three-clauses _ _ _ (two _ _ d a) (two _ _ d b) (three _ _ _ d a b)))
clauses-from n (either f g) le h =
    let k = after-from n f le in
    let d = after-from (after n f) g k in
    let a = literal-from n f le h.0 in
    let b = literal-from (after n f) g k h.1 in
    All-append From (clauses n f) _ (clauses-from n f le h.0)
    (All-append From (clauses (after n f) g) _ (clauses-from (after n f) g k h.1) (three-clauses _ _ _ (three _ _ _ d a b) (two _ _ d a) (two _ _ d b)))
clauses-from n (implies f g) le h =
    let k = after-from n f le in
    let d = after-from (after n f) g k in
    let a = literal-from n f le h.0 in
    let b = literal-from (after n f) g k h.1 in
    All-append From (clauses n f) _ (clauses-from n f le h.0)
    (All-append From (clauses (after n f) g) _ (clauses-from (after n f) g k h.1) (three-clauses _ _ _ (three _ _ _ d a b) (two _ _ d a) (two _ _ d b)))

top-from : (l : Sizes) (n : ℕ) (fs : List (Plain StepAtom)) (g : Plain StepAtom) → 1 ≤ n → AllFrom (top_part n (map (by_number l) fs) (by_number l g))
top-from l n [] g le =
    All-append From (clauses n (by_number l g)) _ (clauses-from n (by_number l g) le (formula-from l g))
    (clause-only _ (one (negated (literal n (by_number l g))) (literal-from n (by_number l g) le (formula-from l g))))
top-from l n (f ∷ fs) g le =
    All-append From (clauses n (by_number l f)) _ (clauses-from n (by_number l f) le (formula-from l f))
    (All-cons From _ _ (one (literal n (by_number l f)) (literal-from n (by_number l f) le (formula-from l f)))
    (top-from l (after n (by_number l f)) fs g (after-from n (by_number l f) le)))

clauses-are-from : (l : Sizes) (e : Entailment) → AllFrom (clauses_of l e)
clauses-are-from l e = All-append From (top_of l e) (by_numbers l e.clauses) (top-from l (first_new l) e.givens e.goal (omega arith)) (table-from l e.clauses)

-- ---- what stands in a clause

all-on : (P : Literal → Type 0) (c : List Literal) (l : Literal) → All P c → on c l ≡ true → P l
all-on P [] l h i = absurd (both_ways false refl i)
all-on P (m ∷ c) l h i = elim (or_cases (same m l) (on c l) i) [
  | inl e ↦ subst P (same-is m l e) (All-head P m c h)
  | inr e ↦ all-on P c l (All-tail P m c h) e
]

all-at : (P : Literal → Type 0) (cs : List (List Literal)) (k : ℕ) (l : Literal) → All (All P) cs → on (clause_at cs k) l ≡ true → P l
all-at P [] k l h i = absurd (both_ways false refl i)
all-at P (c ∷ cs) zero l h i = all-on P c l (All-head (All P) c cs h) i
all-at P (c ∷ cs) (suc k) l h i = all-at P cs k l (All-tail (All P) c cs h) i

pub are-over : (l : Sizes) (e : Entailment) (n : ℕ) → All (All (λ x. x.atom ≤ n)) (clauses_of l e) → AreOver n (clauses_of l e)
are-over l e n h = record {
  each = λ k m i. (all-at (λ (x : Literal). 1 ≤ x.atom) (clauses_of l e) k m (clauses-are-from l e) i, all-at (λ (x : Literal). x.atom ≤ n) (clauses_of l e) k m h i);
}
