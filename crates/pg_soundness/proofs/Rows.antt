-- A table of rows is true where the row of each atom is. What a step leaves of the scalars that its bracket does not assign.
use Rattle.std.proofs.Common.{◌≡◌, ◌≢◌, ℕ, ◌<◌, ◌==◌, Bool, true, false, cond, not, ◌||◌, ◌&&◌, List, [], ◌∷◌, map, get_or, set, refl, sym, ap, subst, ◌∙◌, arith}
use Rattle.std.specs.List.{list_all}
use Rattle.std.proofs.lemmas.Bool.{or_left, or_right, or_parts, eqb-true, eqb-false}
use Rattle.std.proofs.lemmas.List.{get_or-set_other}
use Rattle.pg_program.specs.declared.syntax.AuxAssign.{AuxAssign}
use Rattle.pg_program.specs.declared.syntax.Stmt.{Stmt}
use Rattle.pg_program.specs.declared.point.Step.{Step}
use Rattle.pg_program.specs.Expr.{value}
use Rattle.pg_program.specs.Program.{ProgramTable}
use Rattle.pg_program.specs.Words.{is_in}
use Rattle.pg_assertion.specs.declared.atom.ViewAtom.{ViewAtom}
use Rattle.pg_assertion.specs.declared.atom.ViewAtom.TheVariants.{Scalar, Last, Read, Then, Newest, Ordered, Fenced}
use Rattle.pg_assertion.specs.declared.step_atom.StepAtom.{StepAtom}
use Rattle.pg_assertion.specs.Layout.{Sizes, IsAtom, IsThreadNumber}
use Rattle.pg_machine.specs.declared.event.Event.{Event}
use Rattle.pg_machine.specs.State.{State}
use Rattle.pg_machine.specs.Step.{Left, assigned, bracket_of}
use Rattle.pg_tables.specs.declared.clause.StepLiteral.{StepLiteral}
use Rattle.pg_tables.specs.Clause.{implies}
use Rattle.pg_tables.specs.Table.{IsOneOf}
use Rattle.pg_tables.specs.Truth.{AllTrue, clause_true, literal_true}
use Rattle.pg_tables.proofs.Truth.{by_truth, AllOf, all-append, all-when, all-threads, all-locations, all-values, all-scalars}
use Rattle.pg_rules_access.specs.Atoms.{scalar_rows, access_rows}
use Rattle.pg_soundness.proofs.Stepped.{Stepped}

-- ---- clauses and tables of rows

-- the clause `ls => a`
pub gives : (val : StepAtom → Bool) (ls : List StepAtom) (a : StepAtom) → (AllOf val ls → val a ≡ true) → clause_true val (implies ls (a ∷ [])) ≡ true
gives val [] a h = or_left (val a) false (h tt)
gives val (b ∷ ls) a h = by_truth (val b)
    (λ is. or_right (not (val b)) (clause_true val (implies ls (a ∷ []))) (gives val ls a (λ t. h (is, t))))
    (λ is. or_left (not (val b)) (clause_true val (implies ls (a ∷ []))) (ap not is))

-- A row that asks whether its number u is t: it is true where the row of t is, and the row of each other number.
pub by_own : (val : StepAtom → Bool) (t : ℕ) (row : Bool → ℕ → List (List StepLiteral)) (u : ℕ) → AllTrue val (row true t) → (u ≢ t → AllTrue val (row false u)) → AllTrue val (row (u == t) u)
by_own val t row u own other = by (u == t) refl
  where
    by : (b : Bool) → (u == t) ≡ b → AllTrue val (row b u)
    by true is = subst (λ (k : ℕ). AllTrue val (row true k)) (sym (eqb-true u t is)) own
    by false is = other (eqb-false u t is)

-- the rows of the atoms that accesses of memory change are true
pub record AreRows (val : StepAtom → Bool) (l : Sizes) (row : ViewAtom → List (List StepLiteral)) : Type 0 where
  pub last : (z v : ℕ) → IsAtom l (Last z v) → AllTrue val (row (Last z v))
  pub read : (t z v : ℕ) → IsAtom l (Read t z v) → AllTrue val (row (Read t z v))
  pub pairs : (t z v u w : ℕ) → IsAtom l (Then t z v u w) → AllTrue val (row (Then t z v u w))
  pub newest : (t z : ℕ) → IsAtom l (Newest t z) → AllTrue val (row (Newest t z))
  pub ordered : (t z : ℕ) → IsAtom l (Ordered t z) → AllTrue val (row (Ordered t z))
  pub fenced : (t z : ℕ) → IsAtom l (Fenced t z) → AllTrue val (row (Fenced t z))

thread : (l : Sizes) (t : ℕ) → IsOneOf 1 l.threads t → IsThreadNumber l t
thread l t i = record { first = i.from; last = omega (arith, i.to) }

below : (n k : ℕ) → IsOneOf 0 n k → k < n
below n k i = omega (arith, i.to)

pub true_rows : (val : StepAtom → Bool) (l : Sizes) (row : ViewAtom → List (List StepLiteral)) → AreRows val l row → AllTrue val (access_rows l row)
true_rows val l row h =
    let at : (k : ℕ) → IsOneOf 0 l.locations k → k < l.locations = λ k i. below l.locations k i in
    let in_domain : (k : ℕ) → IsOneOf 0 l.domain k → k < l.domain = λ k i. below l.domain k i in
    let of : (k : ℕ) → IsOneOf 1 l.threads k → IsThreadNumber l k = λ k i. thread l k i in
    all-append val _ _ (all-locations val l (λ z iz. all-values val l (λ v iv. h.last z v (at z iz, in_domain v iv))))
    (all-append val _ _ (all-threads val l (λ t it. all-locations val l (λ z iz. all-values val l (λ v iv. h.read t z v (of t it, at z iz, in_domain v iv)))))
    (all-append val _ _ (all-threads val l (λ t it. all-locations val l (λ z iz. all-values val l (λ v iv. all-locations val l (λ u iu. all-values val l (λ w iw.
    h.pairs t z v u w (of t it, at z iz, in_domain v iv, at u iu, in_domain w iw)))))))
    (all-append val _ _ (all-threads val l (λ t it. all-locations val l (λ z iz. h.newest t z (of t it, at z iz))))
    (all-append val _ _ (all-threads val l (λ t it. all-locations val l (λ z iz. h.ordered t z (of t it, at z iz))))
    (all-threads val l (λ t it. all-locations val l (λ z iz. h.fenced t z (of t it, at z iz))))))))

not_true : (b : Bool) → not b ≡ true → b ≡ false
not_true true h = sym h
not_true false h = refl

pub true_scalars : (val : StepAtom → Bool) (l : Sizes) (assigned : List ℕ) (row : ViewAtom → List (List StepLiteral))
    → ((q k : ℕ) → q < l.scalars → is_in q assigned ≡ false → AllTrue val (row (Scalar q k))) → AllTrue val (scalar_rows l assigned row)
true_scalars val l assigned row h =
    all-scalars val l (λ q iq. all-when val (not (is_in q assigned)) (λ free. all-values val l (λ k ik.
    h q k (below l.scalars q iq) (not_true (is_in q assigned) free))))

-- ---- another valuation with the same truth

literal-same : (val w : StepAtom → Bool) → ((a : StepAtom) → val a ≡ w a) → (x : StepLiteral) → literal_true val x ≡ literal_true w x
literal-same val w h x = ap (λ (b : Bool). cond x.positive b (not b)) (h x.atom)

clause-same : (val w : StepAtom → Bool) → ((a : StepAtom) → val a ≡ w a) → (c : List StepLiteral) → clause_true val c ≡ clause_true w c
clause-same val w h [] = refl
clause-same val w h (x ∷ c) = ap (λ (b : Bool). b || clause_true val c) (literal-same val w h x) ∙ ap (λ (b : Bool). literal_true w x || b) (clause-same val w h c)

table-same : (val w : StepAtom → Bool) → ((a : StepAtom) → val a ≡ w a) → (cs : List (List StepLiteral)) → list_all (clause_true val) cs ≡ list_all (clause_true w) cs
table-same val w h [] = refl
table-same val w h (c ∷ cs) = ap (λ (b : Bool). b && list_all (clause_true val) cs) (clause-same val w h c) ∙ ap (λ (b : Bool). clause_true w c && b) (table-same val w h cs)

pub all-same : (val w : StepAtom → Bool) → ((a : StepAtom) → val a ≡ w a) → (cs : List (List StepLiteral)) → AllTrue w cs → AllTrue val cs
all-same val w h cs t = record { all = table-same val w h cs ∙ t.all }

-- ---- scalars that the bracket does not assign

pub assigned-other : (d : ℕ) (seen : List ℕ) (bracket : List AuxAssign) (r : List ℕ) (q : ℕ) → is_in q (map (λ a. a.target) bracket) ≡ false
    → get_or (assigned d seen bracket r) q 0 ≡ get_or r q 0
assigned-other d seen [] r q h = refl
assigned-other d seen (a ∷ rest) r q h =
    let parts = or_parts (a.target == q) (is_in q (map (λ b. b.target) rest)) h in
    let apart : q ≢ a.target = λ e. eqb-false a.target q parts.0 (sym e) in
    assigned-other d seen rest (set r a.target (value seen d a.expr)) q parts.1 ∙ get_or-set_other r a.target q (value seen d a.expr) 0 apart

pub scalar-after : (p : ProgramTable) (s : State) (e : Event) (step : Step) (next : State) (stmt : Stmt) (left : Left) → Stepped p s e step next stmt left
    → (q : ℕ) → is_in q (map (λ a. a.target) (bracket_of stmt)) ≡ false → get_or next.scalars q 0 ≡ get_or left.scalars q 0
scalar-after p s e step next stmt left h q free =
    ap (λ (r : List ℕ). get_or r q 0) h.scalars ∙ assigned-other p.names.domain left.scalars (bracket_of stmt) left.scalars q free
