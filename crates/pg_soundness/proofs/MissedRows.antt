-- The rows of a cas are true where it fails: of the thread that acts they say what an `mfence`, a load and an `mfence` leave, and all
-- else stays.
use Rattle.std.proofs.Common.{◌≡◌, ◌≢◌, ℕ, ◌<◌, ◌≤◌, ◌==◌, Bool, true, false, ◌&&◌, ◌||◌, [], ◌∷◌, ◌++◌, length, get_or, set, Option, Some, refl, sym, ap, subst, ◌∙◌}
use Rattle.std.proofs.lemmas.Bool.{eqb-true, eqb-false}
use Rattle.std.proofs.lemmas.List.{get_or-set_other}
use Rattle.pg_program.specs.declared.syntax.Act.{Act}
use Rattle.pg_program.specs.declared.syntax.Act.TheOpen.{Act-F}
use Rattle.pg_program.specs.declared.syntax.Stmt.{Stmt}
use Rattle.pg_program.specs.NameTable.{NameTable}
use Rattle.pg_assertion.specs.declared.atom.ViewAtom.TheVariants.{Scalar, Last, Read, Then, Newest, Ordered, Fenced}
use Rattle.pg_assertion.specs.declared.step_atom.StepAtom.{StepAtom}
use Rattle.pg_assertion.specs.declared.step_atom.StepAtom.TheVariants.{Expected}
use Rattle.pg_assertion.specs.Layout.{Sizes}
use Rattle.pg_machine.specs.Memory.{Memory, value_at}
use Rattle.pg_machine.specs.State.{State, AreViews}
use Rattle.pg_machine.specs.Moves.{Seen, can_read, fenced, missed}
use Rattle.pg_machine.specs.Step.{seen_by, views_of}
use Rattle.pg_views.specs.Atom.{is_last, may_read, may_read_then, reads_newest, covers_ordered, covers_fenced}
use Rattle.pg_views.specs.Valuation.{is_some, expected_value, is_success, step_atom_holds}
use Rattle.pg_tables.specs.Clause.{implies}
use Rattle.pg_tables.specs.Shapes.{before, after, only_where, always, becomes, becomes_both}
use Rattle.pg_tables.specs.Truth.{AllTrue}
use Rattle.pg_tables.proofs.Truth.{all-cons, all-one, all-append, all-values, all-only_where, all-becomes}
use Rattle.pg_rules_access.specs.Load.{read_then}
use Rattle.pg_rules_access.specs.Cas.{cas, cas_scalar, cas_read, own_read, cas_then, own_then, cas_view, cas_fenced, own_fenced}
use Rattle.pg_soundness.proofs.CasShapes.{two_give, two_exclude, failed, kept_if}
use Rattle.pg_soundness.proofs.Missed as law
use Rattle.pg_soundness.proofs.Rows.{by_own, AreRows}

-- The act of thread t is a cas of x that expects g, and fails where it reads another value, at p. It reads into r, which its
-- bracket does not assign.
pub record Misses (d : ℕ) (act : Act-F Act Stmt) (choice : Option ℕ) (s next : State) (l : Sizes) (t x r g p : ℕ) : Type 0 where
  pub success : is_success act choice ≡ false
  pub expected : expected_value d s.scalars act ≡ Some g
  pub misses : value_at s.memory x p ≢ g
  pub can : can_read (fenced (seen_by s t)) x p ≡ true
  pub own : seen_by next t ≡ missed (seen_by s t) x p
  pub own_views : AreViews s.memory (views_of s t)
  pub memory : next.memory ≡ s.memory
  pub other : (u : ℕ) → 1 ≤ u → u ≢ t → seen_by next u ≡ seen_by s u
  pub inside : x < length s.memory.initial
  pub loaded : get_or next.scalars r 0 ≡ value_at s.memory x p

module _ (names : NameTable) (d : ℕ) (act : Act-F Act Stmt) (choice : Option ℕ) (s next : State) (l : Sizes) (t x r g p : ℕ) (h : Misses d act choice s next l t x r g p) where
  abbrev val : StepAtom → Bool
  val = step_atom_holds d act choice s next

  abbrev n : Seen
  n = seen_by s t

  -- ---- the thread that acts

  less-read : (z w : ℕ) → val (after (Read t z w)) ≡ true → may_read (missed n x p) z w ≡ true
  less-read z w is = sym (ap (λ (k : Seen). may_read k z w) h.own) ∙ is

  read-row : (z w : ℕ) → AllTrue val (only_where (after (Read t z w)) (before (Read t z w)))
  read-row z w = all-only_where val (after (Read t z w)) (before (Read t z w)) (λ is. law.missed-read n x p h.own_views h.inside h.can z w (less-read z w is))

  -- the value that was loaded
  value-loaded : (v : ℕ) → val (after (Scalar r v)) ≡ true → (value_at s.memory x p == v) ≡ true
  value-loaded v is = sym (ap (λ (k : ℕ). k == v) h.loaded) ∙ is

  read_then-row : (z w : ℕ) → AllTrue val (read_then l t r x z w)
  read_then-row z w = all-values val l (λ v i.
      all-one val (implies (after (Scalar r v) ∷ after (Read t z w) ∷ []) (before (Then t x v z w) ∷ []))
      (two_give val (after (Scalar r v)) (after (Read t z w)) (before (Then t x v z w)) (λ is reads.
      law.missed-value-then n x p h.own_views h.inside h.can v z w (value-loaded v is) (less-read z w reads))))

  read-own : (z w : ℕ) → AllTrue val (own_read l t r x z w)
  read-own z w =
      failed val (becomes (after (Read t z w)) (after (Last z w))) (only_where (after (Read t z w)) (before (Read t z w)) ++ read_then l t r x z w) h.success
      (all-append val (only_where (after (Read t z w)) (before (Read t z w))) (read_then l t r x z w) (read-row z w) (read_then-row z w))

  then-own : (z v y w : ℕ) → AllTrue val (own_then (z == y && v == w) t z v y w)
  then-own z v y w = by (z == y && v == w)
    where
      less : AllTrue val (only_where (after (Then t z v y w)) (before (Then t z v y w)))
      less =
          all-only_where val (after (Then t z v y w)) (before (Then t z v y w)) (λ is.
          law.missed-then n x p h.own_views h.inside h.can z v y w (sym (ap (λ (k : Seen). may_read_then k z v y w) h.own) ∙ is))

      by : (b : Bool) → AllTrue val (own_then b t z v y w)
      by true = failed val (becomes (after (Then t z v y w)) (after (Last z v))) (only_where (after (Then t z v y w)) (before (Then t z v y w))) h.success less
      by false =
          failed val (becomes_both (after (Then t z v y w)) (after (Last z v)) (after (Last y w))) (only_where (after (Then t z v y w)) (before (Then t z v y w))) h.success less

  newest-own : (z : ℕ) → AllTrue val (cas_view true (z == x) names t x t z (Newest t z))
  newest-own z =
      failed val (always (after (Newest t z))) (becomes (after (Newest t z)) (after (Fenced t z))) h.success
      (all-becomes val (after (Newest t z)) (after (Fenced t z))
      (ap (λ (k : Seen). reads_newest k z) h.own ∙ (law.missed-newest n x p h.own_views h.inside h.can z ∙ sym (ap (λ (k : Seen). covers_fenced k z) h.own))))

  ordered-own : (z : ℕ) → AllTrue val (cas_view true (z == x) names t x t z (Ordered t z))
  ordered-own z =
      failed val (always (after (Ordered t z))) (becomes (after (Ordered t z)) (after (Fenced t z))) h.success
      (all-becomes val (after (Ordered t z)) (after (Fenced t z))
      (ap (λ (k : Seen). covers_ordered k z) h.own ∙ (law.missed-ordered n x p h.own_views h.inside h.can z ∙ sym (ap (λ (k : Seen). covers_fenced k z) h.own))))

  fenced-own : (z : ℕ) → AllTrue val (own_fenced (z == x) t x z)
  fenced-own z = by (z == x)
    where
      stays : AllTrue val (only_where (before (Fenced t z)) (after (Fenced t z)))
      stays =
          all-only_where val (before (Fenced t z)) (after (Fenced t z)) (λ is.
          ap (λ (k : Seen). covers_fenced k z) h.own ∙ law.missed-fenced n x p h.own_views h.inside h.can z is)

      same : AllTrue val (implies (before (Fenced t x) ∷ after (Fenced t z) ∷ []) (before (Fenced t z) ∷ []) ∷ [])
      same =
          all-one val (implies (before (Fenced t x) ∷ after (Fenced t z) ∷ []) (before (Fenced t z) ∷ []))
          (two_give val (before (Fenced t x)) (after (Fenced t z)) (before (Fenced t z)) (λ covered is.
          law.missed-fenced-as n x p h.own_views h.inside h.can z covered (sym (ap (λ (k : Seen). covers_fenced k z) h.own) ∙ is)))

      by : (b : Bool) → AllTrue val (own_fenced b t x z)
      by true = failed val (always (after (Fenced t z))) (only_where (before (Fenced t z)) (after (Fenced t z))) h.success stays
      by false =
          failed val (always (after (Fenced t z)))
          (only_where (before (Fenced t z)) (after (Fenced t z)) ++ implies (before (Fenced t x) ∷ after (Fenced t z) ∷ []) (before (Fenced t z) ∷ []) ∷ []) h.success
          (all-append val (only_where (before (Fenced t z)) (after (Fenced t z))) (implies (before (Fenced t x) ∷ after (Fenced t z) ∷ []) (before (Fenced t z) ∷ []) ∷ []) stays same)

  -- ---- the row of each atom

  pub true_miss : AreRows val l (cas l names t r x)
  true_miss = record {
    last = λ z v i. kept_if val names t x (Last z v) (z == x) h.success (all-becomes val (after (Last z v)) (before (Last z v)) (ap (λ (m : Memory). is_last m z v) h.memory));
    read = λ u z w i. by_own val t (λ o k. cas_read l o (z == x) names t r x k z w) u (read-own z w) (λ other.
        kept_if val names t x (Read u z w) (z == x) h.success
        (all-becomes val (after (Read u z w)) (before (Read u z w)) (ap (λ (k : Seen). may_read k z w) (h.other u i.0.first other))));
    pairs = λ u z v y w i. by_own val t (λ o k. cas_then o (z == x || y == x) (z == y && v == w) names t x k z v y w) u (then-own z v y w) (λ other.
        kept_if val names t x (Then u z v y w) (z == x || y == x) h.success
        (all-becomes val (after (Then u z v y w)) (before (Then u z v y w)) (ap (λ (k : Seen). may_read_then k z v y w) (h.other u i.0.first other))));
    newest = λ u z i. by_own val t (λ o k. cas_view o (z == x) names t x k z (Newest k z)) u (newest-own z) (λ other.
        kept_if val names t x (Newest u z) (z == x) h.success (all-becomes val (after (Newest u z)) (before (Newest u z)) (ap (λ (k : Seen). reads_newest k z) (h.other u i.0.first other))));
    ordered = λ u z i. by_own val t (λ o k. cas_view o (z == x) names t x k z (Ordered k z)) u (ordered-own z) (λ other.
        kept_if val names t x (Ordered u z) (z == x) h.success (all-becomes val (after (Ordered u z)) (before (Ordered u z)) (ap (λ (k : Seen). covers_ordered k z) (h.other u i.0.first other))));
    fenced = λ u z i. by_own val t (λ o k. cas_fenced o (z == x) names t x k z) u (fenced-own z) (λ other.
        kept_if val names t x (Fenced u z) (z == x) h.success (all-becomes val (after (Fenced u z)) (before (Fenced u z)) (ap (λ (k : Seen). covers_fenced k z) (h.other u i.0.first other))));
  }

  -- The scalar that is read into has a value that is not the expected one, that could be read, and that is the last one where a `flush`
  -- covers that.
  read-into : (k : ℕ) → AllTrue val (cas_scalar true t x r k)
  read-into k =
      failed val (becomes (after (Scalar r k)) (Expected k))
      (implies (after (Scalar r k) ∷ Expected k ∷ []) [] ∷ implies (after (Scalar r k) ∷ []) (before (Read t x k) ∷ []) ∷ implies (after (Scalar r k) ∷ before (Fenced t x) ∷ []) (before (Last x k) ∷ []) ∷ [])
      h.success
      (all-cons val _ _ (two_exclude val (after (Scalar r k)) (Expected k) (λ is expects.
      h.misses (eqb-true (value_at s.memory x p) k (value-loaded k is) ∙ sym (eqb-true g k (sym (ap (λ (o : Option ℕ). is_some o k) h.expected) ∙ expects)))))
      (all-append val (only_where (after (Scalar r k)) (before (Read t x k))) _
      (all-only_where val (after (Scalar r k)) (before (Read t x k)) (λ is. law.missed-value n x p h.own_views h.inside h.can k (value-loaded k is)))
      (all-one val (implies (after (Scalar r k) ∷ before (Fenced t x) ∷ []) (before (Last x k) ∷ []))
      (two_give val (after (Scalar r k)) (before (Fenced t x)) (before (Last x k)) (λ is covered.
      law.missed-last-value n x p h.own_views h.inside h.can k (value-loaded k is) covered)))))

  pub miss-scalar : (q k : ℕ) → get_or next.scalars q 0 ≡ get_or (set s.scalars r (value_at s.memory x p)) q 0 → AllTrue val (cas_scalar (q == r) t x q k)
  miss-scalar q k is = by (q == r) refl
    where
      by : (b : Bool) → (q == r) ≡ b → AllTrue val (cas_scalar b t x q k)
      by true here = subst (λ (j : ℕ). AllTrue val (cas_scalar true t x j k)) (sym (eqb-true q r here)) (read-into k)
      by false here =
          all-becomes val (after (Scalar q k)) (before (Scalar q k))
          (ap (λ (v : ℕ). v == k) (is ∙ get_or-set_other s.scalars r q (value_at s.memory x p) 0 (eqb-false q r here)))
