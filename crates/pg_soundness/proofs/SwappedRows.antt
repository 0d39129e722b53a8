-- The rows of a cas are true where it succeeds: of the thread that acts they say what a store and then an `mfence` leave, and of all
-- others what a store leaves.
use Rattle.std.proofs.Common.{◌≡◌, ◌≢◌, ℕ, ◌<◌, ◌==◌, Bool, true, false, ◌&&◌, ◌||◌, List, [], ◌∷◌, ◌++◌, length, get_or, set, Option, Some, refl, sym, ap, ap₂, subst, ◌∙◌, arith}
use Rattle.std.proofs.lemmas.Bool.{eqb-true, eqb-false, ne_eqb, and_parts, or_parts}
use Rattle.std.proofs.lemmas.List.{get_or-set_same, get_or-set_other}
use Rattle.pg_program.specs.declared.syntax.Act.{Act}
use Rattle.pg_program.specs.declared.syntax.Act.TheOpen.{Act-F}
use Rattle.pg_program.specs.declared.syntax.Stmt.{Stmt}
use Rattle.pg_program.specs.NameTable.{NameTable}
use Rattle.pg_assertion.specs.declared.atom.ViewAtom.TheVariants.{Scalar, Last, Read, Then, Newest, Ordered, Fenced}
use Rattle.pg_assertion.specs.declared.step_atom.StepAtom.{StepAtom}
use Rattle.pg_assertion.specs.declared.step_atom.StepAtom.TheVariants.{Expected}
use Rattle.pg_assertion.specs.Layout.{Sizes, IsThreadNumber}
use Rattle.pg_machine.specs.State.{State, AreViews}
use Rattle.pg_machine.specs.Moves.{Seen, swapped}
use Rattle.pg_machine.specs.Step.{seen_by, views_of}
use Rattle.pg_views.specs.Atom.{is_last, may_read, may_read_then, reads_newest, covers_ordered, covers_fenced}
use Rattle.pg_views.specs.Valuation.{is_some, expected_value, is_success, step_atom_holds}
use Rattle.pg_tables.specs.declared.clause.StepLiteral.{StepLiteral}
use Rattle.pg_tables.specs.Clause.{implies}
use Rattle.pg_tables.specs.Shapes.{before, after, only_where, always, becomes, becomes_both}
use Rattle.pg_tables.specs.Steps.{same_line}
use Rattle.pg_tables.specs.Truth.{AllTrue}
use Rattle.pg_tables.proofs.Truth.{all-always, all-becomes, all-becomes_both}
use Rattle.pg_rules_access.specs.Store.{store_last, store_read, store_then, store_newest, store_ordered, store_fenced}
use Rattle.pg_rules_access.specs.Load.{read_then}
use Rattle.pg_rules_access.specs.Cas.{cas, cas_scalar, cas_read, own_read, cas_then, own_then, cas_view, cas_fenced, own_fenced, if_stored}
use Rattle.pg_soundness.proofs.CasShapes.{succeeded, stored_if}
use Rattle.pg_soundness.proofs.Rows.{by_own, AreRows}
use Rattle.pg_soundness.proofs.Swapped as law
use Rattle.pg_soundness.proofs.Tests.{and-self}
use Rattle.pg_soundness.proofs.WrittenRows.{Writes, written-last, written-read, written-then, written-newest, written-ordered, written-fenced}

-- The act of thread t is a cas that expects g, and succeeds in writing e to x.
pub record Swaps (d : ℕ) (act : Act-F Act Stmt) (choice : Option ℕ) (s next : State) (l : Sizes) (t x e g : ℕ) : Type 0 where
  pub writes : Writes d act s next l t x e
  pub success : is_success act choice ≡ true
  pub expected : expected_value d s.scalars act ≡ Some g
  pub own : seen_by next t ≡ swapped (seen_by s t) x e
  pub own_views : AreViews s.memory (views_of s t)

module _ (names : NameTable) (d : ℕ) (act : Act-F Act Stmt) (choice : Option ℕ) (s next : State) (l : Sizes) (t x e g r : ℕ) (h : Swaps d act choice s next l t x e g) where
  abbrev val : StepAtom → Bool
  val = step_atom_holds d act choice s next

  abbrev n : Seen
  n = seen_by s t

  inside : x < length s.memory.initial
  inside = h.writes.inside

  within : (z : ℕ) → z < l.locations → z < length s.memory.initial
  within z lt = let size = h.writes.located in omega (arith, size, lt)

  -- the last values after the step
  lasts : (z v : ℕ) → is_last (swapped n x e).memory z v ≡ is_last next.memory z v
  lasts z v = sym (ap (λ (k : Seen). is_last k.memory z v) h.own)

  -- ---- the thread that acts

  read-own : (z w : ℕ) → AllTrue val (own_read l t r x z w)
  read-own z w =
      succeeded val (becomes (after (Read t z w)) (after (Last z w))) (only_where (after (Read t z w)) (before (Read t z w)) ++ read_then l t r x z w) h.success
      (all-becomes val (after (Read t z w)) (after (Last z w)) (ap (λ (k : Seen). may_read k z w) h.own ∙ (law.swapped-read n x e h.own_views inside z w ∙ lasts z w)))

  both-last : (z v y w : ℕ) → z < l.locations → val (after (Then t z v y w)) ≡ (val (after (Last z v)) && val (after (Last y w)))
  both-last z v y w lt =
      ap (λ (k : Seen). may_read_then k z v y w) h.own
      ∙ (law.swapped-then n x e h.own_views inside z v y w (within z lt) ∙ ap₂ (λ (a b : Bool). a && b) (lasts z v) (lasts y w))

  then-own : (z v y w : ℕ) → z < l.locations → AllTrue val (own_then (z == y && v == w) t z v y w)
  then-own z v y w lt = by (z == y && v == w) refl
    where
      else_less : List (List StepLiteral)
      else_less = only_where (after (Then t z v y w)) (before (Then t z v y w))

      by : (b : Bool) → (z == y && v == w) ≡ b → AllTrue val (own_then b t z v y w)
      by true is =
          let parts = and_parts (z == y) (v == w) is in
          succeeded val (becomes (after (Then t z v y w)) (after (Last z v))) else_less h.success
          (all-becomes val (after (Then t z v y w)) (after (Last z v))
          (both-last z v y w lt
          ∙ (sym (ap₂ (λ (k m : ℕ). val (after (Last z v)) && val (after (Last k m))) (eqb-true z y parts.0) (eqb-true v w parts.1)) ∙ and-self (val (after (Last z v))))))
      by false is =
          succeeded val (becomes_both (after (Then t z v y w)) (after (Last z v)) (after (Last y w))) else_less h.success
          (all-becomes_both val (after (Then t z v y w)) (after (Last z v)) (after (Last y w)) (both-last z v y w lt))

  newest-own : (z : ℕ) → AllTrue val (cas_view true (z == x) names t x t z (Newest t z))
  newest-own z =
      succeeded val (always (after (Newest t z))) (becomes (after (Newest t z)) (after (Fenced t z))) h.success
      (all-always val (after (Newest t z)) (ap (λ (k : Seen). reads_newest k z) h.own ∙ law.swapped-newest n x e h.own_views inside z))

  ordered-own : (z : ℕ) → AllTrue val (cas_view true (z == x) names t x t z (Ordered t z))
  ordered-own z =
      succeeded val (always (after (Ordered t z))) (becomes (after (Ordered t z)) (after (Fenced t z))) h.success
      (all-always val (after (Ordered t z)) (ap (λ (k : Seen). covers_ordered k z) h.own ∙ law.swapped-ordered n x e h.own_views inside z))

  fenced-own : (z : ℕ) → AllTrue val (own_fenced (z == x) t x z)
  fenced-own z = by (z == x)
    where
      covered : AllTrue val (always (after (Fenced t z)))
      covered = all-always val (after (Fenced t z)) (ap (λ (k : Seen). covers_fenced k z) h.own ∙ law.swapped-fenced n x e h.own_views inside z)

      gains_it : List (List StepLiteral)
      gains_it = implies (before (Fenced t z) ∷ []) (after (Fenced t z) ∷ []) ∷ []

      by : (b : Bool) → AllTrue val (own_fenced b t x z)
      by true = succeeded val (always (after (Fenced t z))) gains_it h.success covered
      by false = succeeded val (always (after (Fenced t z))) (gains_it ++ implies (before (Fenced t x) ∷ after (Fenced t z) ∷ []) (before (Fenced t z) ∷ []) ∷ []) h.success covered

  -- ---- last values, and another thread

  last-row : (z v : ℕ) → AllTrue val (if_stored (z == x) names t x (Last z v))
  last-row z v =
      let row = written-last d act choice s next l t x e h.writes z v in
      stored_if val names t x (Last z v) (z == x) h.success row (λ is. subst (λ (b : Bool). AllTrue val (store_last b z v)) is row)

  module _ (u : ℕ) (thread : IsThreadNumber l u) (other : u ≢ t) where
    apart : (u == t) ≡ false
    apart = ne_eqb u t other

    read-other : (z v : ℕ) → AllTrue val (if_stored (z == x) names t x (Read u z v))
    read-other z v =
        let row = written-read d act choice s next l t x e h.writes u thread other z v in
        stored_if val names t x (Read u z v) (z == x) h.success (subst (λ (b : Bool). AllTrue val (store_read b (z == x) u z v)) (sym apart) row)
        (λ is. subst (λ (b : Bool). AllTrue val (store_read false b u z v)) is row)

    then-other : (z v y w : ℕ) → z < l.locations → AllTrue val (if_stored (z == x || y == x) names t x (Then u z v y w))
    then-other z v y w lt =
        let row = written-then d act choice s next l t x e h.writes u thread other z v y w lt in
        stored_if val names t x (Then u z v y w) (z == x || y == x) h.success
        (subst (λ (b : Bool). AllTrue val (store_then b (z == x) (y == x) (v == w) u z v y w)) (sym apart) row)
        (λ is.
        let parts = or_parts (z == x) (y == x) is in
        subst (λ (b : Bool). AllTrue val (store_then false false b (v == w) u z v y w)) parts.1
        (subst (λ (b : Bool). AllTrue val (store_then false b (y == x) (v == w) u z v y w)) parts.0 row))

    newest-other : (z : ℕ) → AllTrue val (if_stored (z == x) names t x (Newest u z))
    newest-other z =
        let row = written-newest d act choice s next l t x e h.writes u thread other z in
        stored_if val names t x (Newest u z) (z == x) h.success (subst (λ (b : Bool). AllTrue val (store_newest b (z == x) u z)) (sym apart) row)
        (λ is. subst (λ (b : Bool). AllTrue val (store_newest false b u z)) is row)

    ordered-other : (z : ℕ) → AllTrue val (if_stored (z == x) names t x (Ordered u z))
    ordered-other z =
        let near = same_line names x z in
        let row = written-ordered d act choice s next l t x e h.writes u thread other z near in
        stored_if val names t x (Ordered u z) (z == x) h.success (subst (λ (b : Bool). AllTrue val (store_ordered b (z == x) near u z)) (sym apart) row)
        (λ is. subst (λ (b : Bool). AllTrue val (store_ordered false b near u z)) is row)

    fenced-other : (z : ℕ) → AllTrue val (if_stored (z == x) names t x (Fenced u z))
    fenced-other z =
        let row = written-fenced d act choice s next l t x e h.writes u thread other z in
        stored_if val names t x (Fenced u z) (z == x) h.success (subst (λ (b : Bool). AllTrue val (store_fenced b (z == x) u z)) (sym apart) row)
        (λ is. subst (λ (b : Bool). AllTrue val (store_fenced false b u z)) is row)

  -- ---- the row of each atom

  pub true_swap : AreRows val l (cas l names t r x)
  true_swap = record {
    last = λ z v i. last-row z v;
    read = λ u z w i. by_own val t (λ o k. cas_read l o (z == x) names t r x k z w) u (read-own z w) (λ other. read-other u i.0 other z w);
    pairs = λ u z v y w i.
        by_own val t (λ o k. cas_then o (z == x || y == x) (z == y && v == w) names t x k z v y w) u (then-own z v y w i.1)
        (λ other. then-other u i.0 other z v y w i.1);
    newest = λ u z i. by_own val t (λ o k. cas_view o (z == x) names t x k z (Newest k z)) u (newest-own z) (λ other. newest-other u i.0 other z);
    ordered = λ u z i. by_own val t (λ o k. cas_view o (z == x) names t x k z (Ordered k z)) u (ordered-own z) (λ other. ordered-other u i.0 other z);
    fenced = λ u z i. by_own val t (λ o k. cas_fenced o (z == x) names t x k z) u (fenced-own z) (λ other. fenced-other u i.0 other z);
  }

  -- the scalar that is read into has the value that was expected
  pub swap-scalar : (q k : ℕ) → get_or next.scalars q 0 ≡ get_or (set s.scalars r g) q 0 → r < length s.scalars → AllTrue val (cas_scalar (q == r) t x q k)
  swap-scalar q k is lt = by (q == r) refl
    where
      others : List (List StepLiteral)
      others =
          implies (after (Scalar q k) ∷ Expected k ∷ []) []
          ∷ implies (after (Scalar q k) ∷ []) (before (Read t x k) ∷ [])
          ∷ implies (after (Scalar q k) ∷ before (Fenced t x) ∷ []) (before (Last x k) ∷ [])
          ∷ []

      by : (b : Bool) → (q == r) ≡ b → AllTrue val (cas_scalar b t x q k)
      by true here =
          succeeded val (becomes (after (Scalar q k)) (Expected k)) others h.success
          (all-becomes val (after (Scalar q k)) (Expected k)
          (ap (λ (v : ℕ). v == k) (is ∙ (ap (λ (j : ℕ). get_or (set s.scalars r g) j 0) (eqb-true q r here) ∙ get_or-set_same s.scalars r g 0 lt))
          ∙ sym (ap (λ (o : Option ℕ). is_some o k) h.expected)))
      by false here = all-becomes val (after (Scalar q k)) (before (Scalar q k)) (ap (λ (v : ℕ). v == k) (is ∙ get_or-set_other s.scalars r q g 0 (eqb-false q r here)))
