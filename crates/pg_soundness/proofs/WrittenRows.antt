-- The rows of a store that speak of last values and of the other threads are true where a thread writes to a location, by a store or
-- by a cas that succeeds.
use Rattle.std.proofs.Common.{◌≡◌, ◌≢◌, ℕ, ◌<◌, ◌≤◌, ◌==◌, Bool, true, false, not, ◌&&◌, ◌||◌, length, Option, Some, refl, sym, ap, subst, ◌∙◌, arith}
use Rattle.std.proofs.lemmas.Bool.{eqb-true, eqb-false}
use Rattle.pg_program.specs.declared.syntax.Act.{Act}
use Rattle.pg_program.specs.declared.syntax.Act.TheOpen.{Act-F}
use Rattle.pg_program.specs.declared.syntax.Stmt.{Stmt}
use Rattle.pg_assertion.specs.declared.atom.ViewAtom.TheVariants.{Last, Read, Then, Newest, Ordered, Fenced}
use Rattle.pg_assertion.specs.declared.step_atom.StepAtom.{StepAtom}
use Rattle.pg_assertion.specs.declared.step_atom.StepAtom.TheVariants.{Value}
use Rattle.pg_assertion.specs.Layout.{Sizes, IsThreadNumber}
use Rattle.pg_machine.specs.Memory.{Memory, message_appended}
use Rattle.pg_machine.specs.State.{State, AreViews}
use Rattle.pg_machine.specs.Moves.{Seen}
use Rattle.pg_machine.specs.Step.{seen_by, views_of}
use Rattle.pg_views.specs.Atom.{is_last, may_read, may_read_then, reads_newest, covers_ordered, covers_fenced}
use Rattle.pg_views.specs.Valuation.{is_some, new_value, step_atom_holds}
use Rattle.pg_tables.specs.Shapes.{before, after}
use Rattle.pg_tables.specs.Truth.{AllTrue}
use Rattle.pg_tables.proofs.Truth.{all-never, all-becomes, all-gains, all-gains_both}
use Rattle.pg_rules_access.specs.Store.{store_last, store_read, store_then, store_newest, store_ordered, store_fenced}
use Rattle.pg_soundness.proofs.Longer.{is_last-here, is_last-there}
use Rattle.pg_soundness.proofs.StoredOther as law
use Rattle.pg_soundness.proofs.StoredOther.{longer}

-- The act of thread t has the value e, and appends it as a message to x. Each other thread sees the longer memory through the views
-- that it had.
pub record Writes (d : ℕ) (act : Act-F Act Stmt) (s next : State) (l : Sizes) (t x e : ℕ) : Type 0 where
  pub value : new_value d s.scalars act ≡ Some e
  pub memory : next.memory ≡ message_appended s.memory (x, e)
  pub other : (u : ℕ) → 1 ≤ u → u ≢ t → seen_by next u ≡ longer (seen_by s u) (x, e)
  pub views : (u : ℕ) → IsThreadNumber l u → AreViews s.memory (views_of s u)
  pub inside : x < length s.memory.initial
  pub located : length s.memory.initial ≡ l.locations

-- two reads of the location: the new message is one of them, or both, or neither
twice-apart : (is was read from to : Bool) → is ≡ ((from && to) || (was || (read && to)))
    → ((not is || (was || (to || false))) && ((not is || (was || (read || (from || false)))) && ((not was || (is || false)) && ((not read || (not to || (is || false))) && ((not from || (not to || (is || false))) && true))))) ≡ true
twice-apart is true true true true h = rw h
twice-apart is true true true false h = rw h
twice-apart is true true false true h = rw h
twice-apart is true true false false h = rw h
twice-apart is true false true true h = rw h
twice-apart is true false true false h = rw h
twice-apart is true false false true h = rw h
twice-apart is true false false false h = rw h
twice-apart is false true true true h = rw h
twice-apart is false true true false h = rw h
twice-apart is false true false true h = rw h
twice-apart is false true false false h = rw h
twice-apart is false false true true h = rw h
twice-apart is false false true false h = rw h
twice-apart is false false false true h = rw h
twice-apart is false false false false h = rw h

twice-same : (is was read both : Bool) → is ≡ ((both && both) || (was || (read && both)))
    → ((not is || (was || (both || false))) && ((not is || (was || (read || (both || false)))) && ((not was || (is || false)) && ((not read || (not both || (is || false))) && ((not both || (is || false)) && true))))) ≡ true
twice-same is true true true h = rw h
twice-same is true true false h = rw h
twice-same is true false true h = rw h
twice-same is true false false h = rw h
twice-same is false true true h = rw h
twice-same is false true false h = rw h
twice-same is false false true h = rw h
twice-same is false false false h = rw h

module _ (d : ℕ) (act : Act-F Act Stmt) (choice : Option ℕ) (s next : State) (l : Sizes) (t x e : ℕ) (h : Writes d act s next l t x e) where
  abbrev val : StepAtom → Bool
  val = step_atom_holds d act choice s next

  pub value-is : (v : ℕ) → (e == v) ≡ val (Value v)
  value-is v = sym (ap (λ (o : Option ℕ). is_some o v) h.value)

  -- ---- last values

  pub written-last : (z v : ℕ) → AllTrue val (store_last (z == x) z v)
  written-last z v = by (z == x) refl
    where
      by : (b : Bool) → (z == x) ≡ b → AllTrue val (store_last b z v)
      by true is =
          subst (λ (y : ℕ). AllTrue val (store_last true y v)) (sym (eqb-true z x is))
          (all-becomes val (after (Last x v)) (Value v) (ap (λ (m : Memory). is_last m x v) h.memory ∙ (is_last-here s.memory x e v ∙ value-is v)))
      by false is =
          all-becomes val (after (Last z v)) (before (Last z v)) (ap (λ (m : Memory). is_last m z v) h.memory ∙ is_last-there s.memory x e z v (eqb-false z x is))

  -- ---- another thread

  module _ (u : ℕ) (thread : IsThreadNumber l u) (other : u ≢ t) where
    abbrev n : Seen
    n = seen_by s u

    views : AreViews s.memory n.views
    views = h.views u thread

    sees : seen_by next u ≡ longer n (x, e)
    sees = h.other u thread.first other

    within : (z : ℕ) → z < l.locations → z < length s.memory.initial
    within z lt = let size = h.located in omega (arith, size, lt)

    pub written-read : (z v : ℕ) → AllTrue val (store_read false (z == x) u z v)
    written-read z v = by (z == x) refl
      where
        by : (b : Bool) → (z == x) ≡ b → AllTrue val (store_read false b u z v)
        by true is =
            subst (λ (y : ℕ). AllTrue val (store_read false true u y v)) (sym (eqb-true z x is))
            (all-gains val (after (Read u x v)) (before (Read u x v)) (Value v)
            (ap (λ (k : Seen). may_read k x v) sees ∙ (law.other-read-here n x e views v ∙ ap (λ (b : Bool). may_read n x v || b) (value-is v))))
        by false is =
            all-becomes val (after (Read u z v)) (before (Read u z v)) (ap (λ (k : Seen). may_read k z v) sees ∙ law.other-read-there n x e views z v (eqb-false z x is))

    twice-row : (v w : ℕ) → AllTrue val (store_then false true true (v == w) u x v x w)
    twice-row v w = by (v == w) refl
      where
        reads : (k : ℕ)
            → val (after (Then u x v x k)) ≡ ((val (Value v) && val (Value k)) || (val (before (Then u x v x k)) || (val (before (Read u x v)) && val (Value k))))
        reads k =
            ap (λ (o : Seen). may_read_then o x v x k) sees
            ∙ (law.other-then-same n x e views h.inside v k
            ∙ (ap (λ (b : Bool). (b && (e == k)) || (may_read_then n x v x k || (may_read n x v && (e == k)))) (value-is v)
            ∙ ap (λ (b : Bool). (val (Value v) && b) || (may_read_then n x v x k || (may_read n x v && b))) (value-is k)))

        by : (b : Bool) → (v == w) ≡ b → AllTrue val (store_then false true true b u x v x w)
        by true is =
            subst (λ (k : ℕ). AllTrue val (store_then false true true true u x v x k)) (eqb-true v w is)
            (record { all = twice-same (val (after (Then u x v x v))) (val (before (Then u x v x v))) (val (before (Read u x v))) (val (Value v)) (reads v) })
        by false is = record { all = twice-apart (val (after (Then u x v x w))) (val (before (Then u x v x w))) (val (before (Read u x v))) (val (Value v)) (val (Value w)) (reads w) }

    from-row : (v y w : ℕ) → y ≢ x → AllTrue val (store_then false true false (v == w) u x v y w)
    from-row v y w apart =
        all-gains_both val (after (Then u x v y w)) (before (Then u x v y w)) (Value v) (before (Last y w))
        (ap (λ (k : Seen). may_read_then k x v y w) sees
        ∙ (law.other-then-from n x e views h.inside v y w apart ∙ ap (λ (b : Bool). may_read_then n x v y w || (b && is_last s.memory y w)) (value-is v)))

    to-row : (z v w : ℕ) → z < l.locations → z ≢ x → AllTrue val (store_then false false true (v == w) u z v x w)
    to-row z v w lt apart =
        all-gains_both val (after (Then u z v x w)) (before (Then u z v x w)) (before (Read u z v)) (Value w)
        (ap (λ (k : Seen). may_read_then k z v x w) sees
        ∙ (law.other-then-to n x e views z v w (within z lt) apart ∙ ap (λ (b : Bool). may_read_then n z v x w || (may_read n z v && b)) (value-is w)))

    pub written-then : (z v y w : ℕ) → z < l.locations → AllTrue val (store_then false (z == x) (y == x) (v == w) u z v y w)
    written-then z v y w lt = by (z == x) (y == x) refl refl
      where
        by : (a b : Bool) → (z == x) ≡ a → (y == x) ≡ b → AllTrue val (store_then false a b (v == w) u z v y w)
        by true true p q =
            subst (λ (k : ℕ). AllTrue val (store_then false true true (v == w) u k v y w)) (sym (eqb-true z x p))
            (subst (λ (k : ℕ). AllTrue val (store_then false true true (v == w) u x v k w)) (sym (eqb-true y x q)) (twice-row v w))
        by true false p q =
            subst (λ (k : ℕ). AllTrue val (store_then false true false (v == w) u k v y w)) (sym (eqb-true z x p)) (from-row v y w (eqb-false y x q))
        by false true p q =
            subst (λ (k : ℕ). AllTrue val (store_then false false true (v == w) u z v k w)) (sym (eqb-true y x q)) (to-row z v w lt (eqb-false z x p))
        by false false p q =
            all-becomes val (after (Then u z v y w)) (before (Then u z v y w))
            (ap (λ (k : Seen). may_read_then k z v y w) sees ∙ law.other-then-others n x e views z v y w (within z lt) (eqb-false z x p) (eqb-false y x q))

    pub written-newest : (z : ℕ) → AllTrue val (store_newest false (z == x) u z)
    written-newest z = by (z == x) refl
      where
        by : (b : Bool) → (z == x) ≡ b → AllTrue val (store_newest false b u z)
        by true is =
            subst (λ (y : ℕ). AllTrue val (store_newest false true u y)) (sym (eqb-true z x is))
            (all-never val (after (Newest u x)) (ap (λ (k : Seen). reads_newest k x) sees ∙ law.other-newest-here n x e views))
        by false is =
            all-becomes val (after (Newest u z)) (before (Newest u z)) (ap (λ (k : Seen). reads_newest k z) sees ∙ law.other-newest-there n x e views z (eqb-false z x is))

    pub written-ordered : (z : ℕ) (near : Bool) → AllTrue val (store_ordered false (z == x) near u z)
    written-ordered z near = by (z == x) refl
      where
        by : (b : Bool) → (z == x) ≡ b → AllTrue val (store_ordered false b near u z)
        by true is =
            subst (λ (y : ℕ). AllTrue val (store_ordered false true near u y)) (sym (eqb-true z x is))
            (all-never val (after (Ordered u x)) (ap (λ (k : Seen). covers_ordered k x) sees ∙ law.other-ordered-here n x e views))
        by false is =
            all-becomes val (after (Ordered u z)) (before (Ordered u z)) (ap (λ (k : Seen). covers_ordered k z) sees ∙ law.other-ordered-there n x e views z (eqb-false z x is))

    pub written-fenced : (z : ℕ) → AllTrue val (store_fenced false (z == x) u z)
    written-fenced z = by (z == x) refl
      where
        by : (b : Bool) → (z == x) ≡ b → AllTrue val (store_fenced false b u z)
        by true is =
            subst (λ (y : ℕ). AllTrue val (store_fenced false true u y)) (sym (eqb-true z x is))
            (all-never val (after (Fenced u x)) (ap (λ (k : Seen). covers_fenced k x) sees ∙ law.other-fenced-here n x e views))
        by false is =
            all-becomes val (after (Fenced u z)) (before (Fenced u z)) (ap (λ (k : Seen). covers_fenced k z) sees ∙ law.other-fenced-there n x e views z (eqb-false z x is))
