-- The rows of what a crash may leave are true of what an act leaves.
use Rattle.std.proofs.Common.{◌≡◌, ℕ, ◌<◌, ◌≤◌, ◌==◌, max, Bool, true, false, not, ◌&&◌, ◌||◌, List, ◌++◌, length, inl, inr, refl, sym, ap, ap₂, subst, ◌∙◌, arith}
use Rattle.std.proofs.lemmas.Bool.{cases_eq, eqb-true, eqb-false, true≢false}
use Rattle.pg_assertion.specs.declared.atom.ViewAtom.{ViewAtom}
use Rattle.pg_assertion.specs.declared.atom.ViewAtom.TheVariants.{Persist, Async}
use Rattle.pg_assertion.specs.declared.layout.Side.TheVariants.{Before, After}
use Rattle.pg_assertion.specs.declared.step_atom.StepAtom.{StepAtom}
use Rattle.pg_assertion.specs.declared.step_atom.StepAtom.TheVariants.{On, Value, Success}
use Rattle.pg_assertion.specs.Layout.{Sizes}
use Rattle.pg_machine.specs.Memory.{line_of}
use Rattle.pg_machine.specs.State.{State, vpa_of, vpc_of, committed}
use Rattle.pg_machine.specs.Moves.{Seen}
use Rattle.pg_machine.specs.Step.{views_of}
use Rattle.pg_views.specs.Atom.{is_shown, committed_to, committed_next, atom_holds}
use Rattle.pg_tables.specs.declared.clause.StepLiteral.{StepLiteral}
use Rattle.pg_tables.specs.declared.clause.Case.TheVariants.{Succeeds, Fails}
use Rattle.pg_tables.specs.Table.{under}
use Rattle.pg_tables.specs.Truth.{AllTrue}
use Rattle.pg_tables.specs.Shapes.{before, after, frame, becomes, becomes_both, gains}
use Rattle.pg_tables.proofs.Truth.{all-append, all-threads, all-locations, all-values, all-succeeds, all-fails, all-becomes, all-becomes_both, all-gains}
use Rattle.pg_rules_persist.specs.Rows.{store, fence, cas, store_gains, fence_async, cas_persist, cas_async, becomes_both_or}
use Rattle.pg_rules_persist.specs.Persist.{persist_rows}
use Rattle.pg_soundness.proofs.PersistShown.{shown-both}
use Rattle.pg_soundness.proofs.PersistBounds.{LeavesSeen, kept-persist, kept-own, kept-other, back-persist, back-own, back-other}

-- ---- tables

pub record RowsAreTrue (l : Sizes) (val : StepAtom → Bool) (row : ViewAtom → List (List StepLiteral)) : Type 0 where
  pub persist : (z v : ℕ) → z < l.locations → AllTrue val (row (Persist z v))
  pub async : (u z v : ℕ) → 1 ≤ u → u ≤ l.threads → z < l.locations → AllTrue val (row (Async u z v))

pub all-rows : (l : Sizes) (val : StepAtom → Bool) (row : ViewAtom → List (List StepLiteral)) → RowsAreTrue l val row → AllTrue val (persist_rows l row)
all-rows l val row h =
    all-append val _ _
    (all-locations val l (λ z iz. all-values val l (λ v iv. let inside = iz.to in h.persist z v (omega (arith, inside)))))
    (all-threads val l (λ u iu. all-locations val l (λ z iz. all-values val l (λ v iv.
    let high = iu.to in
    let inside = iz.to in
    h.async u z v iu.from (omega (arith, high)) (omega (arith, inside))))))

both_or : (a b c k : Bool) → a ≡ ((b && c) || k)
    → ((not a || (b || (k || false))) && ((not a || (c || (k || false))) && ((not b || (not c || (a || false))) && ((not k || (a || false)) && true)))) ≡ true
both_or a true true true h = rw h
both_or a true true false h = rw h
both_or a true false true h = rw h
both_or a true false false h = rw h
both_or a false true true h = rw h
both_or a false true false h = rw h
both_or a false false true h = rw h
both_or a false false false h = rw h

all-becomes_both_or : (val : StepAtom → Bool) (a b c k : StepAtom) → val a ≡ ((val b && val c) || val k) → AllTrue val (becomes_both_or a b c k)
all-becomes_both_or val a b c k h = record { all = both_or (val a) (val b) (val c) (val k) h }

-- rows under the cases of a cas are true where those of its case are
module _ (val : StepAtom → Bool) (cs ds : List (List StepLiteral)) where
  of_success : val Success ≡ true → AllTrue val cs → AllTrue val (under Succeeds cs ++ under Fails ds)
  of_success is h = all-append val (under Succeeds cs) (under Fails ds) (all-succeeds val cs (λ k. h)) (all-fails val ds (λ k. absurd (true≢false (sym is ∙ k))))

  of_failure : val Success ≡ false → AllTrue val ds → AllTrue val (under Succeeds cs ++ under Fails ds)
  of_failure is h = all-append val (under Succeeds cs) (under Fails ds) (all-succeeds val cs (λ k. absurd (true≢false (sym k ∙ is)))) (all-fails val ds (λ k. h))

-- ---- what a step changes of the values that are shown

-- no bound lies beyond the memory
pub record AreBounded (s : State) (threads : ℕ) : Type 0 where
  pub committed : (l : ℕ) → committed s l ≤ length s.memory.messages
  pub begun : (u l : ℕ) → 1 ≤ u → u ≤ threads → vpa_of (views_of s u) l ≤ length s.memory.messages

-- the values of z that are shown up to a bound stay, or the value e comes to them
pub record StaysAt (s : State) (n : Seen) (z : ℕ) : Type 0 where
  pub shown : (k v : ℕ) → k ≤ length s.memory.messages → is_shown n.memory z 0 k v ≡ is_shown s.memory z 0 k v

pub record GainsAt (s : State) (n : Seen) (z e : ℕ) : Type 0 where
  pub shown : (k v : ℕ) → k ≤ length s.memory.messages → is_shown n.memory z 0 k v ≡ (is_shown s.memory z 0 k v || (e == v))

-- the line of z is not written back to, or what the thread has begun to write back to it is committed
pub record IsKept (s : State) (t : ℕ) (n : Seen) (z : ℕ) : Type 0 where
  pub committed : vpc_of n.views (line_of s.memory z) ≡ vpc_of (views_of s t) (line_of s.memory z)

pub record IsBack (s : State) (t : ℕ) (n : Seen) (z : ℕ) : Type 0 where
  pub committed : vpc_of n.views (line_of s.memory z) ≡ max (vpc_of (views_of s t) (line_of s.memory z)) (vpa_of (views_of s t) (line_of s.memory z))

-- and nothing more has begun to be written back
pub record IsNotBegun (s : State) (t : ℕ) (n : Seen) (z : ℕ) : Type 0 where
  pub begun : vpa_of n.views (line_of s.memory z) ≡ vpa_of (views_of s t) (line_of s.memory z)

-- ---- atoms

module _ (s next : State) (t threads : ℕ) (n : Seen) (h : LeavesSeen s next t n) (low : 1 ≤ t) (high : t ≤ threads) (few : AreBounded s threads) (z v : ℕ) where
  few-next : (u : ℕ) → 1 ≤ u → u ≤ threads → committed_next s u z ≤ length s.memory.messages
  few-next u from upto = let a = few.committed (line_of s.memory z) in let b = few.begun u (line_of s.memory z) from upto in omega (arith, a, b)

  few-both : (u : ℕ) → 1 ≤ u → u ≤ threads → max (committed_next s u z) (committed_next s t z) ≤ length s.memory.messages
  few-both u from upto = let a = few-next u from upto in let b = few-next t low high in omega (arith, a, b)

  kept-any : (u : ℕ) → 1 ≤ u → IsKept s t n z → IsNotBegun s t n z → atom_holds next (Async u z v) ≡ is_shown n.memory z 0 (committed_next s u z) v
  kept-any u from kept idle = elim (cases_eq u t) [
    | inl same ↦
        subst (λ (k : ℕ). atom_holds next (Async k z v) ≡ is_shown n.memory z 0 (committed_next s k z) v) (sym same) (kept-own s next t n h z v kept.committed idle.begun)
    | inr other ↦ kept-other s next t n h z v kept.committed u from other
  ]

  module _ (stays : StaysAt s n z) where
    pub persist-kept : IsKept s t n z → atom_holds next (Persist z v) ≡ atom_holds s (Persist z v)
    persist-kept kept = kept-persist s next t n h z v kept.committed ∙ stays.shown (committed_to s z) v (few.committed (line_of s.memory z))

    pub async-kept : (u : ℕ) → 1 ≤ u → u ≤ threads → IsKept s t n z → IsNotBegun s t n z → atom_holds next (Async u z v) ≡ atom_holds s (Async u z v)
    async-kept u from upto kept idle = kept-any u from kept idle ∙ stays.shown (committed_next s u z) v (few-next u from upto)

    pub other-kept : (u : ℕ) → 1 ≤ u → u ≤ threads → (u ≡ t → ⊥) → IsKept s t n z → atom_holds next (Async u z v) ≡ atom_holds s (Async u z v)
    other-kept u from upto other kept = kept-other s next t n h z v kept.committed u from other ∙ stays.shown (committed_next s u z) v (few-next u from upto)

    pub persist-fenced : IsBack s t n z → atom_holds next (Persist z v) ≡ atom_holds s (Async t z v)
    persist-fenced back = back-persist s next t n h z v back.committed ∙ stays.shown (committed_next s t z) v (few-next t low high)

    pub own-fenced : IsBack s t n z → IsNotBegun s t n z → atom_holds next (Async t z v) ≡ atom_holds s (Async t z v)
    own-fenced back idle = back-own s next t n h z v back.committed idle.begun ∙ stays.shown (committed_next s t z) v (few-next t low high)

    pub other-fenced : (u : ℕ) → 1 ≤ u → u ≤ threads → (u ≡ t → ⊥) → IsBack s t n z → atom_holds next (Async u z v) ≡ (atom_holds s (Async u z v) && atom_holds s (Async t z v))
    other-fenced u from upto other back =
        back-other s next t n h z v back.committed u from other
        ∙ (stays.shown (max (committed_next s u z) (committed_next s t z)) v (few-both u from upto) ∙ shown-both s.memory z 0 (committed_next s u z) (committed_next s t z) v)

  module _ (e : ℕ) (new : GainsAt s n z e) where
    pub persist-stored : IsKept s t n z → atom_holds next (Persist z v) ≡ (atom_holds s (Persist z v) || (e == v))
    persist-stored kept = kept-persist s next t n h z v kept.committed ∙ new.shown (committed_to s z) v (few.committed (line_of s.memory z))

    pub async-stored : (u : ℕ) → 1 ≤ u → u ≤ threads → IsKept s t n z → IsNotBegun s t n z → atom_holds next (Async u z v) ≡ (atom_holds s (Async u z v) || (e == v))
    async-stored u from upto kept idle = kept-any u from kept idle ∙ new.shown (committed_next s u z) v (few-next u from upto)

    pub persist-swapped : IsBack s t n z → atom_holds next (Persist z v) ≡ (atom_holds s (Async t z v) || (e == v))
    persist-swapped back = back-persist s next t n h z v back.committed ∙ new.shown (committed_next s t z) v (few-next t low high)

    pub own-swapped : IsBack s t n z → IsNotBegun s t n z → atom_holds next (Async t z v) ≡ (atom_holds s (Async t z v) || (e == v))
    own-swapped back idle = back-own s next t n h z v back.committed idle.begun ∙ new.shown (committed_next s t z) v (few-next t low high)

    pub other-swapped : (u : ℕ) → 1 ≤ u → u ≤ threads → (u ≡ t → ⊥) → IsBack s t n z
        → atom_holds next (Async u z v) ≡ ((atom_holds s (Async u z v) && atom_holds s (Async t z v)) || (e == v))
    other-swapped u from upto other back =
        back-other s next t n h z v back.committed u from other
        ∙ (new.shown (max (committed_next s u z) (committed_next s t z)) v (few-both u from upto)
        ∙ ap (λ (b : Bool). b || (e == v)) (shown-both s.memory z 0 (committed_next s u z) (committed_next s t z) v))

-- ---- rows

-- a valuation of a step whose atoms before and after it are those of the states
pub record IsOfStates (val : StepAtom → Bool) (s next : State) : Type 0 where
  pub before : (a : ViewAtom) → val (On a Before) ≡ atom_holds s a
  pub after : (a : ViewAtom) → val (On a After) ≡ atom_holds next a

module _ (val : StepAtom → Bool) (s next : State) (is : IsOfStates val s next) where
  pub row-frame : (a : ViewAtom) → atom_holds next a ≡ atom_holds s a → AllTrue val (frame a)
  row-frame a q = all-becomes val (after a) (before a) (is.after a ∙ (q ∙ sym (is.before a)))

  pub row-becomes : (a b : ViewAtom) → atom_holds next a ≡ atom_holds s b → AllTrue val (becomes (after a) (before b))
  row-becomes a b q = all-becomes val (after a) (before b) (is.after a ∙ (q ∙ sym (is.before b)))

  pub row-both : (a b c : ViewAtom) → atom_holds next a ≡ (atom_holds s b && atom_holds s c) → AllTrue val (becomes_both (after a) (before b) (before c))
  row-both a b c q = all-becomes_both val (after a) (before b) (before c) (is.after a ∙ (q ∙ ap₂ (λ (x y : Bool). x && y) (sym (is.before b)) (sym (is.before c))))

  pub row-gains : (a b : ViewAtom) (v : ℕ) (k : Bool) → val (Value v) ≡ k → atom_holds next a ≡ (atom_holds s b || k) → AllTrue val (gains (after a) (before b) (Value v))
  row-gains a b v k f q = all-gains val (after a) (before b) (Value v) (is.after a ∙ (q ∙ ap₂ (λ (x y : Bool). x || y) (sym (is.before b)) (sym f)))

  pub row-both_or : (a b c : ViewAtom) (v : ℕ) (k : Bool) → val (Value v) ≡ k → atom_holds next a ≡ ((atom_holds s b && atom_holds s c) || k)
      → AllTrue val (becomes_both_or (after a) (before b) (before c) (Value v))
  row-both_or a b c v k f q =
      all-becomes_both_or val (after a) (before b) (before c) (Value v)
      (is.after a ∙ (q ∙ ap₂ (λ (x y : Bool). x || y) (ap₂ (λ (x y : Bool). x && y) (sym (is.before b)) (sym (is.before c))) (sym f)))

-- ---- the rows of acts

module _ (l : Sizes) (val : StepAtom → Bool) (s next : State) (is : IsOfStates val s next) (t : ℕ) (n : Seen) (h : LeavesSeen s next t n) (low : 1 ≤ t) (high : t ≤ l.threads) (few : AreBounded s l.threads) where
  same-thread : (u : ℕ) (row : ℕ → List (List StepLiteral)) → (u == t) ≡ true → AllTrue val (row t) → AllTrue val (row u)
  same-thread u row e r = subst (λ (k : ℕ). AllTrue val (row k)) (sym (eqb-true u t e)) r

  -- ---- an act that neither stores nor writes back

  pub idle-rows : ((z : ℕ) → StaysAt s n z) → ((z : ℕ) → IsKept s t n z) → ((z : ℕ) → IsNotBegun s t n z) → RowsAreTrue l val frame
  idle-rows stays kept idle = record {
    persist = λ z v inside. row-frame val s next is (Persist z v) (persist-kept s next t l.threads n h low high few z v (stays z) (kept z));
    async = λ u z v from upto inside. row-frame val s next is (Async u z v) (async-kept s next t l.threads n h low high few z v (stays z) u from upto (kept z) (idle z));
  }

  -- ---- a store to x

  module _ (x e : ℕ) (value : (v : ℕ) → val (Value v) ≡ (e == v)) (here : (z : ℕ) → (z == x) ≡ true → GainsAt s n z e) (there : (z : ℕ) → (z == x) ≡ false → StaysAt s n z) where
    pub store-rows : ((z : ℕ) → IsKept s t n z) → ((z : ℕ) → IsNotBegun s t n z) → RowsAreTrue l val (store x)
    store-rows kept idle = record {
      persist = λ z v inside. persist-row z v (z == x) refl;
      async = λ u z v from upto inside. async-row u z v from upto (z == x) refl;
    }
      where
        persist-row : (z v : ℕ) (b : Bool) → (z == x) ≡ b → AllTrue val (store_gains b (Persist z v) v)
        persist-row z v true q =
            row-gains val s next is (Persist z v) (Persist z v) v (e == v) (value v) (persist-stored s next t l.threads n h low high few z v e (here z q) (kept z))
        persist-row z v false q = row-frame val s next is (Persist z v) (persist-kept s next t l.threads n h low high few z v (there z q) (kept z))

        async-row : (u z v : ℕ) → 1 ≤ u → u ≤ l.threads → (b : Bool) → (z == x) ≡ b → AllTrue val (store_gains b (Async u z v) v)
        async-row u z v from upto true q =
            row-gains val s next is (Async u z v) (Async u z v) v (e == v) (value v) (async-stored s next t l.threads n h low high few z v e (here z q) u from upto (kept z) (idle z))
        async-row u z v from upto false q =
            row-frame val s next is (Async u z v) (async-kept s next t l.threads n h low high few z v (there z q) u from upto (kept z) (idle z))

  -- ---- a fence

  module _ (back : (z : ℕ) → IsBack s t n z) (idle : (z : ℕ) → IsNotBegun s t n z) where
    persist-back : (z v : ℕ) → StaysAt s n z → AllTrue val (becomes (after (Persist z v)) (before (Async t z v)))
    persist-back z v stays = row-becomes val s next is (Persist z v) (Async t z v) (persist-fenced s next t l.threads n h low high few z v stays (back z))

    own-back : (u z v : ℕ) → (u == t) ≡ true → StaysAt s n z → AllTrue val (frame (Async u z v))
    own-back u z v e stays =
        same-thread u (λ k. frame (Async k z v)) e (row-frame val s next is (Async t z v) (own-fenced s next t l.threads n h low high few z v stays (back z) (idle z)))

    other-back : (u z v : ℕ) → 1 ≤ u → u ≤ l.threads → (u == t) ≡ false → StaysAt s n z → AllTrue val (becomes_both (after (Async u z v)) (before (Async u z v)) (before (Async t z v)))
    other-back u z v from upto e stays =
        row-both val s next is (Async u z v) (Async u z v) (Async t z v) (other-fenced s next t l.threads n h low high few z v stays u from upto (eqb-false u t e) (back z))

    pub fence-rows : ((z : ℕ) → StaysAt s n z) → RowsAreTrue l val (fence t)
    fence-rows stays = record {
      persist = λ z v inside. persist-back z v (stays z);
      async = λ u z v from upto inside. async-row u z v from upto (u == t) refl;
    }
      where
        async-row : (u z v : ℕ) → 1 ≤ u → u ≤ l.threads → (b : Bool) → (u == t) ≡ b → AllTrue val (fence_async b t u z v)
        async-row u z v from upto true e = own-back u z v e (stays z)
        async-row u z v from upto false e = other-back u z v from upto e (stays z)

    -- ---- a cas on x that fails, which fences

    pub miss-rows : (x : ℕ) → val Success ≡ false → ((z : ℕ) → StaysAt s n z) → RowsAreTrue l val (cas t x)
    miss-rows x fails stays = record {
      persist = λ z v inside. persist-row z v (z == x);
      async = λ u z v from upto inside. async-row u z v from upto (u == t) (z == x) refl;
    }
      where
        persist-row : (z v : ℕ) (b : Bool) → AllTrue val (cas_persist b t z v)
        persist-row z v true =
            of_failure val (gains (after (Persist z v)) (before (Async t z v)) (Value v)) (becomes (after (Persist z v)) (before (Async t z v))) fails (persist-back z v (stays z))
        persist-row z v false = persist-back z v (stays z)

        async-row : (u z v : ℕ) → 1 ≤ u → u ≤ l.threads → (b c : Bool) → (u == t) ≡ b → AllTrue val (cas_async b c t u z v)
        async-row u z v from upto true true e =
            of_failure val (gains (after (Async u z v)) (before (Async u z v)) (Value v)) (frame (Async u z v)) fails (own-back u z v e (stays z))
        async-row u z v from upto true false e = own-back u z v e (stays z)
        async-row u z v from upto false true e =
            of_failure val (becomes_both_or (after (Async u z v)) (before (Async u z v)) (before (Async t z v)) (Value v))
            (becomes_both (after (Async u z v)) (before (Async u z v)) (before (Async t z v))) fails (other-back u z v from upto e (stays z))
        async-row u z v from upto false false e = other-back u z v from upto e (stays z)

    -- ---- and one that succeeds, which stores too

    pub swap-rows : (x e : ℕ) → val Success ≡ true → ((v : ℕ) → val (Value v) ≡ (e == v)) → ((z : ℕ) → (z == x) ≡ true → GainsAt s n z e)
        → ((z : ℕ) → (z == x) ≡ false → StaysAt s n z) → RowsAreTrue l val (cas t x)
    swap-rows x e succeeds value here there = record {
      persist = λ z v inside. persist-row z v (z == x) refl;
      async = λ u z v from upto inside. async-row u z v from upto (u == t) (z == x) refl refl;
    }
      where
        persist-row : (z v : ℕ) (b : Bool) → (z == x) ≡ b → AllTrue val (cas_persist b t z v)
        persist-row z v true q =
            of_success val (gains (after (Persist z v)) (before (Async t z v)) (Value v)) (becomes (after (Persist z v)) (before (Async t z v))) succeeds
            (row-gains val s next is (Persist z v) (Async t z v) v (e == v) (value v) (persist-swapped s next t l.threads n h low high few z v e (here z q) (back z)))
        persist-row z v false q = persist-back z v (there z q)

        own-row : (z v : ℕ) → (z == x) ≡ true → AllTrue val (gains (after (Async t z v)) (before (Async t z v)) (Value v))
        own-row z v q = row-gains val s next is (Async t z v) (Async t z v) v (e == v) (value v) (own-swapped s next t l.threads n h low high few z v e (here z q) (back z) (idle z))

        async-row : (u z v : ℕ) → 1 ≤ u → u ≤ l.threads → (b c : Bool) → (u == t) ≡ b → (z == x) ≡ c → AllTrue val (cas_async b c t u z v)
        async-row u z v from upto true true f q =
            of_success val (gains (after (Async u z v)) (before (Async u z v)) (Value v)) (frame (Async u z v)) succeeds
            (same-thread u (λ j. gains (after (Async j z v)) (before (Async j z v)) (Value v)) f (own-row z v q))
        async-row u z v from upto true false f q = own-back u z v f (there z q)
        async-row u z v from upto false true f q =
            of_success val (becomes_both_or (after (Async u z v)) (before (Async u z v)) (before (Async t z v)) (Value v))
            (becomes_both (after (Async u z v)) (before (Async u z v)) (before (Async t z v))) succeeds
            (row-both_or val s next is (Async u z v) (Async u z v) (Async t z v) v (e == v) (value v) (other-swapped s next t l.threads n h low high few z v e (here z q) u from upto (eqb-false u t f) (back z)))
        async-row u z v from upto false false f q = other-back u z v from upto f (there z q)
