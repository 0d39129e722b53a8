-- The rows of a store are true of each step that stores.
use Rattle.std.proofs.Common.{◌≡◌, ◌≢◌, ℕ, ◌<◌, ◌==◌, Bool, true, false, ◌&&◌, List, [], length, map, get_or, Option, Some, None, refl, sym, ap, subst, ◌∙◌, arith}
use Rattle.std.specs.List.{All}
use Rattle.std.proofs.lemmas.Bool.{eqb-true, eqb-false}
use Rattle.std.proofs.lemmas.List.Elements.{All-head}
use Rattle.pg_program.specs.declared.syntax.Act.{Act}
use Rattle.pg_program.specs.declared.syntax.Act.TheOpen.{Act-F, Store}
use Rattle.pg_program.specs.declared.syntax.Expr.{Expr}
use Rattle.pg_program.specs.declared.syntax.Stmt.{Stmt}
use Rattle.pg_program.specs.declared.point.Step.{Step}
use Rattle.pg_program.specs.Expr.{value}
use Rattle.pg_program.specs.NameTable.{NameTable, lines}
use Rattle.pg_program.specs.Program.{ProgramTable}
use Rattle.pg_program.specs.Words.{is_in, locations_in}
use Rattle.pg_assertion.specs.declared.atom.ViewAtom.TheVariants.{Scalar, Read, Then, Newest, Ordered, Fenced}
use Rattle.pg_assertion.specs.declared.step_atom.StepAtom.{StepAtom}
use Rattle.pg_assertion.specs.declared.step_atom.StepAtom.TheVariants.{Value}
use Rattle.pg_assertion.specs.Layout.{Sizes, sizes}
use Rattle.pg_machine.specs.declared.event.Event.{Event}
use Rattle.pg_machine.specs.Memory.{line_of}
use Rattle.pg_machine.specs.State.{State, AreViews}
use Rattle.pg_machine.specs.Moves.{Seen, stored}
use Rattle.pg_machine.specs.Step.{Left, Row, leaves, act_of, bracket_of, seen_by, views_of}
use Rattle.pg_views.specs.Atom.{may_read, may_read_then, reads_newest, covers_ordered, covers_fenced}
use Rattle.pg_views.specs.Valuation.{new_value, step_atom_holds}
use Rattle.pg_tables.specs.Shapes.{before, after}
use Rattle.pg_tables.specs.Steps.{same_line}
use Rattle.pg_tables.specs.Truth.{AllTrue}
use Rattle.pg_tables.proofs.Truth.{all-always, all-becomes, all-becomes_both}
use Rattle.pg_rules_access.specs.Store.{store, store_read, store_then, store_newest, store_ordered, store_fenced}
use Rattle.pg_soundness.proofs.Rows.{by_own, AreRows, scalar-after}
use Rattle.pg_soundness.proofs.Stepped.{Stepped}
use Rattle.pg_soundness.proofs.Stored as law
use Rattle.pg_soundness.proofs.Tests.{and-self}
use Rattle.pg_soundness.proofs.WrittenRows.{Writes, value-is, written-last, written-read, written-then, written-newest, written-ordered, written-fenced}

-- The act of thread t stores e to x.
pub record Stores (names : NameTable) (d : ℕ) (act : Act-F Act Stmt) (s next : State) (l : Sizes) (t x e : ℕ) : Type 0 where
  pub writes : Writes d act s next l t x e
  pub own : seen_by next t ≡ stored (seen_by s t) x e
  pub own_views : AreViews s.memory (views_of s t)
  pub lined : length s.memory.lines ≡ length s.memory.initial
  pub on_lines : s.memory.lines ≡ lines names

module _ (names : NameTable) (d : ℕ) (act : Act-F Act Stmt) (choice : Option ℕ) (s next : State) (l : Sizes) (t x e : ℕ) (h : Stores names d act s next l t x e) where
  abbrev val : StepAtom → Bool
  val = step_atom_holds d act choice s next

  abbrev n : Seen
  n = seen_by s t

  inside : x < length s.memory.initial
  inside = h.writes.inside

  within : (z : ℕ) → z < l.locations → z < length s.memory.initial
  within z lt = let size = h.writes.located in omega (arith, size, lt)

  says : (v : ℕ) → (e == v) ≡ val (Value v)
  says = value-is d act choice s next l t x e h.writes

  -- ---- the thread that stores

  own-read : (z v : ℕ) → AllTrue val (store_read true (z == x) t z v)
  own-read z v = by (z == x) refl
    where
      by : (b : Bool) → (z == x) ≡ b → AllTrue val (store_read true b t z v)
      by true is =
          subst (λ (y : ℕ). AllTrue val (store_read true true t y v)) (sym (eqb-true z x is))
          (all-becomes val (after (Read t x v)) (Value v) (ap (λ (k : Seen). may_read k x v) h.own ∙ (law.own-read-here n x e h.own_views inside v ∙ says v)))
      by false is =
          all-becomes val (after (Read t z v)) (before (Read t z v)) (ap (λ (k : Seen). may_read k z v) h.own ∙ law.own-read-there n x e h.own_views inside z v (eqb-false z x is))

  twice-row : (v w : ℕ) → AllTrue val (store_then true true true (v == w) t x v x w)
  twice-row v w = by (v == w) refl
    where
      reads : (k : ℕ) → val (after (Then t x v x k)) ≡ (val (Value v) && val (Value k))
      reads k =
          ap (λ (o : Seen). may_read_then o x v x k) h.own
          ∙ (law.own-then-same n x e h.own_views inside v k
          ∙ (ap (λ (b : Bool). b && (e == k)) (says v) ∙ ap (λ (b : Bool). val (Value v) && b) (says k)))

      by : (b : Bool) → (v == w) ≡ b → AllTrue val (store_then true true true b t x v x w)
      by true is =
          subst (λ (k : ℕ). AllTrue val (store_then true true true true t x v x k)) (eqb-true v w is)
          (all-becomes val (after (Then t x v x v)) (Value v) (reads v ∙ and-self (val (Value v))))
      by false is = all-becomes_both val (after (Then t x v x w)) (Value v) (Value w) (reads w)

  from-row : (v y w : ℕ) → y ≢ x → AllTrue val (store_then true true false (v == w) t x v y w)
  from-row v y w apart =
      all-becomes_both val (after (Then t x v y w)) (Value v) (before (Read t y w))
      (ap (λ (k : Seen). may_read_then k x v y w) h.own
      ∙ (law.own-then-from n x e h.own_views inside v y w apart ∙ ap (λ (b : Bool). b && may_read n y w) (says v)))

  to-row : (z v w : ℕ) → z < l.locations → z ≢ x → AllTrue val (store_then true false true (v == w) t z v x w)
  to-row z v w lt apart =
      all-becomes_both val (after (Then t z v x w)) (before (Read t z v)) (Value w)
      (ap (λ (k : Seen). may_read_then k z v x w) h.own
      ∙ (law.own-then-to n x e h.own_views inside z v w (within z lt) apart ∙ ap (λ (b : Bool). may_read n z v && b) (says w)))

  own-then : (z v y w : ℕ) → z < l.locations → AllTrue val (store_then true (z == x) (y == x) (v == w) t z v y w)
  own-then z v y w lt = by (z == x) (y == x) refl refl
    where
      by : (a b : Bool) → (z == x) ≡ a → (y == x) ≡ b → AllTrue val (store_then true a b (v == w) t z v y w)
      by true true p q =
          subst (λ (k : ℕ). AllTrue val (store_then true true true (v == w) t k v y w)) (sym (eqb-true z x p))
          (subst (λ (k : ℕ). AllTrue val (store_then true true true (v == w) t x v k w)) (sym (eqb-true y x q)) (twice-row v w))
      by true false p q =
          subst (λ (k : ℕ). AllTrue val (store_then true true false (v == w) t k v y w)) (sym (eqb-true z x p)) (from-row v y w (eqb-false y x q))
      by false true p q =
          subst (λ (k : ℕ). AllTrue val (store_then true false true (v == w) t z v k w)) (sym (eqb-true y x q)) (to-row z v w lt (eqb-false z x p))
      by false false p q =
          all-becomes val (after (Then t z v y w)) (before (Then t z v y w))
          (ap (λ (k : Seen). may_read_then k z v y w) h.own ∙ law.own-then-others n x e h.own_views inside z v y w (within z lt) (eqb-false z x p) (eqb-false y x q))

  own-newest : (z : ℕ) → AllTrue val (store_newest true (z == x) t z)
  own-newest z = by (z == x) refl
    where
      by : (b : Bool) → (z == x) ≡ b → AllTrue val (store_newest true b t z)
      by true is =
          subst (λ (y : ℕ). AllTrue val (store_newest true true t y)) (sym (eqb-true z x is))
          (all-always val (after (Newest t x)) (ap (λ (k : Seen). reads_newest k x) h.own ∙ law.own-newest-here n x e h.own_views inside))
      by false is =
          all-becomes val (after (Newest t z)) (before (Newest t z))
          (ap (λ (k : Seen). reads_newest k z) h.own ∙ law.own-newest-there n x e h.own_views inside z (eqb-false z x is))

  own-ordered : (z : ℕ) → AllTrue val (store_ordered true (z == x) (same_line names x z) t z)
  own-ordered z = by (same_line names x z) refl
    where
      on : (y : ℕ) → line_of s.memory y ≡ get_or (lines names) y 0
      on y = ap (λ (ks : List ℕ). get_or ks y 0) h.on_lines

      by : (b : Bool) → same_line names x z ≡ b → AllTrue val (store_ordered true (z == x) b t z)
      by true is =
          all-always val (after (Ordered t z))
          (ap (λ (k : Seen). covers_ordered k z) h.own
          ∙ law.own-ordered-near n x e h.own_views inside h.lined z (on z ∙ (eqb-true (get_or (lines names) z 0) (get_or (lines names) x 0) is ∙ sym (on x))))
      by false is =
          all-becomes val (after (Ordered t z)) (before (Ordered t z))
          (ap (λ (k : Seen). covers_ordered k z) h.own
          ∙ law.own-ordered-far n x e h.own_views inside z (λ q. eqb-false (get_or (lines names) z 0) (get_or (lines names) x 0) is (sym (on z) ∙ (q ∙ on x))))

  own-fenced : (z : ℕ) → AllTrue val (store_fenced true (z == x) t z)
  own-fenced z = all-always val (after (Fenced t z)) (ap (λ (k : Seen). covers_fenced k z) h.own ∙ law.own-fenced n x e h.own_views inside z)

  -- ---- the row of each atom

  pub true_store : AreRows val l (store names t x)
  true_store = record {
    last = λ z v i. written-last d act choice s next l t x e h.writes z v;
    read = λ u z v i. by_own val t (λ o k. store_read o (z == x) k z v) u (own-read z v) (λ other. written-read d act choice s next l t x e h.writes u i.0 other z v);
    pairs = λ u z v y w i.
        by_own val t (λ o k. store_then o (z == x) (y == x) (v == w) k z v y w) u (own-then z v y w i.1)
        (λ other. written-then d act choice s next l t x e h.writes u i.0 other z v y w i.1);
    newest = λ u z i. by_own val t (λ o k. store_newest o (z == x) k z) u (own-newest z) (λ other. written-newest d act choice s next l t x e h.writes u i.0 other z);
    ordered = λ u z i.
        by_own val t (λ o k. store_ordered o (z == x) (same_line names x z) k z) u (own-ordered z)
        (λ other. written-ordered d act choice s next l t x e h.writes u i.0 other z (same_line names x z));
    fenced = λ u z i. by_own val t (λ o k. store_fenced o (z == x) k z) u (own-fenced z) (λ other. written-fenced d act choice s next l t x e h.writes u i.0 other z);
  }

-- ---- a step that stores

store-left : (m : ℕ) (n : Seen) (r : List ℕ) (act : Act-F Act Stmt) (choice : Option ℕ) (left : Left) (x : ℕ) (e : Expr) → act ≡ Store x e → Row m n r act choice left → left ≡ leaves (stored n x (value r m e)) r
store-left m n r act choice left x e is row = by choice (subst (λ (a : Act-F Act Stmt). Row m n r a choice left) is row)
  where
    by : (c : Option ℕ) → Row m n r (Store x e) c left → left ≡ leaves (stored n x (value r m e)) r
    by None h = h
    by (Some q) h = absurd h

module _ (p : ProgramTable) (s : State) (event : Event) (step : Step) (next : State) (stmt : Stmt) (left : Left) (h : Stepped p s event step next stmt left) (x : ℕ) (e : Expr)
    (is : act_of stmt ≡ Store x e) where
  abbrev stored_value : ℕ
  stored_value = value s.scalars p.names.domain e

  leaves-it : left ≡ leaves (stored (seen_by s event.thread) x stored_value) s.scalars
  leaves-it = store-left p.names.domain (seen_by s event.thread) s.scalars (act_of stmt) event.choice left x e is h.row

  sees : left.seen ≡ stored (seen_by s event.thread) x stored_value
  sees = ap (λ (k : Left). k.seen) leaves-it

  stores : Stores p.names p.names.domain (act_of stmt) s next (sizes p.names (length p.threads)) event.thread x stored_value
  stores = record {
    writes = record {
      value = ap (new_value p.names.domain s.scalars) is;
      memory = h.memory ∙ ap (λ (k : Seen). k.memory) sees;
      other = λ u from other. h.other u from other ∙ ap (λ (k : Seen). let o : Seen = record { memory = k.memory; views = views_of s u } in o) sees;
      views = λ u thread. h.views u thread.first thread.last;
      inside = All-head (λ (y : ℕ). y < length s.memory.initial) x [] (subst (λ (a : Act-F Act Stmt). All (λ y. y < length s.memory.initial) (locations_in a)) is h.over_locations);
      located = h.located;
    };
    own = h.own ∙ sees;
    own_views = h.own_views;
    lined = h.lined;
    on_lines = h.on_lines;
  }

  -- the rows of the atoms of memory
  pub store_rows : AreRows (step_atom_holds p.names.domain (act_of stmt) event.choice s next) (sizes p.names (length p.threads)) (store p.names event.thread x)
  store_rows = true_store p.names p.names.domain (act_of stmt) event.choice s next (sizes p.names (length p.threads)) event.thread x stored_value stores

  -- and of a scalar that the bracket does not assign
  pub store_scalars : (q k : ℕ) → is_in q (map (λ a. a.target) (bracket_of stmt)) ≡ false
      → AllTrue (step_atom_holds p.names.domain (act_of stmt) event.choice s next) (store p.names event.thread x (Scalar q k))
  store_scalars q k free =
      all-becomes (step_atom_holds p.names.domain (act_of stmt) event.choice s next) (after (Scalar q k)) (before (Scalar q k))
      (ap (λ (g : ℕ). g == k) (scalar-after p s event step next stmt left h q free ∙ ap (λ (o : Left). get_or o.scalars q 0) leaves-it))
