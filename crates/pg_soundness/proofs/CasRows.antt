-- The rows of a cas are true of each step that is a cas, whether it succeeds or fails.
use Rattle.std.proofs.Common.{◌≡◌, ◌≢◌, ℕ, ◌<◌, ◌≤◌, Bool, false, [], ◌++◌, refl, length, get_or, Option, Some, None, ap, subst, ◌∙◌}
use Rattle.std.specs.List.{All}
use Rattle.std.proofs.lemmas.List.{get_or-set_same}
use Rattle.std.proofs.lemmas.List.Elements.{All-head}
use Rattle.pg_program.specs.declared.syntax.Act.{Act}
use Rattle.pg_program.specs.declared.syntax.Act.TheOpen.{Act-F, Cas}
use Rattle.pg_program.specs.declared.syntax.Expr.{Expr}
use Rattle.pg_program.specs.declared.syntax.Stmt.{Stmt}
use Rattle.pg_program.specs.declared.point.Step.{Step}
use Rattle.pg_program.specs.Expr.{reads, value}
use Rattle.pg_program.specs.Program.{ProgramTable}
use Rattle.pg_program.specs.Words.{is_in, locations_in, bracket_scalars, outside, outside_in, targets}
use Rattle.pg_assertion.specs.declared.atom.ViewAtom.TheVariants.{Scalar}
use Rattle.pg_assertion.specs.declared.step_atom.StepAtom.{StepAtom}
use Rattle.pg_assertion.specs.Layout.{Sizes, sizes}
use Rattle.pg_machine.specs.declared.event.Event.{Event}
use Rattle.pg_machine.specs.Memory.{value_at}
use Rattle.pg_machine.specs.State.{State}
use Rattle.pg_machine.specs.Moves.{Seen, swapped, missed}
use Rattle.pg_machine.specs.Step.{Left, Row, act_of, bracket_of, seen_by, views_of}
use Rattle.pg_machine.proofs.Uses.{all_left}
use Rattle.pg_views.specs.Valuation.{new_value, expected_value, is_success, step_atom_holds}
use Rattle.pg_tables.specs.Truth.{AllTrue}
use Rattle.pg_rules_access.specs.Cas.{cas}
use Rattle.pg_soundness.proofs.MissedRows.{Misses, true_miss, miss-scalar}
use Rattle.pg_soundness.proofs.Rows.{AreRows, scalar-after}
use Rattle.pg_soundness.proofs.Stepped.{Stepped}
use Rattle.pg_soundness.proofs.SwappedRows.{Swaps, true_swap, swap-scalar}

-- It reads into r, which its bracket does not assign.
module _ (p : ProgramTable) (s : State) (event : Event) (step : Step) (next : State) (stmt : Stmt) (left : Left) (h : Stepped p s event step next stmt left) (r x : ℕ) (e f : Expr)
    (is : act_of stmt ≡ Cas r x e f) (free : is_in r (targets stmt) ≡ false) where
  abbrev d : ℕ
  d = p.names.domain

  abbrev t : ℕ
  t = event.thread

  abbrev l : Sizes
  l = sizes p.names (length p.threads)

  abbrev val : StepAtom → Bool
  val = step_atom_holds d (act_of stmt) event.choice s next

  abbrev desired : ℕ
  desired = value s.scalars d f

  abbrev expected : ℕ
  expected = value s.scalars d e

  inside : x < length s.memory.initial
  inside = All-head (λ (y : ℕ). y < length s.memory.initial) x [] (subst (λ (a : Act-F Act Stmt). All (λ y. y < length s.memory.initial) (locations_in a)) is h.over_locations)

  target : r < length s.scalars
  target = at (act_of stmt) is (all_left (length s.scalars) (outside stmt) (bracket_scalars (bracket_of stmt)) h.over_scalars)
    where
      at : (a : Act-F Act Stmt) → a ≡ Cas r x e f → All (λ q. q < length s.scalars) (outside_in a) → r < length s.scalars
      at a same all = All-head (λ (q : ℕ). q < length s.scalars) r (reads e ++ reads f) (subst (λ (b : Act-F Act Stmt). All (λ q. q < length s.scalars) (outside_in b)) same all)

  expects : expected_value d s.scalars (act_of stmt) ≡ Some expected
  expects = ap (expected_value d s.scalars) is

  chosen : (c : Option ℕ) → event.choice ≡ c → is_success (act_of stmt) event.choice ≡ is_success (Cas r x e f) c
  chosen c choice = ap (λ (a : Act-F Act Stmt). is_success a event.choice) is ∙ ap (is_success (Cas r x e f)) choice

  row : (c : Option ℕ) → event.choice ≡ c → Row d (seen_by s t) s.scalars (Cas r x e f) c left
  row c choice = subst (λ (o : Option ℕ). Row d (seen_by s t) s.scalars (Cas r x e f) o left) choice (subst (λ (a : Act-F Act Stmt). Row d (seen_by s t) s.scalars a event.choice left) is h.row)

  other_sees : (k : Seen) → left.seen ≡ k → (u : ℕ) → 1 ≤ u → u ≢ t → seen_by next u ≡ record { memory = k.memory; views = views_of s u }
  other_sees k sees u from other = h.other u from other ∙ ap (λ (o : Seen). let v : Seen = record { memory = o.memory; views = views_of s u } in v) sees

  -- where it succeeds
  swaps : event.choice ≡ None → Swaps d (act_of stmt) event.choice s next l t x desired expected
  swaps choice =
      let sees : left.seen ≡ swapped (seen_by s t) x desired = ap (λ (k : Left). k.seen) (row None choice).1 in
      record {
        writes = record {
          value = ap (new_value d s.scalars) is;
          memory = h.memory ∙ ap (λ (k : Seen). k.memory) sees;
          other = other_sees (swapped (seen_by s t) x desired) sees;
          views = λ u thread. h.views u thread.first thread.last;
          inside = inside;
          located = h.located;
        };
        success = chosen None choice;
        expected = expects;
        own = h.own ∙ sees;
        own_views = h.own_views;
      }

  -- where it reads at q, and fails
  misses : (q : ℕ) → event.choice ≡ Some q → Misses d (act_of stmt) event.choice s next l t x r expected q
  misses q choice =
      let is_row = row (Some q) choice in
      let sees : left.seen ≡ missed (seen_by s t) x q = ap (λ (k : Left). k.seen) is_row.2 in
      record {
        success = chosen (Some q) choice;
        expected = expects;
        misses = is_row.1;
        can = is_row.0;
        own = h.own ∙ sees;
        own_views = h.own_views;
        memory = h.memory ∙ ap (λ (k : Seen). k.memory) sees;
        other = other_sees (missed (seen_by s t) x q) sees;
        inside = inside;
        loaded =
            scalar-after p s event step next stmt left h r free
            ∙ (ap (λ (k : Left). get_or k.scalars r 0) is_row.2 ∙ get_or-set_same s.scalars r (value_at s.memory x q) 0 target);
      }

  -- the rows of the atoms of memory
  pub cas_rows : AreRows val l (cas l p.names t r x)
  cas_rows = by event.choice refl
    where
      by : (c : Option ℕ) → event.choice ≡ c → AreRows val l (cas l p.names t r x)
      by None choice = true_swap p.names d (act_of stmt) event.choice s next l t x desired expected r (swaps choice)
      by (Some q) choice = true_miss p.names d (act_of stmt) event.choice s next l t x r expected q (misses q choice)

  -- and of a scalar that the bracket does not assign
  pub cas_scalars : (q k : ℕ) → is_in q (targets stmt) ≡ false → AllTrue val (cas l p.names t r x (Scalar q k))
  cas_scalars q k other = by event.choice refl
    where
      by : (c : Option ℕ) → event.choice ≡ c → AllTrue val (cas l p.names t r x (Scalar q k))
      by None choice =
          swap-scalar p.names d (act_of stmt) event.choice s next l t x desired expected r (swaps choice) q k
          (scalar-after p s event step next stmt left h q other ∙ ap (λ (o : Left). get_or o.scalars q 0) (row None choice).1) target
      by (Some m) choice =
          miss-scalar p.names d (act_of stmt) event.choice s next l t x r expected m (misses m choice) q k
          (scalar-after p s event step next stmt left h q other ∙ ap (λ (o : Left). get_or o.scalars q 0) (row (Some m) choice).2)
