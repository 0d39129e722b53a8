-- What each part of a load leaves.
use Rattle.std.proofs.Common.{◌≡◌, ℕ, zero, suc, List, [], ◌∷◌, ◌++◌, Option, Some, None, length, take, refl, sym, ap, ap₂, ◌∙◌, subst, append_assoc, arith, length-append, ◌≤◌}
use Rattle.std.proofs.lemmas.List.{append-nil}
use Rattle.pg_program.specs.declared.point.Step.{Step}
use Rattle.pg_assertion.specs.declared.layout.Side.TheVariants.{Before, After}
use Rattle.pg_assertion.specs.Layout.{IsWithinLimits}
use Rattle.pg_outline.specs.Outline.{OutlineTable}
use Rattle.pg_outline.specs.Made.{IsOutline}
use Rattle.pg_region.specs.Literal.{Literal}
use Rattle.pg_region.specs.Pieces.{total}
use Rattle.pg_region.specs.Region.{RegionTable, released}
use Rattle.pg_region.specs.Sink.{Capacity, Appended, sink_of}
use Rattle.pg_tables.specs.Steps.{IsStepOf}
use Rattle.pg_obligations.specs.declared.obligation.Obligation.{Obligation}
use Rattle.pg_layers.specs.Clauses.{layout_of, rules_of, by_numbers}
use Rattle.pg_layers.specs.Layers.{side_axioms, base_of, rules_if, top_for, or_before}
use Rattle.pg_layers.specs.Laid.{AreBounded, IsStepIf, AreMarks, Lies, Fit, HasRoom, IsBased, IsRuled, IsTopped}
use Rattle.pg_layers.specs.declared.layers.Layers.{Layers}
use Rattle.pg_layers.proofs.Formulas.{total-append}
use Rattle.pg_layers.proofs.Sizes.{side_few, base_few, step_few, rules_few, top_few}

take_all : (xs ys : List (List Literal)) (n : ℕ) → n ≡ length xs → take n (xs ++ ys) ≡ xs
take_all [] ys zero h = refl
take_all [] ys (suc n) h = absurd (omega arith)
take_all (x ∷ xs) ys zero h = absurd (omega arith)
take_all (x ∷ xs) ys (suc n) h = ap (λ l. x ∷ l) (take_all xs ys n (omega arith))

-- what is cut back to a prefix: its clauses, and the capacity, which stays
released-list : (r : RegionTable) (xs ys : List (List Literal)) (n : ℕ) → r.clauses ≡ xs ++ ys → n ≡ length xs → (released r n).clauses ≡ xs
released-list r xs ys n e k = ap (take n) e ∙ take_all xs ys n k

module _ (r : RegionTable) (xs ys : List (List Literal)) (n : ℕ) (e : r.clauses ≡ xs ++ ys) (k : n ≡ length xs) where
  same_words : (sink_of (released r n)).capacity.words ≡ (sink_of r).capacity.words
  same_words =
      let c = ap (λ (l : List (List Literal)). total l) (released-list r xs ys n e k) in
      let t = ap (λ (l : List (List Literal)). total l) e ∙ total-append xs ys in
      omega (arith, c, t)

  same_spans : (sink_of (released r n)).capacity.spans ≡ (sink_of r).capacity.spans
  same_spans =
      let c = ap (λ (l : List (List Literal)). length l) (released-list r xs ys n e k) in
      let t = ap (λ (l : List (List Literal)). length l) e ∙ length-append xs ys in
      omega (arith, c, t)

  pub released-capacity : (sink_of (released r n)).capacity ≡ (sink_of r).capacity
  released-capacity = same_capacity _ _ same_words same_spans
    where
      same_capacity : (c d : Capacity) → c.words ≡ d.words → c.spans ≡ d.spans → c ≡ d
      same_capacity c d a b = ap₂ (λ (w n : ℕ). let x : Capacity = record { words = w; spans = n } in x) a b

module _ (o : OutlineTable) where
  pub room_first : (r : RegionTable) → AreBounded o → HasRoom r → r.clauses ≡ [] → Fit r (side_axioms o).0
  room_first r bounded room none =
      let few = side_few o bounded Before in
      let t = ap (λ (l : List (List Literal)). total l) none in
      let n = ap (λ (l : List (List Literal)). length l) none in
      let w = room.words in
      let s = room.spans in
      record { words = omega (arith, few.literals, t, w); spans = omega (arith, few.clauses, n, s) }

  pub room_second : (r r' : RegionTable) → AreBounded o → HasRoom r → r.clauses ≡ [] → Appended (sink_of r) (sink_of r') (side_axioms o).0 → Fit r' (side_axioms o).1
  room_second r r' bounded room none a =
      let few = side_few o bounded Before in
      let more = side_few o bounded After in
      let e = a.list ∙ ap (λ (l : List (List Literal)). l ++ (side_axioms o).0) none in
      let t = ap (λ (l : List (List Literal)). total l) e in
      let n = ap (λ (l : List (List Literal)). length l) e in
      let w = room.words in
      let s = room.spans in
      let cw = ap (λ (c : Capacity). c.words) a.capacity in
      let cs = ap (λ (c : Capacity). c.spans) a.capacity in
      record { words = omega (arith, few.literals, more.literals, t, w, cw); spans = omega (arith, few.clauses, more.clauses, n, s, cs) }

  pub based : (k : Layers) (r r' r'' : RegionTable) → r.clauses ≡ [] → Appended (sink_of r) (sink_of r') (side_axioms o).0 → Appended (sink_of r') (sink_of r'') (side_axioms o).1
      → k.ruled ≡ None → k.middle ≡ length r'.clauses → k.base ≡ length r''.clauses → k.base_to ≡ length r''.clauses → k.rules ≡ length r''.clauses → k.rules_to ≡ length r''.clauses
      → IsBased o None k r r''
  based k r r' r'' none a b ruled middle base base_to rules rules_to =
      let first : r'.clauses ≡ (side_axioms o).0 = a.list ∙ ap (λ (l : List (List Literal)). l ++ (side_axioms o).0) none in
      let both : r''.clauses ≡ base_of o = b.list ∙ ap (λ (l : List (List Literal)). l ++ (side_axioms o).1) first in
      let bare : rules_if o k.ruled ≡ [] = ap (rules_if o) ruled in
      let none_long = ap (λ (l : List (List Literal)). length l) bare in
      let long = ap (λ (l : List (List Literal)). length l) both in
      let low = ap (λ (l : List (List Literal)). length l) first in
      let cut = length-append (side_axioms o).0 (side_axioms o).1 in
      record {
        rest = [];
        lies = record {
          layers = record {
            step = subst (IsStepIf o) (sym ruled) tt;
            marks = record {
              middle = middle ∙ low;
              base = base ∙ long;
              base_to = base_to ∙ long;
              rules = omega (arith, rules, long, none_long);
              rules_to = omega (arith, rules_to, long, none_long);
            };
          };
          is = both ∙ sym (append-nil (base_of o)) ∙ ap (λ (l : List (List Literal)). base_of o ++ (l ++ [])) (sym bare);
        };
        ruled = ruled;
        capacity = b.capacity ∙ a.capacity;
        pushes = let p = a.pushes in let q = b.pushes in omega (arith, p, q, cut);
      }

  -- the rules stay, and what lies on them goes
  rules_stay : (k : Layers) (r : RegionTable) (rest : List (List Literal)) → Lies o k rest r.clauses → r.clauses ≡ (base_of o ++ rules_if o k.ruled) ++ rest
  rules_stay k r rest lies = lies.is ∙ sym (append_assoc (base_of o) (rules_if o k.ruled) rest)

  up_to_rules : (k : Layers) → AreMarks o k → k.rules ≡ length (base_of o ++ rules_if o k.ruled)
  up_to_rules k marks = marks.rules ∙ sym (length-append (base_of o) (rules_if o k.ruled))

  pub marks_within : (k : Layers) (rest list : List (List Literal)) → Lies o k rest list → (k.rules ≤ length list) × (k.base ≤ length list)
  marks_within k rest list lies =
      let n = ap (λ (l : List (List Literal)). length l) lies.is ∙ length-append (base_of o) (rules_if o k.ruled ++ rest) in
      let m = length-append (rules_if o k.ruled) rest in
      let marks = lies.layers.marks in
      (omega (arith, n, m, marks.rules), omega (arith, n, marks.base))

  pub kept : (step : Option Step) (k : Layers) (r r' : RegionTable) (rest : List (List Literal)) → Lies o k rest r.clauses → r' ≡ released r k.rules → k.ruled ≡ or_before step k.ruled
      → IsRuled o step k k r r'
  kept step k r r' rest lies is ruled =
      let whole = rules_stay k r rest lies in
      let at = up_to_rules k lies.layers.marks in
      record {
        lies = record {
          layers = lies.layers;
          is = ap (λ (t : RegionTable). t.clauses) is ∙ released-list r (base_of o ++ rules_if o k.ruled) rest k.rules whole at
              ∙ ap (λ (l : List (List Literal)). base_of o ++ l) (sym (append-nil (rules_if o k.ruled)));
        };
        ruled = ruled;
        capacity = ap (λ (t : RegionTable). (sink_of t).capacity) is ∙ released-capacity r (base_of o ++ rules_if o k.ruled) rest k.rules whole at;
        pushes = let p = ap (λ (t : RegionTable). t.pushes) is in omega (arith, p);
        pushes_same = λ h. let p = ap (λ (t : RegionTable). t.pushes) is in omega (arith, p);
      }

  pub rules_room : (step : Step) (k : Layers) (r r' : RegionTable) (rest : List (List Literal)) → AreBounded o → IsStepOf o.program step → HasRoom r → Lies o k rest r.clauses
      → r' ≡ released r k.base → Fit r' (by_numbers (layout_of o) (rules_of o.program step))
  rules_room step k r r' rest bounded one room lies is =
      let l = ap (λ (t : RegionTable). t.clauses) is ∙ released-list r (base_of o) (rules_if o k.ruled ++ rest) k.base lies.is lies.layers.marks.base in
      let c = ap (λ (t : RegionTable). (sink_of t).capacity) is ∙ released-capacity r (base_of o) (rules_if o k.ruled ++ rest) k.base lies.is lies.layers.marks.base in
      let t = ap (λ (x : List (List Literal)). total x) l in
      let n = ap (λ (x : List (List Literal)). length x) l in
      let cw = ap (λ (x : Capacity). x.words) c in
      let cs = ap (λ (x : Capacity). x.spans) c in
      let base = base_few o bounded in
      let few = step_few o bounded step one in
      let w = room.words in
      let s = room.spans in
      record { words = omega (arith, t, cw, base.literals, few.literals, w); spans = omega (arith, n, cs, base.clauses, few.clauses, s) }

  pub ruled : (step : Step) (k k' : Layers) (r r' r'' : RegionTable) (rest : List (List Literal)) → IsStepOf o.program step → Lies o k rest r.clauses → r' ≡ released r k.base
      → Appended (sink_of r') (sink_of r'') (by_numbers (layout_of o) (rules_of o.program step)) → (k.ruled ≡ Some step → ⊥)
      → k'.ruled ≡ Some step → k'.middle ≡ k.middle → k'.base ≡ k.base → k'.base_to ≡ k.base_to → k'.rules ≡ length r''.clauses → k'.rules_to ≡ length r''.clauses
      → IsRuled o (Some step) k k' r r''
  ruled step k k' r r' r'' rest one lies is a other e middle base base_to rules rules_to =
      let l = ap (λ (t : RegionTable). t.clauses) is ∙ released-list r (base_of o) (rules_if o k.ruled ++ rest) k.base lies.is lies.layers.marks.base in
      let c = ap (λ (t : RegionTable). (sink_of t).capacity) is ∙ released-capacity r (base_of o) (rules_if o k.ruled ++ rest) k.base lies.is lies.layers.marks.base in
      let p = ap (λ (t : RegionTable). t.pushes) is in
      let q = a.pushes in
      let mine : rules_if o k'.ruled ≡ by_numbers (layout_of o) (rules_of o.program step) = ap (rules_if o) e in
      let all : r''.clauses ≡ base_of o ++ rules_if o k'.ruled =
      a.list ∙ ap (λ (x : List (List Literal)). x ++ by_numbers (layout_of o) (rules_of o.program step)) l ∙ ap (λ (x : List (List Literal)). base_of o ++ x) (sym mine) in
      let long = ap (λ (x : List (List Literal)). length x) all ∙ length-append (base_of o) (rules_if o k'.ruled) in
      record {
        lies = record {
          layers = record {
            step = subst (IsStepIf o) (sym e) one;
            marks = record {
              middle = middle ∙ lies.layers.marks.middle;
              base = base ∙ lies.layers.marks.base;
              base_to = base_to ∙ lies.layers.marks.base_to;
              rules = rules ∙ long;
              rules_to = rules_to ∙ long;
            };
          };
          is = all ∙ ap (λ (x : List (List Literal)). base_of o ++ x) (sym (append-nil (rules_if o k'.ruled)));
        };
        ruled = e;
        capacity = a.capacity ∙ c;
        pushes = omega (arith, p, q);
        pushes_same = λ h. absurd (other (sym h));
      }

  pub top_room : (ob : Obligation) (k : Layers) (r : RegionTable) → IsOutline o → IsWithinLimits (layout_of o) → AreBounded o → HasRoom r → Lies o k [] r.clauses → Fit r (top_for o ob)
  top_room ob k r made limits bounded room lies =
      let base = base_few o bounded in
      let rules = rules_few o bounded k.ruled lies.layers.step in
      let few = top_few o made limits ob in
      let e = lies.is ∙ ap (λ (x : List (List Literal)). base_of o ++ x) (append-nil (rules_if o k.ruled)) in
      let t = ap (λ (x : List (List Literal)). total x) e ∙ total-append (base_of o) (rules_if o k.ruled) in
      let n = ap (λ (x : List (List Literal)). length x) e ∙ length-append (base_of o) (rules_if o k.ruled) in
      let w = room.words in
      let s = room.spans in
      record { words = omega (arith, t, base.literals, rules.literals, few.literals, w); spans = omega (arith, n, base.clauses, rules.clauses, few.clauses, s) }

  pub topped : (ob : Obligation) (k : Layers) (r r' : RegionTable) → Lies o k [] r.clauses → Appended (sink_of r) (sink_of r') (top_for o ob) → IsTopped o ob k r r'
  topped ob k r r' lies a = record {
    lies = record {
      layers = lies.layers;
      is = a.list ∙ ap (λ (x : List (List Literal)). x ++ top_for o ob) (lies.is ∙ ap (λ (x : List (List Literal)). base_of o ++ x) (append-nil (rules_if o k.ruled)))
          ∙ append_assoc (base_of o) (rules_if o k.ruled) (top_for o ob);
    };
    capacity = a.capacity;
    pushes = a.pushes;
  }
