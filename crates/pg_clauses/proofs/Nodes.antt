-- A formula with two parts: its clauses are those of the parts, and those of its node.
use Rattle.std.proofs.Common.{◌≡◌, ℕ, ◌+◌, Bool, List, ◌++◌, Result, Ok, Err, refl, sym, ap, ap₂, subst, ◌∙◌, append_assoc}
use Rattle.pg_assertion.specs.declared.formula.Formula.{Formula, fold-roll-Formula}
use Rattle.pg_assertion.specs.declared.formula.Formula.TheVariants as formula
use Rattle.pg_assertion.specs.declared.formula.Formula.TheOpen as layer
use Rattle.pg_assertion.specs.Formula.{Plain, neg, both, either, implies, plain, plain_layer, with_atoms}
use Rattle.pg_region.specs.Literal.{Literal}
use Rattle.pg_region.specs.Sink.{Capacity, SinkView, Appended, Stopped}
use Rattle.pg_tables.proofs.Sinks.{Appended-then, Stopped-first, Stopped-later}
use Rattle.pg_clauses.specs.declared.node.Made.{Made}
use Rattle.pg_clauses.specs.Definitional.{yes, after, literal, clauses, both_node, either_node, implies_node}
use Rattle.pg_clauses.specs.Made.{IsNumber, Fits, IsMade, Makes}

-- x has the parts f and g, and a node over their literals
pub record HasParts (n : ℕ) (x f g : Plain ℕ) (node : ℕ → Literal → Literal → List (List Literal)) : Type 0 where
  pub told : literal n x ≡ yes (after (after n f) g)
  pub then : after n x ≡ after (after n f) g + 1
  pub are : clauses n x ≡ clauses n f ++ (clauses (after n f) g ++ node (after (after n f) g) (literal n f) (literal (after n f) g))
  pub fits : Fits n x → Fits n f × (Fits (after n f) g × IsNumber (after (after n f) g))

module _ {T : Type 0} (number : T → ℕ) (n : ℕ) (h f g : Formula T) where
  plain_and : h ≡ formula.And f g → plain h ≡ both (plain f) (plain g)
  plain_and is = ap (λ (x : Formula T). plain x) (is ∙ sym (formula.rolls-And f g)) ∙ fold-roll-Formula T (Plain T) plain_layer (layer.And f g)

  plain_or : h ≡ formula.Or f g → plain h ≡ either (plain f) (plain g)
  plain_or is = ap (λ (x : Formula T). plain x) (is ∙ sym (formula.rolls-Or f g)) ∙ fold-roll-Formula T (Plain T) plain_layer (layer.Or f g)

  plain_implies : h ≡ formula.Implies f g → plain h ≡ implies (plain f) (plain g)
  plain_implies is = ap (λ (x : Formula T). plain x) (is ∙ sym (formula.rolls-Implies f g)) ∙ fold-roll-Formula T (Plain T) plain_layer (layer.Implies f g)

  pub and_parts : h ≡ formula.And f g → HasParts n (with_atoms number (plain h)) (with_atoms number (plain f)) (with_atoms number (plain g)) both_node
  unfolding with_atoms
  and_parts is = rw (plain_and is) (record { told = refl; then = refl; are = refl; fits = λ i. i })

  pub or_parts : h ≡ formula.Or f g → HasParts n (with_atoms number (plain h)) (with_atoms number (plain f)) (with_atoms number (plain g)) either_node
  unfolding with_atoms
  or_parts is = rw (plain_or is) (record { told = refl; then = refl; are = refl; fits = λ i. i })

  pub implies_parts : h ≡ formula.Implies f g → HasParts n (with_atoms number (plain h)) (with_atoms number (plain f)) (with_atoms number (plain g)) implies_node
  unfolding with_atoms
  implies_parts is = rw (plain_implies is) (record { told = refl; then = refl; are = refl; fits = λ i. i })

module _ (n : ℕ) (x f g : Plain ℕ) (node : ℕ → Literal → Literal → List (List Literal)) (parts : HasParts n x f g node) where
  pub first_stopped : (takes : List (List Literal) → Capacity → List Literal → Bool) (s t : SinkView) → Stopped takes s t (clauses n f) → Stopped takes s t (clauses n x)
  first_stopped takes s t h = subst (λ (cs : List (List Literal)). Stopped takes s t cs) (sym parts.are) (Stopped-first takes s t (clauses n f) _ h)

  pub second_stopped : (takes : List (List Literal) → Capacity → List Literal → Bool) (s t u : SinkView) (a : Made)
      → IsMade s t (literal n f) (after n f) (clauses n f) a → Stopped takes t u (clauses a.next g) → Stopped takes s u (clauses n x)
  second_stopped takes s t u a made h =
      subst (λ (cs : List (List Literal)). Stopped takes s u cs) (sym parts.are)
      (Stopped-later takes s t u (clauses n f) _ made.appended
      (Stopped-first takes t u (clauses (after n f) g) _ (subst (λ (m : ℕ). Stopped takes t u (clauses m g)) made.then h)))

  -- what is told of the second part, by the numbers that the first one left
  second_made : (s t u : SinkView) (a b : Made) → IsMade s t (literal n f) (after n f) (clauses n f) a → IsMade t u (literal a.next g) (after a.next g) (clauses a.next g) b
      → IsMade t u (literal (after n f) g) (after (after n f) g) (clauses (after n f) g) b
  second_made s t u a b one two = subst (λ (m : ℕ). IsMade t u (literal m g) (after m g) (clauses m g) b) one.then two

  pub number : (s t u : SinkView) (a b : Made) → IsMade s t (literal n f) (after n f) (clauses n f) a → IsMade t u (literal a.next g) (after a.next g) (clauses a.next g) b
      → Fits n x → IsNumber b.next
  number s t u a b one two fits = subst IsNumber (sym (second_made s t u a b one two).then) (parts.fits fits).1.1

  module _ (s t u v : SinkView) (a b : Made) (one : IsMade s t (literal n f) (after n f) (clauses n f) a) (two : IsMade t u (literal a.next g) (after a.next g) (clauses a.next g) b) where
    both_appended : Appended s u (clauses n f ++ clauses (after n f) g)
    both_appended = Appended-then s t u (clauses n f) (clauses (after n f) g) one.appended (second_made s t u a b one two).appended

    same_node : node b.next a.literal b.literal ≡ node (after (after n f) g) (literal n f) (literal (after n f) g)
    same_node =
        let second = second_made s t u a b one two in
        ap (λ (d : ℕ). node d a.literal b.literal) second.then ∙ ap₂ (λ (k l : Literal). node (after (after n f) g) k l) one.told second.told

    all_are : (clauses n f ++ clauses (after n f) g) ++ node b.next a.literal b.literal ≡ clauses n x
    all_are =
        ap (λ (cs : List (List Literal)). (clauses n f ++ clauses (after n f) g) ++ cs) same_node
        ∙ append_assoc (clauses n f) (clauses (after n f) g) _ ∙ sym parts.are

    pub whole : {F : Type 0} (takes : List (List Literal) → Capacity → List Literal → Bool) (r : Result Made F)
        → Makes takes r u v (yes b.next) (b.next + 1) (node b.next a.literal b.literal) → Makes takes r s v (literal n x) (after n x) (clauses n x)
    whole takes (Ok m) h =
        let second = second_made s t u a b one two in
        record {
          told = h.told ∙ ap yes second.then ∙ sym parts.told;
          then = h.then ∙ ap (λ d. d + 1) second.then ∙ sym parts.then;
          appended = subst (λ (cs : List (List Literal)). Appended s v cs) all_are (Appended-then s u v _ (node b.next a.literal b.literal) both_appended h.appended);
        }
    whole takes (Err e) h = subst (λ (cs : List (List Literal)). Stopped takes s v cs) all_are (Stopped-later takes s u v _ (node b.next a.literal b.literal) both_appended h)
