-- What trees are checked with stays so from tree to tree.
use Rattle.std.proofs.Common.{◌≡◌, ℕ, ◌+◌, ◌-◌, ◌<◌, ◌≤◌, nat_lt, Bool, false, cond, Some, None, List, [], length, sym, ap, subst, ◌∙◌, arith, inl, inr}
use Rattle.std.specs.Prelude.{Err}
use Rattle.std.proofs.lemmas.Bool.{cases_eq}
use Rattle.pg_region.specs.Literal.{Literal}
use Rattle.pg_region.specs.Region.{RegionTable}
use Rattle.pg_region.specs.Sink.{Capacity, sink_of}
use Rattle.pg_region.specs.declared.range.Loaded.{Loaded}
use Rattle.pg_derivation.specs.Derivation.{TreeTable, DerivationTable, tree_at}
use Rattle.pg_tree.specs.Fault.{tree_fault, check_fault}
use Rattle.pg_tree.specs.declared.fault.TreeFault.{TreeFault}
use Rattle.pg_tree.specs.declared.fault.TreeFault.TheVariants.{TrailFull}
use Rattle.pg_tree.proofs.Validity.{no-fault-valid}
use Rattle.pg_outline.specs.Outline.{OutlineTable}
use Rattle.pg_obligations.specs.declared.obligation.Obligation.{Obligation}
use Rattle.pg_layers.specs.Clauses.{obligation, obligation_clauses, obligation_atoms}
use Rattle.pg_layers.specs.Layers.{Loading, left, loaded_with, IsLoaded}
use Rattle.pg_layers.specs.Needs.{enough_words, enough_spans, IsMostAtoms}
use Rattle.pg_judge.specs.Outcome.{obligation_count}
use Rattle.pg_derive.specs.declared.fault.VerifyFault.{VerifyFault}
use Rattle.pg_derive.specs.declared.fault.VerifyFault.TheVariants.{Tree, Missing, Extra, NoMemory}
use Rattle.pg_derive.specs.Desk.{IsSet}
use Rattle.pg_derive.specs.Verified.{fault_for, IsValidFor, AreFirstValid, IsVerified, HasFault, IsMissing, IsExtra, IsAnswer, AreChecked}

-- nothing was loaded yet
pub first-set : (o : OutlineTable) (words spans atoms trail : ℕ) (k : Loading) (r : RegionTable) → k ≡ record { outline = o; ruled = None; last = None } → words ≡ enough_words → spans ≡ enough_spans
    → IsMostAtoms k.outline atoms → r ≡ record { clauses = []; spare_words = words; spare_spans = spans; pushes = 0 } → trail ≡ atoms → IsSet o k r trail
first-set o words spans atoms trail k r loader enough_w enough_s most region at =
    let same = ap (λ (j : Loading). j.outline) loader in
    record {
      outline = same;
      laid = ap (λ (q : RegionTable). q.clauses) region ∙ ap left (sym loader);
      words = omega (arith, ap (λ (q : RegionTable). (sink_of q).capacity.words) region, enough_w);
      spans = omega (arith, ap (λ (q : RegionTable). (sink_of q).capacity.spans) region, enough_s);
      most = subst (IsMostAtoms o) (sym at) (subst (λ (q : OutlineTable). IsMostAtoms q atoms) same most);
    }

pub still-set : (o : OutlineTable) (k next : Loading) (ob : Obligation) (r r' : RegionTable) (t t' : ℕ) (at : Loaded) → IsSet o k r t → next ≡ loaded_with k ob → IsLoaded k ob r r' at → t' ≡ t
    → IsSet o next r' t'
still-set o k next ob r r' t t' at set is h same = record {
  outline = ap (λ (j : Loading). j.outline) is ∙ set.outline;
  laid = h.laid ∙ ap left (sym is);
  words = omega (arith, set.words, ap (λ (c : Capacity). c.words) h.capacity);
  spans = omega (arith, set.spans, ap (λ (c : Capacity). c.spans) h.capacity);
  most = subst (IsMostAtoms o) (sym same) set.most;
}

not-less : (a b : ℕ) → b ≤ a → nat_lt a b ≡ false
not-less a b h = grind arith

-- the trail has room for the atoms
pub fault-here : (o : OutlineTable) (i room atoms : ℕ) (cs : List (List Literal)) (tree : TreeTable) → atoms ≡ obligation_atoms o (obligation o i) → cs ≡ obligation_clauses o (obligation o i) → atoms ≤ room
    → check_fault room atoms cs tree ≡ fault_for o i tree
fault-here o i room atoms cs tree a c le =
    ap (λ (b : Bool). cond b (Some (TrailFull room)) (tree_fault atoms cs tree)) (not-less room atoms le)
    ∙ (ap (λ (n : ℕ). tree_fault n cs tree) a ∙ ap (λ (ds : List (List Literal)). tree_fault (obligation_atoms o (obligation o i)) ds tree) c)

-- ---- tree by tree

pub none-valid : (o : OutlineTable) (d : DerivationTable) → AreFirstValid o d 0
none-valid o d i from to = absurd (omega (arith, from, to))

pub valid-more : (o : OutlineTable) (d : DerivationTable) (k : ℕ) (tree : TreeTable) → AreFirstValid o d k → tree ≡ tree_at d (k + 1) → fault_for o (k + 1) tree ≡ None → AreFirstValid o d (k + 1)
valid-more o d k tree h is none i from to = elim (cases_eq i (k + 1)) [
  | inl e ↦
      subst (λ (j : ℕ). IsValidFor o j (tree_at d j)) (sym e)
      (subst (IsValidFor o (k + 1)) is ((no-fault-valid (obligation_atoms o (obligation o (k + 1))) (obligation_clauses o (obligation o (k + 1))) tree).0 none))
  | inr ne ↦ h i from (omega (arith, to, ne))
]

pub fault-at : (o : OutlineTable) (d : DerivationTable) (k : ℕ) (tree : TreeTable) (f : TreeFault) → AreFirstValid o d k → k < length d → k < obligation_count o → tree ≡ tree_at d (k + 1)
    → fault_for o (k + 1) tree ≡ Some f → HasFault o d (k + 1) f
fault-at o d k tree f h within to is fault = record {
  from = omega arith;
  within = omega (arith, within);
  to = omega (arith, to);
  before = subst (AreFirstValid o d) (let same : k ≡ k + 1 - 1 = omega arith in same) h;
  fault = ap (fault_for o (k + 1)) (sym is) ∙ fault;
}

pub checked-answer : (o : OutlineTable) (d : DerivationTable) (k : ℕ) (f : VerifyFault) → AreChecked o d k (Err f) → IsAnswer o d (Err f)
checked-answer o d k (Tree i first) h = h
checked-answer o d k (Missing i) h = absurd h
checked-answer o d k (Extra i) h = absurd h
checked-answer o d k NoMemory h = absurd h

-- ---- the counts

module _ (o : OutlineTable) (d : DerivationTable) (trees count : ℕ) (has : trees ≡ length d) (wants : count ≡ obligation_count o) where
  pub is-missing : trees < count → AreFirstValid o d trees → IsMissing o d (trees + 1)
  is-missing lt h = record { behind = omega (arith, has); to = omega (arith, lt, wants); valid = subst (AreFirstValid o d) has h }

  pub is-extra : count < trees → AreFirstValid o d count → IsExtra o d (count + 1)
  is-extra lt h = record { behind = omega (arith, wants); within = omega (arith, lt, has); valid = subst (AreFirstValid o d) wants h }

  pub is-verified : count ≤ trees → trees ≤ count → AreFirstValid o d count → IsVerified o d count
  is-verified le ge h = record { trees = omega (arith, le, ge, has); all = wants; valid = h }
