-- Derivations that are verified.
use Rattle.std.proofs.Common.{◌≡◌, ℕ, zero, suc, ◌+◌, ◌-◌, ◌<◌, ◌≤◌, Bool, true, Some, None, List, [], ◌∷◌, length, get_or, refl, sym, ap, ap₂, subst, ◌∙◌, arith, append_assoc, inl, inr}
use Rattle.std.specs.Prelude.{Ok, Err}
use Rattle.std.proofs.lemmas.Bool.{cases_order}
use Rattle.std.proofs.lemmas.List.{length-map}
use Rattle.std.proofs.lemmas.List.Elements.{All-from_get_or}
use Rattle.pg_program.specs.NameTable.{IsNameTable}
use Rattle.pg_derivation.specs.Derivation.{Node, TreeTable, DerivationTable, AreNodes, tree_at, nodes_of, trees_of}
use Rattle.pg_derivation.specs.Fault.{derivation_of}
use Rattle.pg_derivation.specs.Text.{header_text, trees_text, text_of, end_text}
use Rattle.pg_derivation.proofs.Spelled.{spelled_is_found}
use Rattle.pg_tree.specs.Valid.{AreValid}
use Rattle.pg_tree.specs.declared.fault.TreeFault.{TreeFault}
use Rattle.pg_tree.proofs.Validity.{no-fault-valid, unsatisfiable, written-valid}
use Rattle.pg_clauses.specs.Truth.{literal_true, all_true}
use Rattle.pg_outline.specs.Outline.{OutlineTable}
use Rattle.pg_outline.specs.Made.{IsOutline}
use Rattle.pg_obligations.specs.declared.obligation.Obligation.{Obligation}
use Rattle.pg_obligations.specs.declared.obligation.Obligation.TheVariants.{Fresh}
use Rattle.pg_obligations.specs.Obligations.{obligations}
use Rattle.pg_obligations.specs.Follow.{Follows}
use Rattle.pg_layers.specs.Clauses.{entailment_of, obligation, obligation_clauses, obligation_atoms}
use Rattle.pg_layers.proofs.Law.{clauses_decide}
use Rattle.pg_layers.proofs.Members.{is_obligation}
use Rattle.pg_judge.specs.Outcome.{obligation_count}
use Rattle.pg_judge.proofs.Accepted.{is-obligation, follow-proved}
use Rattle.pg_judge.proofs.Rejected.{clauses-over}
use Rattle.pg_judge.proofs.Truths.{whole, all-met}
use Rattle.pg_derive.specs.declared.fault.VerifyFault.TheVariants.{Tree, Missing, Extra, NoMemory}
use Rattle.pg_derive.specs.Derived.{IsDerivedTree}
use Rattle.pg_derive.specs.Verified.{IsValidFor, AreFirstValid, IsVerified, HasFault, IsMissing, IsExtra}
use Rattle.pg_derive.specs.Laws.{AnswerIsUnique, VerifiedIsProved, DerivedIsVerified}
use Rattle.pg_derive.proofs.Grammar.{each-from, valid-fits}
use Rattle.pg_derive.proofs.Counts.{AreCounted, within-limits, obligations-few, atoms-few, obligation-few}

-- ---- a valid tree

valid-follows : (o : OutlineTable) (i : ℕ) (tree : TreeTable) → IsOutline o → 1 ≤ i → i ≤ obligation_count o → IsValidFor o i tree → Follows (entailment_of o (obligation o i))
valid-follows o i tree made from to valid = (clauses_decide o (obligation o i) made (is-obligation o i from to)).1 unmet
  where
    unmet : (val : ℕ → Bool) → all_true val (obligation_clauses o (obligation o i)) ≡ true → ⊥
    unmet val h =
        unsatisfiable (obligation_atoms o (obligation o i)) (obligation_clauses o (obligation o i)) (nodes_of tree) valid (literal_true val) (whole val)
        (all-met val (obligation_clauses o (obligation o i)) h)

pub verified-proved : VerifiedIsProved
verified-proved o d n made few v =
    follow-proved o made few (All-from_get_or (λ (ob : Obligation). Follows (entailment_of o ob)) (obligations o.program) Fresh each)
  where
    each : (k : ℕ) → k < length (obligations o.program) → Follows (entailment_of o (get_or (obligations o.program) k Fresh))
    each k lt =
        subst (λ (i : ℕ). Follows (entailment_of o (get_or (obligations o.program) i Fresh))) (omega arith)
        (valid-follows o (k + 1) (tree_at d (k + 1)) made (omega arith) (omega (arith, lt)) (v.valid (k + 1) (omega arith) (omega (arith, lt, v.all))))

-- ---- one answer

some-none : (f : TreeFault) → Some f ≡ None → ⊥
some-none f e = cc

some-same : (f g : TreeFault) → Some f ≡ Some g → f ≡ g
some-same f g e = cc

module _ (o : OutlineTable) (d : DerivationTable) where
  -- a tree with a fault is not valid
  not-valid : (i : ℕ) (f : TreeFault) → HasFault o d i f → IsValidFor o i (tree_at d i) → ⊥
  not-valid i f h valid =
      some-none f (sym h.fault ∙ (no-fault-valid (obligation_atoms o (obligation o i)) (obligation_clauses o (obligation o i)) (tree_at d i)).1 valid)

  valid-fault : (k i : ℕ) (f : TreeFault) → AreFirstValid o d k → HasFault o d i f → i ≤ k → ⊥
  valid-fault k i f valid h le = not-valid i f h (valid i h.from le)

  same-tree : (i j : ℕ) (f g : TreeFault) → HasFault o d i f → HasFault o d j g → i ≡ j
  same-tree i j f g a b = elim (cases_order i j) [
    | inl e ↦ e
    | inr (inl lt) ↦ absurd (valid-fault (j - 1) i f b.before a (omega (arith, lt)))
    | inr (inr gt) ↦ absurd (valid-fault (i - 1) j g a.before b (omega (arith, gt)))
  ]

  same-fault : (i j : ℕ) (f g : TreeFault) → HasFault o d i f → HasFault o d j g → Tree i f ≡ Tree j g
  same-fault i j f g a b =
      let e = same-tree i j f g a b in
      let h = subst (λ (k : ℕ). HasFault o d k f) e a in
      ap₂ Tree e (some-same f g (sym h.fault ∙ b.fault))

  verified-fault : (n i : ℕ) (f : TreeFault) → IsVerified o d n → HasFault o d i f → ⊥
  verified-fault n i f v h = valid-fault n i f v.valid h (omega (arith, h.to, v.all))

  verified-missing : (n i : ℕ) → IsVerified o d n → IsMissing o d i → ⊥
  verified-missing n i v m = absurd (omega (arith, v.trees, v.all, m.behind, m.to))

  verified-extra : (n i : ℕ) → IsVerified o d n → IsExtra o d i → ⊥
  verified-extra n i v x = absurd (omega (arith, v.trees, v.all, x.behind, x.within))

  fault-missing : (i j : ℕ) (f : TreeFault) → HasFault o d i f → IsMissing o d j → ⊥
  fault-missing i j f h m = valid-fault (length d) i f m.valid h h.within

  fault-extra : (i j : ℕ) (f : TreeFault) → HasFault o d i f → IsExtra o d j → ⊥
  fault-extra i j f h x = valid-fault (obligation_count o) i f x.valid h h.to

  missing-extra : (i j : ℕ) → IsMissing o d i → IsExtra o d j → ⊥
  missing-extra i j m x = absurd (omega (arith, m.behind, m.to, x.behind, x.within))

pub answer-unique : AnswerIsUnique
answer-unique o d (Ok n) (Ok m) a b p q = ap Ok (sym a.trees ∙ b.trees)
answer-unique o d (Ok n) (Err (Tree i f)) a b p q = absurd (verified-fault o d n i f a b)
answer-unique o d (Ok n) (Err (Missing i)) a b p q = absurd (verified-missing o d n i a b)
answer-unique o d (Ok n) (Err (Extra i)) a b p q = absurd (verified-extra o d n i a b)
answer-unique o d (Ok n) (Err NoMemory) a b p q = absurd (q refl)
answer-unique o d (Err (Tree i f)) (Ok n) a b p q = absurd (verified-fault o d n i f b a)
answer-unique o d (Err (Tree i f)) (Err (Tree j g)) a b p q = ap Err (same-fault o d i j f g a b)
answer-unique o d (Err (Tree i f)) (Err (Missing j)) a b p q = absurd (fault-missing o d i j f a b)
answer-unique o d (Err (Tree i f)) (Err (Extra j)) a b p q = absurd (fault-extra o d i j f a b)
answer-unique o d (Err (Tree i f)) (Err NoMemory) a b p q = absurd (q refl)
answer-unique o d (Err (Missing i)) (Ok n) a b p q = absurd (verified-missing o d n i b a)
answer-unique o d (Err (Missing i)) (Err (Tree j g)) a b p q = absurd (fault-missing o d j i g b a)
answer-unique o d (Err (Missing i)) (Err (Missing j)) a b p q = ap (λ (k : ℕ). Err (Missing k)) (a.behind ∙ sym b.behind)
answer-unique o d (Err (Missing i)) (Err (Extra j)) a b p q = absurd (missing-extra o d i j a b)
answer-unique o d (Err (Missing i)) (Err NoMemory) a b p q = absurd (q refl)
answer-unique o d (Err (Extra i)) (Ok n) a b p q = absurd (verified-extra o d n i b a)
answer-unique o d (Err (Extra i)) (Err (Tree j g)) a b p q = absurd (fault-extra o d j i g b a)
answer-unique o d (Err (Extra i)) (Err (Missing j)) a b p q = absurd (missing-extra o d j i b a)
answer-unique o d (Err (Extra i)) (Err (Extra j)) a b p q = ap (λ (k : ℕ). Err (Extra k)) (a.behind ∙ sym b.behind)
answer-unique o d (Err (Extra i)) (Err NoMemory) a b p q = absurd (q refl)
answer-unique o d (Err NoMemory) b a c p q = absurd (p refl)

-- ---- what is derived

nodes-at : (d : DerivationTable) (k : ℕ) → nodes_of (get_or d k []) ≡ get_or (trees_of d) k []
nodes-at [] k = refl
nodes-at (t ∷ d) zero = refl
nodes-at (t ∷ d) (suc k) = nodes-at d k

derived-valid : (o : OutlineTable) (i : ℕ) (nodes : List Node) → IsOutline o → 1 ≤ i → i ≤ obligation_count o → IsDerivedTree o i nodes
    → AreValid (obligation_atoms o (obligation o i)) (obligation_clauses o (obligation o i)) nodes
derived-valid o i nodes made from to h =
    written-valid (obligation_atoms o (obligation o i)) (obligation_clauses o (obligation o i)) h.log nodes (clauses-over o i made from to) h.is h.written

derived-fits : AreCounted → (o : OutlineTable) (i : ℕ) (nodes : List Node) → IsOutline o → IsNameTable o.program.names → 1 ≤ i → i ≤ obligation_count o → IsDerivedTree o i nodes → AreNodes nodes
derived-fits most o i nodes made table from to h =
    let ob = obligation o i in
    let limits = within-limits o made table in
    let is = is_obligation o.program ob (is-obligation o i from to) in
    valid-fits (obligation_atoms o ob) (obligation_clauses o ob) (atoms-few o made limits ob) (obligation-few o made limits most ob is) nodes (derived-valid o i nodes made from to h)

pub derived-verified : AreCounted → DerivedIsVerified
derived-verified most o count nodes text made table all h = record { trees = h.trees; spelled = spelled; found = found; verified = verified }
  where
    spelled : text ≡ text_of h.trees
    spelled = h.spelled ∙ append_assoc header_text (trees_text 1 h.trees) end_text

    fits : (k : ℕ) → k < length h.trees → AreNodes (get_or h.trees k [])
    fits k lt = derived-fits most o (k + 1) (get_or h.trees k []) made table (omega arith) (omega (arith, lt, h.all, all)) (h.are k lt)

    found : derivation_of text ≡ Ok h.trees
    found =
        ap derivation_of spelled
        ∙ spelled_is_found h.trees (omega (arith, h.all, all, obligations-few o.program made.draft.program), each-from AreNodes h.trees [] fits)

    verified : (d : DerivationTable) → trees_of d ≡ h.trees → IsVerified o d count
    verified d e = record {
      trees = sym (length-map d nodes_of) ∙ (ap (λ (ts : List (List Node)). length ts) e ∙ h.all);
      all = all;
      valid = valid;
    }
      where
        valid : (i : ℕ) → 1 ≤ i → i ≤ count → IsValidFor o i (tree_at d i)
        valid i from to =
            let place : i - 1 < length h.trees = omega (arith, from, to, h.all) in
            let number : (i - 1) + 1 ≡ i = omega (arith, from) in
            let here = subst (λ (j : ℕ). IsDerivedTree o j (get_or h.trees (i - 1) [])) number (h.are (i - 1) place) in
            let same : nodes_of (tree_at d i) ≡ get_or h.trees (i - 1) [] = nodes-at d (i - 1) ∙ ap (λ (ts : List (List Node)). get_or ts (i - 1) []) e in
            subst (AreValid (obligation_atoms o (obligation o i)) (obligation_clauses o (obligation o i))) (sym same)
            (derived-valid o i (get_or h.trees (i - 1) []) made from (omega (arith, to, all)) here)
