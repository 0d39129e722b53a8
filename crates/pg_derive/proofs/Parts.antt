-- The parts of a derivation, one after the other.
use Rattle.std.proofs.Common.{◌≡◌, ℕ, ◌+◌, ◌<◌, ◌≤◌, List, [], ◌++◌, length, Option, refl, sym, ap, subst, ◌∙◌, arith, inl, inr}
use Rattle.std.specs.Prelude.{Result, Err}
use Rattle.std.proofs.lemmas.List.{append-nil}
use Rattle.pg_region.specs.Literal.{Literal}
use Rattle.pg_region.specs.Region.{RegionTable}
use Rattle.pg_region.specs.Sink.{sink_of}
use Rattle.pg_decider.specs.Assignment.{Assignment}
use Rattle.pg_decider.specs.Held.{WorkspaceTable, LogTable}
use Rattle.pg_decider.specs.Laws.{AreOver}
use Rattle.pg_decider.specs.Leaf.{IsLog}
use Rattle.pg_decider.specs.Outcome as decider
use Rattle.pg_decider.specs.declared.verdict.Verdict.TheVariants.{Closed}
use Rattle.pg_decider.specs.declared.log.TreeNode.{TreeNode}
use Rattle.pg_derivation.specs.Text.{header_text, obligation_text, end_text}
use Rattle.pg_outline.specs.Outline.{OutlineTable}
use Rattle.pg_layers.specs.Clauses.{obligation, obligation_clauses, obligation_atoms}
use Rattle.pg_layers.specs.Layers.{Loading, left}
use Rattle.pg_layers.specs.Needs.{IsMostAtoms}
use Rattle.pg_judge.specs.Outcome.{Outcome, accepted, rejected, spent, obligation_count, IsClosed, AreClosed, IsOutcome, truths_of}
use Rattle.pg_judge.specs.Bench.{IsReady, IsEnd}
use Rattle.pg_judge.specs.declared.bench.End.{End}
use Rattle.pg_judge.specs.declared.bench.End.TheVariants.{Behind, Met, Spent}
use Rattle.pg_judge.proofs.Unique.{outcome-unique}
use Rattle.pg_derive.specs.declared.fault.DeriveFault.{DeriveFault}
use Rattle.pg_derive.specs.declared.fault.DeriveFault.TheVariants.{Write, NoMemory}
use Rattle.pg_derive.specs.Puts.{Puts, PutsText, PutsPart}
use Rattle.pg_derive.specs.Derived.{IsDerivation, IsDerivationUnder}
use Rattle.pg_derive.specs.Begun.{IsFirstText, IsSomeText, IsWholeText, IsPartText, AreTexts, IsBegun, IsEndText, IsTurned, closed_at, end_line}
use Rattle.pg_derive.specs.SoFar.{IsSoFar}
use Rattle.pg_derive.proofs.Pieces.{appended-nothing, text-behind, part-longer, fault-behind, puts-behind}
use Rattle.pg_derive.proofs.Texts.{none-first, no-texts, texts-more}
use Rattle.pg_derive.proofs.Whole.{goes-on}

-- a fault says nothing of the value that is not answered
pub fault-same : {T U : Type 0} (W : T → List ℕ → Type 0) (V : U → List ℕ → Type 0) (P : List ℕ → Type 0) (e : DeriveFault) (old new : Option (List ℕ)) (before now : ℕ)
    → Puts W P (Err e) old new before now → Puts V P (Err e) old new before now
fault-same W V P Write old new before now h = h
fault-same W V P NoMemory old new before now h = h

-- ---- an obligation

module _ (o : OutlineTable) (i : ℕ) (log : List TreeNode) (is : IsLog (obligation_clauses o (obligation o i)) log) (old mid new : Option (List ℕ)) (before between now : ℕ) where
  pub part-begun : (e : DeriveFault) → Puts (λ (_ : Unit {0}) text. text ≡ obligation_text i) (λ text. text ≡ obligation_text i) (Err e) old new before now
      → Puts (λ (_ : Unit {0}) text. IsWholeText o i text) (IsPartText o i) (Err e) old new before now
  part-begun e h = fault-behind (λ (_ : Unit {0}) text. text ≡ obligation_text i) (λ (_ : Unit {0}) text. IsWholeText o i text) (λ text. text ≡ obligation_text i) (IsPartText o i)
      old old new before before now [] e (sym (appended-nothing old)) (omega arith) begun h
    where
      begun : (text : List ℕ) → text ≡ obligation_text i → IsPartText o i ([] ++ text)
      begun text e = record {
        log = log;
        is = is;
        lines = [];
        tree = (0, none-first (obligation_clauses o (obligation o i)) log);
        spelled = e ∙ sym (append-nil (obligation_text i));
      }

  pub part-tree : (r : Result (Unit {0}) DeriveFault) (cs : List (List Literal)) → cs ≡ obligation_clauses o (obligation o i) → PutsText (λ text. text ≡ obligation_text i) old mid → before ≤ between
      → Puts (λ (_ : Unit {0}) text. IsFirstText cs log (length log) text) (IsSomeText cs log) r mid new between now
      → Puts (λ (_ : Unit {0}) text. IsWholeText o i text) (IsPartText o i) r old new before now
  part-tree r cs same head le h =
      puts-behind (λ (_ : Unit {0}) text. IsFirstText cs log (length log) text) (λ (_ : Unit {0}) text. IsWholeText o i text) (IsSomeText cs log) (IsPartText o i)
      old mid new before between now head.text r head.written le
      (λ u text t. record {
        log = log;
        is = is;
        lines = text;
        tree = subst (λ (ds : List (List Literal)). IsFirstText ds log (length log) text) same t;
        spelled = ap (λ (l : List ℕ). l ++ text) head.is;
      })
      (λ text t. record {
        log = log;
        is = is;
        lines = text;
        tree = (t.0, subst (λ (ds : List (List Literal)). IsFirstText ds log t.0 text) same t.1);
        spelled = ap (λ (l : List ℕ). l ++ text) head.is;
      }) h

-- ---- the bench

pub closed-here : (o : OutlineTable) (budget i n : ℕ) (log : List TreeNode) (s : Assignment) → decider.IsOutcome (obligation_clauses o (obligation o i)) (Closed n) budget log s → IsClosed o budget i n
closed-here o budget i n log s h = record { tree = h.tree; is = h.is; closed = h.answers.0; visited = h.answers.1; within = h.answers.2 }

pub turned-ready : (o : OutlineTable) (nodes : ℕ) (k k' : Loading) (r r' : RegionTable) (w w' : WorkspaceTable) (l l' : LogTable) → IsReady o nodes k r w l → IsTurned k k' r r' w w' l l'
    → IsReady o nodes k' r' w' l'
turned-ready o nodes k k' r r' w w' l l' ready t = record {
  outline = ap (λ (j : Loading). j.outline) t.loader ∙ ready.outline;
  laid = ap (λ (q : RegionTable). q.clauses) t.region ∙ (ready.laid ∙ ap left (sym t.loader));
  words = omega (arith, ready.words, ap (λ (q : RegionTable). (sink_of q).capacity.words) t.region);
  spans = ap (λ (q : RegionTable). (sink_of q).capacity.spans) t.region ∙ ready.spans;
  atoms = subst (IsMostAtoms o) (sym t.atoms) ready.atoms;
  clauses = omega (arith, ready.clauses, t.clauses);
  log = omega (arith, ready.log, ap (λ (q : LogTable). q.room) t.log);
}

-- ---- the trees

module _ (o : OutlineTable) (budget : ℕ) where
  header-is-begun : (text : List ℕ) → text ≡ header_text → IsBegun o budget ([] ++ text)
  header-is-begun text e = record {
    done = 0;
    front = header_text;
    texts = no-texts o;
    nodes = 0;
    closed = refl;
    rest = [];
    next = inl refl;
    spelled = e ∙ sym (append-nil header_text);
    few = omega arith;
  }

  pub header-begun : {T : Type 0} (V : T → List ℕ → Type 0) (e : DeriveFault) (old new : Option (List ℕ)) (before now : ℕ)
      → Puts (λ (_ : Unit {0}) text. text ≡ header_text) (λ text. text ≡ header_text) (Err e) old new before now → Puts V (IsBegun o budget) (Err e) old new before now
  header-begun V e old new before now h =
      fault-behind (λ (_ : Unit {0}) text. text ≡ header_text) V (λ text. text ≡ header_text) (IsBegun o budget)
      old old new before before now [] e (sym (appended-nothing old)) (omega arith) header-is-begun h

  pub header-put : (old new : Option (List ℕ)) (before now : ℕ) → PutsText (λ text. text ≡ header_text) old new → before ≤ now → IsSoFar o 0 old new before now
  header-put old new before now h le = record { text = h.text; texts = subst (AreTexts o 0) (sym h.is) (no-texts o); written = h.written; faults = le }

  pub tree-begun : {T : Type 0} (V : T → List ℕ → Type 0) (k nodes n : ℕ) (e : DeriveFault) (old mid new : Option (List ℕ)) (before between now : ℕ) → IsSoFar o k old mid before between
      → AreClosed o budget k nodes → IsClosed o budget (k + 1) n → k < obligation_count o
      → Puts (λ (_ : Unit {0}) text. IsWholeText o (k + 1) text) (IsPartText o (k + 1)) (Err e) mid new between now → Puts V (IsBegun o budget) (Err e) old new before now
  tree-begun V k nodes n e old mid new before between now s c d lt h =
      fault-behind (λ (_ : Unit {0}) text. IsWholeText o (k + 1) text) V (IsPartText o (k + 1)) (IsBegun o budget) old mid new before between now s.text e s.written s.faults
      (λ text part. record {
        done = k;
        front = s.text;
        texts = s.texts;
        nodes = nodes;
        closed = c;
        rest = text;
        next = inr (n, d, omega (arith, lt), part);
        spelled = refl;
        few = omega (arith, lt);
      }) h

  pub tree-put : (k : ℕ) (old mid new : Option (List ℕ)) (before between now : ℕ) → IsSoFar o k old mid before between → PutsText (IsWholeText o (k + 1)) mid new → between ≤ now
      → IsSoFar o (k + 1) old new before now
  tree-put k old mid new before between now s h le = record {
    text = s.text ++ h.text;
    texts = texts-more o k s.text h.text s.texts h.is;
    written = text-behind old mid new s.text h.text s.written h.written;
    faults = omega (arith, s.faults, le);
  }

  pub trees-put : (k j : ℕ) (old new : Option (List ℕ)) (before now : ℕ) → k ≡ j → IsSoFar o k old new before now → PutsText (AreTexts o j) old new
  trees-put k j old new before now e s = record { text = s.text; is = subst (λ (m : ℕ). AreTexts o m s.text) e s.texts; written = s.written }

  -- ---- the end

  module _ (over : (i : ℕ) → 1 ≤ i → i ≤ obligation_count o → AreOver (obligation_atoms o (obligation o i)) (obligation_clauses o (obligation o i))) where
    longer : (old new : Option (List ℕ)) → PutsPart (IsBegun o budget) old new → PutsPart (IsDerivationUnder o budget) old new
    longer old new h =
        let g = goes-on o budget over h.text h.is in
        record { text = h.text ++ g.rest; is = g.is; part = part-longer old new h.text g.rest h.part }

    pub begun-under : {T U : Type 0} (W : T → List ℕ → Type 0) (V : U → List ℕ → Type 0) (e : DeriveFault) (old new : Option (List ℕ)) (before now : ℕ)
        → Puts W (IsBegun o budget) (Err e) old new before now → Puts V (IsDerivationUnder o budget) (Err e) old new before now
    begun-under W V Write old new before now h = (longer old new h.0, h.1)
    begun-under W V NoMemory old new before now h = longer old new h

    -- nothing is put where memory runs out before
    pub nothing-under : {T : Type 0} (V : T → List ℕ → Type 0) (old : Option (List ℕ)) (before now : ℕ) → Puts V (IsDerivationUnder o budget) (Err NoMemory) old old before now
    nothing-under V old before now =
        longer old old (record { text = header_text; is = header-is-begun header_text refl; part = (0, sym (appended-nothing old)) })

  -- the outcome of an end
  abbrev outcome_at : Assignment → End → Outcome
  outcome_at found (Behind count nodes) = accepted count nodes
  outcome_at found (Met i atoms) = rejected i (truths_of atoms found)
  outcome_at found (Spent i) = spent i

  end-outcome : (found : Assignment) (end : End) → IsEnd o budget found end → IsOutcome o budget (outcome_at found end)
  end-outcome found (Behind count nodes) h = h
  end-outcome found (Met i atoms) h = h
  end-outcome found (Spent i) h = h

  end-derivation : (found : Assignment) (end : End) (front : List ℕ) → AreTexts o (closed_at end) front → IsDerivation o (outcome_at found end) (front ++ end_line end)
  end-derivation found (Behind count nodes) front h = record { trees = h.trees; are = h.are; all = h.all; spelled = ap (λ (l : List ℕ). l ++ end_text) h.spelled }
  end-derivation found (Met i atoms) front h = record { trees = h.trees; are = h.are; all = h.all; spelled = ap (λ (l : List ℕ). l ++ []) h.spelled }
  end-derivation found (Spent i) front h = record { trees = h.trees; are = h.are; all = h.all; spelled = ap (λ (l : List ℕ). l ++ []) h.spelled }

  pub end-fault : {T : Type 0} (V : T → List ℕ → Type 0) (found : Assignment) (end : End) (e : DeriveFault) (old mid new : Option (List ℕ)) (before between now : ℕ)
      → IsEnd o budget found end → PutsText (AreTexts o (closed_at end)) old mid → before ≤ between
      → Puts (λ (_ : Unit {0}) text. text ≡ end_line end) (λ text. text ≡ end_line end) (Err e) mid new between now → Puts V (IsDerivationUnder o budget) (Err e) old new before now
  end-fault V found end e old mid new before between now is trees le h =
      fault-behind (λ (_ : Unit {0}) text. text ≡ end_line end) V (λ text. text ≡ end_line end) (IsDerivationUnder o budget) old mid new before between now trees.text e trees.written le
      (λ text t. subst (λ (l : List ℕ). IsDerivationUnder o budget (trees.text ++ l)) (sym t)
      (record { outcome = outcome_at found end; is = end-outcome found end is; derivation = end-derivation found end trees.text trees.is })) h

  pub end-put : (end : End) (old mid new : Option (List ℕ)) → PutsText (AreTexts o (closed_at end)) old mid → PutsText (λ text. text ≡ end_line end) mid new → PutsText (IsEndText o end) old new
  end-put end old mid new trees h = record {
    text = trees.text ++ h.text;
    is = record { front = trees.text; texts = trees.is; spelled = ap (λ (l : List ℕ). trees.text ++ l) h.is };
    written = text-behind old mid new trees.text h.text trees.written h.written;
  }

  -- the text of an end is that of the outcome
  pub end-is : (found : Assignment) (end : End) (a : Outcome) (old new : Option (List ℕ)) → IsEnd o budget found end → IsOutcome o budget a → PutsText (IsEndText o end) old new
      → PutsText (IsDerivation o a) old new
  end-is found end a old new is outcome h = record {
    text = h.text;
    is =
        let same = outcome-unique o budget (outcome_at found end) a (end-outcome found end is) outcome in
        subst (λ (b : Outcome). IsDerivation o b h.text) same
        (subst (IsDerivation o (outcome_at found end)) (sym h.is.spelled) (end-derivation found end h.is.front h.is.texts));
    written = h.written;
  }
