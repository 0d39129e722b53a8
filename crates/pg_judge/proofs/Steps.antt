-- One obligation after the other: what is known where each is closed, where one is met, and where one is spent.
use Rattle.std.proofs.Common.{◌≡◌, ℕ, zero, suc, ◌+◌, ◌<◌, ◌≤◌, Bool, true, false, List, [], ◌∷◌, ◌++◌, length, map, refl, sym, ap, subst, ◌∙◌, add-one, arith}
use Rattle.std.specs.List.{range_with_len}
use Rattle.std.proofs.lemmas.List.{map-append}
use Rattle.std.proofs.lemmas.List.FromFn.{length-map-range_with_len}
use Rattle.pg_decider.specs.Assignment.{Assignment}
use Rattle.pg_decider.specs.Outcome as decider
use Rattle.pg_decider.specs.declared.log.TreeNode.{TreeNode}
use Rattle.pg_decider.specs.declared.verdict.Verdict.{Verdict}
use Rattle.pg_decider.specs.declared.verdict.Verdict.TheVariants.{Closed, Model, Spent}
use Rattle.pg_outline.specs.Outline.{OutlineTable}
use Rattle.pg_layers.specs.Clauses.{obligation, obligation_clauses, obligation_atoms}
use Rattle.pg_judge.specs.Limits.{most_budget}
use Rattle.pg_judge.specs.Outcome.{obligation_count, IsTreeOf, AreClosed, IsNext, truths_of, IsAccepted, IsRejected, IsSpent}
use Rattle.pg_judge.specs.Bench.{AreDone}

-- what is decided of an outline's obligation is decided of the same outline's
pub of-alike : (p o : OutlineTable) (i budget : ℕ) (v w : Verdict) (log : List TreeNode) (s : Assignment) → p ≡ o → v ≡ w
    → decider.IsOutcome (obligation_clauses p (obligation p i)) v budget log s → decider.IsOutcome (obligation_clauses o (obligation o i)) w budget log s
of-alike p o i budget v w log s e f h =
    subst (λ (x : Verdict). decider.IsOutcome (obligation_clauses o (obligation o i)) x budget log s) f
    (subst (λ (q : OutlineTable). decider.IsOutcome (obligation_clauses q (obligation q i)) v budget log s) e h)

pub truths-alike : (o : OutlineTable) (budget i atoms : ℕ) (s : Assignment) → atoms ≡ obligation_atoms o (obligation o i)
    → IsRejected o budget i (truths_of (obligation_atoms o (obligation o i)) s) → IsRejected o budget i (truths_of atoms s)
truths-alike o budget i atoms s e h = subst (λ (n : ℕ). IsRejected o budget i (truths_of n s)) (sym e) h

module _ (o : OutlineTable) (budget : ℕ) where
  pub none-done : AreDone o budget 0 0
  none-done = record { closed = refl; few = omega arith }

  pub one-more : (k nodes n : ℕ) (log : List TreeNode) (s : Assignment) → AreDone o budget k nodes → budget ≤ most_budget
      → decider.IsOutcome (obligation_clauses o (obligation o (k + 1))) (Closed n) budget log s → AreDone o budget (k + 1) (nodes + n)
  one-more k nodes n log s d le h =
      let next : suc k ≡ k + 1 = omega arith in
      record {
        closed = subst (λ (j : ℕ). AreClosed o budget j (nodes + n)) next (record {
          before = nodes;
          here = n;
          sum = refl;
          first = d.closed;
          next = record {
            tree = h.tree;
            is = subst (λ (j : ℕ). IsTreeOf o j h.tree) (sym next) h.is;
            closed = h.answers.0;
            visited = h.answers.1;
            within = h.answers.2;
          };
        });
        few = omega (arith, d.few, le, h.answers.2);
      }

  next-is : (k nodes : ℕ) → AreDone o budget k nodes → k < obligation_count o → IsNext o budget (k + 1)
  next-is k nodes d lt = record {
    from = omega arith;
    to = omega (arith, lt);
    nodes = nodes;
    closed = subst (λ (j : ℕ). AreClosed o budget j nodes) (omega arith) d.closed;
  }

  pub met-here : (k nodes n : ℕ) (log : List TreeNode) (s : Assignment) → AreDone o budget k nodes → k < obligation_count o
      → decider.IsOutcome (obligation_clauses o (obligation o (k + 1))) (Model n) budget log s
      → IsRejected o budget (k + 1) (truths_of (obligation_atoms o (obligation o (k + 1))) s)
  met-here k nodes n log s d lt h = record {
    next = next-is k nodes d lt;
    tree = h.tree;
    is = h.is;
    model = s;
    meets = h.answers.3;
    within = omega (arith, h.answers.1, h.answers.2);
    truths_are = refl;
  }

  pub spent-here : (k nodes : ℕ) (log : List TreeNode) (s : Assignment) → AreDone o budget k nodes → k < obligation_count o
      → decider.IsOutcome (obligation_clauses o (obligation o (k + 1))) Spent budget log s → IsSpent o budget (k + 1)
  spent-here k nodes log s d lt h = record { next = next-is k nodes d lt; tree = h.tree; is = h.is; more = h.answers }

  pub all-done : (count nodes : ℕ) → AreDone o budget count nodes → count ≡ obligation_count o → IsAccepted o budget count nodes
  all-done count nodes d e = record { all = e; closed = d.closed }

-- ---- the truths one by one

range-suc : (a n : ℕ) → range_with_len a (suc n) ≡ range_with_len a n ++ (a + n) ∷ []
range-suc a zero = ap (λ (k : ℕ). k ∷ []) (omega arith)
range-suc a (suc n) = ap (λ (l : List ℕ). a ∷ l) (range-suc (a + 1) n ∙ ap (λ (k : ℕ). range_with_len (a + 1) n ++ k ∷ []) (omega arith))

pub truths-length : (n : ℕ) (s : Assignment) → length (truths_of n s) ≡ n + 1
truths-length n s = ap suc (length-map-range_with_len (λ (a : ℕ). s (record { atom = a; positive = true })) 1 n) ∙ omega arith

pub truths-more : (n : ℕ) (s : Assignment) → truths_of (n + 1) s ≡ truths_of n s ++ s (record { atom = n + 1; positive = true }) ∷ []
truths-more n s =
    let f : ℕ → Bool = λ a. s (record { atom = a; positive = true }) in
    let more : range_with_len 1 (n + 1) ≡ range_with_len 1 n ++ (1 + n) ∷ [] = ap (range_with_len 1) (add-one n) ∙ range-suc 1 n in
    let last : 1 + n ≡ n + 1 = omega arith in
    ap (λ (l : List ℕ). false ∷ map f l) more
    ∙ (ap (λ (l : List Bool). false ∷ l) (map-append f (range_with_len 1 n) ((1 + n) ∷ []))
    ∙ ap (λ (k : ℕ). false ∷ (map f (range_with_len 1 n) ++ f k ∷ [])) last)
