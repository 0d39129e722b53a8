-- The truths of a rejection make the clauses of the obligation true, and so it does not follow.
use Rattle.std.proofs.Common.{◌≡◌, ℕ, ◌-◌, ◌<◌, ◌≤◌, Bool, true, List, length, sym, subst, arith}
use Rattle.std.specs.List.{All}
use Rattle.std.proofs.lemmas.List.Elements.{All-weaker}
use Rattle.pg_region.specs.Literal.{Literal}
use Rattle.pg_clauses.specs.Truth.{all_true}
use Rattle.pg_decider.specs.Laws.{AreOver}
use Rattle.pg_outline.specs.Outline.{OutlineTable}
use Rattle.pg_outline.specs.Made.{IsOutline}
use Rattle.pg_obligations.specs.Obligations.{obligations}
use Rattle.pg_layers.specs.Clauses.{layout_of, entailment_of, clauses_of, atoms_of, obligation, obligation_clauses, obligation_atoms}
use Rattle.pg_layers.proofs.Law.{clauses_decide}
use Rattle.pg_layers.proofs.Loads.{clauses_low}
use Rattle.pg_layers.proofs.Members.{is_obligation}
use Rattle.pg_layers.proofs.Parts.{entailment_over}
use Rattle.pg_judge.specs.Outcome.{IsRejected}
use Rattle.pg_judge.specs.Laws.{truth_in, IsRefuted}
use Rattle.pg_judge.proofs.Models.{model-is}
use Rattle.pg_judge.proofs.Truths.{truths-meet}
use Rattle.pg_judge.proofs.Numbers.{are-over}
use Rattle.pg_judge.proofs.Accepted.{is-obligation}

-- the atoms of an obligation's clauses are numbered from 1 to their count
pub clauses-over : (o : OutlineTable) (i : ℕ) → IsOutline o → 1 ≤ i → i ≤ length (obligations o.program) → AreOver (obligation_atoms o (obligation o i)) (obligation_clauses o (obligation o i))
clauses-over o i made from to =
    let l = layout_of o in
    let e = entailment_of o (obligation o i) in
    let is = is_obligation o.program (obligation o i) (is-obligation o i from to) in
    are-over l e (atoms_of l e) (no-greater _ (clauses_of l e) (clauses_low l e (entailment_over o made (obligation o i) is)))
  where
    no-greater : (m : ℕ) (cs : List (List Literal)) → All (All (λ (x : Literal). x.atom < m)) cs → All (All (λ (x : Literal). x.atom ≤ m - 1)) cs
    no-greater m cs h =
        All-weaker (All (λ (x : Literal). x.atom < m)) (All (λ (x : Literal). x.atom ≤ m - 1))
        (λ c. All-weaker (λ (x : Literal). x.atom < m) (λ (x : Literal). x.atom ≤ m - 1) (λ x lt. omega (arith, lt)) c) cs h

met : (o : OutlineTable) (budget i : ℕ) (truths : List Bool) → IsOutline o → IsRejected o budget i truths
    → all_true (truth_in truths) (obligation_clauses o (obligation o i)) ≡ true
met o budget i truths made r =
    let cs = obligation_clauses o (obligation o i) in
    let n = obligation_atoms o (obligation o i) in
    subst (λ (ts : List Bool). all_true (truth_in ts) cs ≡ true) (sym r.truths_are)
    (truths-meet n r.model cs (clauses-over o i made r.next.from r.next.to) (model-is cs r.tree r.model r.is r.meets))

pub rejected-refuted : (o : OutlineTable) (budget i : ℕ) (truths : List Bool) → IsOutline o → IsRejected o budget i truths → IsRefuted o i truths
rejected-refuted o budget i truths made r =
    let true_there = met o budget i truths made r in
    record {
      met = true_there;
      fails = λ follows. (clauses_decide o (obligation o i) made (is-obligation o i r.next.from r.next.to)).0 follows (truth_in truths) true_there;
    }
