-- What is ready stays so from obligation to obligation.
use Rattle.std.proofs.Common.{◌≡◌, ℕ, zero, suc, ◌+◌, ◌-◌, ◌<◌, ◌≤◌, List, [], ◌∷◌, length, map, get_or, None, sym, ap, subst, ◌∙◌, arith}
use Rattle.std.specs.List.{All}
use Rattle.std.proofs.lemmas.List.Elements.{All-head, All-tail, All-contains}
use Rattle.pg_region.specs.Region.{RegionTable}
use Rattle.pg_region.specs.Sink.{Capacity, sink_of}
use Rattle.pg_region.specs.declared.range.Loaded.{Loaded}
use Rattle.pg_decider.specs.Held.{WorkspaceTable, LogTable}
use Rattle.pg_outline.specs.Outline.{OutlineTable}
use Rattle.pg_obligations.specs.declared.obligation.Obligation.{Obligation}
use Rattle.pg_obligations.specs.declared.obligation.Obligation.TheVariants.{Fresh}
use Rattle.pg_obligations.specs.Obligations.{obligations}
use Rattle.pg_layers.specs.Clauses.{obligation, obligation_atoms, obligation_clauses}
use Rattle.pg_layers.specs.Layers.{Loading, left, loaded_with, IsLoaded}
use Rattle.pg_layers.specs.Needs.{enough_words, enough_spans, IsMostAtoms}
use Rattle.pg_judge.specs.Outcome.{obligation_count}
use Rattle.pg_judge.specs.Bench.{IsReady}
use Rattle.pg_judge.proofs.Loaded.{clauses-few}

all-few : (f : Obligation → ℕ) (n : ℕ) (obs : List Obligation) (k : ℕ) → k < length obs → All (λ m. m ≤ n) (map f obs) → f (get_or obs k Fresh) ≤ n
all-few f n [] k lt h = absurd (omega (arith, lt))
all-few f n (ob ∷ obs) zero lt h = All-head (λ m. m ≤ n) (f ob) (map f obs) h
all-few f n (ob ∷ obs) (suc k) lt h = all-few f n obs k (omega (arith, lt)) (All-tail (λ m. m ≤ n) (f ob) (map f obs) h)

-- no obligation has more atoms than the most, which is one number
pub atoms-few : (o : OutlineTable) (n i : ℕ) → IsMostAtoms o n → 1 ≤ i → i ≤ obligation_count o → obligation_atoms o (obligation o i) ≤ n
atoms-few o n i m from to = all-few (obligation_atoms o) n (obligations o.program) (i - 1) (omega (arith, from, to)) m.each

pub most-few : (o : OutlineTable) (n m : ℕ) → IsMostAtoms o n → IsMostAtoms o m → n ≤ m
most-few o n m a b = All-contains (λ k. k ≤ m) (map (obligation_atoms o) (obligations o.program)) n b.each a.one

-- nothing was loaded yet
pub first-ready : (o : OutlineTable) (nodes words spans atoms : ℕ) (k : Loading) (r : RegionTable) (w : WorkspaceTable) (l : LogTable)
    → k ≡ record { outline = o; ruled = None; last = None } → words ≡ enough_words → spans ≡ enough_spans → IsMostAtoms k.outline atoms
    → r ≡ record { clauses = []; spare_words = words; spare_spans = spans; pushes = 0 } → w.atoms ≡ atoms → w.clauses ≡ spans → nodes ≤ l.room
    → IsReady o nodes k r w l
first-ready o nodes words spans atoms k r w l loader enough_w enough_s most region at clauses room =
    let same = ap (λ (j : Loading). j.outline) loader in
    record {
      outline = same;
      laid = ap (λ (q : RegionTable). q.clauses) region ∙ ap left (sym loader);
      words = omega (arith, ap (λ (q : RegionTable). (sink_of q).capacity.words) region, enough_w);
      spans = omega (arith, ap (λ (q : RegionTable). (sink_of q).capacity.spans) region, enough_s);
      atoms = subst (IsMostAtoms o) (sym at) (subst (λ (q : OutlineTable). IsMostAtoms q atoms) same most);
      clauses = omega (arith, clauses, enough_s);
      log = room;
    }

pub stays-ready : (o : OutlineTable) (nodes : ℕ) (k next : Loading) (ob : Obligation) (r r' : RegionTable) (w w' : WorkspaceTable) (l l' : LogTable) (at : Loaded)
    → IsReady o nodes k r w l → next ≡ loaded_with k ob → IsLoaded k ob r r' at → w'.atoms ≡ w.atoms → w'.clauses ≡ w.clauses → l'.room ≡ l.room
    → IsReady o nodes next r' w' l'
stays-ready o nodes k next ob r r' w w' l l' at ready is h atoms clauses room = record {
  outline = ap (λ (j : Loading). j.outline) is ∙ ready.outline;
  laid = h.laid ∙ ap left (sym is);
  words = omega (arith, ready.words, ap (λ (c : Capacity). c.words) h.capacity);
  spans = ap (λ (c : Capacity). c.spans) h.capacity ∙ ready.spans;
  atoms = subst (IsMostAtoms o) (sym atoms) ready.atoms;
  clauses = omega (arith, ready.clauses, clauses);
  log = omega (arith, ready.log, room);
}

-- the clauses of an obligation that was loaded are no more than those that the region may hold
pub clauses-fit : (k : Loading) (ob : Obligation) (r r' : RegionTable) (at : Loaded) (n : ℕ) → IsLoaded k ob r r' at → r.spare_spans + length r.clauses ≤ n
    → length (obligation_clauses k.outline ob) ≤ n
clauses-fit k ob r r' at n h le =
    omega (arith, clauses-few k.outline ob k.ruled, ap length h.laid, ap (λ (c : Capacity). c.spans) h.capacity, le)
