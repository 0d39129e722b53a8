use Rattle.std.proofs.Common.{◌≡◌, ℕ, ◌+◌, ◌<◌, ◌≤◌, Bool, true, false, List, [], ◌∷◌, length, set, drop, refl, sym, ap, subst, ◌∙◌, arith, inl, inr, ◌⊎◌}
use Rattle.std.proofs.lemmas.Bool.{both_ways}
use Rattle.std.proofs.lemmas.List.{length-set}
use Rattle.pg_region.specs.Literal.{Literal, negated}
use Rattle.pg_decider.specs.Assignment.{on, added, Within, HasConflict}
use Rattle.pg_decider.specs.Chains.{chain, ChainTable, with_chain}
use Rattle.pg_decider.specs.Trail.{lit, TrailTable}
use Rattle.pg_decider.specs.Watch.{place, Placed, Shape, Grown, Watching, KeepsWatched, KeepsWatching, Draining}
use Rattle.pg_decider.specs.Weigh.{occurs}
use Rattle.pg_decider.proofs.Weighing.{occurs-here}
use Rattle.pg_decider.proofs.Literals.{place-same, added-cases}
use Rattle.pg_decider.proofs.Placing.{placed-detached, chain-here, chain-there}
use Rattle.pg_decider.proofs.Watching.{watching-start, watching-popped}
use Rattle.pg_decider.proofs.Visits.{grown-same, grown-trans, place-within}

pub shape-chain : (cs : List (List Literal)) (ws : List Literal) (ct : ChainTable) (t : TrailTable) (m : ℕ) (xs : List ℕ) → Shape cs ws ct t → Shape cs ws (with_chain ct m xs) t
shape-chain cs ws ct t m xs s = record { size = s.size; over = s.over; lists = omega (arith, length-set ct.lists m xs, s.lists); slots = s.slots; few = s.few }

pub placed-any : (cs : List (List Literal)) (ws : List Literal) (ls : List (List ℕ)) (f g n : ℕ) → Placed cs ws ls f n → chain ls 0 ≡ [] → Placed cs ws ls g n
placed-any cs ws ls f g n r empty = record {
  has = r.has;
  sound = r.sound;
  late = λ x h. absurd (omega (arith, ap (occurs x) empty));
  full = r.full;
}

pub draining-start : (cs : List (List Literal)) (ws : List Literal) (ct : ChainTable) (t : TrailTable) (looks : ℕ) (f : Literal) → Shape cs ws ct t → Placed cs ws ct.lists 0 (length ws) → chain ct.lists 0 ≡ [] →
    f.atom ≤ t.atoms → Draining cs ws ct.lists t looks f ws (with_chain (with_chain ct 0 (chain ct.lists (place f))) (place f) []) t looks true
draining-start cs ws ct t looks f sh r empty atom =
    let w = place-within f t.atoms atom in
    let lt : place f < length ct.lists = omega (arith, w.1, sh.lists) in
    let l1 = set ct.lists 0 (chain ct.lists (place f)) in
    let first : chain (set l1 (place f) []) 0 ≡ chain ct.lists (place f) = chain-there l1 (place f) 0 [] (λ e. omega arith) ∙ chain-here ct.lists 0 (chain ct.lists (place f)) (omega arith) in
    record {
      shape = shape-chain cs ws (with_chain ct 0 (chain ct.lists (place f))) t (place f) [] (shape-chain cs ws ct t 0 (chain ct.lists (place f)) sh);
      placed = placed-detached cs ws ct.lists (place f) 0 (length ws) r empty w.0 lt;
      grown = grown-same cs t;
      shut = λ e. absurd (both_ways true e refl);
      watching = λ p pv wa e. watching-start cs ws (chain (set l1 (place f) []) 0) p (on t.literals) f wa
          (λ x xlt is. omega (arith, r.full x xlt (λ z. omega arith), ap (occurs x) empty, ap (occurs x) first, ap (λ (l : Literal). occurs x (chain ct.lists (place l))) is));
      keeps = λ u uv wu. wu;
      looked = omega (arith, ap length first);
    }

-- the slot that is popped watches f
pub popped-slot : (cs : List (List Literal)) (ws : List Literal) (ls : List (List ℕ)) (f : Literal) (x n : ℕ) (xs : List ℕ) → Placed cs ws ls (place f) n → chain ls 0 ≡ x ∷ xs → (x < length ws) × (lit ws x ≡ f)
popped-slot cs ws ls f x n xs r is =
    let p = r.late x (omega (arith, ap (occurs x) is, occurs-here x xs)) in
    (p.0, place-same (lit ws x) f p.1)

pub false-later : (cs : List (List Literal)) (t u : TrailTable) (l : Literal) → Grown cs t u → on t.literals l ≡ true → on u.literals l ≡ true
false-later cs t u l g h = g.reached.above l h

pub draining-step : (cs : List (List Literal)) (ws0 : List Literal) (ls0 : List (List ℕ)) (t0 : TrailTable) (looks0 : ℕ) (f : Literal)
    (ws ws' : List Literal) (ct cp ct' : ChainTable) (t t' : TrailTable) (looks looks' x : ℕ) (calm calm' : Bool) →
    on t0.literals (negated f) ≡ true →
    Draining cs ws0 ls0 t0 looks0 f ws ct t looks calm → chain ct.lists 0 ≡ x ∷ drop 1 (chain ct.lists 0) → cp ≡ with_chain ct 0 (drop 1 (chain ct.lists 0)) →
    looks' ≤ looks + 1 → Shape cs ws' ct' t' → Placed cs ws' ct'.lists (place f) (length ws') → chain ct'.lists 0 ≡ chain cp.lists 0 →
    Grown cs t t' → (calm' ≡ false → HasConflict cs (on t'.literals)) → (calm' ≡ true → calm ≡ true) →
    KeepsWatching cs ws ws' (chain cp.lists 0) (on t.literals) (on t'.literals) x calm' → KeepsWatched cs ws ws' (on t.literals) →
    Draining cs ws0 ls0 t0 looks0 f ws' ct' t' looks' calm'
draining-step cs ws0 ls0 t0 looks0 f ws ws' ct cp ct' t t' looks looks' x calm calm' wrong d is pop lk sh r rest g shut calmer kw kp =
    let xs = drop 1 (chain ct.lists 0) in
    let here : chain cp.lists 0 ≡ xs = ap (λ (y : ChainTable). chain y.lists 0) pop ∙ chain-here ct.lists 0 xs (omega (arith, d.shape.lists)) in
    record {
      shape = sh;
      placed = r;
      grown = grown-trans cs t0 t t' d.grown g;
      shut = shut;
      watching = λ p pv wa e.
          let now = d.watching p pv wa (calmer e) in
          let gone : Watching cs ws xs (added (negated f) p) (on t.literals) x = watching-popped cs ws xs (added (negated f) p) (on t.literals) x (subst (λ (l : List ℕ). Watching cs ws l (added (negated f) p) (on t.literals) (length ws)) is now) in
          let q : Within (added (negated f) p) (on t.literals) = λ l h. go-within p pv l (added-cases (negated f) l p h) in
          subst (λ (l : List ℕ). Watching cs ws' l (added (negated f) p) (on t'.literals) (length ws')) (sym rest)
          (kw (added (negated f) p) q (subst (λ (l : List ℕ). Watching cs ws l (added (negated f) p) (on t.literals) x) (sym here) gone) e);
      keeps = λ u uv wu. kp u (λ l h. d.grown.reached.above l (uv l h)) (d.keeps u uv wu);
      looked = omega (arith, d.looked, lk, ap length rest, ap length here, ap length is);
    }
  where
    go-within : (p : Literal → Bool) → Within p (on t0.literals) → (l : Literal) → (negated f ≡ l) ⊎ (p l ≡ true) → on t.literals l ≡ true
    go-within p pv l (inl e) = d.grown.reached.above l (subst (λ (m : Literal). on t0.literals m ≡ true) e wrong)
    go-within p pv l (inr e) = d.grown.reached.above l (pv l e)
