-- What is found thread by thread, and location by location.
use Rattle.std.proofs.Common.{◌≡◌, ℕ, suc, ◌+◌, ◌-◌, ◌<◌, max, List, [], ◌∷◌, length, map, drop, get_or, refl, sym, ap, ◌∙◌, arith}
use Rattle.std.proofs.lemmas.List.{length-map, get_or-map}
use Rattle.pg_program.specs.Program.{ProgramTable}
use Rattle.pg_machine.specs.State.{Views, State, IsWellFormed, greatest, vpc_of}
use Rattle.pg_machine.specs.Memory.{Memory}
use Rattle.pg_machine.specs.Step.{views_of}
use Rattle.pg_machine.proofs.Scan.{greatest-next}
use Rattle.pg_machine.proofs.Moved.{thread-views}
use Rattle.pg_assertion.specs.Layout.{sizes, IsThreadNumber}
use Rattle.pg_views.specs.Crash.{values_at}
use Rattle.pg_views.specs.Parts.{Has}

-- what was committed to a line, thread by thread
pub committed-next : (s : State) (l m t k : ℕ) → t < length s.views → k ≡ t + 1
    → max (max m (vpc_of (views_of s k) l)) (greatest (drop (t + 1) (map (λ w. vpc_of w l) s.views))) ≡ max m (greatest (drop t (map (λ w. vpc_of w l) s.views)))
committed-next s l m t k lt e =
    let of : Views → ℕ = λ (w : Views). vpc_of w l in
    let size = length-map s.views of in
    let place : k - 1 ≡ t = omega (arith, e) in
    let here : get_or (map of s.views) t 0 ≡ vpc_of (get_or s.views t no_views) l = get_or-map of s.views t no_views 0 lt in
    let same : vpc_of (views_of s k) l ≡ get_or (map of s.views) t 0 = ap (λ (i : ℕ). vpc_of (get_or s.views i no_views) l) place ∙ sym here in
    ap (λ (n : ℕ). max (max m n) (greatest (drop (t + 1) (map of s.views)))) same ∙ greatest-next (map of s.views) m t (omega (arith, size, lt))
  where
    no_views : Views
    no_views = record { coh = []; vrn = 0; vpr = 0; vpa = []; vpc = [] }

-- a memory that a crash leaves has a value for each position
pub values_at-length : (m : Memory) (x : ℕ) (ps : List ℕ) → length (values_at m x ps) ≡ length ps
values_at-length m x [] = refl
values_at-length m x (p ∷ ps) = ap suc (values_at-length m (suc x) ps)

-- there is a value of each location, and a line
pub locations-count : (p : ProgramTable) (s : State) → IsWellFormed p s → length s.memory.initial ≡ length p.names.locations
locations-count p s h = h.memory.initial

pub lines-count : (p : ProgramTable) (s : State) → IsWellFormed p s → length s.memory.lines ≡ length s.memory.initial
lines-count p s h = ap length h.memory.lines ∙ (length-map p.names.locations (λ l. l.line) ∙ sym h.memory.initial)

-- a thread of the program has its views of each declared location
pub has_views : (p : ProgramTable) (s : State) (t x : ℕ) → IsWellFormed p s → IsThreadNumber (sizes p.names (length p.threads)) t → x < length p.names.locations → Has s t x
has_views p s t x h thread inside =
    let count = locations-count p s h in
    let threads = h.threads in
    let last = thread.last in
    let coh = (thread-views p s t h thread.first thread.last).size.coh in
    record {
      first = thread.first;
      last = omega (arith, threads, last);
      location = omega (arith, count, inside);
      coh = omega (arith, count, inside, coh);
    }
