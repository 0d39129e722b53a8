-- Each obligation of a program speaks of its threads and points.
use Rattle.std.proofs.Common.{◌≡◌, ℕ, zero, suc, ◌+◌, ◌<◌, ◌≤◌, Bool, true, false, cond, eqb, List, [], ◌∷◌, ◌++◌, length, map, Some, subst, sym, arith}
use Rattle.std.specs.List.{All, flat_map, range_with_len, slice_get}
use Rattle.std.proofs.lemmas.List.Elements.{All-nil, All-cons, All-head, All-tail, All-append}
use Rattle.pg_program.specs.declared.point.Step.{Step}
use Rattle.pg_program.specs.Program.{ProgramTable, points, steps_at}
use Rattle.pg_program.specs.Laws.{LeadsWithin}
use Rattle.pg_program.proofs.GraphLaws.{steps_lead_within}
use Rattle.pg_obligations.specs.declared.obligation.Obligation.{Obligation}
use Rattle.pg_obligations.specs.declared.obligation.Obligation.TheVariants.{Fresh, Entry, EntryCrash, Local, Crash, Interfere}
use Rattle.pg_obligations.specs.Obligations.{threads_of, points_of, against, of_step, of_point, of_thread, obligations}
use Rattle.pg_report.specs.Placed.{IsPoint, IsStepOf, IsPlaced}

-- ---- lists

module _ {A B : Type 0} (P : B → Type 0) where
  all-flat : (Q : A → Type 0) (f : A → List B) → ((x : A) → Q x → All P (f x)) → (xs : List A) → All Q xs → All P (flat_map f xs)
  all-flat Q f g [] h = All-nil P
  all-flat Q f g (x ∷ xs) h = All-append P (f x) (flat_map f xs) (g x (All-head Q x xs h)) (all-flat Q f g xs (All-tail Q x xs h))

  all-map : (Q : A → Type 0) (f : A → B) → ((x : A) → Q x → P (f x)) → (xs : List A) → All Q xs → All P (map f xs)
  all-map Q f g [] h = All-nil P
  all-map Q f g (x ∷ xs) h = All-cons P (f x) (map f xs) (g x (All-head Q x xs h)) (all-map Q f g xs (All-tail Q x xs h))

all-at : {A : Type 0} (P : A → Type 0) (xs : List A) (n : ℕ) (x : A) → All P xs → slice_get xs n ≡ Some x → P x
all-at P [] n x h e = cc
all-at P (y ∷ xs) zero x h e = let same : y ≡ x = cc in subst P same (All-head P y xs h)
all-at P (y ∷ xs) (suc n) x h e = all-at P xs n x (All-tail P y xs h) e

-- one of the n numbers from a on
record IsIn (a n k : ℕ) : Type 0 where
  from : a ≤ k
  to : k < a + n

range-in : (a b m n : ℕ) → a ≤ b → b + n ≤ a + m → All (IsIn a m) (range_with_len b n)
range-in a b m zero low high = All-nil (IsIn a m)
range-in a b m (suc n) low high =
    All-cons (IsIn a m) b (range_with_len (b + 1) n) (record { from = low; to = omega (arith, low, high) }) (range-in a (b + 1) m n (omega (arith, low)) (omega (arith, high)))

in-range : (a n : ℕ) → All (IsIn a n) (range_with_len a n)
in-range a n = range-in a a n n (omega arith) (omega arith)

-- ---- obligations

module _ (p : ProgramTable) where
  point : (t k : ℕ) → IsIn 1 (length p.threads) t → IsIn 1 (points p t) k → IsPoint p t k
  point t k ht hk =
      let a = ht.from in
      let b = ht.to in
      let c = hk.from in
      let d = hk.to in
      record { thread_from = a; thread_to = omega (arith, b); point_from = c; point_to = omega (arith, d) }

  step_of : (t k : ℕ) (s : Step) → IsIn 1 (length p.threads) t → IsIn 1 (points p t) k → LeadsWithin t k (points p t) s → IsStepOf p s
  step_of t k s ht hk l =
      let e = l.from in
      let f = l.to in
      let to : IsPoint p t s.target = point t s.target ht (record { from = e; to = omega (arith, f) }) in
      record {
        from = subst (λ (u : ℕ). IsPoint p u s.point) (sym l.thread) (subst (λ (n : ℕ). IsPoint p t n) (sym l.point) (point t k ht hk));
        to = subst (λ (u : ℕ). IsPoint p u s.target) (sym l.thread) to;
      }

  against_placed : (s : Step) → IsStepOf p s → (u : ℕ) → IsIn 1 (length p.threads) u → All (IsPlaced p) (against p s u)
  against_placed s is u hu = by (eqb u s.thread)
    where
      all : All (IsPlaced p) (map (λ k. Interfere s (record { thread = u; point = k })) (points_of p u))
      all = all-map (IsPlaced p) (IsIn 1 (points p u)) (λ k. Interfere s (record { thread = u; point = k })) (λ k hk. (is, point u k hu hk)) (points_of p u) (in-range 1 (points p u))

      by : (b : Bool) → All (IsPlaced p) (cond b [] (map (λ k. Interfere s (record { thread = u; point = k })) (points_of p u)))
      by true = All-nil (IsPlaced p)
      by false = all

  of_step_placed : (s : Step) → IsStepOf p s → All (IsPlaced p) (of_step p s)
  of_step_placed s is =
      let others = all-flat (IsPlaced p) (IsIn 1 (length p.threads)) (against p s) (against_placed s is) (threads_of p) (in-range 1 (length p.threads)) in
      All-cons (IsPlaced p) (Local s) (Crash s ∷ flat_map (against p s) (threads_of p)) is
      (All-cons (IsPlaced p) (Crash s) (flat_map (against p s) (threads_of p)) is others)

  of_point_placed : (t : ℕ) → IsIn 1 (length p.threads) t → (k : ℕ) → IsIn 1 (points p t) k → All (IsPlaced p) (of_point p t k)
  of_point_placed t ht k hk =
      let low = hk.from in
      all-flat (IsPlaced p) (LeadsWithin t k (points p t)) (of_step p) (λ s l. of_step_placed s (step_of t k s ht hk l)) (steps_at p t k) (steps_lead_within p t k low)

  of_thread_placed : (t : ℕ) → IsIn 1 (length p.threads) t → All (IsPlaced p) (of_thread p t)
  of_thread_placed t ht = all-flat (IsPlaced p) (IsIn 1 (points p t)) (of_point p t) (of_point_placed t ht) (points_of p t) (in-range 1 (points p t))

  entry_placed : (t : ℕ) → IsIn 1 (length p.threads) t → IsPlaced p (Entry t)
  entry_placed t ht = point t 1 ht (record { from = omega arith; to = omega arith })

  all_placed : All (IsPlaced p) (obligations p)
  all_placed =
      All-cons (IsPlaced p) Fresh (map (λ t. Entry t) (threads_of p) ++ (EntryCrash ∷ flat_map (of_thread p) (threads_of p))) tt
      (All-append (IsPlaced p) (map (λ t. Entry t) (threads_of p)) (EntryCrash ∷ flat_map (of_thread p) (threads_of p))
      (all-map (IsPlaced p) (IsIn 1 (length p.threads)) (λ t. Entry t) entry_placed (threads_of p) (in-range 1 (length p.threads)))
      (All-cons (IsPlaced p) EntryCrash (flat_map (of_thread p) (threads_of p)) tt
      (all-flat (IsPlaced p) (IsIn 1 (length p.threads)) (of_thread p) of_thread_placed (threads_of p) (in-range 1 (length p.threads)))))

  -- what stands at a place of the list is one of them
  pub placed_at : (n : ℕ) (ob : Obligation) → slice_get (obligations p) n ≡ Some ob → IsPlaced p ob
  placed_at n ob at = all-at (IsPlaced p) (obligations p) n ob all_placed at
