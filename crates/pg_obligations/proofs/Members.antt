-- Which obligations there are.
use Rattle.std.proofs.Common.{◌≡◌, ℕ, zero, suc, ◌+◌, ◌-◌, ◌<◌, ◌≤◌, List, [], ◌∷◌, ◌++◌, length, map, get_or, refl, sym, subst, ◌∙◌, arith}
use Rattle.std.specs.List.{Contains, flat_map, range_with_len}
use Rattle.std.proofs.lemmas.List.FromFn.{length-range_with_len, get_or-range_with_len}
use Rattle.std.proofs.lemmas.List.Elements.{Contains-append_left, Contains-append_right}
use Rattle.pg_program.specs.declared.point.Step.{Step}
use Rattle.pg_program.specs.Program.{ProgramTable, points, steps_at}
use Rattle.pg_obligations.specs.declared.obligation.Obligation.{Obligation}
use Rattle.pg_obligations.specs.declared.obligation.Obligation.TheVariants.{Fresh, Entry, EntryCrash, Local, Crash, Interfere}
use Rattle.pg_obligations.specs.Obligations.{threads_of, points_of, against, of_step, of_point, of_thread, obligations}
use Rattle.pg_obligations.proofs.Places.{where_other}

first : {A : Type 0} (x : A) (xs : List A) → Contains (x ∷ xs) x
first x xs = (0, omega arith, refl)

further : {A : Type 0} (x y : A) (xs : List A) → Contains xs y → Contains (x ∷ xs) y
further x y xs h = (suc h.0, omega (arith, h.1), h.2)

in_flat_at : {A B : Type 0} (f : A → List B) (xs : List A) (k : ℕ) (x : A) (y : B) → k < length xs → get_or xs k x ≡ x → Contains (f x) y → Contains (flat_map f xs) y
in_flat_at f [] k x y lt is h = absurd (omega (arith, lt))
in_flat_at f (z ∷ xs) zero x y lt is h = Contains-append_left (f z) (flat_map f xs) y (subst (λ w. Contains (f w) y) (sym is) h)
in_flat_at f (z ∷ xs) (suc k) x y lt is h = Contains-append_right (f z) (flat_map f xs) y (in_flat_at f xs k x y (omega (arith, lt)) is h)

in_flat : {A B : Type 0} (f : A → List B) (xs : List A) (x : A) (y : B) → Contains xs x → Contains (f x) y → Contains (flat_map f xs) y
in_flat f xs x y h t = in_flat_at f xs h.0 x y h.1 h.2 t

in_map_at : {A B : Type 0} (f : A → B) (xs : List A) (k : ℕ) (x : A) → k < length xs → get_or xs k x ≡ x → Contains (map f xs) (f x)
in_map_at f [] k x lt is = absurd (omega (arith, lt))
in_map_at f (z ∷ xs) zero x lt is = subst (λ w. Contains (f z ∷ map f xs) (f w)) is (first (f z) (map f xs))
in_map_at f (z ∷ xs) (suc k) x lt is = further (f z) (f x) (map f xs) (in_map_at f xs k x (omega (arith, lt)) is)

pub in_map : {A B : Type 0} (f : A → B) (xs : List A) (x : A) → Contains xs x → Contains (map f xs) (f x)
in_map f xs x h = in_map_at f xs h.0 x h.1 h.2

in_range : (a n k : ℕ) → a ≤ k → k < a + n → Contains (range_with_len a n) k
in_range a n k from to =
    let e : a + (k - a) ≡ k = omega arith in
    (k - a, omega (arith, length-range_with_len a n), get_or-range_with_len a n (k - a) k (omega arith) ∙ e)

module _ (p : ProgramTable) where
  pub has_fresh : Contains (obligations p) Fresh
  has_fresh = first Fresh (map (λ t. Entry t) (threads_of p) ++ (EntryCrash ∷ flat_map (of_thread p) (threads_of p)))

  pub has_entry : (t : ℕ) → 1 ≤ t → t ≤ length p.threads → Contains (obligations p) (Entry t)
  has_entry t from to =
      further Fresh (Entry t) _ (Contains-append_left (map (λ u. Entry u) (threads_of p)) _ (Entry t)
      (in_map (λ u. Entry u) (threads_of p) t (in_range 1 (length p.threads) t from (omega (arith, to)))))

  behind : (ob : Obligation) → Contains (EntryCrash ∷ flat_map (of_thread p) (threads_of p)) ob → Contains (obligations p) ob
  behind ob h = further Fresh ob _ (Contains-append_right (map (λ u. Entry u) (threads_of p)) _ ob h)

  pub has_entry_crash : Contains (obligations p) EntryCrash
  has_entry_crash = behind EntryCrash (first EntryCrash (flat_map (of_thread p) (threads_of p)))

  -- the obligations of a step are among all
  module _ (t k : ℕ) (step : Step) (t_from : 1 ≤ t) (t_to : t ≤ length p.threads) (k_from : 1 ≤ k) (k_to : k ≤ points p t) (one : Contains (steps_at p t k) step) where
    of_it : (ob : Obligation) → Contains (of_step p step) ob → Contains (obligations p) ob
    of_it ob h =
        behind ob (further EntryCrash ob (flat_map (of_thread p) (threads_of p))
        (in_flat (of_thread p) (threads_of p) t ob (in_range 1 (length p.threads) t t_from (omega (arith, t_to)))
        (in_flat (of_point p t) (points_of p t) k ob (in_range 1 (points p t) k k_from (omega (arith, k_to)))
        (in_flat (of_step p) (steps_at p t k) step ob one h))))

    pub has_local : Contains (obligations p) (Local step)
    has_local = of_it (Local step) (first (Local step) (Crash step ∷ flat_map (against p step) (threads_of p)))

    pub has_crash : Contains (obligations p) (Crash step)
    has_crash =
        of_it (Crash step)
        (further (Local step) (Crash step) (Crash step ∷ flat_map (against p step) (threads_of p)) (first (Crash step) (flat_map (against p step) (threads_of p))))

    pub has_interfere : (u n : ℕ) → 1 ≤ u → u ≤ length p.threads → (u ≡ step.thread → ⊥) → 1 ≤ n → n ≤ points p u
        → Contains (obligations p) (Interfere step (record { thread = u; point = n }))
    has_interfere u n u_from u_to other n_from n_to =
        let ob = Interfere step (record { thread = u; point = n }) in
        let at = λ (m : ℕ). Interfere step (record { thread = u; point = m }) in
        of_it ob (further (Local step) ob (Crash step ∷ flat_map (against p step) (threads_of p)) (further (Crash step) ob (flat_map (against p step) (threads_of p))
        (in_flat (against p step) (threads_of p) u ob (in_range 1 (length p.threads) u u_from (omega (arith, u_to)))
        (subst (λ (l : List Obligation). Contains l ob) (sym (where_other u step.thread (map at (points_of p u)) other))
        (in_map at (points_of p u) n (in_range 1 (points p u) n n_from (omega (arith, n_to))))))))
