-- The numbers of the atoms that a formula takes.
use Rattle.std.proofs.Common.{ℕ, ◌≤◌, ◌^◌, arith}
use Rattle.pg_assertion.specs.Formula.{Plain, top, bottom, atom, neg, both, either, implies}
use Rattle.pg_clauses.specs.Definitional.{after, literal}
use Rattle.pg_clauses.specs.Made.{IsNumber, AreBelow, Fits}

-- none is given back
pub later : (n : ℕ) (f : Plain ℕ) → n ≤ after n f
later n top = omega arith
later n bottom = omega arith
later n (atom a) = omega arith
later n (neg f) = later n f
later n (both f g) = omega (arith, later n f, later (after n f) g)
later n (either f g) = omega (arith, later n f, later (after n f) g)
later n (implies f g) = omega (arith, later n f, later (after n f) g)

wider : (n m : ℕ) (f : Plain ℕ) → n ≤ m → AreBelow n f → AreBelow m f
wider n m top h b = tt
wider n m bottom h b = tt
wider n m (atom a) h b = (b.0, omega (arith, h, b.1))
wider n m (neg f) h b = wider n m f h b
wider n m (both f g) h b = (wider n m f h b.0, wider n m g h b.1)
wider n m (either f g) h b = (wider n m f h b.0, wider n m g h b.1)
wider n m (implies f g) h b = (wider n m f h b.0, wider n m g h b.1)

-- where all are small enough, each fits a literal
pub fits : (n : ℕ) (f : Plain ℕ) → 1 ≤ n → AreBelow n f → after n f ≤ 2 ^ 31 → Fits n f
fits n top from b few = (from, omega (arith, few))
fits n bottom from b few = (from, omega (arith, few))
fits n (atom a) from b few = (b.0, omega (arith, b.1, few))
fits n (neg f) from b few = fits n f from b few
fits n (both f g) from b few =
    let one = later n f in
    let two = later (after n f) g in
    let right = fits (after n f) g (omega (arith, one, from)) (wider n (after n f) g one b.1) (omega (arith, two, few)) in
    (fits n f from b.0 (omega (arith, one, two, few)), (right, (omega (arith, one, two, from), omega (arith, few))))
fits n (either f g) from b few =
    let one = later n f in
    let two = later (after n f) g in
    let right = fits (after n f) g (omega (arith, one, from)) (wider n (after n f) g one b.1) (omega (arith, two, few)) in
    (fits n f from b.0 (omega (arith, one, two, few)), (right, (omega (arith, one, two, from), omega (arith, few))))
fits n (implies f g) from b few =
    let one = later n f in
    let two = later (after n f) g in
    let right = fits (after n f) g (omega (arith, one, from)) (wider n (after n f) g one b.1) (omega (arith, two, few)) in
    (fits n f from b.0 (omega (arith, one, two, few)), (right, (omega (arith, one, two, from), omega (arith, few))))
