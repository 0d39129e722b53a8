-- The faults of a crash formula's size.
use Rattle.std.proofs.Common.{◌≡◌, ℕ, ◌<◌, ◌≤◌, Bool, false, true, if◌then◌else◌, suc, List, [], ◌∷◌, length, Some, None, refl, arith}
use Rattle.std.specs.List.{filter}
use Rattle.std.specs.Prelude.{nat_le}
use Rattle.std.proofs.lemmas.Bool.{le-leb, lt-leb}
use Rattle.pg_assertion.specs.declared.atom.CrashAtom.{CrashAtom}
use Rattle.pg_assertion.specs.Formula.{Plain, nodes}
use Rattle.pg_assertion.specs.Expansion.{named, expansion}
use Rattle.pg_program.specs.NameTable.{NameTable}
use Rattle.pg_outline.specs.Limits.{most_crash_locations, most_expansion_nodes}
use Rattle.pg_outline.specs.declared.fault.OutlineFault.TheVariants.{CrashLocations, CrashNodes}
use Rattle.pg_outline.specs.Fault.{first_of, locations_fault, size_fault}

pub fewer_filtered : {A : Type 0} (test : A → Bool) (xs : List A) → length (filter test xs) ≤ length xs
fewer_filtered test [] = omega arith
fewer_filtered {A} test (x ∷ xs) = by_test (test x) (fewer_filtered test xs)
  where
    by_test : (b : Bool) → length (filter test xs) ≤ length xs → length (if b then x ∷ filter test xs else filter test xs) ≤ suc (length xs)
    by_test true rest = omega (arith, rest)
    by_test false rest = omega (arith, rest)

-- few locations are named, and there are too many nodes
too_many_nodes : (k n : ℕ) → k ≤ most_crash_locations → most_expansion_nodes < n
    → first_of (if nat_le k most_crash_locations then None else Some (CrashLocations k)) (if nat_le n most_expansion_nodes then None else Some (CrashNodes n)) ≡ Some (CrashNodes n)
too_many_nodes k n few large = rw (le-leb k most_crash_locations few, lt-leb n most_expansion_nodes large) refl

pub too_large : (names : NameTable) (f : Plain CrashAtom) (n : ℕ)
    → length (named (length names.locations) f) ≤ most_crash_locations → n ≡ nodes (expansion names f) → most_expansion_nodes < n
    → first_of (locations_fault names f) (size_fault names f) ≡ Some (CrashNodes n)
too_large names f n few size large =
    rw size (too_many_nodes (length (named (length names.locations) f)) (nodes (expansion names f)) few (rw size at large))
