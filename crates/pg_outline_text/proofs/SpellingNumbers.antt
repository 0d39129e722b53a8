-- The numbers of a program without a fault are small.
use Rattle.std.proofs.Common.{◌≡◌, ℕ, ◌<◌, ◌≤◌, ◌^◌, ◌==◌, Bool, true, false, cond, ◌&&◌, nat_le, List, [], ◌∷◌, length, map, Option, Some, None, option_map, refl, arith}
use Rattle.std.specs.List.{All}
use Rattle.std.proofs.lemmas.Bool.{leb-true}
use Rattle.std.proofs.lemmas.List.Elements.{All-nil, All-cons, All-head, All-tail}
use Rattle.pg_program.specs.declared.name_table.ScalarKind.{ScalarKind}
use Rattle.pg_program.specs.declared.name_table.ScalarKind.TheVariants.{Register, Auxiliary}
use Rattle.pg_program.specs.Limits.{least_domain, largest_domain, largest_domain_1, largest_domain_2, most_threads}
use Rattle.pg_program.specs.NameTable.{Location}
use Rattle.pg_program.specs.Fault.{Fault, first_of, domain_size, unknown_thread, domain_fault, unknown_owner}
use Rattle.pg_program.specs.Program.{ProgramTable, IsProgram}
use Rattle.pg_program.proofs.ProgramLemmas.{faultless, initial_inside}

-- a number that can be read
abbrev pub Small : ℕ → Type 0
Small n = n < 2 ^ 32

-- the owner of a scalar can be read
abbrev pub OwnerSmall : ScalarKind → Type 0
OwnerSmall (Register t) = Small t
OwnerSmall Auxiliary = Unit {0}

domain_low : (d most : ℕ) (a b : Bool) → nat_le d most ≡ b → cond (a && b) None (Some (domain_size d)) ≡ None → d ≤ most
domain_low d most true true is h = leb-true d most is
domain_low d most true false is h = cc
domain_low d most false b is h = cc

largest_few : (b : Bool) → cond b largest_domain_1 largest_domain_2 ≤ largest_domain_2
largest_few true = omega arith
largest_few false = omega arith

domain_few : (p : ProgramTable) → IsProgram p → p.names.domain ≤ largest_domain_2
domain_few p h =
    let d = p.names.domain in
    let most = largest_domain p.names.version in
    let low = domain_low d most (nat_le least_domain d) (nat_le d most) refl (faultless p.names p.threads h.faultless).domain in
    let few = largest_few (p.names.version == 1) in
    omega (arith, low, few)

pub domain_small : (p : ProgramTable) → IsProgram p → Small p.names.domain
domain_small p h = let few = domain_few p h in omega arith

values_small : (d : ℕ) (ls : List Location) → d ≤ largest_domain_2 → All (λ v. v < d) (map (λ l. l.init) ls) → All (λ l. Small l.init) ls
values_small d [] few h = All-nil (λ (l : Location). Small l.init)
values_small d (l ∷ ls) few h =
    let first = All-head (λ (v : ℕ). v < d) l.init (map (λ l. l.init) ls) h in
    All-cons (λ (l : Location). Small l.init) l ls (omega arith) (values_small d ls few (All-tail (λ (v : ℕ). v < d) l.init (map (λ l. l.init) ls) h))

pub initial_small : (p : ProgramTable) → IsProgram p → All (λ l. Small l.init) p.names.locations
initial_small p h = values_small p.names.domain p.names.locations (domain_few p h) (initial_inside p h)

-- ---- owners

none_behind : (f g : Option Fault) → first_of f g ≡ None → g ≡ None
none_behind None g h = h
none_behind (Some e) g h = cc

none_of : (f g : Option Fault) → first_of f g ≡ None → f ≡ None
none_of None g h = refl
none_of (Some e) g h = cc

none_in : (o : Option ℕ) → option_map unknown_thread o ≡ None → o ≡ None
none_in None h = refl
none_in (Some v) h = cc

owners_small : (n : ℕ) (es : List (List ℕ × ScalarKind)) → n ≤ most_threads → unknown_owner n es ≡ None → All (λ e. OwnerSmall e.1) es
owners_small n [] few h = All-nil (λ (e : List ℕ × ScalarKind). OwnerSmall e.1)
owners_small n ((name, Auxiliary) ∷ es) few h = All-cons (λ (e : List ℕ × ScalarKind). OwnerSmall e.1) (name, Auxiliary) es tt (owners_small n es few h)
owners_small n ((name, Register t) ∷ es) few h = by (nat_le 1 t) (nat_le t n) refl (owners_small n es few) h
  where
    by : (a b : Bool) → nat_le t n ≡ b → (unknown_owner n es ≡ None → All (λ e. OwnerSmall e.1) es) → cond (a && b) (unknown_owner n es) (Some t) ≡ None
        → All (λ e. OwnerSmall e.1) ((name, Register t) ∷ es)
    by true true is rest h = let below = leb-true t n is in All-cons (λ (e : List ℕ × ScalarKind). OwnerSmall e.1) (name, Register t) es (omega arith) (rest h)
    by true false is rest h = cc
    by false b is rest h = cc

pub owners_fit : (p : ProgramTable) → IsProgram p → All (λ e. OwnerSmall e.1) p.names.scalars
owners_fit p h =
    let behind = none_behind (domain_fault p.names.version p.names.domain) _ h.faultless in
    owners_small (length p.threads) p.names.scalars h.threads.few (none_in (unknown_owner (length p.threads) p.names.scalars) (none_of _ _ behind))
