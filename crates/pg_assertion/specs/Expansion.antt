-- The expansion of a crash formula: what the formula says of each memory that a crash may leave, said of one state
-- of the machine. For each choice of values of the locations that it names there is a term: if a crash may leave
-- each of these values in its location, the formula holds with these values put in.
use Rattle.std.specs.Prelude.{◌≡◌, ℕ, zero, suc, ◌+◌, ◌-◌, ◌*◌, ◌^◌, ◌<◌, ◌≤◌, ◌==◌, Bool, true, false, ◌||◌, if◌then◌else◌, ◌↔◌, List, [], ◌∷◌, ◌++◌, length, map, All, Contains, Option, Some, None}
use Rattle.std.specs.List.{filter, flat_map, fold, range_with_len}
use Rattle.pg_program.specs.NameTable.{NameTable}
use Rattle.pg_assertion.specs.declared.atom.ViewAtom.{ViewAtom}
use Rattle.pg_assertion.specs.declared.atom.ViewAtom.TheVariants as view
use Rattle.pg_assertion.specs.declared.atom.CrashAtom.{CrashAtom}
use Rattle.pg_assertion.specs.declared.atom.CrashAtom.TheVariants as crash
use Rattle.pg_assertion.specs.declared.expansion.Connective.{Connective}
use Rattle.pg_assertion.specs.declared.expansion.Connective.TheVariants.{And, Or, Implies}
use Rattle.pg_assertion.specs.Formula.{Plain, top, bottom, atom, neg, both, either, implies, nodes}

-- ---- the locations that a crash formula names

-- x stands in an atom `x = v`
abbrev pub mentions : ℕ → Plain CrashAtom → Bool
mentions x top = false
mentions x bottom = false
mentions x (atom (crash.Scalar r k)) = false
mentions x (atom (crash.Location y v)) = y == x
mentions x (neg f) = mentions x f
mentions x (both f g) = mentions x f || mentions x g
mentions x (either f g) = mentions x f || mentions x g
mentions x (implies f g) = mentions x f || mentions x g

-- those of the declared locations, in the order of declaration, that the formula names
abbrev pub named : ℕ → Plain CrashAtom → List ℕ
named locations f = filter (λ x. mentions x f) (range_with_len 0 locations)

-- ---- values put in

-- all choices of a value below d for each location of a list, as lists of pairs; the first location is the slowest:
-- of x and y over two values, x = 0 and y = 0, x = 0 and y = 1, x = 1 and y = 0, x = 1 and y = 1
abbrev pub vectors : ℕ → List ℕ → List (List (ℕ × ℕ))
vectors d [] = [] ∷ []
vectors d (x ∷ xs) = flat_map (λ v. map (λ w. (x, v) ∷ w) (vectors d xs)) (range_with_len 0 d)

-- w gives each of these locations, in their order, a value below d
pub record IsChoice (d : ℕ) (xs : List ℕ) (w : List (ℕ × ℕ)) : Type 0 where
  pub locations : map (λ e. e.0) w ≡ xs
  pub values : All (λ e. e.1 < d) w

-- These are all of them, and nothing else.
abbrev pub VectorsAreTheChoices : Type 0
VectorsAreTheChoices = (d : ℕ) (xs : List ℕ) (w : List (ℕ × ℕ)) → Contains (vectors d xs) w ↔ IsChoice d xs w

-- the value that a choice has for a location; 0 where it has none
abbrev pub value_in : List (ℕ × ℕ) → ℕ → ℕ
value_in [] x = 0
value_in (e ∷ es) x = if e.0 == x then e.1 else value_in es x

abbrev pub constant : Bool → Plain ViewAtom
constant true = top
constant false = bottom

-- the formula with the chosen values put in: `x = v` is `true` where v is the value of x, and else `false`
abbrev pub fill : List (ℕ × ℕ) → Plain CrashAtom → Plain ViewAtom
fill w top = top
fill w bottom = bottom
fill w (atom (crash.Scalar r k)) = atom (view.Scalar r k)
fill w (atom (crash.Location x v)) = constant (value_in w x == v)
fill w (neg f) = neg (fill w f)
fill w (both f g) = both (fill w f) (fill w g)
fill w (either f g) = either (fill w f) (fill w g)
fill w (implies f g) = implies (fill w f) (fill w g)

-- ---- the expansion

-- `f1 & f2 & .. & fn`, grouped to the left
abbrev pub conjunction : List (Plain ViewAtom) → Plain ViewAtom
conjunction [] = top
conjunction (f ∷ fs) = fold both f fs

-- `P(x,v)`
abbrev pub can_persist : ℕ × ℕ → Plain ViewAtom
can_persist e = atom (view.Persist e.0 e.1)

-- `P(x1,v1) & .. & P(xk,vk) -> f`, with these values put into f
abbrev pub term : Plain CrashAtom → List (ℕ × ℕ) → Plain ViewAtom
term f w = implies (conjunction (map can_persist w)) (fill w f)

-- the expansion of f, which names these locations, over d values: a term for each choice. A formula that names no
-- location stays as it is.
abbrev pub expansion_over : ℕ → List ℕ → Plain CrashAtom → Plain ViewAtom
expansion_over d [] f = fill [] f
expansion_over d (x ∷ xs) f = conjunction (map (term f) (vectors d (x ∷ xs)))

-- the expansion of a crash formula of a program with these names
abbrev pub expansion : NameTable → Plain CrashAtom → Plain ViewAtom
expansion t f = expansion_over t.domain (named (length t.locations) f) f

-- ---- its size

-- the nodes of the expansion over d values of a formula of n nodes that names k locations
abbrev pub expansion_size : ℕ → ℕ → ℕ → ℕ
expansion_size d zero n = n
expansion_size d (suc k) n = d ^ suc k * (n + 2 * suc k) + d ^ suc k - 1

-- An expansion has that size, whatever the formula and the domain.
abbrev pub ExpansionsHaveTheirSize : Type 0
ExpansionsHaveTheirSize =
    (d : ℕ) (xs : List ℕ) (f : Plain CrashAtom) → 1 ≤ d → nodes (expansion_over d xs f) ≡ expansion_size d (length xs) (nodes f)

-- ---- what may be expanded

-- the atom's scalar or location is declared, and its value is one of the domain
abbrev pub IsAtomOf : NameTable → CrashAtom → Type 0
IsAtomOf t (crash.Scalar r k) = (r < length t.scalars) × (k < t.domain)
IsAtomOf t (crash.Location x v) = (x < length t.locations) × (v < t.domain)

-- ---- steps of the code

-- two formulas, connected
abbrev pub connected : Connective → Plain ViewAtom → Plain ViewAtom → Plain ViewAtom
connected And f g = both f g
connected Or f g = either f g
connected Implies f g = implies f g

-- one more conjunct after those that are there
abbrev pub joined : Option (Plain ViewAtom) → Plain ViewAtom → Plain ViewAtom
joined None g = g
joined (Some f) g = both f g

-- the same for each formula of a list
abbrev pub joined_all : Option (Plain ViewAtom) → List (Plain ViewAtom) → Option (Plain ViewAtom)
joined_all before fs = fold (λ g f. Some (joined g f)) before fs

-- what was joined, `true` where nothing was
abbrev pub or_true : Option (Plain ViewAtom) → Plain ViewAtom
or_true None = top
or_true (Some f) = f

-- the terms of the choices that begin with c, and go on over these locations
abbrev pub terms : ℕ → List ℕ → List (ℕ × ℕ) → Plain CrashAtom → List (Plain ViewAtom)
terms d xs c f = map (λ w. term f (c ++ w)) (vectors d xs)

-- the atom speaks of a value below n
abbrev pub HasValueBelow : ℕ → CrashAtom → Type 0
HasValueBelow n (crash.Scalar r k) = k < n
HasValueBelow n (crash.Location x v) = v < n
