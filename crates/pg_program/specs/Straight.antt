-- Programs of one thread whose statements are stores of numbers.
use Rattle.std.specs.Prelude.{ℕ, List, [], ◌∷◌, ◌++◌, map, Option, Some, None, option_map, option_and_then}
use Rattle.pg_program.specs.declared.syntax.Expr.{Expr, out-Expr}
use Rattle.pg_program.specs.declared.syntax.Expr.TheOpen.{Expr-F, Value}
use Rattle.pg_program.specs.declared.syntax.Act.{Act, out-Act}
use Rattle.pg_program.specs.declared.syntax.Act.TheOpen.{Act-F, Store}
use Rattle.pg_program.specs.declared.syntax.Stmt.{Stmt, out-Stmt}
use Rattle.pg_program.specs.NameTable.{NameTable, initial}
use Rattle.pg_program.specs.Fault.{Fault, unknown_thread, value_out_of_domain, first_of, domain_fault, unknown_owner, first_outside}

-- the number that an expression is, if it is one
abbrev pub number_in : Expr-F Expr → Option ℕ
number_in (Value v) = Some v
number_in _ = None

-- the location and the number of an act that stores a number
abbrev pub store_in : Act-F Act Stmt → Option (ℕ × ℕ)
store_in (Store x e) = option_map (λ v. (x, v)) (number_in (out-Expr e))
store_in _ = None

-- what a statement is, where its bracket assigns nothing
abbrev pub without_bracket : {T X : Type 0} → List T → Option X → Option X
without_bracket [] s = s
without_bracket (a ∷ more) s = None

-- the location and the number of a statement that is a store of a number without a bracket
abbrev pub store_of : Stmt → Option (ℕ × ℕ)
store_of s = without_bracket (out-Stmt s).aux (store_in (out-Act (out-Stmt s).act))

-- the stores of a thread, where each statement is one
abbrev pub stores_of : List Stmt → Option (List (ℕ × ℕ))
stores_of [] = Some []
stores_of (s ∷ ss) = option_and_then (λ e. option_map (λ es. e ∷ es) (stores_of ss)) (store_of s)

-- the stores of the program's one thread
abbrev pub straight : List (List Stmt) → Option (List (ℕ × ℕ))
straight [] = None
straight (t ∷ []) = stores_of t
straight (t ∷ u ∷ ts) = None

-- the stored numbers, in the order of the statements
abbrev pub stored : List (ℕ × ℕ) → List ℕ
stored stores = map (λ s. s.1) stores

-- the first fault of such a thread: of the domain, then of the registers' owners, then of the initial values, then of the
-- stored numbers
abbrev pub straight_fault : NameTable → List (ℕ × ℕ) → Option Fault
straight_fault names stores =
    first_of (domain_fault names.version names.domain)
    (first_of (option_map unknown_thread (unknown_owner 1 names.scalars))
    (option_map value_out_of_domain (first_outside names.domain (initial names ++ stored stores))))
