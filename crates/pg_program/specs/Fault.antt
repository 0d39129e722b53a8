-- The faults of names and threads, by clauses over the finished text.
use Rattle.std.specs.Prelude.{ℕ, ◌+◌, Bool, ◌&&◌, nat_le, if◌then◌else◌, List, [], ◌∷◌, length, Option, Some, None, option_map}
use Rattle.std.specs.Prelude.{string_bytes}
use Rattle.std.specs.List.{find, list_any}
use Rattle.pg_program.specs.declared.syntax.Stmt.{Stmt}
use Rattle.pg_program.specs.declared.name_table.ScalarKind.{ScalarKind}
use Rattle.pg_program.specs.declared.name_table.ScalarKind.TheVariants.{Register, Auxiliary}
use Rattle.pg_program.specs.declared.point.PointId.{PointId}
use Rattle.pg_program.specs.declared.fault.ProgramFault.{ProgramFault}
use Rattle.pg_program.specs.declared.fault.ProgramFault.TheVariants.{DomainSize, UnknownThread, ForeignRegister, AuxInProgram, AuxTwice, ValueOutOfDomain, ExpressionNames, NoMemory}
use Rattle.pg_program.specs.Limits.{least_domain, largest_domain}
use Rattle.pg_program.specs.NameTable.{NameTable, initial, is_foreign, is_auxiliary, scalar_name}
use Rattle.pg_program.specs.Block.{block}
use Rattle.pg_program.specs.Graph.{statements}
use Rattle.pg_program.specs.Words.{outside, scalars_of, targets, numbers_of, groups, repeated, is_wide}

-- a fault with what it names, where a name is its bytes
pub data Fault : Type 0 where
  domain_size : ℕ → Fault
  unknown_thread : ℕ → Fault
  foreign_register : List ℕ → Fault
  aux_in_program : List ℕ → Fault
  aux_twice : List ℕ → Fault
  value_out_of_domain : ℕ → Fault
  expression_names : PointId → Fault

-- the fault of names and threads that an answer gives, as plain data; want of memory is none
abbrev pub plain_fault : ProgramFault → Option Fault
plain_fault (DomainSize n) = Some (domain_size n)
plain_fault (UnknownThread t) = Some (unknown_thread t)
plain_fault (ForeignRegister name) = Some (foreign_register (string_bytes name))
plain_fault (AuxInProgram name) = Some (aux_in_program (string_bytes name))
plain_fault (AuxTwice name) = Some (aux_twice (string_bytes name))
plain_fault (ValueOutOfDomain v) = Some (value_out_of_domain v)
plain_fault (ExpressionNames at) = Some (expression_names at)
plain_fault NoMemory = None

-- the first of two faults, if there is one
abbrev pub first_of : Option Fault → Option Fault → Option Fault
first_of (Some f) g = Some f
first_of None g = g

-- ---- the clauses, each over one statement

-- the first number that is not below d
abbrev pub first_outside : ℕ → List ℕ → Option ℕ
first_outside d [] = None
first_outside d (v ∷ vs) = if nat_le d v then Some v else first_outside d vs

-- a statement uses no register of another thread
abbrev pub own_registers : NameTable → PointId → Stmt → Option Fault
own_registers names at s = option_map (λ r. foreign_register (scalar_name names r)) (find (is_foreign names at.thread) (scalars_of s))

-- no auxiliary stands outside a bracket
abbrev pub no_auxiliaries : NameTable → PointId → Stmt → Option Fault
no_auxiliaries names at s = option_map (λ r. aux_in_program (scalar_name names r)) (find (is_auxiliary names) (outside s))

-- the targets of a bracket differ
abbrev pub distinct_targets : NameTable → PointId → Stmt → Option Fault
distinct_targets names at s = option_map (λ r. aux_twice (scalar_name names r)) (repeated [] (targets s))

-- each number of an expression is in the domain
abbrev pub numbers_inside : NameTable → PointId → Stmt → Option Fault
numbers_inside names at s = option_map value_out_of_domain (first_outside names.domain (numbers_of s))

-- neither an expression nor both sides of a test together read too many different names
abbrev pub few_names : NameTable → PointId → Stmt → Option Fault
few_names names at s = if list_any is_wide (groups s) then Some (expression_names at) else None

-- ---- the clauses over names and threads

-- a domain has not too few values and not too many for the version
abbrev pub is_domain : ℕ → ℕ → Bool
is_domain version d = nat_le least_domain d && nat_le d (largest_domain version)

abbrev pub domain_fault : ℕ → ℕ → Option Fault
domain_fault version d = if is_domain version d then None else Some (domain_size d)

-- the first owner of a register that is none of the n threads
abbrev pub unknown_owner : ℕ → List (List ℕ × ScalarKind) → Option ℕ
unknown_owner n [] = None
unknown_owner n ((name, Register owner) ∷ rest) = if nat_le 1 owner && nat_le owner n then unknown_owner n rest else Some owner
unknown_owner n ((name, Auxiliary) ∷ rest) = unknown_owner n rest

-- the first fault of a clause in thread t, whose statements stand at the points from k on
abbrev pub in_thread : (PointId → Stmt → Option Fault) → ℕ → ℕ → List Stmt → Option Fault
in_thread clause t k [] = None
in_thread clause t k (s ∷ ss) = first_of (clause (record { thread = t; point = k }) s) (in_thread clause t (k + 1) ss)

-- the first fault of a clause in the threads from t on
abbrev pub in_threads : (PointId → Stmt → Option Fault) → ℕ → List (List Stmt) → Option Fault
in_threads clause t [] = None
in_threads clause t (ss ∷ threads) = first_of (in_thread clause t 1 (statements (block ss))) (in_threads clause (t + 1) threads)

-- The first fault. The clauses go in this order, each through the whole text before the next.
abbrev pub first_fault : NameTable → List (List Stmt) → Option Fault
first_fault names threads =
    first_of (domain_fault names.version names.domain)
    (first_of (option_map unknown_thread (unknown_owner (length threads) names.scalars))
    (first_of (in_threads (own_registers names) 1 threads)
    (first_of (in_threads (no_auxiliaries names) 1 threads)
    (first_of (in_threads (distinct_targets names) 1 threads)
    (first_of (option_map value_out_of_domain (first_outside names.domain (initial names)))
    (first_of (in_threads (numbers_inside names) 1 threads)
    (in_threads (few_names names) 1 threads)))))))
