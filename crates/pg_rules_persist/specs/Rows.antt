-- The rows of what a crash may leave, for each statement of a thread s: of P'(z,v), and of A'(t,z,v).
use Rattle.std.specs.Prelude.{ℕ, Bool, true, false, ◌==◌, List, [], ◌∷◌, ◌++◌}
use Rattle.pg_assertion.specs.declared.atom.ViewAtom.{ViewAtom}
use Rattle.pg_assertion.specs.declared.atom.ViewAtom.TheVariants.{Last, Read, Persist, Async, Ordered, Fenced}
use Rattle.pg_assertion.specs.declared.step_atom.StepAtom.{StepAtom}
use Rattle.pg_assertion.specs.declared.step_atom.StepAtom.TheVariants.{Value}
use Rattle.pg_program.specs.NameTable.{NameTable}
use Rattle.pg_tables.specs.declared.clause.Case.TheVariants.{Succeeds, Fails}
use Rattle.pg_tables.specs.declared.clause.StepLiteral.{StepLiteral}
use Rattle.pg_tables.specs.Clause.{implies}
use Rattle.pg_tables.specs.Table.{under}
use Rattle.pg_tables.specs.Shapes.{before, after, frame, becomes, becomes_both, gains}
use Rattle.pg_tables.specs.Steps.{same_line}

-- ---- a store to x, whose value K(v) says

-- a new message may persist, whatever is committed: where the atom's location is x
abbrev pub store_gains : Bool → ViewAtom → ℕ → List (List StepLiteral)
store_gains true a v = gains (after a) (before a) (Value v)
store_gains false a v = frame a

abbrev pub store : ℕ → ViewAtom → List (List StepLiteral)
store x (Persist z v) = store_gains (z == x) (Persist z v) v
store x (Async t z v) = store_gains (z == x) (Async t z v) v
store x a = frame a

-- ---- a fence, which commits each line

-- A'(t,z,v), where t is s: of what thread t would commit and what s has committed, the greater one counts
abbrev pub fence_async : Bool → ℕ → ℕ → ℕ → ℕ → List (List StepLiteral)
fence_async true s t z v = frame (Async t z v)
fence_async false s t z v = becomes_both (after (Async t z v)) (before (Async t z v)) (before (Async s z v))

-- an `mfence` or an `sfence`
abbrev pub fence : ℕ → ViewAtom → List (List StepLiteral)
fence s (Persist z v) = becomes (after (Persist z v)) (before (Async s z v))
fence s (Async t z v) = fence_async (t == s) s t z v
fence s a = frame a

-- ---- a `flush` of the line of x, and a `flushopt` of it

-- P'(z,v), where z stands on the line
abbrev pub flush_persist : Bool → ℕ → ℕ → ℕ → List (List StepLiteral)
flush_persist true s z v =
    implies (after (Persist z v) ∷ []) (before (Persist z v) ∷ [])
    ∷ implies (after (Persist z v) ∷ []) (before (Read s z v) ∷ [])
    ∷ implies (after (Persist z v) ∷ []) (before (Async s z v) ∷ [])
    ∷ implies (before (Fenced s z) ∷ after (Persist z v) ∷ []) (before (Last z v) ∷ [])
    ∷ []
flush_persist false s z v = frame (Persist z v)

-- A'(t,z,v), where z stands on the line
abbrev pub flush_async : Bool → ℕ → ℕ → ℕ → List (List StepLiteral)
flush_async true t z v = becomes_both (after (Async t z v)) (before (Async t z v)) (after (Persist z v))
flush_async false t z v = frame (Async t z v)

abbrev pub flush : NameTable → ℕ → ℕ → ViewAtom → List (List StepLiteral)
flush names s x (Persist z v) = flush_persist (same_line names x z) s z v
flush names s x (Async t z v) = flush_async (same_line names x z) t z v
flush names s x a = frame a

-- A'(t,z,v), where t is s, and where z stands on the line
abbrev pub flushopt_async : Bool → Bool → ℕ → ℕ → ℕ → List (List StepLiteral)
flushopt_async true true t z v =
    implies (after (Async t z v) ∷ []) (before (Async t z v) ∷ [])
    ∷ implies (after (Async t z v) ∷ []) (before (Read t z v) ∷ [])
    ∷ implies (before (Ordered t z) ∷ after (Async t z v) ∷ []) (before (Last z v) ∷ [])
    ∷ []
flushopt_async true false t z v = frame (Async t z v)
flushopt_async false near t z v = frame (Async t z v)

-- only a fence of the thread commits what it flushes so, hence each P has its frame
abbrev pub flushopt : NameTable → ℕ → ℕ → ViewAtom → List (List StepLiteral)
flushopt names s x (Async t z v) = flushopt_async (t == s) (same_line names x z) t z v
flushopt names s x a = frame a

-- ---- a cas on x, which fences whether it succeeds or fails, and stores where it succeeds

-- P'(z,v), where z is x
abbrev pub cas_persist : Bool → ℕ → ℕ → ℕ → List (List StepLiteral)
cas_persist true s z v =
    under Succeeds (gains (after (Persist z v)) (before (Async s z v)) (Value v))
    ++ under Fails (becomes (after (Persist z v)) (before (Async s z v)))
cas_persist false s z v = becomes (after (Persist z v)) (before (Async s z v))

-- a is b and c, or k
abbrev pub becomes_both_or : StepAtom → StepAtom → StepAtom → StepAtom → List (List StepLiteral)
becomes_both_or a b c k =
    implies (a ∷ []) (b ∷ k ∷ [])
    ∷ implies (a ∷ []) (c ∷ k ∷ [])
    ∷ implies (b ∷ c ∷ []) (a ∷ [])
    ∷ implies (k ∷ []) (a ∷ [])
    ∷ []

-- A'(t,z,v), where t is s, and where z is x
abbrev pub cas_async : Bool → Bool → ℕ → ℕ → ℕ → ℕ → List (List StepLiteral)
cas_async true true s t z v =
    under Succeeds (gains (after (Async t z v)) (before (Async t z v)) (Value v))
    ++ under Fails (frame (Async t z v))
cas_async true false s t z v = frame (Async t z v)
cas_async false true s t z v =
    under Succeeds (becomes_both_or (after (Async t z v)) (before (Async t z v)) (before (Async s z v)) (Value v))
    ++ under Fails (becomes_both (after (Async t z v)) (before (Async t z v)) (before (Async s z v)))
cas_async false false s t z v = becomes_both (after (Async t z v)) (before (Async t z v)) (before (Async s z v))

abbrev pub cas : ℕ → ℕ → ViewAtom → List (List StepLiteral)
cas s x (Persist z v) = cas_persist (z == x) s z v
cas s x (Async t z v) = cas_async (t == s) (z == x) s t z v
cas s x a = frame a
