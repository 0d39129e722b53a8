-- Shapes of rows that many tables have: how an atom comes of others.
use Rattle.std.specs.Prelude.{List, [], ◌∷◌}
use Rattle.pg_assertion.specs.declared.atom.ViewAtom.{ViewAtom}
use Rattle.pg_assertion.specs.declared.layout.Side.TheVariants.{Before, After}
use Rattle.pg_assertion.specs.declared.step_atom.StepAtom.{StepAtom}
use Rattle.pg_assertion.specs.declared.step_atom.StepAtom.TheVariants.{On}
use Rattle.pg_tables.specs.declared.clause.StepLiteral.{StepLiteral}
use Rattle.pg_tables.specs.Clause.{implies}

-- an atom before the step, and after it
abbrev pub before : ViewAtom → StepAtom
before a = On a Before

abbrev pub after : ViewAtom → StepAtom
after a = On a After

-- `a => b`; `=> a`; `a =>`
abbrev pub only_where : StepAtom → StepAtom → List (List StepLiteral)
only_where a b = implies (a ∷ []) (b ∷ []) ∷ []

abbrev pub always : StepAtom → List (List StepLiteral)
always a = implies [] (a ∷ []) ∷ []

abbrev pub never : StepAtom → List (List StepLiteral)
never a = implies (a ∷ []) [] ∷ []

-- a is what b is
abbrev pub becomes : StepAtom → StepAtom → List (List StepLiteral)
becomes a b =
    implies (a ∷ []) (b ∷ [])
    ∷ implies (b ∷ []) (a ∷ [])
    ∷ []

-- an atom is after the step what it was before
abbrev pub frame : ViewAtom → List (List StepLiteral)
frame a = becomes (after a) (before a)

-- a is b and c
abbrev pub becomes_both : StepAtom → StepAtom → StepAtom → List (List StepLiteral)
becomes_both a b c =
    implies (a ∷ []) (b ∷ [])
    ∷ implies (a ∷ []) (c ∷ [])
    ∷ implies (b ∷ c ∷ []) (a ∷ [])
    ∷ []

-- a is old or b
abbrev pub gains : StepAtom → StepAtom → StepAtom → List (List StepLiteral)
gains a old b =
    implies (a ∷ []) (old ∷ b ∷ [])
    ∷ implies (old ∷ []) (a ∷ [])
    ∷ implies (b ∷ []) (a ∷ [])
    ∷ []

-- a is old, or b and c
abbrev pub gains_both : StepAtom → StepAtom → StepAtom → StepAtom → List (List StepLiteral)
gains_both a old b c =
    implies (a ∷ []) (old ∷ b ∷ [])
    ∷ implies (a ∷ []) (old ∷ c ∷ [])
    ∷ implies (old ∷ []) (a ∷ [])
    ∷ implies (b ∷ c ∷ []) (a ∷ [])
    ∷ []
