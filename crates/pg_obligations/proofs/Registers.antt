-- The values of the registers among those of the scalars.
use Rattle.std.proofs.Common.{◌≡◌, ℕ, zero, suc, true, false, List, [], ◌∷◌, length, take, get_or, set, slice_get, refl, ap, arith}
use Rattle.std.specs.List.{All}
use Rattle.std.proofs.lemmas.List.Elements.{All-nil, All-cons, All-head, All-tail}
use Rattle.pg_program.specs.declared.name_table.ScalarKind.{ScalarKind}
use Rattle.pg_program.specs.declared.name_table.ScalarKind.TheVariants.{Register, Auxiliary}
use Rattle.pg_program.specs.NameTable.{is_auxiliary_kind}
use Rattle.pg_outline.specs.Erasure.{registers}
use Rattle.pg_obligations.specs.Forgotten.{registers_of}

abbrev Scalars : Type 0
Scalars = List (List ℕ × ScalarKind)

pub length-registers_of : (es : Scalars) (vs : List ℕ) → length vs ≡ length es → length (registers_of es vs) ≡ length (registers es)
length-registers_of [] vs n = refl
length-registers_of (e ∷ es) [] n = absurd (omega (arith, n))
length-registers_of ((name, Register o) ∷ es) (v ∷ vs) n = ap suc (length-registers_of es vs (omega (arith, n)))
length-registers_of ((name, Auxiliary) ∷ es) (v ∷ vs) n = length-registers_of es vs (omega (arith, n))

pub all-registers_of : (P : ℕ → Type 0) (es : Scalars) (vs : List ℕ) → All P vs → All P (registers_of es vs)
all-registers_of P [] vs h = All-nil P
all-registers_of P (e ∷ es) [] h = All-nil P
all-registers_of P ((name, Register o) ∷ es) (v ∷ vs) h = All-cons P v (registers_of es vs) (All-head P v vs h) (all-registers_of P es vs (All-tail P v vs h))
all-registers_of P ((name, Auxiliary) ∷ es) (v ∷ vs) h = all-registers_of P es vs (All-tail P v vs h)

-- the value of a register stands at its new place
pub get_or-registers_of : (es : Scalars) (vs : List ℕ) (r : ℕ) → is_auxiliary_kind (slice_get es r) ≡ false → length vs ≡ length es
    → get_or (registers_of es vs) (length (registers (take r es))) 0 ≡ get_or vs r 0
get_or-registers_of [] [] r h n = refl
get_or-registers_of [] (v ∷ vs) r h n = absurd (omega (arith, n))
get_or-registers_of (e ∷ es) [] r h n = absurd (omega (arith, n))
get_or-registers_of ((name, Register o) ∷ es) (v ∷ vs) zero h n = refl
get_or-registers_of ((name, Auxiliary) ∷ es) (v ∷ vs) zero h n = cc
get_or-registers_of ((name, Register o) ∷ es) (v ∷ vs) (suc r) h n = get_or-registers_of es vs r h (omega (arith, n))
get_or-registers_of ((name, Auxiliary) ∷ es) (v ∷ vs) (suc r) h n = get_or-registers_of es vs r h (omega (arith, n))

-- and is set there
pub set-registers_of : (es : Scalars) (vs : List ℕ) (r v : ℕ) → is_auxiliary_kind (slice_get es r) ≡ false → length vs ≡ length es
    → registers_of es (set vs r v) ≡ set (registers_of es vs) (length (registers (take r es))) v
set-registers_of [] [] r v h n = refl
set-registers_of [] (w ∷ vs) r v h n = absurd (omega (arith, n))
set-registers_of (e ∷ es) [] r v h n = absurd (omega (arith, n))
set-registers_of ((name, Register o) ∷ es) (w ∷ vs) zero v h n = refl
set-registers_of ((name, Auxiliary) ∷ es) (w ∷ vs) zero v h n = cc
set-registers_of ((name, Register o) ∷ es) (w ∷ vs) (suc r) v h n = ap (λ l. w ∷ l) (set-registers_of es vs r v h (omega (arith, n)))
set-registers_of ((name, Auxiliary) ∷ es) (w ∷ vs) (suc r) v h n = set-registers_of es vs r v h (omega (arith, n))

-- an auxiliary that is set is no register
pub set-auxiliary : (es : Scalars) (vs : List ℕ) (r v : ℕ) → is_auxiliary_kind (slice_get es r) ≡ true → registers_of es (set vs r v) ≡ registers_of es vs
set-auxiliary [] vs r v h = refl
set-auxiliary (e ∷ es) [] r v h = refl
set-auxiliary ((name, Register o) ∷ es) (w ∷ vs) zero v h = cc
set-auxiliary ((name, Auxiliary) ∷ es) (w ∷ vs) zero v h = refl
set-auxiliary ((name, Register o) ∷ es) (w ∷ vs) (suc r) v h = ap (λ l. w ∷ l) (set-auxiliary es vs r v h)
set-auxiliary ((name, Auxiliary) ∷ es) (w ∷ vs) (suc r) v h = set-auxiliary es vs r v h

-- ---- values of registers, with 0 for each auxiliary

pub filled : Scalars → List ℕ → List ℕ
filled [] us = []
filled ((name, Register o) ∷ es) [] = 0 ∷ filled es []
filled ((name, Register o) ∷ es) (u ∷ us) = u ∷ filled es us
filled ((name, Auxiliary) ∷ es) us = 0 ∷ filled es us

pub length-filled : (es : Scalars) (us : List ℕ) → length (filled es us) ≡ length es
unfolding filled
length-filled [] us = refl
length-filled ((name, Register o) ∷ es) [] = ap suc (length-filled es [])
length-filled ((name, Register o) ∷ es) (u ∷ us) = ap suc (length-filled es us)
length-filled ((name, Auxiliary) ∷ es) us = ap suc (length-filled es us)

pub all-filled : (P : ℕ → Type 0) (es : Scalars) (us : List ℕ) → P 0 → All P us → All P (filled es us)
unfolding filled
all-filled P [] us z h = All-nil P
all-filled P ((name, Register o) ∷ es) [] z h = All-cons P 0 (filled es []) z (all-filled P es [] z h)
all-filled P ((name, Register o) ∷ es) (u ∷ us) z h = All-cons P u (filled es us) (All-head P u us h) (all-filled P es us z (All-tail P u us h))
all-filled P ((name, Auxiliary) ∷ es) us z h = All-cons P 0 (filled es us) z (all-filled P es us z h)

pub registers_of-filled : (es : Scalars) (us : List ℕ) → length us ≡ length (registers es) → registers_of es (filled es us) ≡ us
unfolding filled
registers_of-filled [] [] n = refl
registers_of-filled [] (u ∷ us) n = absurd (omega (arith, n))
registers_of-filled ((name, Register o) ∷ es) [] n = absurd (omega (arith, n))
registers_of-filled ((name, Register o) ∷ es) (u ∷ us) n = ap (λ l. u ∷ l) (registers_of-filled es us (omega (arith, n)))
registers_of-filled ((name, Auxiliary) ∷ es) us n = registers_of-filled es us n
