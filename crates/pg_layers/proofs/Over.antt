-- Tables over a layout: each of their atoms is one of the layout's.
use Rattle.std.proofs.Common.{ℕ, zero, suc, ◌+◌, ◌<◌, Bool, true, false, List, [], ◌∷◌, ◌++◌, arith}
use Rattle.std.specs.List.{All, flat_map, range_with_len}
use Rattle.std.proofs.lemmas.List.Elements.{All-nil, All-cons, All-append, All-map, All-weaker}
use Rattle.pg_assertion.specs.declared.atom.ViewAtom.{ViewAtom}
use Rattle.pg_assertion.specs.declared.step_atom.StepAtom.{StepAtom}
use Rattle.pg_assertion.specs.Layout.{Sizes, IsAtom}
use Rattle.pg_assertion.specs.StepAtom.{IsStepAtom}
use Rattle.pg_tables.specs.declared.clause.StepLiteral.{StepLiteral}
use Rattle.pg_tables.specs.declared.clause.Case.{Case}
use Rattle.pg_tables.specs.declared.clause.Case.TheVariants.{Succeeds, Fails}
use Rattle.pg_tables.specs.Clause.{AreStepAtoms, premise}
use Rattle.pg_tables.specs.Table.{when, under, per_thread, per_location, per_value, per_scalar, exactly_one, IsOneOf}
use Rattle.pg_tables.specs.Shapes.{frame, becomes, becomes_both, gains, gains_both}
use Rattle.pg_tables.proofs.OneValue.{some-atoms}

pub record IsOver (l : Sizes) (cs : List (List StepLiteral)) : Type 0 where
  pub are : All (AreStepAtoms l) cs

-- what it comes to for clauses that are written out
abbrev pub Each : Sizes → List StepLiteral → Type 0
Each l [] = Unit {0}
Each l (x ∷ c) = IsStepAtom l x.atom × Each l c

abbrev pub EachOf : Sizes → List (List StepLiteral) → Type 0
EachOf l [] = Unit {0}
EachOf l (c ∷ cs) = Each l c × EachOf l cs

module _ (l : Sizes) where
  abbrev Atom : StepLiteral → Type 0
  Atom x = IsStepAtom l x.atom

  one : (c : List StepLiteral) → Each l c → AreStepAtoms l c
  one [] h = All-nil Atom
  one (x ∷ c) h = All-cons Atom x c h.0 (one c h.1)

  pub written_out : {cs : List (List StepLiteral)} → EachOf l cs → IsOver l cs
  written_out {cs = []} h = record { are = All-nil (AreStepAtoms l) }
  written_out {cs = c ∷ cs} h = record { are = All-cons (AreStepAtoms l) c cs (one c h.0) (written_out {cs = cs} h.1).are }

  pub over-none : IsOver l []
  over-none = record { are = All-nil (AreStepAtoms l) }

  pub over-clause : {c : List StepLiteral} → AreStepAtoms l c → IsOver l (c ∷ [])
  over-clause {c} h = record { are = All-cons (AreStepAtoms l) c [] h (All-nil (AreStepAtoms l)) }

  pub over-append : {cs ds : List (List StepLiteral)} → IsOver l cs → IsOver l ds → IsOver l (cs ++ ds)
  over-append {cs} {ds} h k = record { are = All-append (AreStepAtoms l) cs ds h.are k.are }

  pub over-when : (b : Bool) {cs : List (List StepLiteral)} → IsOver l cs → IsOver l (when b cs)
  unfolding when
  over-when true h = h
  over-when false h = over-none

  pub over-under : (case : Case) {cs : List (List StepLiteral)} → IsOver l cs → IsOver l (under case cs)
  over-under case {cs} h = record { are = All-map (AreStepAtoms l) (λ c. premise case ∷ c) cs (All-weaker (AreStepAtoms l) (λ c. AreStepAtoms l (premise case ∷ c)) (first case) cs h.are) }
    where
      first : (k : Case) (c : List StepLiteral) → AreStepAtoms l c → AreStepAtoms l (premise k ∷ c)
      first Succeeds c a = All-cons Atom (premise Succeeds) c tt a
      first Fails c a = All-cons Atom (premise Fails) c tt a

  over-each : (f : ℕ → List (List StepLiteral)) (a n : ℕ) → ((k : ℕ) → IsOneOf a n k → IsOver l (f k)) → IsOver l (flat_map f (range_with_len a n))
  over-each f a zero h = over-none
  over-each f a (suc n) h =
      over-append (h a (record { from = omega arith; to = omega arith }))
      (over-each f (a + 1) n (λ k o. h k (record { from = omega (arith, o.from); to = omega (arith, o.to) })))

  pub over-threads : {f : ℕ → List (List StepLiteral)} → ((k : ℕ) → IsOneOf 1 l.threads k → IsOver l (f k)) → IsOver l (per_thread l f)
  unfolding per_thread
  over-threads {f} h = over-each f 1 l.threads h

  pub over-locations : {f : ℕ → List (List StepLiteral)} → ((k : ℕ) → IsOneOf 0 l.locations k → IsOver l (f k)) → IsOver l (per_location l f)
  unfolding per_location
  over-locations {f} h = over-each f 0 l.locations h

  pub over-values : {f : ℕ → List (List StepLiteral)} → ((k : ℕ) → IsOneOf 0 l.domain k → IsOver l (f k)) → IsOver l (per_value l f)
  unfolding per_value
  over-values {f} h = over-each f 0 l.domain h

  pub over-scalars : {f : ℕ → List (List StepLiteral)} → ((k : ℕ) → IsOneOf 0 l.scalars k → IsOver l (f k)) → IsOver l (per_scalar l f)
  unfolding per_scalar
  over-scalars {f} h = over-each f 0 l.scalars h

  pub over-exactly_one : (a : ℕ → StepAtom) → ((v : ℕ) → v < l.domain → IsStepAtom l (a v)) → IsOver l (exactly_one l a)
  over-exactly_one a h =
      over-append (over-clause (some-atoms l a 0 l.domain (λ v o. h v (omega (arith, o.to)))))
      (over-values (λ v o. over-values (λ w p. over-when _ (written_out ((h v (omega (arith, o.to)), (h w (omega (arith, p.to)), tt)), tt)))))

  -- ---- shapes

  pub over-frame : {a : ViewAtom} → IsAtom l a → IsOver l (frame a)
  over-frame h = written_out ((h, (h, tt)), ((h, (h, tt)), tt))

  pub over-becomes : {a b : StepAtom} → IsStepAtom l a → IsStepAtom l b → IsOver l (becomes a b)
  over-becomes h k = written_out ((h, (k, tt)), ((k, (h, tt)), tt))

  pub over-becomes_both : {a b c : StepAtom} → IsStepAtom l a → IsStepAtom l b → IsStepAtom l c → IsOver l (becomes_both a b c)
  over-becomes_both h k m = written_out ((h, (k, tt)), ((h, (m, tt)), ((k, (m, (h, tt))), tt)))

  pub over-gains : {a old b : StepAtom} → IsStepAtom l a → IsStepAtom l old → IsStepAtom l b → IsOver l (gains a old b)
  over-gains h k m = written_out ((h, (k, (m, tt))), ((k, (h, tt)), ((m, (h, tt)), tt)))

  pub over-gains_both : {a old b c : StepAtom} → IsStepAtom l a → IsStepAtom l old → IsStepAtom l b → IsStepAtom l c → IsOver l (gains_both a old b c)
  over-gains_both h k m n = written_out ((h, (k, (m, tt))), ((h, (k, (n, tt))), ((k, (h, tt)), ((m, (n, (h, tt))), tt))))
