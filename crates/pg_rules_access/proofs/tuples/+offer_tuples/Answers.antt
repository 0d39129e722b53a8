use Rattle.std.proofs.Common.{◌≡◌, ◌++◌, ◌∷◌, [], ◌-◌, ◌<◌, length, take, arith, List, ℕ, subst, ap}
use Rattle.std.specs.List.{flat_map, range_with_len}
use Rattle.std.proofs.lemmas.List.{take_more_set}
use Rattle.std.proofs.lemmas.List.Elements.{All-same, All-push, All-set}
use Rattle.std.proofs.lemmas.Result.{err_from_is_err_and}
use Rattle.pg_assertion.specs.declared.atom.ViewAtom.TheVariants.{Scalar}
use Rattle.pg_assertion.specs.declared.step_atom.StepAtom.TheVariants.{On}
use Rattle.pg_assertion.specs.StepAtom.{IsStepAtom}
use Rattle.pg_region.specs.Sink.{Appended, Stopped}
use Rattle.pg_tables.specs.declared.clause.StepLiteral.{StepLiteral}
use Rattle.pg_tables.specs.Clause.{written}
use Rattle.pg_tables.proofs.Lists.{Each-stops, Each-goes_on}
use Rattle.pg_rules_access.proofs.TupleLists.{row, row_same, at_cons, tail_of, head_of, said_atoms}
use Rattle.pg_rules_access.proofs.tuples.+offer_tuples.Goals as goal

pub offer-requires : goal.offer-requires
offer-requires g t c =
    let l = c.args.setting.now.layout in
    All-same (λ x. IsStepAtom l x.atom) c.with.result (c.implies.result ++ (record { atom = c.says-said.result.atom; positive = c.says-said.result.positive } ∷ [])) c.with.ensures
    (said_atoms l (take c.args.count c.args.given.now) c.implies.result c.says-said.result.atom c.says-said.result.positive c.implies.ensures c.requires.atoms c.says-said.ensures.atom)

pub offer_tuples-requires : goal.offer_tuples-requires
offer_tuples-requires g t c κs within =
    let l = c.args.setting.now.layout in
    let h = c.in-Some.ensures.cases in
    let known = tail_of (λ r. r < l.scalars) c.args.names.now c.in-Some.r.now c.in-Some.rest.now h.0 c.requires.known in
    let r : c.in-Some.r.now < l.scalars = head_of (λ r. r < l.scalars) c.args.names.now c.in-Some.r.now c.in-Some.rest.now h.0 c.requires.known in
    let long = ap length h.0 in
    let low : c.args.count < length c.args.given.now = omega (arith, long, c.requires.short) in (
      omega arith,
      (
        within.0,
        (
          within.1.0,
          (
            within.1.1,
            (
              omega (arith, long, c.requires.short),
              (
                known,
                (
                  All-same (IsStepAtom l) _ _ (take_more_set c.args.given.now c.args.count (On (Scalar c.in-Some.r.now c.loop-k.k) c.side-side.result) low)
                      (All-push (IsStepAtom l) (take c.args.count c.args.given.now) _ c.requires.atoms (r, omega arith)),
                  (
                    All-set (λ v. v < l.domain) c.args.values.now c.from.result c.loop-k.k (omega arith) c.requires.values,
                    c.requires.fits,
                  ),
                ),
              ),
            ),
          ),
        ),
      ),
    )

pub returns-in_err-offer_tuples-in-Some : goal.returns-in_err-offer_tuples-in-Some
returns-in_err-offer_tuples-in-Some g t c =
    let s = c.args.setting.now in
    let side = g.T.Says.side c.args.says.now in
    let says = g.T.Says.says s.layout c.args.says.now in
    let given = take c.args.count c.args.given.now in
    let low : c.args.count < length c.args.given.now = omega (arith, ap length c.in-Some.ensures.cases.0, c.requires.short) in
    let p = err_from_is_err_and c.from_residual.result c.from_residual.ensures.1 in
    let e = at_cons s.layout side says c.args.names.now c.in-Some.r.now c.in-Some.rest.now given c.args.values.now c.in-Some.ensures.cases.0 in
    rw (p.1, e) (Each-stops s (row s.layout side says c.in-Some.r.now c.in-Some.rest.now given c.args.values.now) g.S.ClauseSink.takes _ _ _
    0 s.layout.domain c.loop-k.k (omega arith) (omega arith) c.loop-k.invariant
    (subst (λ (x : List (List StepLiteral)). Stopped g.S.ClauseSink.takes (g.S.ClauseSink.view c.loop-k.into) (g.S.ClauseSink.view c.offer_tuples.new.into) (written s x))
    (row_same s.layout side says c.in-Some.r.now c.from.result c.in-Some.rest.now c.args.given.now c.args.count c.side-side.result c.args.values.now c.loop-k.k low c.side-side.ensures c.from.ensures)
    c.in_err-offer_tuples-in-Some.ensures))

pub loop-k-preserved : goal.loop-k-preserved
loop-k-preserved g t c =
    let s = c.args.setting.now in
    let side = g.T.Says.side c.args.says.now in
    let says = g.T.Says.says s.layout c.args.says.now in
    let given = take c.args.count c.args.given.now in
    let low : c.args.count < length c.args.given.now = omega (arith, ap length c.in-Some.ensures.cases.0, c.requires.short) in
    Each-goes_on s (row s.layout side says c.in-Some.r.now c.in-Some.rest.now given c.args.values.now) _ _ _
    0 c.loop-k.k (omega arith) c.loop-k.invariant
    (subst (λ (x : List (List StepLiteral)). Appended (g.S.ClauseSink.view c.loop-k.into) (g.S.ClauseSink.view c.offer_tuples.new.into) (written s x))
    (row_same s.layout side says c.in-Some.r.now c.from.result c.in-Some.rest.now c.args.given.now c.args.count c.side-side.result c.args.values.now c.loop-k.k low c.side-side.ensures c.from.ensures)
    c.in_ok-offer_tuples-in-Some.ensures)

pub returns-after-loop-k : goal.returns-after-loop-k
returns-after-loop-k g t c =
    let s = c.args.setting.now in
    let side = g.T.Says.side c.args.says.now in
    let says = g.T.Says.says s.layout c.args.says.now in
    let given = take c.args.count c.args.given.now in
    let e = at_cons s.layout side says c.args.names.now c.in-Some.r.now c.in-Some.rest.now given c.args.values.now c.in-Some.ensures.cases.0 in
    let z : c.loop-k.k - 0 ≡ s.layout.domain = omega arith in
    rw e (subst (λ (n : ℕ). Appended (g.S.ClauseSink.view c.args.into.now) (g.S.ClauseSink.view c.loop-k.into) (written s (flat_map (row s.layout side says c.in-Some.r.now c.in-Some.rest.now given c.args.values.now) (range_with_len 0 n)))) z c.loop-k.invariant)
