use Rattle.std.proofs.Common.{ℕ, map, ap, ◌∙◌, arith, length}
use Rattle.std.specs.List.{slice_get, range_with_len}
use Rattle.std.proofs.lemmas.List.FromFn.{length-map-range_with_len}
use Rattle.pg_program.specs.Program.{points}
use Rattle.pg_obligations.specs.declared.obligation.Obligation.TheVariants.{Interfere}
use Rattle.pg_obligations.proofs.Places.{get_map_range, where_other}
use Rattle.pg_obligations.proofs.place.in_points.Goals as goal

pub returns-then-place-from : goal.returns-then-place-from
returns-then-place-from c =
    ap (λ l. slice_get l c.args.place) (where_other c.args.u c.args.step.thread _ c.if-u-step.false)
    ∙ get_map_range (λ k. Interfere c.args.step (record { thread = c.args.u; point = k })) (points c.args.p.now c.args.u) c.args.place (omega arith)

pub returns-else-place-from : goal.returns-else-place-from
returns-else-place-from c =
    let f = λ (k : ℕ). Interfere c.args.step (record { thread = c.args.u; point = k }) in
    let e = ap length (where_other c.args.u c.args.step.thread (map f (range_with_len 1 (points c.args.p.now c.args.u))) c.if-u-step.false) in
    omega (arith, e, length-map-range_with_len f 1 (points c.args.p.now c.args.u))
