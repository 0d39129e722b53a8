use Rattle.std.proofs.Common.{arith, rules, length, sym, subst}
use Rattle.pg_program.specs.declared.syntax.Expr.{Expr, the_lemmas}
use Rattle.pg_program.specs.Expr.{reads}
use Rattle.pg_program.proofs.ExprLemmas.{AreBelow, below-scalar, below-add, below-sub, below-mul}
use Rattle.pg_program.proofs.expr.+eval.Goals as goal

pub bounds-scalars-from : goal.bounds-scalars-from
bounds-scalars-from t c = let h = below-scalar c.args.expr.now c.in-Scalar.r (length c.args.scalars.now) c.in-Scalar.is c.requires.names in omega arith

pub eval-left-requires : goal.eval-left-requires
eval-left-requires t c =
    let n = length c.args.scalars.now in
    let h = below-add c.args.expr.now c.in-Add.a c.in-Add.b n c.in-Add.is c.requires.names in
    (search (rules, the_lemmas), (c.requires.domain, (c.requires.values, subst (λ (e : Expr). AreBelow n (reads e)) (sym c.get.ensures) h.0)))

pub eval-right-requires : goal.eval-right-requires
eval-right-requires t c =
    let n = length c.args.scalars.now in
    let h = below-add c.args.expr.now c.in-Add.a c.in-Add.b n c.in-Add.is c.requires.names in
    (search (rules, the_lemmas), (c.requires.domain, (c.requires.values, subst (λ (e : Expr). AreBelow n (reads e)) (sym c.get-in-Add.ensures) h.1)))

pub eval-left-requires-in-Sub : goal.eval-left-requires-in-Sub
eval-left-requires-in-Sub t c =
    let n = length c.args.scalars.now in
    let h = below-sub c.args.expr.now c.in-Sub.a c.in-Sub.b n c.in-Sub.is c.requires.names in
    (search (rules, the_lemmas), (c.requires.domain, (c.requires.values, subst (λ (e : Expr). AreBelow n (reads e)) (sym c.get-in-Sub.ensures) h.0)))

pub eval-right-requires-in-Sub : goal.eval-right-requires-in-Sub
eval-right-requires-in-Sub t c =
    let n = length c.args.scalars.now in
    let h = below-sub c.args.expr.now c.in-Sub.a c.in-Sub.b n c.in-Sub.is c.requires.names in
    (search (rules, the_lemmas), (c.requires.domain, (c.requires.values, subst (λ (e : Expr). AreBelow n (reads e)) (sym c.get-in-Sub-2.ensures) h.1)))

pub eval-left-requires-in-Mul : goal.eval-left-requires-in-Mul
eval-left-requires-in-Mul t c =
    let n = length c.args.scalars.now in
    let h = below-mul c.args.expr.now c.in-Mul.a c.in-Mul.b n c.in-Mul.is c.requires.names in
    (search (rules, the_lemmas), (c.requires.domain, (c.requires.values, subst (λ (e : Expr). AreBelow n (reads e)) (sym c.get-in-Mul.ensures) h.0)))

pub eval-right-requires-in-Mul : goal.eval-right-requires-in-Mul
eval-right-requires-in-Mul t c =
    let n = length c.args.scalars.now in
    let h = below-mul c.args.expr.now c.in-Mul.a c.in-Mul.b n c.in-Mul.is c.requires.names in
    (search (rules, the_lemmas), (c.requires.domain, (c.requires.values, subst (λ (e : Expr). AreBelow n (reads e)) (sym c.get-in-Mul-2.ensures) h.1)))
