use Rattle.std.proofs.Common.{◌+◌, ◌-◌, [], ◌∷◌, Bool, cond, Option, Some, None, List, length, drop, get_or, sym, ap, ◌∙◌, arith}
use Rattle.std.proofs.lemmas.List.{length_push, take-append-le}
use Rattle.pg_region.specs.Literal.{Literal}
use Rattle.pg_region.specs.Region.{clause_at}
use Rattle.pg_decider.specs.Assignment.{Assignment, on, added}
use Rattle.pg_decider.proofs.Trees.{fun-push}
use Rattle.pg_tree.specs.Fault.{leaf_fault, unit_fault}
use Rattle.pg_tree.specs.declared.fault.TreeFault.TheVariants.{NoConflict}
use Rattle.pg_tree.proofs.Marks.{clause-within, fault-last, fault-more}
use Rattle.pg_tree.proofs.Units.{unit-is}
use Rattle.pg_tree.proofs.check.leaf_steps.Goals as goal

pub are_all_false-requires : goal.are_all_false-requires
are_all_false-requires c =
    let n = get_or c.args.numbers.now c.numbers.i 0 in
    clause-within c.args.reader.now.atoms c.numbers.path.atoms c.args.reader.now.clauses c.clause-clause.result.now (n - 1) c.atoms-atoms.ensures.over (omega (arith, c.requires.atoms, c.numbers.invariant.0))
    (c.clause-clause.ensures.clause ∙ ap (λ (cs : List (List Literal)). clause_at cs (n - 1)) c.numbers.invariant.1.0)

pub returns-then-are_all_false-clause-exact : goal.returns-then-are_all_false-clause-exact
returns-then-are_all_false-clause-exact c =
    let n = get_or c.args.numbers.now c.numbers.i 0 in
    sym (c.numbers.invariant.4
    ∙ (fault-last c.args.reader.now.clauses c.args.line (on c.numbers.path.literals) c.args.numbers.now c.numbers.i c.clause-clause.result.now (omega arith) (omega arith) (omega arith)
    (c.clause-clause.ensures.clause ∙ ap (λ (cs : List (List Literal)). clause_at cs (n - 1)) c.numbers.invariant.1.0)
    ∙ ap (λ (b : Bool). cond b None (Some (NoConflict c.args.line))) (sym c.are_all_false.ensures ∙ c.if-are_all_false.true)))

pub returns-else-are_all_false-clause-exact : goal.returns-else-are_all_false-clause-exact
returns-else-are_all_false-clause-exact c =
    let n = get_or c.args.numbers.now c.numbers.i 0 in
    sym (c.numbers.invariant.4
    ∙ (fault-last c.args.reader.now.clauses c.args.line (on c.numbers.path.literals) c.args.numbers.now c.numbers.i c.clause-clause.result.now (omega arith) (omega arith) (omega arith)
    (c.clause-clause.ensures.clause ∙ ap (λ (cs : List (List Literal)). clause_at cs (n - 1)) c.numbers.invariant.1.0)
    ∙ ap (λ (b : Bool). cond b None (Some (NoConflict c.args.line))) (sym c.are_all_false.ensures ∙ c.if-are_all_false.false)))

pub unit_of-requires : goal.unit_of-requires
unit_of-requires c =
    let n = get_or c.args.numbers.now c.numbers.i 0 in
    clause-within c.args.reader.now.atoms c.numbers.path.atoms c.args.reader.now.clauses c.clause-clause.result.now (n - 1) c.atoms-atoms.ensures.over (omega (arith, c.requires.atoms, c.numbers.invariant.0))
    (c.clause-clause.ensures.clause ∙ ap (λ (cs : List (List Literal)). clause_at cs (n - 1)) c.numbers.invariant.1.0)

pub returns-in-None-clause-exact : goal.returns-in-None-clause-exact
returns-in-None-clause-exact c =
    let cs = c.args.reader.now.clauses in
    let s = on c.numbers.path.literals in
    let n = get_or c.args.numbers.now c.numbers.i 0 in
    sym (c.numbers.invariant.4
    ∙ (fault-more cs c.args.line s c.args.numbers.now c.numbers.i c.clause-clause.result.now (omega arith) (omega arith) (omega arith)
    (c.clause-clause.ensures.clause ∙ ap (λ (ds : List (List Literal)). clause_at ds (n - 1)) c.numbers.invariant.1.0)
    ∙ ap (λ (o : Option Literal). unit_fault c.args.line n o (λ l. leaf_fault cs c.args.line (added l s) (drop (c.numbers.i + 1) c.args.numbers.now))) (sym c.unit_of.ensures ∙ c.in-None.is)))

pub add-requires-clause-atom : goal.add-requires-clause-atom
add-requires-clause-atom c =
    let n = get_or c.args.numbers.now c.numbers.i 0 in
    clause-within c.args.reader.now.atoms c.numbers.path.atoms c.args.reader.now.clauses c.clause-clause.result.now (n - 1) c.atoms-atoms.ensures.over (omega (arith, c.requires.atoms, c.numbers.invariant.0))
    (c.clause-clause.ensures.clause ∙ ap (λ (cs : List (List Literal)). clause_at cs (n - 1)) c.numbers.invariant.1.0) c.in-Some.literal
    (unit-is (on c.numbers.path.literals) c.clause-clause.result.now c.in-Some.literal (sym c.unit_of.ensures ∙ c.in-Some.is)).forced.has

pub add-requires-clause-free : goal.add-requires-clause-free
add-requires-clause-free c = (unit-is (on c.numbers.path.literals) c.clause-clause.result.now c.in-Some.literal (sym c.unit_of.ensures ∙ c.in-Some.is)).free

pub add-requires-clause-open : goal.add-requires-clause-open
add-requires-clause-open c = (unit-is (on c.numbers.path.literals) c.clause-clause.result.now c.in-Some.literal (sym c.unit_of.ensures ∙ c.in-Some.is)).unset

pub numbers-preserved : goal.numbers-preserved
numbers-preserved c =
    let cs = c.args.reader.now.clauses in
    let t = c.numbers.path.literals in
    let l = c.in-Some.literal in
    let n = get_or c.args.numbers.now c.numbers.i 0 in
    rw (c.add.ensures, c.clause-clause.ensures.looks) (
      c.numbers.invariant.0,
      c.numbers.invariant.1,
      omega (arith, c.numbers.invariant.2, length_push t l),
      take-append-le (length c.args.path.now.literals) t (l ∷ []) c.numbers.invariant.2 ∙ c.numbers.invariant.3,
      c.numbers.invariant.4
          ∙ (fault-more cs c.args.line (on t) c.args.numbers.now c.numbers.i c.clause-clause.result.now (omega arith) (omega arith) (omega arith)
          (c.clause-clause.ensures.clause ∙ ap (λ (ds : List (List Literal)). clause_at ds (n - 1)) c.numbers.invariant.1.0)
          ∙ (ap (λ (o : Option Literal). unit_fault c.args.line n o (λ k. leaf_fault cs c.args.line (added k (on t)) (drop (c.numbers.i + 1) c.args.numbers.now))) (sym c.unit_of.ensures ∙ c.in-Some.is)
          ∙ ap (λ (v : Assignment). leaf_fault cs c.args.line v (drop (c.numbers.i + 1) c.args.numbers.now)) (sym (fun-push t l)))),
    )
