use Rattle.std.proofs.Common.{◌++◌, ◌+◌, ◌∙◌, List, ℕ, ap, ap₂, sym, subst, arith, map, drop, append_assoc}
use Rattle.std.proofs.lemmas.List.{drop_all, append-nil}
use Rattle.std.specs.List.{All}
use Rattle.pg_program.specs.declared.syntax.Stmt.{Stmt}
use Rattle.pg_program.specs.Block.{block, first_list, second_list}
use Rattle.pg_program.specs.Graph.{size}
use Rattle.pg_assertion.specs.declared.atom.ViewAtom.{ViewAtom}
use Rattle.pg_assertion.specs.Formula.{Plain, plain, AllAtoms}
use Rattle.pg_assertion.specs.Atom.{NamesDeclared}
use Rattle.pg_program_text.specs.Spelling.{spell_block, stmt_lines}
use Rattle.pg_program_text.specs.DeclaredNames.{BlockDeclared}
use Rattle.pg_program_text.proofs.Spelling.{size_turn, notes_turn, text_turn, declared_turn, all_drop}
use Rattle.pg_program_text.proofs.print.+lines.Goals as goal

pub spell_block-spell_stmt-requires : goal.spell_block-spell_stmt-requires
spell_block-spell_stmt-requires t c =
    let s = c.stmt-item.result in
    let turn = size_turn c.args.stmts.now c.stmts.stmt-index s c.stmts-test.true c.stmt-item.is in
    let are = declared_turn c.args.stmts.now c.stmts.stmt-index s c.stmts-test.true c.stmt-item.is c.args.names.now c.stmts.invariant.2 in
    let few = c.stmts.invariant.4 in
    let deep = c.requires.deep in
    (omega arith, (omega arith, (are.0, (are.1, (are.2, c.stmts.invariant.3)))))

pub spell_block-stmts-preserved : goal.spell_block-stmts-preserved
spell_block-stmts-preserved t c =
    let ss = c.args.stmts.now in
    let i = c.stmts.stmt-index in
    let s = c.stmt-item.result in
    let names = c.args.names.now in
    let depth = c.args.depth in
    let notes = map plain c.stmts.rest.now in
    let left = block (drop (i + 1) ss) in
    let first = block (first_list s) in
    let second = block (second_list s) in
    let behind = drop (size second) (drop (size first) (drop 1 notes)) in
    let turn = size_turn ss i s c.stmts-test.true c.stmt-item.is in
    let are = declared_turn ss i s c.stmts-test.true c.stmt-item.is names c.stmts.invariant.2 in
    let few = c.stmts.invariant.4 in
    let lines = stmt_lines names depth s first second notes in
    let text =
    ap₂ (λ (w : List ℕ) (fs : List (Plain ViewAtom)). w ++ spell_block names depth left fs) c.in_ok-rest.ensures.text c.in_ok-rest.ensures.rest
    ∙ append_assoc c.stmts.into.items lines (spell_block names depth left behind)
    ∙ ap (λ (w : List ℕ). c.stmts.into.items ++ w) (sym (text_turn ss i s c.stmts-test.true c.stmt-item.is names depth notes))
    ∙ c.stmts.invariant.0
    in
    let rest =
    ap (λ (fs : List (Plain ViewAtom)). drop (size left) fs) c.in_ok-rest.ensures.rest
    ∙ sym (notes_turn ss i s c.stmts-test.true c.stmt-item.is notes)
    ∙ c.stmts.invariant.1
    in
    let P = AllAtoms (NamesDeclared names) in
    let each : All P behind = all_drop P (size second) (drop (size first) (drop 1 notes)) (all_drop P (size first) (drop 1 notes) (all_drop P 1 notes c.stmts.invariant.3)) in
    (text, rest, are.3, subst (All P) (sym c.in_ok-rest.ensures.rest) each, omega arith)

pub spell_block-returns-clause-text : goal.spell_block-returns-clause-text
unfolding spell_block
spell_block-returns-clause-text t c =
    let into = c.stmts.into.items in
    let past = drop_all c.stmts.stmt-index c.args.stmts.now c.stmts-test.false in
    sym (append-nil into)
    ∙ ap (λ (ss : List Stmt). into ++ spell_block c.args.names.now c.args.depth (block ss) (map plain c.stmts.rest.now)) (sym past)
    ∙ c.stmts.invariant.0

pub spell_stmt-spell_block-requires-2 : goal.spell_stmt-spell_block-requires-2
spell_stmt-spell_block-requires-2 t c =
    let names = c.args.names.now in
    let notes = map plain c.args.notes.now in
    let second = c.second_within-second.result.now in
    let is = ap (λ (ss : List Stmt). size (block ss)) c.second_within-second.ensures in
    let deep = c.requires.deep in
    let P = AllAtoms (NamesDeclared names) in
    let inner : All P (map plain c.in_ok-inner.inner.now) = subst (All P) (sym c.in_ok-inner.ensures.rest) (all_drop P 1 notes c.requires.notes) in
    let n = size (block c.first_within.result.now) in
    let others : All P (map plain c.in_ok-others.others.now) = subst (All P) (sym c.in_ok-others.ensures.rest) (all_drop P n (map plain c.in_ok-inner.inner.now) inner) in
    (omega arith, (omega arith, (subst (λ (ss : List Stmt). BlockDeclared names (block ss)) (sym c.second_within-second.ensures) c.requires.second, others)))
