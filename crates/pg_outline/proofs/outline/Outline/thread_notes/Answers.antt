-- A thread has an assertion for each of its points, and these speak of the program.
use Rattle.std.proofs.Common.{◌≡◌, ◌-◌, ◌+◌, ◌<◌, ◌∙◌, ap, subst, sym, arith, List, [], map, length, get_or, Vec, Global, ℕ}
use Rattle.std.specs.List.{All}
use Rattle.std.proofs.lemmas.List.{length-map, get_or-map}
use Rattle.pg_program.specs.declared.syntax.Stmt.{Stmt}
use Rattle.pg_program.specs.Block.{block}
use Rattle.pg_program.specs.Graph.{size}
use Rattle.pg_program.specs.Program.{points}
use Rattle.pg_assertion.specs.declared.atom.ViewAtom.{ViewAtom}
use Rattle.pg_assertion.specs.declared.atom.RawAtom.{RawAtom}
use Rattle.pg_assertion.specs.declared.formula.Formula.{Formula}
use Rattle.pg_assertion.specs.Formula.{Plain, plain, with_atoms}
use Rattle.pg_assertion.specs.Atom.{raw_of}
use Rattle.pg_outline.specs.Outline.{OutlineTable}
use Rattle.pg_outline.specs.Speaks.{IsOver}
use Rattle.pg_outline.proofs.Speaks.{notes_speak}
use Rattle.pg_outline.proofs.Rows.{rows_sized, rows_counted}
use Rattle.pg_outline.proofs.outline.Outline.thread_notes.Goals as goal

pub returns-clause-one_a_point : goal.returns-clause-one_a_point
returns-clause-one_a_point c =
    let o = c.self.inside in
    let t = c.args.thread in
    let seen : Vec (Formula ViewAtom) Global → List (Plain ViewAtom) = λ v. map plain v.items in
    let raw : List (Plain ViewAtom) → List (Plain RawAtom) = map (with_atoms raw_of) in
    let counted : List Stmt → ℕ = λ ss. size (block ss) + 1 in
    let same = c.self.invariant.0.draft.points in
    let threads : length o.program.threads ≡ length c.args.self.now.program.threads = ap (λ (q : OutlineTable). length q.program.threads) c.self.view_is in
    let rows = rows_counted seen raw counted o.notes.items o.program.threads same in
    let from = c.from.ensures in
    let low = c.requires.0 in
    let high = c.requires.1 in
    let here : c.from.result - 1 < length o.notes.items = omega (arith, threads, rows, from, low, high) in
    let sized = rows_sized seen raw counted o.notes.items o.program.threads (c.from.result - 1) c.index.result.now [] here c.index.ensures same in
    let items = c.index.result.now in
    let counts : length (raw (seen items)) ≡ length items.items = length-map (seen items) (with_atoms raw_of) ∙ length-map items.items plain in
    ap length c.as_slice.ensures.value ∙ (sym counts ∙ (sized
    ∙ (ap (λ (n : ℕ). counted (get_or o.program.threads (n - 1) [])) from ∙ ap (λ (q : OutlineTable). points q.program t) c.self.view_is)))

pub returns-clause-speaks : goal.returns-clause-speaks
returns-clause-speaks c =
    let o = c.self.inside in
    let table : OutlineTable = record { program = o.program; pre = plain o.pre; crash = plain o.crash; notes = map (λ t. map plain t.items) o.notes.items } in
    let seen : Vec (Formula ViewAtom) Global → List (Plain ViewAtom) = λ v. map plain v.items in
    let counted : List Stmt → ℕ = λ ss. size (block ss) + 1 in
    let threads : length o.program.threads ≡ length c.args.self.now.program.threads = ap (λ (q : OutlineTable). length q.program.threads) c.self.view_is in
    let rows = rows_counted seen (map (with_atoms raw_of)) counted o.notes.items o.program.threads c.self.invariant.0.draft.points in
    let from = c.from.ensures in
    let low = c.requires.0 in
    let high = c.requires.1 in
    let i = c.from.result - 1 in
    let here : i < length o.notes.items = omega (arith, threads, rows, from, low, high) in
    let row : get_or (map seen o.notes.items) i [] ≡ map plain c.as_slice.result.now =
    get_or-map seen o.notes.items i c.index.result.now [] here ∙ ap seen (sym c.index.ensures) ∙ ap (map plain) (sym c.as_slice.ensures.value) in
    subst (λ (q : OutlineTable). All (IsOver q.program) (map plain c.as_slice.result.now)) c.self.view_is (subst (All (IsOver o.program)) row (notes_speak table c.self.invariant.0 i))
