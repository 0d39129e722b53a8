use Rattle.std.proofs.Common.{◌≡◌, ◌<◌, ◌+◌, ◌-◌, ◌∙◌, ◌++◌, List, [], ◌∷◌, ℕ, length, map, take, ap, ap₂, sym, arith, slice_index_or, Vec, Global}
use Rattle.std.proofs.lemmas.List.{map-append, map_more}
use Rattle.pg_program.specs.declared.syntax.Stmt.{Stmt}
use Rattle.pg_program.specs.NameTable.{NameTable}
use Rattle.pg_outline.specs.Erasure.{erased_stmt, new_place}
use Rattle.pg_outline.proofs.erasure.erased_threads.Goals as goal

-- one thread more is erased
thread_more : (erase : List Stmt → List Stmt) (old new : List (Vec Stmt Global)) (v : Vec Stmt Global) (ts : List (List Stmt)) (t n : ℕ) (ss : List Stmt) → t < length ts → n ≡ t
    → map (λ w. w.items) old ≡ map erase (take t ts) → new ≡ old ++ v ∷ [] → v.items ≡ erase ss → ss ≡ slice_index_or ts n [] → map (λ w. w.items) new ≡ map erase (take (t + 1) ts)
thread_more erase old new v ts t n ss lt at so_far pushed is here =
    ap (map (λ (w : Vec Stmt Global). w.items)) pushed
    ∙ map-append (λ (w : Vec Stmt Global). w.items) old (v ∷ [])
    ∙ ap₂ (λ (a : List (List Stmt)) (b : List Stmt). a ++ b ∷ []) so_far (is ∙ ap erase (here ∙ ap (λ (k : ℕ). slice_index_or ts k []) at))
    ∙ sym (map_more erase ts t [] lt)

pub loop-t-preserved : goal.loop-t-preserved
loop-t-preserved c =
    let count = c.threads-t-end.ensures.count in
    let here = c.loop-t-test.true in
    let p = c.args.program.now in
    thread_more (map (erased_stmt (new_place p.names))) c.loop-t.threads.items c.push.new.self.items c.in_ok-erased_block.field-0 p.threads c.loop-t.t (c.loop-t.t + 1 - 1) c.thread.result.now (omega (arith, here, count)) (omega arith)
    c.loop-t.invariant c.in_ok-push.ensures.items (c.in_ok-erased_block.ensures ∙ ap (λ (names : NameTable). map (erased_stmt (new_place names)) c.thread.result.now) c.names.ensures.names) c.thread.ensures.stmts
