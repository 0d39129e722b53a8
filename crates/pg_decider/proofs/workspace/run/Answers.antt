use Rattle.std.proofs.Common.{◌≡◌, List, [], sym, subst, ap, ◌∙◌, arith, ◌++◌, ◌∷◌}
use Rattle.pg_region.specs.Literal.{Literal}
use Rattle.pg_decider.specs.Assignment.{on}
use Rattle.pg_decider.specs.Reached.{Reached}
use Rattle.pg_decider.specs.Trail.{TrailTable}
use Rattle.pg_decider.specs.Tree.{IsTree}
use Rattle.pg_decider.proofs.Trees.{says-end, says-start, node-shut, tree-alike, reached-alike}
use Rattle.pg_decider.proofs.Searched.{searched-start}
use Rattle.pg_decider.specs.Held.{LogTable}
use Rattle.pg_decider.specs.declared.log.TreeNode.TheVariants.{Leaf}
use Rattle.pg_decider.proofs.workspace.run.Goals as goal

pub search-requires-clause-searching : goal.search-requires-clause-searching
search-requires-clause-searching c =
    let a = c.attach.ensures in
    let ok = c.if-not-attach.false in
    searched-start c.args.reader.now.clauses _ _ _ c.undo.new.self _ _ a.reader.0 c.truncate.ensures.items (ap (λ (t : TrailTable). t.literals) c.undo.ensures)
    (a.shape ok) (a.placed ok) (a.empty ok) a.grown (rw c.undo.ensures c.requires.over) (a.watching ok)

pub returns-then-not-attach-clause-says : goal.returns-then-not-attach-clause-says
returns-then-not-attach-clause-says c =
    let cs = c.args.reader.now.clauses in
    let empty : c.undo.new.self.literals ≡ [] = ap (λ (t : TrailTable). t.literals) c.undo.ensures in
    λ w h.
    let a = says-end cs [] 0 [] w (says-start cs [] w h)
    (λ n i. node-shut cs (on []) (on c.attach.new.trail.literals) n (subst (λ (l : List Literal). Reached cs (on l) (on c.attach.new.trail.literals)) empty c.attach.ensures.grown.reached) (c.attach.ensures.shut c.if-not-attach.true) i) in
    (a.0, a.1 ∙ omega arith, c.requires.budget, a.2 ∙ sym (ap (λ (y : LogTable). y.lines) c.push.ensures ∙ ap (λ (y : LogTable). y.lines ++ Leaf ∷ []) c.clear.ensures))

pub returns-clause-says : goal.returns-clause-says
returns-clause-says c =
    let cs = c.args.reader.now.clauses in
    let empty : c.undo.new.self.literals ≡ [] = ap (λ (t : TrailTable). t.literals) c.undo.ensures in
    λ w h. c.search.ensures.says w
    (subst (λ (k : List (List Literal)). IsTree k (on c.attach.new.trail.literals) w) (sym c.attach.ensures.reader.0)
    (tree-alike cs (on []) (on c.attach.new.trail.literals) w (reached-alike cs (on []) (on c.attach.new.trail.literals) (subst (λ (l : List Literal). Reached cs (on l) (on c.attach.new.trail.literals)) empty c.attach.ensures.grown.reached)) h))
