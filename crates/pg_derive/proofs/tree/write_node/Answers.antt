use Rattle.std.proofs.Common.{◌-◌, ◌++◌, List, ℕ, sym, ap, ◌∙◌}
use Rattle.std.proofs.lemmas.Result.{on_ok_weaker}
use Rattle.pg_region.specs.Range.{listed}
use Rattle.pg_derivation.specs.Text.{split_text, leaf_text}
use Rattle.pg_derive.proofs.TreeLines.{split-line, leaf-line}
use Rattle.pg_derive.proofs.tree.write_node.Goals as goal

pub returns-in-Split-clause-line : goal.returns-in-Split-clause-line
returns-in-Split-clause-line c =
    on_ok_weaker c.append_split.result
    (λ e. split-line (listed c.args.region.now.clauses c.args.loaded.range) c.args.log.now.lines (c.args.i - 1) c.in-Split.literal c.append_split.new.line.items
    (sym c.in-Split.is ∙ c.node.ensures) (e ∙ ap (λ (l : List ℕ). l ++ split_text c.in-Split.literal) c.clear.ensures.items))
    c.append_split.ensures

pub returns-in-Leaf-clause-line : goal.returns-in-Leaf-clause-line
returns-in-Leaf-clause-line c =
    on_ok_weaker c.append_leaf.result
    (λ e. leaf-line (listed c.args.region.now.clauses c.args.loaded.range) c.args.log.now.lines (c.args.i - 1) c.leaf.result.now c.append_leaf.new.line.items
    (sym c.in-Leaf.is ∙ c.node.ensures) c.leaf.ensures.leaf (e ∙ ap (λ (l : List ℕ). l ++ leaf_text c.leaf.result.now) c.clear.ensures.items))
    c.append_leaf.ensures
