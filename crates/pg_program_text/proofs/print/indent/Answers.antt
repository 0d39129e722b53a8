use Rattle.std.proofs.Common.{◌++◌, ◌+◌, ◌-◌, ◌∙◌, List, ℕ, ap, sym, append_assoc}
use Rattle.std.specs.Prelude.{codes}
use Rattle.pg_program_text.specs.Spelling.{indent}
use Rattle.pg_program_text.proofs.Spelling.{indent_turn}
use Rattle.pg_program_text.proofs.print.indent.Goals as goal

pub loop-brace-preserved : goal.loop-brace-preserved
loop-brace-preserved c =
    let depth = c.args.depth in
    let i = c.loop-brace._brace in
    let left = indent (depth - (i + 1)) in
    ap (λ (t : List ℕ). t ++ left) c.in_ok-extend_from_slice.ensures.items
    ∙ append_assoc c.loop-brace.into.items (codes "  ") left
    ∙ ap (λ (t : List ℕ). c.loop-brace.into.items ++ t) (sym (indent_turn depth i c.loop-brace-test.true))
    ∙ c.loop-brace.invariant
