use Rattle.std.proofs.Common.{◌≡◌, ◌++◌, ap, ap₂, ◌∙◌}
use Rattle.std.specs.Prelude.{codes}
use Rattle.pg_assertion_text.specs.Spelling.{spell_atom, spell_crash}
use Rattle.pg_outline_text.specs.Spelling.{head_lines, given_line}
use Rattle.pg_outline_text.proofs.SpellingParts.{formula_names, outline_spelled, on_ok}
use Rattle.pg_outline_text.proofs.print.put_outline.Goals as goal

pub put_pre-requires : goal.put_pre-requires
put_pre-requires c =
    rw (c.names-names.ensures.names, c.program.ensures.program, c.pre.ensures.formula)
    (formula_names c.args.o.now.program.names c.args.o.now.pre c.program.ensures.made.draft.pre.atoms)

pub returns-clause-text : goal.returns-clause-text
returns-clause-text c =
    let start = c.args.into.now.items in
    let names_is : c.names-names.result.now ≡ c.args.o.now.program.names = c.names-names.ensures.names ∙ ap (λ p. p.names) c.program.ensures.program in
    let head = c.in_ok-put_head.ensures ∙ ap (λ n. start ++ head_lines n) names_is in
    let pre = c.in_ok-put_pre.ensures ∙ ap₂ (λ n f. c.put_head.new.into.items ++ given_line (codes "pre ") (spell_atom n) f) names_is c.pre.ensures.formula in
    let crash = c.in_ok-put_crash.ensures ∙ ap₂ (λ n f. c.put_pre.new.into.items ++ given_line (codes "crash ") (spell_crash n) f) names_is c.crash.ensures.formula in
    on_ok c.put_threads.result
    (outline_spelled c.args.o.now start c.put_head.new.into.items c.put_pre.new.into.items c.put_crash.new.into.items c.put_threads.new.into.items head pre crash)
    c.put_threads.ensures
