-- Each goal says what the declarations lead to, by what their turn met.
use Rattle.std.proofs.Common.{rules, ◌≢◌, ◌∙◌, ap, sym, Ok, Err}
use Rattle.pg_lex.specs.declared.fault.TextFault.TheVariants.{NoMemory}
use Rattle.pg_program.specs.NameTable.{NameTable}
use Rattle.pg_outline_text.specs.Limits.{declaration_turns}
use Rattle.pg_outline_text.specs.Declaration as spec
use Rattle.pg_outline_text.proofs.Turned.{one_read, none_read, declarations_fail, declarations_end, declarations_go, declarations_out}
use Rattle.pg_outline_text.proofs.declaration.declarations.Goals as goal

pub returns-in_err-declaration : goal.returns-in_err-declaration
returns-in_err-declaration c =
    let fails = λ (memory : c.in_err-declaration.field-0.0 ≢ NoMemory).
    declarations_fail declaration_turns c.declarations._i c.declarations.names c.declarations.tokens _ _ c.declarations-test.true c.declarations.invariant (c.in_err-declaration.ensures memory) in
    search rules

pub returns-then-not-branch : goal.returns-then-not-branch
returns-then-not-branch c =
    let none = none_read (spec.declaration c.declarations.names c.declarations.tokens) c.declarations.names c.declaration.new.names c.declaration.new.tokens _ c.if-not-branch.true c.in_ok-declaration.ensures in
    declarations_end declaration_turns c.declarations._i c.declarations.names c.declarations.tokens _ _ c.declarations-test.true c.declarations.invariant none.0
    ∙ ap (λ (names : NameTable). Ok (names, c.declaration.new.tokens)) (sym none.1)

pub declarations-preserved : goal.declarations-preserved
declarations-preserved c =
    declarations_go declaration_turns c.declarations._i c.declarations.names c.declarations.tokens _ _ _ c.declarations-test.true c.declarations.invariant
    (one_read (spec.declaration c.declarations.names c.declarations.tokens) c.declarations.names c.declaration.new.names c.declaration.new.tokens _ c.if-not-branch.false c.in_ok-declaration.ensures)

pub returns : goal.returns
returns c = λ memory. declarations_out declaration_turns c.declarations._i c.declarations.names c.declarations.tokens _ c.declarations-test.false c.declarations.invariant ∙ ap Err (sym c.refused.ensures)
