use Rattle.std.proofs.Common.{◌≡◌, ◌∙◌, Some, ap, sym, subst}
use Rattle.std.specs.Prelude.{IfSome}
use Rattle.pg_program.specs.Fault as program
use Rattle.pg_outline_text.specs.Fault.{fault_in}
use Rattle.pg_outline_text.specs.Parts.{as_source}
use Rattle.pg_outline_text.proofs.Made.{stmts_of, notes_of, build_threads, parts_of, is_draft, is_made, program_told, outline_tells}
use Rattle.pg_outline_text.proofs.parse.made.Goals as goal

pub build-requires : goal.build-requires
build-requires c = build_threads (as_source c.args.source) _ c.requires (c.in_ok-stmts.ensures.stmts ∙ stmts_of c.args.source.threads.items)

pub build-requires-2 : goal.build-requires-2
build-requires-2 c =
    let same = c.in_ok-stmts.ensures.stmts ∙ stmts_of c.args.source.threads.items in
    let is = parts_of (as_source c.args.source) _ _ (c.in-Ok.ensures.0 ∙ ap (λ ts. record { names = c.args.source.names; threads = ts }) same) (c.in_ok-stmts.ensures.notes ∙ notes_of c.args.source.threads.items) in
    is_draft (as_source c.args.source) _ c.requires is (ap (program.first_fault c.args.source.names) (sym same) ∙ c.in-Ok.ensures.1)

pub returns-in-Err-clause-outline : goal.returns-in-Err-clause-outline
returns-in-Err-clause-outline c =
    let same = c.in_ok-stmts.ensures.stmts ∙ stmts_of c.args.source.threads.items in
    let told_is = program_told (as_source c.args.source) (program.plain_fault c.in-Err.fault)
    (subst (λ ts. IfSome (program.plain_fault c.in-Err.fault) (λ f. program.first_fault c.args.source.names ts ≡ Some f)) same c.in-Err.ensures) in
    subst (λ o. IfSome o (λ f. fault_in (as_source c.args.source) ≡ Some f)) (sym c.of_program.ensures.plain) told_is

pub returns-in-Ok-build-clause-outline : goal.returns-in-Ok-build-clause-outline
returns-in-Ok-build-clause-outline c =
    let same = c.in_ok-stmts.ensures.stmts ∙ stmts_of c.args.source.threads.items in
    let is = parts_of (as_source c.args.source) _ _ (c.in-Ok.ensures.0 ∙ ap (λ ts. record { names = c.args.source.names; threads = ts }) same) (c.in_ok-stmts.ensures.notes ∙ notes_of c.args.source.threads.items) in
    is_made (as_source c.args.source) c.in-Ok-build.outline _ is c.in-Ok-build.ensures.0 (ap (program.first_fault c.args.source.names) (sym same) ∙ c.in-Ok.ensures.1) c.in-Ok-build.ensures.1

pub returns-in-Err-build-clause-outline : goal.returns-in-Err-build-clause-outline
returns-in-Err-build-clause-outline c =
    let same = c.in_ok-stmts.ensures.stmts ∙ stmts_of c.args.source.threads.items in
    let is = parts_of (as_source c.args.source) _ _ (c.in-Ok.ensures.0 ∙ ap (λ ts. record { names = c.args.source.names; threads = ts }) same) (c.in_ok-stmts.ensures.notes ∙ notes_of c.args.source.threads.items) in
    let tells = outline_tells (as_source c.args.source) _ c.in-Err-build.fault is (ap (program.first_fault c.args.source.names) (sym same) ∙ c.in-Ok.ensures.1) c.in-Err-build.ensures in
    subst (λ o. IfSome o (λ f. fault_in (as_source c.args.source) ≡ Some f)) (sym c.of_outline.ensures.plain) tells
