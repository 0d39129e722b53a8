-- Each goal says what the threads lead to, by what their turn met.
use Rattle.std.proofs.Common.{rules, ◌≢◌, ◌∙◌, ◌+◌, ◌-◌, ◌∷◌, [], List, ap, sym, Ok, Err, map, length}
use Rattle.std.proofs.lemmas.List.{map-append, length-map, length_push}
use Rattle.pg_lex.specs.Lex.{lexeme}
use Rattle.pg_lex.specs.declared.fault.TextFault.TheVariants.{NoMemory}
use Rattle.pg_program_text.specs.Thread.{Lines}
use Rattle.pg_program_text.specs.Text.{lines}
use Rattle.pg_outline_text.specs.Reading as spec
use Rattle.pg_outline_text.proofs.Turned.{threads_fail, threads_stop, threads_end, threads_go, threads_out}
use Rattle.pg_outline_text.proofs.thread.threads.Goals as goal

pub returns-in_err-text : goal.returns-in_err-text
returns-in_err-text c =
    let many = length-map c.threads.found.items lines ∙ c.threads.invariant.1 in
    let fails = λ (memory : c.in_err-text.field-0.0 ≢ NoMemory).
    threads_fail c.args.names.now c.turns-i-end.result c.threads.i (map lines c.threads.found.items) c.threads.tokens _ _ c.threads-test.true many c.threads.invariant.0 (c.in_err-text.ensures memory) in
    search rules

pub returns-in_err-token : goal.returns-in_err-token
returns-in_err-token c =
    let many = length-map c.threads.found.items lines ∙ c.threads.invariant.1 in
    let fails = threads_stop c.args.names.now c.turns-i-end.result c.threads.i (map lines c.threads.found.items) c.threads.tokens _ (lines c.in_ok-text.text) c.thread.new.tokens _ c.threads-test.true many c.threads.invariant.0
    c.in_ok-text.ensures c.in_err-token.ensures.token in
    search rules

pub returns-then-is_end : goal.returns-then-is_end
returns-then-is_end c =
    let many = length-map c.threads.found.items lines ∙ c.threads.invariant.1 in
    threads_end c.args.names.now c.turns-i-end.result c.threads.i (map lines c.threads.found.items) c.threads.tokens _ (lines c.in_ok-text.text) c.thread.new.tokens c.thread.new.tokens (lexeme c.in_ok-token.token) c.threads-test.true many
    c.threads.invariant.0 c.in_ok-text.ensures c.in_ok-token.ensures.token (sym c.is_end.ensures ∙ c.if-is_end.true)
    ∙ ap (λ (ls : List Lines). Ok (ls, c.thread.new.tokens)) (sym (ap (map lines) c.in_ok-push.ensures.items ∙ map-append lines c.threads.found.items (c.in_ok-text.text ∷ [])))

pub threads-preserved : goal.threads-preserved
threads-preserved c =
    let many = length-map c.threads.found.items lines ∙ c.threads.invariant.1 in (
      threads_go c.args.names.now c.turns-i-end.result c.threads.i (map lines c.threads.found.items) c.threads.tokens _ (lines c.in_ok-text.text) c.thread.new.tokens c.thread.new.tokens (lexeme c.in_ok-token.token) c.threads-test.true many
          c.threads.invariant.0 c.in_ok-text.ensures c.in_ok-token.ensures.token (sym c.is_end.ensures ∙ c.if-is_end.false)
          ∙ ap (λ ls. spec.threads_on c.args.names.now (c.turns-i-end.result - (c.threads.i + 1)) ls c.thread.new.tokens)
          (sym (ap (map lines) c.in_ok-push.ensures.items ∙ map-append lines c.threads.found.items (c.in_ok-text.text ∷ []))),
      ap length c.in_ok-push.ensures.items ∙ length_push c.threads.found.items c.in_ok-text.text ∙ ap (λ k. k + 1) c.threads.invariant.1,
    )

pub returns : goal.returns
returns c = λ memory. threads_out c.args.names.now c.turns-i-end.result c.threads.i (map lines c.threads.found.items) c.threads.tokens _ c.threads-test.false c.threads.invariant.0 ∙ ap Err (sym c.refused.ensures)
