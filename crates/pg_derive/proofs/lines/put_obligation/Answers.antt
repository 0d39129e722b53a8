use Rattle.std.proofs.Common.{◌≡◌, ◌++◌, List, ℕ, refl, ap, ◌∙◌}
use Rattle.std.proofs.lemmas.Result.{err_from_is_err_and}
use Rattle.pg_derivation.specs.Text.{obligation_text}
use Rattle.pg_derive.proofs.Pieces.{no-memory, puts-same}
use Rattle.pg_derive.proofs.lines.put_obligation.Goals as goal

pub returns-in_err-append_obligation-clause-line : goal.returns-in_err-append_obligation-clause-line
returns-in_err-append_obligation-clause-line g c =
    let p = err_from_is_err_and c.from_residual.result c.from_residual.ensures.1 in
    rw (p.1, p.2)
    (no-memory (λ (_ : Unit {0}) (text : List ℕ). text ≡ (obligation_text c.args.i)) (λ (text : List ℕ). text ≡ (obligation_text c.args.i)) (g.K.Sink.written c.args.out.now) (g.K.Sink.faults c.args.out.now) (g.K.Sink.faults c.args.out.now)
    (obligation_text c.args.i) refl)

pub returns-clause-line : goal.returns-clause-line
returns-clause-line g c =
    puts-same c.put.result c.deref.result.now (obligation_text c.args.i) (g.K.Sink.written c.args.out.now) (g.K.Sink.written c.put.new.out) (g.K.Sink.faults c.args.out.now) (g.K.Sink.faults c.put.new.out)
    (c.deref.ensures.value ∙ (c.in_ok-append_obligation.ensures ∙ ap (λ (l : List ℕ). l ++ (obligation_text c.args.i)) c.clear.ensures.items)) c.put.ensures.line
