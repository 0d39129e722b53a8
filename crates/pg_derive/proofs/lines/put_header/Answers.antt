use Rattle.std.proofs.Common.{◌≡◌, ◌++◌, List, ℕ, refl, ap, ◌∙◌}
use Rattle.std.proofs.lemmas.Result.{err_from_is_err_and}
use Rattle.pg_derivation.specs.Text.{header_text}
use Rattle.pg_derive.proofs.Pieces.{no-memory, puts-same}
use Rattle.pg_derive.proofs.lines.put_header.Goals as goal

pub returns-in_err-append_header-clause-line : goal.returns-in_err-append_header-clause-line
returns-in_err-append_header-clause-line g c =
    let p = err_from_is_err_and c.from_residual.result c.from_residual.ensures.1 in
    rw (p.1, p.2)
    (no-memory (λ (_ : Unit {0}) (text : List ℕ). text ≡ header_text) (λ (text : List ℕ). text ≡ header_text) (g.K.Sink.written c.args.out.now) (g.K.Sink.faults c.args.out.now) (g.K.Sink.faults c.args.out.now)
    header_text refl)

pub returns-clause-line : goal.returns-clause-line
returns-clause-line g c =
    puts-same c.put.result c.deref.result.now header_text (g.K.Sink.written c.args.out.now) (g.K.Sink.written c.put.new.out) (g.K.Sink.faults c.args.out.now) (g.K.Sink.faults c.put.new.out)
    (c.deref.ensures.value ∙ (c.in_ok-append_header.ensures ∙ ap (λ (l : List ℕ). l ++ header_text) c.clear.ensures.items)) c.put.ensures.line
