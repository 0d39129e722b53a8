use Rattle.std.proofs.Common.{◌≡◌, ◌++◌, OnOk, sym, subst, arith}
use Rattle.pg_program_text.proofs.Spelling.{else_some}
use Rattle.pg_program_text.proofs.print.else_line.Goals as goal

pub returns-in-len1-up : goal.returns-in-len1-up
returns-in-len1-up c =
    subst (λ t. OnOk c.line.result (c.line.new.into.items ≡ c.args.into.now.items ++ t)) (sym (else_some c.args.depth c.args.no.now (omega (arith, c.in-len1-up.len_at_least)))) c.line.ensures
