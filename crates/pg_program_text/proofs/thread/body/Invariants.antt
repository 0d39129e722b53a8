use Rattle.pg_program_text.specs.Limits.{text_limits}
use Rattle.std.proofs.Common.{◌≡◌, ◌-◌}
use Rattle.pg_program_text.specs.Thread as spec
use Rattle.pg_program_text.specs.Text.{lines}
use Rattle.pg_program_text.proofs.thread.body.Given as goal

-- what is left of the body gives what the whole body gives
abbrev pub invariant-lines : goal.invariant-lines
invariant-lines l = spec.body text_limits l.names l.fn.tokens ≡ spec.body_on text_limits l.names (l._i-end - l._i) (lines l.text) l.tokens
