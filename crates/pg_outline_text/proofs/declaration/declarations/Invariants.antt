use Rattle.std.proofs.Common.{◌≡◌, ◌-◌}
use Rattle.pg_outline_text.specs.Declaration as spec
use Rattle.pg_outline_text.specs.Limits.{declaration_turns}
use Rattle.pg_outline_text.proofs.declaration.declarations.Given as goal

-- the declarations that are left give what all of them give
abbrev pub invariant-declarations : goal.invariant-declarations
invariant-declarations l = spec.declarations l.fn.names l.fn.tokens ≡ spec.declarations_on (declaration_turns - l._i) l.names l.tokens
