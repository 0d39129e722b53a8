use Rattle.std.proofs.Common.{arith}
use Rattle.pg_outline.proofs.LocationLines.{first_begins, other_begins, stands_with}
use Rattle.pg_outline.proofs.erasure.location_kind.Goals as goal
use Rattle.pg_outline.proofs.erasure.location_kind.Goals.{else-x-gt0-via-then-x-gt0+else-line, else-x-gt0-via-else-x-gt0}

pub returns-then-line : goal.returns-then-line
returns-then-line c =
    let some = c.if-x-gt0.true in
    stands_with c.args.names.now c.requires.names c.args.x c.requires.place c.init-init.result c.line.result c.line-then-x-gt0.result c.init-init.ensures (omega (arith, some))
    c.line.ensures.line c.line-then-x-gt0.ensures.line c.if-line.true

pub returns-else-x-gt0 : goal.returns-else-x-gt0
returns-else-x-gt0 c = elim c.else-x-gt0.branch [
  | else-x-gt0-via-then-x-gt0+else-line w ↦
      let some = w.if-x-gt0.true in
      other_begins c.args.names.now c.requires.names c.args.x c.requires.place c.init-init.result w.line.result w.line-then-x-gt0.result c.init-init.ensures (omega (arith, some))
      w.line.ensures.line w.line-then-x-gt0.ensures.line w.if-line.false
  | else-x-gt0-via-else-x-gt0 w ↦
      let none = w.if-x-gt0.false in
      first_begins c.args.names.now c.requires.names c.args.x c.requires.place c.init-init.result c.init-init.ensures (omega (arith, none))
]
