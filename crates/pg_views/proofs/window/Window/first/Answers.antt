use Rattle.std.proofs.Common.{◌≡◌, suc, length, sym, ap, ◌∙◌, inl, inr, arith}
use Rattle.std.proofs.lemmas.Bool.{cases_lt}
use Rattle.pg_views.specs.Atom.{shows}
use Rattle.pg_views.proofs.Below.{some_below-none}
use Rattle.pg_views.proofs.window.Window.first.Goals as goal

pub loop-position-preserved : goal.loop-position-preserved
loop-position-preserved c = λ q lt. elim (cases_lt q c.loop-position.position) [
  | inl less ↦ c.loop-position.invariant q less
  | inr le ↦
      let e : q ≡ c.loop-position.position = omega (arith, lt, le) in
      ap (shows c.args.memory.now.memory c.args.self.location c.args.self.from c.args.self.upto c.args.value) e ∙ (sym c.shows.ensures ∙ c.if-shows.false)
]

pub returns : goal.returns
returns c =
    let end = c.len-position-end.ensures.count in
    let all = c.loop-position-test.false in
    some_below-none (shows c.args.memory.now.memory c.args.self.location c.args.self.from c.args.self.upto c.args.value) (suc (length c.args.memory.now.memory.messages))
    (λ q lt. c.loop-position.invariant q (omega (arith, end, all, lt)))
