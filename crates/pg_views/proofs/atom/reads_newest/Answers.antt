use Rattle.std.proofs.Common.{◌≡◌, ℕ, suc, not, ◌||◌, ◌==◌, true, length, sym, ap, ◌∙◌, inl, inr, arith}
use Rattle.std.proofs.lemmas.Bool.{cases_lt}
use Rattle.pg_machine.specs.Memory.{Memory, last}
use Rattle.pg_machine.specs.Moves.{can_read}
use Rattle.pg_machine.specs.Step.{seen_by}
use Rattle.pg_machine.proofs.EveryBelow.{every_below-all, every_below-fails}
use Rattle.pg_views.proofs.Below.{read-same, newest-unread, newest-last, newest-other}
use Rattle.pg_views.proofs.atom.reads_newest.Goals.{else-position-last-via-then-position-last+else-reaches, else-position-last-via-else-position-last}
use Rattle.pg_views.proofs.atom.reads_newest.Goals as goal

pub returns-then-reaches : goal.returns-then-reaches
returns-then-reaches c =
    let n = seen_by c.args.s.now.state c.args.t in
    let x = c.args.x in
    let w = c.readable-window in
    let q = c.loop-position.position in
    let end = c.messages-position-end.ensures.count in
    let inside = c.loop-position-test.true in
    let same = read-same n x q c.memory-then-position-last.result.now.memory w.result.location w.result.from w.result.upto c.memory-then-position-last.ensures.memory w.ensures.location w.ensures.from w.ensures.upto in
    let last-is : c.last-last.result ≡ last n.memory.messages x = c.last-last.ensures ∙ ap (λ (m : Memory). last m.messages x) c.memory.ensures.memory in
    sym (every_below-fails (λ p. not (can_read n x p) || (p == last n.memory.messages x)) (suc (length n.memory.messages)) q (omega (arith, end, inside))
    (newest-other n x q (sym same ∙ (sym c.reaches.ensures ∙ c.if-reaches.true)) (λ e. c.if-position-last.true (e ∙ sym last-is))))

pub loop-position-preserved : goal.loop-position-preserved
loop-position-preserved c =
    let n = seen_by c.args.s.now.state c.args.t in
    let x = c.args.x in
    let w = c.readable-window in
    let last-is : c.last-last.result ≡ last n.memory.messages x = c.last-last.ensures ∙ ap (λ (m : Memory). last m.messages x) c.memory.ensures.memory in
    let here : (not (can_read n x c.loop-position.position) || (c.loop-position.position == last n.memory.messages x)) ≡ true = elim c.else-position-last.branch [
      | else-position-last-via-then-position-last+else-reaches b ↦
          let same = read-same n x c.loop-position.position b.memory-then-position-last.result.now.memory w.result.location w.result.from w.result.upto b.memory-then-position-last.ensures.memory w.ensures.location w.ensures.from w.ensures.upto in
          newest-unread n x c.loop-position.position (sym same ∙ (sym b.reaches.ensures ∙ b.if-reaches.false))
      | else-position-last-via-else-position-last b ↦ newest-last n x c.loop-position.position (b.if-position-last.false ∙ last-is)
    ] in
    λ q lt. elim (cases_lt q c.loop-position.position) [
      | inl less ↦ c.loop-position.invariant q less
      | inr le ↦
          let e : q ≡ c.loop-position.position = omega (arith, lt, le) in
          ap (λ (p : ℕ). not (can_read n x p) || (p == last n.memory.messages x)) e ∙ here
    ]

pub returns : goal.returns
returns c =
    let n = seen_by c.args.s.now.state c.args.t in
    let x = c.args.x in
    let end = c.messages-position-end.ensures.count in
    let all = c.loop-position-test.false in
    sym (every_below-all (λ p. not (can_read n x p) || (p == last n.memory.messages x)) (suc (length n.memory.messages)) (λ q lt. c.loop-position.invariant q (omega (arith, end, all, lt))))
