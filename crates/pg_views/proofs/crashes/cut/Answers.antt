use Rattle.std.proofs.Common.{◌≡◌, ◌+◌, ◌<◌, ℕ, max, drop, get_or, length, sym, ap, ◌∙◌, arith}
use Rattle.pg_machine.specs.State.{greatest_on}
use Rattle.pg_views.proofs.Found.{locations-count, lines-count}
use Rattle.pg_views.proofs.Lines.{greatest_on-here, greatest_on-elsewhere}
use Rattle.pg_views.proofs.crashes.cut.Goals.{then-line, else-line}
use Rattle.pg_views.proofs.crashes.cut.Goals as goal

pub loop-x-preserved : goal.loop-x-preserved
loop-x-preserved c =
    let s = c.args.s.now.state in
    let ks = s.memory.lines in
    let ps = c.args.at.now in
    let l = c.args.line in
    let x = c.loop-x.x in
    let lined = lines-count c.args.p.now s c.requires.formed in
    let locations = locations-count c.args.p.now s c.requires.formed in
    let each = c.requires.each in
    let count = c.locations-x-end.ensures.count in
    let names = ap (λ t. length t.locations) c.names.ensures.names in
    let less = c.loop-x-test.true in
    let inside : x < length ks = omega (arith, lined, locations, count, names, less) in
    let long : x < length ps = omega (arith, each, locations, count, names, less) in
    let here : max c.if-line.most (greatest_on (drop (x + 1) ks) (drop (x + 1) ps) l) ≡ max c.loop-x.most (greatest_on (drop x ks) (drop x ps) l) = elim c.if-line.branch [
      | then-line b ↦
          let most : c.if-line.most ≡ max c.loop-x.most (get_or ps x 0) = b.most-is ∙ (b.max-most.ensures ∙ ap (λ (i : ℕ). max c.loop-x.most (get_or ps i 0)) b.from.ensures) in
          ap (λ (n : ℕ). max n (greatest_on (drop (x + 1) ks) (drop (x + 1) ps) l)) most ∙ greatest_on-here ks ps l c.loop-x.most x inside long (sym c.line.ensures.line ∙ b.if-line.true)
      | else-line b ↦
          ap (λ (n : ℕ). max n (greatest_on (drop (x + 1) ks) (drop (x + 1) ps) l)) b.most-is ∙ greatest_on-elsewhere ks ps l c.loop-x.most x inside long (λ e. b.if-line.false (c.line.ensures.line ∙ e))
    ] in
    here ∙ c.loop-x.invariant
