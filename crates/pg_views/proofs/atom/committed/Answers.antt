use Rattle.std.proofs.Common.{◌≡◌, ◌+◌, max, map, drop, ap, ◌∙◌, arith}
use Rattle.pg_machine.specs.State.{greatest, vpc_of}
use Rattle.pg_views.proofs.Found.{committed-next}
use Rattle.pg_views.proofs.atom.committed.Goals as goal

pub loop-t-preserved : goal.loop-t-preserved
loop-t-preserved c =
    let s = c.args.s.now.state in
    let l = c.args.line in
    let threads = c.requires.formed.threads in
    let count = c.threads-t-end.ensures.count in
    let less = c.loop-t-test.true in
    let most : c.max-most.result ≡ max c.loop-t.most _ = c.max-most.ensures ∙ ap (max c.loop-t.most) c.vpc.ensures in
    ap (λ n. max n (greatest (drop (c.loop-t.t + 1) (map (λ w. vpc_of w l) s.views)))) most
    ∙ (committed-next s l c.loop-t.most c.loop-t.t (c.loop-t.t + 1) (omega (arith, threads, count, less)) (omega arith) ∙ c.loop-t.invariant)
