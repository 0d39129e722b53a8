use Rattle.std.proofs.Common.{map, arith}
use Rattle.std.specs.List.{flat_map}
use Rattle.pg_obligations.specs.declared.obligation.Obligation.TheVariants.{Fresh, Entry, EntryCrash}
use Rattle.pg_obligations.specs.Obligations.{threads_of, of_thread}
use Rattle.pg_obligations.proofs.Places.{among_first, between, among_rest}
use Rattle.pg_obligations.proofs.place.obligation_at.Goals as goal

pub returns-in-Here : goal.returns-in-Here
returns-in-Here c =
    let p = c.args.p.now in
    among_first Fresh (map (λ t. Entry t) (threads_of p)) EntryCrash (flat_map (of_thread p) (threads_of p)) c.args.i c.in-Here.obligation (omega arith) c.in-Here.ensures

pub returns-then-left-eq0 : goal.returns-then-left-eq0
returns-then-left-eq0 c =
    let p = c.args.p.now in
    between Fresh (map (λ t. Entry t) (threads_of p)) EntryCrash (flat_map (of_thread p) (threads_of p)) c.args.i c.in-Beyond.left (omega arith) c.in-Beyond.ensures (omega arith)

pub returns : goal.returns
returns c =
    let p = c.args.p.now in
    among_rest Fresh (map (λ t. Entry t) (threads_of p)) EntryCrash (flat_map (of_thread p) (threads_of p)) c.args.i c.in-Beyond.left c.in-Here-in_threads.obligation
    (omega arith) c.in-Beyond.ensures c.if-left-eq0.false c.in-Here-in_threads.ensures
