use Rattle.std.proofs.Common.{ℕ, ◌==◌, length, nat_le, get_or, List, sym, ap, ap₂, subst, ◌∙◌, arith}
use Rattle.pg_assertion.specs.Layout.{sizes, IsAtom}
use Rattle.pg_machine.specs.Memory.{Memory, last, last_value}
use Rattle.pg_machine.specs.State.{coh_of}
use Rattle.pg_machine.specs.Step.{views_of}
use Rattle.pg_views.specs.Atom.{atom_holds}
use Rattle.pg_views.proofs.Below.{shown-same}
use Rattle.pg_views.proofs.Found.{locations-count, has_views}
use Rattle.pg_views.proofs.atom.holds_atom.Goals as goal

-- ---- a scalar

pub bounds-scalars-from : goal.bounds-scalars-from
bounds-scalars-from c =
    let p = c.args.p.now in
    let low = (subst (IsAtom (sizes p.names (length p.threads))) c.in-Scalar.is c.requires.atom).0 in
    let size = c.requires.formed.scalars.0 in
    let same = ap length c.scalars.ensures in
    let place = c.from.ensures in
    omega (arith, low, size, same, place)

pub returns-in-Scalar : goal.returns-in-Scalar
returns-in-Scalar c =
    ap₂ (λ (l : List ℕ) (i : ℕ). get_or l i 0 == c.in-Scalar.k) c.scalars.ensures c.from.ensures ∙ sym (ap (atom_holds c.args.s.now.state) c.in-Scalar.is)

-- ---- the last value

pub last_value-requires : goal.last_value-requires
last_value-requires c =
    let p = c.args.p.now in
    let inside = (subst (IsAtom (sizes p.names (length p.threads))) c.in-Last.is c.requires.atom).0 in
    let count = locations-count p c.args.s.now.state c.requires.formed in
    let same = ap (λ (m : Memory). length m.initial) c.memory.ensures.memory in
    omega (arith, inside, count, same)

pub returns-in-Last : goal.returns-in-Last
returns-in-Last c =
    ap (λ (n : ℕ). n == c.in-Last.v) (c.last_value.ensures ∙ ap (λ (m : Memory). last_value m c.in-Last.x) c.memory.ensures.memory)
    ∙ sym (ap (atom_holds c.args.s.now.state) c.in-Last.is)

-- ---- what a thread may read

pub readable-requires : goal.readable-requires
readable-requires c =
    let p = c.args.p.now in
    let parts = subst (IsAtom (sizes p.names (length p.threads))) c.in-Read.is c.requires.atom in
    has_views p c.args.s.now.state c.in-Read.t c.in-Read.x c.requires.formed parts.0 parts.1

pub is_shown-requires : goal.is_shown-requires
is_shown-requires c =
    let p = c.args.p.now in
    let inside = (subst (IsAtom (sizes p.names (length p.threads))) c.in-Read.is c.requires.atom).1 in
    let count = locations-count p c.args.s.now.state c.requires.formed in
    let same = ap (λ (m : Memory). length m.initial) c.memory-in-Read.ensures.memory in
    let place = c.readable.ensures.location in
    omega (arith, inside, count, same, place)

pub returns-in-Read : goal.returns-in-Read
returns-in-Read c =
    let s = c.args.s.now.state in
    let w = views_of s c.in-Read.t in
    c.is_shown.ensures
    ∙ (shown-same c.memory-in-Read.result.now.memory s.memory c.in-Read.x (coh_of w c.in-Read.x) w.vrn c.readable.result.location c.readable.result.from c.readable.result.upto c.in-Read.v c.memory-in-Read.ensures.memory c.readable.ensures.location c.readable.ensures.from c.readable.ensures.upto
    ∙ sym (ap (atom_holds s) c.in-Read.is))

pub may_read_then-requires-clause-from : goal.may_read_then-requires-clause-from
may_read_then-requires-clause-from c =
    let p = c.args.p.now in
    let parts = subst (IsAtom (sizes p.names (length p.threads))) c.in-Then.is c.requires.atom in
    has_views p c.args.s.now.state c.in-Then.t c.in-Then.x c.requires.formed parts.0 parts.1

pub may_read_then-requires-clause-to : goal.may_read_then-requires-clause-to
may_read_then-requires-clause-to c =
    let p = c.args.p.now in
    let parts = subst (IsAtom (sizes p.names (length p.threads))) c.in-Then.is c.requires.atom in
    has_views p c.args.s.now.state c.in-Then.t c.in-Then.y c.requires.formed parts.0 parts.3

pub returns-in-Then : goal.returns-in-Then
returns-in-Then c = c.may_read_then.ensures ∙ sym (ap (atom_holds c.args.s.now.state) c.in-Then.is)

pub reads_newest-requires : goal.reads_newest-requires
reads_newest-requires c =
    let p = c.args.p.now in
    let parts = subst (IsAtom (sizes p.names (length p.threads))) c.in-Newest.is c.requires.atom in
    has_views p c.args.s.now.state c.in-Newest.t c.in-Newest.x c.requires.formed parts.0 parts.1

pub returns-in-Newest : goal.returns-in-Newest
returns-in-Newest c = c.reads_newest.ensures ∙ sym (ap (atom_holds c.args.s.now.state) c.in-Newest.is)

-- ---- what a crash may leave

pub may_persist-requires-clause-location : goal.may_persist-requires-clause-location
may_persist-requires-clause-location c =
    let p = c.args.p.now in
    let inside = (subst (IsAtom (sizes p.names (length p.threads))) c.in-Persist.is c.requires.atom).0 in
    let count = locations-count p c.args.s.now.state c.requires.formed in
    omega (arith, inside, count)

pub returns-in-Persist : goal.returns-in-Persist
returns-in-Persist c = c.may_persist.ensures ∙ sym (ap (atom_holds c.args.s.now.state) c.in-Persist.is)

pub may_persist_after_fence-requires-clause-has : goal.may_persist_after_fence-requires-clause-has
may_persist_after_fence-requires-clause-has c =
    let p = c.args.p.now in
    let parts = subst (IsAtom (sizes p.names (length p.threads))) c.in-Async.is c.requires.atom in
    has_views p c.args.s.now.state c.in-Async.t c.in-Async.x c.requires.formed parts.0 parts.1

pub returns-in-Async : goal.returns-in-Async
returns-in-Async c = c.may_persist_after_fence.ensures ∙ sym (ap (atom_holds c.args.s.now.state) c.in-Async.is)

-- ---- what is covered

pub covers_ordered-requires : goal.covers_ordered-requires
covers_ordered-requires c =
    let p = c.args.p.now in
    let parts = subst (IsAtom (sizes p.names (length p.threads))) c.in-Ordered.is c.requires.atom in
    has_views p c.args.s.now.state c.in-Ordered.t c.in-Ordered.x c.requires.formed parts.0 parts.1

pub returns-in-Ordered : goal.returns-in-Ordered
returns-in-Ordered c = c.covers_ordered.ensures ∙ sym (ap (atom_holds c.args.s.now.state) c.in-Ordered.is)

pub maxcoh-requires : goal.maxcoh-requires
maxcoh-requires c =
    let p = c.args.p.now in
    let thread = (subst (IsAtom (sizes p.names (length p.threads))) c.in-Fenced.is c.requires.atom).0 in
    let threads = c.requires.formed.threads in
    let last = thread.last in
    (thread.first, omega (arith, threads, last))

pub returns-in-Fenced : goal.returns-in-Fenced
returns-in-Fenced c =
    let s = c.args.s.now.state in
    ap₂ nat_le (c.last.ensures ∙ ap (λ (m : Memory). last m.messages c.in-Fenced.x) c.memory-in-Fenced.ensures.memory) c.maxcoh.ensures ∙ sym (ap (atom_holds s) c.in-Fenced.is)
