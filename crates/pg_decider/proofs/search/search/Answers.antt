use Rattle.std.proofs.Common.{◌≡◌, ◌≤◌, ◌+◌, ◌-◌, ◌*◌, ◌++◌, ◌∷◌, ℕ, List, [], length, refl, sym, ◌∙◌, subst, ap, arith}
use Rattle.std.proofs.lemmas.List.{length_push}
use Rattle.pg_region.specs.Literal.{Literal, negated}
use Rattle.pg_region.specs.Pieces.{total}
use Rattle.pg_decider.specs.Assignment.{on, IsClosed}
use Rattle.pg_decider.specs.Progress.{Says}
use Rattle.pg_decider.specs.Search.{back_to, Searching, AreBranches}
use Rattle.pg_decider.specs.Trail.{TrailTable, added_to}
use Rattle.pg_decider.specs.Tree.{IsNode}
use Rattle.pg_decider.specs.Watch.{Grown}
use Rattle.pg_decider.specs.Held.{LogTable}
use Rattle.pg_decider.specs.declared.log.TreeNode.TheVariants.{Split, Leaf}
use Rattle.pg_decider.specs.declared.search.Branch.{Branch}
use Rattle.pg_decider.proofs.Searched.{searched-open, searched-back, branches-kept, branches-few, last-branch, looks-next, marks-open, marks-back, last-mark, node-before}
use Rattle.pg_decider.specs.declared.settle.Node.{Node}
use Rattle.pg_decider.specs.declared.settle.Node.TheVariants.{Met, Open, Shut}
use Rattle.pg_decider.proofs.Trees.{says-begin, says-open, says-shut, says-end, says-met, says-spent}
use Rattle.pg_decider.proofs.search.search.Goals as goal

pub nodes-init : goal.nodes-init
nodes-init c = (
  refl,
  refl,
  c.requires.searching,
  c.requires.room,
  omega (arith, ap length c.requires.log),
  c.requires.log_room,
  (λ w h. says-begin c.args.reader.now.clauses c.args.trail.now.literals c.args.branches.now.items (c.args.budget - c.args.budget) c.args.log.now.lines w c.requires.start (omega arith) c.requires.log h),
  omega arith,
  (refl, refl, refl),
  (refl, refl, refl),
)

pub settle-requires : goal.settle-requires
settle-requires c =
    let s = subst (λ (k : List (List Literal)). Searching k c.nodes.watches.slots.items c.nodes.watches.chains c.nodes.trail c.nodes.branches.items c.nodes.from) (sym c.nodes.invariant.0) c.nodes.invariant.2 in
    record { shape = s.shape; placed = s.placed; empty = s.empty; from = s.within; watching = s.watching }

pub nodes-preserved-in-Open : goal.nodes-preserved-in-Open
nodes-preserved-in-Open c =
    let rs = c.nodes.reader.clauses in
    let same : rs ≡ c.args.reader.now.clauses = c.nodes.invariant.0 in
    let inv = c.nodes.invariant.2 in
    let s = c.settle.ensures in
    let br = branches-kept rs c.nodes.watches.slots.items c.settle.new.watches.slots.items c.nodes.trail c.settle.new.trail c.nodes.branches.items
    (subst (λ (k : List (List Literal)). AreBranches k c.nodes.watches.slots.items c.nodes.trail c.nodes.branches.items) (sym same) inv.branches) s.grown s.keeps in
    let d = c.go_down-from.ensures in (
      s.reader.0 ∙ same,
      s.reader.1 ∙ c.nodes.invariant.1,
      rw (d.trail, d.branches, d.from)
          (subst (λ (k : List (List Literal)). Searching k c.settle.new.watches.slots.items c.settle.new.watches.chains (added_to c.settle.new.trail c.in-Open.literal 0) (c.nodes.branches.items ++ record { mark = length c.settle.new.trail.literals; literal = negated c.in-Open.literal } ∷ []) (length c.settle.new.trail.literals)) same
          (searched-open rs c.settle.new.watches.slots.items c.settle.new.watches.chains c.settle.new.trail c.nodes.branches.items c.in-Open.literal s.shape s.placed s.empty br c.in-Open.ensures.watched c.in-Open.ensures.unset)),
      omega (arith, c.nodes.invariant.3, d.room, ap (λ (t : TrailTable). t.atoms) d.trail, s.grown.atoms),
      omega (arith, c.nodes.invariant.4, ap (λ (y : LogTable). length y.lines) c.push.ensures, length_push c.nodes.log.lines (Split c.in-Open.literal)),
      omega (arith, c.nodes.invariant.5, ap (λ (y : LogTable). y.room) c.push.ensures),
      (λ w h. subst (λ (n : ℕ). Says c.args.reader.now.clauses c.go_down-from.new.trail.literals c.go_down-from.new.branches.items n c.push.new.self.lines w) (node-before c.args.budget c.nodes.left (omega arith) (omega (arith, c.nodes.invariant.4)))
          (rw (d.trail, d.branches, c.push.ensures)
          (says-open c.args.reader.now.clauses c.nodes.trail.literals c.settle.new.trail.literals c.nodes.branches.items (c.args.budget - c.nodes.left) c.nodes.log.lines w c.in-Open.literal
          (record { mark = length c.settle.new.trail.literals; literal = negated c.in-Open.literal }) (c.nodes.invariant.6 w h)
          (subst (λ (k : List (List Literal)). Grown k c.nodes.trail c.settle.new.trail) same s.grown).reached
          (subst (λ (k : List (List Literal)). (n : Node) → IsNode k (on c.nodes.trail.literals) n → n ≡ Open c.in-Open.literal) same c.in-Open.ensures.node) refl refl
          (marks-open c.args.reader.now.clauses c.nodes.watches.slots.items c.nodes.trail c.settle.new.trail c.nodes.branches.items c.in-Open.literal inv.branches (subst (λ (k : List (List Literal)). Grown k c.nodes.trail c.settle.new.trail) same s.grown))))),
      looks-next c.args.reader.now.clauses c.args.budget c.nodes.left c.args.reader.now.looks c.nodes.reader.looks c.settle.new.reader.looks c.nodes.invariant.7
          (subst (λ (k : List (List Literal)). c.settle.new.reader.looks ≤ c.nodes.reader.looks + (length k + total k)) same s.looks) (omega arith) (omega (arith, c.nodes.invariant.4)),
      (s.room.0 ∙ c.nodes.invariant.8.0, s.room.1 ∙ c.nodes.invariant.8.1, s.room.2 ∙ c.nodes.invariant.8.2),
      (d.room ∙ c.nodes.invariant.9.0, ap (λ (y : LogTable). y.room) c.push.ensures ∙ c.nodes.invariant.9.1, ap (λ (y : TrailTable). y.atoms) d.trail ∙ (s.grown.atoms ∙ c.nodes.invariant.9.2)),
    )

pub nodes-preserved : goal.nodes-preserved
nodes-preserved c =
    let rs = c.nodes.reader.clauses in
    let same : rs ≡ c.args.reader.now.clauses = c.nodes.invariant.0 in
    let inv = c.nodes.invariant.2 in
    let s = c.settle.ensures in
    let br = branches-kept rs c.nodes.watches.slots.items c.settle.new.watches.slots.items c.nodes.trail c.settle.new.trail c.nodes.branches.items
    (subst (λ (k : List (List Literal)). AreBranches k c.nodes.watches.slots.items c.nodes.trail c.nodes.branches.items) (sym same) inv.branches) s.grown s.keeps in
    let m = c.in-Some.ensures.moved in
    let b = m.0 in
    let ws = c.settle.new.watches.slots.items in
    let t = c.settle.new.trail in (
      s.reader.0 ∙ same,
      s.reader.1 ∙ c.nodes.invariant.1,
      rw (m.3, m.2)
          (subst (λ (k : List (List Literal)). Searching k ws c.settle.new.watches.chains (back_to t b.mark b.literal) c.go_back.new.branches.items b.mark) same
          (searched-back rs ws c.settle.new.watches.chains t c.go_back.new.branches.items b s.shape s.placed s.empty (subst (λ (l : List Branch). AreBranches rs ws t l) m.1 br))),
      omega (arith, c.nodes.invariant.3, c.go_back.ensures.room, ap (λ (y : TrailTable). y.atoms) m.3, s.grown.atoms),
      omega (arith, c.nodes.invariant.4, ap (λ (y : LogTable). length y.lines) c.push-in-Shut.ensures, length_push c.nodes.log.lines Leaf),
      omega (arith, c.nodes.invariant.5, ap (λ (y : LogTable). y.room) c.push-in-Shut.ensures),
      (λ w h. subst (λ (n : ℕ). Says c.args.reader.now.clauses c.go_back.new.trail.literals c.go_back.new.branches.items n c.push-in-Shut.new.self.lines w) (node-before c.args.budget c.nodes.left (omega arith) (omega (arith, c.nodes.invariant.4)))
          (rw (m.3, c.push-in-Shut.ensures)
          (says-shut c.args.reader.now.clauses c.nodes.trail.literals t.literals c.go_back.new.branches.items (c.args.budget - c.nodes.left) c.nodes.log.lines w b
          (subst (λ (l : List Branch). Says c.args.reader.now.clauses c.nodes.trail.literals l (c.args.budget - c.nodes.left) c.nodes.log.lines w) m.1 (c.nodes.invariant.6 w h))
          (subst (λ (k : List (List Literal)). (n : Node) → IsNode k (on c.nodes.trail.literals) n → n ≡ Shut) same c.in-Shut.ensures.node)
          (last-mark c.args.reader.now.clauses c.nodes.watches.slots.items c.nodes.trail t c.go_back.new.branches.items b (subst (λ (l : List Branch). AreBranches c.args.reader.now.clauses c.nodes.watches.slots.items c.nodes.trail l) m.1 inv.branches) (subst (λ (k : List (List Literal)). Grown k c.nodes.trail c.settle.new.trail) same s.grown))
          (marks-back c.args.reader.now.clauses c.nodes.watches.slots.items c.nodes.trail t c.go_back.new.branches.items b (subst (λ (l : List Branch). AreBranches c.args.reader.now.clauses c.nodes.watches.slots.items c.nodes.trail l) m.1 inv.branches) (subst (λ (k : List (List Literal)). Grown k c.nodes.trail c.settle.new.trail) same s.grown))))),
      looks-next c.args.reader.now.clauses c.args.budget c.nodes.left c.args.reader.now.looks c.nodes.reader.looks c.settle.new.reader.looks c.nodes.invariant.7
          (subst (λ (k : List (List Literal)). c.settle.new.reader.looks ≤ c.nodes.reader.looks + (length k + total k)) same s.looks) (omega arith) (omega (arith, c.nodes.invariant.4)),
      (s.room.0 ∙ c.nodes.invariant.8.0, s.room.1 ∙ c.nodes.invariant.8.1, s.room.2 ∙ c.nodes.invariant.8.2),
      (c.go_back.ensures.room ∙ c.nodes.invariant.9.0, ap (λ (y : LogTable). y.room) c.push-in-Shut.ensures ∙ c.nodes.invariant.9.1, ap (λ (y : TrailTable). y.atoms) m.3 ∙ (s.grown.atoms ∙ c.nodes.invariant.9.2)),
    )

pub go_down-from-requires : goal.go_down-from-requires
go_down-from-requires c =
    let g = c.settle.ensures.grown in
    record {
      unset = c.in-Open.ensures.unset;
      few = omega (arith, branches-few c.args.reader.now.clauses c.nodes.watches.slots.items c.nodes.trail c.nodes.branches.items c.nodes.invariant.2.branches, g.longer);
      room = omega (arith, c.nodes.invariant.3, g.atoms);
    }

pub go_back-requires : goal.go_back-requires
go_back-requires c =
    let rs = c.nodes.reader.clauses in
    let s = c.settle.ensures in
    let br = branches-kept rs c.nodes.watches.slots.items c.settle.new.watches.slots.items c.nodes.trail c.settle.new.trail c.nodes.branches.items
    (subst (λ (k : List (List Literal)). AreBranches k c.nodes.watches.slots.items c.nodes.trail c.nodes.branches.items) (sym c.nodes.invariant.0) c.nodes.invariant.2.branches) s.grown s.keeps in
    λ i e. last-branch rs c.settle.new.watches.slots.items c.settle.new.trail c.nodes.branches.items i br e

pub returns-in-Met : goal.returns-in-Met
returns-in-Met c =
    let same : c.nodes.reader.clauses ≡ c.args.reader.now.clauses = c.nodes.invariant.0 in
    let s = c.settle.ensures in
    let g = subst (λ (k : List (List Literal)). Grown k c.nodes.trail c.settle.new.trail) same s.grown in
    record {
      reader = (s.reader.0 ∙ same, s.reader.1 ∙ c.nodes.invariant.1);
      looks = looks-next c.args.reader.now.clauses c.args.budget c.nodes.left c.args.reader.now.looks c.nodes.reader.looks c.settle.new.reader.looks c.nodes.invariant.7
          (subst (λ (k : List (List Literal)). c.settle.new.reader.looks ≤ c.nodes.reader.looks + (length k + total k)) same s.looks) (omega arith) (omega (arith, c.nodes.invariant.4));
      room = (s.room.0 ∙ c.nodes.invariant.8.0, s.room.1 ∙ c.nodes.invariant.8.1, s.room.2 ∙ c.nodes.invariant.8.2);
      branch_room = (c.nodes.invariant.9.0, c.nodes.invariant.9.1, s.grown.atoms ∙ c.nodes.invariant.9.2);
      within = omega arith;
      says = λ w h.
          let a = says-met c.args.reader.now.clauses c.nodes.trail.literals c.settle.new.trail.literals c.nodes.branches.items (c.args.budget - c.nodes.left) c.nodes.log.lines w (c.nodes.invariant.6 w h)
          (subst (λ (k : List (List Literal)). (n : Node) → IsNode k (on c.nodes.trail.literals) n → n ≡ Met) same c.in-Met.ensures.node) g.reached
          (subst (λ (k : List (List Literal)). IsClosed k (on c.settle.new.trail.literals)) same c.in-Met.ensures.closed) in
          (a.0, a.1 ∙ (node-before c.args.budget c.nodes.left (omega arith) (omega (arith, c.nodes.invariant.4))), omega arith, a.2);
    }

pub returns-in-None : goal.returns-in-None
returns-in-None c =
    let same : c.nodes.reader.clauses ≡ c.args.reader.now.clauses = c.nodes.invariant.0 in
    let s = c.settle.ensures in
    record {
      reader = (s.reader.0 ∙ same, s.reader.1 ∙ c.nodes.invariant.1);
      looks = looks-next c.args.reader.now.clauses c.args.budget c.nodes.left c.args.reader.now.looks c.nodes.reader.looks c.settle.new.reader.looks c.nodes.invariant.7
          (subst (λ (k : List (List Literal)). c.settle.new.reader.looks ≤ c.nodes.reader.looks + (length k + total k)) same s.looks) (omega arith) (omega (arith, c.nodes.invariant.4));
      room = (s.room.0 ∙ c.nodes.invariant.8.0, s.room.1 ∙ c.nodes.invariant.8.1, s.room.2 ∙ c.nodes.invariant.8.2);
      branch_room = (c.go_back.ensures.room ∙ c.nodes.invariant.9.0, ap (λ (y : LogTable). y.room) c.push-in-Shut.ensures ∙ c.nodes.invariant.9.1, c.go_back.ensures.atoms ∙ (s.grown.atoms ∙ c.nodes.invariant.9.2));
      within = omega arith;
      says = λ w h.
          let a = says-end c.args.reader.now.clauses c.nodes.trail.literals (c.args.budget - c.nodes.left) c.nodes.log.lines w
          (subst (λ (l : List Branch). Says c.args.reader.now.clauses c.nodes.trail.literals l (c.args.budget - c.nodes.left) c.nodes.log.lines w) c.in-None.ensures.moved (c.nodes.invariant.6 w h))
          (subst (λ (k : List (List Literal)). (n : Node) → IsNode k (on c.nodes.trail.literals) n → n ≡ Shut) same c.in-Shut.ensures.node) in
          (a.0, a.1 ∙ (node-before c.args.budget c.nodes.left (omega arith) (omega (arith, c.nodes.invariant.4))), omega arith, a.2 ∙ sym (ap (λ (y : LogTable). y.lines) c.push-in-Shut.ensures));
    }

pub returns : goal.returns
returns c = record {
  reader = (c.nodes.invariant.0, c.nodes.invariant.1);
  looks = subst (λ (n : ℕ). c.nodes.reader.looks ≤ c.args.reader.now.looks + n * (length c.args.reader.now.clauses + total c.args.reader.now.clauses)) (omega arith) c.nodes.invariant.7;
  room = c.nodes.invariant.8;
  branch_room = c.nodes.invariant.9;
  within = omega arith;
  says = λ w h. let a = says-spent c.args.reader.now.clauses c.nodes.trail.literals c.nodes.branches.items (c.args.budget - c.nodes.left) c.nodes.log.lines w (c.nodes.invariant.6 w h) in omega (arith, a);
}
