use Rattle.std.proofs.Common.{◌+◌, ℕ, true, false, List, [], length, refl, sym, ◌∙◌, subst, ap, arith}
use Rattle.std.proofs.lemmas.Bool.{both_ways}
use Rattle.std.proofs.lemmas.List.{length-replicate}
use Rattle.pg_region.specs.Literal.{Literal}
use Rattle.pg_decider.specs.Assignment.{on, HasConflict}
use Rattle.pg_decider.specs.Chains.{ChainTable}
use Rattle.pg_decider.specs.Watch.{Attaching, Grown}
use Rattle.pg_decider.proofs.Visits.{grown-same, grown-trans}
use Rattle.pg_decider.proofs.Attached.{attaching-start, attaching-done}
use Rattle.pg_decider.proofs.watches.Watches.attach.Goals as goal

pub clauses-init : goal.clauses-init
clauses-init c = (
  refl,
  refl,
  omega arith,
  (c.truncate.ensures.capacity, ap (λ (t : ChainTable). length t.lists) c.clear.ensures ∙ length-replicate {A = List ℕ} (length c.args.self.now.chains.lists) [], ap (λ (t : ChainTable). t.slots) c.clear.ensures),
  omega (arith, c.requires.room, c.truncate.ensures.capacity),
  grown-same c.args.reader.now.clauses c.args.trail.now,
  rw (c.truncate.ensures.items, c.clear.ensures)
      (attaching-start c.args.reader.now.clauses _ c.args.trail.now (length c.args.self.now.chains.lists) c.requires.over c.requires.lists c.requires.slots c.requires.few refl),
)

pub attach_clause-requires : goal.attach_clause-requires
attach_clause-requires c =
    let same = c.clauses.invariant.0 in
    record {
      attaching = subst (λ (k : List (List Literal)). Attaching k c.clauses.self.slots.items c.clauses.self.chains c.clauses.trail c.clauses.trail c.clauses.k) (sym same) c.clauses.invariant.6;
      room = omega (arith, ap length same, c.clauses.invariant.4);
      k = omega (arith, ap length same);
    }

pub returns-then-not-attach_clause : goal.returns-then-not-attach_clause
returns-then-not-attach_clause c =
    let same = c.clauses.invariant.0 in
    let e = c.attach_clause.ensures in
    let t = c.attach_clause.new.trail in
    record {
      reader = (e.reader.0 ∙ same, e.reader.1 ∙ c.clauses.invariant.1);
      looks = omega (arith, e.looks, c.clauses.invariant.2);
      room = (e.room.0 ∙ c.clauses.invariant.3.0, e.room.1 ∙ c.clauses.invariant.3.1, e.room.2 ∙ c.clauses.invariant.3.2);
      grown = grown-trans c.args.reader.now.clauses c.args.trail.now c.clauses.trail t c.clauses.invariant.5 (subst (λ (k : List (List Literal)). Grown k c.clauses.trail t) same e.grown);
      shut = λ z. subst (λ (k : List (List Literal)). HasConflict k (on t.literals)) same (e.shut c.if-not-attach_clause.true);
      shape = λ z. absurd (both_ways false refl z);
      placed = λ z. absurd (both_ways false refl z);
      empty = λ z. absurd (both_ways false refl z);
      watching = λ z. absurd (both_ways false refl z);
    }

pub clauses-preserved : goal.clauses-preserved
clauses-preserved c =
    let e = c.attach_clause.ensures in (
      e.reader.0 ∙ c.clauses.invariant.0,
      e.reader.1 ∙ c.clauses.invariant.1,
      omega (arith, e.looks, c.clauses.invariant.2),
      (e.room.0 ∙ c.clauses.invariant.3.0, e.room.1 ∙ c.clauses.invariant.3.1, e.room.2 ∙ c.clauses.invariant.3.2),
      omega (arith, e.room, c.clauses.invariant.4),
      grown-trans c.args.reader.now.clauses c.args.trail.now c.clauses.trail c.attach_clause.new.trail c.clauses.invariant.5
          (subst (λ (k : List (List Literal)). Grown k c.clauses.trail c.attach_clause.new.trail) c.clauses.invariant.0 e.grown),
      subst (λ (k : List (List Literal)). Attaching k c.attach_clause.new.self.slots.items c.attach_clause.new.self.chains c.attach_clause.new.trail c.attach_clause.new.trail (c.clauses.k + 1)) c.clauses.invariant.0
          (e.attaching c.if-not-attach_clause.false),
    )

pub returns : goal.returns
returns c =
    let cs = c.args.reader.now.clauses in
    let ws = c.clauses.self.slots.items in
    let ct = c.clauses.self.chains in
    let t = c.clauses.trail in
    let i = c.clauses.invariant.6 in
    let done = attaching-done cs ws ct t t (subst (λ (n : ℕ). Attaching cs ws ct t t n) (omega arith) i) in
    record {
      reader = (c.clauses.invariant.0, c.clauses.invariant.1);
      looks = omega (arith, c.clauses.invariant.2);
      room = c.clauses.invariant.3;
      grown = c.clauses.invariant.5;
      shut = λ z. absurd (both_ways true z refl);
      shape = λ z. done.0;
      placed = λ z. i.placed;
      empty = λ z. i.empty;
      watching = λ z. done.1;
    }
