use Rattle.std.proofs.Common.{◌≡◌, ◌≤◌, List, true, false, length, sym, ap, subst, ◌∙◌, arith}
use Rattle.pg_region.specs.Literal.{Literal, negated}
use Rattle.pg_region.specs.Region.{clause_at}
use Rattle.pg_decider.specs.Assignment.{on}
use Rattle.pg_decider.specs.Reached.{AreWithin}
use Rattle.pg_decider.specs.Split.{split_literal}
use Rattle.pg_decider.proofs.Trees.{node-open, node-shut, node-splits, node-met}
use Rattle.pg_decider.proofs.Splits.{split-picks}
use Rattle.pg_decider.proofs.Least.{closed-long}
use Rattle.pg_decider.proofs.settle.settle.Goals as goal

pub split-requires : goal.split-requires
split-requires c =
    let p = c.propagate.ensures in
    let ok = c.if-not-propagate.false in
    let t = c.propagate.new.trail in
    record {
      over = subst (λ (k : List (List Literal)). AreWithin t.atoms k) (sym p.reader.0) p.shape.over;
      long = rw p.reader.0 (closed-long c.args.reader.now.clauses (on t.literals) (p.closed ok) (p.calm ok));
    }

pub returns-then-not-propagate : goal.returns-then-not-propagate
returns-then-not-propagate c =
    let p = c.propagate.ensures in
    record {
      reader = p.reader;
      looks = omega (arith, p.looks);
      room = p.room;
      shape = p.shape;
      placed = p.placed;
      empty = p.empty;
      grown = p.grown;
      keeps = p.keeps;
      node = λ n h. node-shut c.args.reader.now.clauses (on c.args.trail.now.literals) (on c.propagate.new.trail.literals) n p.grown.reached (p.shut c.if-not-propagate.true) h;
      closed = tt;
      watched = tt;
      unset = tt;
    }

pub returns-in-Some : goal.returns-in-Some
returns-in-Some c =
    let cs = c.args.reader.now.clauses in
    let t = c.propagate.new.trail in
    let v = on t.literals in
    let p = c.propagate.ensures in
    let s = c.split.ensures in
    let ok = c.if-not-propagate.false in
    let is = sym c.in-Some.is ∙ s.exact in
    record {
      reader = (s.reader.0 ∙ p.reader.0, s.reader.1 ∙ p.reader.1);
      looks = omega (arith, p.looks, s.looks, ap length p.reader.0);
      room = p.room;
      shape = p.shape;
      placed = p.placed;
      empty = p.empty;
      grown = p.grown;
      keeps = p.keeps;
      node = λ n h. node-splits cs v c.in-Some.literal n (p.calm ok) (is ∙ ap (λ (k : List (List Literal)). split_literal v k) p.reader.0)
          (node-open cs (on c.args.trail.now.literals) v n p.grown.reached (p.closed ok) h);
      closed = tt;
      watched = p.watched ok;
      unset = split-picks v (λ l. (l.atom ≤ t.atoms) × (v l ≡ false) × (v (negated l) ≡ false)) c.propagate.new.reader.clauses c.in-Some.literal is
          (λ k m lt h a b. (p.shape.over k m (subst (λ (cs : List (List Literal)). on (clause_at cs k) m ≡ true) p.reader.0 h), a, b));
    }

pub returns-in-None : goal.returns-in-None
returns-in-None c =
    let cs = c.args.reader.now.clauses in
    let v = on c.propagate.new.trail.literals in
    let p = c.propagate.ensures in
    let s = c.split.ensures in
    let ok = c.if-not-propagate.false in
    record {
      reader = (s.reader.0 ∙ p.reader.0, s.reader.1 ∙ p.reader.1);
      looks = omega (arith, p.looks, s.looks, ap length p.reader.0);
      room = p.room;
      shape = p.shape;
      placed = p.placed;
      empty = p.empty;
      grown = p.grown;
      keeps = p.keeps;
      node = λ n h. node-met cs v n (p.calm ok) (sym c.in-None.is ∙ (s.exact ∙ ap (λ (k : List (List Literal)). split_literal v k) p.reader.0))
          (node-open cs (on c.args.trail.now.literals) v n p.grown.reached (p.closed ok) h);
      closed = p.closed ok;
      watched = tt;
      unset = tt;
    }
