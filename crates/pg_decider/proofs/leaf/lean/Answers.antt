use Rattle.std.proofs.Common.{◌≡◌, ◌<◌, ◌+◌, ◌-◌, ◌∷◌, ℕ, true, false, List, length, drop, sym, ap, subst, ◌∙◌, arith}
use Rattle.std.proofs.lemmas.List.{length-set, take_all}
use Rattle.pg_region.specs.Literal.{Literal}
use Rattle.pg_region.specs.Region.{clause_at}
use Rattle.pg_decider.specs.Assignment.{on, AreFalse}
use Rattle.pg_decider.specs.Lean.{AreMarks, Leaning}
use Rattle.pg_decider.specs.Trail.{lit, none}
use Rattle.pg_decider.proofs.Visits.{on-at}
use Rattle.pg_decider.proofs.Leaning.{leaning-start, leaning-skip, leaning-keep, drop-last, drop-next, marks-start, marks-next, marked}
use Rattle.pg_region.specs.Reading.{Reading}
use Rattle.pg_decider.proofs.leaf.lean.Goals as goal

pub literals-init : goal.literals-init
literals-init c =
    let cs = c.args.reader.now.clauses in
    let t = c.args.trail.now.literals in
    let n = length c.args.list.now - 1 in
    let few = c.len-j.ensures.trail.few in
    let e = drop-last c.args.list.now n c.args.conflict (omega arith) in (
      omega arith,
      omega arith,
      omega arith,
      omega (arith, length-set c.args.list.now n c.args.conflict),
      omega arith,
      subst (λ (xs : List ℕ). AreMarks cs c.mark.new.marks xs) (sym e)
          (marks-start cs c.clear.new.marks c.mark.new.marks c.args.conflict c.clause.result.now c.clause.ensures.clause c.clear.ensures (omega arith) c.mark.ensures),
      subst (λ (xs : List ℕ). Leaning cs t c.len-j.result xs) (sym e)
          (leaning-start cs t c.len-j.result c.args.conflict (omega (arith, c.len-j.ensures.length)) c.requires.number.0 c.requires.number.1
          (subst (λ (ls : List Literal). AreFalse (on ls) (clause_at cs (c.args.conflict - 1))) (sym (take_all c.len-j.result t (omega (arith, c.len-j.ensures.length)))) c.requires.shut)),
      ap (λ (r : Reading). r.clauses) c.clause.ensures.looks,
    )

pub literals-preserved-then-marks-place_of : goal.literals-preserved-then-marks-place_of
literals-preserved-then-marks-place_of c =
    let cs = c.args.reader.now.clauses in
    let t = c.args.trail.now in
    let j = c.literals.j - 1 in
    let ns = drop c.literals.from c.literals.list in
    let back : j + 1 ≡ c.literals.j = omega arith in
    let lt : j < length t.literals = omega (arith, c.literals.invariant.1) in
    let e = drop-next c.literals.list (c.literals.from - 1) c.literals.from c.reason-number.result (omega arith) (omega arith) in
    let named = marked cs c.literals.marks ns true c.place_of.result c.at-literal.result (lit t.literals j) t.atoms c.literals.invariant.5 c.place_of.ensures c.at-literal.ensures
    (c.len-j.ensures.trail.over (lit t.literals j) (on-at t.literals j none lt)) c.literals.invariant.4 c.if-marks-place_of.true in (
      omega arith,
      omega arith,
      omega arith,
      omega (arith, length-set c.literals.list (c.literals.from - 1) c.reason-number.result),
      omega arith,
      subst (λ (xs : List ℕ). AreMarks cs c.mark-then-marks-place_of.new.marks xs) (sym e)
          (marks-next cs c.literals.marks c.mark-then-marks-place_of.new.marks c.reason-number.result ns c.clause-then-marks-place_of.result.now (c.clause-then-marks-place_of.ensures.clause ∙ ap (λ (ks : List (List Literal)). clause_at ks (c.reason-number.result - 1)) c.literals.invariant.7) c.literals.invariant.5 (omega arith) c.mark-then-marks-place_of.ensures),
      subst (λ (xs : List ℕ). Leaning cs t.literals j xs) (ap (λ (n : ℕ). n ∷ ns) (sym c.reason-number.ensures) ∙ sym e)
          (leaning-keep cs t j ns c.len-j.ensures.trail lt (c.requires.units.each j (omega arith) lt) named
          (subst (λ (k : ℕ). Leaning cs t.literals k ns) (sym back) c.literals.invariant.6)),
      ap (λ (r : Reading). r.clauses) c.clause-then-marks-place_of.ensures.looks ∙ c.literals.invariant.7,
    )

pub literals-preserved : goal.literals-preserved
literals-preserved c =
    let cs = c.args.reader.now.clauses in
    let t = c.args.trail.now in
    let j = c.literals.j - 1 in
    let ns = drop c.literals.from c.literals.list in
    let back : j + 1 ≡ c.literals.j = omega arith in
    let lt : j < length t.literals = omega (arith, c.literals.invariant.1) in
    let out = marked cs c.literals.marks ns false c.place_of.result c.at-literal.result (lit t.literals j) t.atoms c.literals.invariant.5 c.place_of.ensures c.at-literal.ensures
    (c.len-j.ensures.trail.over (lit t.literals j) (on-at t.literals j none lt)) c.literals.invariant.4 c.if-marks-place_of.false in (
      omega arith,
      omega arith,
      omega arith,
      omega arith,
      omega arith,
      c.literals.invariant.5,
      leaning-skip cs t.literals j ns lt out (subst (λ (k : ℕ). Leaning cs t.literals k ns) (sym back) c.literals.invariant.6),
      c.literals.invariant.7,
    )
