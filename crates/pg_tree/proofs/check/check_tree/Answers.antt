use Rattle.std.proofs.Common.{◌≡◌, false, refl, ap, sym, ◌∙◌}
use Rattle.std.proofs.lemmas.Bool.{both_ways}
use Rattle.pg_region.specs.Range.{listed}
use Rattle.pg_region.specs.Reading.{Reading}
use Rattle.pg_tree.specs.Fault.{tree_fault}
use Rattle.pg_tree.proofs.Units.{some-none}
use Rattle.pg_tree.proofs.Validity.{no-fault-valid}
use Rattle.pg_tree.proofs.check.check_tree.Goals.{in-None, in-Some}
use Rattle.pg_tree.proofs.check.check_tree.Goals as goal

pub returns-clause-valid : goal.returns-clause-valid
returns-clause-valid c =
    let n = c.args.loaded.atoms in
    let cs = listed c.args.region.now.clauses c.args.loaded.range in
    let xs = c.args.tree.now in
    let exact : c.find_fault.result ≡ tree_fault n cs xs = c.find_fault.ensures.exact ∙ ap (λ (r : Reading). tree_fault r.atoms r.clauses xs) c.of-reader.ensures in
    λ le. elim c.match-find_fault.branch [
      | in-None w ↦ rw w.result-is (λ _. (no-fault-valid n cs xs).0 (sym exact ∙ w.in-None.is), λ _. refl)
      | in-Some w ↦ rw w.result-is (λ z. absurd (both_ways false refl z), λ v. absurd (some-none w.in-Some.fault (sym w.in-Some.is ∙ (exact ∙ (no-fault-valid n cs xs).1 v))))
    ]

pub returns-clause-kept : goal.returns-clause-kept
returns-clause-kept c = rw (← c.trail.view_is) c.find_fault.ensures.atoms
