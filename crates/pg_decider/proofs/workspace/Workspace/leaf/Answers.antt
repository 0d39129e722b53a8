use Rattle.std.proofs.Common.{◌≡◌, ◌-◌, ◌≤◌, ℕ, List, sym, ap, subst, arith}
use Rattle.pg_region.specs.Literal.{Literal}
use Rattle.pg_region.specs.Range.{listed, Fits}
use Rattle.pg_region.specs.declared.range.Loaded.{Loaded}
use Rattle.pg_decider.specs.Assignment.{on}
use Rattle.pg_decider.specs.Held.{WorkspaceTable}
use Rattle.pg_decider.specs.Reached.{AreWithin}
use Rattle.pg_decider.specs.Tree.{IsNode}
use Rattle.pg_decider.specs.declared.settle.Node.TheVariants.{Shut}
use Rattle.pg_decider.proofs.Existing.{within-more}
use Rattle.pg_decider.proofs.Standing.{leaf-shut}
use Rattle.pg_decider.proofs.workspace.Workspace.leaf.Goals as goal

-- the clauses are within the atoms of the trail
within : (loaded : Loaded) (clauses : List (List Literal)) (w : WorkspaceTable) (m : ℕ) → Fits loaded clauses → loaded.atoms ≤ w.atoms → m ≡ w.atoms → AreWithin m (listed clauses loaded.range)
within loaded clauses w m fits le is = within-more loaded.atoms m (listed clauses loaded.range) fits.atoms (omega (arith, le, is))

pub walk-requires-clause-log : goal.walk-requires-clause-log
walk-requires-clause-log c = record {
  clauses = listed c.args.region.now.clauses c.args.loaded.range;
  over = within c.args.loaded c.args.region.now.clauses c.args.self.now c.self.inside.trail.atoms c.requires.fits c.requires.atoms (ap (λ (w : WorkspaceTable). w.atoms) c.self.view_is);
  log_is = c.requires.log;
}

pub shut-requires-clause-over : goal.shut-requires-clause-over
shut-requires-clause-over c = rw (c.of-reader.ensures, c.walk.ensures.atoms) (within c.args.loaded c.args.region.now.clauses c.args.self.now c.self.inside.trail.atoms c.requires.fits c.requires.atoms (ap (λ (w : WorkspaceTable). w.atoms) c.self.view_is))

pub shut-requires-clause-node : goal.shut-requires-clause-node
shut-requires-clause-node c =
    let cs = listed c.args.region.now.clauses c.args.loaded.range in
    let e = c.walk.ensures.path in
    rw c.of-reader.ensures (subst (λ (p : List Literal). IsNode cs (on p) Shut) (sym e)
    (leaf-shut cs c.args.log.now.lines (c.args.i - 1) c.requires.log (omega arith) c.requires.leaf))

pub conflict_of-conflict-requires-clause-over : goal.conflict_of-conflict-requires-clause-over
conflict_of-conflict-requires-clause-over c = rw (c.shut.ensures.reader, c.of-reader.ensures, c.shut.ensures.grown.atoms, c.walk.ensures.atoms) (within c.args.loaded c.args.region.now.clauses c.args.self.now c.self.inside.trail.atoms c.requires.fits c.requires.atoms (ap (λ (w : WorkspaceTable). w.atoms) c.self.view_is))

pub lean-from-requires-clause-over : goal.lean-from-requires-clause-over
lean-from-requires-clause-over c = rw (c.conflict_of-conflict.ensures.reader, c.shut.ensures.reader, c.of-reader.ensures, c.shut.ensures.grown.atoms, c.walk.ensures.atoms) (within c.args.loaded c.args.region.now.clauses c.args.self.now c.self.inside.trail.atoms c.requires.fits c.requires.atoms (ap (λ (w : WorkspaceTable). w.atoms) c.self.view_is))
