use Rattle.std.proofs.Common.{◌≡◌, ℕ, ◌<◌, false}
use Rattle.pg_views.specs.Atom.{shows}
use Rattle.pg_views.proofs.window.Window.first.Given as goal

abbrev pub invariant-loop-position : goal.invariant-loop-position
invariant-loop-position l = (q : ℕ) → q < l.position → shows l.memory.memory l.self.location l.self.from l.self.upto l.value q ≡ false
