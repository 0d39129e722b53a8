-- What is made of the formulas of an outline before the outline itself.
use Rattle.std.specs.Prelude.{◌≡◌, ◌≢◌, map, None, Some, Result, Ok, Err}
use Rattle.pg_assertion.specs.Formula.{plain, with_atoms}
use Rattle.pg_assertion.specs.Atom.{raw_of}
use Rattle.pg_assertion.specs.Expansion.{expansion}
use Rattle.pg_outline.specs.declared.outline.Parts.{Parts}
use Rattle.pg_outline.specs.declared.fault.OutlineFault.{OutlineFault}
use Rattle.pg_outline.specs.declared.fault.OutlineFault.TheVariants.{NoMemory}
use Rattle.pg_outline.specs.Outline.{Draft}
use Rattle.pg_outline.specs.Fault.{first_fault}

-- the formulas, seen as the draft has them, and the expansion of its crash formula
pub record AreOf (d : Draft) (p : Parts) : Type 0 where
  pub pre : with_atoms raw_of (plain p.pre) ≡ d.pre
  pub expanded : plain p.expanded ≡ expansion d.program.names d.crash
  pub notes : map (map (with_atoms raw_of)) (map (λ t. map plain t.items) p.notes.items) ≡ d.notes
  pub faultless : first_fault d ≡ None

abbrev pub AreParts : Draft → Result Parts OutlineFault → Type 0
AreParts d (Ok p) = AreOf d p
AreParts d (Err e) = e ≢ NoMemory → first_fault d ≡ Some e
