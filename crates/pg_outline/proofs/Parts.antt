-- The first fault of an outline's formulas, by the faults of its parts.
use Rattle.std.proofs.Common.{◌≡◌, ℕ, ◌<◌, Bool, true, false, if◌then◌else◌, length, Some, None, refl, subst, ◌∙◌}
use Rattle.std.specs.Prelude.{nat_lt}
use Rattle.std.proofs.lemmas.Bool.{ltb-true}
use Rattle.pg_assertion.specs.declared.atom.CrashAtom.{CrashAtom}
use Rattle.pg_assertion.specs.declared.atom.CrashAtom.TheVariants as crash
use Rattle.pg_assertion.specs.Formula.{Plain, top, bottom, atom, neg, both, either, implies, AllAtoms}
use Rattle.pg_assertion.specs.Atom.{CrashDeclared}
use Rattle.pg_assertion.specs.Expansion.{IsAtomOf}
use Rattle.pg_program.specs.NameTable.{NameTable}
use Rattle.pg_outline.specs.declared.fault.OutlineFault.{OutlineFault}
use Rattle.pg_outline.specs.declared.fault.OutlineFault.TheVariants.{ValueOutOfDomain}
use Rattle.pg_outline.specs.Outline.{Draft}
use Rattle.pg_outline.specs.Fault.{Fault, first_of, first_in, in_formula, atom_fault, crash_atom_fault, value_fault, locations_fault, size_fault, first_fault}

-- the faults of the parts, over d values and n threads
abbrev pub pre_fault : ℕ → ℕ → Draft → Fault
pre_fault d n o = in_formula (atom_fault d n) o.pre

abbrev pub crash_fault : ℕ → Draft → Fault
crash_fault d o = in_formula (crash_atom_fault d) o.crash

abbrev pub notes_fault : ℕ → ℕ → Draft → Fault
notes_fault d n o = first_in (first_in (in_formula (atom_fault d n))) o.notes

abbrev pub expansion_fault : Draft → Fault
expansion_fault o = first_of (locations_fault o.program.names o.crash) (size_fault o.program.names o.crash)

-- d and n are the domain's size and the number of threads of the outline
pub record Counts (d n : ℕ) (o : Draft) : Type 0 where
  pub domain : d ≡ o.program.names.domain
  pub threads : n ≡ length o.program.threads

-- the first fault is that of the parts, one after the other
parted : (d n : ℕ) (o : Draft) → Counts d n o → first_fault o ≡ first_of (first_of (pre_fault d n o) (first_of (crash_fault d o) (notes_fault d n o))) (expansion_fault o)
parted d n o c = rw (c.domain, c.threads) refl

pub pre_first : (d n : ℕ) (o : Draft) (e : OutlineFault) → Counts d n o → pre_fault d n o ≡ Some e → first_fault o ≡ Some e
pre_first d n o e c h = parted d n o c ∙ rw h refl

pub crash_first : (d n : ℕ) (o : Draft) (e : OutlineFault) → Counts d n o → pre_fault d n o ≡ None → crash_fault d o ≡ Some e → first_fault o ≡ Some e
crash_first d n o e c p h = parted d n o c ∙ rw (p, h) refl

pub notes_first : (d n : ℕ) (o : Draft) (e : OutlineFault) → Counts d n o → pre_fault d n o ≡ None → crash_fault d o ≡ None → notes_fault d n o ≡ Some e → first_fault o ≡ Some e
notes_first d n o e c p q h = parted d n o c ∙ rw (p, q, h) refl

pub expansion_first : (d n : ℕ) (o : Draft) (f : Fault) → Counts d n o → pre_fault d n o ≡ None → crash_fault d o ≡ None → notes_fault d n o ≡ None → expansion_fault o ≡ f → first_fault o ≡ f
expansion_first d n o f c p q r h = parted d n o c ∙ rw (p, q, r) h

-- ---- a crash formula whose values are in the domain

pub both_none : (f g : Fault) → first_of f g ≡ None → (f ≡ None) × (g ≡ None)
both_none None g h = (refl, h)
both_none (Some e) g h = cc

pub value_inside : (d v : ℕ) → value_fault d v ≡ None → v < d
value_inside d v h = by (nat_lt v d) refl h
  where
    by : (b : Bool) → nat_lt v d ≡ b → ◌≡◌ {A = Fault} (if b then None else Some (ValueOutOfDomain v)) None → v < d
    by true e g = ltb-true v d e
    by false e g = cc

pub atoms_inside : (d : ℕ) (names : NameTable) (f : Plain CrashAtom) → d ≡ names.domain → AllAtoms (CrashDeclared names) f → in_formula (crash_atom_fault d) f ≡ None → AllAtoms (IsAtomOf names) f
atoms_inside d names top same h n = tt
atoms_inside d names bottom same h n = tt
atoms_inside d names (atom (crash.Scalar r k)) same h n = (h, subst (λ (x : ℕ). k < x) same (value_inside d k n))
atoms_inside d names (atom (crash.Location x v)) same h n = (h, subst (λ (y : ℕ). v < y) same (value_inside d v n))
atoms_inside d names (neg f) same h n = atoms_inside d names f same h n
atoms_inside d names (both f g) same h n =
    let parts = both_none (in_formula (crash_atom_fault d) f) (in_formula (crash_atom_fault d) g) n in
    (atoms_inside d names f same h.0 parts.0, atoms_inside d names g same h.1 parts.1)
atoms_inside d names (either f g) same h n =
    let parts = both_none (in_formula (crash_atom_fault d) f) (in_formula (crash_atom_fault d) g) n in
    (atoms_inside d names f same h.0 parts.0, atoms_inside d names g same h.1 parts.1)
atoms_inside d names (implies f g) same h n =
    let parts = both_none (in_formula (crash_atom_fault d) f) (in_formula (crash_atom_fault d) g) n in
    (atoms_inside d names f same h.0 parts.0, atoms_inside d names g same h.1 parts.1)
