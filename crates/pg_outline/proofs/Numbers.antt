-- The faults of an atom are those of its numbers, and with its own numbers an atom is itself.
use Rattle.std.proofs.Common.{◌≡◌, ℕ, None, Some, refl, sym, ap, ◌∙◌}
use Rattle.std.specs.Option.{unwrap_or}
use Rattle.pg_assertion.specs.declared.atom.RawAtom.{RawAtom}
use Rattle.pg_assertion.specs.declared.atom.RawAtom.TheVariants as raw
use Rattle.pg_outline.specs.declared.fault.OutlineFault.{OutlineFault}
use Rattle.pg_outline.specs.declared.view.Numbers.{Numbers}
use Rattle.pg_outline.specs.Fault.{Fault, first_of, thread_fault, value_fault, atom_fault}
use Rattle.pg_outline.specs.Numbers.{numbers_of, renumbered, fault_if}

abbrev fault_of : ℕ → ℕ → Numbers → Fault
fault_of d n ns = first_of (fault_if (thread_fault n) ns.thread) (first_of (fault_if (value_fault d) ns.value) (fault_if (value_fault d) ns.other))

alone : (f : Fault) → first_of f None ≡ f
alone None = refl
alone (Some e) = refl

faults : (d n : ℕ) (a : RawAtom) → atom_fault d n a ≡ fault_of d n (numbers_of a)
faults d n (raw.Scalar r k) = sym (alone (value_fault d k))
faults d n (raw.Last x v) = sym (alone (value_fault d v))
faults d n (raw.Read t x v) = sym (ap (first_of (thread_fault n t)) (alone (value_fault d v)))
faults d n (raw.Persist x v) = sym (alone (value_fault d v))
faults d n (raw.Async t x v) = sym (ap (first_of (thread_fault n t)) (alone (value_fault d v)))
faults d n (raw.Then t x v y w) = refl
faults d n (raw.Newest t x) = sym (alone (thread_fault n t))
faults d n (raw.Ordered t x) = sym (alone (thread_fault n t))
faults d n (raw.Fenced t x) = sym (alone (thread_fault n t))

same : (a : RawAtom) → renumbered a (unwrap_or (numbers_of a).thread 0) (unwrap_or (numbers_of a).value 0) (unwrap_or (numbers_of a).other 0) ≡ a
same (raw.Scalar r k) = refl
same (raw.Last x v) = refl
same (raw.Read t x v) = refl
same (raw.Persist x v) = refl
same (raw.Async t x v) = refl
same (raw.Then t x v y w) = refl
same (raw.Newest t x) = refl
same (raw.Ordered t x) = refl
same (raw.Fenced t x) = refl

-- ---- with the numbers of an atom

module _ (d n : ℕ) (a : RawAtom) (ns : Numbers) (are : ns ≡ numbers_of a) where
  parted : atom_fault d n a ≡ fault_of d n ns
  parted = faults d n a ∙ ap (fault_of d n) (sym are)

  pub thread_first : (e : OutlineFault) → fault_if (thread_fault n) ns.thread ≡ Some e → atom_fault d n a ≡ Some e
  thread_first e h = parted ∙ rw h refl

  pub value_first : (e : OutlineFault) → fault_if (thread_fault n) ns.thread ≡ None → fault_if (value_fault d) ns.value ≡ Some e → atom_fault d n a ≡ Some e
  value_first e t h = parted ∙ rw (t, h) refl

  pub other_first : (f : Fault) → fault_if (thread_fault n) ns.thread ≡ None → fault_if (value_fault d) ns.value ≡ None → fault_if (value_fault d) ns.other ≡ f → atom_fault d n a ≡ f
  other_first f t v h = parted ∙ rw (t, v) h

  pub renumbered_same : (t v w : ℕ) → t ≡ unwrap_or ns.thread 0 → v ≡ unwrap_or ns.value 0 → w ≡ unwrap_or ns.other 0 → renumbered a t v w ≡ a
  renumbered_same t v w h k l = rw (h, k, l, are) (same a)
