-- An outline is told by its draft.
use Rattle.std.proofs.Common.{◌≡◌, List, [], ◌∷◌, map, refl, ap, ap₂, sym, ◌∙◌}
use Rattle.pg_assertion.specs.declared.atom.ViewAtom.{ViewAtom}
use Rattle.pg_assertion.specs.declared.atom.ViewAtom.TheVariants as view
use Rattle.pg_assertion.specs.declared.atom.RawAtom.{RawAtom}
use Rattle.pg_assertion.specs.declared.atom.RawAtom.TheVariants as raw
use Rattle.pg_assertion.specs.Atom.{raw_of}
use Rattle.pg_assertion.specs.Formula.{Plain, top, bottom, atom, neg, both, either, implies, with_atoms}
use Rattle.pg_outline.specs.Outline.{OutlineTable, Draft, draft_of}

abbrev view_of : RawAtom → ViewAtom
view_of (raw.Scalar r k) = view.Scalar r k
view_of (raw.Last x v) = view.Last x v
view_of (raw.Read t x v) = view.Read t x v
view_of (raw.Persist x v) = view.Persist x v
view_of (raw.Async t x v) = view.Async t x v
view_of (raw.Then t x v y w) = view.Then t x v y w
view_of (raw.Newest t x) = view.Newest t x
view_of (raw.Ordered t x) = view.Ordered t x
view_of (raw.Fenced t x) = view.Fenced t x

atom_again : (a : ViewAtom) → view_of (raw_of a) ≡ a
atom_again (view.Scalar r k) = refl
atom_again (view.Last x v) = refl
atom_again (view.Read t x v) = refl
atom_again (view.Persist x v) = refl
atom_again (view.Async t x v) = refl
atom_again (view.Then t x v y w) = refl
atom_again (view.Newest t x) = refl
atom_again (view.Ordered t x) = refl
atom_again (view.Fenced t x) = refl

again : (f : Plain ViewAtom) → with_atoms view_of (with_atoms raw_of f) ≡ f
unfolding with_atoms
again top = refl
again bottom = refl
again (atom a) = ap atom (atom_again a)
again (neg f) = ap neg (again f)
again (both f g) = ap₂ both (again f) (again g)
again (either f g) = ap₂ either (again f) (again g)
again (implies f g) = ap₂ implies (again f) (again g)

notes_again : (fs : List (Plain ViewAtom)) → map (with_atoms view_of) (map (with_atoms raw_of) fs) ≡ fs
notes_again [] = refl
notes_again (f ∷ fs) = ap₂ (λ f fs. f ∷ fs) (again f) (notes_again fs)

all_again : (ns : List (List (Plain ViewAtom))) → map (map (with_atoms view_of)) (map (map (with_atoms raw_of)) ns) ≡ ns
all_again [] = refl
all_again (n ∷ ns) = ap₂ (λ n ns. n ∷ ns) (notes_again n) (all_again ns)

abbrev outline_of : Draft → OutlineTable
outline_of d = record { program = d.program; pre = with_atoms view_of d.pre; crash = d.crash; notes = map (map (with_atoms view_of)) d.notes }

outline_again : (o : OutlineTable) → outline_of (draft_of o) ≡ o
outline_again o = ap₂ (λ f ns. record { program = o.program; pre = f; crash = o.crash; notes = ns }) (again o.pre) (all_again o.notes)

pub one_outline : (a b : OutlineTable) → draft_of a ≡ draft_of b → a ≡ b
one_outline a b same = sym (outline_again a) ∙ ap outline_of same ∙ outline_again b
