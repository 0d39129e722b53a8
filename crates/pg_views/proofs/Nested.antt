-- Of any two sets of positions that are reached, or of values that are shown, of one location the one contains the other.
use Rattle.std.proofs.Common.{◌≡◌, ℕ, suc, ◌==◌, true, length, inl, inr, refl, sym, ◌∙◌}
use Rattle.std.proofs.lemmas.Bool.{and_parts, and_from}
use Rattle.pg_machine.specs.Memory.{Memory, reaches, value_at}
use Rattle.pg_machine.specs.State.{State, coh_of}
use Rattle.pg_machine.specs.Step.{views_of}
use Rattle.pg_machine.proofs.Reached.{reaches-up, reaches-nested}
use Rattle.pg_views.specs.Atom.{shows, is_shown, committed_to, committed_next, atom_holds}
use Rattle.pg_views.specs.Laws.{ReachedIsUpSet, ReachedNests, ShownNests, ValueSet, readable, persistent, pending, is_in, ValueSetsNest}
use Rattle.pg_views.proofs.Below.{some_below-implied}

pub reached_is_up_set : ReachedIsUpSet
reached_is_up_set = reaches-up

pub reached_nests : ReachedNests
reached_nests = reaches-nested

-- where fewer positions are reached, fewer values are shown
pub shown-within : (m : Memory) (x c n d k : ℕ) → ((p : ℕ) → reaches m.messages x c n p ≡ true → reaches m.messages x d k p ≡ true) → (v : ℕ) → is_shown m x c n v ≡ true → is_shown m x d k v ≡ true
shown-within m x c n d k h = λ v.
    some_below-implied (shows m x c n v) (shows m x d k v) (suc (length m.messages)) (λ p is.
    let parts = and_parts (reaches m.messages x c n p) (value_at m x p == v) is in
    and_from (reaches m.messages x d k p) (value_at m x p == v) (h p parts.0) parts.1)

pub shown_nests : ShownNests
shown_nests m x c n d k = elim (reaches-nested m.messages x c n d k) [
  | inl less ↦ inl (shown-within m x c n d k less)
  | inr more ↦ inr (shown-within m x d k c n more)
]

-- the positions of which a set has the values: from one on, up to another
abbrev from : State → ℕ → ValueSet → ℕ
from s x (readable t) = coh_of (views_of s t) x
from s x persistent = 0
from s x (pending t) = 0

abbrev upto : State → ℕ → ValueSet → ℕ
upto s x (readable t) = (views_of s t).vrn
upto s x persistent = committed_to s x
upto s x (pending t) = committed_next s t x

set-is : (s : State) (x v : ℕ) (a : ValueSet) → atom_holds s (is_in a x v) ≡ is_shown s.memory x (from s x a) (upto s x a) v
set-is s x v (readable t) = refl
set-is s x v persistent = refl
set-is s x v (pending t) = refl

pub value_sets_nest : ValueSetsNest
value_sets_nest s x v w a b h k = elim (shown_nests s.memory x (from s x a) (upto s x a) (from s x b) (upto s x b)) [
  | inl less ↦ inr (set-is s x v b ∙ less v (sym (set-is s x v a) ∙ h))
  | inr more ↦ inl (set-is s x w a ∙ more w (sym (set-is s x w b) ∙ k))
]
