-- Positions have one fault at most, and where they have one they are no crash choice.
use Rattle.std.proofs.Common.{◌≡◌, ◌≢◌, ℕ, ◌<◌, ◌⊎◌, true, false, List, length, get_or, inl, inr, sym, ap, ap₂, subst, ◌∙◌}
use Rattle.std.proofs.lemmas.Bool.{cases_order, true≢false}
use Rattle.pg_machine.specs.Memory.{line_of, is_at, is_clear}
use Rattle.pg_machine.specs.State.{State}
use Rattle.pg_machine.specs.Fault.{IsLeastHiding}
use Rattle.pg_machine.proofs.Faults.{is_reached, hidden-not_clear, least_same}
use Rattle.pg_views.specs.declared.fault.CrashFault.{CrashFault}
use Rattle.pg_views.specs.declared.fault.CrashFault.TheVariants.{WrongLength, NotAPosition, Overwritten, NoMemory}
use Rattle.pg_views.specs.Crash.{cut, survives, IsCrashChoice}
use Rattle.pg_views.specs.Fault.{PositionFault, IsFirstFault, IsCrashFault}

-- where the crash cuts the line of x
abbrev cut_of : State → List ℕ → ℕ → ℕ
cut_of s ps x = cut s ps (line_of s.memory x)

-- a position with a fault does not survive
pub not_survives : (s : State) (ps : List ℕ) (x : ℕ) (f : CrashFault) → PositionFault s ps x f → survives s ps x ≡ true → ⊥
not_survives s ps x (NotAPosition y q) h k =
    true≢false (sym (ap (is_at s.memory.messages x) h.1 ∙ (is_reached s.memory.messages x 0 (cut_of s ps x) (get_or ps x 0) k).at) ∙ h.2)
not_survives s ps x (Overwritten y q later) h k =
    hidden-not_clear s.memory.messages x q (cut_of s ps x) later h.3.hiding
    (ap (λ (p : ℕ). is_clear s.memory.messages x p (cut_of s ps x)) h.1 ∙ (is_reached s.memory.messages x 0 (cut_of s ps x) (get_or ps x 0) k).clear)
not_survives s ps x f h k = absurd h

not_at : (s : State) (ps : List ℕ) (x q : ℕ) → q ≡ get_or ps x 0 → is_at s.memory.messages x q ≡ false → (g : CrashFault) → PositionFault s ps x g → NotAPosition x q ≡ g
not_at s ps x q here off (NotAPosition y r) k = ap₂ (λ (a b : ℕ). NotAPosition a b) (sym k.0) (here ∙ sym k.1)
not_at s ps x q here off (Overwritten y r later) k = absurd (true≢false (sym k.2 ∙ (ap (is_at s.memory.messages x) (k.1 ∙ sym here) ∙ off)))
not_at s ps x q here off g k = absurd k

same_later : (s : State) (ps : List ℕ) (x q r later other : ℕ) → q ≡ r → IsLeastHiding s.memory.messages x q (cut_of s ps x) later → IsLeastHiding s.memory.messages x r (cut_of s ps x) other → later ≡ other
same_later s ps x q r later other e h k =
    least_same s.memory.messages x r (cut_of s ps x) later other (subst (λ (p : ℕ). IsLeastHiding s.memory.messages x p (cut_of s ps x) later) e h) k

pub position-one : (s : State) (ps : List ℕ) (x : ℕ) (f g : CrashFault) → PositionFault s ps x f → PositionFault s ps x g → f ≡ g
position-one s ps x (NotAPosition y q) g h k = ap (λ (a : ℕ). NotAPosition a q) h.0 ∙ not_at s ps x q h.1 h.2 g k
position-one s ps x (Overwritten y q later) (NotAPosition z r) h k =
    absurd (true≢false (sym h.2 ∙ (ap (is_at s.memory.messages x) (h.1 ∙ sym k.1) ∙ k.2)))
position-one s ps x (Overwritten y q later) (Overwritten z r other) h k =
    ap₂ (λ (a b : ℕ). Overwritten a b later) (h.0 ∙ sym k.0) (h.1 ∙ sym k.1)
    ∙ ap (λ (l : ℕ). Overwritten z r l) (same_later s ps x q r later other (h.1 ∙ sym k.1) h.3 k.3)
position-one s ps x (Overwritten y q later) g h k = absurd k
position-one s ps x f g h k = absurd h

-- the first of them has the fault of its position
first-order : (s : State) (ps : List ℕ) (f g : CrashFault) (h : IsFirstFault s ps f) (k : IsFirstFault s ps g) → h.location < k.location → ⊥
first-order s ps f g h k less = not_survives s ps h.location f h.here (k.before h.location less)

pub first-one : (s : State) (ps : List ℕ) (f g : CrashFault) → IsFirstFault s ps f → IsFirstFault s ps g → f ≡ g
first-one s ps f g h k = elim (cases_order h.location k.location) [
  | inl e ↦ position-one s ps k.location f g (subst (λ (x : ℕ). PositionFault s ps x f) e h.here) k.here
  | inr (inl less) ↦ absurd (first-order s ps f g h k less)
  | inr (inr more) ↦ absurd (first-order s ps g f k h more)
]

-- the two kinds of fault
record IsWrong (s : State) (ps : List ℕ) (f : CrashFault) : Type 0 where
  pub is : f ≡ WrongLength (length ps) (length s.memory.initial)
  pub apart : length ps ≢ length s.memory.initial

kinds : (s : State) (ps : List ℕ) (f : CrashFault) → IsCrashFault s ps f → IsWrong s ps f ⊎ ((length ps ≡ length s.memory.initial) × IsFirstFault s ps f)
kinds s ps (WrongLength given wanted) h = inl (record { is = ap₂ (λ (a b : ℕ). WrongLength a b) h.0 h.1; apart = h.2 })
kinds s ps (NotAPosition y q) h = inr h
kinds s ps (Overwritten y q later) h = inr h
kinds s ps NoMemory h = inr h

pub crash_fault-one : (s : State) (ps : List ℕ) (f g : CrashFault) → IsCrashFault s ps f → IsCrashFault s ps g → f ≡ g
crash_fault-one s ps f g h k = by (kinds s ps f h) (kinds s ps g k)
  where
    by : IsWrong s ps f ⊎ ((length ps ≡ length s.memory.initial) × IsFirstFault s ps f) → IsWrong s ps g ⊎ ((length ps ≡ length s.memory.initial) × IsFirstFault s ps g) → f ≡ g
    by (inl a) (inl b) = a.is ∙ sym b.is
    by (inl a) (inr b) = absurd (a.apart b.0)
    by (inr a) (inl b) = absurd (b.apart a.0)
    by (inr a) (inr b) = first-one s ps f g a.1 b.1

pub crash_fault-no_choice : (s : State) (ps : List ℕ) (f : CrashFault) → IsCrashFault s ps f → IsCrashChoice s ps → ⊥
crash_fault-no_choice s ps f h is = by (kinds s ps f h)
  where
    by : IsWrong s ps f ⊎ ((length ps ≡ length s.memory.initial) × IsFirstFault s ps f) → ⊥
    by (inl a) = a.apart is.size
    by (inr (e, a)) = not_survives s ps a.location f a.here (is.positions a.location a.declared)
