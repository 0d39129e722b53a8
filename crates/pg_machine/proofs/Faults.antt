-- An event has one fault at most, and where it has one it leads to no state within the limit of messages.
use Rattle.std.proofs.Common.{rules, Result, Ok, Err, OnOk, IfErr, ◌≡◌, ℕ, suc, ◌<◌, ◌≤◌, ◌⊎◌, Bool, true, false, not, ◌&&◌, nat_le, List, [], ◌∷◌, ◌++◌, length, Option, Some, None, inl, inr, refl, sym, ap, ap₂, subst, ◌∙◌, arith}
use Rattle.std.proofs.lemmas.Bool.{and_parts, leb-true, true≢false, false≢true, cases_order}
use Rattle.std.proofs.lemmas.List.{length_push}
use Rattle.pg_program.specs.declared.syntax.Stmt.{Stmt}
use Rattle.pg_program.specs.declared.syntax.Act.{Act}
use Rattle.pg_program.specs.declared.syntax.Act.TheOpen.{Act-F, Assign, Store, Load, Cas, Mfence, Sfence, Flush, Flushopt, If, While}
use Rattle.pg_program.specs.Program.{ProgramTable, stmt_at}
use Rattle.pg_machine.specs.declared.event.Event.{Event}
use Rattle.pg_machine.specs.declared.fault.StepFault.{StepFault}
use Rattle.pg_machine.specs.declared.fault.StepFault.TheVariants.{NoThread, Ended, NotAPosition, BelowCoherence, Hidden, NoMemory}
use Rattle.pg_machine.specs.Limits.{most_messages}
use Rattle.pg_machine.specs.Memory.{is_at, hides, is_clear, reaches}
use Rattle.pg_machine.specs.State.{State, coh_of, point_of}
use Rattle.pg_machine.specs.Moves.{Seen}
use Rattle.pg_machine.specs.Step.{Left, Row, HasThread, seen_by, act_of, IsStep}
use Rattle.pg_machine.specs.Fault.{IsLeastHiding, ChoiceFault, RowFault, ActFault, IsFault}
use Rattle.pg_machine.specs.Refusal.{IsRefusal, IsTaken}
use Rattle.pg_machine.proofs.EveryBelow.{every_below-at}
use Rattle.pg_machine.proofs.Scan.{is_at-within}

-- ---- choices

not-both : (b : Bool) → not b ≡ true → b ≡ true → ⊥
not-both true h k = false≢true h
not-both false h k = false≢true k

-- what a position that may be read is
pub record IsReached (ms : List (ℕ × ℕ)) (x c n p : ℕ) : Type 0 where
  pub at : is_at ms x p ≡ true
  pub from : c ≤ p
  pub clear : is_clear ms x p n ≡ true

pub is_reached : (ms : List (ℕ × ℕ)) (x c n p : ℕ) → reaches ms x c n p ≡ true → IsReached ms x c n p
is_reached ms x c n p h =
    let a = and_parts (is_at ms x p) (nat_le c p && is_clear ms x p n) h in
    let b = and_parts (nat_le c p) (is_clear ms x p n) a.1 in
    record { at = a.0; from = leb-true c p b.0; clear = b.1 }

pub hidden-not_clear : (ms : List (ℕ × ℕ)) (x p n later : ℕ) → hides ms x p n later ≡ true → is_clear ms x p n ≡ true → ⊥
hidden-not_clear ms x p n later h clear =
    let at = (and_parts (is_at ms x later) _ h).0 in
    let within = is_at-within ms x later at in
    not-both (hides ms x p n later) (every_below-at (λ q. not (hides ms x p n q)) (suc (length ms)) later clear (omega (arith, within))) h

pub choice-unread : (n : Seen) (x p b : ℕ) (f : StepFault) → ChoiceFault n x p b f → reaches n.memory.messages x (coh_of n.views x) b p ≡ true → ⊥
choice-unread n x p b (NotAPosition q) h r = true≢false (sym (is_reached n.memory.messages x (coh_of n.views x) b p r).at ∙ h.1)
choice-unread n x p b (BelowCoherence q c) h r = let low = h.3 in let from = (is_reached n.memory.messages x (coh_of n.views x) b p r).from in absurd (omega (arith, low, from))
choice-unread n x p b (Hidden q later) h r = hidden-not_clear n.memory.messages x p b later h.3.hiding (is_reached n.memory.messages x (coh_of n.views x) b p r).clear
choice-unread n x p b f h r = absurd h

pub least_same : (ms : List (ℕ × ℕ)) (x p n q r : ℕ) → IsLeastHiding ms x p n q → IsLeastHiding ms x p n r → q ≡ r
least_same ms x p n q r h k = elim (cases_order q r) [
  | inl e ↦ e
  | inr (inl less) ↦ absurd (true≢false (sym h.hiding ∙ k.least q less))
  | inr (inr more) ↦ absurd (true≢false (sym k.hiding ∙ h.least r more))
]

not_at : (n : Seen) (x p b : ℕ) → is_at n.memory.messages x p ≡ false → (g : StepFault) → ChoiceFault n x p b g → NotAPosition p ≡ g
not_at n x p b off (NotAPosition q) k = ap NotAPosition (sym k.0)
not_at n x p b off (BelowCoherence q c) k = absurd (true≢false (sym k.2 ∙ off))
not_at n x p b off (Hidden q later) k = absurd (true≢false (sym k.1 ∙ off))
not_at n x p b off g k = absurd k

below : (n : Seen) (x p b : ℕ) → is_at n.memory.messages x p ≡ true → p < coh_of n.views x → (g : StepFault) → ChoiceFault n x p b g → BelowCoherence p (coh_of n.views x) ≡ g
below n x p b at low (NotAPosition q) k = absurd (true≢false (sym at ∙ k.1))
below n x p b at low (BelowCoherence q c) k = ap₂ (λ (y z : ℕ). BelowCoherence y z) (sym k.0) (sym k.1)
below n x p b at low (Hidden q later) k = let from = k.2 in absurd (omega (arith, low, from))
below n x p b at low g k = absurd k

hidden : (n : Seen) (x p b later : ℕ) → is_at n.memory.messages x p ≡ true → coh_of n.views x ≤ p → IsLeastHiding n.memory.messages x p b later → (g : StepFault) → ChoiceFault n x p b g → Hidden p later ≡ g
hidden n x p b later at from h (NotAPosition q) k = absurd (true≢false (sym at ∙ k.1))
hidden n x p b later at from h (BelowCoherence q c) k = let low = k.3 in absurd (omega (arith, low, from))
hidden n x p b later at from h (Hidden q other) k = ap₂ (λ (y z : ℕ). Hidden y z) (sym k.0) (least_same n.memory.messages x p b later other h k.3)
hidden n x p b later at from h g k = absurd k

pub choice-one : (n : Seen) (x p b : ℕ) (f g : StepFault) → ChoiceFault n x p b f → ChoiceFault n x p b g → f ≡ g
choice-one n x p b (NotAPosition q) g h k = ap NotAPosition h.0 ∙ not_at n x p b h.1 g k
choice-one n x p b (BelowCoherence q c) g h k = ap₂ (λ (y z : ℕ). BelowCoherence y z) h.0 h.1 ∙ below n x p b h.2 h.3 g k
choice-one n x p b (Hidden q later) g h k = ap (λ (y : ℕ). Hidden y later) h.0 ∙ hidden n x p b later h.1 h.2 h.3 g k
choice-one n x p b f g h k = absurd h

-- ---- rows

row-one : (d : ℕ) (n : Seen) (r : List ℕ) (a : Act-F Act Stmt) (c : Option ℕ) (f g : StepFault) → RowFault d n r a c f → RowFault d n r a c g → f ≡ g
row-one d n r (Load q x) None f g h k = h ∙ sym k
row-one d n r (Load q x) (Some p) f g h k = choice-one n x p n.views.vrn f g h k
row-one d n r (Cas q x e t) (Some p) f g (inl h) (inl k) = choice-one n x p _ f g h k
row-one d n r (Cas q x e t) (Some p) f g (inl h) (inr k) = absurd (choice-unread n x p _ f h k.0)
row-one d n r (Cas q x e t) (Some p) f g (inr h) (inl k) = absurd (choice-unread n x p _ g k h.0)
row-one d n r (Cas q x e t) (Some p) f g (inr h) (inr k) = h.2 ∙ sym k.2
row-one d n r (Cas q x e t) None f g (inl h) (inl k) = h.1 ∙ sym k.1
row-one d n r (Cas q x e t) None f g (inl h) (inr k) = absurd (h.0 k.0)
row-one d n r (Cas q x e t) None f g (inr h) (inl k) = absurd (k.0 h.0)
row-one d n r (Cas q x e t) None f g (inr h) (inr k) = h.2 ∙ sym k.2
row-one d n r (Store x e) None f g h k = h.1 ∙ sym k.1
row-one d n r (Store x e) (Some p) f g h k = h ∙ sym k
row-one d n r (Assign q e) None f g h k = absurd h
row-one d n r (Assign q e) (Some p) f g h k = h ∙ sym k
row-one d n r Mfence None f g h k = absurd h
row-one d n r Mfence (Some p) f g h k = h ∙ sym k
row-one d n r Sfence None f g h k = absurd h
row-one d n r Sfence (Some p) f g h k = h ∙ sym k
row-one d n r (Flush x) None f g h k = absurd h
row-one d n r (Flush x) (Some p) f g h k = h ∙ sym k
row-one d n r (Flushopt x) None f g h k = absurd h
row-one d n r (Flushopt x) (Some p) f g h k = h ∙ sym k
row-one d n r (If t y z) None f g h k = absurd h
row-one d n r (If t y z) (Some p) f g h k = h ∙ sym k
row-one d n r (While t y) None f g h k = absurd h
row-one d n r (While t y) (Some p) f g h k = h ∙ sym k

too-many : (ms : List (ℕ × ℕ)) (m : ℕ × ℕ) (k : ℕ) → most_messages ≤ length ms → k ≡ length (ms ++ m ∷ []) → k ≤ most_messages → ⊥
too-many ms m k full is few = let more = length_push ms m in absurd (omega (arith, full, is, more, few))

row-none : (d : ℕ) (n : Seen) (r : List ℕ) (a : Act-F Act Stmt) (c : Option ℕ) (f : StepFault) (left : Left) → RowFault d n r a c f → Row d n r a c left → length left.seen.memory.messages ≤ most_messages → ⊥
row-none d n r (Load q x) None f left h row few = row
row-none d n r (Load q x) (Some p) f left h row few = choice-unread n x p n.views.vrn f h row.0
row-none d n r (Cas q x e t) (Some p) f left (inl h) row few = choice-unread n x p _ f h row.0
row-none d n r (Cas q x e t) (Some p) f left (inr h) row few = row.1 h.1
row-none d n r (Cas q x e t) None f left (inl h) row few = h.0 row.0
row-none d n r (Cas q x e t) None f left (inr h) row few = too-many n.memory.messages _ _ h.1 (ap (λ (l : Left). length l.seen.memory.messages) row.1) few
row-none d n r (Store x e) None f left h row few = too-many n.memory.messages _ _ h.0 (ap (λ (l : Left). length l.seen.memory.messages) row) few
row-none d n r (Store x e) (Some p) f left h row few = row
row-none d n r (Assign q e) None f left h row few = h
row-none d n r (Assign q e) (Some p) f left h row few = row
row-none d n r Mfence None f left h row few = h
row-none d n r Mfence (Some p) f left h row few = row
row-none d n r Sfence None f left h row few = h
row-none d n r Sfence (Some p) f left h row few = row
row-none d n r (Flush x) None f left h row few = h
row-none d n r (Flush x) (Some p) f left h row few = row
row-none d n r (Flushopt x) None f left h row few = h
row-none d n r (Flushopt x) (Some p) f left h row few = row
row-none d n r (If t y z) None f left h row few = h
row-none d n r (If t y z) (Some p) f left h row few = row
row-none d n r (While t y) None f left h row few = h
row-none d n r (While t y) (Some p) f left h row few = row

-- ---- events

outside : (p : ProgramTable) (e : Event) (t : ℕ) → t ≡ e.thread → (t < 1) ⊎ (length p.threads < t) → HasThread p e → ⊥
outside p e t is (inl low) h = let from = h.0 in absurd (omega (arith, is, low, from))
outside p e t is (inr high) h = let to = h.1 in absurd (omega (arith, is, high, to))

stands-one : (o : Option Stmt) (a b : Stmt) → o ≡ Some a → o ≡ Some b → a ≡ b
stands-one o a b h k = cc

act-one : (p : ProgramTable) (s : State) (e : Event) (f g : StepFault) → ActFault p s e f → ActFault p s e g → f ≡ g
act-one p s e f g h k =
    let same = stands-one (stmt_at p e.thread (point_of s e.thread)) h.stmt k.stmt h.stands k.stands in
    row-one p.names.domain (seen_by s e.thread) s.scalars (act_of k.stmt) e.choice f g
    (subst (λ (a : Stmt). RowFault p.names.domain (seen_by s e.thread) s.scalars (act_of a) e.choice f) same h.row) k.row

no_thread : (p : ProgramTable) (s : State) (e : Event) (t : ℕ) → t ≡ e.thread → (t < 1) ⊎ (length p.threads < t) → (g : StepFault) → IsFault p s e g → NoThread t ≡ g
no_thread p s e t is out (NoThread u) k = ap NoThread (is ∙ sym k.0)
no_thread p s e t is out Ended k = absurd (outside p e t is out k.0)
no_thread p s e t is out g k = absurd (outside p e t is out k.thread)

ended : (p : ProgramTable) (s : State) (e : Event) → HasThread p e → stmt_at p e.thread (point_of s e.thread) ≡ None → (g : StepFault) → IsFault p s e g → Ended ≡ g
ended p s e has none (NoThread u) k = absurd (outside p e u k.0 k.1 has)
ended p s e has none Ended k = refl
ended p s e has none g k = let e = k.stands in cc

acts : (p : ProgramTable) (s : State) (e : Event) (f : StepFault) → ActFault p s e f → (g : StepFault) → IsFault p s e g → f ≡ g
acts p s e f h (NoThread u) k = absurd (outside p e u k.0 k.1 h.thread)
acts p s e f h Ended k = let a = h.stands in let b = k.1 in cc
acts p s e f h g k = act-one p s e f g h k

pub one_fault : (p : ProgramTable) (s : State) (e : Event) (f g : StepFault) → IsFault p s e f → IsFault p s e g → f ≡ g
one_fault p s e (NoThread t) g h k = no_thread p s e t h.0 h.1 g k
one_fault p s e Ended g h k = ended p s e h.0 h.1 g k
one_fault p s e f g h k = acts p s e f h g k

act-none : (p : ProgramTable) (s : State) (e : Event) (f : StepFault) (next : State) → ActFault p s e f → IsStep p s e next → length next.memory.messages ≤ most_messages → ⊥
act-none p s e f next h step few =
    let same = stands-one (stmt_at p e.thread (point_of s e.thread)) h.stmt step.1.stmt h.stands step.1.stands in
    let row = subst (λ (a : Stmt). RowFault p.names.domain (seen_by s e.thread) s.scalars (act_of a) e.choice f) same h.row in
    let long = ap (λ (n : State). length n.memory.messages) step.1.becomes in
    row-none p.names.domain (seen_by s e.thread) s.scalars (act_of step.1.stmt) e.choice f step.1.left row step.1.row (omega (arith, long, few))

pub fault_has_no_step : (p : ProgramTable) (s : State) (e : Event) (f : StepFault) (next : State) → IsFault p s e f → IsStep p s e next → length next.memory.messages ≤ most_messages → ⊥
fault_has_no_step p s e (NoThread t) next h step few = outside p e t h.0 h.1 step.1.thread
fault_has_no_step p s e Ended next h step few = let a = h.1 in let b = step.1.stands in cc
fault_has_no_step p s e f next h step few = act-none p s e f next h step few

-- ---- the answer of a step

-- an act has neither of the two faults of an event without a statement
abbrev has_statement : StepFault → Bool
has_statement (NoThread t) = false
has_statement Ended = false
has_statement f = true

choice-stands : (n : Seen) (x p b : ℕ) (f : StepFault) → ChoiceFault n x p b f → has_statement f ≡ true
choice-stands n x p b (NotAPosition q) h = refl
choice-stands n x p b (BelowCoherence q c) h = refl
choice-stands n x p b (Hidden q later) h = refl
choice-stands n x p b f h = absurd h

row-stands : (d : ℕ) (n : Seen) (r : List ℕ) (a : Act-F Act Stmt) (c : Option ℕ) (f : StepFault) → RowFault d n r a c f → has_statement f ≡ true
row-stands d n r (Load q x) None f h = ap has_statement h
row-stands d n r (Load q x) (Some p) f h = choice-stands n x p n.views.vrn f h
row-stands d n r (Cas q x e t) (Some p) f (inl h) = choice-stands n x p _ f h
row-stands d n r (Cas q x e t) (Some p) f (inr h) = ap has_statement h.2
row-stands d n r (Cas q x e t) None f (inl h) = ap has_statement h.1
row-stands d n r (Cas q x e t) None f (inr h) = ap has_statement h.2
row-stands d n r (Store x e) None f h = ap has_statement h.1
row-stands d n r (Store x e) (Some p) f h = ap has_statement h
row-stands d n r (Assign q e) None f h = absurd h
row-stands d n r (Assign q e) (Some p) f h = ap has_statement h
row-stands d n r Mfence None f h = absurd h
row-stands d n r Mfence (Some p) f h = ap has_statement h
row-stands d n r Sfence None f h = absurd h
row-stands d n r Sfence (Some p) f h = ap has_statement h
row-stands d n r (Flush x) None f h = absurd h
row-stands d n r (Flush x) (Some p) f h = ap has_statement h
row-stands d n r (Flushopt x) None f h = absurd h
row-stands d n r (Flushopt x) (Some p) f h = ap has_statement h
row-stands d n r (If t y z) None f h = absurd h
row-stands d n r (If t y z) (Some p) f h = ap has_statement h
row-stands d n r (While t y) None f h = absurd h
row-stands d n r (While t y) (Some p) f h = ap has_statement h

act_is_fault : (p : ProgramTable) (s : State) (e : Event) (f : StepFault) → ActFault p s e f → IsFault p s e f
act_is_fault p s e (NoThread t) h = absurd (false≢true (row-stands p.names.domain (seen_by s e.thread) s.scalars (act_of h.stmt) e.choice (NoThread t) h.row))
act_is_fault p s e Ended h = absurd (false≢true (row-stands p.names.domain (seen_by s e.thread) s.scalars (act_of h.stmt) e.choice Ended h.row))
act_is_fault p s e f h = h

no_other : (p : ProgramTable) (s : State) (e : Event) (stmt : Stmt) → HasThread p e → stmt_at p e.thread (point_of s e.thread) ≡ Some stmt → ((f : StepFault) → ActFault p s e f → ⊥) → (f : StepFault) → IsFault p s e f → ⊥
no_other p s e stmt has stands free (NoThread t) h = outside p e t h.0 h.1 has
no_other p s e stmt has stands free Ended h = let a = h.1 in cc
no_other p s e stmt has stands free f h = free f h

-- what a call answered: where it is Ok the step to the new state, within the limit, and else a fault of the act, or want of memory
pub record Answered (p : ProgramTable) (s : State) (e : Event) (new : State) (spare : ℕ) (r : Result (Unit {0}) StepFault) : Type 0 where
  pub thread : HasThread p e
  pub stmt : Stmt
  pub stands : stmt_at p e.thread (point_of s e.thread) ≡ Some stmt
  pub ok : OnOk r (IsStep p s e new)
  pub few : length new.memory.messages ≤ most_messages
  pub err : IfErr r (IsRefusal (ActFault p s e) spare)

refuses-exactly : (p : ProgramTable) (s : State) (e : Event) (stmt : Stmt) (spare : ℕ) (g f : StepFault) → HasThread p e → stmt_at p e.thread (point_of s e.thread) ≡ Some stmt
    → IsRefusal (ActFault p s e) spare g → IsFault p s e f → g ≡ f
refuses-exactly p s e stmt spare g f has stands (inl act) k = one_fault p s e g f (act_is_fault p s e g act) k
refuses-exactly p s e stmt spare g f has stands (inr (is, none, free)) k = absurd (no_other p s e stmt has stands free f k)

pub answers_exactly : (p : ProgramTable) (s : State) (e : Event) (new : State) (spare : ℕ) (r : Result (Unit {0}) StepFault) → Answered p s e new spare r → (f : StepFault) → IsFault p s e f → r ≡ Err f
answers_exactly p s e new spare (Ok u) h f k = absurd (fault_has_no_step p s e f new k h.ok h.few)
answers_exactly p s e new spare (Err g) h f k = ap (λ (x : StepFault). let r : Result (Unit {0}) StepFault = Err x in r) (refuses-exactly p s e h.stmt spare g f h.thread h.stands h.err k)

pub answers_steps : (p : ProgramTable) (s : State) (e : Event) (new : State) (spare : ℕ) (r : Result (Unit {0}) StepFault) → Answered p s e new spare r → IsTaken p s e r
answers_steps p s e new spare (Ok u) h = λ next step few. search rules
answers_steps p s e new spare (Err g) h = λ next step few. by g h.err next step few
  where
    by : (g : StepFault) → IsRefusal (ActFault p s e) spare g → (next : State) → IsStep p s e next → length next.memory.messages ≤ most_messages → g ≡ NoMemory
    by g (inl act) next step few = absurd (fault_has_no_step p s e g next (act_is_fault p s e g act) step few)
    by g (inr (is, none, free)) next step few = is

pub answers_fault : (p : ProgramTable) (s : State) (e : Event) (new : State) (spare : ℕ) (r : Result (Unit {0}) StepFault) → Answered p s e new spare r → IfErr r (λ f. IsRefusal (IsFault p s e) spare f)
answers_fault p s e new spare (Ok u) h = search rules
answers_fault p s e new spare (Err g) h = by g h.err
  where
    by : (g : StepFault) → IsRefusal (ActFault p s e) spare g → IsRefusal (IsFault p s e) spare g
    by g (inl act) = inl (act_is_fault p s e g act)
    by g (inr (is, none, free)) = inr (is, none, no_other p s e h.stmt h.thread h.stands free)
