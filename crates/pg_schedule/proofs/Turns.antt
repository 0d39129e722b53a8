-- The turns of loops: what was gathered so far, in front of what is still to be read.
use Rattle.std.proofs.Common.{◌≡◌, ℕ, zero, suc, ◌+◌, ◌<◌, ◌≤◌, true, false, List, [], ◌∷◌, ◌++◌, length, drop, get_or, refl, ap, sym, ◌∙◌, arith, append_assoc, length-append, drop-cons}
use Rattle.std.specs.Prelude.{codes, decimal, Some, None, Result, Ok, Err, is_ok}
use Rattle.std.proofs.lemmas.List.{append-nil, drop_all}
use Rattle.pg_document.specs.declared.fault.DocFault.{DocFault}
use Rattle.pg_document.specs.declared.fault.DocFault.TheVariants.{Unexpected}
use Rattle.pg_schedule.specs.Schedule.{Act, ScheduleTable, act_at}
use Rattle.pg_schedule.specs.Words.{Piece, piece, Words, TextLine, saying}
use Rattle.pg_schedule.specs.Reading.{Read, number_in, numbers, and_number, act, acts, and_line, added, line_with}
use Rattle.pg_schedule.specs.Printing.{act_text, acts_text, positions_text}

-- ---- the positions of a crash

abbrev pub numbers_after : List ℕ → Read (List ℕ) → Read (List ℕ)
numbers_after ns (Ok p) = Ok (ns ++ p.0, p.1)
numbers_after ns (Err e) = Err e

pub after_none : (r : Read (List ℕ)) → numbers_after [] r ≡ r
after_none (Ok p) = refl
after_none (Err e) = refl

after_one : (ns : List ℕ) (at n : ℕ) (r : Read (List ℕ)) → numbers_after ns (and_number at (Some n) r) ≡ numbers_after (ns ++ n ∷ []) r
after_one ns at n (Ok p) = rw (append_assoc ns (n ∷ []) p.0) refl
after_one ns at n (Err e) = refl

pub number_taken :
    (ns : List ℕ) (at n : ℕ) (text : List ℕ) (old new : Words) → old.left ≡ piece at text ∷ new.left → new.end ≡ old.end → number_in text ≡ Some n
    → numbers_after ns (numbers old.left old.end) ≡ numbers_after (ns ++ n ∷ []) (numbers new.left new.end)
number_taken ns at n text old new is end number = rw (is, number, end) (after_one ns at n (numbers new.left old.end))

pub no_number :
    (ns : List ℕ) (at : ℕ) (text : List ℕ) (old new : Words) → old.left ≡ piece at text ∷ new.left → number_in text ≡ None
    → numbers_after ns (numbers old.left old.end) ≡ Err (Unexpected at)
no_number ns at text old new is none = rw (is, none) refl

pub all_numbers : (ns : List ℕ) (w : Words) → w.left ≡ [] → numbers_after ns (numbers w.left w.end) ≡ Ok (ns, w)
all_numbers ns w none = rw none (rw (append-nil ns) refl)

-- ---- the acts of a schedule

abbrev pub acts_after : ScheduleTable → Result ScheduleTable DocFault → Result ScheduleTable DocFault
acts_after s (Ok ls) = Ok (s ++ ls)
acts_after s (Err e) = Err e

pub acts_after_none : (r : Result ScheduleTable DocFault) → acts_after [] r ≡ r
acts_after_none (Ok ls) = refl
acts_after_none (Err e) = refl

abbrev got : Result ScheduleTable DocFault → ScheduleTable
got (Ok ls) = ls
got (Err e) = []

line_after : (s t : ScheduleTable) (n : ℕ) (r : Read Act) (rest : Result ScheduleTable DocFault) → added n s r ≡ Ok t → acts_after s (and_line n r rest) ≡ acts_after t rest
line_after s t n (Ok p) (Ok ls) is = rw (sym (ap got is), append_assoc s (line_with n p.0 ∷ []) ls) refl
line_after s t n (Ok p) (Err e) is = refl
line_after s t n (Err e) rest is = let differ : false ≡ true = ap is_ok is in absurd (grind (arith, differ))

pub act_taken :
    (s t : ScheduleTable) (old new : List TextLine) (n : ℕ) (w : Words) → saying old ≡ record { number = n; words = w } ∷ saying new → added n s (act w) ≡ Ok t
    → acts_after s (acts (saying old)) ≡ acts_after t (acts (saying new))
act_taken s t old new n w is ok = rw is (line_after s t n (act w) (acts (saying new)) ok)

pub act_counted : (s t : ScheduleTable) (n : ℕ) (r : Read Act) → added n s r ≡ Ok t → length t ≡ length s + 1
act_counted s t n (Ok p) is = omega (arith, ap (λ (r : Result ScheduleTable DocFault). length (got r)) is, length-append s (line_with n p.0 ∷ []))
act_counted s t n (Err e) is = let differ : false ≡ true = ap is_ok is in absurd (grind (arith, differ))

pub no_act :
    (s : ScheduleTable) (old new : List TextLine) (n : ℕ) (w : Words) (e : DocFault) → saying old ≡ record { number = n; words = w } ∷ saying new → act w ≡ Err e
    → acts_after s (acts (saying old)) ≡ Err e
no_act s old new n w e is err = rw (is, err) refl

pub all_acts : (s : ScheduleTable) (old : List TextLine) → saying old ≡ [] → acts_after s (acts (saying old)) ≡ Ok s
all_acts s old is = rw (is, append-nil s) refl

-- ---- texts

pub positions_left : (ps : List ℕ) (i : ℕ) → i < length ps → positions_text (drop i ps) ≡ codes " " ++ decimal (get_or ps i 0) ++ positions_text (drop (suc i) ps)
positions_left ps i within = rw (drop-cons ps i 0 within) refl

pub position_printed :
    (ps : List ℕ) (i next : ℕ) (text one whole : List ℕ) → next ≡ suc i → i < length ps → one ≡ text ++ (codes " " ++ decimal (get_or ps i 0)) → text ++ positions_text (drop i ps) ≡ whole
    → one ++ positions_text (drop next ps) ≡ whole
position_printed ps i next text one whole is_next within is so_far =
    rw (is_next, is) (append_assoc text (codes " " ++ decimal (get_or ps i 0)) (positions_text (drop (suc i) ps)) ∙ (ap (λ t. text ++ t) (sym (positions_left ps i within)) ∙ so_far))

pub all_positions_printed : (ps : List ℕ) (i : ℕ) (text whole : List ℕ) → length ps ≤ i → text ++ positions_text (drop i ps) ≡ whole → text ≡ whole
all_positions_printed ps i text whole past so_far = sym (append-nil text) ∙ ap (λ t. text ++ positions_text t) (sym (drop_all i ps past)) ∙ so_far

pub acts_left : (s : ScheduleTable) (k : ℕ) → k < length s → acts_text (drop k s) ≡ act_text (act_at s k) ++ codes "\n" ++ acts_text (drop (suc k) s)
acts_left [] k within = absurd (omega arith)
acts_left (l ∷ ls) zero within = refl
acts_left (l ∷ ls) (suc k) within = acts_left ls k (omega arith)

pub act_printed :
    (s : ScheduleTable) (k next : ℕ) (text one two whole : List ℕ) (a : Act) → next ≡ suc k → k < length s → a ≡ act_at s k → one ≡ text ++ act_text a → two ≡ one ++ codes "\n"
    → text ++ acts_text (drop k s) ≡ whole → two ++ acts_text (drop next s) ≡ whole
act_printed s k next text one two whole a is_next within is first second so_far =
    rw (is_next, second, first, is) (rw (append_assoc, append_assoc) (sym (ap (λ t. text ++ t) (acts_left s k within ∙ append_assoc (act_text (act_at s k)) (codes "\n") (acts_text (drop (suc k) s)))) ∙ so_far))

pub all_printed : (s : ScheduleTable) (k : ℕ) (text whole : List ℕ) → length s ≤ k → text ++ acts_text (drop k s) ≡ whole → text ≡ whole
all_printed s k text whole past so_far = sym (append-nil text) ∙ ap (λ t. text ++ acts_text t) (sym (drop_all k s past)) ∙ so_far

pub count_taken :
    (ns : List ℕ) (n total : ℕ) (p : Piece) (old new : List Piece) → old ≡ p ∷ new → length ns + length old ≡ total → length (ns ++ n ∷ []) + length new ≡ total
count_taken ns n total p old new is so_far = omega (arith, length-append ns (n ∷ []), ap (length {A = Piece}) is, so_far)
