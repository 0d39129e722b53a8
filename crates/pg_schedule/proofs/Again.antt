-- What is printed is read again.
use Rattle.std.proofs.Common.{◌≡◌, ℕ, suc, ◌+◌, ◌%◌, ◌^◌, ◌<◌, Bool, true, false, List, [], ◌∷◌, ◌++◌, length, refl, ap, ◌∙◌, arith, append_assoc}
use Rattle.std.specs.Prelude.{codes, decimal, Option, Some, None, Ok, nat_lt}
use Rattle.std.specs.Str.{all_ascii_digits}
use Rattle.std.proofs.lemmas.List.{append-nil}
use Rattle.std.proofs.lemmas.Grind.{common_steps}
use Rattle.std.proofs.lemmas.Fmt.{digits_decimal, digits_value-decimal, decimal_nonempty, decimal_by_steps}
use Rattle.std.proofs.lemmas.Str.Parse.{IsNumeralModel, numerals_by_fold}
use Rattle.std.proofs.Common.{rules}
use Rattle.pg_schedule.specs.Schedule.{Act, step, crash, ScheduleTable, numbered}
use Rattle.pg_schedule.specs.Words.{Piece, piece, pieces, is_blank, is_newline, is_empty, Words, words, TextLine, lines_from, saying, says}
use Rattle.pg_schedule.specs.Reading.{value_from, number_in, keyword, number, ended, choice, step_line, crash_line, positions, numbers, act, acts, header, schedule, event}
use Rattle.pg_schedule.specs.Printing.{choice_text, positions_text, act_text, acts_text, schedule_text}
use Rattle.pg_schedule.specs.Held.{AreNumbers, IsChoice, IsActOfNumbers, HasNumbers}
use Rattle.pg_schedule.proofs.Cuts.{left_at}

-- ---- pieces

-- no byte of it ends a piece
Whole : (ℕ → Bool) → List ℕ → Type 0
Whole ends [] = Unit {0}
Whole ends (b ∷ bs) = (ends b ≡ false) × Whole ends bs

both_whole : (ends : ℕ → Bool) (xs ys : List ℕ) → Whole ends xs → Whole ends ys → Whole ends (xs ++ ys)
unfolding Whole
both_whole ends [] ys h g = g
both_whole ends (x ∷ xs) ys h g = (h.0, both_whole ends xs ys h.1 g)

cut_off :
    (ends : ℕ → Bool) (at : ℕ) (t : List ℕ) (z : ℕ) (rest : List ℕ) → Whole ends t → ends z ≡ true
    → pieces ends at (t ++ z ∷ rest) ≡ piece at t ∷ pieces ends (at + suc (length t)) rest
unfolding Whole
cut_off ends at [] z rest h is = rw is refl
cut_off ends at (b ∷ t) z rest h is =
    let place : at + suc (suc (length t)) ≡ at + 1 + suc (length t) = omega arith in
    rw (h.0, cut_off ends (at + 1) t z rest h.1 is, place) refl

last_piece : (ends : ℕ → Bool) (at b : ℕ) (t : List ℕ) → Whole ends (b ∷ t) → pieces ends at (b ∷ t) ≡ piece at (b ∷ t) ∷ []
unfolding Whole
last_piece ends at b [] h = rw (h.0) refl
last_piece ends at b (c ∷ t) h = rw (h.0, last_piece ends (at + 1) c t h.1) refl

-- ---- words

word_off : (at : ℕ) (t rest : List ℕ) → Whole is_blank t → 0 < length t → left_at at (t ++ 32 ∷ rest) ≡ piece at t ∷ left_at (at + suc (length t)) rest
word_off at [] rest h some = absurd (omega (arith, some))
word_off at (b ∷ t) rest h some = rw (cut_off is_blank at (b ∷ t) 32 rest h refl) refl

last_word : (at : ℕ) (t : List ℕ) → Whole is_blank t → 0 < length t → left_at at t ≡ piece at t ∷ []
last_word at [] h some = absurd (omega (arith, some))
last_word at (b ∷ t) h some = rw (last_piece is_blank at b t h) refl

-- ---- numbers

own : IsNumeralModel (λ ds. all_ascii_digits ds ≡ true) (value_from 0)
own = numerals_by_fold _ (search rules) value_from (search rules)

not_empty : (xs : List ℕ) → 0 < length xs → is_empty xs ≡ false
not_empty [] some = absurd (omega (arith, some))
not_empty (x ∷ xs) some = refl

below : (m n : ℕ) → m < n → nat_lt m n ≡ true
below m n h = grind (arith, common_steps, h)

number_in_decimal : (n : ℕ) → n < 2 ^ 32 → number_in (decimal n) ≡ Some n
number_in_decimal n small =
    let wide : n < 2 ^ 64 = omega (arith, small) in
    let digits : all_ascii_digits (decimal n) ≡ true = digits_decimal own n wide in
    let value : value_from 0 (decimal n) ≡ n = digits_value-decimal own n wide in
    let some = not_empty (decimal n) (decimal_nonempty n wide) in
    rw (some, digits, value, below n (2 ^ 32) small) refl

not_blank : (d : ℕ) → is_blank (48 + d) ≡ false
not_blank d = grind (arith, common_steps)

not_newline : (d : ℕ) → is_newline (48 + d) ≡ false
not_newline d = grind (arith, common_steps)

decimal_whole : (ends : ℕ → Bool) → ((d : ℕ) → ends (48 + d) ≡ false) → (n : ℕ) → n < 2 ^ 64 → Whole ends (decimal n)
unfolding Whole
decimal_whole ends solid n wide =
    decimal_by_steps (λ _ ds. Whole ends ds)
    (λ d small. (solid d, tt))
    (λ d ds large so_far. both_whole ends ds ((48 + d % 10) ∷ []) so_far (solid (d % 10), tt))
    n wide

decimal_long : (n : ℕ) → n < 2 ^ 32 → 0 < length (decimal n)
decimal_long n small = decimal_nonempty n (omega (arith, small))

decimal_solid : (n : ℕ) → n < 2 ^ 32 → Whole is_blank (decimal n)
decimal_solid n small = decimal_whole is_blank not_blank n (omega (arith, small))

decimal_on_line : (n : ℕ) → n < 2 ^ 32 → Whole is_newline (decimal n)
decimal_on_line n small = decimal_whole is_newline not_newline n (omega (arith, small))

-- ---- the words of an act

step_solid : Whole is_blank (codes "step")
unfolding Whole
step_solid = (refl, (refl, (refl, (refl, tt))))

crash_solid : Whole is_blank (codes "crash")
unfolding Whole
crash_solid = (refl, (refl, (refl, (refl, (refl, tt)))))

at_solid : Whole is_blank (codes "at")
unfolding Whole
at_solid = (refl, (refl, tt))

abbrev after : ℕ → List ℕ → ℕ
after at t = at + suc (length t)

step_left : (at t : ℕ) → t < 2 ^ 32 → left_at at (codes "step " ++ decimal t ++ []) ≡ piece at (codes "step") ∷ piece (after at (codes "step")) (decimal t) ∷ []
step_left at t small =
    let text : codes "step " ++ decimal t ++ [] ≡ codes "step" ++ 32 ∷ decimal t = ap (λ u. codes "step" ++ 32 ∷ u) (append-nil (decimal t)) in
    ap (left_at at) text
    ∙ word_off at (codes "step") (decimal t) step_solid (omega arith)
    ∙ ap (λ ws. piece at (codes "step") ∷ ws) (last_word (after at (codes "step")) (decimal t) (decimal_solid t small) (decimal_long t small))

choice_left :
    (at t p : ℕ) → t < 2 ^ 32 → p < 2 ^ 32
    → left_at at (codes "step " ++ decimal t ++ (codes " at " ++ decimal p))
    ≡ piece at (codes "step") ∷ piece (after at (codes "step")) (decimal t) ∷ piece (after (after at (codes "step")) (decimal t)) (codes "at") ∷ piece (after (after (after at (codes "step")) (decimal t)) (codes "at")) (decimal p) ∷ []
choice_left at t p small few =
    let one = after at (codes "step") in
    let two = after one (decimal t) in
    let three = after two (codes "at") in
    word_off at (codes "step") (decimal t ++ 32 ∷ (codes "at" ++ 32 ∷ decimal p)) step_solid (omega arith)
    ∙ ap (λ ws. piece at (codes "step") ∷ ws)
    (word_off one (decimal t) (codes "at" ++ 32 ∷ decimal p) (decimal_solid t small) (decimal_long t small)
    ∙ ap (λ ws. piece one (decimal t) ∷ ws)
    (word_off two (codes "at") (decimal p) at_solid (omega arith)
    ∙ ap (λ ws. piece two (codes "at") ∷ ws) (last_word three (decimal p) (decimal_solid p few) (decimal_long p few))))

word_then :
    (at : ℕ) (t ps : List ℕ) → Whole is_blank t → 0 < length t → left_at at (t ++ positions_text ps) ≡ piece at t ∷ left_at (at + length t) (positions_text ps)
word_then at t [] h some = rw (append-nil t) (last_word at t h some)
word_then at t (p ∷ ps) h some =
    let place : at + suc (length t) ≡ at + length t + 1 = omega arith in
    word_off at t (decimal p ++ positions_text ps) h some ∙ ap (λ k. piece at t ∷ left_at k (decimal p ++ positions_text ps)) place

crash_left :
    (at : ℕ) (ps : List ℕ)
    → left_at at (codes "crash at" ++ positions_text ps)
    ≡ piece at (codes "crash") ∷ piece (after at (codes "crash")) (codes "at") ∷ left_at (after at (codes "crash") + length (codes "at")) (positions_text ps)
crash_left at ps =
    word_off at (codes "crash") (codes "at" ++ positions_text ps) crash_solid (omega arith)
    ∙ ap (λ ws. piece at (codes "crash") ∷ ws) (word_then (after at (codes "crash")) (codes "at") ps at_solid (omega arith))

-- ---- what they are read as

nothing_left : ℕ → Words
nothing_left end = record { left = []; end = end }

reads_step :
    (end p q t : ℕ) → t < 2 ^ 32
    → act (record { left = piece p (codes "step") ∷ piece q (decimal t) ∷ []; end = end }) ≡ Ok (event t None, nothing_left end)
unfolding nothing_left act step_line keyword number choice ended
reads_step end p q t small = rw (number_in_decimal t small) refl

reads_choice :
    (end p q r o t c : ℕ) → t < 2 ^ 32 → c < 2 ^ 32
    → act (record { left = piece p (codes "step") ∷ piece q (decimal t) ∷ piece r (codes "at") ∷ piece o (decimal c) ∷ []; end = end }) ≡ Ok (event t (Some c), nothing_left end)
unfolding nothing_left act step_line keyword number choice ended
reads_choice end p q r o t c small few = rw (number_in_decimal t small, number_in_decimal c few) refl

reads_crash :
    (end p q : ℕ) (ws : List Piece) (ps : List ℕ) → numbers ws end ≡ Ok (ps, nothing_left end)
    → act (record { left = piece p (codes "crash") ∷ piece q (codes "at") ∷ ws; end = end }) ≡ Ok (crash ps, nothing_left end)
unfolding act crash_line keyword positions
reads_crash end p q ws ps h = rw h refl

numbers_read : (at end : ℕ) (ps : List ℕ) → AreNumbers ps → numbers (left_at at (positions_text ps)) end ≡ Ok (ps, nothing_left end)
unfolding nothing_left
numbers_read at end [] h = refl
numbers_read at end (p ∷ ps) h =
    let one = word_then (at + 1) (decimal p) ps (decimal_solid p h.0) (decimal_long p h.0) in
    let rest = numbers_read (at + 1 + length (decimal p)) end ps h.1 in
    rw (one, number_in_decimal p h.0, rest) refl

step_reads :
    (at t : ℕ) (c : Option ℕ) → t < 2 ^ 32 → IsChoice c
    → act (words at (codes "step " ++ decimal t ++ choice_text c)) ≡ Ok (event t c, nothing_left (at + length (codes "step " ++ decimal t ++ choice_text c)))
step_reads at t None small few = rw (step_left at t small) (reads_step (at + length (codes "step " ++ decimal t ++ [])) at (after at (codes "step")) t small)
step_reads at t (Some p) small few =
    rw (choice_left at t p small few) (reads_choice (at + length (codes "step " ++ decimal t ++ (codes " at " ++ decimal p))) at (after at (codes "step")) (after (after at (codes "step")) (decimal t)) (after (after (after at (codes "step")) (decimal t)) (codes "at")) t p small few)

act_reads : (at : ℕ) (a : Act) → IsActOfNumbers a → act (words at (act_text a)) ≡ Ok (a, nothing_left (at + length (act_text a)))
act_reads at (step e) h = step_reads at e.thread e.choice h.0 h.1
act_reads at (crash ps) h =
    rw (crash_left at ps) (reads_crash (at + length (codes "crash at" ++ positions_text ps)) at (after at (codes "crash")) (left_at (after at (codes "crash") + length (codes "at")) (positions_text ps)) ps (numbers_read (after at (codes "crash") + length (codes "at")) (at + length (codes "crash at" ++ positions_text ps)) ps h))

step_says : (at t : ℕ) (c : Option ℕ) → t < 2 ^ 32 → IsChoice c → says (left_at at (codes "step " ++ decimal t ++ choice_text c)) ≡ true
step_says at t None small few = ap says (step_left at t small)
step_says at t (Some p) small few = ap says (choice_left at t p small few)

act_says : (at : ℕ) (a : Act) → IsActOfNumbers a → says (left_at at (act_text a)) ≡ true
act_says at (step e) h = step_says at e.thread e.choice h.0 h.1
act_says at (crash ps) h = ap says (crash_left at ps)

-- ---- lines

step_on_line : Whole is_newline (codes "step ")
unfolding Whole
step_on_line = (refl, (refl, (refl, (refl, (refl, tt)))))

at_on_line : Whole is_newline (codes " at ")
unfolding Whole
at_on_line = (refl, (refl, (refl, (refl, tt))))

crash_on_line : Whole is_newline (codes "crash at")
unfolding Whole
crash_on_line = (refl, (refl, (refl, (refl, (refl, (refl, (refl, (refl, tt))))))))

blank_on_line : Whole is_newline (codes " ")
unfolding Whole
blank_on_line = (refl, tt)

choice_on_line : (c : Option ℕ) → IsChoice c → Whole is_newline (choice_text c)
unfolding Whole
choice_on_line None h = tt
choice_on_line (Some p) h = both_whole is_newline (codes " at ") (decimal p) at_on_line (decimal_on_line p h)

positions_on_line : (ps : List ℕ) → AreNumbers ps → Whole is_newline (positions_text ps)
unfolding Whole
positions_on_line [] h = tt
positions_on_line (p ∷ ps) h =
    both_whole is_newline (codes " " ++ decimal p) (positions_text ps) (both_whole is_newline (codes " ") (decimal p) blank_on_line (decimal_on_line p h.0)) (positions_on_line ps h.1)

act_on_line : (a : Act) → IsActOfNumbers a → Whole is_newline (act_text a)
act_on_line (step e) h =
    both_whole is_newline (codes "step " ++ decimal e.thread) (choice_text e.choice) (both_whole is_newline (codes "step ") (decimal e.thread) step_on_line (decimal_on_line e.thread h.0)) (choice_on_line e.choice h.1)
act_on_line (crash ps) h = both_whole is_newline (codes "crash at") (positions_text ps) crash_on_line (positions_on_line ps h)

line_reads :
    (n : ℕ) (w more : Words) (a : Act) (ls : List TextLine) (t : ScheduleTable) → says w.left ≡ true → act w ≡ Ok (a, more) → acts (saying ls) ≡ Ok t
    → acts (saying (record { number = n; words = w } ∷ ls)) ≡ Ok (record { number = n; act = a } ∷ t)
line_reads n w more a ls t is_said is rest = rw (is_said, is, rest) refl

acts_read : (n at : ℕ) (s : ScheduleTable) → HasNumbers s → acts (saying (lines_from n (pieces is_newline at (acts_text s)))) ≡ Ok (numbered n s)
acts_read n at [] h = refl
acts_read n at (l ∷ ls) h =
    let text : act_text l.act ++ codes "\n" ++ acts_text ls ≡ act_text l.act ++ 10 ∷ acts_text ls = append_assoc (act_text l.act) (codes "\n") (acts_text ls) in
    let cut = cut_off is_newline at (act_text l.act) 10 (acts_text ls) (act_on_line l.act h.0) refl in
    ap (λ t. acts (saying (lines_from n (pieces is_newline at t)))) text
    ∙ ap (λ ps. acts (saying (lines_from n ps))) cut
    ∙ line_reads n (words at (act_text l.act)) (nothing_left (at + length (act_text l.act))) l.act (lines_from (n + 1) (pieces is_newline (after at (act_text l.act)) (acts_text ls))) (numbered (n + 1) ls)
    (act_says at l.act h.0) (act_reads at l.act h.0) (acts_read (n + 1) (after at (act_text l.act)) ls h.1)

pub read_again : (s : ScheduleTable) → HasNumbers s → schedule (schedule_text s) ≡ Ok (numbered 2 s)
unfolding schedule header keyword number ended
read_again s h = acts_read 2 11 s h
