-- Lines that are kept stay the same when positions come behind those of the crashes so far.
use Rattle.std.proofs.Common.{◌≡◌, ℕ, zero, suc, ◌+◌, ◌-◌, ◌^◌, ◌<◌, ◌≤◌, List, [], ◌∷◌, ◌++◌, take, drop, length, get_or, Fits, w32, refl, ap, arith, length-append, length-drop}
use Rattle.std.specs.Prelude.{slice_range}
use Rattle.std.proofs.lemmas.List.{map-append, take-append-le, take_all, drop-append-le}
use Rattle.std.proofs.Math.Seq.{drop-append_seam}
use Rattle.pg_schedule.specs.declared.schedule.Entry.{Entry}
use Rattle.pg_schedule.specs.declared.schedule.EntryAct.{EntryAct}
use Rattle.pg_schedule.specs.declared.schedule.EntryAct.TheVariants as held
use Rattle.pg_schedule.specs.Schedule.{crash, ScheduleTable, act_at, number_at}
use Rattle.pg_schedule.specs.Held.{AreNumbers, act_held, line_held, held_lines, IsActHeld, EachIsHeld, AreHeld, IsActOfNumbers, HasNumbers}

range_stays :
    (ps more : List ℕ) (i c : ℕ) → i + c ≤ length ps → slice_range (ps ++ more) i (i + c) ≡ slice_range ps i (i + c)
range_stays ps more i c within =
    let i_within : i ≤ length ps = omega arith in
    let there : i + c - i ≤ length (drop i ps) = omega (arith, length-drop i ps) in
    rw (drop-append-le i ps more i_within) (take-append-le (i + c - i) (drop i ps) more there)

act_stays : (ps more : List ℕ) (a : EntryAct) → IsActHeld (length ps) a → act_held (ps ++ more) a ≡ act_held ps a
act_stays ps more (held.Step e) h = refl
act_stays ps more (held.Crash s) h = ap crash (range_stays ps more s.from s.count h.0)

pub lines_stay : (ps more : List ℕ) (es : List Entry) → EachIsHeld (length ps) es → held_lines (ps ++ more) es ≡ held_lines ps es
lines_stay ps more [] h = refl
lines_stay ps more (e ∷ es) h = rw (act_stays ps more e.act h.0, lines_stay ps more es h.1) refl

new_range : (ps more : List ℕ) → slice_range (ps ++ more) (length ps) (length ps + length more) ≡ more
new_range ps more =
    let count : length ps + length more - length ps ≡ length more = omega arith in
    rw (count, drop-append_seam ps more) (take_all (length more) more (omega arith))

-- a crash, with its positions behind the others
pub crash_added :
    (ps more : List ℕ) (es : List Entry) (e : Entry) (n : ℕ) → EachIsHeld (length ps) es
    → e ≡ record { number = n; act = held.Crash (record { from = length ps; count = length more }) }
    → held_lines (ps ++ more) (es ++ e ∷ []) ≡ held_lines ps es ++ record { number = n; act = crash more } ∷ []
crash_added ps more es e n each is =
    rw (is, map-append (line_held (ps ++ more)) es (record { number = n; act = held.Crash (record { from = length ps; count = length more }) } ∷ []), lines_stay ps more es each, new_range ps more) refl

wider_act : (m n : ℕ) (a : EntryAct) → m ≤ n → IsActHeld m a → IsActHeld n a
wider_act m n (held.Step e) le h = h
wider_act m n (held.Crash s) le h = (omega (arith, h.0), h.1)

pub wider : (m n : ℕ) (es : List Entry) → m ≤ n → EachIsHeld m es → EachIsHeld n es
wider m n [] le h = tt
wider m n (e ∷ es) le h = (wider_act m n e.act le h.0, wider m n es le h.1)

pub one_held : (n : ℕ) (es : List Entry) (e : Entry) → EachIsHeld n es → IsActHeld n e.act → EachIsHeld n (es ++ e ∷ [])
one_held n [] e h one = (one, tt)
one_held n (x ∷ es) e h one = (h.0, one_held n es e h.1 one)

pub is_held_at : (n : ℕ) (es : List Entry) (k : ℕ) (e : Entry) → EachIsHeld n es → k < length es → e ≡ get_or es k e → IsActHeld n e.act
is_held_at n [] k e h within is = absurd (omega arith)
is_held_at n (x ∷ es) zero e h within is = rw is h.0
is_held_at n (x ∷ es) (suc k) e h within is = is_held_at n es k e h.1 (omega arith) is

pub act_kept : (ps : List ℕ) (es : List Entry) (k : ℕ) (e : Entry) → k < length es → e ≡ get_or es k e → act_at (held_lines ps es) k ≡ act_held ps e.act
act_kept ps [] k e within is = absurd (omega arith)
act_kept ps (x ∷ es) zero e within is = let same : e ≡ x = is in rw same refl
act_kept ps (x ∷ es) (suc k) e within is = act_kept ps es k e (omega arith) is

pub number_kept : (ps : List ℕ) (es : List Entry) (k : ℕ) (e : Entry) → k < length es → e ≡ get_or es k e → number_at (held_lines ps es) k ≡ e.number
number_kept ps [] k e within is = absurd (omega arith)
number_kept ps (x ∷ es) zero e within is = let same : e ≡ x = is in rw same refl
number_kept ps (x ∷ es) (suc k) e within is = number_kept ps es k e (omega arith) is

-- each item is a number, by its place
pub each_number : (xs : List ℕ) → ((k : ℕ) → Fits w32 (get_or xs k 0)) → AreNumbers xs
each_number [] h = tt
each_number (x ∷ xs) h = (omega (arith, h 0), each_number xs (λ k. h (suc k)))

pub more_numbers : (xs ys : List ℕ) → AreNumbers xs → AreNumbers ys → AreNumbers (xs ++ ys)
more_numbers [] ys h g = g
more_numbers (x ∷ xs) ys h g = (h.0, more_numbers xs ys h.1 g)

pub held_count : (ps : List ℕ) (es : List Entry) → length (held_lines ps es) ≡ length es
held_count ps [] = refl
held_count ps (e ∷ es) = omega (arith, held_count ps es)

-- a place of the lines is one of what is kept
pub lines_count : (ps : List ℕ) (es : List Entry) (s : ScheduleTable) (k : ℕ) → held_lines ps es ≡ s → k < length s → k < length es
lines_count ps es s k is within = let count = held_count ps es in omega (arith, count, ap length is, within)

pub pushed_few : (ps : List ℕ) (es : List Entry) (e : Entry) (s : ScheduleTable) → held_lines ps es ≡ s → length s + 1 < 2 ^ 32 → length (es ++ e ∷ []) < 2 ^ 32
pushed_few ps es e s is few = omega (arith, length-append es (e ∷ []), held_count ps es, ap length is, few)

pub wider_more : (ps more : List ℕ) (es : List Entry) → EachIsHeld (length ps) es → EachIsHeld (length (ps ++ more)) es
wider_more ps more es h = wider (length ps) (length (ps ++ more)) es (omega (arith, length-append ps more)) h

pub crash_held :
    (ps more : List ℕ) (es : List Entry) (n : ℕ) → EachIsHeld (length ps) es → length more < 2 ^ 32
    → EachIsHeld (length (ps ++ more)) (es ++ record { number = n; act = held.Crash (record { from = length ps; count = length more }) } ∷ [])
crash_held ps more es n h short =
    one_held (length (ps ++ more)) es (record { number = n; act = held.Crash (record { from = length ps; count = length more }) }) (wider_more ps more es h)
    (omega (arith, length-append ps more), short)

length-take-le_count : (n : ℕ) (xs : List ℕ) → length (take n xs) ≤ n
length-take-le_count zero xs = omega arith
length-take-le_count (suc n) [] = omega arith
length-take-le_count (suc n) (x ∷ xs) = omega (arith, length-take-le_count n xs)

pub short_range : (ps qs : List ℕ) (i c n : ℕ) → qs ≡ slice_range ps i (i + c) → c < n → length qs < n
short_range ps qs i c n is short =
    let le : length (take (i + c - i) (drop i ps)) ≤ i + c - i = length-take-le_count (i + c - i) (drop i ps) in
    rw is (omega (arith, le, short))

-- ---- the numbers of what is kept

drop_numbers : (n : ℕ) (xs : List ℕ) → AreNumbers xs → AreNumbers (drop n xs)
drop_numbers zero xs h = h
drop_numbers (suc n) [] h = tt
drop_numbers (suc n) (x ∷ xs) h = drop_numbers n xs h.1

take_numbers : (n : ℕ) (xs : List ℕ) → AreNumbers xs → AreNumbers (take n xs)
take_numbers zero xs h = tt
take_numbers (suc n) [] h = tt
take_numbers (suc n) (x ∷ xs) h = (h.0, take_numbers n xs h.1)

act_numbers : (n : ℕ) (ps : List ℕ) (a : EntryAct) → AreNumbers ps → IsActHeld n a → IsActOfNumbers (act_held ps a)
act_numbers n ps (held.Step e) all h = h
act_numbers n ps (held.Crash s) all h = take_numbers (s.from + s.count - s.from) (drop s.from ps) (drop_numbers s.from ps all)

each_numbers : (n : ℕ) (ps : List ℕ) (es : List Entry) → AreNumbers ps → EachIsHeld n es → HasNumbers (held_lines ps es)
each_numbers n ps [] all h = tt
each_numbers n ps (e ∷ es) all h = (act_numbers n ps e.act all h.0, each_numbers n ps es all h.1)

pub held_numbers : (ps : List ℕ) (es : List Entry) → AreHeld ps es → HasNumbers (held_lines ps es)
held_numbers ps es h = each_numbers (length ps) ps es h.positions h.each
