-- The clauses of a node, as truths.
use Rattle.std.proofs.Common.{◌≡◌, Bool, true, false, not, ◌||◌, ◌&&◌, refl}
use Rattle.std.proofs.lemmas.Bool.{false≢true}

-- what holds of two truths holds of each
pub and-parts : (a b : Bool) → (a && b) ≡ true → (a ≡ true) × (b ≡ true)
and-parts true b h = (refl, h)
and-parts false b h = absurd (false≢true h)

-- d is a and b; d is a or b; d is b where a is
abbrev pub is_both : Bool → Bool → Bool → Bool
is_both d a b = (not d || (a || false)) && ((not d || (b || false)) && ((d || (not a || (not b || false))) && true))

abbrev pub is_either : Bool → Bool → Bool → Bool
is_either d a b = (not d || (a || (b || false))) && ((d || (not a || false)) && ((d || (not b || false)) && true))

abbrev pub is_implied : Bool → Bool → Bool → Bool
is_implied d a b = (not d || (not a || (b || false))) && ((d || (a || false)) && ((d || (not b || false)) && true))

pub both_tells : (d a b : Bool) → is_both d a b ≡ true → d ≡ (a && b)
both_tells true true true h = refl
both_tells true true false h = absurd (false≢true h)
both_tells true false b h = absurd (false≢true h)
both_tells false true true h = absurd (false≢true h)
both_tells false true false h = refl
both_tells false false b h = refl

pub either_tells : (d a b : Bool) → is_either d a b ≡ true → d ≡ (a || b)
either_tells true true b h = refl
either_tells true false true h = refl
either_tells true false false h = absurd (false≢true h)
either_tells false true b h = absurd (false≢true h)
either_tells false false true h = absurd (false≢true h)
either_tells false false false h = refl

pub implied_tells : (d a b : Bool) → is_implied d a b ≡ true → d ≡ (not a || b)
implied_tells true true true h = refl
implied_tells true true false h = absurd (false≢true h)
implied_tells true false b h = refl
implied_tells false true true h = absurd (false≢true h)
implied_tells false true false h = refl
implied_tells false false b h = absurd (false≢true h)

pub both_met : (a b : Bool) → is_both (a && b) a b ≡ true
both_met true true = refl
both_met true false = refl
both_met false b = refl

pub either_met : (a b : Bool) → is_either (a || b) a b ≡ true
either_met true true = refl
either_met true false = refl
either_met false true = refl
either_met false false = refl

pub implied_met : (a b : Bool) → is_implied (not a || b) a b ≡ true
implied_met true true = refl
implied_met true false = refl
implied_met false true = refl
implied_met false false = refl
