use Rattle.std.proofs.Common.{◌≡◌, ℕ, zero, suc, ◌+◌, ◌-◌, ◌<◌, ◌≤◌, List, [], ◌∷◌, ◌++◌, length, get_or, take, drop, refl, sym, ap, ◌∙◌, arith, length-append, length-drop}
use Rattle.std.proofs.lemmas.List.{drop_at, take_all, take-append-le, drop-append-le, length-take, drop-take, take-take}
use Rattle.pg_region.specs.Pieces.{pieces, AreEnds, total}

pub length-pieces : {A : Type 0} (ws : List A) (from : ℕ) (ends : List ℕ) → length (pieces ws from ends) ≡ length ends
length-pieces ws from [] = refl
length-pieces ws from (e ∷ es) = ap suc (length-pieces ws e es)

pub ends-le : (from : ℕ) (ends : List ℕ) (n : ℕ) → AreEnds from ends n → from ≤ n
ends-le from [] n h = omega arith
ends-le from (e ∷ es) n h = omega (arith, h.0, ends-le e es n h.1)

-- the places before and at piece k
pub ends-at : (from : ℕ) (ends : List ℕ) (n k : ℕ) → AreEnds from ends n → k < length ends → (get_or (from ∷ ends) k 0 ≤ get_or ends k 0) × (get_or ends k 0 ≤ n)
ends-at from [] n k h lt = absurd (omega arith)
ends-at from (e ∷ es) n zero h lt = (h.0, ends-le e es n h.1)
ends-at from (e ∷ es) n (suc k) h lt = ends-at e es n k h.1 (omega arith)

pub ends-before : (from : ℕ) (ends : List ℕ) (n k : ℕ) → AreEnds from ends n → k ≤ length ends → (from ≤ get_or (from ∷ ends) k 0) × (get_or (from ∷ ends) k 0 ≤ n)
ends-before from ends n zero h le = (omega arith, ends-le from ends n h)
ends-before from [] n (suc k) h le = absurd (omega arith)
ends-before from (e ∷ es) n (suc k) h le = let r = ends-before e es n k h.1 (omega arith) in (omega (arith, h.0, r.0), r.1)

pub ends-push : (from : ℕ) (ends : List ℕ) (n m : ℕ) → AreEnds from ends n → n ≤ m → AreEnds from (ends ++ m ∷ []) m
ends-push from [] n m h le = (omega arith, refl)
ends-push from (e ∷ es) n m h le = (h.0, ends-push e es n m h.1 le)

pub ends-take : (from : ℕ) (ends : List ℕ) (n k : ℕ) → AreEnds from ends n → k ≤ length ends → AreEnds from (take k ends) (get_or (from ∷ ends) k 0)
ends-take from ends n zero h le = refl
ends-take from [] n (suc k) h le = absurd (omega arith)
ends-take from (e ∷ es) n (suc k) h le = (h.0, ends-take e es n k h.1 (omega arith))

pub pieces-get : {A : Type 0} (ws : List A) (from : ℕ) (ends : List ℕ) (k : ℕ) → k < length ends → get_or (pieces ws from ends) k [] ≡ take (get_or ends k 0 - get_or (from ∷ ends) k 0) (drop (get_or (from ∷ ends) k 0) ws)
pieces-get ws from [] k lt = absurd (omega arith)
pieces-get ws from (e ∷ es) zero lt = refl
pieces-get ws from (e ∷ es) (suc k) lt = pieces-get ws e es k (omega arith)

within-append : {A : Type 0} (ws c : List A) (from to : ℕ) → from ≤ to → to ≤ length ws → take (to - from) (drop from (ws ++ c)) ≡ take (to - from) (drop from ws)
within-append ws c from to le within =
    ap (take (to - from)) (drop-append-le from ws c (omega arith))
    ∙ take-append-le (to - from) (drop from ws) c (omega (arith, length-drop from ws))

within-take : {A : Type 0} (ws : List A) (from to end : ℕ) → from ≤ to → to ≤ end → take (to - from) (drop from (take end ws)) ≡ take (to - from) (drop from ws)
within-take ws from to end le within =
    let e1 : take end ws ≡ take (from + (end - from)) ws = ap (λ (n : ℕ). take n ws) (omega arith) in
    ap (λ x. take (to - from) (drop from x)) e1
    ∙ (ap (take (to - from)) (drop-take from (end - from) ws) ∙ take-take (to - from) (end - from) (drop from ws) (omega arith))

pub pieces-push : {A : Type 0} (ws c : List A) (from : ℕ) (ends : List ℕ) (n : ℕ) → AreEnds from ends (length ws) → n ≡ length (ws ++ c) → pieces (ws ++ c) from (ends ++ n ∷ []) ≡ pieces ws from ends ++ c ∷ []
pieces-push ws c from [] n h e =
    let all : take (n - from) (drop from (ws ++ c)) ≡ c =
    ap (take (n - from)) (drop_at ws c from (sym h)) ∙ take_all (n - from) c (omega (arith, length-append ws c)) in
    ap (λ x. x ∷ []) all
pieces-push ws c from (e ∷ es) n h is =
    ap (λ x. x ∷ pieces (ws ++ c) e (es ++ n ∷ [])) (within-append ws c from e h.0 (ends-le e es (length ws) h.1))
    ∙ ap (λ x. take (e - from) (drop from ws) ∷ x) (pieces-push ws c e es n h.1 is)

pub pieces-take : {A : Type 0} (ws : List A) (from : ℕ) (ends : List ℕ) (n k end : ℕ) → AreEnds from ends n → k ≤ length ends → get_or (from ∷ ends) k 0 ≤ end → pieces (take end ws) from (take k ends) ≡ take k (pieces ws from ends)
pieces-take ws from ends n zero end h le within = refl
pieces-take ws from [] n (suc k) end h le within = absurd (omega arith)
pieces-take ws from (e ∷ es) n (suc k) end h le within =
    let here : e ≤ get_or (e ∷ es) k 0 = (ends-before e es n k h.1 (omega arith)).0 in
    ap (λ x. x ∷ pieces (take end ws) e (take k es)) (within-take ws from e end h.0 (omega arith))
    ∙ ap (λ x. take (e - from) (drop from ws) ∷ x) (pieces-take ws e es n k end h.1 (omega arith) within)

pub pieces-total : {A : Type 0} (ws : List A) (from : ℕ) (ends : List ℕ) (n : ℕ) → AreEnds from ends n → n ≤ length ws → total (pieces ws from ends) + from ≡ n
pieces-total ws from [] n h le = omega arith
pieces-total ws from (e ∷ es) n h le =
    omega (arith, h.0, ends-le e es n h.1, pieces-total ws e es n h.1 le, length-take (e - from) (drop from ws), length-drop from ws)
