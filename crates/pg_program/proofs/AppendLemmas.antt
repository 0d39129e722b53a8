-- Lists that are appended part by part, where a part may fail for want of memory.
use Rattle.std.proofs.Common.{◌≡◌, refl, List, [], ◌++◌, ap, sym, ◌∙◌, append-nil, append_assoc, Result, Ok, Err, OnOk}
use Rattle.std.specs.Result.{IsErr}

-- a fault owes nothing
pub owes_nothing : {T E : Type 0} (r : Result T E) (P : Type 0) → IsErr r → OnOk r P
owes_nothing (Ok v) P h = cc
owes_nothing (Err e) P h = tt

-- there is nothing to append
pub append_none : {X : Type 0} (old zs : List X) → zs ≡ [] → old ≡ old ++ zs
append_none old zs none = sym (ap (λ ys. old ++ ys) none ∙ append-nil old)

-- one part is appended, and then another
pub append_both : {X T E : Type 0} (r : Result T E) (old mid new xs ys zs : List X) → mid ≡ old ++ xs → zs ≡ xs ++ ys → OnOk r (new ≡ mid ++ ys)
    → OnOk r (new ≡ old ++ zs)
append_both (Ok v) old mid new xs ys zs first is second =
    second ∙ (ap (λ l. l ++ ys) first ∙ (append_assoc old xs ys ∙ ap (λ l. old ++ l) (sym is)))
append_both (Err e) old mid new xs ys zs first is second = tt

pub append_three : {X T E : Type 0} (r : Result T E) (old one two new xs ys zs all : List X) → one ≡ old ++ xs → two ≡ one ++ ys → all ≡ xs ++ (ys ++ zs)
    → OnOk r (new ≡ two ++ zs) → OnOk r (new ≡ old ++ all)
append_three r old one two new xs ys zs all first second is third =
    append_both r old one new xs (ys ++ zs) all first is (append_both r one two new ys zs (ys ++ zs) second refl third)
