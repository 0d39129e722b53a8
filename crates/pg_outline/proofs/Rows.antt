-- Lists with a row for each thread.
use Rattle.std.proofs.Common.{◌≡◌, ℕ, zero, suc, ◌<◌, List, [], ◌∷◌, length, map, get_or, refl, ap, ◌∙◌, arith}

-- the row of a thread is as long as what is counted of it
pub rows_sized : {A B C S : Type 0} (f : A → List B) (g : List B → List C) (count : S → ℕ) (rows : List A) (ss : List S) (i : ℕ) (row : A) (none : S)
    → i < length rows → row ≡ get_or rows i row → map length (map g (map f rows)) ≡ map count ss → length (g (f row)) ≡ count (get_or ss i none)
rows_sized f g count [] ss i row none below read same = absurd (omega arith)
rows_sized f g count (r ∷ rows) [] i row none below read same = cc
rows_sized f g count (r ∷ rows) (s ∷ ss) zero row none below read same =
    let first : length (g (f r)) ≡ count s = cc in ap (λ (x : _). length (g (f x))) read ∙ first
rows_sized f g count (r ∷ rows) (s ∷ ss) (suc i) row none below read same =
    let others : map length (map g (map f rows)) ≡ map count ss = cc in
    rows_sized f g count rows ss i row none (omega arith) read others

-- there is a row for each thread
pub rows_counted : {A B C S : Type 0} (f : A → List B) (g : List B → List C) (count : S → ℕ) (rows : List A) (ss : List S)
    → map length (map g (map f rows)) ≡ map count ss → length rows ≡ length ss
rows_counted f g count [] [] same = refl
rows_counted f g count [] (s ∷ ss) same = cc
rows_counted f g count (r ∷ rows) [] same = cc
rows_counted f g count (r ∷ rows) (s ∷ ss) same =
    let others : map length (map g (map f rows)) ≡ map count ss = cc in ap suc (rows_counted f g count rows ss others)
