-- The line of a refused crash, as its pieces are appended.
use Rattle.std.proofs.Common.{◌≡◌, ℕ, List, [], ◌∷◌, ◌++◌, refl, sym, ap, ◌∙◌}

join : (x y z : List ℕ) → (x ++ y) ++ z ≡ x ++ (y ++ z)
join [] y z = refl
join (w ∷ x) y z = ap (λ (l : List ℕ). w ∷ l) (join x y z)

behind : (old a b c d t : List ℕ) → (old ++ (a ++ (b ++ (c ++ d)))) ++ t ≡ old ++ (a ++ (b ++ (c ++ (d ++ t))))
behind old a b c d t =
    join old (a ++ (b ++ (c ++ d))) t
    ∙ ap (λ (l : List ℕ). old ++ l)
    (join a (b ++ (c ++ d)) t ∙ ap (λ (l : List ℕ). a ++ l) (join b (c ++ d) t ∙ ap (λ (l : List ℕ). b ++ l) (join c d t)))

grouped : (label name s p e : List ℕ) → (label ++ name) ++ (s ++ (p ++ e)) ≡ (label ++ (name ++ (s ++ p))) ++ e
grouped label name s p e =
    join label name (s ++ (p ++ e))
    ∙ ap (λ (l : List ℕ). label ++ l) (ap (λ (l : List ℕ). name ++ l) (sym (join s p e)) ∙ sym (join name (s ++ p) e))
    ∙ sym (join label (name ++ (s ++ p)) e)

-- the place, a label with a name, and then what is behind a sign and ends the line
pub located : (old a b c label name s p e mid new : List ℕ) → mid ≡ old ++ (a ++ (b ++ (c ++ (label ++ name)))) → new ≡ mid ++ (s ++ (p ++ e))
    → new ≡ old ++ (a ++ (b ++ (c ++ ((label ++ (name ++ (s ++ p))) ++ e))))
located old a b c label name s p e mid new h k =
    k
    ∙ (ap (λ (l : List ℕ). l ++ (s ++ (p ++ e))) h
    ∙ (behind old a b c (label ++ name) (s ++ (p ++ e))
    ∙ ap (λ (l : List ℕ). old ++ (a ++ (b ++ (c ++ l)))) (grouped label name s p e)))
