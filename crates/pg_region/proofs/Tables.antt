use Rattle.std.proofs.Common.{◌≡◌, ℕ, ◌<◌, ◌≤◌, true, List, [], ◌∷◌, ◌++◌, length, get_or, take, sym, ap, subst, ◌∙◌, arith, length-append, nat_le, nat_lt, ◌&&◌}
use Rattle.std.proofs.lemmas.List.{length-take, length_push}
use Rattle.pg_region.specs.Literal.{Literal}
use Rattle.pg_region.specs.Region.{RegionTable}
use Rattle.pg_region.specs.Room.{IsRegion}
use Rattle.pg_region.specs.Pieces.{pieces, total, AreEnds}
use Rattle.pg_region.proofs.Pieces.{ends-before, ends-push, ends-take, pieces-take, pieces-total}

pub same_table : (a a' : List (List Literal)) (b b' d d' p p' : ℕ) → a ≡ a' → b ≡ b' → d ≡ d' → p ≡ p' →
    (let x : RegionTable = record { clauses = a; spare_words = b; spare_spans = d; pushes = p } in x)
    ≡ record { clauses = a'; spare_words = b'; spare_spans = d'; pushes = p' }
same_table a a' b b' d d' p p' e f g h = cc

pub region-pushed : (ws c : List Literal) (ends : List ℕ) (w s n : ℕ) → IsRegion ws ends w s → n ≡ length (ws ++ c) → n ≤ w → length ends < s → IsRegion (ws ++ c) (ends ++ n ∷ []) w s
region-pushed ws c ends w s n r is words spans = record {
  pieces_end = subst (λ (m : ℕ). AreEnds 0 (ends ++ n ∷ []) m) is (ends-push 0 ends (length ws) n r.pieces_end (omega (arith, length-append ws c)));
  words_fit = omega arith;
  ends_fit = omega (arith, length_push ends n);
  few_words = r.few_words;
  few_spans = r.few_spans;
}

pub region-cut : (ws : List Literal) (ends : List ℕ) (w s k : ℕ) → IsRegion ws ends w s → k ≤ length ends → IsRegion (take (get_or (0 ∷ ends) k 0) ws) (take k ends) w s
region-cut ws ends w s k r le =
    let e = get_or (0 ∷ ends) k 0 in
    let b = ends-before 0 ends (length ws) k r.pieces_end le in
    let long : length (take e ws) ≡ e = omega (arith, length-take e ws, b.1) in
    record {
      pieces_end = subst (λ (m : ℕ). AreEnds 0 (take k ends) m) (sym long) (ends-take 0 ends (length ws) k r.pieces_end le);
      words_fit = omega (arith, r.words_fit, b.1, long);
      ends_fit = omega (arith, r.ends_fit, length-take k ends);
      few_words = r.few_words;
      few_spans = r.few_spans;
    }

-- what is cut off
pub cut-total : (ws : List Literal) (ends : List ℕ) (w s k : ℕ) → IsRegion ws ends w s → k ≤ length ends →
    total (take k (pieces ws 0 ends)) ≡ get_or (0 ∷ ends) k 0
cut-total ws ends w s k r le =
    let e = get_or (0 ∷ ends) k 0 in
    let b = ends-before 0 ends (length ws) k r.pieces_end le in
    let same = pieces-take ws 0 ends (length ws) k e r.pieces_end le (omega arith) in
    let long : length (take e ws) ≡ e = omega (arith, length-take e ws, b.1) in
    ap total (sym same) ∙ omega (arith, pieces-total (take e ws) 0 (take k ends) e (ends-take 0 ends (length ws) k r.pieces_end le) (omega arith))

pub takes-true : (n w s : ℕ) → n ≤ w → 0 < s → (nat_le n w && nat_lt 0 s) ≡ true
takes-true n w s a b = grind arith
