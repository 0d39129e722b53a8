-- A region is a sink: what it takes fits, and its capacity stays.
use Rattle.std.proofs.Common.{◌≡◌, ℕ, ◌+◌, ◌<◌, ◌≤◌, nat_le, nat_lt, true, ◌&&◌, List, [], ◌∷◌, ◌++◌, length, arith}
use Rattle.std.proofs.lemmas.Bool.{and_parts}
use Rattle.std.proofs.lemmas.List.{length_push}
use Rattle.pg_region.specs.Literal.{Literal}
use Rattle.pg_region.specs.Pieces.{total}
use Rattle.pg_region.specs.Region.{RegionTable, takes, pushed, counted}
use Rattle.pg_region.specs.Sink.{SinkView, sink_of, takes_in, IsTaken}

pub total-push : {A : Type 0} (xss : List (List A)) (xs : List A) → total (xss ++ xs ∷ []) ≡ total xss + length xs
total-push [] xs = omega arith
total-push (ys ∷ xss) xs = let rest = total-push xss xs in omega (arith, rest)

same_sink : (list : List (List Literal)) (a b c d n : ℕ) → a ≡ c → b ≡ d →
    (let s : SinkView = record { list = list; capacity = record { words = a; spans = b }; pushes = n } in s)
    ≡ record { list = list; capacity = record { words = c; spans = d }; pushes = n }
same_sink list a b c d n e f = cc

fits : (n w s t k : ℕ) → nat_le n w ≡ true → nat_lt 0 s ≡ true → (nat_le (t + n) (w + t) && nat_lt k (s + k)) ≡ true
fits n w s t k h g = grind arith

less : (n w s : ℕ) → (nat_le n w && nat_lt 0 s) ≡ true → (n ≤ w) × (0 < s)
less n w s h = grind arith

pub taken : (r : RegionTable) (c : List Literal) → takes r c ≡ true → IsTaken takes_in (sink_of r) (sink_of (pushed r c)) c
taken r c h =
    let parts = and_parts (nat_le (length c) r.spare_words) (nat_lt 0 r.spare_spans) h in
    let few = less (length c) r.spare_words r.spare_spans h in
    let words = few.0 in
    let spans = few.1 in
    record {
      taken = fits (length c) r.spare_words r.spare_spans (total r.clauses) (length r.clauses) parts.0 parts.1;
      is = same_sink (r.clauses ++ c ∷ []) _ _ _ _ (counted r.pushes)
          (let whole = total-push r.clauses c in omega (arith, whole, words))
          (let whole = length_push r.clauses c in omega (arith, whole, spans));
    }
