-- What a contract sees of a region: the list of its clauses, and what is spare.
use Rattle.std.specs.Prelude.{ℕ, ◌+◌, ◌-◌, ◌^◌, min, Bool, nat_le, nat_lt, ◌&&◌, List, [], ◌∷◌, ◌++◌, length, take, slice_index_or}
use Rattle.pg_region.specs.Literal.{Literal}
use Rattle.pg_region.specs.Pieces.{total}

pub record RegionTable : Type 0 where
  pub clauses : List (List Literal)
  pub spare_words : ℕ
  pub spare_spans : ℕ
  pub pushes : ℕ

-- a count of 64 bits, one higher; at its end it stays
abbrev pub counted : ℕ → ℕ
counted n = min (n + 1) (2 ^ 64 - 1)

-- a clause fits: it has no more literals than there are spare words, and a span is spare
abbrev pub takes : RegionTable → List Literal → Bool
takes r c = nat_le (length c) r.spare_words && nat_lt 0 r.spare_spans

-- a clause behind all others
abbrev pub pushed : RegionTable → List Literal → RegionTable
pushed r c = record {
  clauses = r.clauses ++ c ∷ [];
  spare_words = r.spare_words - length c;
  spare_spans = r.spare_spans - 1;
  pushes = counted r.pushes;
}

-- the first k clauses: spare words and literals together stay as many, and so do spare spans and clauses
abbrev pub released : RegionTable → ℕ → RegionTable
released r k = record {
  clauses = take k r.clauses;
  spare_words = (r.spare_words + total r.clauses) - total (take k r.clauses);
  spare_spans = (r.spare_spans + length r.clauses) - length (take k r.clauses);
  pushes = r.pushes;
}

-- the clause at a place, from 0 on
abbrev pub clause_at : List (List Literal) → ℕ → List Literal
clause_at cs k = slice_index_or cs k []
