-- What a sink of clauses holds, and what an emitter leaves in it.
use Rattle.std.specs.Prelude.{◌≡◌, ℕ, ◌+◌, ◌≤◌, Bool, true, false, nat_le, nat_lt, ◌&&◌, List, [], ◌∷◌, ◌++◌, length, Result, MatchResult}
use Rattle.pg_region.specs.Literal.{Literal}
use Rattle.pg_region.specs.Pieces.{total}
use Rattle.pg_region.specs.Region.{RegionTable, counted}

-- how many words and spans there are, the spare ones and those of the clauses together
pub record Capacity : Type 0 where
  pub words : ℕ
  pub spans : ℕ

-- the list of a sink's clauses, its capacity, and how many clauses were pushed
pub record SinkView : Type 0 where
  pub list : List (List Literal)
  pub capacity : Capacity
  pub pushes : ℕ

-- a region as a sink
abbrev pub sink_of : RegionTable → SinkView
sink_of r = record {
  list = r.clauses;
  capacity = record { words = r.spare_words + total r.clauses; spans = r.spare_spans + length r.clauses };
  pushes = r.pushes;
}

-- a region of this capacity has room for one more clause
abbrev pub takes_in : List (List Literal) → Capacity → List Literal → Bool
takes_in list room c = nat_le (total list + length c) room.words && nat_lt (length list) room.spans

-- a clause is taken where the sink takes it, and is then behind all others; and else nothing changes
pub record IsTaken (takes : List (List Literal) → Capacity → List Literal → Bool) (old new : SinkView) (c : List Literal) : Type 0 where
  pub taken : takes old.list old.capacity c ≡ true
  pub is : new ≡ record { list = old.list ++ c ∷ []; capacity = old.capacity; pushes = counted old.pushes }

pub record IsRefused (takes : List (List Literal) → Capacity → List Literal → Bool) (old new : SinkView) (c : List Literal) : Type 0 where
  pub refused : takes old.list old.capacity c ≡ false
  pub is : new ≡ old

abbrev pub Takes : {F : Type 0} → (List (List Literal) → Capacity → List Literal → Bool) → Result (Unit {0}) F → SinkView → SinkView → List Literal → Type 0
Takes takes r old new c = MatchResult r (λ _. IsTaken takes old new c) (λ _. IsRefused takes old new c)

-- ---- emitters, which give a sink several clauses one after the other

-- these clauses were appended
pub record Appended (old new : SinkView) (cs : List (List Literal)) : Type 0 where
  pub list : new.list ≡ old.list ++ cs
  pub capacity : new.capacity ≡ old.capacity
  pub pushes : new.pushes ≤ old.pushes + length cs

-- a prefix of these clauses was appended, and the next one is not taken
pub record Stopped (takes : List (List Literal) → Capacity → List Literal → Bool) (old new : SinkView) (cs : List (List Literal)) : Type 0 where
  pub done : List (List Literal)
  pub next : List Literal
  pub rest : List (List Literal)
  pub parts : cs ≡ done ++ (next ∷ rest)
  pub appended : Appended old new done
  pub refused : takes new.list new.capacity next ≡ false

abbrev pub Emitted : {F : Type 0} → (List (List Literal) → Capacity → List Literal → Bool) → Result (Unit {0}) F → SinkView → SinkView → List (List Literal) → Type 0
Emitted takes r old new cs = MatchResult r (λ _. Appended old new cs) (λ _. Stopped takes old new cs)
