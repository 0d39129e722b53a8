-- What is left in a sink by several emitters, one after the other.
use Rattle.std.proofs.Common.{Bool, List, ◌++◌, Result, Ok, Err}
use Rattle.pg_region.specs.Literal.{Literal}
use Rattle.pg_region.specs.Sink.{Capacity, SinkView, Appended, Emitted}
use Rattle.pg_tables.proofs.Sinks.{Appended-then, Stopped-later}

-- behind what was appended, whatever an emitter answers
pub Emitted-later : {F : Type 0} (takes : List (List Literal) → Capacity → List Literal → Bool) (r : Result (Unit {0}) F) (a b c : SinkView) (cs ds : List (List Literal))
    → Appended a b cs → Emitted takes r b c ds → Emitted takes r a c (cs ++ ds)
Emitted-later takes (Ok u) a b c cs ds p q = Appended-then a b c cs ds p q
Emitted-later takes (Err f) a b c cs ds p q = Stopped-later takes a b c cs ds p q
