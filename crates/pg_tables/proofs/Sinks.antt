-- What one emitter after another leaves in a sink.
use Rattle.std.proofs.Common.{◌≡◌, Bool, List, [], ◌∷◌, ◌++◌, Result, Ok, Err, refl, sym, ap, subst, ◌∙◌, append_assoc, arith, length-append}
use Rattle.std.proofs.lemmas.List.{append-nil}
use Rattle.pg_region.specs.Literal.{Literal}
use Rattle.pg_region.specs.Sink.{Capacity, SinkView, IsTaken, IsRefused, Takes, Appended, Stopped, Emitted}

pub Appended-none : (a : SinkView) → Appended a a []
Appended-none a = record { list = sym (append-nil a.list); capacity = refl; pushes = omega arith }

pub Appended-then : (a b c : SinkView) (cs ds : List (List Literal)) → Appended a b cs → Appended b c ds → Appended a c (cs ++ ds)
Appended-then a b c cs ds p q = record {
  list = q.list ∙ ap (λ l. l ++ ds) p.list ∙ append_assoc a.list cs ds;
  capacity = q.capacity ∙ p.capacity;
  pushes = omega (arith, length-append cs ds, p.pushes, q.pushes);
}

pub Stopped-first : (takes : List (List Literal) → Capacity → List Literal → Bool) (a b : SinkView) (cs ds : List (List Literal))
    → Stopped takes a b cs → Stopped takes a b (cs ++ ds)
Stopped-first takes a b cs ds p = record {
  done = p.done;
  next = p.next;
  rest = p.rest ++ ds;
  parts = ap (λ l. l ++ ds) p.parts ∙ append_assoc p.done (p.next ∷ p.rest) ds;
  appended = p.appended;
  refused = p.refused;
}

pub Stopped-later : (takes : List (List Literal) → Capacity → List Literal → Bool) (a b c : SinkView) (cs ds : List (List Literal))
    → Appended a b cs → Stopped takes b c ds → Stopped takes a c (cs ++ ds)
Stopped-later takes a b c cs ds p q = record {
  done = cs ++ q.done;
  next = q.next;
  rest = q.rest;
  parts = ap (λ l. cs ++ l) q.parts ∙ sym (append_assoc cs q.done (q.next ∷ q.rest));
  appended = Appended-then a b c cs q.done p q.appended;
  refused = q.refused;
}

-- the sink itself takes one clause
pub Appended-one : (takes : List (List Literal) → Capacity → List Literal → Bool) (a b : SinkView) (c : List Literal)
    → IsTaken takes a b c → Appended a b (c ∷ [])
Appended-one takes a b c p = record {
  list = ap (λ s. s.list) p.is;
  capacity = ap (λ s. s.capacity) p.is;
  pushes = let e = ap (λ s. s.pushes) p.is in omega (arith, e);
}

pub Stopped-one : (takes : List (List Literal) → Capacity → List Literal → Bool) (a b : SinkView) (c : List Literal)
    → IsRefused takes a b c → Stopped takes a b (c ∷ [])
Stopped-one takes a b c p = record {
  done = [];
  next = c;
  rest = [];
  parts = refl;
  appended = subst (λ (s : SinkView). Appended a s []) (sym p.is) (Appended-none a);
  refused = ap (λ s. takes s.list s.capacity c) p.is ∙ p.refused;
}

-- so an emitter may give it one clause that is the one wanted
pub Emitted-one : {F : Type 0} (takes : List (List Literal) → Capacity → List Literal → Bool) (r : Result (Unit {0}) F) (a b : SinkView) (c d : List Literal)
    → d ≡ c → Takes takes r a b d → Emitted takes r a b (c ∷ [])
Emitted-one takes (Ok u) a b c d e p = Appended-one takes a b c (subst (λ (x : List Literal). IsTaken takes a b x) e p)
Emitted-one takes (Err f) a b c d e p = Stopped-one takes a b c (subst (λ (x : List Literal). IsRefused takes a b x) e p)
