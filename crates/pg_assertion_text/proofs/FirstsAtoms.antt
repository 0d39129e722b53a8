-- The first faults of assertions and of crash formulas.
use Rattle.std.proofs.Common.{◌≡◌, ℕ, ◌<◌, ◌≤◌, ◌-◌, Ok, Err, List, [], ◌∷◌, length, refl, ap, sym, ◌∙◌, subst, lit<, inl}
use Rattle.std.specs.Prelude.{Result}
use Rattle.pg_lex.specs.declared.token.Sign.TheVariants as s
use Rattle.pg_lex.specs.declared.fault.TextFault.{TextFault}
use Rattle.pg_lex.specs.Lex.{Cursor, Lexeme, token, after}
use Rattle.pg_program.specs.NameTable.{NameTable, IsNameTable}
use Rattle.pg_program.specs.declared.name_table.NameRef.{NameRef}
use Rattle.pg_program.specs.declared.name_table.NameRef.TheVariants as place
use Rattle.pg_assertion.specs.declared.atom.RawAtom.{RawAtom}
use Rattle.pg_assertion.specs.declared.atom.CrashAtom.{CrashAtom}
use Rattle.pg_assertion.specs.declared.atom.CrashAtom.TheVariants as crash
use Rattle.pg_assertion.specs.declared.formula.Formula.{Formula}
use Rattle.pg_assertion_text.specs.Words.{Item, Stands, Stand, Matches, sign, number, location}
use Rattle.pg_assertion_text.specs.Input.{Input, Outcome, Parser, and_then, ◌>>=◌, ◌>>◌, pure, allowed, next, node, named}
use Rattle.pg_assertion_text.specs.Atoms.{equals, of_name, raw_atom, crash_atom, crash_items, IsRaw, IsCrash}
use Rattle.pg_assertion_text.specs.Parsing.{formula_at, ReadsAt}
use Rattle.pg_assertion_text.specs.Spelling.{location_name}
use Rattle.pg_assertion_text.specs.Agreement.{Alike}
use Rattle.pg_assertion_text.specs.FirstFaults.{BlamesFirst}
use Rattle.pg_assertion_text.proofs.Steps.{bind_value, allowed_then, next_found, node_found, stands_token, node_reads, named_reads}
use Rattle.pg_assertion_text.proofs.AtomLaws.{raw_found, raw_again, raw_begins, item_of, named_matches, crash_items_are, crash_found, crash_again, crash_begins}
use Rattle.pg_assertion_text.proofs.SpellingAtoms.{number_spells, location_spells}
use Rattle.pg_assertion_text.proofs.Complete.{at}
use Rattle.pg_assertion_text.proofs.Moves.{Past, Moves, token_moves, one_later, bind_at, bind_moves, allowed_at, node_at, moves_pure}
use Rattle.pg_assertion_text.proofs.MovesAtoms.{equals_moves, raw_moves}
use Rattle.pg_assertion_text.proofs.Reaches.{ReachedAtom}
use Rattle.pg_assertion_text.proofs.ReachesAtoms.{stand_ends, stand_moved, stand_solid, equals_follows, made_follows, by_first, raw_reached}
use Rattle.pg_assertion_text.proofs.Looser.{Looser, loose_then, loose_next, loose_allowed, loose_node, loose_equals, loose_pure, loose_raw}
use Rattle.pg_assertion_text.proofs.Opens.{Easy, Here, OpenedAtom, next_here, node_here}
use Rattle.pg_assertion_text.proofs.OpensAtoms.{equal, a_number, allowed_here, bind_atom, first_then, reads_equals, raw_open}
use Rattle.pg_assertion_text.proofs.Limits.{LimitedAtom, next_free}
use Rattle.pg_assertion_text.proofs.LimitsAtoms.{named_free, allowed_free, then_free, pure_free, free_equals, bind_at_limit, node_limit, raw_limit}
use Rattle.pg_assertion_text.proofs.Firsts.{answer_is_first}

-- ---- atoms of crash formulas

-- what follows the name that an atom begins with
abbrev behind_name : NameRef → Parser CrashAtom
behind_name r = equals >>= (λ k. pure (of_name r k))

abbrev from_token : NameTable → Lexeme → Parser CrashAtom
from_token names t = allowed t.place (named names t) >>= (λ r. (node t.place >> equals) >>= (λ k. pure (of_name r k)))

crash_moves : (names : NameTable) → Moves (crash_atom names)
unfolding crash_atom
crash_moves names = token_moves (from_token names) (λ c r t is j at room.
    bind_at 0 c r (allowed t.place (named names t) j) (λ x. (node t.place >> equals) >>= (λ k. pure (of_name x k))) (allowed_at c r t (named names t) is j (one_later c r j at room)) (λ x k e l.
    bind_moves 0 c r (and_then (node t.place k) (λ u. equals)) (λ n. pure (of_name x n))
    (bind_moves 0 c r (node t.place k) (λ u. equals) (node_at c r t is k l) (λ u. equals_moves)) (λ n. moves_pure (of_name x n))))

loose_crash : (names : NameTable) → Looser (crash_atom names) (crash_atom names)
unfolding crash_atom
loose_crash names = loose_then next next _ _ loose_next (λ t. loose_then (allowed t.place (named names t)) (allowed t.place (named names t)) _ _ (loose_allowed t.place (named names t)) (λ r.
    loose_then (node t.place >> equals) (node t.place >> equals) _ _ (loose_then (node t.place) (node t.place) _ _ (loose_node t.place) (λ u. loose_equals)) (λ k. loose_pure (of_name r k))))

module _ (names : NameTable) where
  name_first : (x : NameRef) (c : Cursor) (r : ℕ) → 0 < r → (st : Stands names (item_of x) c (after c)) → named names st.lexeme ≡ Ok x → crash_atom names (at c r) ≡ behind_name x (at (after c) (r - 1))
  unfolding crash_atom
  name_first x c r some st reads =
      let t = st.lexeme in
      bind_value (next (at c r)) _ t (at (after c) r) (stands_token names (item_of x) (at c r) (after c) st)
      ∙ ap (λ z. and_then (allowed t.place z (at (after c) r)) (λ x. (node t.place >> equals) >>= (λ k. pure (of_name x k)))) reads
      ∙ ap (λ o. and_then (and_then o (λ u. equals)) (λ k. pure (of_name x k))) (node_reads t.place (at (after c) r) some)

  name_reads : (x : NameRef) (t : Lexeme) → Matches names (item_of x) t → named names t ≡ Ok x
  name_reads (place.Location x) t m = named_reads names t (place.Location x) m.0 m.1 m.2
  name_reads (place.Scalar x) t m = named_reads names t (place.Scalar x) m.0 m.1 m.2

  abbrev equation : NameRef → ℕ → List Item
  equation x k = item_of x ∷ sign s.Equal ∷ number k ∷ []

  part : (x : NameRef) (k : ℕ) (d to : Cursor) → Stand names (equation x k) d to → (c : Cursor) (r m : ℕ) → m ≤ length (equation x k) → Alike m c d → 0 < r → Past m c r (crash_atom names (at c r))
  part x k d to st = by_first names (crash_atom names) (crash_moves names) (item_of x) (sign s.Equal ∷ number k ∷ []) (λ c r. behind_name x (at c r)) d to st
      (λ c r some here. name_first x c r some here (name_reads x here.lexeme here.matches))
      (λ c r m most al. (made_follows names equals (λ k. of_name x k) k (sign s.Equal ∷ number k ∷ []) (equals_follows names k) st.0 to st.2).part c r m most (subst (Alike m c) (sym st.1.behind) al))

  crash_reached : (d to : Cursor) (a : CrashAtom) → IsCrash names d a to → ReachedAtom (IsCrash names) (crash_atom names) d a to
  crash_reached d to (crash.Scalar x k) st = record {
    k = length (equation (place.Scalar x) k);
    spans = stand_ends names (equation (place.Scalar x) k) d to st;
    moved = λ c al. stand_moved names (equation (place.Scalar x) k) d to c st al;
    part = part (place.Scalar x) k d to st;
    solid = stand_solid names (equation (place.Scalar x) k) d to st;
  }
  crash_reached d to (crash.Location x k) st = record {
    k = length (equation (place.Location x) k);
    spans = stand_ends names (equation (place.Location x) k) d to st;
    moved = λ c al. stand_moved names (equation (place.Location x) k) d to c st al;
    part = part (place.Location x) k d to st;
    solid = stand_solid names (equation (place.Location x) k) d to st;
  }

module _ (names : NameTable) (easy_number : Easy names (number 0)) (some_location : ℕ) (easy_location : Easy names (location some_location)) where
  name_open : (c : Cursor) (t : Lexeme) → token c ≡ Ok t → (i : Input) → i.cursor ≡ after c → OpenedAtom names (IsCrash names) c (from_token names t i)
  name_open c t is i behind =
      bind_atom names easy_number some_location easy_location (IsCrash names) c (allowed t.place (named names t) i) (λ x. (node t.place >> equals) >>= (λ k. pure (of_name x k))) (allowed_here names easy_number some_location easy_location c t (named names t) i is) (λ x j allows.
      allowed_then t.place (named names t) i (x, j) allows (λ y found same.
      let st : Stands names (item_of x) c j.cursor = record {
        lexeme = t;
        read = is;
        matches = named_matches names t x (found ∙ ap (λ (q : NameRef × Input). Ok q.0) same);
        behind = sym (ap (λ (q : NameRef × Input). q.1.cursor) same) ∙ behind;
      } in
      by x j st (node t.place j) refl (node_here c t is j)))
    where
      by : (x : NameRef) (j : Input) → Stands names (item_of x) c j.cursor → (o : Outcome (Unit {0})) → node t.place j ≡ o → Here c o
          → OpenedAtom names (IsCrash names) c (and_then (and_then o (λ u. equals)) (λ k. pure (of_name x k)))
      by x j st (Err e) noded h = inl h
      by x j st (Ok q) noded h =
          first_then names easy_number some_location easy_location crash_items equals (λ k. of_name x k) (item_of x) (equal ∷ a_number ∷ []) c q.1 (reads_equals names easy_number some_location easy_location)
          (subst (Stands names (item_of x) c) (sym (node_found t.place j q.1 q.0 noded).0) st) (λ w. (of_name x w.0, sym (crash_items_are x w.0)))

  crash_open : (i : Input) → OpenedAtom names (IsCrash names) i.cursor (crash_atom names i)
  unfolding crash_atom
  crash_open i = bind_atom names easy_number some_location easy_location (IsCrash names) i.cursor (next i) (from_token names) (next_here i) (λ t j h. let f = next_found i j t h in name_open i.cursor t f.0 j (ap (λ (q : Input). q.cursor) f.1))

  name_limit : (c : Cursor) (t : Lexeme) → token c ≡ Ok t → (i : Input) → LimitedAtom names (IsCrash names) c (from_token names t i)
  name_limit c t is i =
      bind_at_limit names easy_number some_location easy_location (IsCrash names) c (allowed t.place (named names t) i) (λ x. (node t.place >> equals) >>= (λ k. pure (of_name x k))) (allowed_free t.place (named names t) i (named_free names t)) (λ x j allows.
      allowed_then t.place (named names t) i (x, j) allows (λ y found same.
      let st : Stands names (item_of x) c (after c) = record {
        lexeme = t;
        read = is;
        matches = named_matches names t x (found ∙ ap (λ (q : NameRef × Input). Ok q.0) same);
        behind = refl;
      } in
      subst (λ o. LimitedAtom names (IsCrash names) c o) (assoc (node t.place j) (λ k. pure (of_name x k)))
      (node_limit names easy_number some_location easy_location crash_items c t is (item_of x) st (equal ∷ a_number ∷ [], of_name x 0, sym (crash_items_are x 0)) j (behind_name x) (then_free equals (λ k. pure (of_name x k)) free_equals (λ k. pure_free (of_name x k))))))
    where
      assoc : (o : Outcome (Unit {0})) (f : ℕ → Parser CrashAtom) → and_then o (λ u. equals >>= f) ≡ and_then (and_then o (λ u. equals)) f
      assoc (Ok p) f = refl
      assoc (Err e) f = refl

  crash_limit : (i : Input) → LimitedAtom names (IsCrash names) i.cursor (crash_atom names i)
  unfolding crash_atom
  crash_limit i = bind_at_limit names easy_number some_location easy_location (IsCrash names) i.cursor (next i) (from_token names) (next_free i) (λ t j h. name_limit i.cursor t (next_found i j t h).0 j)

-- ---- answers

zero_is_easy : (names : NameTable) → Easy names (number 0)
zero_is_easy names = λ some. (_, number_spells names 0 (lit< tt))

location_is_easy : (names : NameTable) → IsNameTable names → Easy names (location 0)
location_is_easy names table = λ some. (location_name names 0, location_spells names 0 table some.are some.some)

pub raw_answer_is_first : (names : NameTable) → IsNameTable names → (old new : Cursor) (r : Result (Formula RawAtom) TextFault) → ReadsAt (formula_at raw_atom names old) r new → BlamesFirst IsRaw names old r
raw_answer_is_first = answer_is_first raw_atom IsRaw raw_found raw_again raw_begins raw_moves loose_raw raw_reached
    (λ names table i. raw_open names (zero_is_easy names) 0 (location_is_easy names table) i)
    (λ names table i. raw_limit names (zero_is_easy names) 0 (location_is_easy names table) i)

pub crash_answer_is_first : (names : NameTable) → IsNameTable names → (old new : Cursor) (r : Result (Formula CrashAtom) TextFault) → ReadsAt (formula_at crash_atom names old) r new → BlamesFirst IsCrash names old r
crash_answer_is_first = answer_is_first crash_atom IsCrash crash_found crash_again crash_begins crash_moves loose_crash crash_reached
    (λ names table i. crash_open names (zero_is_easy names) 0 (location_is_easy names table) i)
    (λ names table i. crash_limit names (zero_is_easy names) 0 (location_is_easy names table) i)
