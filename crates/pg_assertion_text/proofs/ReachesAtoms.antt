-- The same of atoms: their readers go from item to item.
use Rattle.std.proofs.Common.{◌≡◌, ℕ, zero, suc, ◌+◌, ◌-◌, ◌<◌, ◌≤◌, Ok, List, [], ◌∷◌, ◌++◌, length, length-append, refl, ap, sym, ◌∙◌, subst, arith, inl, inr}
use Rattle.std.proofs.lemmas.Bool.Decides.{leb_tells}
use Rattle.pg_lex.specs.declared.token.Sign.{Sign}
use Rattle.pg_lex.specs.declared.token.Sign.TheVariants as s
use Rattle.pg_lex.specs.Lex.{Cursor, after}
use Rattle.pg_program.specs.NameTable.{NameTable}
use Rattle.pg_program.specs.declared.name_table.NameRef.TheVariants as place
use Rattle.pg_assertion.specs.declared.atom.RawAtom.{RawAtom}
use Rattle.pg_assertion.specs.declared.atom.RawAtom.TheVariants as raw
use Rattle.pg_assertion_text.specs.Words.{Item, Stands, Stand, sign, letter, number, location, scalar}
use Rattle.pg_assertion_text.specs.Input as input
use Rattle.pg_assertion_text.specs.Input.{Input, Outcome, Parser, and_then, ◌>>=◌, ◌>>◌, pure, allowed, node, expect, named, scalar_in}
use Rattle.pg_assertion_text.specs.Atoms.{equals, cell, thread, last, seen, read, two_reads, lettered, raw_by, raw_atom, raw_items, IsRaw}
use Rattle.pg_assertion_text.proofs.Steps.{bind_value, stands_token, stand-split, node_reads, named_reads, expect_reads, number_reads, location_reads}
use Rattle.pg_assertion_text.specs.Agreement.{ahead, Alike}
use Rattle.pg_assertion_text.proofs.Complete.{at}
use Rattle.pg_assertion_text.proofs.Moves.{ahead-add, Past, Moves, shift, bind_moves, moves_then, moves_pure, expect_moves, number_moves, location_moves}
use Rattle.pg_assertion_text.proofs.MovesAtoms.{comma_moves, cell_moves, thread_moves, closed_moves, second_moves, raw_moves}
use Rattle.pg_assertion_text.proofs.Reaches.{alike-split, alike-less, alike-rest, alike-at, stands_like, past_ok, Solid, item_solid, ReachedAtom}

-- ---- items in two texts

pub stand_ends : (names : NameTable) (items : List Item) (d to : Cursor) → Stand names items d to → to ≡ ahead (length items) d
stand_ends names [] d to st = st
stand_ends names (i ∷ is) d to st =
    let e : suc (length is) ≡ length (i ∷ is) = omega arith in
    stand_ends names is st.0 to st.2 ∙ ap (ahead (length is)) st.1.behind ∙ ap (λ n. ahead n d) e

pub stand_moved : (names : NameTable) (items : List Item) (d to c : Cursor) → Stand names items d to → Alike (length items) c d → Stand names items c (ahead (length items) c)
stand_moved names [] d to c st al = refl
stand_moved names (i ∷ is) d to c st al =
    let e : suc (length is) ≡ length (i ∷ is) = omega arith in
    let al = alike-at (length (i ∷ is)) (suc (length is)) c d (sym e) al in
    subst (Stand names (i ∷ is) c) (ap (λ n. ahead n c) e)
    (after c, stands_like names i d st.0 c st.1 al.0, stand_moved names is st.0 to (after c) st.2 (subst (Alike (length is) (after c)) (sym st.1.behind) al.1))

pub stand_solid : (names : NameTable) (items : List Item) (d to : Cursor) → Stand names items d to → (j : ℕ) → j < length items → Solid (ahead j d)
stand_solid names [] d to st j less = absurd (omega arith)
stand_solid names (i ∷ is) d to st zero less = item_solid names i d st.0 st.1
stand_solid names (i ∷ is) d to st (suc j) less = subst (λ e. Solid (ahead j e)) st.1.behind (stand_solid names is st.0 to st.2 j (omega arith))

-- ---- readers of items

-- The reader reads this along k tokens, and where only some of them are there it gets past these.
pub record Along {A : Type 0} (p : Parser A) (a : A) (k : ℕ) (d : Cursor) : Type 0 where
  pub whole : (c : Cursor) (r : ℕ) → Alike k c d → p (at c r) ≡ Ok (a, at (ahead k c) r)
  pub part : (c : Cursor) (r m : ℕ) → m ≤ k → Alike m c d → Past m c r (p (at c r))

along_then : {A B : Type 0} (p : Parser A) (f : A → Parser B) (a : A) (b : B) (k l n : ℕ) (d : Cursor) → k + l ≡ n → Along p a k d → Along (f a) b l (ahead k d) → ((x : A) → Moves (f x)) → Along (p >>= f) b n d
along_then {A} {B} p f a b k l n d sum first second moves = record { whole = whole; part = part }
  where
    whole : (c : Cursor) (r : ℕ) → Alike n c d → and_then (p (at c r)) f ≡ Ok (b, at (ahead n c) r)
    whole c r al =
        let al = alike-split k l c d (alike-at n (k + l) c d (sym sum) al) in
        ap (λ o. and_then o f) (first.whole c r al.0) ∙ second.whole (ahead k c) r al.1 ∙ ap (λ e. Ok (b, at e r)) (ahead-add l k c ∙ ap (λ q. ahead q c) sum)

    part : (c : Cursor) (r m : ℕ) → m ≤ n → Alike m c d → Past m c r (and_then (p (at c r)) f)
    part c r m most al = elim (leb_tells m k) [
      | inl few ↦ bind_moves m c r (p (at c r)) f (first.part c r m few.1 al) moves
      | inr all ↦
          let less = all.1 in
          subst (λ o. Past m c r (and_then o f)) (sym (first.whole c r (alike-less m k c d (omega (arith, less)) al)))
          (shift m (m - k) c r k (ahead k c) r (f a (at (ahead k c) r)) refl (omega (arith, less)) (omega arith)
          (second.part (ahead k c) r (m - k) (omega (arith, sum)) (alike-rest m k c d (omega (arith, less)) al)))
    ]

abbrev pub Follows : {A : Type 0} → NameTable → Parser A → A → List Item → Type 0
Follows names p a items = (d to : Cursor) → Stand names items d to → Along p a (length items) d

follows_then : {A B : Type 0} (names : NameTable) (p : Parser A) (f : A → Parser B) (a : A) (b : B) (is js : List Item) → Follows names p a is → Follows names (f a) b js → ((x : A) → Moves (f x))
    → Follows names (p >>= f) b (is ++ js)
follows_then names p f a b is js first second moves d to st =
    let sp = stand-split names is js d to st in
    along_then p f a b (length is) (length js) (length (is ++ js)) d (sym (length-append is js)) (first d sp.0 sp.1)
    (subst (Along (f a) b (length js)) (stand_ends names is d sp.0 sp.1) (second sp.0 to sp.2)) moves

follows_pure : {A : Type 0} (names : NameTable) (a : A) → Follows names (pure a) a []
follows_pure names a d to st = record { whole = λ c r al. refl; part = λ c r m most al. past_ok m 0 c r r (pure a (at c r)) a refl most (omega arith) }

follows_item : {A : Type 0} (names : NameTable) (p : Parser A) (a : A) (item : Item) → Moves p
    → ((i : Input) (to : Cursor) → Stands names item i.cursor to → p i ≡ Ok (a, record i { cursor = to })) → Follows names p a (item ∷ [])
follows_item names p a item moves reads d to st = record {
  whole = λ c r al. reads (at c r) (after c) (stands_like names item d st.0 c st.1 al.0);
  part = by;
}
  where
    by : (c : Cursor) (r m : ℕ) → m ≤ length (item ∷ []) → Alike m c d → Past m c r (p (at c r))
    by c r zero most al = moves (at c r)
    by c r (suc m) most al = past_ok (suc m) 1 c r r (p (at c r)) a (reads (at c r) (after c) (stands_like names item d st.0 c st.1 al.0)) (omega arith) (omega arith)

-- ---- each of them

module _ (names : NameTable) where
  sign_follows : (z : Sign) → Follows names (expect z) tt (sign z ∷ [])
  sign_follows z = follows_item names (expect z) tt (sign z) (expect_moves z) (λ i to st. expect_reads names z i to st)

  number_follows : (n : ℕ) → Follows names input.number n (number n ∷ [])
  number_follows n = follows_item names input.number n (number n) number_moves (λ i to st. number_reads names n i to st)

  location_follows : (x : ℕ) → Follows names (input.location names) x (location x ∷ [])
  location_follows x = follows_item names (input.location names) x (location x) (location_moves names) (λ i to st. location_reads names x i to st)

  pub equals_follows : (k : ℕ) → Follows names equals k (sign s.Equal ∷ number k ∷ [])
  unfolding equals
  equals_follows k = follows_then names (expect s.Equal) (λ u. input.number) tt k (sign s.Equal ∷ []) (number k ∷ []) (sign_follows s.Equal) (number_follows k) (λ u. number_moves)

  comma_follows : (v : ℕ) → Follows names (expect s.Comma >> input.number) v (sign s.Comma ∷ number v ∷ [])
  comma_follows v = follows_then names (expect s.Comma) (λ u. input.number) tt v (sign s.Comma ∷ []) (number v ∷ []) (sign_follows s.Comma) (number_follows v) (λ u. number_moves)

  cell_follows : (x v : ℕ) → Follows names (cell names) (x, v) (location x ∷ sign s.Comma ∷ number v ∷ [])
  unfolding cell
  cell_follows x v =
      follows_then names (input.location names) (λ x. (expect s.Comma >> input.number) >>= (λ v. pure {A = ℕ × ℕ} (x, v))) x (x, v) (location x ∷ []) (sign s.Comma ∷ number v ∷ []) (location_follows x)
      (follows_then names (expect s.Comma >> input.number) (λ v. pure {A = ℕ × ℕ} (x, v)) v (x, v) (sign s.Comma ∷ number v ∷ []) [] (comma_follows v) (follows_pure {A = ℕ × ℕ} names (x, v)) (λ v. moves_pure {A = ℕ × ℕ} (x, v)))
      (λ x. moves_then (expect s.Comma >> input.number) (λ v. pure {A = ℕ × ℕ} (x, v)) comma_moves (λ v. moves_pure {A = ℕ × ℕ} (x, v)))

  thread_follows : (t : ℕ) → Follows names thread t (number t ∷ sign s.Comma ∷ [])
  unfolding thread
  thread_follows t =
      follows_then names input.number (λ t. expect s.Comma >> pure t) t t (number t ∷ []) (sign s.Comma ∷ []) (number_follows t)
      (follows_then names (expect s.Comma) (λ u. pure t) tt t (sign s.Comma ∷ []) [] (sign_follows s.Comma) (follows_pure names t) (λ u. moves_pure t))
      (λ t. moves_then (expect s.Comma) (λ u. pure t) (expect_moves s.Comma) (λ u. moves_pure t))

  closed_follows : (A : Type 0) (a : A) → Follows names (expect s.Close >> pure a) a (sign s.Close ∷ [])
  closed_follows A a = follows_then names (expect s.Close) (λ u. pure a) tt a (sign s.Close ∷ []) [] (sign_follows s.Close) (follows_pure names a) (λ u. moves_pure a)

  opened_follows : (t : ℕ) → Follows names (expect s.Open >> thread) t (sign s.Open ∷ number t ∷ sign s.Comma ∷ [])
  opened_follows t = follows_then names (expect s.Open) (λ u. thread) tt t (sign s.Open ∷ []) (number t ∷ sign s.Comma ∷ []) (sign_follows s.Open) (thread_follows t) (λ u. thread_moves)

  last_follows : (x v : ℕ) → Follows names (last names) (x, v) (sign s.Open ∷ location x ∷ sign s.Comma ∷ number v ∷ sign s.Close ∷ [])
  unfolding last
  last_follows x v =
      follows_then names (expect s.Open >> cell names) (λ c. expect s.Close >> pure c) (x, v) (x, v) (sign s.Open ∷ location x ∷ sign s.Comma ∷ number v ∷ []) (sign s.Close ∷ [])
      (follows_then names (expect s.Open) (λ u. cell names) tt (x, v) (sign s.Open ∷ []) (location x ∷ sign s.Comma ∷ number v ∷ []) (sign_follows s.Open) (cell_follows x v) (λ u. cell_moves names))
      (closed_follows (ℕ × ℕ) (x, v)) (λ c. closed_moves c)

  seen_follows : (t x : ℕ) → Follows names (seen names) (t, x) (sign s.Open ∷ number t ∷ sign s.Comma ∷ location x ∷ sign s.Close ∷ [])
  unfolding seen
  seen_follows t x =
      follows_then names (expect s.Open >> thread) (λ t. input.location names >>= (λ x. expect s.Close >> pure {A = ℕ × ℕ} (t, x))) t (t, x) (sign s.Open ∷ number t ∷ sign s.Comma ∷ []) (location x ∷ sign s.Close ∷ []) (opened_follows t)
      (follows_then names (input.location names) (λ x. expect s.Close >> pure {A = ℕ × ℕ} (t, x)) x (t, x) (location x ∷ []) (sign s.Close ∷ []) (location_follows x) (closed_follows (ℕ × ℕ) (t, x)) (λ x. closed_moves {A = ℕ × ℕ} (t, x)))
      (λ t. moves_then (input.location names) (λ x. expect s.Close >> pure {A = ℕ × ℕ} (t, x)) (location_moves names) (λ x. closed_moves {A = ℕ × ℕ} (t, x)))

  read_follows : (t x v : ℕ) → Follows names (read names) (t, (x, v)) (sign s.Open ∷ number t ∷ sign s.Comma ∷ location x ∷ sign s.Comma ∷ number v ∷ sign s.Close ∷ [])
  unfolding read
  read_follows t x v =
      follows_then names (expect s.Open >> thread) (λ t. cell names >>= (λ c. expect s.Close >> pure {A = ℕ × (ℕ × ℕ)} (t, c))) t (t, (x, v)) (sign s.Open ∷ number t ∷ sign s.Comma ∷ []) (location x ∷ sign s.Comma ∷ number v ∷ sign s.Close ∷ []) (opened_follows t)
      (follows_then names (cell names) (λ c. expect s.Close >> pure {A = ℕ × (ℕ × ℕ)} (t, c)) (x, v) (t, (x, v)) (location x ∷ sign s.Comma ∷ number v ∷ []) (sign s.Close ∷ []) (cell_follows x v) (closed_follows (ℕ × (ℕ × ℕ)) (t, (x, v))) (λ c. closed_moves {A = ℕ × (ℕ × ℕ)} (t, c)))
      (λ t. moves_then (cell names) (λ c. expect s.Close >> pure {A = ℕ × (ℕ × ℕ)} (t, c)) (cell_moves names) (λ c. closed_moves {A = ℕ × (ℕ × ℕ)} (t, c)))

  second_follows : (y w : ℕ) → Follows names (expect s.Comma >> cell names) (y, w) (sign s.Comma ∷ location y ∷ sign s.Comma ∷ number w ∷ [])
  second_follows y w = follows_then names (expect s.Comma) (λ u. cell names) tt (y, w) (sign s.Comma ∷ []) (location y ∷ sign s.Comma ∷ number w ∷ []) (sign_follows s.Comma) (cell_follows y w) (λ u. cell_moves names)

  two_follows : (t x v y w : ℕ) → Follows names (two_reads names) (t, (x, v), (y, w))
      (sign s.Open ∷ number t ∷ sign s.Comma ∷ location x ∷ sign s.Comma ∷ number v ∷ sign s.Comma ∷ location y ∷ sign s.Comma ∷ number w ∷ sign s.Close ∷ [])
  unfolding two_reads
  two_follows t x v y w =
      follows_then names (expect s.Open >> thread) (λ t. cell names >>= (λ c. (expect s.Comma >> cell names) >>= (λ d. expect s.Close >> pure {A = ℕ × (ℕ × ℕ) × (ℕ × ℕ)} (t, c, d)))) t (t, (x, v), (y, w))
      (sign s.Open ∷ number t ∷ sign s.Comma ∷ []) (location x ∷ sign s.Comma ∷ number v ∷ sign s.Comma ∷ location y ∷ sign s.Comma ∷ number w ∷ sign s.Close ∷ []) (opened_follows t)
      (follows_then names (cell names) (λ c. (expect s.Comma >> cell names) >>= (λ d. expect s.Close >> pure {A = ℕ × (ℕ × ℕ) × (ℕ × ℕ)} (t, c, d))) (x, v) (t, (x, v), (y, w))
      (location x ∷ sign s.Comma ∷ number v ∷ []) (sign s.Comma ∷ location y ∷ sign s.Comma ∷ number w ∷ sign s.Close ∷ []) (cell_follows x v)
      (follows_then names (expect s.Comma >> cell names) (λ d. expect s.Close >> pure {A = ℕ × (ℕ × ℕ) × (ℕ × ℕ)} (t, (x, v), d)) (y, w) (t, (x, v), (y, w))
      (sign s.Comma ∷ location y ∷ sign s.Comma ∷ number w ∷ []) (sign s.Close ∷ []) (second_follows y w) (closed_follows (ℕ × (ℕ × ℕ) × (ℕ × ℕ)) (t, (x, v), (y, w))) (λ d. closed_moves {A = ℕ × (ℕ × ℕ) × (ℕ × ℕ)} (t, (x, v), d)))
      (λ c. moves_then (expect s.Comma >> cell names) (λ d. expect s.Close >> pure {A = ℕ × (ℕ × ℕ) × (ℕ × ℕ)} (t, c, d)) (second_moves names) (λ d. closed_moves {A = ℕ × (ℕ × ℕ) × (ℕ × ℕ)} (t, c, d))))
      (λ t. moves_then (cell names) (λ c. (expect s.Comma >> cell names) >>= (λ d. expect s.Close >> pure {A = ℕ × (ℕ × ℕ) × (ℕ × ℕ)} (t, c, d))) (cell_moves names)
      (λ c. moves_then (expect s.Comma >> cell names) (λ d. expect s.Close >> pure {A = ℕ × (ℕ × ℕ) × (ℕ × ℕ)} (t, c, d)) (second_moves names) (λ d. closed_moves {A = ℕ × (ℕ × ℕ) × (ℕ × ℕ)} (t, c, d))))

  -- ---- whole atoms

  pub made_follows : {T A : Type 0} (p : Parser A) (make : A → T) (x : A) (items : List Item) → Follows names p x items → Follows names (p >>= (λ a. pure (make a))) (make x) (items ++ [])
  made_follows p make x items f = follows_then names p (λ a. pure (make a)) x (make x) items [] f (follows_pure names (make x)) (λ a. moves_pure (make a))

  -- behind its first token, which is one node
  pub by_first : {T : Type 0} (reader : Parser T) → Moves reader → (item : Item) (items : List Item) (rest : Cursor → ℕ → Outcome T) (d to : Cursor) → Stand names (item ∷ items) d to
      → ((c : Cursor) (r : ℕ) → 0 < r → Stands names item c (after c) → reader (at c r) ≡ rest (after c) (r - 1))
      → ((c : Cursor) (r m : ℕ) → m ≤ length items → Alike m c (after d) → Past m c r (rest c r))
      → (c : Cursor) (r m : ℕ) → m ≤ length (item ∷ items) → Alike m c d → 0 < r → Past m c r (reader (at c r))
  by_first reader moves item items rest d to st begins behind c r zero most al some = moves (at c r)
  by_first reader moves item items rest d to st begins behind c r (suc m) most al some =
      subst (λ o. Past (suc m) c r o) (sym (begins c r some (stands_like names item d st.0 c st.1 al.0)))
      (shift (suc m) m c r 1 (after c) (r - 1) (rest (after c) (r - 1)) refl (omega arith) (omega arith) (behind (after c) (r - 1) m (omega arith) al.1))

  letter_first : (b : ℕ) (c : Cursor) (r : ℕ) → 0 < r → (st : Stands names (letter b) c (after c)) → raw_atom names (at c r) ≡ lettered names st.lexeme.place b (at (after c) (r - 1))
  unfolding raw_atom
  letter_first b c r some st =
      bind_value (input.next (at c r)) _ st.lexeme (at (after c) r) (stands_token names (letter b) (at c r) (after c) st)
      ∙ ap (λ z. raw_by names st.lexeme z (at (after c) r)) st.matches
      ∙ ap (λ o. and_then o (λ u. lettered names st.lexeme.place b)) (node_reads st.lexeme.place (at (after c) r) some)

  scalar_first : (x : ℕ) (c : Cursor) (r : ℕ) → 0 < r → (st : Stands names (scalar x) c (after c)) → raw_atom names (at c r) ≡ (equals >>= (λ k. pure (raw.Scalar x k))) (at (after c) (r - 1))
  unfolding raw_atom
  scalar_first x c r some st =
      let t = st.lexeme in
      bind_value (input.next (at c r)) _ t (at (after c) r) (stands_token names (scalar x) (at c r) (after c) st)
      ∙ ap (λ z. raw_by names t z (at (after c) r)) st.matches.0
      ∙ ap (λ z. and_then (allowed t.place (scalar_in z) (at (after c) r)) (λ r. (node t.place >> equals) >>= (λ k. pure (raw.Scalar r k)))) (named_reads names t (place.Scalar x) st.matches.0 st.matches.1 st.matches.2)
      ∙ ap (λ o. and_then (and_then o (λ u. equals)) (λ k. pure (raw.Scalar x k))) (node_reads t.place (at (after c) r) some)

  raw_part : (d to : Cursor) (a : RawAtom) (b : ℕ) (items : List Item) (p : Parser RawAtom) → raw_items a ≡ letter b ∷ items → ((n : ℕ) (c : Cursor) (r : ℕ) → lettered names n b (at c r) ≡ p (at c r)) → Follows names p a items → IsRaw names d a to
      → ReachedAtom (IsRaw names) (raw_atom names) d a to
  raw_part d to a b items p are is f st =
      let st2 = subst (λ (is : List Item). Stand names is d to) are st in
      record {
        k = length (raw_items a);
        spans = stand_ends names (raw_items a) d to st;
        moved = λ c al. stand_moved names (raw_items a) d to c st al;
        part = λ c r m most al some. by_first (raw_atom names) (raw_moves names) (letter b) items (λ c r. p (at c r)) d to st2 (λ c r some here. letter_first b c r some here ∙ is here.lexeme.place (after c) (r - 1))
            (λ c r m most al. (f st2.0 to st2.2).part c r m most (subst (Alike m c) (sym st2.1.behind) al)) c r m (subst (λ (is : List Item). m ≤ length is) are most) al some;
        solid = stand_solid names (raw_items a) d to st;
      }

pub raw_reached : (names : NameTable) (d to : Cursor) (a : RawAtom) → IsRaw names d a to → ReachedAtom (IsRaw names) (raw_atom names) d a to
raw_reached names d to (raw.Scalar x k) st = record {
  k = length (raw_items (raw.Scalar x k));
  spans = stand_ends names (raw_items (raw.Scalar x k)) d to st;
  moved = λ c al. stand_moved names (raw_items (raw.Scalar x k)) d to c st al;
  part = λ c r m most al some. by_first names (raw_atom names) (raw_moves names) (scalar x) (sign s.Equal ∷ number k ∷ []) (λ c r. (equals >>= (λ k. pure (raw.Scalar x k))) (at c r)) d to st (λ c r some here. scalar_first names x c r some here)
      (λ c r m most al. (made_follows names equals (λ k. raw.Scalar x k) k (sign s.Equal ∷ number k ∷ []) (equals_follows names k) st.0 to st.2).part c r m most (subst (Alike m c) (sym st.1.behind) al)) c r m most al some;
  solid = stand_solid names (raw_items (raw.Scalar x k)) d to st;
}
raw_reached names d to (raw.Last x v) st =
    raw_part names d to (raw.Last x v) 76 _ (last names >>= (λ c. pure (raw.Last c.0 c.1))) refl (λ n c r. refl) (made_follows names (last names) (λ c. raw.Last c.0 c.1) (x, v) (sign s.Open ∷ location x ∷ sign s.Comma ∷ number v ∷ sign s.Close ∷ []) (last_follows names x v)) st
raw_reached names d to (raw.Persist x v) st =
    raw_part names d to (raw.Persist x v) 80 _ (last names >>= (λ c. pure (raw.Persist c.0 c.1))) refl (λ n c r. refl) (made_follows names (last names) (λ c. raw.Persist c.0 c.1) (x, v) (sign s.Open ∷ location x ∷ sign s.Comma ∷ number v ∷ sign s.Close ∷ []) (last_follows names x v)) st
raw_reached names d to (raw.Read t x v) st =
    raw_part names d to (raw.Read t x v) 82 _ (read names >>= (λ a. pure (raw.Read a.0 a.1.0 a.1.1))) refl (λ n c r. refl) (made_follows names (read names) (λ a. raw.Read a.0 a.1.0 a.1.1) (t, (x, v)) (sign s.Open ∷ number t ∷ sign s.Comma ∷ location x ∷ sign s.Comma ∷ number v ∷ sign s.Close ∷ []) (read_follows names t x v)) st
raw_reached names d to (raw.Async t x v) st =
    raw_part names d to (raw.Async t x v) 65 _ (read names >>= (λ a. pure (raw.Async a.0 a.1.0 a.1.1))) refl (λ n c r. refl) (made_follows names (read names) (λ a. raw.Async a.0 a.1.0 a.1.1) (t, (x, v)) (sign s.Open ∷ number t ∷ sign s.Comma ∷ location x ∷ sign s.Comma ∷ number v ∷ sign s.Close ∷ []) (read_follows names t x v)) st
raw_reached names d to (raw.Then t x v y w) st =
    raw_part names d to (raw.Then t x v y w) 67 _ (two_reads names >>= (λ a. pure (raw.Then a.0 a.1.0 a.1.1 a.2.0 a.2.1))) refl (λ n c r. refl)
    (made_follows names (two_reads names) (λ a. raw.Then a.0 a.1.0 a.1.1 a.2.0 a.2.1) (t, (x, v), (y, w)) (sign s.Open ∷ number t ∷ sign s.Comma ∷ location x ∷ sign s.Comma ∷ number v ∷ sign s.Comma ∷ location y ∷ sign s.Comma ∷ number w ∷ sign s.Close ∷ []) (two_follows names t x v y w)) st
raw_reached names d to (raw.Newest t x) st =
    raw_part names d to (raw.Newest t x) 78 _ (seen names >>= (λ a. pure (raw.Newest a.0 a.1))) refl (λ n c r. refl) (made_follows names (seen names) (λ a. raw.Newest a.0 a.1) (t, x) (sign s.Open ∷ number t ∷ sign s.Comma ∷ location x ∷ sign s.Close ∷ []) (seen_follows names t x)) st
raw_reached names d to (raw.Ordered t x) st =
    raw_part names d to (raw.Ordered t x) 79 _ (seen names >>= (λ a. pure (raw.Ordered a.0 a.1))) refl (λ n c r. refl) (made_follows names (seen names) (λ a. raw.Ordered a.0 a.1) (t, x) (sign s.Open ∷ number t ∷ sign s.Comma ∷ location x ∷ sign s.Close ∷ []) (seen_follows names t x)) st
raw_reached names d to (raw.Fenced t x) st =
    raw_part names d to (raw.Fenced t x) 70 _ (seen names >>= (λ a. pure (raw.Fenced a.0 a.1))) refl (λ n c r. refl) (made_follows names (seen names) (λ a. raw.Fenced a.0 a.1) (t, x) (sign s.Open ∷ number t ∷ sign s.Comma ∷ location x ∷ sign s.Close ∷ []) (seen_follows names t x)) st
