-- What is read is spelled so: words, lines, trees.
use Rattle.std.proofs.Common.{◌≡◌, ℕ, zero, suc, ◌+◌, ◌≤◌, ◌^◌, ◌⊎◌, inl, inr, Bool, true, false, cond, ◌==◌, List, [], ◌∷◌, ◌++◌, length, drop, slice_index, Option, Some, None, Result, Ok, Err, refl, sym, ap, subst, ◌∙◌, append_assoc, arith}
use Rattle.std.specs.Prelude.{codes, decimal, bytes_eq}
use Rattle.std.specs.Bool.{Decides}
use Rattle.std.specs.List.{AllByRecursion, prefix_len}
use Rattle.std.proofs.lemmas.Fmt.{decimal_digit}
use Rattle.std.proofs.lemmas.List.{append-nil, nil_from_length, take-append-drop}
use Rattle.std.proofs.lemmas.Slice.Eq.{bytes_eq-Decides}
use Rattle.pg_document.specs.declared.fault.DocFault.{DocFault}
use Rattle.pg_document.specs.declared.fault.DocFault.TheVariants.{Unexpected, Version}
use Rattle.pg_region.specs.Literal.{Literal}
use Rattle.pg_derivation.specs.Derivation.{Node, split, leaf, IsNumber, IsNode, AreNodes, AreTrees}
use Rattle.pg_derivation.specs.Fault.{Cursor, ◌>>=◌, fault, advance, in_word, word, behind, says, keyword, space_at, space, newline_at, newline, told, number, literal, number_in, literal_in, header, obligation, numbers, split_line, leaf_line, node, nodes, is_node, tree, trees, closing, derivation_of}
use Rattle.pg_derivation.specs.Text.{literal_text, numbers_text, split_text, leaf_text, obligation_text, node_text, nodes_text, trees_text, header_text, end_text, text_of}
use Rattle.pg_derivation.proofs.Digits.{decimal-number_in, text-literal_in}

-- ---- steps

bind_ok : {A B : Type 0} (r : Result A DocFault) (f : A → Result B DocFault) (y : B) → (r >>= f) ≡ Ok y → (x : A) × (r ≡ Ok x) × (f x ≡ Ok y)
bind_ok (Ok x) f y h = (x, refl, h)
bind_ok (Err e) f y h = absurd cc

abbrev done : {A : Type 0} → A → Result A DocFault
done x = Ok x

ok_is : {A : Type 0} (x y : A) → done x ≡ done y → x ≡ y
ok_is x y h = cc

chosen : {A : Type 0} (t : Bool) (x y z : A) → cond t x y ≡ z → ((t ≡ true) × (x ≡ z)) ⊎ ((t ≡ false) × (y ≡ z))
chosen true x y z h = inl (refl, h)
chosen false x y z h = inr (refl, h)

chosen_ok : {A : Type 0} (t : Bool) (x : Result A DocFault) (e : DocFault) (z : A) → cond t x (Err e) ≡ Ok z → (t ≡ true) × (x ≡ Ok z)
chosen_ok true x e z h = (refl, h)
chosen_ok false x e z h = absurd cc

decided : (t : Bool) (P : Type 0) → Decides t P → t ≡ true → P
decided t P d h = d.0 h

-- ---- words

in_front : (c : Cursor) → c.rest ≡ word c ++ (behind c).rest
in_front c = sym (take-append-drop (prefix_len in_word c.rest) c.rest)

keyword_spelled : (w : List ℕ) (c d : Cursor) → keyword w c ≡ Ok d → c.rest ≡ w ++ d.rest
keyword_spelled w c d h =
    let r = chosen_ok (says w c) (Ok (behind c)) (Unexpected c.at) d h in
    let same : word c ≡ w = decided (bytes_eq (word c) w) (word c ≡ w) (bytes_eq-Decides (word c) w) r.0 in
    let end = ok_is (behind c) d r.1 in
    in_front c ∙ (ap (λ (x : List ℕ). x ++ (behind c).rest) same ∙ ap (λ (x : Cursor). w ++ x.rest) end)

byte_is : (b n : ℕ) → (b == n) ≡ true → b ≡ n
byte_is b n h = grind arith

abbrev at : ℕ → List ℕ → Cursor
at a rest = record { at = a; rest = rest }

space_in : (a : ℕ) (bs : List ℕ) (d : Cursor) → space_at a bs ≡ Ok d → bs ≡ 32 ∷ d.rest
space_in a [] d h = absurd cc
space_in a (b ∷ bs) d h =
    let r = chosen_ok (b == 32) (Ok (at (a + 1) bs)) (Unexpected a) d h in
    ap (λ (x : ℕ). x ∷ bs) (byte_is b 32 r.0) ∙ ap (λ (x : Cursor). 32 ∷ x.rest) (ok_is (at (a + 1) bs) d r.1)

space_spelled : (c d : Cursor) → space c ≡ Ok d → c.rest ≡ 32 ∷ d.rest
space_spelled c d h = space_in c.at c.rest d h

newline_in : (a : ℕ) (bs : List ℕ) (d : Cursor) → newline_at a bs ≡ Ok d → bs ≡ 10 ∷ d.rest
newline_in a [] d h = absurd cc
newline_in a (b ∷ bs) d h =
    let r = chosen_ok (b == 10) (Ok (at (a + 1) bs)) (Unexpected (a + 1)) d h in
    ap (λ (x : ℕ). x ∷ bs) (byte_is b 10 r.0) ∙ ap (λ (x : Cursor). 10 ∷ x.rest) (ok_is (at (a + 1) bs) d r.1)

newline_spelled : (c d : Cursor) → newline c ≡ Ok d → c.rest ≡ 10 ∷ d.rest
newline_spelled c d h = newline_in c.at c.rest d h

abbrev some : {A : Type 0} → A → Option A
some x = Some x

told_ok : {A : Type 0} (c : Cursor) (o : Option A) (x : A × Cursor) → told c o ≡ Ok x → (o ≡ Some x.0) × (behind c ≡ x.1)
told_ok c None x h = absurd cc
told_ok c (Some y) x h =
    let e = ok_is (y, behind c) x h in
    (ap (λ (z : _ × Cursor). some z.0) e, ap (λ (z : _ × Cursor). z.1) e)

number_spelled : (c : Cursor) (x : ℕ × Cursor) → number c ≡ Ok x → (c.rest ≡ decimal x.0 ++ x.1.rest) × IsNumber x.0
number_spelled c x h =
    let t = told_ok c (number_in (word c)) x h in
    let r = decimal-number_in (word c) x.0 t.0 in
    (in_front c ∙ (ap (λ (w : List ℕ). w ++ (behind c).rest) r.0 ∙ ap (λ (z : Cursor). decimal x.0 ++ z.rest) t.1), r.1)

literal_spelled : (c : Cursor) (x : Literal × Cursor) → literal c ≡ Ok x → (c.rest ≡ literal_text x.0 ++ x.1.rest) × IsNumber x.0.atom
literal_spelled c x h =
    let t = told_ok c (literal_in (word c)) x h in
    let r = text-literal_in (word c) x.0 t.0 in
    (in_front c ∙ (ap (λ (w : List ℕ). w ++ (behind c).rest) r.0 ∙ ap (λ (z : Cursor). literal_text x.0 ++ z.rest) t.1), r.1)

-- ---- lines

abbrev IsNodeAt : Cursor → Node × Cursor → Type 0
IsNodeAt c x = (c.rest ≡ node_text x.0 ++ x.1.rest) × IsNode x.0

split_spelled : (c : Cursor) (x : Node × Cursor) → split_line c ≡ Ok x → IsNodeAt c x
unfolding split_line
split_spelled c x h =
    let a = bind_ok (keyword (codes "split") c) (λ title. space title >>= λ from. literal from >>= λ chosen. newline chosen.1 >>= λ next. Ok (split chosen.0, next)) x h in
    let b = bind_ok (space a.0) (λ from. literal from >>= λ chosen. newline chosen.1 >>= λ next. Ok (split chosen.0, next)) x a.2 in
    let l = bind_ok (literal b.0) (λ chosen. newline chosen.1 >>= λ next. Ok (split chosen.0, next)) x b.2 in
    let n = bind_ok (newline l.0.1) (λ next. Ok (split l.0.0, next)) x l.2 in
    let t = literal_spelled b.0 l.0 l.1 in
    let text : c.rest ≡ codes "split " ++ (literal_text l.0.0 ++ 10 ∷ n.0.rest) =
    keyword_spelled (codes "split") c a.0 a.1
    ∙ ap (λ (z : List ℕ). codes "split" ++ z) (space_spelled a.0 b.0 b.1)
    ∙ ap (λ (z : List ℕ). codes "split " ++ z) (t.0 ∙ ap (λ (z : List ℕ). literal_text l.0.0 ++ z) (newline_spelled l.0.1 n.0 n.1)) in
    let regrouped : split_text l.0.0 ++ n.0.rest ≡ codes "split " ++ (literal_text l.0.0 ++ 10 ∷ n.0.rest) = ap (λ (z : List ℕ). codes "split " ++ z) (append_assoc (literal_text l.0.0) (10 ∷ []) n.0.rest) in
    subst (λ (y : Node × Cursor). IsNodeAt c y) (ok_is (split l.0.0, n.0) x n.2) (text ∙ sym regrouped, t.1)

-- numbers with a blank between them
abbrev numbers_line : List ℕ → List ℕ
numbers_line [] = []
numbers_line (n ∷ ns) = decimal n ++ numbers_text ns

blank_first : (ns : List ℕ) → 1 ≤ length ns → 32 ∷ numbers_line ns ≡ numbers_text ns
blank_first [] h = absurd (omega arith)
blank_first (n ∷ ns) h = refl

head_is : (bs : List ℕ) → (slice_index bs 0 == 32) ≡ true → bs ≡ 32 ∷ drop 1 bs
head_is [] h = absurd cc
head_is (b ∷ bs) h = ap (λ (x : ℕ). x ∷ bs) (byte_is b 32 h)

abbrev AreNumbersAt : Cursor → List ℕ × Cursor → Type 0
AreNumbersAt c x = (c.rest ≡ numbers_line x.0 ++ 10 ∷ x.1.rest) × ((1 ≤ length x.0) × AllByRecursion IsNumber x.0)

number_more : (c d : Cursor) (n : ℕ) (y : List ℕ × Cursor) → (c.rest ≡ decimal n ++ d.rest) × IsNumber n → (slice_index d.rest 0 == 32) ≡ true → AreNumbersAt (advance 1 d) y → AreNumbersAt c (n ∷ y.0, y.1)
number_more c d n y t more r =
    let text : c.rest ≡ decimal n ++ 32 ∷ (numbers_line y.0 ++ 10 ∷ y.1.rest) = t.0 ∙ ap (λ (z : List ℕ). decimal n ++ z) (head_is d.rest more ∙ ap (λ (z : List ℕ). 32 ∷ z) r.0) in
    let first : decimal n ++ 32 ∷ (numbers_line y.0 ++ 10 ∷ y.1.rest) ≡ decimal n ++ (numbers_text y.0 ++ 10 ∷ y.1.rest) = ap (λ (z : List ℕ). decimal n ++ (z ++ 10 ∷ y.1.rest)) (blank_first y.0 r.1.0) in
    (text ∙ (first ∙ sym (append_assoc (decimal n) (numbers_text y.0) (10 ∷ y.1.rest))), (omega arith, (t.1, r.1.1)))

number_last : (c d e : Cursor) (n : ℕ) → (c.rest ≡ decimal n ++ d.rest) × IsNumber n → newline d ≡ Ok e → AreNumbersAt c (n ∷ [], e)
number_last c d e n t line =
    (t.0 ∙ (ap (λ (z : List ℕ). decimal n ++ z) (newline_spelled d e line) ∙ ap (λ (z : List ℕ). z ++ 10 ∷ e.rest) (sym (append-nil (decimal n)))), (omega arith, (t.1, tt)))

numbers_spelled : (n : ℕ) (c : Cursor) (x : List ℕ × Cursor) → numbers n c ≡ Ok x → AreNumbersAt c x
unfolding numbers
numbers_spelled zero c x h = absurd cc
numbers_spelled (suc n) c x h =
    let f = bind_ok (number c) (λ first. cond (slice_index first.1.rest 0 == 32) (numbers n (advance 1 first.1) >>= λ more. Ok (first.0 ∷ more.0, more.1)) (newline first.1 >>= λ next. Ok (first.0 ∷ [], next))) x h in
    let t = number_spelled c f.0 f.1 in
    elim (chosen (slice_index f.0.1.rest 0 == 32) (numbers n (advance 1 f.0.1) >>= λ more. Ok (f.0.0 ∷ more.0, more.1)) (newline f.0.1 >>= λ next. Ok (f.0.0 ∷ [], next)) (Ok x) f.2) [
      | inl m ↦
          let g = bind_ok (numbers n (advance 1 f.0.1)) (λ more. Ok (f.0.0 ∷ more.0, more.1)) x m.1 in
          subst (λ (y : List ℕ × Cursor). AreNumbersAt c y) (ok_is (f.0.0 ∷ g.0.0, g.0.1) x g.2) (number_more c f.0.1 f.0.0 g.0 t m.0 (numbers_spelled n (advance 1 f.0.1) g.0 g.1))
      | inr m ↦
          let g = bind_ok (newline f.0.1) (λ next. Ok (f.0.0 ∷ [], next)) x m.1 in
          subst (λ (y : List ℕ × Cursor). AreNumbersAt c y) (ok_is (f.0.0 ∷ [], g.0) x g.2) (number_last c f.0.1 g.0 f.0.0 t g.1)
    ]

leaf_spelled : (c : Cursor) (x : Node × Cursor) → leaf_line c ≡ Ok x → IsNodeAt c x
unfolding leaf_line
leaf_spelled c x h =
    let a = bind_ok (keyword (codes "leaf") c) (λ title. space title >>= λ from. numbers (length from.rest) from >>= λ given. Ok (leaf given.0, given.1)) x h in
    let b = bind_ok (space a.0) (λ from. numbers (length from.rest) from >>= λ given. Ok (leaf given.0, given.1)) x a.2 in
    let g = bind_ok (numbers (length b.0.rest) b.0) (λ given. Ok (leaf given.0, given.1)) x b.2 in
    let t = numbers_spelled (length b.0.rest) b.0 g.0 g.1 in
    let text : c.rest ≡ codes "leaf" ++ 32 ∷ (numbers_line g.0.0 ++ 10 ∷ g.0.1.rest) =
    keyword_spelled (codes "leaf") c a.0 a.1 ∙ ap (λ (z : List ℕ). codes "leaf" ++ z) (space_spelled a.0 b.0 b.1 ∙ ap (λ (z : List ℕ). 32 ∷ z) t.0) in
    let blank : codes "leaf" ++ 32 ∷ (numbers_line g.0.0 ++ 10 ∷ g.0.1.rest) ≡ codes "leaf" ++ (numbers_text g.0.0 ++ 10 ∷ g.0.1.rest) = ap (λ (z : List ℕ). codes "leaf" ++ (z ++ 10 ∷ g.0.1.rest)) (blank_first g.0.0 t.1.0) in
    let regrouped : leaf_text g.0.0 ++ g.0.1.rest ≡ codes "leaf" ++ (numbers_text g.0.0 ++ 10 ∷ g.0.1.rest) = ap (λ (z : List ℕ). codes "leaf" ++ z) (append_assoc (numbers_text g.0.0) (10 ∷ []) g.0.1.rest) in
    subst (λ (y : Node × Cursor). IsNodeAt c y) (ok_is (leaf g.0.0, g.0.1) x g.2) (text ∙ (blank ∙ sym regrouped), t.1)

node_spelled : (c : Cursor) (x : Node × Cursor) → node c ≡ Ok x → IsNodeAt c x
node_spelled c x h =
    elim (chosen (says (codes "split") c) (split_line c) (leaf_line c) (Ok x) h) [ inl m ↦ split_spelled c x m.1 | inr m ↦ leaf_spelled c x m.1 ]

-- ---- trees

abbrev AreNodesAt : Cursor → List Node × Cursor → Type 0
AreNodesAt c x = (c.rest ≡ nodes_text x.0 ++ x.1.rest) × AreNodes x.0

node_more : (c d : Cursor) (x : Node) (y : List Node × Cursor) → IsNodeAt c (x, d) → AreNodesAt d y → AreNodesAt c (x ∷ y.0, y.1)
node_more c d x y t r =
    (t.0 ∙ (ap (λ (z : List ℕ). node_text x ++ z) r.0 ∙ sym (append_assoc (node_text x) (nodes_text y.0) y.1.rest)), (omega arith, (t.1, r.1.1)))

node_last : (c d : Cursor) (x : Node) → IsNodeAt c (x, d) → AreNodesAt c (x ∷ [], d)
node_last c d x t = (t.0 ∙ ap (λ (z : List ℕ). z ++ d.rest) (sym (append-nil (node_text x))), (omega arith, (t.1, tt)))

nodes_spelled : (n : ℕ) (c : Cursor) (x : List Node × Cursor) → nodes n c ≡ Ok x → AreNodesAt c x
unfolding nodes
nodes_spelled zero c x h = absurd cc
nodes_spelled (suc n) c x h =
    let f = bind_ok (node c) (λ first. cond (is_node first.1) (nodes n first.1 >>= λ more. Ok (first.0 ∷ more.0, more.1)) (Ok (first.0 ∷ [], first.1))) x h in
    let t = node_spelled c f.0 f.1 in
    elim (chosen (is_node f.0.1) (nodes n f.0.1 >>= λ more. Ok (f.0.0 ∷ more.0, more.1)) (Ok (f.0.0 ∷ [], f.0.1)) (Ok x) f.2) [
      | inl m ↦
          let g = bind_ok (nodes n f.0.1) (λ more. Ok (f.0.0 ∷ more.0, more.1)) x m.1 in
          subst (λ (y : List Node × Cursor). AreNodesAt c y) (ok_is (f.0.0 ∷ g.0.0, g.0.1) x g.2) (node_more c f.0.1 f.0.0 g.0 t (nodes_spelled n f.0.1 g.0 g.1))
      | inr m ↦ subst (λ (y : List Node × Cursor). AreNodesAt c y) (ok_is (f.0.0 ∷ [], f.0.1) x m.1) (node_last c f.0.1 f.0.0 t)
    ]

obligation_spelled : (i : ℕ) (c d : Cursor) → obligation i c ≡ Ok d → (c.rest ≡ obligation_text i ++ d.rest) × IsNumber i
unfolding obligation
obligation_spelled i c d h =
    let a = bind_ok (keyword (codes "obligation") c) (λ title. space title >>= λ from. number from >>= λ given. cond (given.0 == i) (newline given.1) (fault from)) d h in
    let b = bind_ok (space a.0) (λ from. number from >>= λ given. cond (given.0 == i) (newline given.1) (fault from)) d a.2 in
    let g = bind_ok (number b.0) (λ given. cond (given.0 == i) (newline given.1) (fault b.0)) d b.2 in
    let r = chosen_ok (g.0.0 == i) (newline g.0.1) (Unexpected b.0.at) d g.2 in
    let same = byte_is g.0.0 i r.0 in
    let t = number_spelled b.0 g.0 g.1 in
    let text : c.rest ≡ codes "obligation " ++ (decimal i ++ 10 ∷ d.rest) =
    keyword_spelled (codes "obligation") c a.0 a.1
    ∙ ap (λ (z : List ℕ). codes "obligation" ++ z) (space_spelled a.0 b.0 b.1)
    ∙ ap (λ (z : List ℕ). codes "obligation " ++ z) (t.0 ∙ ap (λ (z : List ℕ). decimal g.0.0 ++ z) (newline_spelled g.0.1 d r.1) ∙ ap (λ (k : ℕ). decimal k ++ 10 ∷ d.rest) same) in
    let regrouped : obligation_text i ++ d.rest ≡ codes "obligation " ++ (decimal i ++ 10 ∷ d.rest) = ap (λ (z : List ℕ). codes "obligation " ++ z) (append_assoc (decimal i) (10 ∷ []) d.rest) in
    (text ∙ sym regrouped, subst (λ (k : ℕ). IsNumber k) same t.1)

abbrev AreTreesAt : ℕ → Cursor → List (List Node) × Cursor → Type 0
AreTreesAt i c x = (c.rest ≡ trees_text i x.0 ++ x.1.rest) × ((i + length x.0 ≤ 2 ^ 31) × AllByRecursion AreNodes x.0)

tree_more : (i : ℕ) (c b d : Cursor) (xs : List Node) (y : List (List Node) × Cursor) → (c.rest ≡ obligation_text i ++ b.rest) × IsNumber i → AreNodesAt b (xs, d) → AreTreesAt (i + 1) d y → AreTreesAt i c (xs ∷ y.0, y.1)
tree_more i c b d xs y o t r =
    let text : c.rest ≡ obligation_text i ++ (nodes_text xs ++ (trees_text (i + 1) y.0 ++ y.1.rest)) = o.0 ∙ ap (λ (z : List ℕ). obligation_text i ++ z) (t.0 ∙ ap (λ (z : List ℕ). nodes_text xs ++ z) r.0) in
    let regrouped : trees_text i (xs ∷ y.0) ++ y.1.rest ≡ obligation_text i ++ (nodes_text xs ++ (trees_text (i + 1) y.0 ++ y.1.rest)) =
    append_assoc (obligation_text i) (nodes_text xs ++ trees_text (i + 1) y.0) y.1.rest ∙ ap (λ (z : List ℕ). obligation_text i ++ z) (append_assoc (nodes_text xs) (trees_text (i + 1) y.0) y.1.rest) in
    (text ∙ sym regrouped, (omega (arith, r.1.0), (t.1, r.1.1)))

trees_spelled : (n i : ℕ) (c : Cursor) (x : List (List Node) × Cursor) → i ≤ 2 ^ 31 → trees n i c ≡ Ok x → AreTreesAt i c x
unfolding trees tree
trees_spelled zero i c x le h = absurd cc
trees_spelled (suc n) i c x le h =
    elim (chosen (says (codes "obligation") c) (tree i c >>= λ first. trees n (i + 1) first.1 >>= λ more. Ok (first.0 ∷ more.0, more.1)) (Ok ([], c)) (Ok x) h) [
      | inl m ↦
          let f = bind_ok (tree i c) (λ first. trees n (i + 1) first.1 >>= λ more. Ok (first.0 ∷ more.0, more.1)) x m.1 in
          let o = bind_ok (obligation i c) (λ from. nodes (length from.rest) from) f.0 f.1 in
          let g = bind_ok (trees n (i + 1) f.0.1) (λ more. Ok (f.0.0 ∷ more.0, more.1)) x f.2 in
          let line = obligation_spelled i c o.0 o.1 in
          subst (λ (y : List (List Node) × Cursor). AreTreesAt i c y) (ok_is (f.0.0 ∷ g.0.0, g.0.1) x g.2)
          (tree_more i c o.0 f.0.1 f.0.0 g.0 line (nodes_spelled (length o.0.rest) o.0 f.0 o.2) (trees_spelled n (i + 1) f.0.1 g.0 (omega (arith, line.1.1)) g.1))
      | inr m ↦ subst (λ (y : List (List Node) × Cursor). AreTreesAt i c y) (ok_is ([], c) x m.1) (refl, (omega (arith, le), tt))
    ]

closing_spelled : (c d : Cursor) → closing c ≡ Ok d → c.rest ≡ end_text
unfolding closing
closing_spelled c d h =
    let a = bind_ok (keyword (codes "end") c) (λ title. newline title >>= λ next. cond (length next.rest == 0) (Ok next) (fault next)) d h in
    let b = bind_ok (newline a.0) (λ next. cond (length next.rest == 0) (Ok next) (fault next)) d a.2 in
    let r = chosen_ok (length b.0.rest == 0) (Ok b.0) (Unexpected b.0.at) d b.2 in
    let none : b.0.rest ≡ [] = nil_from_length b.0.rest (byte_is (length b.0.rest) 0 r.0) in
    keyword_spelled (codes "end") c a.0 a.1 ∙ ap (λ (z : List ℕ). codes "end" ++ z) (newline_spelled a.0 b.0 b.1 ∙ ap (λ (z : List ℕ). 10 ∷ z) none)

header_spelled : (c d : Cursor) → header c ≡ Ok d → c.rest ≡ header_text ++ d.rest
unfolding header
header_spelled c d h =
    let a = bind_ok (keyword (codes "derivation") c) (λ title. space title >>= λ from. number from >>= λ version. cond (version.0 == 1) (newline version.1) (Err (Version version.0))) d h in
    let b = bind_ok (space a.0) (λ from. number from >>= λ version. cond (version.0 == 1) (newline version.1) (Err (Version version.0))) d a.2 in
    let g = bind_ok (number b.0) (λ version. cond (version.0 == 1) (newline version.1) (Err (Version version.0))) d b.2 in
    let r = chosen_ok (g.0.0 == 1) (newline g.0.1) (Version g.0.0) d g.2 in
    let one : decimal g.0.0 ≡ codes "1" = ap decimal (byte_is g.0.0 1 r.0) ∙ decimal_digit 1 (omega arith) in
    let t = number_spelled b.0 g.0 g.1 in
    keyword_spelled (codes "derivation") c a.0 a.1
    ∙ ap (λ (z : List ℕ). codes "derivation" ++ z) (space_spelled a.0 b.0 b.1)
    ∙ ap (λ (z : List ℕ). codes "derivation " ++ z) (t.0 ∙ ap (λ (z : List ℕ). decimal g.0.0 ++ z) (newline_spelled g.0.1 d r.1) ∙ ap (λ (w : List ℕ). w ++ 10 ∷ d.rest) one)

pub found_is_spelled : (text : List ℕ) (ts : List (List Node)) → derivation_of text ≡ Ok ts → AreTrees ts × (text ≡ text_of ts)
unfolding derivation_of
found_is_spelled text ts h =
    let a = bind_ok (header (at 0 text)) (λ from. trees (length from.rest) 1 from >>= λ given. closing given.1 >>= λ next. Ok given.0) ts h in
    let g = bind_ok (trees (length a.0.rest) 1 a.0) (λ given. closing given.1 >>= λ next. Ok given.0) ts a.2 in
    let n = bind_ok (closing g.0.1) (λ next. Ok g.0.0) ts g.2 in
    let t = trees_spelled (length a.0.rest) 1 a.0 g.0 (omega arith) g.1 in
    let whole : text ≡ text_of g.0.0 = header_spelled (at 0 text) a.0 a.1 ∙ ap (λ (z : List ℕ). header_text ++ z) (t.0 ∙ ap (λ (z : List ℕ). trees_text 1 g.0.0 ++ z) (closing_spelled g.0.1 n.0 n.1)) in
    subst (λ (y : List (List Node)). AreTrees y × (text ≡ text_of y)) (ok_is g.0.0 ts n.2) ((omega (arith, t.1.0), t.1.1), whole)
