-- What is spelled is read: words, lines, trees.
use Rattle.std.proofs.Common.{◌≡◌, ℕ, zero, suc, ◌+◌, ◌<◌, ◌≤◌, ◌^◌, Bool, true, false, cond, ◌==◌, List, [], ◌∷◌, ◌++◌, length, take, drop, Option, Some, Ok, refl, ap, ◌∙◌, append_assoc, length-append, arith}
use Rattle.std.specs.Prelude.{codes, decimal, take_while}
use Rattle.std.specs.List.{AllByRecursion, prefix_len}
use Rattle.std.proofs.Math.Seq.{take-append_seam}
use Rattle.std.proofs.lemmas.List.{drop_at}
use Rattle.pg_region.specs.Literal.{Literal}
use Rattle.pg_derivation.specs.Derivation.{Node, split, leaf, IsNumber, IsNode, AreNodes, AreTrees}
use Rattle.pg_derivation.specs.Fault.{Cursor, Read, in_word, word, behind, told, number, literal, number_in, literal_in, header, obligation, numbers, split_line, leaf_line, node, nodes, is_node, tree, trees, closing, says, derivation_of}
use Rattle.pg_derivation.specs.Text.{literal_text, numbers_text, split_text, leaf_text, obligation_text, node_text, nodes_text, trees_text, header_text, end_text, text_of}
use Rattle.pg_derivation.proofs.Digits.{number_in-decimal, literal_in-text, IsWord, decimal_is_word, literal_is_word}

abbrev at : ℕ → List ℕ → Cursor
at a rest = record { at = a; rest = rest }

abbrev read : {A : Type 0} → A → Cursor → Read A
read x c = Ok (x, c)

-- ---- words

ends_at : (w : List ℕ) (s : ℕ) (more : List ℕ) → IsWord w → in_word s ≡ false → prefix_len in_word (w ++ s ∷ more) ≡ length w
ends_at [] s more h e = ap (λ (v : Bool). cond v (1 + prefix_len in_word more) 0) e
ends_at (b ∷ w) s more h e =
    let r = ends_at w s more h.1 e in
    ap (λ (v : Bool). cond v (1 + prefix_len in_word (w ++ s ∷ more)) 0) h.0 ∙ omega (arith, r)

ends : (w : List ℕ) (s : ℕ) (more : List ℕ) → IsWord w → in_word s ≡ false → (take_while in_word (w ++ s ∷ more) ≡ w) × (prefix_len in_word (w ++ s ∷ more) ≡ length w)
ends w s more h e =
    let n = ends_at w s more h e in
    (ap (λ (k : ℕ). take k (w ++ s ∷ more)) n ∙ take-append_seam w (s ∷ more), n)

behind_word : (a : ℕ) (w : List ℕ) (s : ℕ) (more : List ℕ) → IsWord w → in_word s ≡ false → behind (at a (w ++ s ∷ more)) ≡ at (a + length w) (s ∷ more)
behind_word a w s more h e =
    let n = (ends w s more h e).1 in
    ap (λ (k : ℕ). at (a + k) (drop k (w ++ s ∷ more))) n ∙ ap (at (a + length w)) (drop_at w (s ∷ more) (length w) refl)

told_at : {A : Type 0} (f : List ℕ → Option A) (x : A) (a : ℕ) (w : List ℕ) (s : ℕ) (more : List ℕ) → IsWord w → in_word s ≡ false → f w ≡ Some x
    → told (at a (w ++ s ∷ more)) (f (word (at a (w ++ s ∷ more)))) ≡ read x (at (a + length w) (s ∷ more))
told_at f x a w s more h e is =
    let found : f (word (at a (w ++ s ∷ more))) ≡ Some x = ap f (ends w s more h e).0 ∙ is in
    ap (told (at a (w ++ s ∷ more))) found ∙ ap (read x) (behind_word a w s more h e)

number_at : (a n s : ℕ) (more : List ℕ) → IsNumber n → in_word s ≡ false → number (at a (decimal n ++ s ∷ more)) ≡ read n (at (a + length (decimal n)) (s ∷ more))
number_at a n s more h e = told_at number_in n a (decimal n) s more (decimal_is_word n h) e (number_in-decimal n h)

literal_at : (a : ℕ) (l : Literal) (s : ℕ) (more : List ℕ) → IsNumber l.atom → in_word s ≡ false → literal (at a (literal_text l ++ s ∷ more)) ≡ read l (at (a + length (literal_text l)) (s ∷ more))
literal_at a l s more h e = told_at literal_in l a (literal_text l) s more (literal_is_word l h) e (literal_in-text l h)

-- ---- lines

split_read : (a : ℕ) (l : Literal) (rest : List ℕ) (c : Cursor) → literal (at (a + 5 + 1) rest) ≡ read l (at c.at (10 ∷ c.rest)) → split_line (at a (codes "split " ++ rest)) ≡ read (split l) (at (c.at + 1) c.rest)
unfolding split_line
split_read a l rest c h = rw h refl

split_again : (a : ℕ) (l : Literal) (more : List ℕ) → IsNumber l.atom → (b : ℕ) × (split_line (at a (split_text l ++ more)) ≡ read (split l) (at b more))
split_again a l more h =
    let k = a + 5 + 1 + length (literal_text l) in
    let regrouped : split_text l ++ more ≡ codes "split " ++ (literal_text l ++ 10 ∷ more) = ap (λ (x : List ℕ). codes "split " ++ x) (append_assoc (literal_text l) (10 ∷ []) more) in
    (k + 1, ap (λ (x : List ℕ). split_line (at a x)) regrouped ∙ split_read a l (literal_text l ++ 10 ∷ more) (at k more) (literal_at (a + 5 + 1) l 10 more h refl))

numbers_last : (t a n : ℕ) (rest : List ℕ) (c : Cursor) → number (at a rest) ≡ read n (at c.at (10 ∷ c.rest)) → numbers (suc t) (at a rest) ≡ read (n ∷ []) (at (c.at + 1) c.rest)
unfolding numbers
numbers_last t a n rest c h = rw h refl

numbers_more : (t a n : ℕ) (rest : List ℕ) (k : ℕ) (left : List ℕ) (ns : List ℕ) (d : Cursor) → number (at a rest) ≡ read n (at k (32 ∷ left)) → numbers t (at (k + 1) left) ≡ read ns d
    → numbers (suc t) (at a rest) ≡ read (n ∷ ns) d
unfolding numbers
numbers_more t a n rest k left ns d h g = rw (h, g) refl

numbers_again : (turns a n : ℕ) (ns more : List ℕ) → IsNumber n → AllByRecursion IsNumber ns → length ns < turns
    → (b : ℕ) × (numbers turns (at a (decimal n ++ (numbers_text ns ++ 10 ∷ more))) ≡ read (n ∷ ns) (at b more))
numbers_again zero a n ns more h g lt = absurd (omega arith)
numbers_again (suc t) a n [] more h g lt =
    let k = a + length (decimal n) in
    (k + 1, numbers_last t a n (decimal n ++ 10 ∷ more) (at k more) (number_at a n 10 more h refl))
numbers_again (suc t) a n (m ∷ ns) more h g lt =
    let left = decimal m ++ (numbers_text ns ++ 10 ∷ more) in
    let k = a + length (decimal n) in
    let regrouped : decimal n ++ (numbers_text (m ∷ ns) ++ 10 ∷ more) ≡ decimal n ++ 32 ∷ left = ap (λ (x : List ℕ). decimal n ++ 32 ∷ x) (append_assoc (decimal m) (numbers_text ns) (10 ∷ more)) in
    let rest = numbers_again t (k + 1) m ns more g.0 g.1 (omega arith) in
    (rest.0, ap (λ (x : List ℕ). numbers (suc t) (at a x)) regrouped ∙ numbers_more t a n (decimal n ++ 32 ∷ left) k left (m ∷ ns) (at rest.0 more) (number_at a n 32 left h refl) rest.1)

leaf_read : (a : ℕ) (ns rest : List ℕ) (d : Cursor) → numbers (length rest) (at (a + 4 + 1) rest) ≡ read ns d → leaf_line (at a (codes "leaf " ++ rest)) ≡ read (leaf ns) d
unfolding leaf_line
leaf_read a ns rest d h = rw h refl

length-numbers_text : (ns : List ℕ) → length ns ≤ length (numbers_text ns)
length-numbers_text [] = omega arith
length-numbers_text (n ∷ ns) = omega (arith, length-numbers_text ns, length-append (decimal n) (numbers_text ns))

leaf_regrouped : (a b more : List ℕ) → ((a ++ b) ++ 10 ∷ []) ++ more ≡ a ++ (b ++ 10 ∷ more)
leaf_regrouped a b more = simp append_assoc

leaf_again : (a n : ℕ) (ns more : List ℕ) → IsNumber n → AllByRecursion IsNumber ns → (b : ℕ) × (leaf_line (at a (leaf_text (n ∷ ns) ++ more)) ≡ read (leaf (n ∷ ns)) (at b more))
leaf_again a n ns more h g =
    let rest = decimal n ++ (numbers_text ns ++ 10 ∷ more) in
    let few : length ns < length rest = omega (arith, length-append (decimal n) (numbers_text ns ++ 10 ∷ more), length-append (numbers_text ns) (10 ∷ more), length-numbers_text ns) in
    let r = numbers_again (length rest) (a + 4 + 1) n ns more h g few in
    let regrouped : leaf_text (n ∷ ns) ++ more ≡ codes "leaf " ++ rest = ap (λ (x : List ℕ). codes "leaf " ++ x) (leaf_regrouped (decimal n) (numbers_text ns) more) in
    (r.0, ap (λ (x : List ℕ). leaf_line (at a x)) regrouped ∙ leaf_read a (n ∷ ns) rest (at r.0 more) r.1)

node_again : (a : ℕ) (x : Node) (more : List ℕ) → IsNode x → (b : ℕ) × (node (at a (node_text x ++ more)) ≡ read x (at b more))
node_again a (split l) more h = split_again a l more h
node_again a (leaf []) more h = absurd (omega (arith, h.0))
node_again a (leaf (n ∷ ns)) more h = leaf_again a n ns more h.1.0 h.1.1

begins_node : (a : ℕ) (x : Node) (more : List ℕ) → IsNode x → is_node (at a (node_text x ++ more)) ≡ true
begins_node a (split l) more h = refl
begins_node a (leaf []) more h = absurd (omega (arith, h.0))
begins_node a (leaf (n ∷ ns)) more h = refl

-- ---- trees

nodes_last : (t a : ℕ) (x : Node) (rest more : List ℕ) (b : ℕ) → node (at a rest) ≡ read x (at b more) → is_node (at b more) ≡ false → nodes (suc t) (at a rest) ≡ read (x ∷ []) (at b more)
unfolding nodes
nodes_last t a x rest more b h e = rw (h, e) refl

nodes_more : (t a : ℕ) (x : Node) (rest left : List ℕ) (b : ℕ) (xs : List Node) (d : Cursor) → node (at a rest) ≡ read x (at b left) → is_node (at b left) ≡ true → nodes t (at b left) ≡ read xs d
    → nodes (suc t) (at a rest) ≡ read (x ∷ xs) d
unfolding nodes
nodes_more t a x rest left b xs d h e g = rw (h, e, g) refl

abbrev IsBehind : List ℕ → Type 0
IsBehind more = (b : ℕ) → is_node (at b more) ≡ false

nodes_again : (turns a : ℕ) (x : Node) (xs : List Node) (more : List ℕ) → IsNode x → AllByRecursion IsNode xs → IsBehind more → length xs < turns
    → (b : ℕ) × (nodes turns (at a (nodes_text (x ∷ xs) ++ more)) ≡ read (x ∷ xs) (at b more))
nodes_again zero a x xs more h g e lt = absurd (omega arith)
nodes_again (suc t) a x [] more h g e lt =
    let r = node_again a x more h in
    let regrouped : nodes_text (x ∷ []) ++ more ≡ node_text x ++ more = append_assoc (node_text x) [] more in
    (r.0, ap (λ (y : List ℕ). nodes (suc t) (at a y)) regrouped ∙ nodes_last t a x (node_text x ++ more) more r.0 r.1 (e r.0))
nodes_again (suc t) a x (y ∷ xs) more h g e lt =
    let left = nodes_text (y ∷ xs) ++ more in
    let r = node_again a x left h in
    let rest = nodes_again t r.0 y xs more g.0 g.1 e (omega arith) in
    let regrouped : nodes_text (x ∷ y ∷ xs) ++ more ≡ node_text x ++ left = append_assoc (node_text x) (nodes_text (y ∷ xs)) more in
    let here : is_node (at r.0 left) ≡ true = ap (λ (z : List ℕ). is_node (at r.0 z)) (append_assoc (node_text y) (nodes_text xs) more) ∙ begins_node r.0 y (nodes_text xs ++ more) g.0 in
    (rest.0, ap (λ (z : List ℕ). nodes (suc t) (at a z)) regrouped ∙ nodes_more t a x (node_text x ++ left) left r.0 (y ∷ xs) (at rest.0 more) r.1 here rest.1)

same : (i : ℕ) → (i == i) ≡ true
same i = grind arith

obligation_read : (a i : ℕ) (rest : List ℕ) (c : Cursor) → number (at (a + 10 + 1) rest) ≡ read i (at c.at (10 ∷ c.rest)) → (i == i) ≡ true → obligation i (at a (codes "obligation " ++ rest)) ≡ Ok (at (c.at + 1) c.rest)
unfolding obligation
obligation_read a i rest c h e = rw (h, e) refl

length-node_text : (x : Node) → 1 ≤ length (node_text x)
length-node_text (split l) = omega arith
length-node_text (leaf ns) = omega arith

length-nodes_text : (xs : List Node) → length xs ≤ length (nodes_text xs)
length-nodes_text [] = omega arith
length-nodes_text (x ∷ xs) = omega (arith, length-nodes_text xs, length-node_text x, length-append (node_text x) (nodes_text xs))

tree_read : (a i : ℕ) (rest : List ℕ) (xs : List Node) (b : ℕ) (left : List ℕ) (d : Cursor) → obligation i (at a rest) ≡ Ok (at b left) → nodes (length left) (at b left) ≡ read xs d → tree i (at a rest) ≡ read xs d
unfolding tree
tree_read a i rest xs b left d h g = rw (h, g) refl

tree_again : (a i : ℕ) (xs : List Node) (more : List ℕ) → IsNumber i → AreNodes xs → IsBehind more → (b : ℕ) × (tree i (at a (obligation_text i ++ (nodes_text xs ++ more))) ≡ read xs (at b more))
tree_again a i [] more h g e = absurd (omega (arith, g.0))
tree_again a i (x ∷ xs) more h g e =
    let left = nodes_text (x ∷ xs) ++ more in
    let k = a + 10 + 1 + length (decimal i) in
    let few : length xs < length left = omega (arith, length-append (nodes_text (x ∷ xs)) more, length-nodes_text (x ∷ xs)) in
    let r = nodes_again (length left) (k + 1) x xs more g.1.0 g.1.1 e few in
    let regrouped : obligation_text i ++ left ≡ codes "obligation " ++ (decimal i ++ 10 ∷ left) = ap (λ (z : List ℕ). codes "obligation " ++ z) (append_assoc (decimal i) (10 ∷ []) left) in
    let line = ap (λ (z : List ℕ). obligation i (at a z)) regrouped ∙ obligation_read a i (decimal i ++ 10 ∷ left) (at k left) (number_at (a + 10 + 1) i 10 left h refl) (same i) in
    (r.0, tree_read a i (obligation_text i ++ left) (x ∷ xs) (k + 1) left (at r.0 more) line r.1)

trees_last : (t i a : ℕ) (rest : List ℕ) → says (codes "obligation") (at a rest) ≡ false → trees (suc t) i (at a rest) ≡ read [] (at a rest)
unfolding trees
trees_last t i a rest e = rw e refl

trees_more : (t i a : ℕ) (rest left : List ℕ) (b : ℕ) (xs : List Node) (ts : List (List Node)) (d : Cursor) → says (codes "obligation") (at a rest) ≡ true → tree i (at a rest) ≡ read xs (at b left) → trees t (i + 1) (at b left) ≡ read ts d
    → trees (suc t) i (at a rest) ≡ read (xs ∷ ts) d
unfolding trees
trees_more t i a rest left b xs ts d e h g = rw (e, h, g) refl

says_obligation : (a i : ℕ) (more : List ℕ) → says (codes "obligation") (at a (obligation_text i ++ more)) ≡ true
says_obligation a i more = refl

trees_behind_nodes : (i : ℕ) (ts : List (List Node)) → IsBehind (trees_text i ts ++ end_text)
trees_behind_nodes i [] b = refl
trees_behind_nodes i (t ∷ ts) b = refl

regroup_tree : (o n t e : List ℕ) → (o ++ (n ++ t)) ++ e ≡ o ++ (n ++ (t ++ e))
regroup_tree o n t e = simp append_assoc

trees_again : (turns i a : ℕ) (ts : List (List Node)) → 1 ≤ i → i + length ts ≤ 2 ^ 31 → AllByRecursion AreNodes ts → length ts < turns
    → (b : ℕ) × (trees turns i (at a (trees_text i ts ++ end_text)) ≡ read ts (at b end_text))
trees_again zero i a ts some few h lt = absurd (omega arith)
trees_again (suc t) i a [] some few h lt = (a, trees_last t i a end_text refl)
trees_again (suc t) i a (xs ∷ ts) some few h lt =
    let left = trees_text (i + 1) ts ++ end_text in
    let fits : IsNumber i = (some, omega arith) in
    let r = tree_again a i xs left fits h.0 (trees_behind_nodes (i + 1) ts) in
    let rest = trees_again t (i + 1) r.0 ts (omega arith) (omega arith) h.1 (omega arith) in
    let whole = obligation_text i ++ (nodes_text xs ++ left) in
    let regrouped : trees_text i (xs ∷ ts) ++ end_text ≡ whole = regroup_tree (obligation_text i) (nodes_text xs) (trees_text (i + 1) ts) end_text in
    (rest.0, ap (λ (z : List ℕ). trees (suc t) i (at a z)) regrouped ∙ trees_more t i a whole left r.0 xs ts (at rest.0 end_text) (says_obligation a i (nodes_text xs ++ left)) r.1 rest.1)

header_read : (rest : List ℕ) → header (at 0 (header_text ++ rest)) ≡ Ok (at 13 rest)
unfolding header number_in
header_read rest = refl

closing_read : (b : ℕ) → closing (at b end_text) ≡ Ok (at (b + 3 + 1) [])
unfolding closing
closing_read b = refl

longer : (i : ℕ) → 1 ≤ length (obligation_text i)
longer i = omega arith

length-trees_text : (i : ℕ) (ts : List (List Node)) → length ts ≤ length (trees_text i ts)
length-trees_text i [] = omega arith
length-trees_text i (t ∷ ts) =
    omega (arith, length-trees_text (i + 1) ts, length-append (obligation_text i) (nodes_text t ++ trees_text (i + 1) ts), length-append (nodes_text t) (trees_text (i + 1) ts), longer i)

all_read : (ts : List (List Node)) (rest : List ℕ) (b : ℕ) → trees (length rest) 1 (at 13 rest) ≡ read ts (at b end_text) → derivation_of (header_text ++ rest) ≡ Ok ts
unfolding derivation_of
all_read ts rest b h = rw (header_read rest, h, closing_read b) refl

pub spelled_is_found : (trees : List (List Node)) → AreTrees trees → derivation_of (text_of trees) ≡ Ok trees
spelled_is_found ts h =
    let rest = trees_text 1 ts ++ end_text in
    let few : length ts < length rest = omega (arith, length-trees_text 1 ts, length-append (trees_text 1 ts) end_text) in
    let r = trees_again (length rest) 1 13 ts (omega arith) (omega (arith, h.0)) h.1 few in
    all_read ts rest r.0 r.1
