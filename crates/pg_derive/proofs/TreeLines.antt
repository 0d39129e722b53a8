-- The lines of a tree, one after the other.
use Rattle.std.proofs.Common.{◌≡◌, ℕ, ◌+◌, ◌-◌, ◌<◌, ◌≤◌, List, [], ◌++◌, length, get_or, Option, refl, sym, subst, arith}
use Rattle.std.specs.Prelude.{Err}
use Rattle.pg_region.specs.Literal.{Literal}
use Rattle.pg_decider.specs.Assignment.{on}
use Rattle.pg_decider.specs.Leaf.{IsLeaf, path_of}
use Rattle.pg_decider.specs.declared.log.TreeNode.{TreeNode}
use Rattle.pg_decider.specs.declared.log.TreeNode.TheVariants.{Split, Leaf}
use Rattle.pg_derivation.specs.Derivation.{split, leaf}
use Rattle.pg_derivation.specs.Text.{split_text, leaf_text}
use Rattle.pg_tree.specs.Laws.{IsWritten}
use Rattle.pg_derive.specs.declared.fault.DeriveFault.{DeriveFault}
use Rattle.pg_derive.specs.declared.fault.DeriveFault.TheVariants.{NoMemory}
use Rattle.pg_derive.specs.Puts.{Puts, PutsText}
use Rattle.pg_derive.specs.Begun.{IsNodeText, IsFirstText, IsSomeText}
use Rattle.pg_derive.specs.SoFar.{IsTreeSoFar}
use Rattle.pg_derive.proofs.Pieces.{appended-nothing, text-behind, whole-part, fault-behind}
use Rattle.pg_derive.proofs.Texts.{none-first, first-more}

module _ (cs : List (List Literal)) (log : List TreeNode) where
  pub split-line : (k : ℕ) (l : Literal) (text : List ℕ) → Split l ≡ get_or log k Leaf → text ≡ split_text l → IsNodeText cs log k text
  split-line k l text is e = record { node = split l; written = subst (λ (x : TreeNode). IsWritten cs (path_of log k) x (split l)) is refl; spelled = e }

  pub leaf-line : (k : ℕ) (ns : List ℕ) (text : List ℕ) → Leaf ≡ get_or log k Leaf → IsLeaf cs (on (path_of log k)) ns → text ≡ leaf_text ns → IsNodeText cs log k text
  leaf-line k ns text is h e = record { node = leaf ns; written = subst (λ (x : TreeNode). IsWritten cs (path_of log k) x (leaf ns)) is h; spelled = e }

  -- the node with the number k + 1 stands at place k
  pub node-here : (k : ℕ) (line text : List ℕ) → IsNodeText cs log (k + 1 - 1) text → line ≡ text → IsNodeText cs log k line
  node-here k line text h e =
      subst (IsNodeText cs log k) (sym e) (subst (λ (j : ℕ). IsNodeText cs log j text) (let same : k + 1 - 1 ≡ k = omega arith in same) h)

  pub tree-start : (old : Option (List ℕ)) (before : ℕ) → IsTreeSoFar cs log 0 old old before before
  tree-start old before = record { text = []; first = none-first cs log; written = sym (appended-nothing old); faults = omega arith }

  module _ (k : ℕ) (old mid : Option (List ℕ)) (before between : ℕ) (h : IsTreeSoFar cs log k old mid before between) where
    pub tree-memory : (now : ℕ) → Puts (λ (u : Unit {0}) text. IsFirstText cs log (length log) text) (IsSomeText cs log) (Err NoMemory) old mid before now
    tree-memory now = record { text = h.text; is = (k, h.first); part = whole-part old mid h.text h.written }

    pub tree-fault : (line : List ℕ) (new : Option (List ℕ)) (now : ℕ) (e : DeriveFault) → k < length log → IsNodeText cs log k line
        → Puts (λ (u : Unit {0}) text. text ≡ line) (λ text. text ≡ line) (Err e) mid new between now
        → Puts (λ (u : Unit {0}) text. IsFirstText cs log (length log) text) (IsSomeText cs log) (Err e) old new before now
    tree-fault line new now e lt n said =
        fault-behind (λ (u : Unit {0}) text. text ≡ line) (λ (u : Unit {0}) text. IsFirstText cs log (length log) text) (λ text. text ≡ line) (IsSomeText cs log)
        old mid new before between now h.text e h.written h.faults
        (λ text is. (k + 1, first-more cs log k h.text text lt h.first (subst (IsNodeText cs log k) (sym is) n))) said

    pub tree-next : (line : List ℕ) (new : Option (List ℕ)) (now : ℕ) → k < length log → IsNodeText cs log k line → PutsText (λ text. text ≡ line) mid new → between ≤ now
        → IsTreeSoFar cs log (k + 1) old new before now
    tree-next line new now lt n said le = record {
      text = h.text ++ said.text;
      first = first-more cs log k h.text said.text lt h.first (subst (IsNodeText cs log k) (sym said.is) n);
      written = text-behind old mid new h.text said.text h.written said.written;
      faults = omega (arith, h.faults, le);
    }

    pub tree-end : k ≡ length log → PutsText (IsFirstText cs log (length log)) old mid
    tree-end e = record { text = h.text; is = subst (λ (j : ℕ). IsFirstText cs log j h.text) e h.first; written = h.written }
