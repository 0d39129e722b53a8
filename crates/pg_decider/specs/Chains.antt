-- Chains of slots, linked in two arrays: in which slot a chain begins and how many it has, and which slot follows another.
use Rattle.std.specs.Prelude.{◌≡◌, ℕ, zero, suc, ◌<◌, ◌≤◌, List, [], ◌∷◌, length, slice_index_or, slice_set}
use Rattle.pg_decider.specs.Weigh.{weigh, occurs}

-- the n slots from `head` on, along `next`
abbrev pub walk : List ℕ → ℕ → ℕ → List ℕ
walk next zero head = []
walk next (suc n) head = head ∷ walk next n (slice_index_or next head 0)

-- what contracts see of chains
pub record ChainTable : Type 0 where
  pub lists : List (List ℕ)
  pub slots : ℕ

-- the chain with a number
abbrev pub chain : List (List ℕ) → ℕ → List ℕ
chain ls m = slice_index_or ls m []

-- the slots in all chains, and how often x stands there
abbrev pub held : List (List ℕ) → ℕ
held ls = weigh length ls

abbrev pub times : ℕ → List (List ℕ) → ℕ
times x ls = weigh (occurs x) ls

-- each slot stands once at most, in one chain
pub record AreChains (ls : List (List ℕ)) (slots : ℕ) : Type 0 where
  pub once : (x : ℕ) → times x ls ≤ 1
  pub within : (x : ℕ) → slots ≤ x → times x ls ≡ 0
  pub few : held ls ≤ slots

-- a slot that stands in no chain
pub record IsFree (t : ChainTable) (x : ℕ) : Type 0 where
  pub out : times x t.lists ≡ 0
  pub slot : x < t.slots
  pub room : held t.lists < t.slots

-- one chain in place of another
abbrev pub with_chain : ChainTable → ℕ → List ℕ → ChainTable
with_chain t m xs = record { lists = slice_set t.lists m xs; slots = t.slots }
