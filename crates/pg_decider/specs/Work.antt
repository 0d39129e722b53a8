-- What a workspace keeps of its parts.
use Rattle.std.specs.Prelude.{◌≡◌, ℕ, ◌+◌, ◌*◌, ◌/◌, ◌<◌, ◌≤◌, ◌^◌}

-- Each literal has a chain, and one more chain is for slots that are still to be visited; each clause has two slots; and there
-- is room for a branch at each literal of a trail. There is a mark for each chain, and room for the longest list of a leaf.
pub record IsWorkspace (atoms chains slots slot_room branch_room marks list : ℕ) : Type 0 where
  pub small : atoms < 2 ^ 31
  pub few : slots < 2 ^ 32
  pub even : 2 * (slots / 2) ≡ slots
  pub chains_there : 2 * atoms + 3 ≤ chains
  pub slots_fit : slots ≤ slot_room
  pub branches_fit : atoms + 1 ≤ branch_room
  pub marks_there : marks ≡ 2 * atoms + 3
  pub list_there : list ≡ atoms + 2
