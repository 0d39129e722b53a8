-- What a contract sees of `Names`: the version of the language, the size of the domain, and two ordered lists of names, in
-- which no name stands twice.
use Rattle.std.specs.Prelude.{◌≡◌, ℕ, ◌+◌, ◌-◌, ◌==◌, ◌≤◌, max, Bool, true, false, not, List, [], ◌∷◌, ◌++◌, length, map, Option, Some, None, option_map, String, string_bytes, slice_get, if◌then◌else◌, nat_le}
use Rattle.std.specs.Str.{bytes_eq}
use Rattle.std.specs.declared.alloc.Global.{Global}
use Rattle.pg_program.specs.declared.name_table.NameKind.{NameKind}
use Rattle.pg_program.specs.declared.name_table.NameKind.TheVariants as kind
use Rattle.pg_program.specs.declared.name_table.NameRef.{NameRef}
use Rattle.pg_program.specs.declared.name_table.NameRef.TheVariants as place
use Rattle.pg_program.specs.declared.name_table.Placed.{Placed}
use Rattle.pg_program.specs.declared.name_table.ScalarKind.{ScalarKind}
use Rattle.pg_program.specs.declared.name_table.ScalarKind.TheVariants as scalar
use Rattle.pg_program.specs.Limits.{IsVersion, most_locations, most_scalars}

-- a declared location: its name, its initial value, and the cache line that it stands on, numbered from 0
pub record Location : Type 0 where
  pub name : List ℕ
  pub init : ℕ
  pub line : ℕ

-- the version; the domain's size; the locations; each scalar's name with what it is
pub record NameTable : Type 0 where
  pub version : ℕ
  pub domain : ℕ
  pub locations : List Location
  pub scalars : List (List ℕ × ScalarKind)

-- the entries of a map, each name as its bytes
abbrev pub by_bytes : {V : Type 0} → List (String Global × V) → List (List ℕ × V)
by_bytes entries = map (λ e. (string_bytes e.0, e.1)) entries

abbrev pub location_of : List ℕ × Placed → Location
location_of e = record { name = e.0; init = e.1.init; line = e.1.line }

-- the initial values, and the lines, of the locations in the order of declaration
abbrev pub initial : NameTable → List ℕ
initial t = map (λ l. l.init) t.locations

abbrev pub lines : NameTable → List ℕ
lines t = map (λ l. l.line) t.locations

-- how many lines there are, where each location stands on one: they are numbered from 0
abbrev pub line_count : List ℕ → ℕ
line_count [] = 0
line_count (k ∷ ks) = max (k + 1) (line_count ks)

-- the names of the locations and of the scalars
abbrev pub location_names : NameTable → List (List ℕ)
location_names t = map (λ l. l.name) t.locations

abbrev pub scalar_names : NameTable → List (List ℕ)
scalar_names t = map (λ e. e.0) t.scalars

-- the table without names
abbrev pub empty_table : ℕ → ℕ → NameTable
empty_table domain version = record { version = version; domain = domain; locations = []; scalars = [] }

-- the place of a name among others, from 0
abbrev pub place_in : List ℕ → List (List ℕ) → Option ℕ
place_in name [] = None
place_in name (n ∷ names) = if bytes_eq name n then Some 0 else option_map (λ i. i + 1) (place_in name names)

-- a name that is no location is looked for among the scalars
abbrev pub found : Option ℕ → Option ℕ → Option NameRef
found (Some x) r = Some (place.Location x)
found None r = option_map place.Scalar r

-- what a name stands for: a location, or else a scalar
abbrev pub find : List ℕ → NameTable → Option NameRef
find name t = found (place_in name (location_names t)) (place_in name (scalar_names t))

-- there are as many names of this kind as a table may have
abbrev pub is_full : NameKind → NameTable → Bool
is_full (kind.Location init) t = nat_le (most_locations t.version) (length t.locations)
is_full (kind.LocationWith init) t = nat_le (most_locations t.version) (length t.locations)
is_full (kind.Register owner) t = nat_le most_scalars (length t.scalars)
is_full kind.Auxiliary t = nat_le most_scalars (length t.scalars)

-- the table with one more location, the last
abbrev pub with_location : Location → NameTable → NameTable
with_location l t = record t { locations = t.locations ++ l ∷ [] }

-- The table with one more name, the last of its kind. A location begins a line, or stands on the line of the location before it.
abbrev pub with_name : List ℕ → NameKind → NameTable → NameTable
with_name name (kind.Location init) t = with_location (record { name = name; init = init; line = line_count (lines t) }) t
with_name name (kind.LocationWith init) t = with_location (record { name = name; init = init; line = line_count (lines t) - 1 }) t
with_name name (kind.Register owner) t = record t { scalars = t.scalars ++ (name, scalar.Register owner) ∷ [] }
with_name name kind.Auxiliary t = record t { scalars = t.scalars ++ (name, scalar.Auxiliary) ∷ [] }

-- the place of that name
abbrev pub next_place : NameKind → NameTable → NameRef
next_place (kind.Location init) t = place.Location (length t.locations)
next_place (kind.LocationWith init) t = place.Location (length t.locations)
next_place (kind.Register owner) t = place.Scalar (length t.scalars)
next_place kind.Auxiliary t = place.Scalar (length t.scalars)

-- what the name of a scalar is declared as
abbrev pub kind_of : ScalarKind → NameKind
kind_of (scalar.Register owner) = kind.Register owner
kind_of scalar.Auxiliary = kind.Auxiliary

-- whether a declaration is one of a register of another thread than t, or of an auxiliary
abbrev pub is_foreign_kind : ℕ → Option (List ℕ × ScalarKind) → Bool
is_foreign_kind t (Some (name, scalar.Register owner)) = not (owner == t)
is_foreign_kind t (Some (name, scalar.Auxiliary)) = false
is_foreign_kind t None = false

abbrev pub is_auxiliary_kind : Option (List ℕ × ScalarKind) → Bool
is_auxiliary_kind (Some (name, scalar.Register owner)) = false
is_auxiliary_kind (Some (name, scalar.Auxiliary)) = true
is_auxiliary_kind None = false

-- whether a scalar is a register of another thread than t, or an auxiliary
abbrev pub is_foreign : NameTable → ℕ → ℕ → Bool
is_foreign names t r = is_foreign_kind t (slice_get names.scalars r)

abbrev pub is_auxiliary : NameTable → ℕ → Bool
is_auxiliary names r = is_auxiliary_kind (slice_get names.scalars r)

-- the name of a scalar
abbrev pub name_in : Option (List ℕ × ScalarKind) → List ℕ
name_in (Some e) = e.0
name_in None = []

abbrev pub scalar_name : NameTable → ℕ → List ℕ
scalar_name names r = name_in (slice_get names.scalars r)

-- the name is new, there is room for it, and it is declared
pub record Declares (old new : NameTable) (name : List ℕ) (kind : NameKind) (at : NameRef) : Type 0 where
  pub absent : find name old ≡ None
  pub room : is_full kind old ≡ false
  pub table : new ≡ with_name name kind old
  pub place : at ≡ next_place kind old

-- a location may stand on the line of the one before it in version 2, and where there is one
abbrev pub MayJoin : NameKind → NameTable → Type 0
MayJoin (kind.LocationWith init) t = (t.version ≡ 2) × (1 ≤ length t.locations)
MayJoin _ t = Unit {0}

-- Where n lines have begun, each location stands on the last of these lines or begins the next one.
abbrev pub AreGrouped : ℕ → List ℕ → Type 0
AreGrouped n [] = Unit {0}
AreGrouped n (k ∷ ks) = (k ≤ n) × (n ≤ k + 1) × AreGrouped (k + 1) ks

-- The limits are kept, and no name stands twice: what a place declares stands for that place. The lines are numbered in the
-- order of declaration, and in version 1 each location has a line of its own.
pub record IsNameTable (t : NameTable) : Type 0 where
  pub version : IsVersion t.version
  pub few_locations : length t.locations ≤ most_locations t.version
  pub few_scalars : length t.scalars ≤ most_scalars
  pub own_location : (x : ℕ) (l : Location) → slice_get t.locations x ≡ Some l → find l.name t ≡ Some (place.Location x)
  pub own_scalar : (r : ℕ) (is : ScalarKind) (name : List ℕ) → slice_get t.scalars r ≡ Some (name, is) → find name t ≡ Some (place.Scalar r)
  pub grouped : AreGrouped 0 (lines t)
  pub apart : t.version ≡ 1 → (x : ℕ) (l : Location) → slice_get t.locations x ≡ Some l → l.line ≡ x
