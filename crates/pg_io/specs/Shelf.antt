-- The rooms in memory: what they list, and what a fetch does to them.
use Rattle.std.specs.Prelude.{ℕ, List, map, length, find, bytes_eq, option_map, unwrap_or, is_some, Option, Some, None, if◌then◌else◌, [], Vec, String, string_bytes}
use Rattle.std.specs.declared.alloc.Global.{Global}
use Rattle.pg_io.specs.Counts.{raised}
use Rattle.pg_io.specs.Failing.{is_due}

-- names, each with its bytes
abbrev pub FileList : Type 0
FileList = List (List ℕ × List ℕ)

-- the bytes of the first entry with this name
abbrev pub first_listed : FileList → List ℕ → Option (List ℕ)
first_listed files name = option_map (λ file. file.1) (find (λ file. bytes_eq file.0 name) files)

-- the bytes of the first entry with this name, and none where there is no such entry
abbrev pub listed_or_empty : FileList → List ℕ → List ℕ
listed_or_empty files name = unwrap_or (first_listed files name) []

-- the entries of a vector of texts and bytes
abbrev pub entries : List (String Global × Vec ℕ Global) → FileList
entries files = map (λ file. (string_bytes file.0, file.1.items)) files

-- a memory room: its files, the numbers of the calls that are to fail, the calls so far, the
-- calls that failed, those of them that failed by their number, and the bytes taken
pub record Shelf : Type 0 where
  pub files : FileList
  pub failing : List ℕ
  pub calls : ℕ
  pub failures : ℕ
  pub by_number : ℕ
  pub taken : ℕ

-- a quiet room: its files and the bytes taken
pub record QuietShelf : Type 0 where
  pub files : FileList
  pub taken : ℕ

-- a listed name's count of faults is that of the calls that failed by their number, and any
-- other name's is that of all failed calls
abbrev pub faults_of : Shelf → List ℕ → ℕ
faults_of shelf name =
    if is_some (first_listed shelf.files name) then shelf.by_number else shelf.failures

-- the room after a call that found these bytes, or no entry
abbrev pub after_look_up : Shelf → Option (List ℕ) → Shelf
after_look_up shelf None =
    record shelf { calls = raised 1 shelf.calls; failures = raised 1 shelf.failures }
after_look_up shelf (Some bytes) =
    record shelf { calls = raised 1 shelf.calls; taken = raised (length bytes) shelf.taken }

-- the room after a call that failed by its number
abbrev pub after_due : Shelf → Shelf
after_due shelf = record shelf {
  calls = raised 1 shelf.calls;
  failures = raised 1 shelf.failures;
  by_number = raised 1 shelf.by_number;
}

-- the room after a fetch of this name
abbrev pub after_fetch : Shelf → List ℕ → Shelf
after_fetch shelf name =
    if is_due shelf.failing shelf.calls
    then after_due shelf
    else after_look_up shelf (first_listed shelf.files name)
