-- The limits of names and threads. Two of them are wider in version 2 of the language than in version 1.
use Rattle.std.specs.Prelude.{◌≡◌, ℕ, ◌≤◌, ◌==◌, ◌⊎◌, if◌then◌else◌}

-- the versions of the language
abbrev pub IsVersion : ℕ → Type 0
IsVersion version = (version ≡ 1) ⊎ (version ≡ 2)

-- how many locations may be declared
abbrev pub most_locations_1 : ℕ
most_locations_1 = 6

abbrev pub most_locations_2 : ℕ
most_locations_2 = 8

abbrev pub most_locations : ℕ → ℕ
most_locations version = if version == 1 then most_locations_1 else most_locations_2

-- how many scalars, registers and auxiliaries together
abbrev pub most_scalars : ℕ
most_scalars = 16

-- how many values a domain has, at least and at most
abbrev pub least_domain : ℕ
least_domain = 2

abbrev pub largest_domain_1 : ℕ
largest_domain_1 = 4

abbrev pub largest_domain_2 : ℕ
largest_domain_2 = 6

abbrev pub largest_domain : ℕ → ℕ
largest_domain version = if version == 1 then largest_domain_1 else largest_domain_2

-- a size that a domain may have in some version
abbrev pub IsDomainSize : ℕ → Type 0
IsDomainSize d = (least_domain ≤ d) × (d ≤ largest_domain_2)

-- how many threads a program may have
abbrev pub most_threads : ℕ
most_threads = 4

-- how many points a thread may have, its end counted
abbrev pub most_points : ℕ
most_points = 32

-- how many different names an expression may read, or both sides of a test together
abbrev pub most_names : ℕ
most_names = 4
