-- The proof obligations of an outline's program, in their order.
use Rattle.std.specs.Prelude.{ℕ, ◌==◌, if◌then◌else◌, List, [], ◌∷◌, ◌++◌, length, map}
use Rattle.std.specs.List.{flat_map, range_with_len}
use Rattle.pg_program.specs.declared.point.Step.{Step}
use Rattle.pg_program.specs.Program.{ProgramTable, points, steps_at}
use Rattle.pg_obligations.specs.declared.obligation.Obligation.{Obligation}
use Rattle.pg_obligations.specs.declared.obligation.Obligation.TheVariants.{Fresh, Entry, EntryCrash, Local, Crash, Interfere}

-- the threads, and the points of one, its end too; both are numbered from 1
abbrev pub threads_of : ProgramTable → List ℕ
threads_of p = range_with_len 1 (length p.threads)

abbrev pub points_of : ProgramTable → ℕ → List ℕ
points_of p t = range_with_len 1 (points p t)

-- a step against each point of thread u, where that is another thread
abbrev pub against : ProgramTable → Step → ℕ → List Obligation
against p step u = if u == step.thread then [] else map (λ k. Interfere step (record { thread = u; point = k })) (points_of p u)

-- those of a step: local, crash, and then the step against each other thread
abbrev pub of_step : ProgramTable → Step → List Obligation
of_step p step = Local step ∷ Crash step ∷ flat_map (against p step) (threads_of p)

-- those of the steps from a point, and of a thread
abbrev pub of_point : ProgramTable → ℕ → ℕ → List Obligation
of_point p t k = flat_map (of_step p) (steps_at p t k)

abbrev pub of_thread : ProgramTable → ℕ → List Obligation
of_thread p t = flat_map (of_point p t) (points_of p t)

-- all of them
abbrev pub obligations : ProgramTable → List Obligation
obligations p = Fresh ∷ (map (λ t. Entry t) (threads_of p) ++ (EntryCrash ∷ flat_map (of_thread p) (threads_of p)))
