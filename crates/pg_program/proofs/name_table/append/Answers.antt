use Rattle.std.proofs.Common.{◌∙◌, ap, subst, sym, ◌≡◌, None, List, ℕ, string_bytes, map, ◌++◌, ◌∷◌, []}
use Rattle.pg_program.specs.NameTable.{place_in, by_bytes}
use Rattle.pg_program.proofs.NameLemmas.{by_bytes-insert_entry}
use Rattle.pg_program.proofs.AppendLemmas.{owes_nothing}
use Rattle.pg_program.proofs.name_table.append.Goals as goal

pub returns-clause-ok : goal.returns-clause-ok
returns-clause-ok g c =
    let same : string_bytes c.in_ok-owned.owned ≡ c.args.name.now = c.in_ok-owned.ensures.ok in
    let entries = c.args.entries.now.entries in
    ap by_bytes c.in_ok-insert.ensures.entries
    ∙ by_bytes-insert_entry c.in_ok-owned.owned c.args.value entries (subst (λ (n : List ℕ). place_in n (map (λ e. e.0) (by_bytes entries)) ≡ None) (sym same) c.requires)
    ∙ ap (λ (n : List ℕ). by_bytes entries ++ (n, c.args.value) ∷ []) same

pub returns-in_err-owned-clause-ok : goal.returns-in_err-owned-clause-ok
returns-in_err-owned-clause-ok g c = owes_nothing c.from_residual.result _ c.from_residual.ensures.0

pub returns-in_err-insert-clause-ok : goal.returns-in_err-insert-clause-ok
returns-in_err-insert-clause-ok g c = owes_nothing c.from_residual-in_err-insert.result _ c.from_residual-in_err-insert.ensures.0
