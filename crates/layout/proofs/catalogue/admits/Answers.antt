use Rattle.std.proofs.Common.{◌≡◌, ℕ, ◌+◌, ◌%◌, ◌∙◌, false, option_map, w32, SFits, ap, arith, rules}
use Rattle.std.specs.Option.{option_map_or}
use Rattle.std.specs.List.{slice_get}
use Rattle.std.proofs.lemmas.Int.{to_z-of_z}
use borrow.Author.Tests.{tests}
use Rattle.layout.specs.Catalogue.{names, limits, in_limits, admits}
use Rattle.layout.specs.Rows.{limits_of}
use Rattle.layout.specs.declared.catalogue.Row.{Row}
use Rattle.layout.proofs.Rows.{row_admits, lent_at, key_at}
use Rattle.layout.proofs.catalogue.admits.Goals as goal

pub returns : goal.returns
unfolding admits
returns c =
    let v = c.args.pair.value in
    let f : SFits w32 v = search rules in
    let z = to_z-of_z w32 v f in
    let at : ℕ = (c.from-at.result + 18446744073709551615) % 18446744073709551616 in
    let some : c.is_some_and.result ≡ option_map_or (λ (r : Row). in_limits (limits_of r.limits) v) (option_map (λ r. r.now) c.get.result) false = search (rules, tests, z) in
    let row : option_map (λ r. r.now) c.get.result ≡ slice_get c.rows.result.now at = lent_at c.rows.result.now at c.get.result c.get.ensures.lookup in
    some ∙ ap (λ o. option_map_or (λ (r : Row). in_limits (limits_of r.limits) v) o false) row ∙ row_admits c.rows.result.now 0 names at v c.rows.ensures
    ∙ key_at (λ k. in_limits (limits k) v) c.args.pair.key at (ap (λ k. (k + 18446744073709551615) % 18446744073709551616) c.from-at.ensures) (omega arith)
