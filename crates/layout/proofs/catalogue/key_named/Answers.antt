use Rattle.std.proofs.Common.{◌≡◌, option_map, ap, ◌∙◌, rules}
use Rattle.std.specs.Option.{option_map_or}
use Rattle.std.specs.Str.{bytes_eq}
use Rattle.std.proofs.lemmas.Iterator.{YieldsList-from_slice}
use Rattle.std.proofs.lemmas.Iterator.Search.{find_from_yields_List}
use borrow.Author.Tests.{tests}
use Rattle.layout.specs.Catalogue.{names, key_named}
use Rattle.layout.specs.declared.catalogue.Row.{Row}
use Rattle.layout.proofs.Rows.{rows_name}
use Rattle.layout.proofs.catalogue.key_named.Goals as goal

pub returns : goal.returns
unfolding key_named
returns c =
    let found = find_from_yields_List (λ (r : Row). bytes_eq r.name.now c.args.name.now) c.find.new.self _ c.find.result c.find.ensures.ran (YieldsList-from_slice c.rows.result.now cc) (λ x b q k. search (rules, tests)) in
    let key : c.map_or.result ≡ option_map_or (λ (r : Row). r.key) (option_map (λ r. r.now) c.find.result) 0 = search rules in
    key ∙ ap (λ o. option_map_or (λ (r : Row). r.key) o 0) found
    ∙ rows_name c.rows.result.now 0 names c.args.name.now c.rows.ensures
