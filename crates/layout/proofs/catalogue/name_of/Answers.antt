use Rattle.std.proofs.Common.{◌≡◌, ◌==◌, option_map, refl, ap, ◌∙◌, rules}
use Rattle.std.proofs.lemmas.Iterator.{YieldsList-from_slice}
use Rattle.std.proofs.lemmas.Iterator.Search.{find_from_yields_List}
use borrow.Author.Tests.{tests}
use Rattle.layout.specs.Catalogue.{names, name_of, key_named, NamesTellKeys}
use Rattle.layout.specs.declared.catalogue.Row.{Row}
use Rattle.layout.proofs.Rows.{rows_key}
use Rattle.layout.proofs.catalogue.name_of.Goals as goal

apart : NamesTellKeys
unfolding key_named
apart = refl

pub returns : goal.returns
unfolding name_of
returns c =
    let found = find_from_yields_List (λ (r : Row). r.key == c.args.key) c.find.new.self _ c.find.result c.find.ensures.ran (YieldsList-from_slice c.rows.result.now cc) (λ x b q k. search (rules, tests)) in
    let name : option_map (λ name. name.now) c.map.result ≡ option_map (λ (r : Row). r.name.now) (option_map (λ r. r.now) c.find.result) = search rules in
    record { name = name ∙ ap (option_map (λ (r : Row). r.name.now)) found ∙ rows_key c.rows.result.now 0 names c.args.key c.rows.ensures; apart = apart }
