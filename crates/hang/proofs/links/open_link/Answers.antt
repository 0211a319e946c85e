use Rattle.std.proofs.Common.{◌≡◌, eqb, rules, tests}
use Rattle.std.specs.Option.{option_map}
use Rattle.std.proofs.lemmas.Iterator.{YieldsList-from_slice}
use Rattle.std.proofs.lemmas.Iterator.Search.{find_from_yields_List}
use Rattle.hang.proofs.Linking.{link_found}
use Rattle.hang.proofs.links.open_link.Goals as goal

pub returns : goal.returns
returns c =
    let name = c.args.name.packed in
    let found = find_from_yields_List (λ f. eqb f.name.packed name) _ _ c.find.result c.find.ensures.ran (YieldsList-from_slice c.args.free.now cc) (λ x b q k. search (rules, tests)) in
    let linked : c.map.result ≡ option_map (λ y. y.now.link) c.find.result = search rules in
    link_found c.args.name c.args.free.now c.find.result c.map.result found linked
