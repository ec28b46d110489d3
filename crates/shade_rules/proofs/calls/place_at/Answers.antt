use Rattle.std.proofs.Common.{◌≡◌, ◌∙◌, ◌++◌, ◌<◌, ap, map, length, List, false, arith}
use Rattle.shade_core.specs.Code.{code_of}
use Rattle.shade_core.specs.Places.{list_places}
use Rattle.shade_rules.specs.declared.statements.Finding.{Finding}
use Rattle.shade_rules.specs.Findings.{findings, place_of, told_of}
use Rattle.shade_rules.proofs.AliasLaws.{found_within, place_found}
use Rattle.shade_rules.proofs.calls.place_at.Goals as goal

pub index-requires : goal.index-requires
index-requires c =
    let body = code_of c.args.function.now.body in
    let told : map told_of c.add_list.new.out.items ≡ findings false false body = c.in_ok-add_list.ensures.told ∙ ap (λ (l : List Finding). map told_of l ++ findings false false body) c.new-found.ensures.items in
    let lt : c.args.number < length c.add_list.new.out.items = found_within c.add_list.new.out.items body c.args.number told c.requires in
    omega (arith, lt, c.add_list.new.out.ok.0)

pub returns : goal.returns
returns c =
    let body = code_of c.args.function.now.body in
    let told : map told_of c.add_list.new.out.items ≡ findings false false body = c.in_ok-add_list.ensures.told ∙ ap (λ (l : List Finding). map told_of l ++ findings false false body) c.new-found.ensures.items in
    let places : map place_of c.add_list.new.out.items ≡ list_places c.args.function.now.body =
    c.in_ok-add_list.ensures.places ∙ ap (λ (l : List Finding). map place_of l ++ list_places c.args.function.now.body) c.new-found.ensures.items in
    place_found c.add_list.new.out.items (list_places c.args.function.now.body) c.args.number c.index.result.now places (found_within c.add_list.new.out.items body c.args.number told c.requires) c.index.ensures
