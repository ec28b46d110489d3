use Rattle.std.proofs.Common.{◌≡◌, ◌∙◌, sym, ap, subst, true, List, map, Bor}
use Rattle.std.specs.List.{list_all}
use Rattle.shade_core.specs.declared.statement.CoreStatement.{CoreStatement}
use Rattle.shade_core.specs.Standing.{Standing, by_itself}
use Rattle.shade_rules.specs.Few.{takes_few}
use Rattle.shade_rules.proofs.AliasLaws.{function_none, function_some, call_within}
use Rattle.shade_rules.proofs.calls.first_in.Goals as goal

pub first_call-requires : goal.first_call-requires
first_call-requires c =
    subst (λ (l : List Standing). list_all (λ (s : Standing). takes_few s.head) l ≡ true) (sym (ap (map (λ (s : Bor CoreStatement). by_itself s.now)) c.deref.ensures.value ∙ c.in_ok-listed.ensures)) c.requires

pub returns-in_default : goal.returns-in_default
returns-in_default c =
    function_none _ c.args.function.now _ c.first_call.result (ap (map (λ (s : Bor CoreStatement). by_itself s.now)) c.deref.ensures.value ∙ c.in_ok-listed.ensures) c.first_call.ensures c.in_default.is

pub place_at-requires : goal.place_at-requires
place_at-requires c =
    call_within _ c.args.function.now _ c.first_call.result (ap (map (λ (s : Bor CoreStatement). by_itself s.now)) c.deref.ensures.value ∙ c.in_ok-listed.ensures) c.first_call.ensures c.in-Some.found c.in-Some.is

pub returns : goal.returns
returns c =
    function_some _ c.args.function.now _ c.first_call.result (ap (map (λ (s : Bor CoreStatement). by_itself s.now)) c.deref.ensures.value ∙ c.in_ok-listed.ensures) c.first_call.ensures c.in-Some.found c.in_ok-place.place
    c.in-Some.is c.in_ok-place.ensures
