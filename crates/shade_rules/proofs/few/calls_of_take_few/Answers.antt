use Rattle.std.proofs.Common.{◌∙◌, sym, ap, map, Bor}
use Rattle.std.specs.List.{list_all}
use Rattle.shade_core.specs.declared.statement.CoreStatement.{CoreStatement}
use Rattle.shade_core.specs.Standing.{Standing, by_itself}
use Rattle.shade_rules.specs.Few.{takes_few}
use Rattle.shade_rules.proofs.FewLaws.{all_map}
use Rattle.shade_rules.proofs.few.calls_of_take_few.Goals as goal

pub returns : goal.returns
returns c =
    c.all_take_few.ensures ∙ (sym (all_map (λ (s : Standing). takes_few s.head) (λ (s : Bor CoreStatement). by_itself s.now) c.deref.result.now)
    ∙ ap (list_all (λ (s : Standing). takes_few s.head)) (ap (map (λ (s : Bor CoreStatement). by_itself s.now)) c.deref.ensures.value ∙ c.in_ok-listed.ensures))
