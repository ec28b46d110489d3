use Rattle.std.proofs.Common.{ap, ◌+◌, Bor}
use Rattle.shade_core.specs.declared.statement.CoreStatement.{CoreStatement}
use Rattle.shade_core.specs.Standing.{by_itself}
use Rattle.shade_rules.proofs.AliasLaws.{call_found, none_called, none_of_calls}
use Rattle.shade_rules.specs.Few.{takes_few}
use Rattle.shade_core.specs.Standing.{Standing}
use Rattle.shade_rules.proofs.FewLaws.{each_seen}
use Rattle.shade_rules.proofs.calls.first_call.Goals as goal

pub alias_of-requires : goal.alias_of-requires
alias_of-requires c =
    each_seen (λ (s : Standing). takes_few s.head) (λ (s : Bor CoreStatement). by_itself s.now) c.args.listed.now c.listed.statement-index c.statement-item.result c.requires c.listed-test.true c.statement-item.is

pub returns-in-Some : goal.returns-in-Some
returns-in-Some c =
    call_found (λ (s : Bor CoreStatement). by_itself s.now) _ c.args.listed.now c.listed.statement-index c.statement-item.result c.listed.call c.alias_of.result c.in-Some.pair c.listed.invariant.place c.listed-test.true
    c.statement-item.is c.listed.invariant.none c.alias_of.ensures c.in-Some.is

pub listed-preserved : goal.listed-preserved
listed-preserved c = record {
  place = ap (λ n. n + 1) c.listed.invariant.place;
  none = none_called (λ (s : Bor CoreStatement). by_itself s.now) _ c.args.listed.now c.listed.statement-index c.statement-item.result c.alias_of.result c.listed-test.true c.statement-item.is c.listed.invariant.none c.alias_of.ensures c.in_default.is;
}

pub returns : goal.returns
returns c = none_of_calls (λ (s : Bor CoreStatement). by_itself s.now) _ c.args.listed.now c.listed.statement-index c.listed-test.false c.listed.invariant.none
