use Rattle.std.proofs.Common.{Bor}
use Rattle.shade_core.specs.declared.statement.CoreStatement.{CoreStatement}
use Rattle.shade_core.specs.Standing.{Standing, by_itself}
use Rattle.shade_rules.specs.Few.{takes_few}
use Rattle.shade_rules.specs.Gathered.{HasAt}
use Rattle.shade_rules.proofs.FewLaws.{each_seen}
use Rattle.shade_rules.proofs.GatherLaws.{listed_more, listed_all}
use Rattle.shade_rules.proofs.gather.gather.Goals as goal

pub add_act-requires : goal.add_act-requires
add_act-requires c =
    each_seen (λ (s : Standing). takes_few s.head) (λ (s : Bor CoreStatement). by_itself s.now) c.args.listed.now c.listed.statement-index c.statement-item.result c.requires c.listed-test.true c.statement-item.is

pub listed-preserved : goal.listed-preserved
listed-preserved c =
    listed_more (λ (s : Bor CoreStatement). by_itself s.now) (HasAt c.args.rows.now) c.args.listed.now c.listed.row c.add_act.new.out c.listed.statement-index c.statement-item.result c.listed-test.true c.statement-item.is c.listed.invariant
    c.in_ok-add_act.ensures

pub returns : goal.returns
returns c = listed_all (λ (s : Bor CoreStatement). by_itself s.now) (HasAt c.args.rows.now) c.args.listed.now c.listed.row c.listed.statement-index c.listed-test.false c.listed.invariant
