use Rattle.std.proofs.Common.{sym, ◌∙◌, arith, true≢false}
use Rattle.shade_scope.proofs.CycleLaws.{absent, no_way_as, outside, settled, told}
use Rattle.shade_scope.proofs.cycles.with_head.Goals as goal

pub returns-then-is_no_later : goal.returns-then-is_no_later
returns-then-is_no_later c = λ heads l. settled _ heads c.args.head _ (sym c.is_no_later.ensures ∙ c.if-is_no_later.true) l

pub returns-then-head-ranked : goal.returns-then-head-ranked
returns-then-head-ranked c = λ heads l. outside _ heads c.args.head _ c.args.ranked.now.nodes c.requires.joins (omega arith) l

pub returns-then-falls_at : goal.returns-then-falls_at
returns-then-falls_at c = λ heads l.
    absent _ heads c.args.head _ (no_way_as _ _ _ _ (c.requires.steady c.if-ranked.true) c.targets.ensures.targets _ _ c.falls_at.ensures c.as_slice.ensures c.if-falls_at.true) l

pub returns-then-branch : goal.returns-then-branch
returns-then-branch c = λ heads l. told _ heads c.args.head _ (sym c.is_no_later.ensures ∙ c.if-is_no_later.false) (c.in_ok-is_cyclic.ensures.0 c.if-branch.true) l

pub returns : goal.returns
returns c = λ heads l. absent _ heads c.args.head _ (λ cyclic. true≢false (sym (c.in_ok-is_cyclic.ensures.1 cyclic) ∙ c.if-branch.false)) l
