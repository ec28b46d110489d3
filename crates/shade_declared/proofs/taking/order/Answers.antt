use Rattle.std.proofs.Common.{sym, ◌∙◌, false, length, replicate, map, ◌++◌, []}
use Rattle.shade_declared.specs.Order.{numbers}
use Rattle.shade_declared.specs.declared.taking.Turn.TheVariants as turn
use Rattle.shade_declared.proofs.Leading.{next_leads, last_leads}
use Rattle.shade_declared.proofs.Falling.{next_less}
use Rattle.shade_declared.proofs.taking.order.Goals as goal

pub turns-smaller : goal.turns-smaller
turns-smaller c =
    next_less c.args.named.now c.turns.begun.items c.take_turn.new.begun.items c.turns.turns.items c.pop.new.self.items c.take_turn.new.turns.items c.in-Some.turn
    c.in-Some.ensures.items c.in_ok-take_turn.ensures.marks c.in_ok-take_turn.ensures.turns

pub turns-preserved : goal.turns-preserved
turns-preserved c =
    next_leads c.args.named.now (replicate (length c.args.named.now) false) c.turns.begun.items c.take_turn.new.begun.items
    (map turn.Begin (numbers (length c.args.named.now)) ++ []) c.turns.turns.items c.pop.new.self.items c.take_turn.new.turns.items c.in-Some.turn
    c.turns.order.items c.take_turn.new.order.items
    c.in-Some.ensures.items c.in_ok-take_turn.ensures.marks c.in_ok-take_turn.ensures.turns c.in_ok-take_turn.ensures.order c.turns.invariant

pub returns : goal.returns
returns c = last_leads c.args.named.now c.turns.begun.items c.turns.turns.items c.turns.order.items (sym c.turns.turns.ok.0 ∙ c.in_default.ensures.cases.0) c.turns.invariant
