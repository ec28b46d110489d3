use borrow.Author.Rules.{rules}
use Rattle.std.proofs.Common.{◌≡◌, ◌∙◌, sym, true}
use Rattle.shade_flow.specs.Definitions.{tracked}
use Rattle.shade_uniformity.proofs.AddLaws.{held_adds, held_none}
use Rattle.shade_uniformity.proofs.held.add_held.Goals as goal

pub returns-then-not-is_tracked : goal.returns-then-not-is_tracked
returns-then-not-is_tracked c =
    held_none c.args.function.now c.args.statement c.args.from c.args.variable c.args.rows.now.items (sym c.is_tracked.ensures ∙ c.if-not-is_tracked.true)

pub returns : goal.returns
returns c =
    let followed : tracked c.args.function.now c.args.variable ≡ true = sym c.is_tracked.ensures ∙ c.if-not-is_tracked.false in
    held_adds c.args.function.now c.args.statement c.args.from c.args.variable c.in_ok-found.found c.args.rows.now.items c.add_definitions.new.rows.items (search rules) followed
    (c.in_ok-found.ensures c.args.function.now c.requires.kept c.requires.numbered followed)
