use Rattle.std.proofs.Common.{◌≡◌, ◌∙◌, sym, ap, map, is_some, arith, below_more}
use Rattle.serde_json.specs.View.{view}
use Rattle.shade_job.specs.declared.numbers.NumberRange.TheVariants.{Between}
use Rattle.shade_job.specs.Json.{by_ranges, ItemFails}
use Rattle.shade_job.specs.Pointers.{item_pointer}
use Rattle.shade_job.proofs.ListLaws.{ranged_at, ranged_length, ranged_more, more_stated, item_fails}
use Rattle.shade_job.proofs.RefusalLaws.{refuses_by}
use Rattle.shade_job.proofs.numbers.numbers_by.Goals as goal

pub returns-in_default : goal.returns-in_default
returns-in_default c =
    refuses_by c.args.rule (λ at. at ≡ item_pointer c.args.pointer.now c.loop-index.index) (ItemFails c.args.pointer.now (by_ranges c.args.ranges.now (map view c.args.items.now))) c.item_refusal.result
    (λ p is.
    item_fails c.args.pointer.now (by_ranges c.args.ranges.now (map view c.args.items.now)) c.loop-index.index p (omega (arith, ranged_length view c.args.ranges.now c.args.items.now c.requires))
    (ranged_at view c.args.ranges.now c.args.items.now c.loop-index.index (Between 0 0) c.index-items-index.result c.loop-index-test.true c.requires c.index-items-index.is ∙ sym c.in_default.ensures)
    c.loop-index.invariant.before is)
    c.item_refusal.ensures

pub loop-index-preserved : goal.loop-index-preserved
loop-index-preserved c = record {
  each =
      ranged_more view c.args.ranges.now c.args.items.now c.loop-index.index (Between 0 0) c.index-items-index.result c.loop-index-test.true c.requires c.index-items-index.is
      ∙ more_stated _ c.loop-index.numbers.items c.add.new.numbers.items _ c.in-Some.number c.loop-index.invariant.each c.in-Some.ensures c.in_ok-add.ensures;
  before =
      below_more _ _ c.loop-index.invariant.before
      (ap is_some (ranged_at view c.args.ranges.now c.args.items.now c.loop-index.index (Between 0 0) c.index-items-index.result c.loop-index-test.true c.requires c.index-items-index.is) ∙ ap is_some (sym c.in-Some.ensures));
}
