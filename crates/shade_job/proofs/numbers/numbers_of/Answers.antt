use Rattle.std.proofs.Common.{◌≡◌, ◌∙◌, sym, ap, map, is_some, arith, below_more}
use Rattle.std.proofs.lemmas.Grind.{common_steps}
use Rattle.serde_json.specs.View.{view}
use Rattle.shade_job.specs.Json.{number_of, by_range, ItemFails}
use Rattle.shade_job.specs.Pointers.{item_pointer}
use Rattle.shade_job.proofs.ListLaws.{stated_at, stated_length, item_fails}
use Rattle.shade_job.proofs.RefusalLaws.{refuses_by}
use Rattle.shade_job.proofs.numbers.numbers_of.Goals as goal

pub returns-in_default : goal.returns-in_default
returns-in_default c =
    refuses_by c.args.rule (λ at. at ≡ item_pointer c.args.pointer.now c.loop-index.index) (ItemFails c.args.pointer.now (by_range c.args.range (map view c.args.items.now))) c.item_refusal.result
    (λ p is.
    item_fails c.args.pointer.now (by_range c.args.range (map view c.args.items.now)) c.loop-index.index p (omega (arith, stated_length view (number_of c.args.range) c.args.items.now))
    (stated_at view (number_of c.args.range) c.args.items.now c.loop-index.index c.index-items-index.result c.loop-index-test.true c.index-items-index.is ∙ sym c.in_default.ensures)
    c.loop-index.invariant.before is)
    c.item_refusal.ensures

pub loop-index-preserved : goal.loop-index-preserved
loop-index-preserved c = record {
  each = grind (arith, common_steps);
  before =
      below_more _ _ c.loop-index.invariant.before
      (ap is_some (stated_at view (number_of c.args.range) c.args.items.now c.loop-index.index c.index-items-index.result c.loop-index-test.true c.index-items-index.is) ∙ ap is_some (sym c.in-Some.ensures));
}
