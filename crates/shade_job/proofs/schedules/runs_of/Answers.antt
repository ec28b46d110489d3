use Rattle.std.proofs.Common.{◌∙◌, sym, ap, subst, map, is_some, arith, below_more}
use Rattle.serde_json.specs.Data.{Data, null}
use Rattle.serde_json.specs.View.{view}
use Rattle.shade_job.specs.declared.refusal.JobRule.TheVariants as rule
use Rattle.std.specs.Prelude.{codes}
use Rattle.shade_job.specs.Json.{NumbersFail}
use Rattle.shade_job.specs.Pointers.{item_pointer}
use Rattle.shade_job.specs.Schedules.{run_of, run_ranges, RunFails}
use Rattle.shade_job.proofs.ListLaws.{seen_at, stated_at, stated_length, stated_more, more_stated}
use Rattle.shade_job.proofs.RefusalLaws.{refuses_by}
use Rattle.shade_job.proofs.schedules.runs_of.Goals as goal

pub returns-in_default : goal.returns-in_default
returns-in_default c =
    refuses_by rule.Schedule (NumbersFail (run_ranges c.args.lanes) (item_pointer (codes "/schedule/runs") c.loop-index.index) (view c.index-items-index.result)) (RunFails c.args.lanes (codes "/schedule/runs") (map view c.args.items.now)) c.run_refusal.result
    (λ p h. record {
      index = c.loop-index.index;
      first = record {
        within = omega (arith, stated_length view (run_of c.args.lanes) c.args.items.now);
        here = stated_at view (run_of c.args.lanes) c.args.items.now c.loop-index.index c.index-items-index.result c.loop-index-test.true c.index-items-index.is ∙ sym c.in_default.ensures;
        before = c.loop-index.invariant.before;
      };
      fails =
          subst (λ (d : Data). NumbersFail (run_ranges c.args.lanes) (item_pointer (codes "/schedule/runs") c.loop-index.index) d p)
          (sym (seen_at view c.args.items.now c.loop-index.index c.index-items-index.result null c.loop-index-test.true c.index-items-index.is)) h;
    })
    c.run_refusal.ensures

pub loop-index-preserved : goal.loop-index-preserved
loop-index-preserved c = record {
  each =
      stated_more view (run_of c.args.lanes) c.args.items.now c.loop-index.index c.index-items-index.result c.loop-index-test.true c.index-items-index.is
      ∙ more_stated _ c.loop-index.runs.items c.add.new.runs.items _ c.in-Some.run' c.loop-index.invariant.each c.in-Some.ensures c.in_ok-add.ensures;
  before =
      below_more _ _ c.loop-index.invariant.before
      (ap is_some (stated_at view (run_of c.args.lanes) c.args.items.now c.loop-index.index c.index-items-index.result c.loop-index-test.true c.index-items-index.is) ∙ ap is_some (sym c.in-Some.ensures));
}
