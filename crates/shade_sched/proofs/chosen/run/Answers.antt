use Rattle.std.proofs.Common.{arith, ◌≡◌, ◌+◌, ◌<◌, ◌≤◌, ◌∙◌, ap, refl, sym, subst}
use Rattle.shade_group.specs.Seen.{machine_of}
use Rattle.shade_group.specs.Group.{run_end_of}
use Rattle.shade_group.specs.declared.event.RunEnd.TheVariants as run_end
use Rattle.shade_sched.specs.Chosen.{end_of, IsCutRun}
use Rattle.shade_sched.proofs.PickLaws.{taken_none, taken_more, taken_all, taken_some, on_err}
use Rattle.shade_sched.proofs.chosen.run.Goals as goal

pub steps-init : goal.steps-init
steps-init g c = record { taken = taken_none (g.F.Choosing.gives c.args.chooser.now) (machine_of c.args.group.now); few = omega arith }

pub steps-preserved : goal.steps-preserved
steps-preserved g c =
    let goes : c.steps.step < c.args.limit = (c.steps-test.ensures.runs refl).0 in
    record {
      taken = taken_more (g.F.Choosing.gives c.args.chooser.now) (machine_of c.args.group.now) (machine_of c.steps.group) (machine_of c.step_chosen.new.group) c.steps.step c.steps.invariant.taken c.in_ok-step_chosen.ensures.ok;
      few = omega (arith, goes);
    }

pub returns-clause-ok : goal.returns-clause-ok
returns-clause-ok g c =
    taken_all (g.F.Choosing.gives c.args.chooser.now) c.args.limit (machine_of c.args.group.now) (machine_of c.steps.group) c.steps.step c.end_by.result c.steps.invariant.taken c.steps.invariant.few
    (c.steps-test.ensures.rests refl) (c.end_by.ensures ∙ ap end_of c.state.ensures.end)

pub returns-in_err-step_chosen-clause-err : goal.returns-in_err-step_chosen-clause-err
returns-in_err-step_chosen-clause-err g c =
    let goes = c.steps-test.ensures.runs refl in
    on_err c.from_residual.result _
    (subst (λ m. IsCutRun (g.F.Choosing.gives c.args.chooser.now) c.args.limit (machine_of c.args.group.now) m) (sym c.in_err-step_chosen.ensures.err)
    (taken_some (g.F.Choosing.gives c.args.chooser.now) c.args.limit (machine_of c.args.group.now) (machine_of c.steps.group) c.steps.step c.steps.invariant.taken goes.0 goes.1))
