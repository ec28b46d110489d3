use Rattle.std.proofs.Common.{ℕ, subst}
use Rattle.serde_json.specs.View.{view, members_view}
use Rattle.shade_job.specs.declared.refusal.JobRule.TheVariants as rule
use Rattle.shade_job.specs.ByRule.{RefusesBy}
use Rattle.shade_job.specs.Schedules.{ScheduleIs, ScheduleFails}
use Rattle.shade_job.proofs.RefusalLaws.{errs}
use Rattle.shade_job.proofs.JobLaws.{at_version, at_entry, at_groups, at_group, at_buffers, at_words, at_schedule, at_steps, at_other}
use Rattle.shade_job.proofs.reading.read_stated.Goals as goal

pub returns-in_err-version : goal.returns-in_err-version
returns-in_err-version c = errs _ c.in_err-version.field-0.0 _ _ c.from_residual.ensures.1 (at_version c.args.module.now (view c.args.value.now) c.in_err-version.field-0.0 c.in_err-version.ensures)

pub returns-in_err-entry : goal.returns-in_err-entry
returns-in_err-entry c = errs _ c.in_err-entry.field-0.0 _ _ c.from_residual-in_err-entry.ensures.1 (at_entry c.args.module.now (view c.args.value.now) c.in_err-entry.field-0.0 c.in_ok-version.version c.in_ok-version.ensures c.in_err-entry.ensures)

pub returns-in_err-groups : goal.returns-in_err-groups
returns-in_err-groups c = errs _ c.in_err-groups.field-0.0 _ _ c.from_residual-in_err-groups.ensures.1 (at_groups c.args.module.now (view c.args.value.now) c.in_err-groups.field-0.0 c.in_ok-version.version c.in_ok-version.ensures c.in_ok-entry.entry c.in_ok-entry.ensures c.in_err-groups.ensures)

pub returns-in_err-group : goal.returns-in_err-group
returns-in_err-group c = errs _ c.in_err-group.field-0.0 _ _ c.from_residual-in_err-group.ensures.1 (at_group c.args.module.now (view c.args.value.now) c.in_err-group.field-0.0 c.in_ok-version.version c.in_ok-version.ensures c.in_ok-entry.entry c.in_ok-entry.ensures c.in_ok-groups.groups c.in_ok-groups.ensures c.in_err-group.ensures)

pub returns-in_err-members : goal.returns-in_err-members
returns-in_err-members c = errs _ c.in_err-members.field-0.0 _ _ c.from_residual-in_err-members.ensures.1 (at_buffers c.args.module.now (view c.args.value.now) c.in_err-members.field-0.0 c.in_ok-version.version c.in_ok-version.ensures c.in_ok-entry.entry c.in_ok-entry.ensures c.in_ok-groups.groups c.in_ok-groups.ensures c.in_ok-group.group c.in_ok-group.ensures c.in_err-members.ensures)

pub returns-in_err-words : goal.returns-in_err-words
returns-in_err-words c = errs _ c.in_err-words.field-0.0 _ _ c.from_residual-in_err-words.ensures.1 (at_words c.args.module.now (view c.args.value.now) c.in_err-words.field-0.0 c.in_ok-version.version c.in_ok-version.ensures c.in_ok-entry.entry c.in_ok-entry.ensures c.in_ok-groups.groups c.in_ok-groups.ensures c.in_ok-group.group c.in_ok-group.ensures (members_view c.in_ok-members.members.now.entries) c.in_ok-members.ensures c.in_err-words.ensures)

pub returns-in_err-schedule : goal.returns-in_err-schedule
returns-in_err-schedule c = errs _ c.in_err-schedule.field-0.0 _ _ c.from_residual-in_err-schedule.ensures.1 (at_schedule c.args.module.now (view c.args.value.now) c.in_err-schedule.field-0.0 c.in_ok-version.version c.in_ok-version.ensures c.in_ok-entry.entry c.in_ok-entry.ensures c.in_ok-groups.groups c.in_ok-groups.ensures c.in_ok-group.group c.in_ok-group.ensures (members_view c.in_ok-members.members.now.entries) c.in_ok-members.ensures c.in_ok-words.words c.in_ok-words.ensures (subst (λ (n : ℕ). RefusesBy rule.Schedule (ScheduleFails c.in_ok-version.version n (view c.args.value.now)) c.in_err-schedule.field-0.0) c.lanes_at.ensures c.in_err-schedule.ensures))

pub returns-in_err-steps : goal.returns-in_err-steps
returns-in_err-steps c = errs _ c.in_err-steps.field-0.0 _ _ c.from_residual-in_err-steps.ensures.1 (at_steps c.args.module.now (view c.args.value.now) c.in_err-steps.field-0.0 c.in_ok-version.version c.in_ok-version.ensures c.in_ok-entry.entry c.in_ok-entry.ensures c.in_ok-groups.groups c.in_ok-groups.ensures c.in_ok-group.group c.in_ok-group.ensures (members_view c.in_ok-members.members.now.entries) c.in_ok-members.ensures c.in_ok-words.words c.in_ok-words.ensures c.in_ok-schedule.schedule (subst (λ (n : ℕ). ScheduleIs c.in_ok-version.version n (view c.args.value.now) c.in_ok-schedule.schedule) c.lanes_at.ensures c.in_ok-schedule.ensures) c.in_err-steps.ensures)

pub returns-in_err-refuse_others : goal.returns-in_err-refuse_others
returns-in_err-refuse_others c = errs _ c.in_err-refuse_others.field-0.0 _ _ c.from_residual-in_err-refuse_others.ensures.1 (at_other c.args.module.now (view c.args.value.now) c.in_err-refuse_others.field-0.0 c.in_ok-version.version c.in_ok-version.ensures c.in_ok-entry.entry c.in_ok-entry.ensures c.in_ok-groups.groups c.in_ok-groups.ensures c.in_ok-group.group c.in_ok-group.ensures (members_view c.in_ok-members.members.now.entries) c.in_ok-members.ensures c.in_ok-words.words c.in_ok-words.ensures c.in_ok-schedule.schedule (subst (λ (n : ℕ). ScheduleIs c.in_ok-version.version n (view c.args.value.now) c.in_ok-schedule.schedule) c.lanes_at.ensures c.in_ok-schedule.ensures) c.in_ok-steps.steps c.in_ok-steps.ensures c.in_err-refuse_others.ensures)

pub returns : goal.returns
returns c = record {
  version = c.in_ok-version.version;
  members = members_view c.in_ok-members.members.now.entries;
  versioned = c.in_ok-version.ensures;
  entry = c.in_ok-entry.ensures;
  groups = c.in_ok-groups.ensures;
  group = c.in_ok-group.ensures;
  buffers = c.in_ok-members.ensures;
  words = c.in_ok-words.ensures;
  schedule = subst (λ (n : ℕ). ScheduleIs c.in_ok-version.version n (view c.args.value.now) c.in_ok-schedule.schedule) c.lanes_at.ensures c.in_ok-schedule.ensures;
  steps = c.in_ok-steps.ensures;
  no_other = c.in_ok-refuse_others.ensures;
}
