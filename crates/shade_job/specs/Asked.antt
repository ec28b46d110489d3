-- What a schedule asks for, as the reader holds it.
use Rattle.serde_json.specs.View.{view}
use Rattle.shade_job.specs.declared.schedules.ScheduleForm.{ScheduleForm}
use Rattle.shade_job.specs.declared.schedules.ScheduleForm.TheVariants as asks
use Rattle.shade_job.specs.Schedules.{Form, by_lanes, by_round, by_seed, by_picks, by_list, by_runs}

abbrev pub asked_for : ScheduleForm → Form
asked_for asks.Lanes = by_lanes
asked_for asks.Round = by_round
asked_for (asks.Seed value) = by_seed (view value.now)
asked_for (asks.Picks value) = by_picks (view value.now)
asked_for (asks.List value) = by_list (view value.now)
asked_for (asks.Runs value) = by_runs (view value.now)
