use Rattle.std.proofs.Common.{◌≡◌, ◌∙◌, ◌<◌, inl, inr, sym, ap, map, length, is_some, arith}
use Rattle.std.specs.Prelude.{codes}
use Rattle.std.proofs.lemmas.List.{length-map}
use Rattle.serde_json.specs.View.{view}
use Rattle.shade_job.specs.declared.numbers.NumberRange.TheVariants.{Below}
use Rattle.shade_job.specs.declared.refusal.JobRule.TheVariants as rule
use Rattle.shade_job.specs.Json.{number_of, items_in, NumbersFail}
use Rattle.shade_job.specs.Pointers.{item_pointer}
use Rattle.shade_job.specs.Schedules.{run_ranges}
use Rattle.shade_job.proofs.ListLaws.{seen_at}
use Rattle.shade_job.proofs.RefusalLaws.{refuses_by}
use Rattle.shade_job.proofs.ScheduleLaws.{Wrong, run_wrong, some_items}
use Rattle.shade_job.proofs.schedules.run_refusal.Goals as goal
use Rattle.shade_job.proofs.schedules.run_refusal.Goals.{in-Some-number_in, in-None}

pub returns-in-Ok : goal.returns-in-Ok
returns-in-Ok c =
    let two : length (map view c.in-Some.items.now) ≡ 2 = some_items (map view c.in-Some.items.now) (items_in (view c.args.value.now)) c.in-Some.ensures in
    let any : 0 < length c.in-Some.items.now = omega (arith, length-map c.in-Some.items.now view) in
    let wrong : Wrong (number_of (Below c.args.lanes) (view c.index-items-0.result)) c.match-number_in.wrong =
    elim c.match-number_in.branch [ in-Some-number_in w ↦ inr (ap is_some (sym w.in-Some-number_in.ensures), w.wrong-is) | in-None w ↦ inl (sym w.in-None.ensures, w.wrong-is) ] in
    refuses_by rule.Schedule (λ at. at ≡ item_pointer c.deref.result.now c.match-number_in.wrong) (NumbersFail (run_ranges c.args.lanes) (item_pointer (codes "/schedule/runs") c.args.index) (view c.args.value.now)) c.item_refusal-in-Ok.result
    (λ p is.
    run_wrong c.args.lanes (item_pointer (codes "/schedule/runs") c.args.index) (map view c.in-Some.items.now) (view c.args.value.now) (view c.index-items-0.result) c.match-number_in.wrong p c.in-Some.ensures
    (sym (seen_at view c.in-Some.items.now 0 c.index-items-0.result (view c.index-items-0.result) any c.index-items-0.is)) c.requires wrong
    (is ∙ ap (λ base. item_pointer base c.match-number_in.wrong) (c.deref.ensures.value ∙ c.in-Ok.ensures)))
    c.item_refusal-in-Ok.ensures
