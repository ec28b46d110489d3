use Rattle.std.proofs.Common.{sym, ap, ◌∙◌, map, Some}
use Rattle.serde_json.specs.View.{view, items_of}
use Rattle.shade_job.proofs.ListLaws.{items_seen}
use Rattle.shade_job.proofs.numbers.items_of.Goals as goal

pub returns-in-Some : goal.returns-in-Some
returns-in-Some c = sym (items_seen (view c.args.value.now) (map view c.as_slice.result.now) (sym (ap (λ vs. Some (items_of (map view vs))) c.as_slice.ensures.value ∙ c.in-Some.ensures)))
