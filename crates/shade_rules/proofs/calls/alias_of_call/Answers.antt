use Rattle.std.proofs.Common.{◌∙◌, ap, sym, Some}
use Rattle.std.proofs.lemmas.Option.{slice_get-get_or}
use Rattle.shade_rules.proofs.ScanLaws.{known_there}
use Rattle.shade_rules.proofs.calls.alias_of_call.Goals as goal

pub returns : goal.returns
returns c =
    known_there c.args.rows.now c.args.function c.args.args.now c.in_ok-row.row.now c.first_alias.result
    (slice_get-get_or c.args.rows.now c.args.function c.in_ok-row.row.now c.in_ok-row.ensures.lookup.3.0 ∙ ap Some (sym c.in_ok-row.ensures.lookup.1)) c.first_alias.ensures
