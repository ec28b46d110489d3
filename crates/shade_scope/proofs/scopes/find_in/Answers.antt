use Rattle.std.proofs.Common.{sym, ap, ◌∙◌, Some}
use Rattle.std.proofs.lemmas.Option.{slice_get-get_or}
use Rattle.shade_scope.proofs.IndexLaws.{read}
use Rattle.shade_scope.proofs.scopes.find_in.Goals as goal

pub returns-in-Some : goal.returns-in-Some
returns-in-Some c =
    let found = c.in-Some.ensures.lookup in
    c.nth.ensures ∙ sym (read _ _ _ _ c.requires (slice_get-get_or c.args.last.now c.args.name c.in-Some.place.now found.3.0 ∙ ap Some (sym found.1)))
