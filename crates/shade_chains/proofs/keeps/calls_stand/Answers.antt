use Rattle.std.proofs.Common.{ap, ◌∙◌}
use Rattle.shade_chains.specs.Tops.{rows_in}
use Rattle.shade_chains.proofs.KeepLaws.{stand_to, stand_from}
use Rattle.shade_chains.proofs.keeps.calls_stand.Goals as goal

pub returns : goal.returns
returns c =
    let is = c.in_ok-rows.ensures ∙ ap rows_in c.as_slice.ensures in
    let tells = rw c.deref.ensures.value at c.rows_stand.ensures in
    (λ h. stand_from c.args.module.now _ is (tells.0 h), λ stand. tells.1 (stand_to c.args.module.now _ is stand))
