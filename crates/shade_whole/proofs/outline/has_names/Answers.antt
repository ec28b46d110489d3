use Rattle.std.proofs.Common.{subst, map}
use Rattle.std.proofs.lemmas.Result.{IfOk-weaker}
use Rattle.shade_core.specs.HasShape.{AllDiffer}
use Rattle.shade_whole.proofs.ShapeLaws.{names_tell}
use Rattle.shade_whole.proofs.outline.has_names.Goals as goal

pub returns : goal.returns
returns c =
    let roots = subst (λ roots. AllDiffer (map (λ root. root.name) roots)) c.as_slice.ensures (c.in_ok-roots_differ.ensures.0 c.if-not-branch.false) in
    IfOk-weaker c.functions_differ.result _ _ (λ b h. names_tell c.args.module.now b roots h) (rw c.as_slice-2.ensures at c.functions_differ.ensures)
