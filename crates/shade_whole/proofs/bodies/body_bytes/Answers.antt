use Rattle.std.proofs.Common.{◌∙◌}
use Rattle.shade_typed.specs.Contexts.{value_types}
use Rattle.shade_whole.proofs.BodyLaws.{kept, same_kept}
use Rattle.shade_whole.proofs.SizeLaws.{known_locals}
use Rattle.shade_whole.proofs.bodies.body_bytes.Goals as goal

pub bytes_kept-requires-clause-locals : goal.bytes_kept-requires-clause-locals
bytes_kept-requires-clause-locals c = known_locals c.args.types.now c.args.function.now c.requires.signature

pub returns : goal.returns
returns c =
    let ids = c.in-Some.ids.items in
    kept c.args.module.now c.args.function.now (value_types c.args.module.now.types ids) c.bytes_kept.result (c.in_ok-is_framed.ensures.0 c.if-not-branch.false) (rw c.in-Some.is at c.in_ok-ids.ensures.typed)
    (c.bytes_kept.ensures ∙ same_kept c.args.module.now c.args.types.now c.args.function.now _ ids c.requires.same c.deref.ensures.value)
