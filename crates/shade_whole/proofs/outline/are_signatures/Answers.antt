use Rattle.std.proofs.Common.{subst, arith}
use Rattle.std.specs.Prelude.{All}
use Rattle.std.proofs.lemmas.List.{take_all}
use Rattle.shade_core.specs.HasShape.{IsSignature}
use Rattle.shade_whole.proofs.Tells.{confirms, all_with}
use Rattle.shade_whole.proofs.outline.are_signatures.Goals as goal

pub functions-preserved : goal.functions-preserved
functions-preserved c =
    all_with (IsSignature c.args.types.now) c.args.functions.now c.functions.function-index _ c.functions-test.true c.function-item.is c.functions.invariant (c.is_signature.ensures.0 c.if-not-is_signature.false)

pub returns : goal.returns
returns c = confirms (subst (All (IsSignature c.args.types.now)) (take_all c.functions.function-index c.args.functions.now (omega arith)) c.functions.invariant)
