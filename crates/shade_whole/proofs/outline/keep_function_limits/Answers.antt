use Rattle.std.proofs.Common.{subst, arith}
use Rattle.std.specs.Prelude.{All}
use Rattle.std.proofs.lemmas.List.{take_all}
use Rattle.shade_core.specs.HasShape.{IsSignature}
use Rattle.shade_core.specs.Limits.{KeepsFunctionLimits}
use Rattle.shade_whole.proofs.SizeLaws.{known_locals}
use Rattle.shade_whole.proofs.Tells.{confirms, all_at, all_with}
use Rattle.shade_whole.proofs.outline.keep_function_limits.Goals as goal

pub keeps_function_limits-requires : goal.keeps_function_limits-requires
keeps_function_limits-requires c =
    known_locals c.args.types.now c.function-item.result (all_at (IsSignature c.args.types.now) c.args.functions.now c.functions.function-index c.function-item.result c.functions-test.true c.function-item.is c.requires)

pub functions-preserved : goal.functions-preserved
functions-preserved c =
    all_with (KeepsFunctionLimits c.args.types.now) c.args.functions.now c.functions.function-index _ c.functions-test.true c.function-item.is c.functions.invariant (c.keeps_function_limits.ensures.0 c.if-not-keeps_function_limits.false)

pub returns : goal.returns
returns c = confirms (subst (All (KeepsFunctionLimits c.args.types.now)) (take_all c.functions.function-index c.args.functions.now (omega arith)) c.functions.invariant)
