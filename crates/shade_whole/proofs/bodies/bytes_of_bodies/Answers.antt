use Rattle.std.proofs.Common.{sym, ap, subst, length, arith}
use Rattle.std.specs.Prelude.{All}
use Rattle.shade_core.specs.HasShape.{IsSignature}
use Rattle.shade_whole.proofs.BodyLaws.{KeptSoFar, kept_first, kept_step, kept_never, kept_all}
use Rattle.shade_whole.proofs.Tells.{all_at}
use Rattle.shade_whole.proofs.bodies.bytes_of_bodies.Goals as goal

pub functions-init : goal.functions-init
functions-init c = subst (λ list. KeptSoFar c.args.module.now list 0) (sym c.new-kept.ensures.items) (kept_first c.args.module.now)

pub body_bytes-requires-clause-signature : goal.body_bytes-requires-clause-signature
body_bytes-requires-clause-signature c =
    let all = subst (All (IsSignature c.args.types.now)) (sym c.as_slice-function-items.ensures) c.requires.signatures in
    all_at (IsSignature c.args.types.now) c.as_slice-function-items.result.now c.functions.function-index c.function-item.result c.functions-test.true c.function-item.is all

pub returns-in_default-clause-none : goal.returns-in_default-clause-none
returns-in_default-clause-none c =
    kept_never c.args.module.now c.as_slice-function-items.result.now c.functions.function-index c.function-item.result c.as_slice-function-items.ensures c.functions-test.true c.function-item.is (rw c.in_default.is at c.in_ok-bytes.ensures)

pub functions-preserved : goal.functions-preserved
functions-preserved c =
    kept_step c.args.module.now c.as_slice-function-items.result.now c.functions.kept.items _ c.functions.function-index c.function-item.result c.in-Some.bytes c.as_slice-function-items.ensures c.functions-test.true c.function-item.is
    (rw c.in-Some.is at c.in_ok-bytes.ensures) c.in_ok-push.ensures.items c.functions.invariant

pub returns-clause-some : goal.returns-clause-some
returns-clause-some c =
    kept_all c.args.module.now c.functions.kept.items c.functions.function-index (omega (arith, c.functions-test.false, c.functions.auto.function-index-end, ap length c.as_slice-function-items.ensures)) c.functions.invariant
