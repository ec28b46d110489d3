use Rattle.std.proofs.Common.{◌≡◌, subst, get_or, pos, to_z, of_z, w64, arith, rules}
use Rattle.std.specs.Prelude.{All}
use Rattle.std.proofs.lemmas.List.{take_all}
use Rattle.std.proofs.lemmas.List.Elements.{All-more}
use Rattle.shade_core.specs.Fits.{IsKey}
use Rattle.shade_typed.proofs.AnswerLaws.{confirms}
use Rattle.shade_typed.proofs.acts.are_keys.Goals as goal

pub loop-key-preserved : goal.loop-key-preserved
loop-key-preserved c =
    let key = get_or c.args.keys.now c.loop-key.key-index (pos 0) in
    let same : to_z w64 (of_z w64 key) ≡ key = search rules in
    All-more (IsKey c.args.scalar) c.args.keys.now c.loop-key.key-index (pos 0) c.loop-key-test.true c.loop-key.invariant (subst (IsKey c.args.scalar) same (c.is_ranged.ensures.0 c.if-not-is_ranged.false))

pub returns : goal.returns
returns c = confirms (subst (All (IsKey c.args.scalar)) (take_all c.loop-key.key-index c.args.keys.now (omega arith)) c.loop-key.invariant)
