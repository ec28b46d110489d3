use Rattle.std.proofs.Common.{subst, arith}
use Rattle.std.specs.Prelude.{All}
use Rattle.std.proofs.lemmas.List.{take_all}
use Rattle.shade_core.specs.Roots.{IsRoot}
use Rattle.shade_shape.proofs.Tells.{refutes, confirms}
use Rattle.shade_shape.proofs.ValueLaws.{all_at, all_with}
use Rattle.shade_shape.proofs.roots.are_roots.Goals as goal

pub returns-then-not-is_root : goal.returns-then-not-is_root
returns-then-not-is_root c =
    refutes (λ all. absurd (let h = c.is_root.ensures.1 (all_at (IsRoot c.args.types.now) c.args.roots.now c.roots.root-index _ c.roots-test.true c.root-item.is all) in cc (h, c.if-not-is_root.true)))

pub roots-preserved : goal.roots-preserved
roots-preserved c = all_with (IsRoot c.args.types.now) c.args.roots.now c.roots.root-index _ c.roots-test.true c.root-item.is c.roots.invariant (c.is_root.ensures.0 c.if-not-is_root.false)

pub returns : goal.returns
returns c = confirms (subst (All (IsRoot c.args.types.now)) (take_all c.roots.root-index c.args.roots.now (omega arith)) c.roots.invariant)
