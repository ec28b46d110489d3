use Rattle.std.proofs.Common.{ap, ◌∙◌, map}
use Rattle.std.specs.List.{range_with_len}
use Rattle.std.specs.Option.{unwrap_or}
use Rattle.shade_evaluate.specs.Misuse.{misuse_at, first_fault}
use Rattle.shade_evaluate.proofs.FaultLaws.{first_here, none_more}
use Rattle.shade_evaluate.proofs.misuses.misuse_by_parts.Goals as goal

pub returns-in-Some : goal.returns-in-Some
returns-in-Some c =
    let f = misuse_at c.args.op c.args.args.now c.args.at in
    first_here f c.unwrap_or-k-end.result c.loop-k.k c.in-Some.fault c.loop-k-test.true c.loop-k.invariant c.in-Some.ensures
    ∙ ap (λ n. first_fault (map f (range_with_len 0 n))) (c.unwrap_or-k-end.ensures ∙ ap (λ o. unwrap_or o 1) c.lanes.ensures)

pub loop-k-preserved : goal.loop-k-preserved
loop-k-preserved c = none_more (misuse_at c.args.op c.args.args.now c.args.at) c.loop-k.k c.loop-k.invariant c.in_default.ensures
