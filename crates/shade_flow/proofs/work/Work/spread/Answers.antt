use Rattle.std.proofs.Common.{◌<◌, ℕ, length, vec_len, get_or, arith}
use Rattle.std.proofs.lemmas.Option.{slice_get-get_or}
use Rattle.std.proofs.lemmas.List.Elements.{All-contains, Contains-get_or}
use Rattle.shade_flow.proofs.SpreadLaws.{spreads_more}
use Rattle.shade_flow.proofs.work.Work.spread.Goals as goal

pub loop-target-preserved : goal.loop-target-preserved
loop-target-preserved c =
    let within : c.loop-target.target-index < length c.args.targets.now = omega arith in
    let below : get_or c.args.targets.now c.loop-target.target-index 0 < vec_len c.args.self.now.rows = All-contains (λ (t : ℕ). t < vec_len c.args.self.now.rows) c.args.targets.now _ c.requires (Contains-get_or _ _ 0 within) in
    spreads_more _ _ _ _ _ _ _ _ _ _ c.loop-target.invariant (slice_get-get_or c.args.targets.now c.loop-target.target-index 0 within) (omega (arith, below, c.loop-target.invariant.long)) c.in_ok-add.ensures
