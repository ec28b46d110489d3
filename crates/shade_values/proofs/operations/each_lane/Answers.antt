use Rattle.std.proofs.Common.{ap, sym, ◌∙◌, ◌++◌, ◌∷◌, [], map, ℕ, arith}
use Rattle.std.specs.List.{range_with_len}
use Rattle.std.proofs.lemmas.List.FromFn.{map-range_with_len_more}
use Rattle.shade_values.specs.declared.value.Value.TheVariants as value
use Rattle.shade_values.specs.Apply.{at_lane}
use Rattle.shade_values.proofs.operations.each_lane.Goals as goal

pub loop-k-preserved : goal.loop-k-preserved
loop-k-preserved c =
    let f = λ (k : ℕ). value.One (at_lane c.args.op c.args.args.now k) in
    let k = c.loop-k.k in
    c.in_ok-push.ensures.ok
    ∙ ap (λ l. l ++ value.One c.at_lane.result ∷ []) c.loop-k.invariant
    ∙ ap (λ x. map f (range_with_len 0 k) ++ value.One x ∷ []) c.at_lane.ensures
    ∙ sym (map-range_with_len_more f 0 k k (omega arith))
