use Rattle.std.proofs.Common.{sym, ap, ◌∙◌, map}
use Rattle.std.proofs.lemmas.Simd.{map-map}
use Rattle.shade_const.specs.Constant.{part_of}
use Rattle.shade_const.proofs.KindLaws.{held_same, of_node, by-Call}
use Rattle.shade_const.proofs.SideLaws.{on_right, held_back, all_fault, all_evaluated}
use Rattle.shade_const.proofs.constants.+walk.Goals as goal

pub value_of-returns-in-Infix : goal.value_of-returns-in-Infix
value_of-returns-in-Infix t c = held_same _ _ c.by_fact.result (of_node c.args.env.now c.args.expr.now c.in-Infix.is) c.by_fact.ensures

pub applied-returns-in_err-values-in-Call : goal.applied-returns-in_err-values-in-Call
applied-returns-in_err-values-in-Call t c =
    let same = by-Call c.args.env.now c.args.expr.now c.args.known.op c.args.known.to.now c.in-Call.callee c.in-Call.arguments c.in-Call.trailing c.in-Call.is in
    let parts = map part_of c.in-Call.arguments in
    held_back _ c.in_err-values-in-Call.field-0.0 _ c.from_residual-in_err-values-in-Call.ensures.1
    (on_right (λ e. sym same ∙ all_fault c.args.known.op c.args.known.to.now c.args.expr.now.place c.args.env.now parts c.in_err-values-in-Call.field-0.0 e) c.in_err-values-in-Call.ensures)

pub applied-returns-in_ok-values-in-Call : goal.applied-returns-in_ok-values-in-Call
applied-returns-in_ok-values-in-Call t c =
    let same = by-Call c.args.env.now c.args.expr.now c.args.known.op c.args.known.to.now c.in-Call.callee c.in-Call.arguments c.in-Call.trailing c.in-Call.is in
    let parts = map part_of c.in-Call.arguments in
    let places =
    c.deref.ensures.value ∙ c.in_ok-places-in-Call.ensures ∙ ap (map (λ e. (part_of e).place)) c.as_slice.ensures
    ∙ sym (map-map (λ p. p.place) part_of c.in-Call.arguments) in
    held_same _ _ c.finish.result
    (all_evaluated c.args.known.op c.args.known.to.now c.args.expr.now.place c.args.env.now parts c.in_ok-values-in-Call.values c.deref.result.now c.in_ok-values-in-Call.ensures places ∙ same)
    c.finish.ensures
