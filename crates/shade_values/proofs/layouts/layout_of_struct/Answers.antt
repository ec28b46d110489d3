use Rattle.std.proofs.Common.{◌≡◌, sym, ap, ◌∙◌, map, get_or, ◌<◌, arith}
use Rattle.std.proofs.lemmas.List.{get_or-map, length-map}
use Rattle.shade_values.specs.Kept.{layouts_of, layout_in}
use Rattle.shade_values.proofs.LayoutLaws.{laying_begins, laying_step}
use Rattle.shade_values.proofs.layouts.layout_of_struct.Goals as goal

pub loop-id-init : goal.loop-id-init
loop-id-init c = record {
  laying = laying_begins _;
  positive = omega arith;
  near = omega arith;
  short = omega arith;
}

pub loop-id-preserved : goal.loop-id-preserved
loop-id-preserved c =
    let entries = c.args.entries.now in
    let members = c.args.members.now in
    let i = c.loop-id.id-index in
    let m = c.layout_of-member.result in
    let here : m ≡ get_or (map (λ x. layout_in (layouts_of entries) x.1) members) i m =
    c.layout_of-member.ensures.value
    ∙ ap (λ x. layout_in (layouts_of entries) x.1) c.loop-id-item.is
    ∙ sym (get_or-map (λ x. layout_in (layouts_of entries) x.1) members i c.loop-id-item.result m c.loop-id-test.true) in
    record {
      laying = rw (c.next_multiple_of.ensures.value, c.from.ensures, c.from-in-loop-id.ensures, c.max-align.ensures)
          (laying_step _ i _ _ m (rw length-map c.loop-id-test.true) here c.loop-id.invariant.laying);
      positive = omega arith;
      near = omega arith;
      short = omega arith;
    }

pub next_multiple_of-requires-clause-fits : goal.next_multiple_of-requires-clause-fits
next_multiple_of-requires-clause-fits c =
    let positive : 0 < c.from.result = omega arith in
    omega arith
