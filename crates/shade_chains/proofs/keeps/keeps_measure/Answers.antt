use Rattle.shade_chains.proofs.KeepLaws.{stand_to, has_events, measure_tells}
use Rattle.shade_chains.proofs.OrderLaws.{out_rows}
use Rattle.shade_chains.proofs.keeps.keeps_measure.Goals as goal

pub tops_of-requires-clause-stand : goal.tops_of-requires-clause-stand
tops_of-requires-clause-stand c = stand_to c.args.module.now _ c.requires.events c.requires.stand

pub returns : goal.returns
returns c =
    λ values has.
    let shader = c.args.module.now in
    let bytes = c.args.calls.bytes.now in
    let tells = measure_tells c.args.measure shader values bytes _ c.in_ok-tops.tops.items c.args.most c.requires.small c.requires.events has
    (λ k lt. c.in_ok-tops.ensures shader values (has_events shader values bytes _ c.requires.events has) k (out_rows _ c.args.calls.rows.now k lt)) in
    let keep = rw (c.as_slice.ensures, c.deref.ensures.value) at c.entries_keep.ensures in
    (λ h. tells.0 (keep.0 h), λ h. keep.1 (tells.1 h))
