use Rattle.std.proofs.Common.{◌≡◌, ◌∙◌, ap₂, sym, ◌+◌, ◌≤◌, ℕ, take, None, Fits, w64, arith}
use Rattle.shade_slots.specs.Slots.{end_from, slots_from, size_of}
use Rattle.shade_slots.proofs.SlotLaws.{slots_turn, end_turn, end_of_front}
use Rattle.shade_slots.proofs.slots.slots_at.Goals as goal

-- src/slots.rt:42:9
pub overflow_add-at : goal.overflow_add-at
overflow_add-at c =
    let turn = end_turn c.args.types.now c.args.first c.slots.ty-index c.args.values.now None c.slots-test.true in
    let front = end_of_front c.args.types.now c.args.first (c.slots.ty-index + 1) c.args.values.now in
    omega (arith, turn, front, c.slots.invariant.end, c.size-at.ensures, c.requires.few)

-- src/slots.rt:40:5
pub slots-preserved : goal.slots-preserved
slots-preserved c =
    let slots = slots_turn c.args.types.now c.args.first c.slots.ty-index c.args.values.now None c.slots-test.true in
    let turn = end_turn c.args.types.now c.args.first c.slots.ty-index c.args.values.now None c.slots-test.true in
    let made = c.slots.invariant.made in
    let end = c.slots.invariant.end in
    let pushed = c.in_ok-push.ensures.items in
    record { made = cc; end = ap₂ (λ a b. a + b) end c.size-at.ensures ∙ sym turn }
