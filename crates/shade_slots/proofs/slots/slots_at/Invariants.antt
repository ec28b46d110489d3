use Rattle.std.proofs.Common.{◌≡◌, take}
use Rattle.shade_slots.specs.Slots.{slots_from, end_from}
use Rattle.shade_slots.proofs.slots.slots_at.Given as goal

abbrev pub invariant-slots : goal.invariant-slots
invariant-slots l = record {
  made : l.slots.items ≡ slots_from l.types l.first (take l.ty-index l.values);
  end : l.at ≡ end_from l.types l.first (take l.ty-index l.values);
}
