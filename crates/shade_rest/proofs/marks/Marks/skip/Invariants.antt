use Rattle.std.proofs.Common.{◌≡◌, vec_len, vec_capacity}
use Rattle.shade_frames.specs.Control.{continue_to}
use Rattle.shade_rest.specs.Marks.{left}
use Rattle.shade_rest.proofs.marks.Marks.skip.Given as goal

abbrev pub invariant-outwards : goal.invariant-outwards
invariant-outwards l = record {
  same : continue_to (left l.self.stack.items) ≡ continue_to (left l.fn.self.stack.items);
  room : vec_capacity l.self.stack ≡ vec_capacity l.fn.self.stack;
}

abbrev pub decreases-outwards : goal.decreases-outwards
decreases-outwards l = vec_len l.self.stack
