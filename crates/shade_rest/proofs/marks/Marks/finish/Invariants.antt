use Rattle.std.proofs.Common.{◌≡◌, vec_len, vec_capacity}
use Rattle.shade_frames.specs.Control.{return_to, caller_of}
use Rattle.shade_rest.specs.Marks.{left}
use Rattle.shade_rest.proofs.marks.Marks.finish.Given as goal

abbrev pub invariant-outwards : goal.invariant-outwards
invariant-outwards l = record {
  same : return_to (left l.self.stack.items) ≡ return_to (left l.fn.self.stack.items);
  caller : caller_of (left l.self.stack.items) ≡ caller_of (left l.fn.self.stack.items);
  room : vec_capacity l.self.stack ≡ vec_capacity l.fn.self.stack;
}

abbrev pub decreases-outwards : goal.decreases-outwards
decreases-outwards l = vec_len l.self.stack
