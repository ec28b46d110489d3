use Rattle.std.proofs.Common.{◌≡◌, ◌+◌, ◌≤◌, length, vec_len, vec_capacity}
use Rattle.shade_rest.specs.Marks.{place}
use Rattle.shade_rest.proofs.marks.Marks.here.Given as goal

abbrev pub invariant-done : goal.invariant-done
invariant-done l = record {
  same : place l.self.stack.items ≡ place l.fn.self.stack.items;
  few : length l.self.stack.items + 2 ≤ vec_capacity l.self.stack;
  room : vec_capacity l.self.stack ≡ vec_capacity l.fn.self.stack;
}

abbrev pub decreases-done : goal.decreases-done
decreases-done l = vec_len l.self.stack
