use Rattle.std.proofs.Common.{◌≡◌, ◌++◌, drop}
use Rattle.shade_run_lines.specs.Buffers.{buffer_lines}
use Rattle.shade_run_lines.proofs.buffers.add_buffers.Given as goal

abbrev pub invariant-loop-number : goal.invariant-loop-number
invariant-loop-number l = l.out.items ++ buffer_lines l.memory l.number (drop l.number l.roots) ≡ l.initial.out.items ++ buffer_lines l.memory 0 l.roots
