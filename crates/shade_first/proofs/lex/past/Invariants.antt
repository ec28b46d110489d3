use Rattle.std.proofs.Common.{◌≡◌, ◌+◌}
use Rattle.shade_first.specs.Lines.{place_of}
use Rattle.shade_first.proofs.lex.past.Given as goal

abbrev pub invariant-bytes : goal.invariant-bytes
invariant-bytes l = record {
  placed : l.place ≡ place_of l.text l.place.offset;
  offset : l.place.offset ≡ l.fn.from.offset + l.counter;
}
