use Rattle.std.proofs.Common.{◌≡◌, ◌-◌, ◌≤◌, length}
use Rattle.shade_first.specs.Lines.{place_of}
use Rattle.shade_first.proofs.LexLaws.{LexesSoFar}
use Rattle.shade_first.proofs.lex.lex.Given as goal

abbrev pub invariant-text : goal.invariant-text
invariant-text l = record {
  placed : l.place ≡ place_of l.text l.place.offset;
  within : l.place.offset ≤ length l.text;
  so_far : LexesSoFar l.text l.place.offset l.tokens;
}

abbrev pub decreases-text : goal.decreases-text
decreases-text l = length l.text - l.place.offset
