use Rattle.std.proofs.Common.{length, ◌-◌}
use Rattle.shade_cursor.specs.Shown.{lexemes}
use Rattle.shade_parse.proofs.ModuleTrees.{DirectiveTurn, DeclTurn}
use Rattle.shade_parse.proofs.modules.whole.Given as goal

abbrev pub invariant-directives : goal.invariant-directives
invariant-directives l = DirectiveTurn (lexemes l.pieces) (length l.pieces) l.initial.names l.names l.directives l.at l.node

abbrev pub decreases-directives : goal.decreases-directives
decreases-directives l = length l.pieces - l.at

abbrev pub invariant-decls : goal.invariant-decls
invariant-decls l = DeclTurn (lexemes l.pieces) (length l.pieces) l.initial.names l.names l.directives-inside.items.items l.decls l.initial.node l.at l.node

abbrev pub decreases-decls : goal.decreases-decls
decreases-decls l = length l.pieces - l.at
