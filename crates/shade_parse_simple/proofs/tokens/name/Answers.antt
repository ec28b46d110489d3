use Rattle.std.proofs.Common.{arith}
use Rattle.shade_ast.specs.Statements.{Name}
use Rattle.shade_ast.proofs.Placed.{name_fails}
use Rattle.shade_cursor.specs.Shown.{lexemes}
use Rattle.shade_parse_expr.proofs.Turns.{fails_here}
use Rattle.shade_parse_simple.proofs.Faulty.{within}
use Rattle.shade_parse_simple.proofs.BindingTrees.{name_tree}
use Rattle.shade_parse_simple.proofs.tokens.name.Goals as goal

pub returns-in_default-clause-tree : goal.returns-in_default-clause-tree
returns-in_default-clause-tree c = fails_here Name 0 (lexemes c.args.pieces.now) c.args.names.now c.args.names.now c.args.from c.args.from (omega arith)
    (name_fails 0 (lexemes c.args.pieces.now) c.args.from (within c.args.pieces.now c.args.from c.requires.can.within) (λ m is. c.in_default.ensures.value m.text m.place is))

pub returns-clause-tree : goal.returns-clause-tree
returns-clause-tree c = name_tree c.in-Some.ensures.value c.in_ok-name.ensures.text
