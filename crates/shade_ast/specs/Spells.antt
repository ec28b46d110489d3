-- The tokens that a tree spells, by the grammar: those that its shape is read from, to the last one.
use Rattle.std.specs.Prelude.{List, []}
use Rattle.shade_ast.specs.declared.tree.Tree.{Tree}
use Rattle.shade_ast.specs.Lexemes.{Lexeme}
use Rattle.shade_ast.specs.Declarations.{Module}
use Rattle.shade_ast.specs.Shaped.{tree_shape}

abbrev pub Spells : Tree → List Lexeme → Type 0
Spells tree ts = Module (tree_shape tree) ts []
