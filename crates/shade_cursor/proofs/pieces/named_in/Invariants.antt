use Rattle.std.proofs.Common.{◌≡◌, drop}
use Rattle.shade_ast.specs.Lexemes.{named_in}
use Rattle.shade_cursor.specs.Shown.{entries}
use Rattle.shade_cursor.proofs.pieces.named_in.Given as goal

-- the entries before this one do not name the text
abbrev pub invariant-entries : goal.invariant-entries
invariant-entries g l = named_in (entries l.table) l.text ≡ named_in (entries (drop l.name-index l.table)) l.text
