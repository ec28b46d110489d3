use Rattle.std.proofs.Common.{◌≡◌, ℕ, List, take}
use Rattle.shade_ast.specs.Lexemes.{lexemes as lexemes_of}
use Rattle.shade_cursor.specs.Shown.{AreEnds, lexemes}
use Rattle.shade_cursor.proofs.pieces.pieces_in.Given as goal

abbrev pub invariant-loop-token : goal.invariant-loop-token
invariant-loop-token l = (pairs : List (ℕ × ℕ)) → AreEnds l.ends.opens l.ends.closes pairs → lexemes l.pieces.items ≡ lexemes_of l.text pairs (take l.token-index l.tokens)
