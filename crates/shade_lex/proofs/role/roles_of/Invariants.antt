use Rattle.std.proofs.Common.{◌≡◌, ◌++◌, drop, None}
use Rattle.shade_lex.specs.Templates.{roles_from}
use Rattle.shade_lex.proofs.role.roles_of.Given as goal

abbrev pub invariant-loop-token : goal.invariant-loop-token
invariant-loop-token l = l.roles.items ++ roles_from l.text l.previous (drop l.token-index l.tokens) ≡ roles_from l.text None l.tokens
