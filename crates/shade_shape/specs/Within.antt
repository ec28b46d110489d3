-- The statements of the parts of a list's first statement.
use Rattle.std.specs.Prelude.{ℕ, Bool, true, ◌&&◌, List, [], ◌++◌}
use Rattle.std.specs.List.{list_all}
use Rattle.shade_core.specs.Code.{Code, plain, jump, call, branch, switch, loop}
use Rattle.shade_core.specs.Standing.{Standing, statements}
use Rattle.shade_core.specs.Scopes.{argument_names, in_scope, jump_names, listed, maybe_names, names_one, plain_names, unskipped}

abbrev pub within : Code → List Standing
within (branch n cond first second rest) = statements first ++ statements second
within (switch n selector parts rest) = statements parts
within (loop n body continuing leave rest) = statements body ++ statements continuing
within _ = []

-- whether the operands of a list's first statement, and those of its parts, name what they may
abbrev pub act_in_scope : List ℕ → Code → Bool
act_in_scope seen (plain n act rest) = plain_names seen act
act_in_scope seen (jump n act rest) = jump_names seen act
act_in_scope seen (call n g args rest) = list_all (argument_names seen) args
act_in_scope seen (branch n cond first second rest) = names_one seen cond && (in_scope seen first && in_scope seen second)
act_in_scope seen (switch n selector parts rest) = names_one seen selector && in_scope seen parts
act_in_scope seen (loop n body continuing leave rest) =
    in_scope seen body && (in_scope (seen ++ unskipped body) continuing && maybe_names (seen ++ unskipped body ++ listed continuing) leave)
act_in_scope seen _ = true
