-- Functions whose points, parameters and arguments have numbers of 32 bits.
use Rattle.std.specs.Prelude.{ℕ, Bool, true, ◌&&◌, leb, List, length, map}
use Rattle.shade_core.specs.declared.statement.Act.{Act, Act-F}
use Rattle.shade_core.specs.declared.statement.Act.TheOpen as act
use Rattle.shade_core.specs.declared.statement.CoreStatement.{CoreStatement}
use Rattle.shade_core.specs.declared.statement.SwitchPart.{SwitchPart}
use Rattle.shade_core.specs.declared.module.CoreFunction.{CoreFunction}
use Rattle.shade_core.specs.Code.{Code, done, plain, jump, call, branch, switch, loop, no_part, part, code_of, part_code, parts_from}
use Rattle.shade_flow.specs.declared.point.Point.{Point}
use Rattle.shade_flow.specs.declared.point.Point.TheVariants.{At, Turn, Past}

-- a statement has a number below 2 ^ 31 - 1, so that there is room for two points
abbrev pub is_small : ℕ → Bool
is_small n = leb n 2147483646

abbrev pub are_few : {A : Type 0} → List A → Bool
are_few xs = leb (length xs) 4294967295

-- Each statement of a list, with those of its parts, has such a number, and each call has fewer than 2 ^ 32 arguments.
abbrev pub are_counted : Code → Bool
are_counted done = true
are_counted (plain n act rest) = is_small n && are_counted rest
are_counted (jump n act rest) = is_small n && are_counted rest
are_counted (call n g args rest) = is_small n && (are_few args && are_counted rest)
are_counted (branch n cond one two rest) = is_small n && (are_counted one && (are_counted two && are_counted rest))
are_counted (switch n selector parts rest) = is_small n && (are_counted parts && are_counted rest)
are_counted (loop n body continuing leave rest) = is_small n && (are_counted body && (are_counted continuing && are_counted rest))
are_counted no_part = true
are_counted (part n which keys fallback body others) = are_counted body && are_counted others

-- and there are fewer than 2 ^ 32 parameters. The shape of a module gives this of each of its functions with fewer statements than 2 ^ 31.
abbrev pub is_counted : CoreFunction → Bool
is_counted function = are_few function.params && are_counted (code_of function.body)

-- ---- on the way to proofs

-- the same of one statement by its act, but for its number
abbrev pub layer_counted : Act-F Act CoreStatement SwitchPart → Bool
layer_counted (act.Call function args) = are_few args
layer_counted (act.If cond one two) = are_counted (code_of one) && are_counted (code_of two)
layer_counted (act.Switch selector parts) = are_counted (parts_from 0 0 (map part_code parts))
layer_counted (act.Loop body continuing leave) = are_counted (code_of body) && are_counted (code_of continuing)
layer_counted _ = true

-- the statement of a point has such a number
abbrev pub point_counted : Point → Bool
point_counted Past = true
point_counted (At n) = is_small n
point_counted (Turn n) = is_small n

abbrev pub step_counted : Point × Point → Bool
step_counted step = point_counted step.0 && point_counted step.1
