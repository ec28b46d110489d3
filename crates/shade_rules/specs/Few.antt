-- Functions whose calls have arguments with numbers of 32 bits.
use Rattle.std.specs.Prelude.{Bool, true, leb, length}
use Rattle.std.specs.List.{list_all}
use Rattle.shade_core.specs.declared.module.CoreFunction.{CoreFunction}
use Rattle.shade_core.specs.Code.{code_of}
use Rattle.shade_core.specs.Standing.{Head, calls, statements}

-- a statement that is no call with 2 ^ 32 arguments
abbrev pub takes_few : Head → Bool
takes_few (calls g args) = leb (length args) 4294967295
takes_few _ = true

-- Each call of a function has fewer than 2 ^ 32 arguments. The shape of a module gives this: a function has at most 255 parameters,
-- and the arguments of a call fit them.
abbrev pub calls_take_few : CoreFunction → Bool
calls_take_few f = list_all (λ s. takes_few s.head) (statements (code_of f.body))
