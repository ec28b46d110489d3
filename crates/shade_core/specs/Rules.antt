-- What has rules today in the uniformity graph, in the verdict on it and in the machine. Each further kind of statement, and pointers, add
-- their own cases here.
use Rattle.std.specs.Prelude.{Bool, true, false, ◌&&◌, not, List}
use Rattle.std.specs.List.{list_all, list_any}
use Rattle.shade_core.specs.declared.module.CoreFunction.{CoreFunction}
use Rattle.shade_core.specs.declared.module.CoreParam.{CoreParam}
use Rattle.shade_core.specs.declared.module.CoreParam.TheVariants.{Pointer}
use Rattle.shade_core.specs.Atomics.{is_atomic}
use Rattle.shade_core.specs.Code.{Plain, Set, Barrier, Jump, Return, Code, done, plain, jump, branch, code_of}

abbrev pub act_has_rules : Plain → Bool
act_has_rules (Set op args) = not (is_atomic op)
act_has_rules (Barrier space severity) = true
act_has_rules _ = false

abbrev pub jump_has_rules : Jump → Bool
jump_has_rules (Return value) = true
jump_has_rules _ = false

-- The statements of a list, with those of their parts, are Set of an operation on values, Barrier, If and Return.
abbrev pub have_rules : Code → Bool
have_rules done = true
have_rules (plain n act rest) = act_has_rules act && have_rules rest
have_rules (jump n act rest) = jump_has_rules act && have_rules rest
have_rules (branch n cond first second rest) = have_rules first && (have_rules second && have_rules rest)
have_rules _ = false

abbrev pub is_pointer : CoreParam → Bool
is_pointer (Pointer space ty) = true
is_pointer _ = false

-- a function of such statements, without pointers
abbrev pub has_rules : CoreFunction → Bool
has_rules function = not (list_any is_pointer function.params) && have_rules (code_of function.body)

-- a module of such functions
abbrev pub all_have_rules : List CoreFunction → Bool
all_have_rules functions = list_all has_rules functions
