-- Where the value of a statement may be named.
use Rattle.std.specs.Prelude.{ℕ, ◌==◌, if◌then◌else◌, Bool, true, false, ◌&&◌, ◌||◌, List, [], ◌∷◌, ◌++◌, Option, None, Some}
use Rattle.std.specs.List.{list_all, list_any}
use Rattle.shade_core.specs.declared.statement.Operand.{Operand}
use Rattle.shade_core.specs.declared.statement.Operand.TheVariants.{Constant, Param, Temp}
use Rattle.shade_core.specs.declared.statement.ViewStep.{ViewStep}
use Rattle.shade_core.specs.declared.statement.ViewStep.TheVariants.{Member, Index}
use Rattle.shade_core.specs.declared.statement.View.{View}
use Rattle.shade_core.specs.declared.statement.Argument.{Argument}
use Rattle.shade_core.specs.declared.statement.Argument.TheVariants as argument
use Rattle.shade_core.specs.Code.{Plain, Set, Load, Declare, Store, Atomic, Barrier, UniformLoad, Length, Jump, Break, Continue, Return, Code, done, plain, jump, call, branch, switch, loop, no_part, part}

-- ---- what is named

-- the operand names no statement, or one of these
abbrev pub names_one : List ℕ → Operand → Bool
names_one seen (Constant id value) = true
names_one seen (Param i) = true
names_one seen (Temp n) = list_any (λ m. m == n) seen

abbrev pub step_names : List ℕ → ViewStep → Bool
step_names seen (Member k) = true
step_names seen (Index at) = names_one seen at

abbrev pub view_names : List ℕ → View → Bool
view_names seen view = list_all (step_names seen) view.steps

abbrev pub maybe_names : List ℕ → Option Operand → Bool
maybe_names seen None = true
maybe_names seen (Some operand) = names_one seen operand

abbrev pub argument_names : List ℕ → Argument → Bool
argument_names seen (argument.Plain operand) = names_one seen operand
argument_names seen (argument.Pointer view) = view_names seen view

abbrev pub plain_names : List ℕ → Plain → Bool
plain_names seen (Set op args) = list_all (names_one seen) args
plain_names seen (Load view) = view_names seen view
plain_names seen (Declare local value) = maybe_names seen value
plain_names seen (Store view value) = view_names seen view && names_one seen value
plain_names seen (Atomic op view args) = view_names seen view && list_all (names_one seen) args
plain_names seen (Barrier in_space severity) = true
plain_names seen (UniformLoad view severity) = view_names seen view
plain_names seen (Length view) = view_names seen view

abbrev pub jump_names : List ℕ → Jump → Bool
jump_names seen Break = true
jump_names seen Continue = true
jump_names seen (Return value) = maybe_names seen value

-- ---- which statements stand where

-- the statements that stand directly in a list
abbrev pub listed : Code → List ℕ
listed done = []
listed (plain n act rest) = n ∷ listed rest
listed (jump n act rest) = n ∷ listed rest
listed (call n g args rest) = n ∷ listed rest
listed (branch n cond first second rest) = n ∷ listed rest
listed (switch n selector parts rest) = n ∷ listed rest
listed (loop n body continuing leave rest) = n ∷ listed rest
listed no_part = []
listed (part n which keys fallback body others) = []

-- A Continue among some statements, or in their parts, of the loop around them: one in a loop among them is of that loop.
abbrev pub continues : Code → Bool
continues done = false
continues (plain n act rest) = continues rest
continues (jump n Continue rest) = true
continues (jump n act rest) = continues rest
continues (call n g args rest) = continues rest
continues (branch n cond first second rest) = continues first || (continues second || continues rest)
continues (switch n selector parts rest) = continues parts || continues rest
continues (loop n body continuing leave rest) = continues rest
continues no_part = false
continues (part n which keys fallback body others) = continues body || continues others

-- The statements of the body of a loop before which no Continue of that loop stands: they are never skipped on the way to its
-- continuing part.
abbrev pub unskipped : Code → List ℕ
unskipped done = []
unskipped (plain n act rest) = n ∷ unskipped rest
unskipped (jump n Continue rest) = n ∷ []
unskipped (jump n act rest) = n ∷ unskipped rest
unskipped (call n g args rest) = n ∷ unskipped rest
unskipped (branch n cond first second rest) = n ∷ (if continues first || continues second then [] else unskipped rest)
unskipped (switch n selector parts rest) = n ∷ (if continues parts then [] else unskipped rest)
unskipped (loop n body continuing leave rest) = n ∷ unskipped rest
unskipped no_part = []
unskipped (part n which keys fallback body others) = []

-- ---- the rule

-- Each operand of a list names a statement of those that are seen, which are the ones that stand earlier in a list that holds the
-- user or a statement around it. A continuing part sees those of the body that are never skipped, and a leave operand those and the
-- ones that stand directly in the continuing part.
abbrev pub in_scope : List ℕ → Code → Bool
in_scope seen done = true
in_scope seen (plain n act rest) = plain_names seen act && in_scope (seen ++ n ∷ []) rest
in_scope seen (jump n act rest) = jump_names seen act && in_scope (seen ++ n ∷ []) rest
in_scope seen (call n g args rest) = list_all (argument_names seen) args && in_scope (seen ++ n ∷ []) rest
in_scope seen (branch n cond first second rest) = names_one seen cond && (in_scope seen first && (in_scope seen second && in_scope (seen ++ n ∷ []) rest))
in_scope seen (switch n selector parts rest) = names_one seen selector && (in_scope seen parts && in_scope (seen ++ n ∷ []) rest)
in_scope seen (loop n body continuing leave rest) =
    in_scope seen body
    && (in_scope (seen ++ unskipped body) continuing
    && (maybe_names (seen ++ unskipped body ++ listed continuing) leave && in_scope (seen ++ n ∷ []) rest))
in_scope seen no_part = true
in_scope seen (part n which keys fallback body others) = in_scope seen body && in_scope seen others
