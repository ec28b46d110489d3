-- A lane by itself: what it has left, where it stands, what it holds, and its step.
-- It is said of statements that have rules (`has_rules`); a lane would pass over others.
use Rattle.std.specs.Prelude.{ℕ, ◌+◌, ◌*◌, Bool, true, false, not, List, [], ◌∷◌, map, Option, Some, None, if◌then◌else◌, ◌==◌, pos, slice_get, slice_index, is_some}
use Rattle.std.specs.Option.{option_map, option_to_list}
use Rattle.std.specs.List.{list_all, flat_map}
use Rattle.std.specs.Ordering.{int_eq}
use Rattle.shade_values.specs.declared.types.Scalar.TheVariants as scalar
use Rattle.shade_values.specs.declared.value.Leaf.{Leaf}
use Rattle.shade_values.specs.declared.value.Value.{Value, Value-F, out-Value}
use Rattle.shade_values.specs.declared.value.Value.TheVariants.{One, Many}
use Rattle.shade_values.specs.declared.value.Value.TheOpen as value
use Rattle.shade_values.specs.declared.op.Op.{Op}
use Rattle.shade_values.specs.Apply.{Apply}
use Rattle.shade_core.specs.declared.module.BuiltinInput.{BuiltinInput}
use Rattle.shade_core.specs.declared.module.BuiltinInput.TheVariants.{LocalId, LocalIndex, GlobalId, GroupId, GroupCount}
use Rattle.shade_core.specs.declared.module.CoreParam.{CoreParam}
use Rattle.shade_core.specs.declared.module.CoreParam.TheVariants as parameter
use Rattle.shade_core.specs.declared.statement.Operand.{Operand}
use Rattle.shade_core.specs.declared.statement.Operand.TheVariants.{Constant, Param, Temp}
use Rattle.shade_core.specs.Code.{Plain, Set, Jump, Break, Continue, Return, Code, done, plain, jump, call, branch, switch, loop, no_part, part}
use Rattle.shade_lane.specs.declared.builtins.Builtins.{Builtins}

-- ---- where a lane stands

-- What a lane has left: lists of statements, the innermost first.
pub data Rest : Type 0 where
  halt : Rest
  seq : Code → Rest → Rest

-- Where a lane stands: past its function, or before the first statement of a list.
pub data Place : Type 0 where
  Over : Place
  First : Code → Rest → Place

-- before the first statement of a list, or where one stands that has done the list
abbrev pub next_code : Code → Rest → Place → Place
next_code done k later = later
next_code (plain n act rest) k later = First (plain n act rest) k
next_code (jump n act rest) k later = First (jump n act rest) k
next_code (call n g args rest) k later = First (call n g args rest) k
next_code (branch n cond first second rest) k later = First (branch n cond first second rest) k
next_code (switch n selector parts rest) k later = First (switch n selector parts rest) k
next_code (loop n body continuing leave rest) k later = First (loop n body continuing leave rest) k
next_code no_part k later = later
next_code (part n which keys fallback body others) k later = later

-- the moves that take no step
abbrev pub next : Rest → Place
next halt = Over
next (seq c k) = next_code c k (next k)

abbrev pub chosen : Bool → Code → Code → Rest → Rest
chosen true first second k = seq first k
chosen false first second k = seq second k

abbrev pub jumped : Jump → Code → Rest → Rest
jumped (Return value) rest k = halt
jumped Break rest k = seq rest k
jumped Continue rest k = seq rest k

abbrev pub go_code : Bool → Code → Rest → Rest
go_code test done k = k
go_code test (plain n act rest) k = seq rest k
go_code test (jump n act rest) k = jumped act rest k
go_code test (call n g args rest) k = seq rest k
go_code test (branch n cond first second rest) k = chosen test first second (seq rest k)
go_code test (switch n selector parts rest) k = seq rest k
go_code test (loop n body continuing leave rest) k = seq rest k
go_code test no_part k = k
go_code test (part n which keys fallback body others) k = k

-- what is left after a step whose test gave this
abbrev pub go : Bool → Place → Rest
go test Over = halt
go test (First c k) = go_code test c k

abbrev pub code_test : Code → Option Operand
code_test (branch n cond first second rest) = Some cond
code_test _ = None

-- what a step tests
abbrev pub tested : Place → Option Operand
tested Over = None
tested (First c k) = code_test c

-- what a step does
pub data Does : Type 0 where
  Idle : Does
  Acts : ℕ → Plain → Does

abbrev pub code_does : Code → Does
code_does (plain n act rest) = Acts n act
code_does _ = Idle

abbrev pub does : Place → Does
does Over = Idle
does (First c k) = code_does c

abbrev pub is_over : Place → Bool
is_over Over = true
is_over (First c k) = false

-- the counts of the open loops, outermost first; no loop is open while loops have no case
abbrev pub counts : Rest → List ℕ
counts halt = []
counts (seq c k) = counts k

-- ---- what a lane holds

abbrev pub u32_value : ℕ → Value
u32_value n = One (record { scalar = scalar.U32; number = pos n })

abbrev pub three_values : ℕ → ℕ → ℕ → Value
three_values x y z = Many (u32_value x ∷ u32_value y ∷ u32_value z ∷ [])

abbrev pub list_value : List ℕ → Value
list_value l = three_values (slice_index l 0) (slice_index l 1) (slice_index l 2)

-- the position of a lane among all lanes, in one direction
abbrev pub global_part : Builtins → ℕ → ℕ
global_part b i = slice_index b.group i * slice_index b.size i + slice_index b.local i

-- what an entry reads of its surroundings
abbrev pub input_value : Builtins → BuiltinInput → Value
input_value b LocalId = list_value b.local
input_value b LocalIndex = u32_value b.index
input_value b GlobalId = three_values (global_part b 0) (global_part b 1) (global_part b 2)
input_value b GroupId = list_value b.group
input_value b GroupCount = list_value b.groups

-- the value of a parameter of an entry, which is an input
abbrev pub param_value : Builtins → CoreParam → Option Value
param_value b (parameter.Input input) = Some (input_value b input)
param_value b (parameter.Plain ty) = None
param_value b (parameter.Pointer space ty) = None

abbrev pub known : Option (Option Value) → Option Value
known None = None
known (Some v) = v

-- what an operand stands for, where it stands for something
abbrev pub operand_value : List (Option Value) → (ℕ → Option Value) → Operand → Option Value
operand_value params values (Constant ty v) = Some v
operand_value params values (Param n) = known (slice_get params n)
operand_value params values (Temp n) = values n

abbrev pub leaf_by : Value-F Value → Option Leaf
leaf_by (value.One leaf) = Some leaf
leaf_by (value.Many parts) = None

-- the number of a scalar value
abbrev pub leaf_of : Option Value → Option Leaf
leaf_of None = None
leaf_of (Some v) = leaf_by (out-Value v)

abbrev pub leaf_is_true : Option Leaf → Bool
leaf_is_true None = false
leaf_is_true (Some leaf) = not (int_eq leaf.number (pos 0))

abbrev pub is_true : Option Value → Bool
is_true v = leaf_is_true (leaf_of v)

abbrev pub test_value : List (Option Value) → (ℕ → Option Value) → Option Operand → Bool
test_value params values None = false
test_value params values (Some operand) = is_true (operand_value params values operand)

-- the values, where each is one
abbrev pub all_known : List (Option Value) → Option (List Value)
all_known vs = if list_all is_some vs then Some (flat_map option_to_list vs) else None

-- What an operation gives, where each operand stands for something.
abbrev pub applied : Op → List (Option Value) → Option Value
applied op args = option_map (Apply op) (all_known args)

abbrev pub put : (ℕ → Option Value) → ℕ → Option Value → ℕ → Option Value
put values n v m = if m == n then v else values m

abbrev pub act_values : List (Option Value) → (ℕ → Option Value) → ℕ → Plain → ℕ → Option Value
act_values params values n (Set op args) = put values n (applied op (map (operand_value params values) args))
act_values params values n _ = values

-- the values of the statements after a step
abbrev pub values_after : List (Option Value) → (ℕ → Option Value) → Does → ℕ → Option Value
values_after params values Idle = values
values_after params values (Acts n act) = act_values params values n act

-- ---- the step

-- a lane: where it stands, and the value that each statement gave last
pub record Lane : Type 0 where
  pub place : Place
  pub values : ℕ → Option Value

abbrev pub begin : Code → Lane
begin body = record { place = next (seq body halt); values = λ n. None }

-- a lane with these parameters after one step
abbrev pub step : List (Option Value) → Lane → Lane
step params lane = record { place = next (go (test_value params lane.values (tested lane.place)) lane.place); values = values_after params lane.values (does lane.place) }

-- ---- the last statement

-- a list whose last statement is a Return
abbrev pub ends_in_return : Code → Bool
ends_in_return (plain n act rest) = ends_in_return rest
ends_in_return (jump n (Return value) done) = true
ends_in_return (jump n act rest) = ends_in_return rest
ends_in_return (branch n cond first second rest) = ends_in_return rest
ends_in_return _ = false
