-- Rules: what the open calls of a lane hold. (WGSL, "Function Calls" and "Variable and Value Declarations".)
use Rattle.std.specs.Prelude.{ℕ, zero, suc, ◌+◌, ◌*◌, ◌==◌, List, [], ◌∷◌, Option, Some, None, if◌then◌else◌, pos, ℤ, slice_get, slice_index}
use Rattle.shade_values.specs.declared.types.Scalar.TheVariants as scalar
use Rattle.shade_values.specs.declared.types.ShadeType.{ShadeType}
use Rattle.shade_values.specs.declared.types.TypeId.{TypeId}
use Rattle.shade_values.specs.declared.value.Value.{Value}
use Rattle.shade_values.specs.declared.value.Value.TheVariants.{One, Many}
use Rattle.shade_values.specs.Parts.{own_leaf}
use Rattle.shade_values.specs.Shape.{Shape, pointer, shape_of}
use Rattle.shade_words.specs.Lays.{decode}
use Rattle.shade_words.specs.Types.{lay_of}
use Rattle.shade_core.specs.declared.module.BuiltinInput.{BuiltinInput}
use Rattle.shade_core.specs.declared.module.BuiltinInput.TheVariants.{LocalId, LocalIndex, GlobalId, GroupId, GroupCount}
use Rattle.shade_core.specs.declared.module.CoreFunction.{CoreFunction}
use Rattle.shade_core.specs.declared.module.CoreModule.{CoreModule}
use Rattle.shade_core.specs.declared.module.CoreParam.{CoreParam}
use Rattle.shade_core.specs.declared.module.CoreParam.TheVariants as parameter
use Rattle.shade_core.specs.declared.statement.Argument.{Argument}
use Rattle.shade_core.specs.declared.statement.Argument.TheVariants as argument
use Rattle.shade_core.specs.declared.statement.Base.{Base}
use Rattle.shade_core.specs.declared.statement.Base.TheVariants.{Local, Module, Pointee}
use Rattle.shade_core.specs.declared.statement.Operand.{Operand}
use Rattle.shade_core.specs.declared.statement.Operand.TheVariants.{Constant, Param, Temp}
use Rattle.shade_core.specs.declared.statement.View.{View}
use Rattle.shade_core.specs.Code.{Code, done, code_of}
use Rattle.shade_core.specs.Types.{spelled}
use Rattle.shade_core.specs.Views.{ValueTypes}
use Rattle.shade_spots.specs.Roots.{root_spot, no_spot}
use Rattle.shade_spots.specs.Spots.{Spot, local, steps_spot}
use Rattle.shade_frames.specs.declared.builtins.Builtins.{Builtins}

-- What all lanes of a run have in common: the module, the types of the values of its statements, by function, the entry, and how many words
-- each variable of the module has.
pub record Setting : Type 0 where
  pub shader : CoreModule
  pub types : ℕ → ValueTypes
  pub entry : ℕ
  pub lengths : ℕ → ℕ

abbrev pub body_by : Option CoreFunction → Code
body_by None = done
body_by (Some f) = code_of f.body

-- the statements of a function
abbrev pub body_of : Setting → ℕ → Code
body_of s function = body_by (slice_get s.shader.functions function)

-- ---- types

abbrev pub shape_by : Setting → Option (Option ShadeType) → Shape
shape_by s None = pointer
shape_by s (Some None) = pointer
shape_by s (Some (Some ty)) = spelled s.shader.types ty

-- the type of the value of a statement of a function; of no words where it has no value
abbrev pub value_shape : Setting → (function number : ℕ) → Shape
value_shape s function number = shape_by s (slice_get (s.types function) number)

abbrev pub local_by : Setting → Option TypeId → Shape
local_by s None = pointer
local_by s (Some id) = shape_of s.shader.types id

abbrev pub locals_by : Setting → Option CoreFunction → ℕ → Shape
locals_by s None number = pointer
locals_by s (Some f) number = local_by s (slice_get f.locals number)

-- the type of a local variable of a function
abbrev pub local_shape : Setting → (function number : ℕ) → Shape
local_shape s function number = locals_by s (slice_get s.shader.functions function) number

-- the zero value of a type. (WGSL, "Zero Value Built-in Function".)
abbrev pub zero_value : Shape → Value
zero_value shape = decode (lay_of shape) (λ i. 0) 0

-- ---- frames

-- An open call: its function, how many calls are open outside of it, the values of its parameters, what its pointers lead to, and the value
-- that each statement gave last, by the numbers of parameters and statements. A statement that gave none yet has the zero of its type.
pub record Frame : Type 0 where
  pub function : ℕ
  pub depth : ℕ
  pub params : ℕ → Value
  pub pointers : ℕ → Spot
  pub values : ℕ → Value

-- the frame in which a statement gave a value
abbrev pub put_value : Frame → ℕ → Value → Frame
put_value f n v = record f { values = λ m. if m == n then v else f.values m }

abbrev pub operand_value : Frame → Operand → Value
operand_value f (Constant ty v) = v
operand_value f (Param i) = f.params i
operand_value f (Temp n) = f.values n

-- the number of an operand that is a scalar, and 0 where none is asked for
abbrev pub number_of : Frame → Option Operand → ℤ
number_of f None = pos 0
number_of f (Some operand) = (own_leaf (operand_value f operand)).number

-- the variable that a view begins at, or what a pointer leads to
abbrev pub base_spot : Setting → Frame → Base → Spot
base_spot s f (Local number) = record { variable = local f.depth number; first = 0; shape = local_shape s f.function number }
base_spot s f (Module number) = root_spot s.shader number
base_spot s f (Pointee i) = f.pointers i

-- what a view names
abbrev pub view_spot : Setting → Frame → View → Spot
view_spot s f view = steps_spot s.lengths (operand_value f) (base_spot s f view.base) view.steps

-- ---- calls

abbrev pub argument_value : Frame → Argument → Value
argument_value f (argument.Plain operand) = operand_value f operand
argument_value f (argument.Pointer view) = zero_value pointer

abbrev pub argument_spot : Setting → Frame → Argument → Spot
argument_spot s f (argument.Plain operand) = no_spot
argument_spot s f (argument.Pointer view) = view_spot s f view

abbrev pub value_at : Frame → List Argument → ℕ → Value
value_at f [] i = zero_value pointer
value_at f (arg ∷ args) zero = argument_value f arg
value_at f (arg ∷ args) (suc i) = value_at f args i

abbrev pub spot_at : Setting → Frame → List Argument → ℕ → Spot
spot_at s f [] i = no_spot
spot_at s f (arg ∷ args) zero = argument_spot s f arg
spot_at s f (arg ∷ args) (suc i) = spot_at s f args i

-- The frame that a call opens: its parameters have the values of the arguments, and its pointers lead for good to what these name now.
abbrev pub enter : Setting → (function : ℕ) → List Argument → Frame → Frame
enter s function args f = record {
  function = function;
  depth = f.depth + 1;
  params = value_at f args;
  pointers = spot_at s f args;
  values = λ n. zero_value (value_shape s function n);
}

-- ---- the frame of an entry

abbrev pub u32_value : ℕ → Value
u32_value n = One (record { scalar = scalar.U32; number = pos n })

abbrev pub three_values : ℕ → ℕ → ℕ → Value
three_values x y z = Many (u32_value x ∷ u32_value y ∷ u32_value z ∷ [])

abbrev pub list_value : List ℕ → Value
list_value l = three_values (slice_index l 0) (slice_index l 1) (slice_index l 2)

-- the position of a lane among all lanes, in one direction
abbrev pub global_part : Builtins → ℕ → ℕ
global_part b i = slice_index b.group i * slice_index b.size i + slice_index b.local i

-- what an entry reads of its surroundings. (WGSL, "Built-in Inputs and Outputs".)
abbrev pub input_value : Builtins → BuiltinInput → Value
input_value b LocalId = list_value b.local
input_value b LocalIndex = u32_value b.index
input_value b GlobalId = three_values (global_part b 0) (global_part b 1) (global_part b 2)
input_value b GroupId = list_value b.group
input_value b GroupCount = list_value b.groups

-- the value of a parameter of an entry, which is an input
abbrev pub entry_value : Builtins → Option CoreParam → Value
entry_value b (Some (parameter.Input input)) = input_value b input
entry_value b _ = zero_value pointer

abbrev pub params_of : Option CoreFunction → List CoreParam
params_of None = []
params_of (Some f) = f.params

-- the frame of the entry of a lane with these inputs
abbrev pub entry_frame : Setting → Builtins → Frame
entry_frame s b = record {
  function = s.entry;
  depth = 0;
  params = λ i. entry_value b (slice_get (params_of (slice_get s.shader.functions s.entry)) i);
  pointers = λ i. no_spot;
  values = λ n. zero_value (value_shape s s.entry n);
}
