-- Laws of the table, and of the operations that its rows name.
use Rattle.std.specs.Prelude.{◌≡◌, List, Some}
use Rattle.shade_values.specs.declared.types.Scalar.{Scalar}
use Rattle.shade_values.specs.declared.types.ShadeType.{ShadeType}
use Rattle.shade_values.specs.declared.value.Leaf.{Leaf}
use Rattle.shade_values.specs.declared.op.Op.{Op}
use Rattle.shade_values.specs.Operations.{unary, binary, ternary, quaternary}
use Rattle.shade_values.specs.Table.{Table}
use Rattle.shade_values.specs.Takes.{Takes}
use Rattle.shade_values.specs.Typed.{IsRanged}
use Rattle.shade_overload.specs.declared.builtin.Builtin.{Builtin}
use Rattle.shade_overload.specs.declared.overload.Overload.{Overload}
use Rattle.shade_overload.specs.Best.{IsBest}
use Rattle.shade_overload.specs.Rows.{IsRow}

-- at most one row is best
abbrev pub AtMostOneIsBest : Type 0
AtMostOneIsBest =
    (t : Table) (b : Builtin) (first : Scalar) (types : List ShadeType) (o other : Overload) → IsBest (IsRow t b) first types o → IsBest (IsRow t b) first types other → o ≡ other

-- the operation of a row takes its parameters, and gives its result
abbrev pub OperationsTakeTheirRows : Type 0
OperationsTakeTheirRows = (t : Table) (b : Builtin) (o : Overload) (operation : Op) → IsRow t b o → o.op ≡ Some operation → Takes t operation o.params o.result

-- The result of an operation on scalars is in the range of its scalar, where those operands are that it may give as they are.
pub record ResultsStayInRange : Type 0 where
  pub of_one : (op : Op) (a : Leaf) → IsRanged a → IsRanged (unary op a)
  pub of_two : (op : Op) (a b : Leaf) → IsRanged a → IsRanged (binary op a b)
  pub of_three : (op : Op) (a b c : Leaf) → IsRanged a → IsRanged b → IsRanged (ternary op a b c)
  pub of_four : (op : Op) (a b c d : Leaf) → IsRanged a → IsRanged (quaternary op a b c d)
