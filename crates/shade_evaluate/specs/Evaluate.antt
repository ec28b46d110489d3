-- Rule: the value of an operation on constants, or the first fault: conversions of AbstractInt come first, from left to right, and then the
-- operation. (WGSL, "Const-Expressions" and "Conversion Rank".)
use Rattle.std.specs.Prelude.{◌≡◌, ◌⊎◌, List, [], ◌∷◌, Option, Some, None, Result, Ok, Err, if◌then◌else◌, Bool, true, drop}
use Rattle.shade_base.specs.declared.place.Place.{Place}
use Rattle.shade_values.specs.declared.types.Scalar.{Scalar}
use Rattle.shade_values.specs.declared.types.Scalar.TheVariants as scalar
use Rattle.shade_values.specs.declared.value.Value.{Value}
use Rattle.shade_values.specs.declared.op.Op.{Op}
use Rattle.shade_values.specs.declared.op.Op.TheVariants.{Convert, Vector}
use Rattle.shade_values.specs.Apply.{Apply}
use Rattle.shade_evaluate.specs.declared.fault.ConstFault.{ConstFault}
use Rattle.shade_evaluate.specs.declared.fault.ConstFault.TheVariants as fault
use Rattle.shade_evaluate.specs.Fits.{fits, value_as}
use Rattle.shade_evaluate.specs.Misuse.{misuse_of}

-- an operand is asked to become a scalar, or nothing is asked of it
abbrev pub meets : Option Scalar → Value → Bool
meets None v = true
meets (Some to) v = fits to v

abbrev pub asked : Option Scalar → Value → Value
asked None v = v
asked (Some to) v = value_as to v

-- what `i32`, `u32`, `bool` and vectors of these make of AbstractInt
abbrev pub named : Scalar → Option Scalar
named scalar.Bool = Some scalar.I32
named scalar.I32 = Some scalar.I32
named scalar.U32 = Some scalar.U32
named scalar.Abstract = None

-- what AbstractInt becomes in an operand: what is asked of it, else what the operation itself makes of it
abbrev pub target : Op → Option Scalar → Option Scalar
target op (Some to) = Some to
target (Convert s) None = named s
target (Vector n s) None = named s
target op None = None

abbrev pub first_asked : List (Option Scalar) → Option Scalar
first_asked [] = None
first_asked (to ∷ others) = to

-- the operands as they are asked to be; nothing is asked where the list ends
abbrev pub asked_all : Op → List (Option Scalar) → List Value → List Value
asked_all op to [] = []
asked_all op to (v ∷ values) = asked (target op (first_asked to)) v ∷ asked_all op (drop 1 to) values

-- the place of the first operand that does not fit what it is asked to be
abbrev pub first_unfit : Op → List (Option Scalar) → List Value → List Place → Option Place
first_unfit op to (v ∷ values) (place ∷ places) =
    if meets (target op (first_asked to)) v then first_unfit op (drop 1 to) values places else Some place
first_unfit op to _ _ = None

abbrev pub applied : Op → List Value → Option ConstFault → Result Value ConstFault
applied op values (Some f) = Err f
applied op values None = Ok (Apply op values)

-- the operation on values that are as they are asked to be
abbrev pub operated : Op → List Value → Place → Result Value ConstFault
operated op values at = applied op values (misuse_of op values at)

abbrev pub unless_unfit : Option Place → Result Value ConstFault → Result Value ConstFault
unless_unfit (Some place) r = Err (fault.Overflow place)
unless_unfit None r = r

-- the operands convert in turn, each at its place, and then the operation is evaluated at its own
abbrev pub evaluated : Op → List (Option Scalar) → List Value → List Place → Place → Result Value ConstFault
evaluated op to values places at = unless_unfit (first_unfit op to values places) (operated op (asked_all op to values) at)

-- what a call may answer where this is the answer: that, or that there is no memory for it
abbrev pub IsAnswer : Result Value ConstFault → Result Value ConstFault → Type 0
IsAnswer answer (Ok v) = answer ≡ Ok v
IsAnswer answer (Err f) = (f ≡ fault.NoMemory) ⊎ (answer ≡ Err f)
