-- What a lane holds, seen through what is low.
use Rattle.std.proofs.Common.{◌≡◌, ℕ, Bool, true, false, List, [], ◌∷◌, map, Option, Some, None, refl, ap, ap₂, subst}
use Rattle.std.specs.Prelude.{if◌then◌else◌, ◌==◌, slice_get}
use Rattle.std.proofs.lemmas.Bool.{eqb-true}
use Rattle.shade_values.specs.declared.value.Value.{Value as AValue}
use Rattle.shade_core.specs.declared.statement.Operand.{Operand}
use Rattle.shade_core.specs.declared.statement.Operand.TheVariants as operand
use Rattle.shade_core.specs.declared.module.CoreFunction.{CoreFunction}
use Rattle.shade_core.specs.Code.{Plain, Set, Load, Declare, Store, Atomic, Barrier, UniformLoad, Length}
use Rattle.shade_graph.specs.declared.node.Node.{Node}
use Rattle.shade_graph.specs.declared.node.Node.TheVariants.{Param, Before, Value}
use Rattle.shade_graph.specs.Graph.{IsNode, ActRow, set_before, set_argument, GivesValue, set_gives, Among, here, later, Names, names_param, names_temp}
use Rattle.shade_lane.specs.Lane.{Does, Idle, Acts, known, operand_value, is_true, test_value, applied, put, values_after}
use Rattle.shade_sound.proofs.Bools.{contra, false_true}
use Rattle.shade_sound.proofs.Closed.{operand_low}

abbrev pub Values : Type 0
Values = ℕ → Option AValue

abbrev pub SameValues : (Node → Bool) → Values → Values → Type 0
SameValues low values others = (n : ℕ) → low (Value n) ≡ true → values n ≡ others n

-- of parameters
abbrev pub SameParams : (Node → Bool) → List (Option AValue) → List (Option AValue) → Type 0
SameParams low params others = (i : ℕ) → low (Param i) ≡ true → known (slice_get params i) ≡ known (slice_get others i)

-- the rows of what a step does keep the marking, and its value has a node
pub record Keeps (f : CoreFunction) (low : Node → Bool) (n : ℕ) (act : Plain) : Type 0 where
  pub rows : {u v : Node} → ActRow n act u v → IsNode f u → low u ≡ true → low v ≡ true
  pub stands : GivesValue act → IsNode f (Value n)

abbrev pub DoesKeep : CoreFunction → (Node → Bool) → Does → Type 0
DoesKeep f low Idle = Unit {0}
DoesKeep f low (Acts n act) = Keeps f low n act

-- whether the control of what a step does is low
abbrev pub does_low : (Node → Bool) → Does → Bool
does_low low Idle = false
does_low low (Acts n act) = low (Before n)

module _ (low : Node → Bool) where
  put_same : (values others : Values) (n : ℕ) (v w : Option AValue) → SameValues low values others → (low (Value n) ≡ true → v ≡ w) → SameValues low (put values n v) (put others n w)
  put_same values others n v w same is m h = by (m == n) refl
    where
      by : (b : Bool) → (m == n) ≡ b → (if b then v else values m) ≡ (if b then w else others m)
      by true e = is (subst (λ (z : ℕ). low (Value z) ≡ true) (eqb-true m n e) h)
      by false e = same m h

  put_high : (values others : Values) (n : ℕ) (v : Option AValue) → SameValues low values others → low (Value n) ≡ false → SameValues low (put values n v) others
  put_high values others n v same high m h = by (m == n) refl
    where
      by : (b : Bool) → (m == n) ≡ b → (if b then v else values m) ≡ others m
      by true e = false_true (low (Value n)) high (subst (λ (z : ℕ). low (Value z) ≡ true) (eqb-true m n e) h)
      by false e = same m h

  module _ (params ideal : List (Option AValue)) (same_params : SameParams low params ideal) where
    -- an operand that is low has one value
    pub operand_same : (values others : Values) (o : Operand) → SameValues low values others → operand_low low o ≡ true → operand_value params values o ≡ operand_value ideal others o
    operand_same values others (operand.Constant ty value) same h = refl
    operand_same values others (operand.Param i) same h = same_params i h
    operand_same values others (operand.Temp n) same h = same n h

    pub test_same : (values others : Values) (o : Operand) → SameValues low values others → operand_low low o ≡ true → test_value params values (Some o) ≡ test_value ideal others (Some o)
    test_same values others o same h = ap is_true (operand_same values others o same h)

    -- an operand of what is low
    names_low : (o : Operand) → ((v : Node) → Names o v → low v ≡ true) → operand_low low o ≡ true
    names_low (operand.Constant ty value) h = refl
    names_low (operand.Param i) h = h (Param i) names_param
    names_low (operand.Temp n) h = h (Value n) names_temp

    all_same : (values others : Values) (args : List Operand) → SameValues low values others → ((o : Operand) (v : Node) → Among o args → Names o v → low v ≡ true) → map (operand_value params values) args ≡ map (operand_value ideal others) args
    all_same values others [] same h = refl
    all_same values others (o ∷ args) same h =
        ap₂ (λ (v : Option AValue) (vs : List (Option AValue)). v ∷ vs) (operand_same values others o same (names_low o (λ v m. h o v here m))) (all_same values others args same (λ p v among m. h p v (later among) m))

    -- A step under control that is not low.
    pub values_high : (f : CoreFunction) (values others : Values) (d : Does) → DoesKeep f low d → does_low low d ≡ false → SameValues low values others → SameValues low (values_after params values d) others
    values_high f values others Idle keeps e same = same
    values_high f values others (Acts n (Set op args)) keeps e same = put_high values others n _ same (contra (low (Value n)) (low (Before n)) (λ h. keeps.rows set_before (keeps.stands set_gives) h) e)
    values_high f values others (Acts n (Load view)) keeps e same = same
    values_high f values others (Acts n (Declare local value)) keeps e same = same
    values_high f values others (Acts n (Store view value)) keeps e same = same
    values_high f values others (Acts n (Atomic op view args)) keeps e same = same
    values_high f values others (Acts n (Barrier space severity)) keeps e same = same
    values_high f values others (Acts n (UniformLoad view severity)) keeps e same = same
    values_high f values others (Acts n (Length view)) keeps e same = same

    -- Two lanes do the same.
    pub values_low : (f : CoreFunction) (values others : Values) (d : Does) → DoesKeep f low d → SameValues low values others → SameValues low (values_after params values d) (values_after ideal others d)
    values_low f values others Idle keeps same = same
    values_low f values others (Acts n (Set op args)) keeps same =
        put_same values others n _ _ same (λ h. ap (applied op) (all_same values others args same (λ o v among m. keeps.rows (set_argument among m) (keeps.stands set_gives) h)))
    values_low f values others (Acts n (Load view)) keeps same = same
    values_low f values others (Acts n (Declare local value)) keeps same = same
    values_low f values others (Acts n (Store view value)) keeps same = same
    values_low f values others (Acts n (Atomic op view args)) keeps same = same
    values_low f values others (Acts n (Barrier space severity)) keeps same = same
    values_low f values others (Acts n (UniformLoad view severity)) keeps same = same
    values_low f values others (Acts n (Length view)) keeps same = same
