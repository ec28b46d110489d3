-- The core module that a tree of the first form stands for.
--
-- A condition `index < LIMIT` becomes a Set at its `<`, and the `if` an If on that value at its keyword, without an empty
-- part of its own; a barrier is one of the workgroup with the severity error, at its name. At the end stands one Return at
-- the last `}`. The statements are numbered from 0: a condition before its If, and an If before its part.
use Rattle.std.specs.Prelude.{◌≡◌, ℕ, ◌+◌, pos, Some, None, List, [], ◌∷◌, ◌++◌, map}
use Rattle.shade_base.specs.declared.place.Place.{Place}
use Rattle.shade_base.specs.declared.severity.Severity.TheVariants.{Error}
use Rattle.shade_values.specs.Table.{Table}
use Rattle.shade_values.specs.declared.op.Op.TheVariants.{Less}
use Rattle.shade_values.specs.declared.types.Scalar.TheVariants.{Bool, U32}
use Rattle.shade_values.specs.declared.types.ShadeType.TheVariants.{Plain}
use Rattle.shade_values.specs.declared.types.Space.TheVariants.{Workgroup}
use Rattle.shade_values.specs.declared.types.TypeId.{TypeId}
use Rattle.shade_values.specs.declared.value.Leaf.{Leaf}
use Rattle.shade_values.specs.declared.value.Value.TheVariants.{One}
use Rattle.shade_core.specs.declared.statement.Operand.{Operand}
use Rattle.shade_core.specs.declared.statement.Operand.TheVariants.{Constant, Param, Temp}
use Rattle.shade_core.specs.declared.statement.Act.TheVariants as act
use Rattle.shade_core.specs.declared.statement.CoreStatement.{CoreStatement}
use Rattle.shade_core.specs.declared.module.BuiltinInput.TheVariants.{LocalIndex}
use Rattle.shade_core.specs.declared.module.CoreParam.TheVariants.{Input}
use Rattle.shade_core.specs.declared.module.CoreFunction.{CoreFunction}
use Rattle.shade_core.specs.declared.module.CoreModule.{CoreModule}
use Rattle.shade_first.specs.declared.tree.FirstItem.{FirstItem, FirstItem-F, fold-FirstItem}
use Rattle.shade_first.specs.declared.tree.FirstItem.TheVariants as item
use Rattle.shade_first.specs.declared.tree.FirstItem.TheOpen as layer
use Rattle.shade_first.specs.declared.tree.FirstShader.{FirstShader}

-- the types of the module, in their order
abbrev pub type_table : Table
type_table = record { types = Plain U32 ∷ (Plain Bool ∷ []); structs = [] }

abbrev pub u32_type : TypeId
u32_type = record { 0 = 0 }

abbrev pub limit_of : ℕ → Operand
limit_of n = let leaf : Leaf = record { scalar = U32; number = pos n } in Constant u32_type (One leaf)

abbrev pub condition : ℕ → Place → ℕ → CoreStatement
condition n p limit = record { number = n; place = p; act = act.Set Less (Param 0 ∷ (limit_of limit ∷ [])) }

abbrev pub branch : ℕ → Place → ℕ → List CoreStatement → CoreStatement
branch n p value body = record { number = n; place = p; act = act.If (Temp value) body [] }

abbrev pub barrier : ℕ → Place → CoreStatement
barrier n p = record { number = n; place = p; act = act.Barrier Workgroup Error }

abbrev pub last_return : ℕ → Place → CoreStatement
last_return n p = record { number = n; place = p; act = act.Return None }

-- the statements that items stand for, numbered from one number on up to below another
pub data Lowers : List FirstItem → ℕ → List CoreStatement → ℕ → Type 0 where
  none : (n : ℕ) → Lowers [] n [] n
  one_barrier : (n : ℕ) (p : Place) {is : List FirstItem} {ss : List CoreStatement} {m : ℕ} → Lowers is (n + 1) ss m → Lowers (item.Barrier p ∷ is) n (barrier n p ∷ ss) m
  one_branch : (n : ℕ) (p q : Place) (limit : ℕ) {inner is : List FirstItem} {body ss : List CoreStatement} {end m : ℕ} → Lowers inner (n + 2) body end → Lowers is end ss m → Lowers (item.If p q limit inner ∷ is) n (condition n q limit ∷ (branch (n + 1) p n body ∷ ss)) m

-- a list with the statements of an item behind it
pub record Adds (i : FirstItem) (number : ℕ) (old new : List CoreStatement) (next : ℕ) : Type 0 where
  pub statements : List CoreStatement
  pub lowered : Lowers (i ∷ []) number statements next
  pub more : new ≡ old ++ statements

-- the statements of items, and a return at this place
pub record Ends (is : List FirstItem) (end : Place) (body : List CoreStatement) : Type 0 where
  pub statements : List CoreStatement
  pub next : ℕ
  pub lowered : Lowers is 0 statements next
  pub more : body ≡ statements ++ last_return next end ∷ []

-- the function of a shader, with this body
abbrev pub function_with : FirstShader → List CoreStatement → CoreFunction
function_with s body = record {
  name = s.name;
  place = s.place;
  params = Input LocalIndex ∷ [];
  locals = [];
  result = None;
  entry = Some (s.size ∷ (1 ∷ (1 ∷ [])));
  body = body;
}

-- the function of a shader, whose statements these are, and its last one has this number
abbrev pub function_of : FirstShader → List CoreStatement → ℕ → CoreFunction
function_of s statements next = function_with s (statements ++ last_return next s.end ∷ [])

-- the module of a shader: the types u32 and bool, no roots, and one function
pub record Stands (s : FirstShader) (m : CoreModule) : Type 0 where
  pub statements : List CoreStatement
  pub next : ℕ
  pub lowered : Lowers s.items 0 statements next
  pub types : m.types ≡ type_table
  pub roots : m.roots ≡ []
  pub functions : m.functions ≡ function_of s statements next ∷ []

abbrev pub total : List ℕ → ℕ
total [] = 0
total (n ∷ ns) = n + total ns

-- how many statements an item stands for
abbrev pub count_step : FirstItem-F ℕ → ℕ
count_step (layer.Barrier p) = 1
count_step (layer.If p q limit counts) = 2 + total counts

abbrev pub count_of : FirstItem → ℕ
count_of = fold-FirstItem ℕ count_step

abbrev pub count_all : List FirstItem → ℕ
count_all items = total (map count_of items)
