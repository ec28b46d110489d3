-- The variables that may differ are those of the rules.
use Rattle.std.proofs.Common.{◌≡◌, refl, sym, ap, subst, ◌∙◌, ℕ, true, false, Option, Some, None}
use Rattle.std.specs.Prelude.{slice_get}
use Rattle.shade_values.specs.declared.types.Access.{Access}
use Rattle.shade_values.specs.declared.types.Access.TheVariants as access
use Rattle.shade_values.specs.declared.types.ShadeType.{ShadeType}
use Rattle.shade_values.specs.declared.types.ShadeType.TheVariants as type
use Rattle.shade_values.specs.declared.types.Space.{Space}
use Rattle.shade_values.specs.declared.types.Space.TheVariants as space
use Rattle.shade_values.specs.declared.types.TypeId.{TypeId}
use Rattle.shade_core.specs.declared.module.CoreFunction.{CoreFunction}
use Rattle.shade_core.specs.declared.module.CoreModule.{CoreModule}
use Rattle.shade_core.specs.declared.module.CoreParam.{CoreParam}
use Rattle.shade_core.specs.declared.module.CoreParam.TheVariants as param
use Rattle.shade_core.specs.declared.module.Root.{Root}
use Rattle.shade_core.specs.declared.statement.Base.{Base}
use Rattle.shade_core.specs.declared.statement.Base.TheVariants.{Local, Module, Pointee}
use Rattle.shade_uniformity.specs.Rows
use Rattle.shade_uniformity.specs.Rows.{MayDiffer}
use Rattle.shade_uniformity.specs.RowLists.{is_writable, root_writable, writes_through, type_writable, pointer_differs, param_differs, may_differ}

writable : (some : Access) → is_writable some ≡ true → some ≡ access.ReadWrite
writable access.Read e = cc
writable access.ReadWrite e = refl

-- from the test to the rule

module _ (shader : CoreModule) (f : CoreFunction) where
  by_root : (i : ℕ) (root : Option Root) → slice_get shader.roots i ≡ root → root_writable root ≡ true → MayDiffer shader f (Module i)
  by_root i None at e = cc
  by_root i (Some root) at e = Rows.writable_root at (writable root.access e)

  by_type : (i : ℕ) (ty : TypeId) (known : Option ShadeType) → slice_get f.params i ≡ Some (param.Pointer space.Storage ty) → slice_get shader.types.types ty.0 ≡ known → type_writable known ≡ true
      → MayDiffer shader f (Pointee i)
  by_type i ty None at is e = cc
  by_type i ty (Some (type.Pointer place pointee way)) at is e =
      Rows.storage_pointee {ty = ty} {pointee = pointee} {space = place} at (is ∙ ap (λ (w : Access). Some (type.Pointer place pointee w)) (writable way e))
  by_type i ty (Some (type.Plain scalar)) at is e = cc
  by_type i ty (Some (type.Vector count scalar)) at is e = cc
  by_type i ty (Some (type.Array element count)) at is e = cc
  by_type i ty (Some (type.RuntimeArray element)) at is e = cc
  by_type i ty (Some (type.Atomic scalar)) at is e = cc
  by_type i ty (Some (type.Struct number)) at is e = cc
  by_type i ty (Some (type.Exchanged scalar)) at is e = cc

  by_pointer : (i : ℕ) (some : Space) (ty : TypeId) → slice_get f.params i ≡ Some (param.Pointer some ty) → pointer_differs shader some ty ≡ true → MayDiffer shader f (Pointee i)
  by_pointer i space.Function ty at e = cc
  by_pointer i space.Private ty at e = Rows.private_pointee at
  by_pointer i space.Workgroup ty at e = Rows.workgroup_pointee at
  by_pointer i space.Uniform ty at e = cc
  by_pointer i space.Storage ty at e = by_type i ty (slice_get shader.types.types ty.0) at refl e

  by_param : (i : ℕ) (some : Option CoreParam) → slice_get f.params i ≡ some → param_differs shader some ≡ true → MayDiffer shader f (Pointee i)
  by_param i None at e = cc
  by_param i (Some (param.Plain ty)) at e = cc
  by_param i (Some (param.Pointer some ty)) at e = by_pointer i some ty at e
  by_param i (Some (param.Input input)) at e = cc

  pub is_differing : (variable : Base) → may_differ shader f variable ≡ true → MayDiffer shader f variable
  is_differing (Local i) e = cc
  is_differing (Module i) e = by_root i (slice_get shader.roots i) refl e
  is_differing (Pointee i) e = by_param i (slice_get f.params i) refl e

  -- and back

  pub differs_is : {variable : Base} → MayDiffer shader f variable → may_differ shader f variable ≡ true
  differs_is (Rows.writable_root at e) = ap root_writable at ∙ ap is_writable e
  differs_is (Rows.private_pointee at) = ap (param_differs shader) at
  differs_is (Rows.workgroup_pointee at) = ap (param_differs shader) at
  differs_is (Rows.storage_pointee at is) = ap (param_differs shader) at ∙ ap type_writable is
