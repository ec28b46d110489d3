-- What is asked of a module apart from the statements of its functions.
use Rattle.std.specs.Prelude.{◌<◌, ◌^◌, All, length, map}
use Rattle.shade_values.specs.declared.types.Space.TheVariants as space
use Rattle.shade_core.specs.declared.module.CoreModule.{CoreModule}
use Rattle.shade_core.specs.HasShape.{AllDiffer, IsSignature}
use Rattle.shade_core.specs.Limits.{KeepsFunctionLimits}
use Rattle.shade_core.specs.Roots.{IsRoot}
use Rattle.shade_core.specs.Types.{IsTable}
use Rattle.shade_shape.specs.Bounds.{KeepsMemberLimit, KeepsSpaceLimits}

pub record HasFew (shader : CoreModule) : Type 0 where
  pub roots : length shader.roots < 2 ^ 32
  pub functions : length shader.functions < 2 ^ 32

pub record HasNames (shader : CoreModule) : Type 0 where
  pub roots : AllDiffer (map (λ root. root.name) shader.roots)
  pub functions : AllDiffer (map (λ f. f.name) shader.functions)

-- the limits that count neither calls nor values
pub record KeepsOwnLimits (shader : CoreModule) : Type 0 where
  pub functions : All (KeepsFunctionLimits shader.types) shader.functions
  pub members : KeepsMemberLimit shader.types
  pub spaces : KeepsSpaceLimits shader.types shader.roots

pub record AreDeclared (shader : CoreModule) : Type 0 where
  pub roots : All (IsRoot shader.types) shader.roots
  pub signatures : All (IsSignature shader.types) shader.functions
  pub limits : KeepsOwnLimits shader

pub record IsOutlined (shader : CoreModule) : Type 0 where
  pub few : HasFew shader
  pub names : HasNames shader
  pub table : IsTable shader.types
  pub declared : AreDeclared shader
