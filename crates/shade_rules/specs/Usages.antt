-- What functions read and write, themselves or by the functions that they call, of what callers see: of what their pointers point to, and of the
-- variables of the module. (This project's rule, after WGSL, "Alias Analysis".)
use Rattle.std.specs.Prelude.{◌≡◌, ℕ, List, [], ◌∷◌, ◌++◌, Option, None, Some, slice_get, Contains}
use Rattle.shade_values.specs.declared.op.Op.{Op}
use Rattle.shade_values.specs.declared.op.Op.TheVariants.{AtomicLoad, AtomicStore}
use Rattle.shade_core.specs.declared.statement.Argument.{Argument}
use Rattle.shade_core.specs.declared.statement.Argument.TheVariants.{Pointer}
use Rattle.shade_core.specs.declared.statement.Base.{Base}
use Rattle.shade_core.specs.declared.statement.Base.TheVariants.{Local, Module, Pointee}
use Rattle.shade_core.specs.declared.statement.View.{View}
use Rattle.shade_core.specs.declared.module.CoreFunction.{CoreFunction}
use Rattle.shade_core.specs.Code.{Plain, Load, Store, Atomic, UniformLoad, code_of}
use Rattle.shade_core.specs.Standing.{Head, does, calls, standing, statements}
use Rattle.shade_rules.specs.declared.usage.Seen.{Seen}
use Rattle.shade_rules.specs.declared.usage.Seen.TheVariants.{Parameter, Variable}
use Rattle.shade_rules.specs.declared.usage.UsageKind.{UsageKind}
use Rattle.shade_rules.specs.declared.usage.UsageKind.TheVariants.{Read, Write}

-- a read or a write of something
pub record Usage : Type 0 where
  pub kind : UsageKind
  pub target : Seen

abbrev pub usage : UsageKind → Seen → Usage
usage kind of_ = record { kind = kind; target = of_ }

-- the variable that a view begins at, where callers see it
abbrev pub seen_of : Base → Option Seen
seen_of (Local x) = None
seen_of (Module r) = Some (Variable r)
seen_of (Pointee i) = Some (Parameter i)

abbrev pub usage_by : UsageKind → Option Seen → List Usage
usage_by kind None = []
usage_by kind (Some seen) = usage kind seen ∷ []

-- a read or a write of it
abbrev pub usage_at : UsageKind → Base → List Usage
usage_at kind base = usage_by kind (seen_of base)

abbrev pub both_usages : Base → List Usage
both_usages base = usage_at Read base ++ usage_at Write base

-- every operation on an atomic but `atomicStore` reads, and every one but `atomicLoad` writes
abbrev pub atomic_usages : Op → Base → List Usage
atomic_usages AtomicLoad base = usage_at Read base
atomic_usages AtomicStore base = usage_at Write base
atomic_usages op base = both_usages base

abbrev pub act_usages : Plain → List Usage
act_usages (Load view) = usage_at Read view.base
act_usages (UniformLoad view severity) = usage_at Read view.base
act_usages (Store view value) = usage_at Write view.base
act_usages (Atomic op view args) = atomic_usages op view.base
act_usages _ = []

-- a statement that does this stands in a function
pub record StandsIn (functions : List CoreFunction) (k : ℕ) (head : Head) : Type 0 where
  pub function : CoreFunction
  pub at : slice_get functions k ≡ Some function
  pub number : ℕ
  pub stands : Contains (statements (code_of function.body)) (standing number head)

-- A function uses what its statements do; what a callee uses through a parameter, at the variable that is handed over for it; and the
-- variables of the module that a callee uses. Statements that control never comes to count too.
pub data Uses (functions : List CoreFunction) : ℕ → Usage → Type 0 where
  itself : {k : ℕ} {act : Plain} {u : Usage} → StandsIn functions k (does act) → Contains (act_usages act) u → Uses functions k u
  handed : {k g j : ℕ} {args : List Argument} {view : View} {kind : UsageKind} {seen : Seen}
      → StandsIn functions k (calls g args) → slice_get args j ≡ Some (Pointer view) → seen_of view.base ≡ Some seen → Uses functions g (usage kind (Parameter j)) → Uses functions k (usage kind seen)
  below : {k g r : ℕ} {args : List Argument} {kind : UsageKind} → StandsIn functions k (calls g args) → Uses functions g (usage kind (Variable r)) → Uses functions k (usage kind (Variable r))
