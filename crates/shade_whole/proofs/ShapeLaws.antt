-- The shape of a module, demand by demand.
use Rattle.std.proofs.Common.{◌≡◌, subst, ℕ, List, map, get_or, Some}
use Rattle.std.specs.Prelude.{◌↔◌, All, Bool, IsTrue, slice_get}
use Rattle.std.proofs.lemmas.List.Elements.{All-get_or}
use Rattle.std.proofs.lemmas.Option.{slice_get_within, get_or_from_slice_get, slice_get-get_or}
use Rattle.shade_core.specs.declared.module.CoreFunction.{CoreFunction}
use Rattle.shade_core.specs.declared.module.CoreModule.{CoreModule}
use Rattle.shade_core.specs.HasShape.{AllDiffer, HasShape}
use Rattle.shade_core.specs.Limits.{KeepsFunctionLimits}
use Rattle.shade_core.specs.Views.{ValueTypes}
use Rattle.shade_chains.specs.Keeps.{HasBytes}
use Rattle.shade_whole.specs.Bodies.{AreBodies, AreKept, KeepsChains}
use Rattle.shade_whole.specs.Outline.{HasNames, IsOutlined}

-- what is said of each function by its number, and of all in a list
each_limit : (shader : CoreModule) → All (KeepsFunctionLimits shader.types) shader.functions → (k : ℕ) (f : CoreFunction) → slice_get shader.functions k ≡ Some f → KeepsFunctionLimits shader.types f
each_limit shader all k f at =
    subst (KeepsFunctionLimits shader.types) (get_or_from_slice_get shader.functions k f f at) (All-get_or (KeepsFunctionLimits shader.types) shader.functions k f (slice_get_within shader.functions k f at) all)

all_limits : (shader : CoreModule) → ((k : ℕ) (f : CoreFunction) → slice_get shader.functions k ≡ Some f → KeepsFunctionLimits shader.types f) → All (KeepsFunctionLimits shader.types) shader.functions
all_limits shader each k d lt = each k (get_or shader.functions k d) (slice_get-get_or shader.functions k d lt)

pub names_tell : (shader : CoreModule) (b : Bool) → AllDiffer (map (λ root. root.name) shader.roots) → IsTrue b ↔ AllDiffer (map (λ f. f.name) shader.functions) → IsTrue b ↔ HasNames shader
names_tell shader b roots h = (λ t. record { roots = roots; functions = h.0 t }, λ names. h.1 names.functions)

pub outlined : (shader : CoreModule) → HasShape shader → IsOutlined shader
outlined shader shape = record {
  few = record { roots = shape.few_roots; functions = shape.few_functions };
  names = record { roots = shape.root_names; functions = shape.function_names };
  table = shape.table;
  declared = record {
    roots = shape.roots;
    signatures = shape.signatures;
    limits = record {
      functions = all_limits shader shape.limits.functions;
      members = shape.limits.members;
      spaces = record { workgroup = shape.limits.workgroup; private = shape.limits.private };
    };
  };
}

pub chained : (shader : CoreModule) (shape : HasShape shader) → KeepsChains shader shape.values
chained shader shape = record { acyclic = shape.acyclic; lane = shape.limits.lane; depth = shape.limits.depth; words = shape.limits.words }

pub whole : (shader : CoreModule) (values : ℕ → ValueTypes) → IsOutlined shader → AreBodies shader values → KeepsChains shader values → HasShape shader
whole shader values outline bodies chains = record {
  few_roots = outline.few.roots;
  few_functions = outline.few.functions;
  root_names = outline.names.roots;
  function_names = outline.names.functions;
  table = outline.table;
  roots = outline.declared.roots;
  signatures = outline.declared.signatures;
  values = values;
  bodies = bodies;
  acyclic = chains.acyclic;
  limits = record {
    functions = each_limit shader outline.declared.limits.functions;
    members = outline.declared.limits.members;
    workgroup = outline.declared.limits.spaces.workgroup;
    private = outline.declared.limits.spaces.private;
    lane = chains.lane;
    depth = chains.depth;
    words = chains.words;
  };
}

-- the last test tells the shape
pub tells : (shader : CoreModule) (bytes : List ℕ) (b : Bool) → IsOutlined shader → AreKept shader bytes → ((values : ℕ → ValueTypes) → HasBytes shader values bytes → IsTrue b ↔ KeepsChains shader values) → IsTrue b ↔ HasShape shader
tells shader bytes b outline kept keeps = (
  λ t. whole shader kept.values outline kept.bodies ((keeps kept.values (kept.each kept.values kept.bodies)).0 t),
  λ shape. (keeps shape.values (kept.each shape.values shape.bodies)).1 (chained shader shape),
)
