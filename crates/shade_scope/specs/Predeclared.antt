-- The words that mean something without a declaration (WGSL, "Predeclared Types", "Built-in Functions", "Enumeration Types").
use Rattle.std.specs.Prelude.{ℕ, Bool, true, false, List, [], ◌∷◌, Option, Some, None, codes, slice_get, if◌then◌else◌}
use Rattle.shade_events.specs.Words.{is_word}

-- types and their generators, address spaces, access modes
abbrev pub type_words : List (List ℕ)
type_words =
    codes "bool" ∷ codes "i32" ∷ codes "u32" ∷ codes "vec2" ∷ codes "vec3" ∷ codes "vec4" ∷ codes "vec2i" ∷ codes "vec3i" ∷ codes "vec4i"
    ∷ codes "vec2u" ∷ codes "vec3u" ∷ codes "vec4u" ∷ codes "array" ∷ codes "atomic" ∷ codes "ptr"
    ∷ codes "function" ∷ codes "private" ∷ codes "workgroup" ∷ codes "uniform" ∷ codes "storage"
    ∷ codes "read" ∷ codes "write" ∷ codes "read_write" ∷ []

-- functions
abbrev pub function_words : List (List ℕ)
function_words =
    codes "bitcast" ∷ codes "all" ∷ codes "any" ∷ codes "select" ∷ codes "abs" ∷ codes "sign" ∷ codes "min" ∷ codes "max" ∷ codes "clamp" ∷ codes "dot"
    ∷ codes "countOneBits" ∷ codes "countLeadingZeros" ∷ codes "countTrailingZeros" ∷ codes "reverseBits" ∷ codes "firstLeadingBit"
    ∷ codes "firstTrailingBit" ∷ codes "extractBits" ∷ codes "insertBits" ∷ codes "arrayLength"
    ∷ codes "atomicLoad" ∷ codes "atomicStore" ∷ codes "atomicAdd" ∷ codes "atomicSub" ∷ codes "atomicMax" ∷ codes "atomicMin" ∷ codes "atomicAnd"
    ∷ codes "atomicOr" ∷ codes "atomicXor" ∷ codes "atomicExchange" ∷ codes "atomicCompareExchangeWeak"
    ∷ codes "workgroupBarrier" ∷ codes "storageBarrier" ∷ codes "workgroupUniformLoad" ∷ []

-- words that are known and that this program does not take: floating point, textures, samplers
abbrev pub other_words : List (List ℕ)
other_words =
    codes "f32" ∷ codes "f16" ∷ codes "vec2f" ∷ codes "vec3f" ∷ codes "vec4f" ∷ codes "vec2h" ∷ codes "vec3h" ∷ codes "vec4h"
    ∷ codes "mat2x2" ∷ codes "mat2x3" ∷ codes "mat2x4" ∷ codes "mat3x2" ∷ codes "mat3x3" ∷ codes "mat3x4" ∷ codes "mat4x2" ∷ codes "mat4x3" ∷ codes "mat4x4"
    ∷ codes "sampler" ∷ codes "sampler_comparison" ∷ codes "texture_2d" ∷ codes "texture_storage_2d" ∷ codes "textureLoad" ∷ codes "textureStore"
    ∷ codes "textureSample" ∷ codes "textureBarrier" ∷ codes "dpdx" ∷ codes "dpdy" ∷ codes "fwidth" ∷ codes "sqrt" ∷ codes "sin" ∷ codes "cos" ∷ codes "pow"
    ∷ codes "floor" ∷ codes "ceil" ∷ codes "exp" ∷ codes "log" ∷ []

abbrev pub is_predeclared : List ℕ → Bool
is_predeclared text = if is_word type_words text then true else if is_word function_words text then true else is_word other_words text

abbrev pub predeclared_by : Option (List ℕ) → Bool
predeclared_by None = false
predeclared_by (Some text) = is_predeclared text

abbrev pub is_predeclared_name : List (List ℕ) → ℕ → Bool
is_predeclared_name names name = predeclared_by (slice_get names name)
