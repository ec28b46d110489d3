-- The words that no declaration of the first form may take: the keywords and the predeclared names.
use Rattle.std.specs.Prelude.{Bool, ◌||◌, ℕ, List, [], ◌∷◌, codes, nat_eq}
use Rattle.std.specs.List.{list_any}
use Rattle.std.specs.Cmp.Lexicographic.{pointwise}

abbrev pub is_one_of : List (List ℕ) → List ℕ → Bool
is_one_of words name = list_any (λ w. pointwise nat_eq w name) words

-- the keywords
abbrev pub keywords : List (List ℕ)
keywords =
    codes "alias" ∷ codes "break" ∷ codes "case" ∷ codes "const" ∷ codes "const_assert" ∷ codes
    "continue" ∷ codes "continuing" ∷ codes "default" ∷ codes "diagnostic" ∷ codes "discard" ∷ codes
    "else" ∷ codes "enable" ∷ codes "false" ∷ codes "fn" ∷ codes "for" ∷ codes "if" ∷ codes "let" ∷
    codes "loop" ∷ codes "override" ∷ codes "requires" ∷ codes "return" ∷ codes "struct" ∷ codes
    "switch" ∷ codes "true" ∷ codes "var" ∷ codes "while" ∷ []

-- predeclared types and type constructors, spaces and accesses
abbrev pub types_and_spaces : List (List ℕ)
types_and_spaces =
    codes "bool" ∷ codes "i32" ∷ codes "u32" ∷ codes "vec2" ∷ codes "vec3" ∷ codes "vec4" ∷ codes
    "vec2i" ∷ codes "vec3i" ∷ codes "vec4i" ∷ codes "vec2u" ∷ codes "vec3u" ∷ codes "vec4u" ∷ codes
    "array" ∷ codes "atomic" ∷ codes "ptr" ∷ codes "function" ∷ codes "private" ∷ codes "workgroup" ∷
    codes "uniform" ∷ codes "storage" ∷ codes "read" ∷ codes "write" ∷ codes "read_write" ∷ []

-- predeclared functions
abbrev pub functions : List (List ℕ)
functions =
    codes "bitcast" ∷ codes "all" ∷ codes "any" ∷ codes "select" ∷ codes "abs" ∷ codes "sign" ∷ codes
    "min" ∷ codes "max" ∷ codes "clamp" ∷ codes "dot" ∷ codes "countOneBits" ∷ codes "countLeadingZeros"
    ∷ codes "countTrailingZeros" ∷ codes "reverseBits" ∷ codes "firstLeadingBit" ∷ codes
    "firstTrailingBit" ∷ codes "extractBits" ∷ codes "insertBits" ∷ codes "arrayLength" ∷ codes
    "atomicLoad" ∷ codes "atomicStore" ∷ codes "atomicAdd" ∷ codes "atomicSub" ∷ codes "atomicMax" ∷
    codes "atomicMin" ∷ codes "atomicAnd" ∷ codes "atomicOr" ∷ codes "atomicXor" ∷ codes
    "atomicExchange" ∷ codes "atomicCompareExchangeWeak" ∷ codes "workgroupBarrier" ∷ codes
    "storageBarrier" ∷ codes "workgroupUniformLoad" ∷ []

-- predeclared words of WGSL that this product leaves out
abbrev pub out_of_profile : List (List ℕ)
out_of_profile =
    codes "f32" ∷ codes "f16" ∷ codes "vec2f" ∷ codes "vec3f" ∷ codes "vec4f" ∷ codes "vec2h" ∷ codes
    "vec3h" ∷ codes "vec4h" ∷ codes "mat2x2" ∷ codes "mat2x3" ∷ codes "mat2x4" ∷ codes "mat3x2" ∷ codes
    "mat3x3" ∷ codes "mat3x4" ∷ codes "mat4x2" ∷ codes "mat4x3" ∷ codes "mat4x4" ∷ codes "sampler" ∷
    codes "sampler_comparison" ∷ codes "texture_2d" ∷ codes "texture_storage_2d" ∷ codes "textureLoad" ∷
    codes "textureStore" ∷ codes "textureSample" ∷ codes "textureBarrier" ∷ codes "dpdx" ∷ codes "dpdy"
    ∷ codes "fwidth" ∷ codes "sqrt" ∷ codes "sin" ∷ codes "cos" ∷ codes "pow" ∷ codes "floor" ∷ codes
    "ceil" ∷ codes "exp" ∷ codes "log" ∷ []

abbrev pub is_reserved : List ℕ → Bool
is_reserved name = is_one_of keywords name || is_one_of types_and_spaces name || is_one_of functions name || is_one_of out_of_profile name
