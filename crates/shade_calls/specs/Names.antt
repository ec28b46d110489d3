-- Rule: what a name is. A declared name is what its declaration is, and a predeclared word what the standard says; a word that this program does
-- not take is told at its place. (WGSL, "Declaration and Scope", "Predeclared Types and Type-Generators Summary", "Predeclared Enumerants
-- Summary", "Built-in Functions".)
use Rattle.std.specs.Prelude.{ℕ, Bool, false, List, [], ◌∷◌, Option, None, Some, slice_get, codes, Ok, Err}
use Rattle.std.specs.Option.{option_flatten}
use Rattle.shade_base.specs.declared.place.Place.{Place}
use Rattle.shade_ast.specs.Lexemes.{named_in}
use Rattle.shade_values.specs.declared.types.Scalar.TheVariants as scalar
use Rattle.shade_values.specs.declared.types.ShadeType.{ShadeType}
use Rattle.shade_values.specs.declared.types.ShadeType.TheVariants as type
use Rattle.shade_values.specs.declared.types.Space.{Space}
use Rattle.shade_values.specs.declared.types.Space.TheVariants as space
use Rattle.shade_values.specs.Table.{Table}
use Rattle.shade_overload.specs.declared.builtin.Builtin.{Builtin}
use Rattle.shade_overload.specs.declared.builtin.Builtin.TheVariants as builtin
use Rattle.shade_scope.specs.declared.scoped.Meaning.{Meaning}
use Rattle.shade_scope.specs.declared.scoped.Meaning.TheVariants as meaning
use Rattle.shade_known.specs.declared.known.AccessWord.{AccessWord}
use Rattle.shade_known.specs.declared.known.AccessWord.TheVariants as word
use Rattle.shade_known.specs.declared.known.Generator.{Generator}
use Rattle.shade_known.specs.declared.known.Generator.TheVariants as generator
use Rattle.shade_known.specs.declared.known.Found.{Found}
use Rattle.shade_known.specs.declared.known.Found.TheVariants as found
use Rattle.shade_known.specs.declared.known.Known.{Known}
use Rattle.shade_known.specs.declared.known.What.{What}
use Rattle.shade_known.specs.declared.known.What.TheVariants as what
use Rattle.shade_known.specs.declared.fault.TypingFault.TheVariants as fault
use Rattle.shade_known.specs.Lookups.{what_in}
use Rattle.shade_typing.specs.Values.{Answer, same_by}

-- ---- words

abbrev pub type_words : List (List ℕ × ShadeType)
type_words =
    (codes "bool", type.Plain scalar.Bool) ∷ ((codes "i32", type.Plain scalar.I32) ∷ ((codes "u32", type.Plain scalar.U32)
    ∷ ((codes "vec2i", type.Vector 2 scalar.I32) ∷ ((codes "vec3i", type.Vector 3 scalar.I32) ∷ ((codes "vec4i", type.Vector 4 scalar.I32)
    ∷ ((codes "vec2u", type.Vector 2 scalar.U32) ∷ ((codes "vec3u", type.Vector 3 scalar.U32) ∷ ((codes "vec4u", type.Vector 4 scalar.U32)
    ∷ []))))))))

-- what makes a type with a template list
abbrev pub generator_words : List (List ℕ × Generator)
generator_words =
    (codes "vec2", generator.Vector 2) ∷ ((codes "vec3", generator.Vector 3) ∷ ((codes "vec4", generator.Vector 4) ∷ ((codes "array", generator.Array)
    ∷ ((codes "atomic", generator.Atomic) ∷ ((codes "ptr", generator.Pointer) ∷ [])))))

abbrev pub space_words : List (List ℕ × Space)
space_words =
    (codes "function", space.Function) ∷ ((codes "private", space.Private) ∷ ((codes "workgroup", space.Workgroup) ∷ ((codes "uniform", space.Uniform)
    ∷ ((codes "storage", space.Storage) ∷ []))))

abbrev pub access_words : List (List ℕ × AccessWord)
access_words =
    (codes "read", word.Read) ∷ ((codes "write", word.Write) ∷ ((codes "read_write", word.ReadWrite) ∷ []))

-- functions of values
abbrev pub value_words : List (List ℕ × Builtin)
value_words =
    (codes "bitcast", builtin.Bitcast None) ∷ ((codes "all", builtin.All) ∷ ((codes "any", builtin.Any) ∷ ((codes "select", builtin.Select)
    ∷ ((codes "abs", builtin.Abs) ∷ ((codes "sign", builtin.Sign) ∷ ((codes "min", builtin.Min) ∷ ((codes "max", builtin.Max)
    ∷ ((codes "clamp", builtin.Clamp) ∷ ((codes "dot", builtin.Dot) ∷ ((codes "countOneBits", builtin.CountOneBits)
    ∷ ((codes "countLeadingZeros", builtin.CountLeadingZeros) ∷ ((codes "countTrailingZeros", builtin.CountTrailingZeros)
    ∷ ((codes "reverseBits", builtin.ReverseBits) ∷ ((codes "firstLeadingBit", builtin.FirstLeadingBit)
    ∷ ((codes "firstTrailingBit", builtin.FirstTrailingBit) ∷ ((codes "extractBits", builtin.ExtractBits) ∷ ((codes "insertBits", builtin.InsertBits)
    ∷ [])))))))))))))))))

-- functions of memory
abbrev pub memory_words : List (List ℕ × Builtin)
memory_words =
    (codes "arrayLength", builtin.ArrayLength) ∷ ((codes "atomicLoad", builtin.AtomicLoad) ∷ ((codes "atomicStore", builtin.AtomicStore)
    ∷ ((codes "atomicAdd", builtin.AtomicAdd) ∷ ((codes "atomicSub", builtin.AtomicSub) ∷ ((codes "atomicMax", builtin.AtomicMax)
    ∷ ((codes "atomicMin", builtin.AtomicMin) ∷ ((codes "atomicAnd", builtin.AtomicAnd) ∷ ((codes "atomicOr", builtin.AtomicOr)
    ∷ ((codes "atomicXor", builtin.AtomicXor) ∷ ((codes "atomicExchange", builtin.AtomicExchange)
    ∷ ((codes "atomicCompareExchangeWeak", builtin.AtomicCompareExchangeWeak) ∷ ((codes "workgroupBarrier", builtin.WorkgroupBarrier)
    ∷ ((codes "storageBarrier", builtin.StorageBarrier) ∷ ((codes "workgroupUniformLoad", builtin.WorkgroupUniformLoad) ∷ []))))))))))))))

abbrev pub told : {A : Type 0} → (A → What) → Option A → Option What → Option What
told as_what None other = other
told as_what (Some a) other = Some (as_what a)

-- what a word means that is no type, if this program takes it
abbrev pub other_word : List ℕ → Option What
other_word text =
    told what.Generator (named_in generator_words text)
    (told what.Space (named_in space_words text)
    (told what.Access (named_in access_words text)
    (told what.Builtin (named_in value_words text) (told what.Builtin (named_in memory_words text) None))))

abbrev pub found_by : Option ShadeType → Option What → Option Found
found_by (Some ty) other = Some (found.Type ty false)
found_by None (Some w) = Some (found.Known w)
found_by None None = None

-- what a word means, if this program takes it
abbrev pub word_found : List ℕ → Option Found
word_found text = found_by (named_in type_words text) (other_word text)

abbrev pub unless_out : Option Found → List ℕ → Place → Answer
unless_out (Some f) text place = Ok f
unless_out None text place = Err (fault.OutOfProfile place text)

abbrev pub word_answer : Option (List ℕ) → Place → Answer
word_answer None place = Ok found.Nothing
word_answer (Some text) place = unless_out (word_found text) text place

-- ---- declared names

abbrev pub type_by : Option ShadeType → Bool → Found
type_by None bad = found.Nothing
type_by (Some ty) bad = found.Type ty bad

-- what is known of a declaration; the name of a value is made by no operation
abbrev pub declared_by : Table → Option What → Found
declared_by t (Some (what.Type ty bad)) = type_by (slice_get t.types ty.0) bad
declared_by t (Some (what.Function parameters result must_use entry)) = found.Known (what.Function parameters result must_use entry)
declared_by t w = same_by t w

abbrev pub by_meaning : Option Meaning → Known → Option (List ℕ) → Place → Answer
by_meaning (Some (meaning.Declared n)) k text place = Ok (declared_by k.types (what_in k.facts n))
by_meaning (Some meaning.Predeclared) k text place = word_answer text place
by_meaning None k text place = Ok found.Nothing

-- the name with a number, used at a node
abbrev pub name_answer : List (Option Meaning) → List (List ℕ) → Known → ℕ → ℕ → Place → Answer
name_answer uses names k node name place = by_meaning (option_flatten (slice_get uses node)) k (slice_get names name) place
