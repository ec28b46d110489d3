-- Rule: what a name with a template list is. (WGSL, "Vector Types", "Atomic Types", "Array Types", "Memory View Types", "Bit Reinterpretation
-- Built-in Functions".) The rule of templates fails at its first token where it takes no such list; the rule of sizes fails at a count. What may
-- stand in no list is told before, at the argument.
use Rattle.std.specs.Prelude.{ℕ, ℤ, pos, negsuc, Bool, true, false, ◌&&◌, List, [], ◌∷◌, Option, None, Some, is_some, option_map, codes, length, ◌-◌, slice_get, nat_lt, nat_le, Result, Ok, Err, if◌then◌else◌}
use Rattle.std.specs.Option.{option_flatten}
use Rattle.std.specs.Str.{bytes_eq}
use Rattle.shade_base.specs.declared.place.Place.{Place}
use Rattle.shade_ast.specs.Lexemes.{named_in}
use Rattle.shade_values.specs.declared.types.Scalar.{Scalar}
use Rattle.shade_values.specs.declared.types.Scalar.TheVariants as scalar
use Rattle.shade_values.specs.declared.types.ShadeType.{ShadeType}
use Rattle.shade_values.specs.declared.types.ShadeType.TheVariants as type
use Rattle.shade_values.specs.declared.types.TypeId.{TypeId}
use Rattle.shade_values.specs.declared.types.Access.{Access}
use Rattle.shade_values.specs.declared.types.Access.TheVariants as access
use Rattle.shade_values.specs.declared.types.Space.{Space}
use Rattle.shade_values.specs.declared.types.Space.TheVariants as space
use Rattle.shade_values.specs.declared.value.Value.{Value}
use Rattle.shade_values.specs.Parts.{own_leaf}
use Rattle.shade_values.specs.Table.{Table, members_at}
use Rattle.shade_evaluate.specs.declared.fault.ConstFault.TheVariants as const_fault
use Rattle.shade_overload.specs.declared.builtin.Builtin.{Builtin}
use Rattle.shade_overload.specs.declared.builtin.Builtin.TheVariants as builtin
use Rattle.shade_scope.specs.declared.scoped.Meaning.{Meaning}
use Rattle.shade_scope.specs.declared.scoped.Meaning.TheVariants as meaning
use Rattle.shade_known.specs.declared.known.AccessWord.{AccessWord}
use Rattle.shade_known.specs.declared.known.AccessWord.TheVariants as word
use Rattle.shade_known.specs.declared.known.Generator.{Generator}
use Rattle.shade_known.specs.declared.known.Generator.TheVariants as generator
use Rattle.shade_known.specs.declared.known.Found.TheVariants as found
use Rattle.shade_known.specs.declared.known.Known.{Known}
use Rattle.shade_known.specs.declared.known.Operand.{Operand}
use Rattle.shade_known.specs.declared.known.What.{What}
use Rattle.shade_known.specs.declared.known.What.TheVariants as what
use Rattle.shade_known.specs.declared.fault.TypingFault.{TypingFault}
use Rattle.shade_known.specs.declared.fault.TypingFault.TheVariants as fault
use Rattle.shade_known.specs.declared.fault.TypeRule.TheVariants as rule
use Rattle.shade_known.specs.Lookups.{what_in, type_of_node, value_of_node}
use Rattle.shade_typing.specs.Values.{Answer, breaks}
use Rattle.shade_calls.specs.Names.{generator_words, word_found}

-- ---- arguments

-- the type that something is
abbrev pub id_named : Option What → Option TypeId
id_named (Some (what.Type id bad)) = Some id
id_named _ = None

abbrev pub type_named : Table → Option TypeId → Option ShadeType
type_named t None = None
type_named t (Some id) = slice_get t.types id.0

abbrev pub written_type : Known → ℕ → Option ShadeType
written_type k n = type_named k.types (id_named (what_in k.facts n))

-- ---- types whose size a buffer decides

-- the type of the last member of a struct
abbrev pub last_member : List (List ℕ × TypeId) → Option TypeId
last_member members = option_map (λ m. m.1) (slice_get members (length members - 1))

abbrev pub is_runtime_array : Option ShadeType → Bool
is_runtime_array (Some (type.RuntimeArray element)) = true
is_runtime_array _ = false

abbrev pub is_runtime_array_id : Table → Option TypeId → Bool
is_runtime_array_id t None = false
is_runtime_array_id t (Some id) = is_runtime_array (slice_get t.types id.0)

-- an array whose count its buffer decides, or a struct that ends in one; no other type holds one
abbrev pub is_runtime_sized : Table → ShadeType → Bool
is_runtime_sized t (type.RuntimeArray element) = true
is_runtime_sized t (type.Struct number) = is_runtime_array_id t (last_member (members_at t.structs number))
is_runtime_sized t _ = false

abbrev pub some_type : Option ShadeType → Place → Result ShadeType TypingFault
some_type None place = Err (fault.Rule place rule.Template)
some_type (Some ty) place = Ok ty

-- the only argument, which is a type
abbrev pub only_type : Known → List Operand → Place → Result ShadeType TypingFault
only_type k (a ∷ []) place = some_type (written_type k a.node) place
only_type k _ place = Err (fault.Rule place rule.Template)

abbrev pub type_and : Result ShadeType TypingFault → (ShadeType → Answer) → Answer
type_and (Ok ty) answer = answer ty
type_and (Err e) answer = Err e

abbrev pub told_type : Option ShadeType → Place → Answer
told_type None place = breaks place rule.Template
told_type (Some ty) place = Ok (found.Type ty false)

-- ---- vectors and atomics

abbrev pub is_written : Scalar → Bool
is_written scalar.Bool = true
is_written scalar.I32 = true
is_written scalar.U32 = true
is_written scalar.Abstract = false

abbrev pub vector_of : ℕ → ShadeType → Option ShadeType
vector_of n (type.Plain s) = if is_written s && (nat_le 2 n && nat_le n 4) then Some (type.Vector n s) else None
vector_of n _ = None

abbrev pub atomic_of : ShadeType → Option ShadeType
atomic_of (type.Plain scalar.I32) = Some (type.Atomic scalar.I32)
atomic_of (type.Plain scalar.U32) = Some (type.Atomic scalar.U32)
atomic_of _ = None

-- ---- what arrays and pointers hold

abbrev pub is_pointer : ShadeType → Bool
is_pointer (type.Pointer in_space pointee granted) = true
is_pointer _ = false

abbrev pub and_then : Result TypeId TypingFault → (TypeId → Answer) → Answer
and_then (Ok id) answer = answer id
and_then (Err e) answer = Err e

abbrev pub held_type : Option ShadeType → TypeId → Place → Result TypeId TypingFault
held_type None id place = Err (fault.Rule place rule.Template)
held_type (Some ty) id place = if is_pointer ty then Err (fault.Rule place rule.Template) else Ok id

abbrev pub held_id : Table → Option TypeId → Place → Result TypeId TypingFault
held_id t None place = Err (fault.Rule place rule.Template)
held_id t (Some id) place = held_type (slice_get t.types id.0) id place

-- the type that an argument is, which must be no pointer
abbrev pub held : Known → Operand → Place → Result TypeId TypingFault
held k argument place = held_id k.types (id_named (what_in k.facts argument.node)) place

-- ---- arrays

abbrev pub count_in : ℤ → Option ℕ
count_in (pos n) = if nat_lt 0 n && nat_le n 4294967295 then Some n else None
count_in (negsuc n) = None

-- the number of a constant that is a count
abbrev pub count_by : Option ShadeType → Value → Option ℕ
count_by (Some (type.Plain scalar.I32)) v = count_in (own_leaf v).number
count_by (Some (type.Plain scalar.U32)) v = count_in (own_leaf v).number
count_by (Some (type.Plain scalar.Abstract)) v = count_in (own_leaf v).number
count_by _ v = None

abbrev pub sized_by : Option ℕ → TypeId → Place → Answer
sized_by None element place = breaks place rule.Size
sized_by (Some n) element place = Ok (found.Type (type.Array element n) false)

-- the count is constant, or told as none; only then the array is asked what it holds, and whether the count is a number from 1 to 4,294,967,295
abbrev pub counted_by : Option Value → Known → Operand → Operand → Place → Answer
counted_by None k e n place = Err (fault.Constant (const_fault.NotConstant n.place))
counted_by (Some v) k e n place = and_then (held k e place) (λ id. sized_by (count_by (type_of_node k n.node) v) id n.place)

abbrev pub array_answer : Known → List Operand → Place → Answer
array_answer k (e ∷ []) place = and_then (held k e place) (λ id. Ok (found.Type (type.RuntimeArray id) false))
array_answer k (e ∷ n ∷ []) place = counted_by (value_of_node k.facts n.node) k e n place
array_answer k _ place = breaks place rule.Template

-- ---- pointers

abbrev pub space_named : Option What → Option Space
space_named (Some (what.Space s)) = Some s
space_named _ = None

abbrev pub access_named : Option What → Option AccessWord
access_named (Some (what.Access a)) = Some a
access_named _ = None

-- what a shader may do where nothing else is written
abbrev pub own_access : Space → Access
own_access space.Storage = access.Read
own_access space.Uniform = access.Read
own_access s = access.ReadWrite

abbrev pub granted : Space → AccessWord → Access
granted space.Storage word.ReadWrite = access.ReadWrite
granted s w = own_access s

-- an access that is not one of its space: only storage has some to choose from, and nothing is write-only
abbrev pub is_bad : Space → AccessWord → Bool
is_bad space.Storage word.Read = false
is_bad space.Storage word.ReadWrite = false
is_bad s w = true

abbrev pub access_by : Space → Option AccessWord → Access
access_by s None = own_access s
access_by s (Some w) = granted s w

abbrev pub is_bad_by : Space → Option AccessWord → Bool
is_bad_by s None = false
is_bad_by s (Some w) = is_bad s w

-- a pointer to a type
abbrev pub pointer_to : Option Space → Option AccessWord → Known → Operand → Place → Answer
pointer_to None w k pointee place = breaks place rule.Template
pointer_to (Some s) w k pointee place = and_then (held k pointee place) (λ id. Ok (found.Type (type.Pointer s id (access_by s w)) (is_bad_by s w)))

abbrev pub accessed_to : Option AccessWord → Option Space → Known → Operand → Place → Answer
accessed_to None s k pointee place = breaks place rule.Template
accessed_to (Some w) s k pointee place = pointer_to s (Some w) k pointee place

abbrev pub pointer_answer : Known → List Operand → Place → Answer
pointer_answer k (s ∷ p ∷ []) place = pointer_to (space_named (what_in k.facts s.node)) None k p place
pointer_answer k (s ∷ p ∷ a ∷ []) place =
    accessed_to (access_named (what_in k.facts a.node)) (space_named (what_in k.facts s.node)) k p place
pointer_answer k _ place = breaks place rule.Template

-- ---- the name

-- what a name makes with a template list, by its meaning and its text
abbrev pub generator_of : Option Meaning → Option (List ℕ) → Option Generator
generator_of (Some meaning.Predeclared) (Some text) = named_in generator_words text
generator_of _ _ = None

abbrev pub generated : Generator → Known → List Operand → Place → Answer
generated (generator.Vector n) k arguments place = type_and (only_type k arguments place) (λ ty. told_type (vector_of n ty) place)
generated generator.Atomic k arguments place = type_and (only_type k arguments place) (λ ty. told_type (atomic_of ty) place)
generated generator.Array k arguments place = array_answer k arguments place
generated generator.Pointer k arguments place = pointer_answer k arguments place

abbrev pub bitcast_answer : Known → List Operand → Place → Answer
bitcast_answer k arguments place = type_and (only_type k arguments place) (λ ty. Ok (found.Known (what.Builtin (builtin.Bitcast (Some ty)))))

abbrev pub refused_word : Bool → List ℕ → Place → Answer
refused_word true text place = breaks place rule.Template
refused_word false text place = Err (fault.OutOfProfile place text)

abbrev pub by_generator : Option Generator → List ℕ → Known → List Operand → Place → Answer
by_generator (Some g) text k arguments place = generated g k arguments place
by_generator None text k arguments place =
    if bytes_eq text (codes "bitcast") then bitcast_answer k arguments place else refused_word (is_some (word_found text)) text place

abbrev pub by_text : Option (List ℕ) → Known → List Operand → Place → Answer
by_text None k arguments place = breaks place rule.Template
by_text (Some text) k arguments place = by_generator (named_in generator_words text) text k arguments place

-- only words of the standard take a template list
abbrev pub by_meaning : Option Meaning → Option (List ℕ) → Known → List Operand → Place → Answer
by_meaning (Some meaning.Predeclared) text k arguments place = by_text text k arguments place
by_meaning _ text k arguments place = breaks place rule.Template

abbrev pub template_answer : List (Option Meaning) → List (List ℕ) → Known → ℕ → ℕ → List Operand → Place → Answer
template_answer uses names k node name arguments place =
    by_meaning (option_flatten (slice_get uses node)) (slice_get names name) k arguments place
