-- Rule: parts by name and by index. (WGSL, "Vector Access Expression", "Array Access Expression", "Structure Access Expression".) A part of
-- memory is memory, but for several parts of a vector, which are a value; a part of a value is a value.
use Rattle.std.specs.Prelude.{ℕ, Bool, true, false, List, [], ◌∷◌, Option, None, Some, is_none, is_some, slice_get, codes, nat_lt, ◌==◌, ◌+◌, Ok, Err, if◌then◌else◌}
use Rattle.std.specs.Str.{bytes_eq}
use Rattle.shade_base.specs.declared.place.Place.{Place}
use Rattle.shade_values.specs.declared.types.Access.{Access}
use Rattle.shade_values.specs.declared.types.Scalar.{Scalar}
use Rattle.shade_values.specs.declared.types.Scalar.TheVariants as scalar
use Rattle.shade_values.specs.declared.types.ShadeType.{ShadeType}
use Rattle.shade_values.specs.declared.types.ShadeType.TheVariants as type
use Rattle.shade_values.specs.declared.types.Space.{Space}
use Rattle.shade_values.specs.declared.types.TypeId.{TypeId}
use Rattle.shade_values.specs.declared.value.Value.{Value}
use Rattle.shade_values.specs.declared.op.Op.{Op}
use Rattle.shade_values.specs.declared.op.Op.TheVariants.{Member, Index, Swizzle}
use Rattle.shade_values.specs.Apply.{Apply}
use Rattle.shade_values.specs.Parts.{own_leaf}
use Rattle.shade_values.specs.Table.{Table, members_at}
use Rattle.shade_evaluate.specs.declared.fault.ConstFault.TheVariants as const_fault
use Rattle.shade_evaluate.specs.Evaluate.{meets}
use Rattle.shade_evaluate.specs.Misuse.{named_below}
use Rattle.shade_known.specs.declared.known.Found.{Found}
use Rattle.shade_known.specs.declared.known.Found.TheVariants as found
use Rattle.shade_known.specs.declared.known.Known.{Known}
use Rattle.shade_known.specs.declared.known.Operand.{Operand}
use Rattle.shade_known.specs.declared.known.Part.TheVariants as part
use Rattle.shade_known.specs.declared.known.What.{What}
use Rattle.shade_known.specs.declared.known.What.TheVariants as what
use Rattle.shade_known.specs.declared.fault.TypingFault.TheVariants as fault
use Rattle.shade_known.specs.declared.fault.TypeRule.TheVariants as rule
use Rattle.shade_known.specs.Lookups.{what_in, type_of_node, value_of_node, values_of}
use Rattle.shade_known.specs.Operates.{concrete, unless_unfit}
use Rattle.shade_typing.specs.declared.letters.Letters.{Letters}
use Rattle.shade_typing.specs.declared.letters.Letters.TheVariants as letters
use Rattle.shade_typing.specs.declared.letters.LetterSet.{LetterSet}
use Rattle.shade_typing.specs.declared.letters.LetterSet.TheVariants as set
use Rattle.shade_typing.specs.declared.parts.Accessed.{Accessed}
use Rattle.shade_typing.specs.declared.parts.Reach.{Reach}
use Rattle.shade_typing.specs.declared.parts.Reach.TheVariants as reach
use Rattle.shade_typing.specs.Values.{Answer, breaks}

-- ---- the letters of a swizzle

-- `x`, `y`, `z`, `w`
abbrev pub position : ℕ → Option ℕ
position letter = if letter == 120 then Some 0 else if letter == 121 then Some 1 else if letter == 122 then Some 2 else if letter == 119 then Some 3 else None

-- `r`, `g`, `b`, `a`
abbrev pub color : ℕ → Option ℕ
color letter = if letter == 114 then Some 0 else if letter == 103 then Some 1 else if letter == 98 then Some 2 else if letter == 97 then Some 3 else None

abbrev pub place_by : LetterSet → ℕ → Option ℕ
place_by set.Position letter = position letter
place_by set.Color letter = color letter

abbrev pub within : ℕ → Option ℕ → Option ℕ
within count None = None
within count (Some k) = if nat_lt k count then Some k else None

-- the part that a letter of a set names, of a vector with so many
abbrev pub letter_place : LetterSet → ℕ → ℕ → Option ℕ
letter_place s count letter = within count (place_by s letter)

abbrev pub one_letter : Option ℕ → Option Letters
one_letter (Some a) = Some (letters.One a)
one_letter _ = None

abbrev pub two_letters : Option ℕ → Option ℕ → Option Letters
two_letters (Some a) (Some b) = Some (letters.Two a b)
two_letters _ _ = None

abbrev pub three_letters : Option ℕ → Option ℕ → Option ℕ → Option Letters
three_letters (Some a) (Some b) (Some c) = Some (letters.Three a b c)
three_letters _ _ _ = None

abbrev pub four_letters : Option ℕ → Option ℕ → Option ℕ → Option ℕ → Option Letters
four_letters (Some a) (Some b) (Some c) (Some d) = Some (letters.Four a b c d)
four_letters _ _ _ _ = None

-- at most four letters of one set, each of which names a part
abbrev pub letters_by : LetterSet → ℕ → List ℕ → Option Letters
letters_by s n (a ∷ []) = one_letter (letter_place s n a)
letters_by s n (a ∷ b ∷ []) = two_letters (letter_place s n a) (letter_place s n b)
letters_by s n (a ∷ b ∷ c ∷ []) = three_letters (letter_place s n a) (letter_place s n b) (letter_place s n c)
letters_by s n (a ∷ b ∷ c ∷ d ∷ []) = four_letters (letter_place s n a) (letter_place s n b) (letter_place s n c) (letter_place s n d)
letters_by s n _ = None

abbrev pub or_else : Option Letters → Option Letters → Option Letters
or_else None other = other
or_else (Some l) other = Some l

-- of a vector with so many parts
abbrev pub letters_of : ℕ → List ℕ → Option Letters
letters_of n text = or_else (letters_by set.Position n text) (letters_by set.Color n text)

-- ---- what is accessed

abbrev pub accessed : ShadeType → Op → Reach → Accessed
accessed ty op r = record { ty = ty; op = op; reach = r }

abbrev pub accessed_by : Option ShadeType → Op → Reach → Option Accessed
accessed_by None op r = None
accessed_by (Some ty) op r = Some (accessed ty op r)

abbrev pub by_letters : Scalar → Letters → Accessed
by_letters s (letters.One a) = accessed (type.Plain s) (Member a) reach.Component
by_letters s (letters.Two a b) = accessed (type.Vector 2 s) (Swizzle 2 (a ∷ b ∷ 0 ∷ 0 ∷ [])) reach.Several
by_letters s (letters.Three a b c) = accessed (type.Vector 3 s) (Swizzle 3 (a ∷ b ∷ c ∷ 0 ∷ [])) reach.Several
by_letters s (letters.Four a b c d) = accessed (type.Vector 4 s) (Swizzle 4 (a ∷ b ∷ c ∷ d ∷ [])) reach.Several

abbrev pub vector_part : Scalar → Option Letters → Option Accessed
vector_part s None = None
vector_part s (Some l) = Some (by_letters s l)

-- the first member with a name, among those from a number on: its number and its type
abbrev pub member_from : ℕ → List ℕ → List (List ℕ × TypeId) → Option (ℕ × TypeId)
member_from k text [] = None
member_from k text (m ∷ ms) = if bytes_eq m.0 text then Some (k, m.1) else member_from (k + 1) text ms

-- no struct has members without a number of 32 bits
abbrev pub member_part : Table → Option (ℕ × TypeId) → Option Accessed
member_part t None = None
member_part t (Some m) = if nat_lt m.0 4294967296 then accessed_by (slice_get t.types m.1.0) (Member m.0) reach.Addressed else None

-- of the result of an atomic exchange
abbrev pub exchanged_part : Scalar → List ℕ → Option Accessed
exchanged_part s text =
    if bytes_eq text (codes "old_value") then Some (accessed (type.Plain s) (Member 0) reach.Addressed)
    else if bytes_eq text (codes "exchanged") then Some (accessed (type.Plain scalar.Bool) (Member 1) reach.Addressed) else None

abbrev pub part_by_name : Table → ShadeType → List ℕ → Option Accessed
part_by_name t (type.Vector n s) text = vector_part s (letters_of n text)
part_by_name t (type.Struct number) text = member_part t (member_from 0 text (members_at t.structs number))
part_by_name t (type.Exchanged s) text = exchanged_part s text
part_by_name t _ text = None

abbrev pub named_part : Table → ShadeType → Option (List ℕ) → Option Accessed
named_part t ty None = None
named_part t ty (Some text) = part_by_name t ty text

abbrev pub element_part : Table → ShadeType → Option Accessed
element_part t (type.Vector n s) = Some (accessed (type.Plain s) Index reach.Component)
element_part t (type.Array element count) = accessed_by (slice_get t.types element.0) Index reach.Addressed
element_part t (type.RuntimeArray element) = accessed_by (slice_get t.types element.0) Index reach.Addressed
element_part t _ = None

-- ---- what is found

abbrev pub in_memory : Reach → ShadeType → Op → Space → Access → Option Value → Found
in_memory reach.Addressed ty op space access v = found.Reference ty space access (part.Addressed op) None
in_memory reach.Component ty op space access v = found.Reference ty space access (part.Component op) None
in_memory reach.Several ty op space access v = found.Value ty (Some op) v

abbrev pub part_found : Option What → Option Value → Accessed → Found
part_found (Some (what.Reference ty space access p initial)) v a = in_memory a.reach a.ty a.op space access v
part_found (Some (what.Value ty op own)) v a = found.Value a.ty (Some a.op) v
part_found _ v a = found.Nothing

-- the operation on operands that are all constant
abbrev pub applied : Op → Option (List Value) → Option Value
applied op None = None
applied op (Some values) = Some (Apply op values)

abbrev pub taken_of : Known → Operand → List Operand → Accessed → Answer
taken_of k whole operands a = Ok (part_found (what_in k.facts whole.node) (applied a.op (values_of k.facts operands)) a)

-- a part that is no constant is no AbstractInt
abbrev pub settled_if : Bool → Accessed → Accessed
settled_if true a = a
settled_if false a = accessed (concrete a.ty) a.op a.reach

-- what has no type is no value, and has no parts
abbrev pub typed : Option ShadeType → Operand → (ShadeType → Answer) → Answer
typed None o answer = breaks o.place rule.Conversion
typed (Some ty) o answer = answer ty

-- ---- by name, at the place of the first token of the access

abbrev pub member_by : Option Accessed → Known → Operand → Place → Answer
member_by None k whole place = breaks place rule.Access
member_by (Some a) k whole place = taken_of k whole (whole ∷ []) (settled_if (is_some (value_of_node k.facts whole.node)) a)

abbrev pub member_answer : Known → Operand → Option (List ℕ) → Place → Answer
member_answer k whole text place = typed (type_of_node k whole.node) whole (λ ty. member_by (named_part k.types ty text) k whole place)

-- ---- by index, at the place of the first token of the access; what lies outside is told at the `[`, also where nobody asks

abbrev pub is_integer : Option ShadeType → Bool
is_integer (Some (type.Plain scalar.I32)) = true
is_integer (Some (type.Plain scalar.U32)) = true
is_integer (Some (type.Plain scalar.Abstract)) = true
is_integer _ = false

-- how many parts there are, where the type tells it
abbrev pub count_of : ShadeType → Option ℕ
count_of (type.Vector n s) = Some n
count_of (type.Array element n) = Some n
count_of _ = None

abbrev pub is_outside : Option ℕ → Option Value → Bool
is_outside (Some n) (Some v) = is_none (named_below n (own_leaf v).number)
is_outside _ _ = false

abbrev pub unfit_at : Value → Place → Option Place
unfit_at v place = if meets (Some scalar.I32) v then None else Some place

-- AbstractInt becomes i32, but where both are constant: the place of a whole or an index that does not fit
abbrev pub index_unfit : Bool → Option Value → Option Value → Operand → Operand → Option Place
index_unfit false (Some w) None whole index = unfit_at w whole.place
index_unfit false None (Some i) whole index = unfit_at i index.place
index_unfit _ _ _ whole index = None

-- whether two values are constant
abbrev pub both : Option Value → Option Value → Bool
both (Some v) (Some w) = true
both _ _ = false

abbrev pub within_bounds : Known → Bool → Operand → Operand → Accessed → Answer
within_bounds k idle whole index a =
    unless_unfit (index_unfit idle (value_of_node k.facts whole.node) (value_of_node k.facts index.node) whole index)
    (taken_of k whole (whole ∷ index ∷ [])
    (settled_if (both (value_of_node k.facts whole.node) (value_of_node k.facts index.node)) a))

abbrev pub element_by : Option Accessed → ShadeType → Known → Bool → Operand → Operand → Place → Place → Answer
element_by None ty k idle whole index bracket place = breaks place rule.Access
element_by (Some a) ty k idle whole index bracket place =
    if is_outside (count_of ty) (value_of_node k.facts index.node) then Err (fault.Constant (const_fault.IndexOutside bracket))
    else within_bounds k idle whole index a

abbrev pub indexed : Bool → ShadeType → Known → Bool → Operand → Operand → Place → Place → Answer
indexed false ty k idle whole index bracket place = breaks place rule.Access
indexed true ty k idle whole index bracket place = element_by (element_part k.types ty) ty k idle whole index bracket place

abbrev pub element_answer : Known → Bool → Operand → Operand → Place → Place → Answer
element_answer k idle whole index bracket place =
    typed (type_of_node k whole.node) whole (λ ty. indexed (is_integer (type_of_node k index.node)) ty k idle whole index bracket place)
