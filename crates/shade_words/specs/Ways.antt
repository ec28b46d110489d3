-- Rules: the parts of a layout, and ways from a composite to a part: the number of the member, component or element at each level.
use Rattle.std.specs.Prelude.{ℕ, zero, suc, ◌+◌, ◌*◌, ◌<◌, List, [], ◌∷◌, slice_set}
use Rattle.shade_values.specs.declared.value.Value.{Value}
use Rattle.shade_values.specs.declared.value.Value.TheVariants as value
use Rattle.shade_values.specs.Parts.{parts_of, part_at}
use Rattle.shade_words.specs.Lays.{Lay, leaf, row, fields, Fields, no_field, field}

-- what stands where there is no such part: no words
abbrev pub no_lay : Lay
no_lay = fields 0 no_field

abbrev pub field_lay : Fields → ℕ → Lay
field_lay no_field k = no_lay
field_lay (field offset l fs) zero = l
field_lay (field offset l fs) (suc k) = field_lay fs k

abbrev pub field_offset : Fields → ℕ → ℕ
field_offset no_field k = 0
field_offset (field offset l fs) zero = offset
field_offset (field offset l fs) (suc k) = field_offset fs k

abbrev pub field_count : Fields → ℕ
field_count no_field = 0
field_count (field offset l fs) = suc (field_count fs)

-- how part k lies
abbrev pub part_lay : Lay → ℕ → Lay
part_lay (leaf s) k = no_lay
part_lay (row e n stride) k = e
part_lay (fields words fs) k = field_lay fs k

-- the first word of part k, counted from that of the whole
abbrev pub part_offset : Lay → ℕ → ℕ
part_offset (leaf s) k = 0
part_offset (row e n stride) k = k * stride
part_offset (fields words fs) k = field_offset fs k

-- how many parts
abbrev pub part_count : Lay → ℕ
part_count (leaf s) = 0
part_count (row e n stride) = n
part_count (fields words fs) = field_count fs

-- a vector, an array or a struct
abbrev pub IsComposite : Lay → Type 0
IsComposite (leaf s) = ⊥
IsComposite (row e n stride) = Unit {0}
IsComposite (fields words fs) = Unit {0}

-- ---- ways

abbrev pub value_at : Value → List ℕ → Value
value_at v [] = v
value_at v (k ∷ ks) = value_at (part_at v k) ks

-- the value with another one at the end of a way
abbrev pub value_put : Value → List ℕ → Value → Value
value_put v [] x = x
value_put v (k ∷ ks) x = value.Many (slice_set (parts_of v) k (value_put (part_at v k) ks x))

abbrev pub way_lay : Lay → List ℕ → Lay
way_lay l [] = l
way_lay l (k ∷ ks) = way_lay (part_lay l k) ks

abbrev pub way_offset : Lay → List ℕ → ℕ
way_offset l [] = 0
way_offset l (k ∷ ks) = part_offset l k + way_offset (part_lay l k) ks

abbrev pub IsWay : Lay → List ℕ → Type 0
IsWay l [] = Unit {0}
IsWay l (k ∷ ks) = (k < part_count l) × IsWay (part_lay l k) ks
