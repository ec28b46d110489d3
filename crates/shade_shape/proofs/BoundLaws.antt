-- The members of all structs of a table.
use Rattle.std.proofs.Common.{◌≡◌, refl, sym, ap, ◌∙◌, ℕ, ◌+◌, ◌<◌, ◌≤◌, length, Some, inl, inr, arith}
use Rattle.std.specs.Prelude.{slice_get}
use Rattle.std.proofs.lemmas.Bool.{cases_lt}
use Rattle.std.proofs.lemmas.Option.{slice_get-get_or, slice_get_within, get_or_from_slice_get}
use Rattle.shade_values.specs.declared.types.ShadeType.{ShadeType}
use Rattle.shade_values.specs.declared.types.ShadeType.TheVariants as type
use Rattle.shade_values.specs.Sound.{IsSound}
use Rattle.shade_values.specs.Table.{Table, StructView, no_struct}
use Rattle.shade_shape.specs.Bounds.{KeepsMemberLimit, HasFewMembers}

abbrev pub FewBelow : Table → ℕ → Type 0
FewBelow t i = (k : ℕ) (ty : ShadeType) → k < i → slice_get t.types k ≡ Some ty → HasFewMembers t ty

pub few_more : (t : Table) (i : ℕ) (ty : ShadeType) → slice_get t.types i ≡ Some ty → HasFewMembers t ty → FewBelow t i → FewBelow t (i + 1)
few_more t i ty at few below k other lt there = elim (cases_lt k i) [
  | inl earlier ↦ below k other earlier there
  | inr late ↦ λ n e.
      let same : other ≡ ty = (let f : Some other ≡ Some ty = sym there ∙ (ap (slice_get t.types) (omega (arith, lt, late)) ∙ at) in cc) in
      few n (sym same ∙ e)
]

pub few_all : (t : Table) (i : ℕ) → IsSound t → length t.types ≤ i → FewBelow t i → KeepsMemberLimit t
few_all t i sound le below k s at =
    let stands = sound.stand k (slice_get_within t.structs k s at) in
    let few = below stands.0 (type.Struct k) (omega (arith, stands.1, le)) (slice_get-get_or t.types stands.0 (type.Struct k) stands.1 ∙ ap Some stands.2) k refl in
    omega (arith, few, ap (λ x. length x.members) (get_or_from_slice_get t.structs k s no_struct at))

pub struct_known : (t : Table) (i : ℕ) (ty : ShadeType) → IsSound t → slice_get t.types i ≡ Some ty → (n : ℕ) → ty ≡ type.Struct n → n < length t.structs
struct_known t i ty sound at n e = (sound.over i (type.Struct n) (at ∙ ap Some e)).0

pub few_each : (t : Table) (i : ℕ) (ty : ShadeType) → IsSound t → slice_get t.types i ≡ Some ty → KeepsMemberLimit t → HasFewMembers t ty
few_each t i ty sound at keeps n e = keeps n _ (slice_get-get_or t.structs n no_struct (struct_known t i ty sound at n e))
