use Rattle.std.proofs.Common.{◌≡◌, ◌*◌, ◌/◌, ◌≤◌, inl, inr, Some, slice_get, ap, ◌∙◌, arith}
use Rattle.shade_values.specs.declared.types.ShadeType.TheVariants.{Array}
use Rattle.shade_words.specs.Lays.{size}
use Rattle.shade_words.specs.Types.{lay}
use Rattle.shade_words.specs.Ways.{part_offset}
use Rattle.shade_words.proofs.Layouts.{part_ends}
use Rattle.shade_words.proofs.TypeLaws.{lay_lies}
use Rattle.shade_words.proofs.PlaceLaws.{vector_offset, exchanged_offset, array_offset, struct_offset, struct_is, no_offset}
use Rattle.shade_words.proofs.places.part_offset.Goals as goal

pub overflow_mul-result : goal.overflow_mul-result
overflow_mul-result c =
    let t = c.args.types.now in
    let names : slice_get t.types c.args.ty.0 ≡ Some (Array c.in-Array.field-0 c.in-Array.field-1) = c.get.ensures.ty ∙ ap (λ x. Some x) c.in-Array.is in
    let stride : c.words_of.result ≡ (c.layout_of-layout.result).stride / 4 = c.words_of.ensures in
    let same : c.args.k * c.words_of.result ≡ part_offset (lay t c.args.ty) c.args.k =
    ap (λ x. c.args.k * x) (stride ∙ ap (λ x. x.stride / 4) c.layout_of-layout.ensures.layout) ∙ array_offset t c.get.ensures.sound c.args.ty c.in-Array.field-0 c.in-Array.field-1 c.args.k names in
    let h = lay_lies t c.get.ensures.sound c.args.ty in
    let small : size (lay t c.args.ty) ≤ c.layout_of-layout.result.size = omega (arith, h.words, ap (λ x. x.size) c.layout_of-layout.ensures.layout) in
    omega (arith, same, small, c.layout_of-layout.ensures.sized, part_ends (lay t c.args.ty) c.args.k h.lies c.requires.part)

pub member_offset-requires : goal.member_offset-requires
member_offset-requires c =
    struct_is c.args.types.now c.get.ensures.sound c.args.ty c.in-Struct.number c.requires.known (c.get.ensures.ty ∙ ap (λ x. Some x) c.in-Struct.is)
    (omega (arith, c.layout_of-layout.ensures.sized, ap (λ x. x.size) c.layout_of-layout.ensures.layout))

pub returns-in-Vector-clause-offset : goal.returns-in-Vector-clause-offset
returns-in-Vector-clause-offset c = elim c.in-Vector.is as (λ _. c.args.k ≡ part_offset (lay c.args.types.now c.args.ty) c.args.k) [
  | inl h ↦ vector_offset c.args.types.now c.get.ensures.sound c.args.ty h.0 c.args.k h.1 (c.get.ensures.ty ∙ ap (λ x. Some x) h.2)
  | inr h ↦ exchanged_offset c.args.types.now c.get.ensures.sound c.args.ty c.args.k h.0 (c.get.ensures.ty ∙ ap (λ x. Some x) h.1) c.requires.part
]

pub returns-in-Array-clause-offset : goal.returns-in-Array-clause-offset
returns-in-Array-clause-offset c =
    ap (λ x. c.args.k * x) (c.words_of.ensures ∙ ap (λ x. x.stride / 4) c.layout_of-layout.ensures.layout)
    ∙ array_offset c.args.types.now c.get.ensures.sound c.args.ty c.in-Array.field-0 c.in-Array.field-1 c.args.k (c.get.ensures.ty ∙ ap (λ x. Some x) c.in-Array.is)

pub returns-in-Struct-clause-offset : goal.returns-in-Struct-clause-offset
returns-in-Struct-clause-offset c =
    c.member_offset.ensures ∙ struct_offset c.args.types.now c.get.ensures.sound c.args.ty c.in-Struct.number c.args.k (c.get.ensures.ty ∙ ap (λ x. Some x) c.in-Struct.is)

pub returns-in_default-clause-offset : goal.returns-in_default-clause-offset
returns-in_default-clause-offset c =
    no_offset c.args.types.now c.get.ensures.sound c.args.ty c.get.result.now c.args.k c.get.ensures.ty c.in_default.not-Vector c.in_default.not-Exchanged c.in_default.not-Array c.in_default.not-Struct c.requires.part
