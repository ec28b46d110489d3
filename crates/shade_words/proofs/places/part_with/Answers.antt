use Rattle.std.proofs.Common.{◌/◌, Some, ap, subst, ◌∙◌, arith}
use Rattle.shade_values.specs.declared.types.ShadeType.TheVariants.{Struct}
use Rattle.shade_words.specs.Types.{HasParts}
use Rattle.shade_words.proofs.PlaceLaws.{type_is, struct_is, no_parts, array_some, array_below, array_none, runtime_some, runtime_below, runtime_none, struct_some, struct_none}
use Rattle.shade_words.proofs.places.part_with.Goals as goal

pub member_with-requires : goal.member_with-requires
member_with-requires c =
    struct_is c.args.types.now c.get.ensures.sound c.args.ty c.in-Struct.number c.requires.known (c.get.ensures.ty ∙ ap (λ x. Some x) c.in-Struct.is)
    (omega (arith, c.layout_of-layout.ensures.sized, ap (λ x. x.size) c.layout_of-layout.ensures.layout))

pub returns-in-Array-clause-some : goal.returns-in-Array-clause-some
returns-in-Array-clause-some c =
    array_some c.args.types.now c.get.ensures.sound c.args.ty c.in-Array.element c.in-Array.count c.args.word (c.get.ensures.ty ∙ ap (λ x. Some x) c.in-Array.is)
    c.words_of.result (c.words_of.ensures ∙ ap (λ x. x.stride / 4) c.layout_of-layout.ensures.layout) c.element_with.result c.element_with.ensures.some

pub returns-in-Array-clause-below : goal.returns-in-Array-clause-below
returns-in-Array-clause-below c =
    array_below c.args.types.now c.get.ensures.sound c.args.ty c.in-Array.element c.in-Array.count c.args.word (c.get.ensures.ty ∙ ap (λ x. Some x) c.in-Array.is)
    c.words_of.result c.element_with.result c.element_with.ensures.some

pub returns-in-Array-clause-none : goal.returns-in-Array-clause-none
returns-in-Array-clause-none c =
    array_none c.args.types.now c.get.ensures.sound c.args.ty c.in-Array.element c.in-Array.count c.args.word (c.get.ensures.ty ∙ ap (λ x. Some x) c.in-Array.is)
    c.words_of.result (c.words_of.ensures ∙ ap (λ x. x.stride / 4) c.layout_of-layout.ensures.layout) c.element_with.result c.element_with.ensures.none

pub returns-in-RuntimeArray-clause-some : goal.returns-in-RuntimeArray-clause-some
returns-in-RuntimeArray-clause-some c =
    runtime_some c.args.types.now c.get.ensures.sound c.args.ty c.in-RuntimeArray.element c.args.word (c.get.ensures.ty ∙ ap (λ x. Some x) c.in-RuntimeArray.is)
    c.words_of-in-RuntimeArray.result (c.words_of-in-RuntimeArray.ensures ∙ ap (λ x. x.stride / 4) c.layout_of-layout.ensures.layout) c.element_with-in-RuntimeArray.result c.element_with-in-RuntimeArray.ensures.some

pub returns-in-RuntimeArray-clause-below : goal.returns-in-RuntimeArray-clause-below
returns-in-RuntimeArray-clause-below c =
    runtime_below c.args.types.now c.get.ensures.sound c.args.ty c.in-RuntimeArray.element c.args.word (c.get.ensures.ty ∙ ap (λ x. Some x) c.in-RuntimeArray.is)
    c.words_of-in-RuntimeArray.result c.element_with-in-RuntimeArray.result c.element_with-in-RuntimeArray.ensures.some

pub returns-in-RuntimeArray-clause-none : goal.returns-in-RuntimeArray-clause-none
returns-in-RuntimeArray-clause-none c =
    runtime_none c.args.types.now c.get.ensures.sound c.args.ty c.in-RuntimeArray.element c.args.word (c.get.ensures.ty ∙ ap (λ x. Some x) c.in-RuntimeArray.is)
    c.words_of-in-RuntimeArray.result (c.words_of-in-RuntimeArray.ensures ∙ ap (λ x. x.stride / 4) c.layout_of-layout.ensures.layout) c.element_with-in-RuntimeArray.result c.element_with-in-RuntimeArray.ensures.none

pub returns-in-Struct-clause-some : goal.returns-in-Struct-clause-some
returns-in-Struct-clause-some c =
    struct_some c.args.types.now c.get.ensures.sound c.args.ty c.in-Struct.number c.args.word (c.get.ensures.ty ∙ ap (λ x. Some x) c.in-Struct.is) c.member_with.result c.member_with.ensures.some

pub returns-in-Struct-clause-below : goal.returns-in-Struct-clause-below
returns-in-Struct-clause-below c = c.member_with.ensures.below c.args.ty.0 (c.get.ensures.sound.over c.args.ty.0 (Struct c.in-Struct.number) (c.get.ensures.ty ∙ ap (λ x. Some x) c.in-Struct.is)).2

pub returns-in-Struct-clause-none : goal.returns-in-Struct-clause-none
returns-in-Struct-clause-none c =
    struct_none c.args.types.now c.get.ensures.sound c.args.ty c.in-Struct.number c.args.word (c.get.ensures.ty ∙ ap (λ x. Some x) c.in-Struct.is) c.member_with.result c.member_with.ensures.none

pub returns-in_default : goal.returns-in_default
returns-in_default c =
    absurd (no_parts c.get.result.now (subst HasParts (type_is c.args.types.now c.args.ty c.get.result.now c.get.ensures.ty) c.requires.parts) c.in_default.not-Array c.in_default.not-RuntimeArray c.in_default.not-Struct)
