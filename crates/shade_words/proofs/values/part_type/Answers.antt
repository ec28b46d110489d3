use Rattle.std.proofs.Common.{◌≡◌, ◌<◌, [], length, Some, slice_get, sym, ap, subst, ◌∙◌, arith}
use Rattle.shade_values.specs.Shape.{shapes, shape_of}
use Rattle.shade_values.specs.Table.{members_at}
use Rattle.shade_values.specs.declared.types.ShadeType.TheVariants.{Array, RuntimeArray, Struct}
use Rattle.shade_values.proofs.ShapeLaws.{shape_is}
use Rattle.shade_words.specs.PartShapes.{part_shape, member_id}
use Rattle.shade_words.specs.Types.{HasParts}
use Rattle.shade_words.specs.Ways.{part_count}
use Rattle.shade_words.proofs.MemberLaws.{count_members}
use Rattle.shade_words.proofs.PlaceLaws.{struct_lay, type_is, no_parts}
use Rattle.shade_words.proofs.ValueLaws.{member_named}
use Rattle.shade_words.proofs.values.part_type.Goals as goal

pub member_type-requires-clause-known : goal.member_type-requires-clause-known
member_type-requires-clause-known c = (c.get.ensures.sound.over c.args.ty.0 (Struct c.in-Struct.number) (c.get.ensures.ty ∙ ap (λ x. Some x) c.in-Struct.is)).0

pub member_type-requires-clause-member : goal.member_type-requires-clause-member
member_type-requires-clause-member c =
    let t = c.args.types.now in
    let names : slice_get t.types c.args.ty.0 ≡ Some (Struct c.in-Struct.number) = c.get.ensures.ty ∙ ap (λ x. Some x) c.in-Struct.is in
    omega (arith, c.requires.part, ap part_count (struct_lay t c.get.ensures.sound c.args.ty c.in-Struct.number names), count_members (shapes t) (members_at t.structs c.in-Struct.number) 0)

pub returns-in-Array-clause-known : goal.returns-in-Array-clause-known
returns-in-Array-clause-known c =
    let over = c.get.ensures.sound.over c.args.ty.0 (Array c.in-Array.element c.in-Array.field-1) (c.get.ensures.ty ∙ ap (λ x. Some x) c.in-Array.is) in
    omega (arith, over.0, c.requires.known)

pub returns-in-Array-clause-part : goal.returns-in-Array-clause-part
returns-in-Array-clause-part c h =
    sym (ap (λ s. part_shape s c.args.k) (shape_is c.args.types.now c.get.ensures.sound.over c.args.ty.0 (Array c.in-Array.element c.in-Array.field-1) (c.get.ensures.ty ∙ ap (λ x. Some x) c.in-Array.is)))

pub returns-in-RuntimeArray-clause-known : goal.returns-in-RuntimeArray-clause-known
returns-in-RuntimeArray-clause-known c =
    let over = c.get.ensures.sound.over c.args.ty.0 (RuntimeArray c.in-RuntimeArray.element) (c.get.ensures.ty ∙ ap (λ x. Some x) c.in-RuntimeArray.is) in
    omega (arith, over, c.requires.known)

pub returns-in-RuntimeArray-clause-part : goal.returns-in-RuntimeArray-clause-part
returns-in-RuntimeArray-clause-part c h =
    sym (ap (λ s. part_shape s c.args.k) (shape_is c.args.types.now c.get.ensures.sound.over c.args.ty.0 (RuntimeArray c.in-RuntimeArray.element) (c.get.ensures.ty ∙ ap (λ x. Some x) c.in-RuntimeArray.is)))

pub returns-in-Struct-clause-known : goal.returns-in-Struct-clause-known
returns-in-Struct-clause-known c =
    let t = c.args.types.now in
    let ms = members_at t.structs c.in-Struct.number in
    let names : slice_get t.types c.args.ty.0 ≡ Some (Struct c.in-Struct.number) = c.get.ensures.ty ∙ ap (λ x. Some x) c.in-Struct.is in
    let low : c.args.k < length ms =
    omega (arith, c.requires.part, ap part_count (struct_lay t c.get.ensures.sound c.args.ty c.in-Struct.number names), count_members (shapes t) ms 0) in
    let below : (member_id ms c.args.k).0 < c.args.ty.0 = (c.get.ensures.sound.over c.args.ty.0 (Struct c.in-Struct.number) names).2 c.args.k ([], record { 0 = 0 }) low in
    omega (arith, below, c.requires.known, ap (λ x. x.0) c.member_type.ensures)

pub returns-in-Struct-clause-part : goal.returns-in-Struct-clause-part
returns-in-Struct-clause-part c h =
    let t = c.args.types.now in
    let ms = members_at t.structs c.in-Struct.number in
    let names : slice_get t.types c.args.ty.0 ≡ Some (Struct c.in-Struct.number) = c.get.ensures.ty ∙ ap (λ x. Some x) c.in-Struct.is in
    let low : c.args.k < length ms =
    omega (arith, c.requires.part, ap part_count (struct_lay t c.get.ensures.sound c.args.ty c.in-Struct.number names), count_members (shapes t) ms 0) in
    ap (shape_of t) c.member_type.ensures
    ∙ (member_named (shapes t) ms c.args.k low ∙ sym (ap (λ s. part_shape s c.args.k) (shape_is t c.get.ensures.sound.over c.args.ty.0 (Struct c.in-Struct.number) names)))

pub returns-in_default : goal.returns-in_default
returns-in_default c = record {
  known = c.requires.known;
  part = λ h. absurd (no_parts c.get.result.now (subst HasParts (type_is c.args.types.now c.args.ty c.get.result.now c.get.ensures.ty) h) c.in_default.not-Array c.in_default.not-RuntimeArray c.in_default.not-Struct);
}
