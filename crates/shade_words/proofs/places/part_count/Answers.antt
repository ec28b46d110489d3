use Rattle.std.proofs.Common.{Some, sym, ap, ◌∙◌}
use Rattle.shade_values.specs.Shape.{shapes}
use Rattle.shade_values.specs.Table.{members_at}
use Rattle.shade_values.specs.declared.types.ShadeType.TheVariants.{Struct}
use Rattle.shade_words.specs.Ways.{part_count}
use Rattle.shade_words.proofs.MemberLaws.{count_members}
use Rattle.shade_words.proofs.PlaceLaws.{struct_lay}
use Rattle.shade_words.proofs.TypeLaws.{lay_is}
use Rattle.shade_words.proofs.places.part_count.Goals as goal

pub returns-in-Plain-clause-count : goal.returns-in-Plain-clause-count
returns-in-Plain-clause-count c =
    sym (ap part_count (lay_is c.args.types.now c.get.ensures.sound c.args.ty _ (c.get.ensures.ty ∙ ap (λ x. Some x) c.in-Plain.is)))

pub returns-in-Vector-clause-count : goal.returns-in-Vector-clause-count
returns-in-Vector-clause-count c =
    c.from.ensures ∙ sym (ap part_count (lay_is c.args.types.now c.get.ensures.sound c.args.ty _ (c.get.ensures.ty ∙ ap (λ x. Some x) c.in-Vector.is)))

pub returns-in-Array-clause-count : goal.returns-in-Array-clause-count
returns-in-Array-clause-count c =
    sym (ap part_count (lay_is c.args.types.now c.get.ensures.sound c.args.ty _ (c.get.ensures.ty ∙ ap (λ x. Some x) c.in-Array.is)))

pub returns-in-RuntimeArray-clause-count : goal.returns-in-RuntimeArray-clause-count
returns-in-RuntimeArray-clause-count c =
    sym (ap part_count (lay_is c.args.types.now c.get.ensures.sound c.args.ty _ (c.get.ensures.ty ∙ ap (λ x. Some x) c.in-RuntimeArray.is)))

pub returns-in-Atomic-clause-count : goal.returns-in-Atomic-clause-count
returns-in-Atomic-clause-count c =
    sym (ap part_count (lay_is c.args.types.now c.get.ensures.sound c.args.ty _ (c.get.ensures.ty ∙ ap (λ x. Some x) c.in-Atomic.is)))

pub member_count-requires : goal.member_count-requires
member_count-requires c = (c.get.ensures.sound.over c.args.ty.0 (Struct c.in-Struct.number) (c.get.ensures.ty ∙ ap (λ x. Some x) c.in-Struct.is)).0

pub returns-in-Struct-clause-count : goal.returns-in-Struct-clause-count
returns-in-Struct-clause-count c =
    let t = c.args.types.now in
    c.member_count.ensures
    ∙ (sym (count_members (shapes t) (members_at t.structs c.in-Struct.number) 0)
    ∙ sym (ap part_count (struct_lay t c.get.ensures.sound c.args.ty c.in-Struct.number (c.get.ensures.ty ∙ ap (λ x. Some x) c.in-Struct.is))))

pub returns-in-Exchanged-clause-count : goal.returns-in-Exchanged-clause-count
returns-in-Exchanged-clause-count c =
    sym (ap part_count (lay_is c.args.types.now c.get.ensures.sound c.args.ty _ (c.get.ensures.ty ∙ ap (λ x. Some x) c.in-Exchanged.is)))

pub returns-in-Pointer-clause-count : goal.returns-in-Pointer-clause-count
returns-in-Pointer-clause-count c =
    sym (ap part_count (lay_is c.args.types.now c.get.ensures.sound c.args.ty _ (c.get.ensures.ty ∙ ap (λ x. Some x) c.in-Pointer.is)))
