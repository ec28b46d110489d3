use Rattle.std.proofs.Common.{◌≡◌, ◌+◌, ◌≤◌, ◌⊎◌, inl, inr, sym, ap, subst, ◌∙◌, arith}
use Rattle.std.specs.Prelude.{slice_index}
use Rattle.shade_values.specs.Parts.{part_at}
use Rattle.shade_words.specs.Lays.{size, decode, AreFit}
use Rattle.shade_words.specs.Types.{lay}
use Rattle.shade_words.specs.Ways.{part_lay}
use Rattle.shade_words.specs.Spans.{value_of}
use Rattle.shade_words.specs.Written.{Written}
use Rattle.shade_words.proofs.Layouts.{part_ends, part_is, part_fit}
use Rattle.shade_words.proofs.TypeLaws.{lay_lies}
use Rattle.shade_words.proofs.apply.copy_part.Goals as goal

pub overflow_add-from : goal.overflow_add-from
overflow_add-from c =
    let l = lay c.args.types.now c.args.base.ty in
    omega (arith, c.requires.base.sized, c.requires.base.within, c.part_offset.ensures.offset, part_ends l c.args.k (lay_lies c.args.types.now c.part_offset.ensures.sound c.args.base.ty).lies c.requires.part)

pub copy_value-requires-clause-from : goal.copy_value-requires-clause-from
copy_value-requires-clause-from c =
    let l = lay c.args.types.now c.args.base.ty in
    omega (arith, c.requires.base.sized, c.requires.base.within, c.part_offset.ensures.offset, ap size c.requires.same, part_ends l c.args.k (lay_lies c.args.types.now c.part_offset.ensures.sound c.args.base.ty).lies c.requires.part)

pub copy_value-requires-clause-apart : goal.copy_value-requires-clause-apart
copy_value-requires-clause-apart c =
    let l = lay c.args.types.now c.args.base.ty in
    let part = lay c.args.types.now c.args.place.ty in
    let ends = part_ends l c.args.k (lay_lies c.args.types.now c.part_offset.ensures.sound c.args.base.ty).lies c.requires.part in
    let same = ap size c.requires.same in
    elim c.requires.apart as (λ _. (c.args.base.first + c.part_offset.result + size part ≤ c.args.place.first) ⊎ (c.args.place.first + size part ≤ c.args.base.first + c.part_offset.result)) [
      | inl h ↦ inl (omega (arith, h, ends, same, c.requires.base.sized, c.part_offset.ensures.offset))
      | inr h ↦ inr (omega (arith, h, ends, same, c.requires.place.sized, c.part_offset.ensures.offset))
    ]

pub returns-clause-written : goal.returns-clause-written
returns-clause-written c =
    let l = lay c.args.types.now c.args.base.ty in
    let w = slice_index c.args.words.now in
    let told : decode (lay c.args.types.now c.args.place.ty) w (c.args.base.first + c.part_offset.result) ≡ part_at (value_of c.args.types.now w c.args.base) c.args.k =
    ap (λ x. decode x w (c.args.base.first + c.part_offset.result)) c.requires.same
    ∙ (ap (λ o. decode (part_lay l c.args.k) w (c.args.base.first + o)) c.part_offset.ensures.offset ∙ sym (part_is l w c.args.base.first c.args.k c.requires.part)) in
    subst (λ v. Written (lay c.args.types.now c.args.place.ty) v c.args.words.now c.copy_value.new.words c.args.place.first) told c.copy_value.ensures.written

pub returns-clause-fit : goal.returns-clause-fit
returns-clause-fit c h =
    let l = lay c.args.types.now c.args.base.ty in
    let w = slice_index c.args.words.now in
    c.copy_value.ensures.fit
    (subst (λ x. AreFit x w (c.args.base.first + c.part_offset.result)) (sym c.requires.same)
    (subst (λ o. AreFit (part_lay l c.args.k) w (c.args.base.first + o)) (sym c.part_offset.ensures.offset) (part_fit l w c.args.base.first c.args.k c.requires.part h)))
