use Rattle.std.proofs.Common.{◌≡◌, ◌<◌, length, refl, sym, subst, get_or}
use Rattle.std.specs.Prelude.{slice_index}
use Rattle.shade_values.specs.Apply.{Apply}
use Rattle.shade_values.specs.Parts.{part_at}
use Rattle.shade_values.specs.declared.op.Op.TheVariants.{Member}
use Rattle.shade_words.specs.declared.span.WordSpan.{WordSpan}
use Rattle.shade_words.specs.Types.{lay}
use Rattle.shade_words.specs.Ways.{part_lay, part_count}
use Rattle.shade_words.specs.Spans.{value_of, values_of}
use Rattle.shade_words.specs.Written.{Written}
use Rattle.shade_words.proofs.TakeLaws.{member_takes}
use Rattle.shade_words.proofs.apply.copy_member.Goals as goal

pub copy_part-requires-clause-part : goal.copy_part-requires-clause-part
copy_part-requires-clause-part c =
    let t = c.args.types.now in
    let d : WordSpan = record { first = 0; count = 0; ty = record { 0 = 0 } } in
    let one = member_takes t c.requires.sound c.args.number c.args.args.now (length c.args.words.now) c.args.place c.requires.can in
    subst (λ args. c.args.number < part_count (lay t (get_or args 0 d).ty)) (sym one.is) one.part.there

pub copy_part-requires-clause-same : goal.copy_part-requires-clause-same
copy_part-requires-clause-same c =
    let t = c.args.types.now in
    let d : WordSpan = record { first = 0; count = 0; ty = record { 0 = 0 } } in
    let one = member_takes t c.requires.sound c.args.number c.args.args.now (length c.args.words.now) c.args.place c.requires.can in
    subst (λ args. lay t c.args.place.ty ≡ part_lay (lay t (get_or args 0 d).ty) c.args.number) (sym one.is) one.part.same

pub returns-clause-written : goal.returns-clause-written
returns-clause-written c =
    let t = c.args.types.now in
    let w = slice_index c.args.words.now in
    let d : WordSpan = record { first = 0; count = 0; ty = record { 0 = 0 } } in
    let one = member_takes t c.requires.sound c.args.number c.args.args.now (length c.args.words.now) c.args.place c.requires.can in
    let told : part_at (value_of t w (get_or c.args.args.now 0 d)) c.args.number ≡ Apply (Member c.args.number) (values_of t w c.args.args.now) =
    subst (λ args. part_at (value_of t w (get_or args 0 d)) c.args.number ≡ Apply (Member c.args.number) (values_of t w args)) (sym one.is) refl in
    subst (λ v. Written (lay t c.args.place.ty) v c.args.words.now c.copy_part.new.words c.args.place.first) told c.copy_part.ensures.written
