use Rattle.std.proofs.Common.{◌≡◌, length, sym, ap, subst, ◌∙◌, get_or}
use Rattle.std.specs.Prelude.{slice_index}
use Rattle.shade_values.specs.Apply.{Apply}
use Rattle.shade_values.specs.Numbers.{nearest}
use Rattle.shade_values.specs.Parts.{part_at, lane}
use Rattle.shade_values.specs.declared.op.Op.TheVariants.{Index}
use Rattle.shade_words.specs.declared.span.WordSpan.{WordSpan}
use Rattle.shade_words.specs.Types.{lay}
use Rattle.shade_words.specs.Ways.{part_lay, part_count}
use Rattle.shade_words.specs.Spans.{value_of, values_of}
use Rattle.shade_words.specs.Written.{Written}
use Rattle.shade_words.proofs.TakeLaws.{index_takes, element_told}
use Rattle.shade_words.proofs.apply.copy_element.Goals as goal

pub copy_part-requires-clause-same : goal.copy_part-requires-clause-same
copy_part-requires-clause-same c =
    let t = c.args.types.now in
    let d : WordSpan = record { first = 0; count = 0; ty = record { 0 = 0 } } in
    let two = index_takes t c.element_count-count.ensures.sound c.args.args.now (length c.args.words.now) c.args.place c.requires in
    subst (λ args. lay t c.args.place.ty ≡ part_lay (lay t (get_or args 0 d).ty) c.clamp-k.result) (sym two.is) (two.same c.clamp-k.result)

pub returns-clause-written : goal.returns-clause-written
returns-clause-written c =
    let t = c.args.types.now in
    let w = slice_index c.args.words.now in
    let d : WordSpan = record { first = 0; count = 0; ty = record { 0 = 0 } } in
    let two = index_takes t c.element_count-count.ensures.sound c.args.args.now (length c.args.words.now) c.args.place c.requires in
    let k : c.clamp-k.result ≡ nearest (lane 0 (value_of t w (get_or c.args.args.now 1 d))).number (part_count (lay t (get_or c.args.args.now 0 d).ty)) =
    c.clamp-k.ensures ∙ (ap (λ l. nearest l.number c.element_count-count.result) c.part.ensures ∙ ap (nearest (lane 0 (value_of t w (get_or c.args.args.now 1 d))).number) c.element_count-count.ensures.count) in
    let told : part_at (value_of t w (get_or c.args.args.now 0 d)) c.clamp-k.result ≡ Apply Index (values_of t w c.args.args.now) = element_told t w c.args.args.now c.args.place two d c.clamp-k.result k in
    subst (λ v. Written (lay t c.args.place.ty) v c.args.words.now c.copy_part.new.words c.args.place.first) told c.copy_part.ensures.written
