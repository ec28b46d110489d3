use Rattle.std.proofs.Common.{◌≡◌, length, arith, rules}
use Rattle.std.specs.Prelude.{slice_index}
use Rattle.shade_words.specs.declared.span.WordSpan.{WordSpan}
use Rattle.shade_words.specs.Types.{lay}
use Rattle.shade_words.proofs.Layouts.{fit_parts}
use Rattle.shade_words.proofs.MakeLaws.{part_within, part_apart, make_more, make_fit, made}
use Rattle.shade_words.proofs.apply.make.Goals as goal

pub overflow_add-to : goal.overflow_add-to
overflow_add-to c =
    let d : WordSpan = record { first = 0; count = 0; ty = record { 0 = 0 } } in
    omega (arith, c.requires.place.within, c.part_offset.ensures.offset, part_within c.args.types.now c.word_count-count.ensures.sound c.args.args.now (length c.args.words.now) c.args.place c.requires c.parts.k d c.parts-test.true)

pub copy_value-requires-clause-to : goal.copy_value-requires-clause-to
copy_value-requires-clause-to c =
    let d : WordSpan = record { first = 0; count = 0; ty = record { 0 = 0 } } in
    omega (arith, c.requires.place.within, c.parts.invariant.same_length, c.part_offset.ensures.offset, part_within c.args.types.now c.word_count-count.ensures.sound c.args.args.now (length c.args.words.now) c.args.place c.requires c.parts.k d c.parts-test.true)

pub copy_value-requires-clause-apart : goal.copy_value-requires-clause-apart
copy_value-requires-clause-apart c =
    let d : WordSpan = record { first = 0; count = 0; ty = record { 0 = 0 } } in
    part_apart c.args.types.now c.word_count-count.ensures.sound c.args.args.now (length c.args.words.now) c.args.place c.requires c.parts.k d c.parts-test.true c.part_offset.result c.part_offset.ensures.offset

pub parts-preserved : goal.parts-preserved
parts-preserved c =
    let d : WordSpan = record { first = 0; count = 0; ty = record { 0 = 0 } } in
    record {
      filled = make_more c.args.types.now c.word_count-count.ensures.sound c.args.args.now (length c.args.words.now) c.args.place c.requires c.parts.k d c.parts-test.true
          c.args.words.now c.parts.words c.copy_value.new.words c.part_offset.result c.part_offset.ensures.offset c.parts.invariant.filled c.copy_value.ensures.written;
      fit = λ all. make_fit c.args.types.now c.word_count-count.ensures.sound c.args.args.now (length c.args.words.now) c.args.place c.requires c.parts.k d c.parts-test.true
          c.args.words.now c.parts.words c.copy_value.new.words c.part_offset.result c.part_offset.ensures.offset c.parts.invariant.filled c.copy_value.ensures.written
          c.copy_value.ensures.fit (c.parts.invariant.fit all) all;
      same_length = search rules;
    }

pub returns-clause-written : goal.returns-clause-written
returns-clause-written c =
    let done : c.parts.k ≡ length c.args.args.now = omega (arith, c.parts-test.false, c.parts.auto.k-end) in
    made c.args.types.now c.args.args.now (length c.args.words.now) c.args.place c.requires c.args.words.now c.parts.words c.parts.k done c.parts.invariant.filled

pub returns-clause-fit : goal.returns-clause-fit
returns-clause-fit c all =
    let done : c.parts.k ≡ length c.args.args.now = omega (arith, c.parts-test.false, c.parts.auto.k-end) in
    fit_parts (lay c.args.types.now c.args.place.ty) (slice_index c.parts.words) c.args.place.first c.requires.composite
    (λ i lt. c.parts.invariant.fit all i (omega (arith, lt, done, c.requires.count)))
