use Rattle.std.proofs.Common.{◌≡◌, ◌<◌, true, length, sym, ap, ◌∙◌, arith}
use Rattle.std.specs.Prelude.{slice_index}
use Rattle.shade_values.specs.Apply.{is_true}
use Rattle.shade_values.specs.Parts.{lane, leaves_of}
use Rattle.shade_words.specs.Spans.{value_of}
use Rattle.shade_words.proofs.PartLaws.{leaves_count, leaf_there, all_fail, one_passes}
use Rattle.shade_words.proofs.sums.any_true.Goals as goal

pub returns-then-part_is_true : goal.returns-then-part_is_true
returns-then-part_is_true c =
    let v = value_of c.args.types.now (slice_index c.args.words.now) c.args.span in
    let long : length (leaves_of v) ≡ c.word_count-k-end.result =
    leaves_count c.args.types.now c.word_count-k-end.ensures.sound c.args.span.ty c.requires.placed.known c.requires.formed (slice_index c.args.words.now) c.args.span.first ∙ sym c.word_count-k-end.ensures.count in
    let within : c.parts.k < length (leaves_of v) = omega (arith, long, c.parts-test.true) in
    let passes : is_true (lane c.parts.k v) ≡ true = sym c.part_is_true.ensures ∙ c.if-part_is_true.true in
    one_passes is_true (leaves_of v) c.parts.k within (ap is_true (leaf_there v c.parts.k within) ∙ passes)

pub returns : goal.returns
returns c =
    let v = value_of c.args.types.now (slice_index c.args.words.now) c.args.span in
    let long : length (leaves_of v) ≡ c.word_count-k-end.result =
    leaves_count c.args.types.now c.word_count-k-end.ensures.sound c.args.span.ty c.requires.placed.known c.requires.formed (slice_index c.args.words.now) c.args.span.first ∙ sym c.word_count-k-end.ensures.count in
    all_fail is_true (leaves_of v) (λ j lt. ap is_true (leaf_there v j lt) ∙ c.parts.invariant j (omega (arith, lt, long, c.parts-test.false)))
