use Rattle.std.proofs.Common.{◌≡◌, ◌<◌, false, length, sym, ap, ◌∙◌, arith}
use Rattle.std.specs.Prelude.{slice_index}
use Rattle.shade_values.specs.Apply.{is_true}
use Rattle.shade_values.specs.Parts.{lane, leaves_of}
use Rattle.shade_words.specs.Spans.{value_of}
use Rattle.shade_words.proofs.PartLaws.{leaves_count, leaf_there, all_pass, one_fails}
use Rattle.shade_words.proofs.sums.all_true.Goals as goal

pub returns-then-not-part_is_true : goal.returns-then-not-part_is_true
returns-then-not-part_is_true c =
    let v = value_of c.args.types.now (slice_index c.args.words.now) c.args.span in
    let long : length (leaves_of v) ≡ c.word_count-k-end.result =
    leaves_count c.args.types.now c.word_count-k-end.ensures.sound c.args.span.ty c.requires.placed.known c.requires.formed (slice_index c.args.words.now) c.args.span.first ∙ sym c.word_count-k-end.ensures.count in
    let within : c.parts.k < length (leaves_of v) = omega (arith, long, c.parts-test.true) in
    let fails : is_true (lane c.parts.k v) ≡ false = sym c.part_is_true.ensures ∙ c.if-not-part_is_true.true in
    one_fails is_true (leaves_of v) c.parts.k within (ap is_true (leaf_there v c.parts.k within) ∙ fails)

pub returns : goal.returns
returns c =
    let v = value_of c.args.types.now (slice_index c.args.words.now) c.args.span in
    let long : length (leaves_of v) ≡ c.word_count-k-end.result =
    leaves_count c.args.types.now c.word_count-k-end.ensures.sound c.args.span.ty c.requires.placed.known c.requires.formed (slice_index c.args.words.now) c.args.span.first ∙ sym c.word_count-k-end.ensures.count in
    all_pass is_true (leaves_of v) (λ j lt. ap is_true (leaf_there v j lt) ∙ c.parts.invariant j (omega (arith, lt, long, c.parts-test.false)))
