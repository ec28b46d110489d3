use Rattle.std.proofs.Common.{◌≡◌, length, sym, ◌∙◌, arith, get_or}
use Rattle.std.specs.Prelude.{slice_index}
use Rattle.shade_values.specs.Parts.{leaves_of}
use Rattle.shade_words.specs.declared.span.WordSpan.{WordSpan}
use Rattle.shade_words.specs.Spans.{value_of}
use Rattle.shade_words.proofs.PartLaws.{leaves_count, leaf_here, leaf_later, leaf_past}
use Rattle.shade_words.proofs.vectors.leaf_among.Goals as goal

pub returns-then-left-count : goal.returns-then-left-count
returns-then-left-count c =
    let t = c.args.types.now in
    let d : WordSpan = record { first = 0; count = 0; ty = record { 0 = 0 } } in
    let a = get_or c.args.args.now c.spans.arg-index d in
    let v = value_of t (slice_index c.args.words.now) a in
    let long : length (leaves_of v) ≡ c.word_count-count.result =
    leaves_count t c.word_count-count.ensures.sound a.ty (c.requires.placed c.spans.arg-index d c.spans-test.true).known (c.requires.formed c.spans.arg-index d c.spans-test.true) (slice_index c.args.words.now) a.first ∙ sym c.word_count-count.ensures.count in
    c.part.ensures
    ∙ (sym (leaf_here t (slice_index c.args.words.now) c.args.args.now c.spans.arg-index d c.spans-test.true c.spans.left (omega (arith, long, c.if-left-count.true))) ∙ c.spans.invariant)

pub spans-preserved : goal.spans-preserved
spans-preserved c =
    let t = c.args.types.now in
    let d : WordSpan = record { first = 0; count = 0; ty = record { 0 = 0 } } in
    let a = get_or c.args.args.now c.spans.arg-index d in
    let v = value_of t (slice_index c.args.words.now) a in
    let long : length (leaves_of v) ≡ c.word_count-count.result =
    leaves_count t c.word_count-count.ensures.sound a.ty (c.requires.placed c.spans.arg-index d c.spans-test.true).known (c.requires.formed c.spans.arg-index d c.spans-test.true) (slice_index c.args.words.now) a.first ∙ sym c.word_count-count.ensures.count in
    leaf_later t (slice_index c.args.words.now) c.args.args.now c.spans.arg-index d c.spans-test.true c.spans.left c.word_count-count.result long (omega (arith, c.if-left-count.false)) ∙ c.spans.invariant

pub returns : goal.returns
returns c = leaf_past c.args.types.now (slice_index c.args.words.now) c.args.args.now c.spans.arg-index c.spans.left c.spans-test.false ∙ c.spans.invariant
