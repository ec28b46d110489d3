use Rattle.std.proofs.Common.{ℕ, ◌≡◌, ◌+◌, ◌<◌, ◌≤◌, ◌⊎◌, length, sym, ap, subst, ◌∙◌, arith, rules, get_or, FitsSigned, w64}
use Rattle.std.proofs.lemmas.Int.{to_z-of_z}
use Rattle.shade_values.specs.Numbers.{word}
use Rattle.std.specs.Prelude.{slice_index}
use Rattle.shade_words.specs.Forms.{part_leaf}
use Rattle.shade_words.specs.Lays.{size, word_of}
use Rattle.shade_words.specs.Types.{lay}
use Rattle.shade_words.specs.Spans.{AreRead, values_of}
use Rattle.shade_words.proofs.RowLaws.{Parting, are_read, values_kept, parting_more, leaves_written, leaves_fit}
use Rattle.shade_words.proofs.leaves.write_leaves.Goals as goal

pub part_leaf-part-requires-clause-args : goal.part_leaf-part-requires-clause-args
part_leaf-part-requires-clause-args c =
    subst (λ n. AreRead c.args.types.now n c.args.args.now) (sym c.parts.invariant.same_length)
    (are_read c.args.types.now c.word_count-count.ensures.sound c.args.op c.args.args.now (length c.args.words.now) c.args.place c.requires.can c.requires.leafwise c.four_letters.ensures)

pub parts-preserved : goal.parts-preserved
parts-preserved c =
    let t = c.args.types.now in
    let fits : FitsSigned w64 c.part_leaf-part.result.number = search rules in
    let count : size (lay t c.args.place.ty) ≡ c.args.place.count = sym c.requires.can.place.sized in
    let kept : values_of t (slice_index c.parts.words) c.args.args.now ≡ values_of t (slice_index c.args.words.now) c.args.args.now =
    values_kept t c.word_count-count.ensures.sound (length c.args.words.now) c.args.args.now c.args.place c.args.words.now c.parts.words c.requires.can.spans c.requires.can.apart
    (subst (λ n. (j : ℕ) → (j < c.args.place.first) ⊎ (c.args.place.first + n ≤ j) → get_or c.parts.words j 0 ≡ get_or c.args.words.now j 0) count c.parts.invariant.parting.others) in
    record {
      parting = parting_more c.args.op (values_of t (slice_index c.args.words.now) c.args.args.now) c.args.words.now c.parts.words c.args.place.first (size (lay t c.args.place.ty)) c.parts.k c.word.result
          c.parts.invariant.parting (omega (arith, c.parts-test.true, c.word_count-count.ensures.count)) c.parts.invariant.same_length (omega (arith, count, c.requires.can.place.within))
          (c.word.ensures ∙ (ap word (to_z-of_z w64 c.part_leaf-part.result.number fits) ∙ ap word_of (c.part_leaf-part.ensures ∙ ap (λ vs. part_leaf c.args.op vs c.parts.k) kept)));
      same_length = search rules;
    }

pub returns-clause-written : goal.returns-clause-written
returns-clause-written c =
    let t = c.args.types.now in
    let done : c.parts.k ≡ size (lay t c.args.place.ty) = omega (arith, c.parts-test.false, c.parts.auto.k-end, c.word_count-count.ensures.count) in
    leaves_written t c.word_count-count.ensures.sound c.args.op c.args.args.now c.args.place c.args.words.now c.parts.words c.requires.can c.requires.leafwise c.four_letters.ensures
    (subst (Parting c.args.op (values_of t (slice_index c.args.words.now) c.args.args.now) c.args.words.now c.parts.words c.args.place.first (size (lay t c.args.place.ty))) done c.parts.invariant.parting)

pub returns-clause-fit : goal.returns-clause-fit
returns-clause-fit c =
    let t = c.args.types.now in
    let done : c.parts.k ≡ size (lay t c.args.place.ty) = omega (arith, c.parts-test.false, c.parts.auto.k-end, c.word_count-count.ensures.count) in
    leaves_fit t c.word_count-count.ensures.sound c.args.op c.args.args.now c.args.place c.args.words.now c.parts.words c.requires.can c.requires.leafwise c.four_letters.ensures
    (subst (Parting c.args.op (values_of t (slice_index c.args.words.now) c.args.args.now) c.args.words.now c.parts.words c.args.place.first (size (lay t c.args.place.ty))) done c.parts.invariant.parting)
