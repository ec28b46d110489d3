use Rattle.std.proofs.Common.{◌≡◌, subst, arith}
use Rattle.shade_words.specs.Lays.{size}
use Rattle.shade_words.specs.Types.{lay}
use Rattle.shade_words.proofs.CopyLaws.{Moving, moved, moved_fit}
use Rattle.shade_words.proofs.TypeLaws.{lay_lies}
use Rattle.shade_words.proofs.copies.copy_value.Goals as goal

pub returns-clause-written : goal.returns-clause-written
returns-clause-written c =
    let l = lay c.args.types.now c.args.ty in
    let done : c.words.i ≡ size l = omega (arith, c.words-test.false, c.words.auto.i-end, c.word_count-count.ensures.count) in
    moved l c.args.words.now c.words.words c.args.from c.args.to (lay_lies c.args.types.now c.word_count-count.ensures.sound c.args.ty).lies
    (subst (Moving l c.args.words.now c.words.words c.args.from c.args.to) done c.words.invariant.moving)

pub returns-clause-fit : goal.returns-clause-fit
returns-clause-fit c =
    let l = lay c.args.types.now c.args.ty in
    let done : c.words.i ≡ size l = omega (arith, c.words-test.false, c.words.auto.i-end, c.word_count-count.ensures.count) in
    moved_fit l c.args.words.now c.words.words c.args.from c.args.to (lay_lies c.args.types.now c.word_count-count.ensures.sound c.args.ty).lies
    (subst (Moving l c.args.words.now c.words.words c.args.from c.args.to) done c.words.invariant.moving)
