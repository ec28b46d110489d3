use Rattle.std.proofs.Common.{◌≡◌, ◌+◌, get_or, refl, subst, arith}
use Rattle.shade_words.specs.Lays.{size}
use Rattle.shade_words.specs.Types.{lay}
use Rattle.shade_words.proofs.MoveLaws.{Bringing, brought_put, brought_fit}
use Rattle.shade_words.proofs.TypeLaws.{lay_lies}
use Rattle.shade_words.proofs.moves.put_value.Goals as goal

pub returns-clause-put : goal.returns-clause-put
returns-clause-put c =
    let l = lay c.args.types.now c.args.ty in
    let done : c.words.i ≡ size l = omega (arith, c.words-test.false, c.words.auto.i-end, c.word_count-count.ensures.count) in
    brought_put l (lay_lies c.args.types.now c.word_count-count.ensures.sound c.args.ty).lies (λ j. get_or c.args.from.now j 0) c.args.first (λ j. get_or c.args.words.now (c.args.to + j) 0) c.args.words.now c.words.words c.args.to
    (subst (Bringing l (λ j. get_or c.args.from.now (c.args.first + j) 0) (λ j. get_or c.args.words.now (c.args.to + j) 0) c.args.words.now c.words.words c.args.to) done c.words.invariant.bringing) (λ i. refl)

pub returns-clause-fit : goal.returns-clause-fit
returns-clause-fit c =
    let l = lay c.args.types.now c.args.ty in
    let done : c.words.i ≡ size l = omega (arith, c.words-test.false, c.words.auto.i-end, c.word_count-count.ensures.count) in
    brought_fit l (lay_lies c.args.types.now c.word_count-count.ensures.sound c.args.ty).lies (λ j. get_or c.args.from.now j 0) c.args.first (λ j. get_or c.args.words.now (c.args.to + j) 0) c.args.words.now c.words.words c.args.to
    (subst (Bringing l (λ j. get_or c.args.from.now (c.args.first + j) 0) (λ j. get_or c.args.words.now (c.args.to + j) 0) c.args.words.now c.words.words c.args.to) done c.words.invariant.bringing)
