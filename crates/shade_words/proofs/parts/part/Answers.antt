use Rattle.std.proofs.Common.{Some, subst, ◌∙◌, ap, arith}
use Rattle.std.specs.Prelude.{slice_index}
use Rattle.shade_words.specs.Forms.{IsFormed}
use Rattle.shade_words.proofs.PartLaws.{plain_size, plain_part, vector_size, vector_part, vector_past, not_formed}
use Rattle.shade_words.proofs.PlaceLaws.{type_is}
use Rattle.shade_words.proofs.parts.part.Goals as goal

pub bounds-words-span : goal.bounds-words-span
bounds-words-span c =
    omega (arith, c.requires.placed.sized, c.requires.placed.within, plain_size c.args.types.now c.get.ensures.sound c.args.span.ty c.in-Plain.scalar (c.get.ensures.ty ∙ ap (λ x. Some x) c.in-Plain.is))

pub bounds-words-span-then-k-from : goal.bounds-words-span-then-k-from
bounds-words-span-then-k-from c =
    omega (arith, c.requires.placed.sized, c.requires.placed.within, c.from.ensures, c.if-k-from.true, vector_size c.args.types.now c.get.ensures.sound c.args.span.ty c.in-Vector.scalar c.in-Vector.count (c.get.ensures.ty ∙ ap (λ x. Some x) c.in-Vector.is))

pub returns-in-Plain : goal.returns-in-Plain
returns-in-Plain c =
    c.leaf_of.ensures ∙ plain_part c.args.types.now c.get.ensures.sound c.args.span.ty c.in-Plain.scalar (c.get.ensures.ty ∙ ap (λ x. Some x) c.in-Plain.is) (slice_index c.args.words.now) c.args.span.first c.args.k

pub returns-then-k-from : goal.returns-then-k-from
returns-then-k-from c =
    c.leaf_of-then-k-from.ensures
    ∙ vector_part c.args.types.now c.get.ensures.sound c.args.span.ty c.in-Vector.scalar c.in-Vector.count (c.get.ensures.ty ∙ ap (λ x. Some x) c.in-Vector.is) (slice_index c.args.words.now) c.args.span.first c.args.k
    (omega (arith, c.from.ensures, c.if-k-from.true))

pub returns-else-k-from : goal.returns-else-k-from
returns-else-k-from c =
    vector_past c.args.types.now c.get.ensures.sound c.args.span.ty c.in-Vector.scalar c.in-Vector.count (c.get.ensures.ty ∙ ap (λ x. Some x) c.in-Vector.is) (slice_index c.args.words.now) c.args.span.first c.args.k
    (omega (arith, c.from.ensures, c.if-k-from.false))

pub returns-in_default : goal.returns-in_default
returns-in_default c =
    absurd (not_formed c.get.result.now (subst IsFormed (type_is c.args.types.now c.args.span.ty c.get.result.now c.get.ensures.ty) c.requires.formed) c.in_default.not-Plain c.in_default.not-Vector)
