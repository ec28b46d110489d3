use Rattle.std.proofs.Common.{Some, sym, ap, subst, ◌∙◌, arith}
use Rattle.shade_values.specs.declared.types.ShadeType.TheVariants.{Vector, Array}
use Rattle.shade_words.specs.Types.{HasElements}
use Rattle.shade_words.specs.Ways.{part_count}
use Rattle.shade_words.proofs.PlaceLaws.{type_is, no_elements}
use Rattle.shade_words.proofs.TypeLaws.{lay_is}
use Rattle.shade_words.proofs.places.element_count.Goals as goal

pub returns-in-Vector-clause-count : goal.returns-in-Vector-clause-count
returns-in-Vector-clause-count c =
    c.from.ensures ∙ sym (ap part_count (lay_is c.args.types.now c.get.ensures.sound c.args.ty _ (c.get.ensures.ty ∙ ap (λ x. Some x) c.in-Vector.is)))

pub returns-in-Vector-clause-some : goal.returns-in-Vector-clause-some
returns-in-Vector-clause-some c =
    let over = c.get.ensures.sound.over c.args.ty.0 (Vector c.in-Vector.count c.in-Vector.field-1) (c.get.ensures.ty ∙ ap (λ x. Some x) c.in-Vector.is) in
    omega (arith, c.from.ensures, over.0)

pub returns-in-Array-clause-count : goal.returns-in-Array-clause-count
returns-in-Array-clause-count c =
    sym (ap part_count (lay_is c.args.types.now c.get.ensures.sound c.args.ty _ (c.get.ensures.ty ∙ ap (λ x. Some x) c.in-Array.is)))

pub returns-in-Array-clause-some : goal.returns-in-Array-clause-some
returns-in-Array-clause-some c =
    let over = c.get.ensures.sound.over c.args.ty.0 (Array c.in-Array.field-0 c.in-Array.count) (c.get.ensures.ty ∙ ap (λ x. Some x) c.in-Array.is) in
    over.1

pub returns-in_default : goal.returns-in_default
returns-in_default c =
    absurd (no_elements c.get.result.now (subst HasElements (type_is c.args.types.now c.args.ty c.get.result.now c.get.ensures.ty) c.requires.elements) c.in_default.not-Vector c.in_default.not-Array)
