use borrow.Author.Rules.{rules, get_or_read}
use Rattle.std.proofs.Common.{◌≡◌, ◌+◌, ◌<◌, ◌≤◌, length, sym, ap, subst, ◌∙◌, arith, set, FitsSigned, w64}
use Rattle.std.specs.Prelude.{slice_index}
use Rattle.std.proofs.lemmas.Int.{to_z-of_z}
use Rattle.shade_values.specs.Numbers.{word}
use Rattle.shade_values.specs.Shape.{shape_of}
use Rattle.shade_values.specs.Typed.{IsValueOf}
use Rattle.shade_values.specs.declared.value.Value.TheFolds
use Rattle.shade_values.specs.declared.value.Value.TheVariants as value
use Rattle.shade_words.specs.Lays.{size, AreFit, IsConcrete}
use Rattle.shade_words.specs.PartShapes.{part_shape}
use Rattle.shade_words.specs.Types.{lay, lay_of}
use Rattle.shade_words.specs.Ways.{part_offset, part_count}
use Rattle.shade_words.specs.Written.{Written}
use Rattle.shade_words.proofs.CopyLaws.{Filled, filled}
use Rattle.shade_words.proofs.Layouts.{fit_parts}
use Rattle.shade_words.proofs.ValueLaws.{one_typed, one_written, one_fit, parts_typed, part_has, part_is_concrete, part_fits, as_part, as_part_fit, one_more, one_more_fit, item_there}
use Rattle.shade_words.proofs.values.+values.Goals as goal

-- ---- one part

pub write_part-overflow_add-to : goal.write_part-overflow_add-to
write_part-overflow_add-to t c =
    omega (arith, c.requires.within, c.part_offset.ensures.offset, part_fits c.args.types.now c.part_offset.ensures.sound c.args.ty c.args.k c.requires.part)

pub write_part-bounds-words-to : goal.write_part-bounds-words-to
write_part-bounds-words-to t c =
    let s = part_shape (shape_of c.args.types.now c.args.ty) c.args.k in
    let one = one_typed s c.in-One.leaf (subst (IsValueOf s) c.in-One.is c.requires.typed) in
    omega (arith, c.requires.within, c.part_offset.ensures.offset, part_fits c.args.types.now c.part_offset.ensures.sound c.args.ty c.args.k c.requires.part, ap size one.lies)

pub write_part-offset_bounds-words-to : goal.write_part-offset_bounds-words-to
write_part-offset_bounds-words-to t c =
    let s = part_shape (shape_of c.args.types.now c.args.ty) c.args.k in
    let one = one_typed s c.in-One.leaf (subst (IsValueOf s) c.in-One.is c.requires.typed) in
    let there : c.args.first + c.part_offset.result < length c.args.words.now =
    omega (arith, c.requires.within, c.part_offset.ensures.offset, part_fits c.args.types.now c.part_offset.ensures.sound c.args.ty c.args.k c.requires.part, ap size one.lies) in
    search (rules, arith, there)

pub write_part-returns-in-One-clause-written : goal.write_part-returns-in-One-clause-written
write_part-returns-in-One-clause-written t c =
    let s = part_shape (shape_of c.args.types.now c.args.ty) c.args.k in
    let fits : FitsSigned w64 c.in-One.leaf.number = search rules in
    let at = c.args.first + c.part_offset.result in
    let inside : at + size (lay_of s) ≤ length c.args.words.now =
    omega (arith, c.requires.within, c.part_offset.ensures.offset, part_fits c.args.types.now c.part_offset.ensures.sound c.args.ty c.args.k c.requires.part) in
    as_part c.args.types.now c.part_offset.ensures.sound c.args.ty c.args.k c.requires.part (value.One c.in-One.leaf) c.args.value.now c.args.words.now (set c.args.words.now at c.word.result) c.args.first c.part_offset.result
    (one_written s c.in-One.leaf (subst (IsValueOf s) c.in-One.is c.requires.typed) c.args.words.now at c.word.result (c.word.ensures ∙ ap word (to_z-of_z w64 c.in-One.leaf.number fits)) inside
    (part_is_concrete c.args.types.now c.part_offset.ensures.sound c.args.ty c.args.k c.requires.part c.requires.concrete))
    c.in-One.is c.part_offset.ensures.offset

pub write_part-returns-in-One-clause-fit : goal.write_part-returns-in-One-clause-fit
write_part-returns-in-One-clause-fit t c =
    let s = part_shape (shape_of c.args.types.now c.args.ty) c.args.k in
    let fits : FitsSigned w64 c.in-One.leaf.number = search rules in
    let at = c.args.first + c.part_offset.result in
    let inside : at + size (lay_of s) ≤ length c.args.words.now =
    omega (arith, c.requires.within, c.part_offset.ensures.offset, part_fits c.args.types.now c.part_offset.ensures.sound c.args.ty c.args.k c.requires.part) in
    as_part_fit c.args.types.now c.part_offset.ensures.sound c.args.ty c.args.k c.requires.part (set c.args.words.now at c.word.result) c.args.first c.part_offset.result
    (one_fit s c.in-One.leaf (subst (IsValueOf s) c.in-One.is c.requires.typed) c.args.words.now at c.word.result (c.word.ensures ∙ ap word (to_z-of_z w64 c.in-One.leaf.number fits)) inside)
    c.part_offset.ensures.offset

pub write_part-write_parts-requires : goal.write_part-write_parts-requires
write_part-write_parts-requires t c =
    let s = part_shape (shape_of c.args.types.now c.args.ty) c.args.k in
    let typed : IsValueOf s (value.Many c.in-Many.parts) = subst (IsValueOf s) c.in-Many.is c.requires.typed in
    let is : shape_of c.args.types.now c.part_type.result ≡ s =
    c.part_type.ensures.part (part_has c.args.types.now c.part_offset.ensures.sound c.args.ty c.requires.known c.args.k c.in-Many.parts typed) in
    let inside : c.args.first + c.part_offset.result + size (lay c.args.types.now c.part_type.result) ≤ length c.args.words.now =
    omega (arith, c.requires.within, c.part_offset.ensures.offset, part_fits c.args.types.now c.part_offset.ensures.sound c.args.ty c.args.k c.requires.part, ap (λ x. size (lay_of x)) is) in (
      search (rules, TheFolds.the_lemmas, get_or_read),
      (
        c.part_type.ensures.known,
        (
          parts_typed (shape_of c.args.types.now c.part_type.result) c.in-Many.parts (subst (λ x. IsValueOf x (value.Many c.in-Many.parts)) (sym is) typed),
          (subst (λ x. IsConcrete (lay_of x)) (sym is) (part_is_concrete c.args.types.now c.part_offset.ensures.sound c.args.ty c.args.k c.requires.part c.requires.concrete), inside),
        ),
      ),
    )

pub write_part-returns-in-Many-clause-written : goal.write_part-returns-in-Many-clause-written
write_part-returns-in-Many-clause-written t c =
    let s = part_shape (shape_of c.args.types.now c.args.ty) c.args.k in
    let typed : IsValueOf s (value.Many c.in-Many.parts) = subst (IsValueOf s) c.in-Many.is c.requires.typed in
    let is : shape_of c.args.types.now c.part_type.result ≡ s =
    c.part_type.ensures.part (part_has c.args.types.now c.part_offset.ensures.sound c.args.ty c.requires.known c.args.k c.in-Many.parts typed) in
    as_part c.args.types.now c.part_offset.ensures.sound c.args.ty c.args.k c.requires.part (value.Many c.in-Many.parts) c.args.value.now c.args.words.now c.write_parts.new.words c.args.first c.part_offset.result
    (subst (λ x. Written (lay_of x) (value.Many c.in-Many.parts) c.args.words.now c.write_parts.new.words (c.args.first + c.part_offset.result)) is c.write_parts.ensures.written)
    c.in-Many.is c.part_offset.ensures.offset

pub write_part-returns-in-Many-clause-fit : goal.write_part-returns-in-Many-clause-fit
write_part-returns-in-Many-clause-fit t c =
    let s = part_shape (shape_of c.args.types.now c.args.ty) c.args.k in
    let typed : IsValueOf s (value.Many c.in-Many.parts) = subst (IsValueOf s) c.in-Many.is c.requires.typed in
    let is : shape_of c.args.types.now c.part_type.result ≡ s =
    c.part_type.ensures.part (part_has c.args.types.now c.part_offset.ensures.sound c.args.ty c.requires.known c.args.k c.in-Many.parts typed) in
    as_part_fit c.args.types.now c.part_offset.ensures.sound c.args.ty c.args.k c.requires.part c.write_parts.new.words c.args.first c.part_offset.result
    (subst (λ x. AreFit (lay_of x) (slice_index c.write_parts.new.words) (c.args.first + c.part_offset.result)) is c.write_parts.ensures.fit)
    c.part_offset.ensures.offset

-- ---- all parts

pub write_parts-write_part-requires : goal.write_parts-write_part-requires
write_parts-write_part-requires t c =
    let items = c.as_slice-part-items.result.now in
    let lt : c.parts.k < length c.args.parts.now = omega (arith, c.parts-test.true, c.parts.invariant.at, ap length c.as_slice-part-items.ensures) in
    let is = item_there items c.args.parts.now c.parts.part-index c.parts.k c.part-item.result c.as_slice-part-items.ensures c.parts.invariant.at c.parts-test.true c.part-item.is in
    let there : c.parts.k < part_count (lay c.args.types.now c.args.ty) = omega (arith, lt, c.requires.typed.count) in
    let inside : c.args.first + size (lay c.args.types.now c.args.ty) ≤ length c.parts.words = omega (arith, c.requires.within, c.parts.invariant.same_length) in (
      search (rules, TheFolds.the_lemmas, get_or_read),
      (
        c.requires.known,
        (
          there,
          (subst (IsValueOf (part_shape (shape_of c.args.types.now c.args.ty) c.parts.k)) (sym is) (c.requires.typed.typed c.parts.k lt), (c.requires.concrete, inside)),
        ),
      ),
    )

pub write_parts-parts-preserved : goal.write_parts-parts-preserved
write_parts-parts-preserved t c =
    let items = c.as_slice-part-items.result.now in
    let lt : c.parts.k < length c.args.parts.now = omega (arith, c.parts-test.true, c.parts.invariant.at, ap length c.as_slice-part-items.ensures) in
    let is = item_there items c.args.parts.now c.parts.part-index c.parts.k c.part-item.result c.as_slice-part-items.ensures c.parts.invariant.at c.parts-test.true c.part-item.is in
    let there : c.parts.k < part_count (lay c.args.types.now c.args.ty) = omega (arith, lt, c.requires.typed.count) in
    record {
      at = omega (arith, c.parts.invariant.at);
      filled = one_more c.args.types.now c.word_count-count.ensures.sound c.args.ty c.parts.k there c.args.parts.now c.part-item.result c.args.words.now c.parts.words c.write_part.new.words c.args.first c.parts.invariant.filled c.write_part.ensures.written is;
      fit = one_more_fit c.args.types.now c.word_count-count.ensures.sound c.args.ty c.parts.k there c.part-item.result c.parts.words c.write_part.new.words c.args.first c.write_part.ensures.written c.write_part.ensures.fit c.parts.invariant.fit;
      same_length = omega (arith, c.write_part.ensures.length, c.parts.invariant.same_length);
    }

pub write_parts-returns-clause-written : goal.write_parts-returns-clause-written
write_parts-returns-clause-written t c =
    let l = lay c.args.types.now c.args.ty in
    let done : c.parts.k ≡ part_count l = omega (arith, c.parts-test.false, c.parts.invariant.at, c.parts.auto.part-index-end, ap length c.as_slice-part-items.ensures, c.requires.typed.count) in
    filled l c.args.parts.now c.args.words.now c.parts.words c.args.first c.requires.typed.composite c.requires.typed.count
    (subst (λ n. Filled l c.args.parts.now n c.args.words.now c.parts.words c.args.first) done c.parts.invariant.filled)

pub write_parts-returns-clause-fit : goal.write_parts-returns-clause-fit
write_parts-returns-clause-fit t c =
    let l = lay c.args.types.now c.args.ty in
    let done : c.parts.k ≡ part_count l = omega (arith, c.parts-test.false, c.parts.invariant.at, c.parts.auto.part-index-end, ap length c.as_slice-part-items.ensures, c.requires.typed.count) in
    fit_parts l (slice_index c.parts.words) c.args.first c.requires.typed.composite (λ i lt. c.parts.invariant.fit i (omega (arith, lt, done)))
