use Rattle.std.proofs.Common.{sym, ap, subst, ◌∙◌, arith, rules, set, FitsSigned, w64}
use Rattle.std.proofs.lemmas.Int.{to_z-of_z}
use Rattle.shade_values.specs.Numbers.{word}
use Rattle.shade_values.specs.Shape.{shape_of}
use Rattle.shade_values.specs.Typed.{IsValueOf}
use Rattle.shade_words.specs.Lays.{size}
use Rattle.shade_words.specs.Types.{lay}
use Rattle.shade_words.specs.Written.{Written}
use Rattle.shade_words.proofs.ValueLaws.{one_typed, one_written, one_fit, parts_typed}
use Rattle.shade_words.proofs.values.write_value.Goals as goal

pub bounds-words-first : goal.bounds-words-first
bounds-words-first c =
    let one = one_typed (shape_of c.args.types.now c.args.ty) c.in-One.leaf (subst (IsValueOf (shape_of c.args.types.now c.args.ty)) c.in-One.is c.requires.typed) in
    omega (arith, c.requires.within, ap size one.lies)

pub returns-in-One-clause-written : goal.returns-in-One-clause-written
returns-in-One-clause-written c =
    let s = shape_of c.args.types.now c.args.ty in
    let fits : FitsSigned w64 c.in-One.leaf.number = search rules in
    subst (λ v. Written (lay c.args.types.now c.args.ty) v c.args.words.now (set c.args.words.now c.args.first c.word.result) c.args.first) (sym c.in-One.is)
    (one_written s c.in-One.leaf (subst (IsValueOf s) c.in-One.is c.requires.typed) c.args.words.now c.args.first c.word.result (c.word.ensures ∙ ap word (to_z-of_z w64 c.in-One.leaf.number fits)) c.requires.within c.requires.concrete)

pub returns-in-One-clause-fit : goal.returns-in-One-clause-fit
returns-in-One-clause-fit c =
    let s = shape_of c.args.types.now c.args.ty in
    let fits : FitsSigned w64 c.in-One.leaf.number = search rules in
    one_fit s c.in-One.leaf (subst (IsValueOf s) c.in-One.is c.requires.typed) c.args.words.now c.args.first c.word.result (c.word.ensures ∙ ap word (to_z-of_z w64 c.in-One.leaf.number fits)) c.requires.within

pub write_parts-requires-clause-typed : goal.write_parts-requires-clause-typed
write_parts-requires-clause-typed c =
    let s = shape_of c.args.types.now c.args.ty in
    parts_typed s c.in-Many.parts (subst (IsValueOf s) c.in-Many.is c.requires.typed)
