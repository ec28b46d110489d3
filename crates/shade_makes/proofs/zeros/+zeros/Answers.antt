use Rattle.std.proofs.Common.{◌≡◌, ◌∙◌, ap, subst, sym, arith, replicate, Some, IfOk}
use Rattle.shade_values.specs.Shape.{shapes, member_shapes}
use Rattle.shade_values.specs.Sound.{AreKnown}
use Rattle.shade_values.specs.declared.types.ShadeType.TheVariants as type
use Rattle.shade_values.specs.declared.value.Value.TheVariants as value
use Rattle.shade_makes.specs.Zeros.{zeros_of}
use Rattle.shade_makes.proofs.ZeroLaws.{zero_at, zero_made, zero_past, zeros_each}
use Rattle.shade_makes.proofs.zeros.+zeros.Goals as goal

pub zero_value-returns-then-id-count : goal.zero_value-returns-then-id-count
zero_value-returns-then-id-count t c = c.no_value.ensures ∙ zero_past c.args.types.now c.args.id (omega (arith, c.if-id-count.true, c.count.ensures.count))

pub zero_value-zero_value-requires : goal.zero_value-zero_value-requires
zero_value-zero_value-requires t c =
    let over = c.get.ensures.sound.over c.args.id.0 (type.Array c.in-Array.element c.in-Array.count) (c.get.ensures.ty ∙ ap Some c.in-Array.is) in
    (omega (arith, over.0), tt)

pub zero_value-members-requires : goal.zero_value-members-requires
zero_value-members-requires t c = (c.get.ensures.sound.over c.args.id.0 (type.Struct c.in-Struct.number) (c.get.ensures.ty ∙ ap Some c.in-Struct.is)).0

pub zero_value-zero_members-requires : goal.zero_value-zero_members-requires
zero_value-zero_members-requires t c =
    let over = c.get.ensures.sound.over c.args.id.0 (type.Struct c.in-Struct.number) (c.get.ensures.ty ∙ ap Some c.in-Struct.is) in
    (omega arith, subst (AreKnown c.args.id.0) (sym c.members.ensures) over.2)

pub zero_value-returns-in-Plain : goal.zero_value-returns-in-Plain
zero_value-returns-in-Plain t c =
    c.zero.ensures ∙ zero_at c.args.types.now c.get.ensures.sound c.args.id (type.Plain c.in-Plain.scalar) (c.get.ensures.ty ∙ ap Some c.in-Plain.is)

pub zero_value-returns-in-Vector : goal.zero_value-returns-in-Vector
zero_value-returns-in-Vector t c =
    zero_made c.args.types.now c.get.ensures.sound c.args.id (type.Vector c.in-Vector.count c.in-Vector.scalar) (c.get.ensures.ty ∙ ap Some c.in-Vector.is) c.filled.result c.filled.ensures

pub zero_value-returns-in_ok-zero_value-in-Array : goal.zero_value-returns-in_ok-zero_value-in-Array
zero_value-returns-in_ok-zero_value-in-Array t c =
    zero_made c.args.types.now c.get.ensures.sound c.args.id (type.Array c.in-Array.element c.in-Array.count) (c.get.ensures.ty ∙ ap Some c.in-Array.is) c.repeated.result
    (subst (λ e. IfOk c.repeated.result (λ v. v ≡ value.Many (replicate c.in-Array.count e))) c.in_ok-zero_value-in-Array.ensures c.repeated.ensures)

pub zero_value-returns-in_ok-zero_members-in-Struct : goal.zero_value-returns-in_ok-zero_members-in-Struct
zero_value-returns-in_ok-zero_members-in-Struct t c =
    let t = c.args.types.now in
    ap value.Many (c.in_ok-zero_members-in-Struct.ensures ∙ zeros_each (shapes t) c.members.result.now)
    ∙ ap (λ ms. value.Many (zeros_of (member_shapes (shapes t) ms))) c.members.ensures
    ∙ zero_at t c.get.ensures.sound c.args.id (type.Struct c.in-Struct.number) (c.get.ensures.ty ∙ ap Some c.in-Struct.is)

pub zero_value-returns-in-Exchanged : goal.zero_value-returns-in-Exchanged
zero_value-returns-in-Exchanged t c =
    zero_made c.args.types.now c.get.ensures.sound c.args.id (type.Exchanged c.in-Exchanged.scalar) (c.get.ensures.ty ∙ ap Some c.in-Exchanged.is) c.not_exchanged.result c.not_exchanged.ensures

pub zero_value-returns-in-RuntimeArray : goal.zero_value-returns-in-RuntimeArray
zero_value-returns-in-RuntimeArray t c =
    c.no_value-in-RuntimeArray.ensures
    ∙ zero_at c.args.types.now c.get.ensures.sound c.args.id (type.RuntimeArray c.in-RuntimeArray.field-0) (c.get.ensures.ty ∙ ap Some c.in-RuntimeArray.is)

pub zero_value-returns-in-Atomic : goal.zero_value-returns-in-Atomic
zero_value-returns-in-Atomic t c =
    c.no_value-in-Atomic.ensures ∙ zero_at c.args.types.now c.get.ensures.sound c.args.id (type.Atomic c.in-Atomic.field-0) (c.get.ensures.ty ∙ ap Some c.in-Atomic.is)

pub zero_value-returns-in-Pointer : goal.zero_value-returns-in-Pointer
zero_value-returns-in-Pointer t c =
    c.no_value-in-Pointer.ensures
    ∙ zero_at c.args.types.now c.get.ensures.sound c.args.id (type.Pointer c.in-Pointer.field-0 c.in-Pointer.field-1 c.in-Pointer.field-2) (c.get.ensures.ty ∙ ap Some c.in-Pointer.is)
