use Rattle.std.proofs.Common.{◌≡◌, refl, sym, ap, ◌∙◌, [], ◌∷◌, rules}
use Rattle.shade_values.specs.declared.types.Space.TheVariants as space
use Rattle.shade_overload.proofs.MemoryLaws.{load_none, load_unknown, load_chosen}
use Rattle.shade_overload.proofs.ResultLaws.{given_of}
use Rattle.shade_overload.proofs.memory.load_row.Goals as goal

pub returns-in_err-pointer-clause-best : goal.returns-in_err-pointer-clause-best
returns-in_err-pointer-clause-best c = rw c.from_residual.ensures (load_none c.args.table.now c.args.types.now c.in_err-pointer.ensures.none)

pub returns-then-not-is_loadable-clause-best : goal.returns-then-not-is_loadable-clause-best
returns-then-not-is_loadable-clause-best c =
    load_unknown c.args.table.now c.args.types.now c.in_ok-pointer.pointer c.in_ok-pointer.pointee _ c.in-Pointer.id _ c.in_ok-pointer.ensures.some c.in-Pointer.is
    (sym c.is_loadable.ensures ∙ c.if-not-is_loadable.true)

pub returns-clause-best : goal.returns-clause-best
returns-clause-best c =
    let here : c.in-Pointer.space ≡ space.Workgroup = search rules in
    load_chosen c.args.table.now c.args.types.now _ c.in_ok-pointer.pointer c.in_ok-pointer.pointee c.in-Pointer.space c.in-Pointer.id c.in-Pointer.field-2 c.taking.result
    c.in_ok-pointer.ensures.some c.in-Pointer.is here (sym c.is_loadable.ensures ∙ c.if-not-is_loadable.false) (c.of.ensures ∙ ap (λ p. p ∷ []) (sym c.in-Pointer.is)) c.taking.ensures.row c.taking.ensures.taken c.taking.ensures.refused

pub returns-clause-of : goal.returns-clause-of
returns-clause-of c = given_of c.args.table.now c.in_ok-pointer.pointee _ c.taking.result refl c.taking.ensures.row c.in_ok-pointer.ensures.of
