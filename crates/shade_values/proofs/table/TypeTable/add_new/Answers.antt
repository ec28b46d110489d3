use Rattle.std.proofs.Common.{◌≡◌, sym, ap, ◌∙◌, Ok, Err, arith}
use Rattle.std.proofs.lemmas.List.{length-map}
use Rattle.shade_values.specs.Kept.{laid, layout_by, layouts_of, loads_by, loads_of}
use Rattle.shade_values.proofs.SoundLaws.{err_is, layout_refused, layout_taken, kept_type, over_entries, view_with_type, view_refused, no_memory}
use Rattle.shade_values.proofs.table.TypeTable.add_new.Goals as goal

pub returns-in_err-layout-clause-large : goal.returns-in_err-layout-clause-large
returns-in_err-layout-clause-large c =
    let refused : laid (layout_by (layouts_of c.self.inside.entries.items) c.self.inside.structs.items c.args.ty) ≡ Err c.in_err-layout.field-0.0 =
    rw (← c.deref.ensures.value, ← c.deref-2.ensures.value) (sym c.layout_of_type.ensures.laid ∙ c.in_err-layout.was) in
    rw (← c.self.view_is) (λ _. err_is c.from_residual.result c.in_err-layout.field-0.0 c.from_residual.ensures.1 ∙ ap Err (layout_refused _ _ c.args.ty _ c.self.invariant refused).0)

pub returns-in_err-layout-clause-small : goal.returns-in_err-layout-clause-small
returns-in_err-layout-clause-small c =
    let refused : laid (layout_by (layouts_of c.self.inside.entries.items) c.self.inside.structs.items c.args.ty) ≡ Err c.in_err-layout.field-0.0 =
    rw (← c.deref.ensures.value, ← c.deref-2.ensures.value) (sym c.layout_of_type.ensures.laid ∙ c.in_err-layout.was) in
    rw (← c.self.view_is) (λ small. absurd (small (layout_refused _ _ c.args.ty _ c.self.invariant refused).1))

pub returns-in_err-push-clause-large : goal.returns-in_err-push-clause-large
returns-in_err-push-clause-large c =
    let taken : laid (layout_by (layouts_of c.self.inside.entries.items) c.self.inside.structs.items c.args.ty) ≡ Ok c.in_ok-layout.layout =
    rw (← c.deref.ensures.value, ← c.deref-2.ensures.value) (sym c.layout_of_type.ensures.laid ∙ c.in_ok-layout.was) in
    rw (← c.self.view_is) (λ large. absurd ((layout_taken _ _ c.args.ty _ c.self.invariant taken).1 large))

pub invariant_of-self-2 : goal.invariant_of-self-2
invariant_of-self-2 c =
    let taken : laid (layout_by (layouts_of c.self.inside.entries.items) c.self.inside.structs.items c.args.ty) ≡ Ok c.in_ok-layout.layout =
    rw (← c.deref.ensures.value, ← c.deref-2.ensures.value) (sym c.layout_of_type.ensures.laid ∙ c.in_ok-layout.was) in
    let loads : c.type_is_loadable-loadable.result ≡ loads_by (loads_of c.self.inside.entries.items) c.self.inside.structs.items c.args.ty =
    rw (← c.deref-3.ensures.value, ← c.deref-4.ensures.value) c.type_is_loadable-loadable.ensures in
    rw c.in_ok-push.ensures.pushed
    (kept_type _ _ _ c.self.invariant (layout_taken _ _ c.args.ty _ c.self.invariant taken).0 loads (rw (← c.self.view_is) at c.requires.parts) (rw (← c.self.view_is) at c.requires.new) (rw (← c.self.view_is) at c.requires.room))

pub returns-clause-large : goal.returns-clause-large
returns-clause-large c =
    let taken : laid (layout_by (layouts_of c.self.inside.entries.items) c.self.inside.structs.items c.args.ty) ≡ Ok c.in_ok-layout.layout =
    rw (← c.deref.ensures.value, ← c.deref-2.ensures.value) (sym c.layout_of_type.ensures.laid ∙ c.in_ok-layout.was) in
    rw (← c.self.view_is) (λ large. absurd ((layout_taken _ _ c.args.ty _ c.self.invariant taken).1 large))

pub layout_of_type-requires : goal.layout_of_type-requires
layout_of_type-requires c = rw (c.deref.ensures.value, c.deref-2.ensures.value) (over_entries _ _ c.args.ty (rw (← c.self.view_is) at c.requires.parts))

pub type_is_loadable-loadable-requires : goal.type_is_loadable-loadable-requires
type_is_loadable-loadable-requires c = rw (c.deref-3.ensures.value, c.deref-4.ensures.value) (over_entries _ _ c.args.ty (rw (← c.self.view_is) at c.requires.parts))

pub returns-in_err-push-clause-refused : goal.returns-in_err-push-clause-refused
returns-in_err-push-clause-refused c = view_refused c.from_residual-in_err-push.result _ _ _ _ c.self.view_is c.in_err-push.ensures.refused

pub returns-in_err-push-clause-small : goal.returns-in_err-push-clause-small
returns-in_err-push-clause-small c = λ _. no_memory c.from_residual-in_err-push.result _ c.from_residual-in_err-push.ensures.1 c.in_err-push.ensures.cause

pub invariant_of-self : goal.invariant_of-self
invariant_of-self c = rw c.in_err-push.ensures.refused c.self.invariant

pub returns-clause-id : goal.returns-clause-id
returns-clause-id c = rw (← c.self.view_is, length-map) (omega (arith, c.len.ensures, c.self.inside.entries.ok.0))

pub returns-clause-added : goal.returns-clause-added
returns-clause-added c = rw (← c.self.view_is) (view_with_type _ _ _ _ c.in_ok-push.ensures.pushed)
