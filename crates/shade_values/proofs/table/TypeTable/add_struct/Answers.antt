use Rattle.std.proofs.Common.{◌≡◌, sym, ap, ◌∙◌, map, length, Ok, Err, arith}
use Rattle.shade_values.specs.declared.types.ShadeType.TheVariants.{Struct}
use Rattle.std.specs.List.{list_all}
use Rattle.std.proofs.lemmas.List.{length-map}
use Rattle.shade_values.specs.Kept.{laid, layouts_of, loads_of, layout_in, load_in}
use Rattle.shade_values.specs.Layouts.{struct_layout}
use Rattle.shade_values.proofs.SoundLaws.{struct_refused_as, struct_is_large, struct_not_large, struct_taken, kept_struct, known_entries, view_with_struct, view_refused, no_memory}
use Rattle.shade_values.proofs.table.TypeTable.add_struct.Goals as goal

pub returns-in_err-layout-clause-large : goal.returns-in_err-layout-clause-large
returns-in_err-layout-clause-large c =
    let refused : laid (struct_layout (map (λ m. layout_in (layouts_of c.self.inside.entries.items) m.1) c.args.members.now)) ≡ Err c.in_err-layout.field-0.0 =
    rw (← c.deref.ensures.value) (sym c.layout_of_struct.ensures.laid ∙ c.in_err-layout.was) in
    λ _. struct_refused_as _ _ _ c.args.members.now c.self.view_is c.self.invariant _ c.from_residual.result refused c.from_residual.ensures.1

pub returns-in_err-layout-clause-small : goal.returns-in_err-layout-clause-small
returns-in_err-layout-clause-small c =
    let refused : laid (struct_layout (map (λ m. layout_in (layouts_of c.self.inside.entries.items) m.1) c.args.members.now)) ≡ Err c.in_err-layout.field-0.0 =
    rw (← c.deref.ensures.value) (sym c.layout_of_struct.ensures.laid ∙ c.in_err-layout.was) in
    λ small. absurd (small (struct_is_large _ _ _ c.args.members.now c.self.view_is c.self.invariant _ refused))

pub returns-in_err-known-clause-large : goal.returns-in_err-known-clause-large
returns-in_err-known-clause-large c =
    let taken : laid (struct_layout (map (λ m. layout_in (layouts_of c.self.inside.entries.items) m.1) c.args.members.now)) ≡ Ok c.in_ok-layout.layout =
    rw (← c.deref.ensures.value) (sym c.layout_of_struct.ensures.laid ∙ c.in_ok-layout.was) in
    λ large. absurd (struct_not_large _ _ _ c.args.members.now c.self.view_is c.self.invariant _ taken large)

pub returns-in_err-push_struct-clause-large : goal.returns-in_err-push_struct-clause-large
returns-in_err-push_struct-clause-large c =
    let taken : laid (struct_layout (map (λ m. layout_in (layouts_of c.self.inside.entries.items) m.1) c.args.members.now)) ≡ Ok c.in_ok-layout.layout =
    rw (← c.deref.ensures.value) (sym c.layout_of_struct.ensures.laid ∙ c.in_ok-layout.was) in
    λ large. absurd (struct_not_large _ _ _ c.args.members.now c.self.view_is c.self.invariant _ taken large)

pub returns-clause-large : goal.returns-clause-large
returns-clause-large c =
    let taken : laid (struct_layout (map (λ m. layout_in (layouts_of c.self.inside.entries.items) m.1) c.args.members.now)) ≡ Ok c.in_ok-layout.layout =
    rw (← c.deref.ensures.value) (sym c.layout_of_struct.ensures.laid ∙ c.in_ok-layout.was) in
    λ large. absurd (struct_not_large _ _ _ c.args.members.now c.self.view_is c.self.invariant _ taken large)

pub invariant_of-self-2 : goal.invariant_of-self-2
invariant_of-self-2 c =
    let taken : laid (struct_layout (map (λ m. layout_in (layouts_of c.self.inside.entries.items) m.1) c.args.members.now)) ≡ Ok c.in_ok-layout.layout =
    rw (← c.deref.ensures.value) (sym c.layout_of_struct.ensures.laid ∙ c.in_ok-layout.was) in
    let loads : c.struct_is_loadable-loadable.result ≡ list_all (λ m. load_in (loads_of c.self.inside.entries.items) m.1) c.args.members.now =
    rw (← c.deref-2.ensures.value) c.struct_is_loadable-loadable.ensures in
    let number : c.len.result ≡ length c.self.inside.structs.items = omega (arith, c.len.ensures, c.self.inside.structs.ok.0) in
    rw (c.in_ok-push_struct.ensures.entries, c.in_ok-push_struct.ensures.structs, c.in_ok-known.ensures.copy)
    (kept_struct _ _ c.args.name.now c.args.members.now _ c.self.invariant (ap Struct number) (struct_taken _ _ c.args.members.now _ c.self.invariant taken).0 loads c.requires.some (rw (← c.self.view_is) at c.requires.known) (rw (← c.self.view_is) at c.requires.room))

pub layout_of_struct-requires : goal.layout_of_struct-requires
layout_of_struct-requires c = rw c.deref.ensures.value (known_entries _ c.self.inside.structs.items c.args.members.now (rw (← c.self.view_is) at c.requires.known))

pub struct_is_loadable-loadable-requires : goal.struct_is_loadable-loadable-requires
struct_is_loadable-loadable-requires c =
    rw c.deref-2.ensures.value (known_entries _ c.self.inside.structs.items c.args.members.now (rw (← c.self.view_is) at c.requires.known))

pub returns-in_err-known-clause-small : goal.returns-in_err-known-clause-small
returns-in_err-known-clause-small c = λ _. no_memory c.from_residual-in_err-known.result _ c.from_residual-in_err-known.ensures.1 c.in_err-known.ensures.cause

pub returns-in_err-push_struct-clause-small : goal.returns-in_err-push_struct-clause-small
returns-in_err-push_struct-clause-small c =
    λ _. no_memory c.from_residual-in_err-push_struct.result _ c.from_residual-in_err-push_struct.ensures.1 c.in_err-push_struct.ensures.cause

pub returns-in_err-push_struct-clause-refused : goal.returns-in_err-push_struct-clause-refused
returns-in_err-push_struct-clause-refused c =
    rw c.in_err-push_struct.ensures.no_struct (view_refused c.from_residual-in_err-push_struct.result _ _ _ _ c.self.view_is c.in_err-push_struct.ensures.no_entry)

pub invariant_of-self : goal.invariant_of-self
invariant_of-self c = rw (c.in_err-push_struct.ensures.no_entry, c.in_err-push_struct.ensures.no_struct) c.self.invariant

pub returns-clause-id : goal.returns-clause-id
returns-clause-id c = rw (← c.self.view_is, length-map) (omega (arith, c.len-2.ensures, c.self.inside.entries.ok.0))

pub returns-clause-added : goal.returns-clause-added
returns-clause-added c =
    let number : c.len.result ≡ length c.self.inside.structs.items = omega (arith, c.len.ensures, c.self.inside.structs.ok.0) in
    rw (← c.self.view_is)
    (view_with_struct _ _ _ _ _ c.args.name.now c.args.members.now c.in_ok-push_struct.ensures.entries (ap Struct number)
    (rw c.in_ok-known.ensures.copy at c.in_ok-push_struct.ensures.structs))
