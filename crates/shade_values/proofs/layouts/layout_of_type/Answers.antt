use Rattle.std.proofs.Common.{◌≡◌, ap, ◌∙◌, map, ℕ, List}
use Rattle.shade_values.specs.Kept.{laid, layouts_of, layout_in}
use Rattle.shade_values.specs.Layouts.{struct_layout}
use Rattle.shade_values.specs.Table.{members_at}
use Rattle.shade_values.specs.declared.types.TypeId.{TypeId}
use Rattle.shade_values.proofs.ShapeLaws.{members_found}
use Rattle.shade_values.proofs.layouts.layout_of_type.Goals as goal

pub returns-in-Struct-clause-laid : goal.returns-in-Struct-clause-laid
returns-in-Struct-clause-laid c =
    let number = c.in-Struct.number in
    let f = λ (m : List ℕ × TypeId). layout_in (layouts_of c.args.entries.now) m.1 in
    let members : c.deref.result.now ≡ members_at c.args.structs.now number =
    c.deref.ensures.value
    ∙ ap (λ s. s.members) c.known.view_is
    ∙ members_found c.args.structs.now number c.index-structs-number.result (rw c.in-Struct.is at c.requires).0 c.index-structs-number.is in
    rw c.in-Struct.is (c.layout_of_struct.ensures.laid ∙ ap (λ ms. laid (struct_layout (map f ms))) members)
