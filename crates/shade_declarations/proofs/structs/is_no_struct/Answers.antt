use Rattle.shade_declarations.proofs.Nested.{no_struct_so}
use Rattle.shade_declarations.proofs.structs.is_no_struct.Goals as goal

pub returns : goal.returns
returns c =
    no_struct_so c.args.table.now c.args.depths.now c.args.members.now _ _ _ _ c.requires c.is_empty-empty.ensures c.has_pointer-pointer.ensures c.are_deep-deep.ensures
    c.either.ensures
