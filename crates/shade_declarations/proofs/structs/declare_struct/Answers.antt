use Rattle.std.proofs.Common.{◌∙◌, subst, sym, length}
use Rattle.shade_values.specs.Sound.{AreKnown}
use Rattle.shade_declarations.proofs.Nested.{members_known}
use Rattle.shade_declarations.proofs.structs.declare_struct.Goals as goal

pub struct_id-requires-clause-known : goal.struct_id-requires-clause-known
struct_id-requires-clause-known c =
    subst (AreKnown (length c.args.known.now.types.types)) (sym (c.deref-2.ensures.value ∙ c.in_ok-made.ensures))
    (members_known c.args.known.now c.args.names.now c.args.members.now)
