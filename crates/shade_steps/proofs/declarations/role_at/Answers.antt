use Rattle.std.proofs.Common.{◌+◌, sym, arith}
use Rattle.shade_steps.proofs.Members.{other_role}
use Rattle.shade_steps.proofs.declarations.role_at.Goals as goal

pub returns-else-at-members : goal.returns-else-at-members
returns-else-at-members c = sym (other_role c.args.members.now (c.args.at + 1) (omega (arith, c.requires, c.if-at-members.false)))
