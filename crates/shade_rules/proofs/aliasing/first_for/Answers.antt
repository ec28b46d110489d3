use Rattle.std.proofs.Common.{subst}
use Rattle.shade_rules.specs.Scans.{IsFirstLater}
use Rattle.shade_rules.proofs.ScanLaws.{first_is_later, first_is_own}
use Rattle.shade_rules.proofs.aliasing.first_for.Goals as goal

pub returns-in-Some : goal.returns-in-Some
returns-in-Some c =
    first_is_later c.args.row.now c.args.args.now c.args.number c.args.view.now c.requires.here c.in-Some.later
    (subst (IsFirstLater c.args.row.now c.args.args.now c.args.number c.args.view.now.base) c.in-Some.is c.first_later.ensures)

pub returns-in-None : goal.returns-in-None
returns-in-None c =
    first_is_own c.args.row.now c.args.args.now c.args.number c.args.view.now c.requires.here c.own_variable.result
    (subst (IsFirstLater c.args.row.now c.args.args.now c.args.number c.args.view.now.base) c.in-None.is c.first_later.ensures) c.own_variable.ensures
