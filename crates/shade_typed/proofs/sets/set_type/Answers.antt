use Rattle.shade_typed.proofs.SetLaws.{no_rule, unheld_rule, rule_held}
use Rattle.shade_typed.proofs.sets.set_type.Goals as goal

pub returns-in_default-clause-found : goal.returns-in_default-clause-found
returns-in_default-clause-found c = no_rule c.args.context.now.shader.types c.args.op c.args.types.now c.types-known.ensures.sound c.requires (rw c.rule_of.ensures at c.in_default.ensures.found)

pub returns-then-not-is_held-clause-found : goal.returns-then-not-is_held-clause-found
returns-then-not-is_held-clause-found c =
    let tells = rw c.types-known.ensures.same at c.is_held.ensures in
    unheld_rule c.args.context.now.shader.types c.args.op c.args.types.now c.in-Some.found.ty c.in-Some.found.id c.types-known.ensures.sound c.requires (rw c.rule_of.ensures at c.in-Some.ensures.found) c.in-Some.ensures.stands (λ h. let f = tells.1 h in cc (f, c.if-not-is_held.true))

pub returns-clause-found : goal.returns-clause-found
returns-clause-found c =
    let tells = rw c.types-known.ensures.same at c.is_held.ensures in
    rule_held c.args.context.now.shader.types c.args.op c.args.types.now c.in-Some.found.ty c.in-Some.found.id c.types-known.ensures.sound c.requires (rw c.rule_of.ensures at c.in-Some.ensures.found) c.in-Some.ensures.stands (tells.0 c.if-not-is_held.false)
