use Rattle.std.proofs.Common.{arith}
use Rattle.shade_typed.proofs.ContextLaws.{there}
use Rattle.shade_typed.proofs.PlaceLaws.{led_none, led_nowhere, led_more, led_all}
use Rattle.shade_typed.proofs.places.steps_type.Goals as goal

pub steps-init : goal.steps-init
steps-init c = record { led = led_none c.args.context.now c.args.steps.now c.args.from.ty; stands = c.requires }

pub step_type-requires : goal.step_type-requires
step_type-requires c = there c.args.context.now.shader.types c.steps.at.id c.steps.at.ty c.steps.invariant.stands

pub returns-in_default-clause-found : goal.returns-in_default-clause-found
returns-in_default-clause-found c = led_nowhere c.args.context.now c.args.steps.now c.steps.step-index c.step-item.result c.args.from.ty c.steps.at.ty c.steps-test.true c.step-item.is c.in_default.ensures.found c.steps.invariant.led

pub steps-preserved : goal.steps-preserved
steps-preserved c = record {
  led = led_more c.args.context.now c.args.steps.now c.steps.step-index c.step-item.result c.args.from.ty c.steps.at.ty c.in-Some.next.ty c.steps-test.true c.step-item.is c.in-Some.ensures.found c.steps.invariant.led;
  stands = c.in-Some.ensures.stands;
}

pub returns-clause-found : goal.returns-clause-found
returns-clause-found c = led_all c.args.context.now c.args.steps.now c.steps.step-index c.args.from.ty c.steps.at.ty (omega (arith, c.steps-test.false)) c.steps.invariant.led

pub returns-clause-stands : goal.returns-clause-stands
returns-clause-stands c = c.steps.invariant.stands
