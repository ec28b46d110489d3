use Rattle.shade_typed.proofs.AnswerLaws.{refutes}
use Rattle.shade_typed.proofs.ActLaws.{no_selector, no_index, other_selector, switch_as}
use Rattle.std.proofs.Common.{map}
use Rattle.shade_core.specs.Standing.{case_of}
use Rattle.shade_typed.proofs.acts.switches.Goals as goal

pub returns-in_default : goal.returns-in_default
returns-in_default c = refutes (no_selector c.args.context.now c.args.selector.now (map case_of c.args.parts.now) c.in_default.ensures)

pub returns-then-not-is_index : goal.returns-then-not-is_index
returns-then-not-is_index c = refutes (no_index c.args.context.now c.args.selector.now (map case_of c.args.parts.now) c.in-Some.ty c.in-Some.ensures (λ h. let f = c.is_index.ensures.1 h in cc (f, c.if-not-is_index.true)))

pub returns-in_default-ty : goal.returns-in_default-ty
returns-in_default-ty c = refutes (other_selector c.args.context.now c.args.selector.now (map case_of c.args.parts.now) c.in-Some.ty c.in-Some.ensures c.in_default-ty.not-Plain)

pub returns : goal.returns
returns c = switch_as c.args.context.now c.args.selector.now (map case_of c.args.parts.now) c.in-Plain.scalar c.are_all_keys.result (rw c.in-Plain.is at c.in-Some.ensures) (rw c.in-Plain.is at (c.is_index.ensures.0 c.if-not-is_index.false)) c.are_all_keys.ensures
