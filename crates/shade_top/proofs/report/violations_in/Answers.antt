use Rattle.std.proofs.Common.{subst}
use Rattle.shade_graph.specs.declared.fault.GraphFault.{GraphFault}
use Rattle.shade_verdict.specs.Violations.{IsRefused}
use Rattle.shade_top.proofs.report.violations_in.Goals as goal

pub unreachable-requires : goal.unreachable-requires
unreachable-requires c = c.requires.small (subst (λ (f : GraphFault). IsRefused c.args.shader.now.functions f) c.in-Err-TooManyNodes.field-0-is c.in-Err-TooManyNodes.ensures.refused)
