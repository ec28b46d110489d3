use Rattle.std.proofs.Common.{◌≡◌, drop}
use Rattle.shade_core.specs.Code.{code_of}
use Rattle.shade_core.specs.Rules.{have_rules}
use Rattle.shade_core.proofs.rules.+rules.Given as goal

abbrev pub invariant-have_rules-statements : goal.invariant-have_rules-statements
invariant-have_rules-statements l = have_rules (code_of (drop l.statement-index l.statement-items)) ≡ have_rules (code_of l.statement-items)
