use Rattle.std.proofs.Common.{inr, subst, List}
use Rattle.std.specs.Prelude.{All}
use Rattle.shade_core.specs.declared.module.CoreFunction.{CoreFunction}
use Rattle.shade_rules.specs.Aliases.{AreFree, IsFirstAlias}
use Rattle.shade_rules.proofs.AliasLaws.{function_alias, function_free, free_of_all}
use Rattle.shade_rules.proofs.calls.aliases.Goals as goal

pub returns-in-Some-found-clause-refused : goal.returns-in-Some-found-clause-refused
returns-in-Some-found-clause-refused c =
    inr (subst (λ (fs : List CoreFunction). IsFirstAlias fs c.in-Some-found.fault) c.as_slice-functions.ensures
    (function_alias c.as_slice-functions.result.now _ c.in_ok-rows.ensures c.functions.function-index c.function-item.result c.functions-test.true c.function-item.is c.functions.invariant c.in_ok-found.found
    (rw c.as_slice-uses.ensures.value at c.in_ok-found.ensures) c.in-Some-found.fault c.in-Some-found.is))

pub functions-preserved : goal.functions-preserved
functions-preserved c =
    function_free c.as_slice-functions.result.now _ c.in_ok-rows.ensures c.functions.function-index c.function-item.result c.functions-test.true c.function-item.is c.functions.invariant c.in_ok-found.found
    (rw c.as_slice-uses.ensures.value at c.in_ok-found.ensures) c.in_default-found.is

pub returns-clause-accepted : goal.returns-clause-accepted
returns-clause-accepted c =
    subst (λ (fs : List CoreFunction). All (AreFree fs) fs) c.as_slice-functions.ensures (free_of_all c.as_slice-functions.result.now c.functions.function-index c.functions-test.false c.functions.invariant)
