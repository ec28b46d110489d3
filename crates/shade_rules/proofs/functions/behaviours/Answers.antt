use Rattle.std.proofs.Common.{inr, subst, rules, List, Option}
use Rattle.std.specs.Prelude.{IfSome}
use Rattle.shade_core.specs.declared.module.CoreFunction.{CoreFunction}
use Rattle.shade_rules.specs.declared.fault.BehaviourFault.{BehaviourFault}
use Rattle.shade_rules.specs.Faults.{IsFirstIn, IsFirstFault}
use Rattle.shade_rules.proofs.FaultLaws.{first_function, no_function, row_more}
use Rattle.shade_rules.proofs.functions.behaviours.Goals as goal

pub returns-in-Some-clause-refused : goal.returns-in-Some-clause-refused
returns-in-Some-clause-refused c =
    let first : IsFirstIn c.function-item.result c.in-Some.fault = subst (λ (o : Option BehaviourFault). IfSome o (IsFirstIn c.function-item.result)) c.in-Some.is c.in_ok-examined.ensures.some in
    inr (subst (λ (fs : List CoreFunction). IsFirstFault fs c.in-Some.fault) c.as_slice-function-items.ensures
    (first_function c.as_slice-function-items.result.now c.functions.function-index c.function-item.result c.in-Some.fault c.functions-test.true c.function-item.is c.functions.invariant.none first))

pub functions-preserved : goal.functions-preserved
functions-preserved c = record {
  table = row_more c.as_slice-function-items.result.now c.functions.function-index c.function-item.result _ _ _ c.functions-test.true c.function-item.is c.functions.invariant.table c.in_ok-add_row.ensures c.in_ok-examined.ensures.sets;
  none = no_function c.as_slice-function-items.result.now c.functions.function-index c.function-item.result c.functions-test.true c.function-item.is c.functions.invariant.none (search rules);
}
