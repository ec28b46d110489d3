use Rattle.std.proofs.Common.{◌≡◌, ◌+◌, List, Some, slice_get, arith, ap, sym, subst, ◌∙◌}
use Rattle.std.proofs.lemmas.Option.{slice_get-get_or}
use Rattle.shade_core.specs.declared.module.CoreFunction.{CoreFunction}
use Rattle.shade_verdict.specs.Violations.{AreViolations, HasLargeFunction, IsRefused}
use Rattle.shade_verdict.proofs.FoundLaws.{all_found}
use Rattle.shade_verdict.proofs.SizeLaws.{one_more, none_large, one_large, errs}
use Rattle.shade_verdict.proofs.verdict.violations_of.Goals as goal

pub functions-preserved : goal.functions-preserved
functions-preserved c =
    let at : slice_get c.as_slice-functions.result.now c.functions.number ≡ Some c.function-item.result =
    rw c.functions.invariant.count (slice_get-get_or c.as_slice-functions.result.now c.functions.function-index _ c.functions-test.true ∙ ap (λ (f : CoreFunction). Some f) (sym c.function-item.is)) in
    record {
      count = ap (λ k. k + 1) c.functions.invariant.count;
      found = c.in_ok-add_function.ensures c.as_slice-functions.result.now c.function-item.result at c.in_ok-graph.ensures.graph c.functions.invariant.found;
      small = one_more c.as_slice-functions.result.now c.functions.number c.function-item.result at c.in_ok-graph.ensures.few c.functions.invariant.small;
    }

pub returns-clause-violations : goal.returns-clause-violations
returns-clause-violations c =
    subst (λ (functions : List CoreFunction). AreViolations functions c.functions.out.items) c.as_slice-functions.ensures
    (all_found c.as_slice-functions.result.now c.functions.number c.functions.out.items (omega (arith, c.functions-test.false, c.functions.invariant.count)) c.functions.invariant.found)

pub returns-clause-small : goal.returns-clause-small
returns-clause-small c =
    subst (λ (functions : List CoreFunction). HasLargeFunction functions → ⊥) c.as_slice-functions.ensures
    (none_large c.as_slice-functions.result.now c.functions.number (omega (arith, c.functions-test.false, c.functions.invariant.count)) c.functions.invariant.small)

pub returns-in_err-graph-clause-refused : goal.returns-in_err-graph-clause-refused
returns-in_err-graph-clause-refused c =
    let at : slice_get c.as_slice-functions.result.now c.functions.number ≡ Some c.function-item.result =
    rw c.functions.invariant.count (slice_get-get_or c.as_slice-functions.result.now c.functions.function-index _ c.functions-test.true ∙ ap (λ (f : CoreFunction). Some f) (sym c.function-item.is)) in
    errs _ c.in_err-graph.field-0.0 _ c.from_residual.ensures.1
    (subst (λ (functions : List CoreFunction). IsRefused functions c.in_err-graph.field-0.0) c.as_slice-functions.ensures
    (one_large c.as_slice-functions.result.now c.functions.number c.function-item.result at c.in_err-graph.field-0.0 c.in_err-graph.ensures.refused))
