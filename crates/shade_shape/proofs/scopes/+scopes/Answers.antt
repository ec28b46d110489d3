use Rattle.std.proofs.Common.{◌≡◌, ◌++◌, ◌∷◌, [], sym, ap, ◌∙◌, length, take, length-append, arith}
use Rattle.std.proofs.lemmas.List.{take-append-le}
use Rattle.shade_core.specs.declared.statement.SwitchPart.{out-SwitchPart}
use Rattle.shade_core.specs.Code.{code_of}
use Rattle.shade_core.specs.Scopes.{in_scope}
use Rattle.shade_shape.proofs.ScopeLaws.{scope_next, scope_never, scope_part_next}
use Rattle.shade_shape.proofs.scopes.+scopes.Goals as goal

pub list_in_scope-returns-then-not-branch-clause-tells : goal.list_in_scope-returns-then-not-branch-clause-tells
list_in_scope-returns-then-not-branch-clause-tells t c =
    scope_never c.as_slice-statement-items.result.now c.statements.statement-index _ c.statements.seen _ c.statements-test.true c.statement-item.is (sym c.in_ok-act_in_scope.ensures.tells ∙ c.if-not-branch.true) c.statements.invariant.tells
    ∙ ap (λ xs. in_scope c.args.seen.now (code_of xs)) c.as_slice-statement-items.ensures

pub list_in_scope-statements-preserved : goal.list_in_scope-statements-preserved
list_in_scope-statements-preserved t c =
    let seen = c.statements.seen in
    let more = c.statement-item.result.number ∷ [] in
    let pushed : c.push.new.self ≡ seen ++ more = c.in_ok-push.ensures ∙ ap (λ s. s ++ more) (c.in_ok-act_in_scope.ensures.kept c.if-not-branch.false) in
    record {
      tells = scope_next c.as_slice-statement-items.result.now c.statements.statement-index _ seen _ _ c.statements-test.true c.statement-item.is pushed (sym c.in_ok-act_in_scope.ensures.tells ∙ c.if-not-branch.false) c.statements.invariant.tells;
      count = c.statements.invariant.count;
      front = ap (take c.count-count.result) pushed ∙ (take-append-le c.count-count.result seen more c.statements.invariant.long ∙ c.statements.invariant.front);
      long = omega (arith, c.statements.invariant.long, ap length pushed, length-append seen more);
    }

pub parts_in_scope-parts-preserved : goal.parts_in_scope-parts-preserved
parts_in_scope-parts-preserved t c =
    record {
      tells = scope_part_next c.as_slice-part-items.result.now c.parts.part-index c.part-item.result c.args.seen.now _ c.parts-test.true c.part-item.is
          (ap (λ s. in_scope s (code_of (out-SwitchPart c.part-item.result).body)) (sym c.parts.invariant.same) ∙ (sym c.in_ok-list_in_scope.ensures.tells ∙ c.if-not-branch.false)) c.parts.invariant.tells;
      same = c.in_ok-list_in_scope.ensures.kept c.if-not-branch.false ∙ c.parts.invariant.same;
    }
