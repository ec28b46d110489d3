-- From what is known, each step has one answer.
use Rattle.std.proofs.Common.{◌≡◌, sym, ap, subst, ◌∙◌, ℕ, Bool, true, false, inl, inr, List, [], ◌∷◌, Option, None, Some, Ok, Err}
use Rattle.std.specs.Prelude.{slice_get}
use Rattle.shade_base.specs.declared.place.Place.{Place}
use Rattle.shade_ast.specs.declared.stmt.OpAssign.{OpAssign}
use Rattle.shade_ast.specs.declared.expr.Prefix.{Prefix}
use Rattle.shade_ast.specs.declared.expr.Prefix.TheVariants as prefix_of
use Rattle.shade_values.specs.declared.types.ShadeType.{ShadeType}
use Rattle.shade_values.specs.declared.types.TypeId.{TypeId}
use Rattle.shade_values.specs.declared.value.Value.{Value}
use Rattle.shade_overload.specs.declared.builtin.Builtin.{Builtin}
use Rattle.shade_overload.specs.declared.builtin.Builtin.TheVariants as builtin
use Rattle.shade_scope.specs.declared.scoped.Meaning.{Meaning}
use Rattle.shade_known.specs.declared.known.Found.TheVariants as found
use Rattle.shade_known.specs.declared.known.Known.{Known}
use Rattle.shade_known.specs.declared.known.Operand.{Operand}
use Rattle.shade_known.specs.declared.operation.Application.{Application}
use Rattle.shade_known.specs.Laws.{OperatesInOneWay, ConvertsInOneWay}
use Rattle.shade_known.specs.Lookups.{what_in, type_of_node, value_of_node, is_idle}
use Rattle.shade_steps.specs.declared.step.Task.{Task}
use Rattle.shade_steps.specs.declared.step.Task.TheVariants as task
use Rattle.shade_typing.specs.Values.{Answer}
use Rattle.shade_typing.specs.Operators.{applied, infix_builtin, IsPrefix}
use Rattle.shade_typing.specs.Assignments.{checked, IsConverted}
use Rattle.shade_calls.specs.Calls.{row_of}
use Rattle.shade_calls.specs.Templates.{written_type}
use Rattle.shade_tasks.specs.Compounds.{compound_builtin, AfterOperator, unless_fault, AfterTypes, IsCompound}
use Rattle.shade_tasks.specs.Declared.{bound, IsBound, ByType, ByConstness, IsReturned, result_of}
use Rattle.shade_tasks.specs.Rules.{IsCall, OperationOf, NamedOf, StatementOf, DeclaredOf, ProfileOf, RuleOf}
use Rattle.shade_tasks.specs.Laws.{StepsFindOneThing}

both : {A : Type 0} {x y z : A} → x ≡ z → y ≡ z → x ≡ y
both p q = p ∙ sym q

module _ (one : OperatesInOneWay) (converts : ConvertsInOneWay) (uses : List (Option Meaning)) (names : List (List ℕ)) (k : Known) where
  prefix_one : (operator : Prefix) (place : Place) (idle : Bool) (o : Operand) (r s : Answer) → IsPrefix k operator place idle o r → IsPrefix k operator place idle o s → r ≡ s
  prefix_one prefix_of.Negate place idle o r s p q = one k (applied builtin.Negate place idle) (o ∷ []) r s p q
  prefix_one prefix_of.Not place idle o r s p q = one k (applied builtin.Not place idle) (o ∷ []) r s p q
  prefix_one prefix_of.Complement place idle o r s p q = one k (applied builtin.Complement place idle) (o ∷ []) r s p q
  prefix_one prefix_of.Deref place idle o r s p q = both p q
  prefix_one prefix_of.AddressOf place idle o r s p q = both p q

  call_one : (b : Option Builtin) (idle : Bool) (os : List Operand) (place : Place) (r s : Answer) → IsCall b k idle os place r → IsCall b k idle os place s → r ≡ s
  call_one None idle os place r s p q = absurd p
  call_one (Some b) idle os place r s p q = one k (applied b place idle) os r s p q

  operation_one : (place : Place) (idle : Bool) (t : Task) (r s : Answer) → OperationOf names k place idle t r → OperationOf names k place idle t s → r ≡ s
  operation_one place idle (task.Prefix operator o) r s p q = prefix_one operator place idle o r s p q
  operation_one place idle (task.Infix left operator at right) r s p q = one k (applied (infix_builtin operator) at idle) (left ∷ right ∷ []) r s p q
  operation_one place idle (task.Member whole dot member) r s p q = both p q
  operation_one place idle (task.Index whole bracket index) r s p q = both p q
  operation_one place idle (task.Call callee arguments) r s p q = call_one (row_of k.types (what_in k.facts callee.node)) idle arguments place r s p q
  operation_one place idle t r s p q = absurd p

  named_one : (node : ℕ) (place : Place) (t : Task) (r s : Answer) → NamedOf uses names k node place t r → NamedOf uses names k node place t s → r ≡ s
  named_one node place (task.Name name) r s p q = both p q
  named_one node place (task.Template name arguments) r s p q = both p q
  named_one node place (task.Argument list name at) r s p q = both p q
  named_one node place t r s p q = absurd p

  assigned_one : (o : Operand) (to : Option ShadeType) (r s : Answer) → IsConverted k o to r → IsConverted k o to s → r ≡ s
  assigned_one o None r s p q = both p q
  assigned_one o (Some to) r s p q = p.2 ∙ ap checked (converts k false o to p.0 q.0 p.1 q.1) ∙ sym q.2

  after_one : (ty : Option ShadeType) (o : Operand) (given r s : Answer) → AfterOperator ty o given r → AfterOperator ty o given s → r ≡ s
  after_one ty o (Err f) r s p q = both p q
  after_one ty o (Ok (found.Value to op v)) r s (inl p) (inl q) = both p.1 q.1
  after_one ty o (Ok (found.Value to op v)) r s (inl p) (inr q) = absurd (q.0 p.0)
  after_one ty o (Ok (found.Value to op v)) r s (inr p) (inl q) = absurd (p.0 q.0)
  after_one ty o (Ok (found.Value to op v)) r s (inr p) (inr q) = both p.1 q.1
  after_one ty o (Ok (found.Reference to space access part v)) r s p q = both p q
  after_one ty o (Ok (found.Type to bad)) r s p q = both p q
  after_one ty o (Ok (found.Known w)) r s p q = both p q
  after_one ty o (Ok found.Nothing) r s p q = both p q

  asked_one : (told : Answer) (a : Application) (os : List Operand) (r s : Answer) → AfterTypes told k a os r → AfterTypes told k a os s → r ≡ s
  asked_one (Err f) a os r s p q = both p q
  asked_one (Ok f) a os r s p q = p.2 ∙ ap unless_fault (one k a os p.0 q.0 p.1 q.1) ∙ sym q.2

  compound_one : (operator : OpAssign) (at : Place) (target value : Operand) (r s : Answer) → IsCompound k operator at target value r → IsCompound k operator at target value s → r ≡ s
  compound_one operator at target value r s p q =
      let same : p.0 ≡ q.0 = one k (applied (compound_builtin operator) at true) (target ∷ value ∷ []) p.0 q.0 p.2 q.2 in
      let told : p.1 ≡ q.1 =
      after_one (type_of_node k target.node) value q.0 p.1 q.1 (subst (λ z. AfterOperator (type_of_node k target.node) value z p.1) same p.3) q.3 in
      asked_one q.1 (applied (compound_builtin operator) at false) (target ∷ value ∷ []) r s
      (subst (λ z. AfterTypes z k (applied (compound_builtin operator) at false) (target ∷ value ∷ []) r) told p.4) q.4

  statement_one : (node : ℕ) (place : Place) (t : Task) (r s : Answer) → StatementOf k node place t r → StatementOf k node place t s → r ≡ s
  statement_one node place task.Condition r s p q = both p q
  statement_one node place (task.Asserts keyword) r s p q = both p q
  statement_one node place task.Target r s p q = both p q
  statement_one node place (task.Assigns value) r s p q = assigned_one value (type_of_node k node) r s p q
  statement_one node place (task.Compound operator at value) r s p q = compound_one operator at (record { node = node; place = place }) value r s p q
  statement_one node place (task.Increment at) r s p q = both p q
  statement_one node place (task.Decrement at) r s p q = both p q
  statement_one node place t r s p q = absurd p

  bound_one : (o : Operand) (to : Option ShadeType) (r s : Answer) → IsBound k o to r → IsBound k o to s → r ≡ s
  bound_one o None r s p q = both p q
  bound_one o (Some to) r s p q = p.2 ∙ ap (bound to) (converts k false o to p.0 q.0 p.1 q.1) ∙ sym q.2

  typed_one : (ty : Option Operand) (o : Operand) (r s : Answer) → ByType k ty o r → ByType k ty o s → r ≡ s
  typed_one None o r s p q = both p q
  typed_one (Some ty) o r s p q = bound_one o (written_type k ty.node) r s p q

  constness_one : (v : Option Value) (ty : Option Operand) (o : Operand) (r s : Answer) → ByConstness v k ty o r → ByConstness v k ty o s → r ≡ s
  constness_one None ty o r s p q = both p q
  constness_one (Some v) ty o r s p q = typed_one ty o r s p q

  returned_one : (given : Option TypeId) (value : Option Operand) (place : Place) (r s : Answer) → IsReturned k given value place r → IsReturned k given value place s → r ≡ s
  returned_one None None place r s p q = both p q
  returned_one None (Some value) place r s p q = both p q
  returned_one (Some id) None place r s p q = both p q
  returned_one (Some id) (Some value) place r s p q = assigned_one value (slice_get k.types.types id.0) r s p q

  declared_one : (node : ℕ) (place : Place) (t : Task) (r s : Answer) → DeclaredOf k node place t r → DeclaredOf k node place t s → r ≡ s
  declared_one node place (task.IsType wanted) r s p q = both p q
  declared_one node place (task.Alias ty) r s p q = both p q
  declared_one node place task.Result r s p q = both p q
  declared_one node place (task.Constant ty value) r s p q = constness_one (value_of_node k.facts value.node) ty value r s p q
  declared_one node place (task.Returns function value) r s p q = returned_one (result_of (what_in k.facts function)) value place r s p q
  declared_one node place t r s p q = absurd p

  profile_one : (place : Place) (t : Task) (r s : Answer) → ProfileOf names place t r → ProfileOf names place t s → r ≡ s
  profile_one place task.Discards r s p q = both p q
  profile_one place task.Override r s p q = both p q
  profile_one place (task.Requires name) r s p q = both p q
  profile_one place (task.Enables first) r s p q = both p q
  profile_one place t r s p q = absurd p

  rule_one : (node : ℕ) (place : Place) (idle : Bool) (t : Task) (r s : Answer) → RuleOf uses names k node place idle t r → RuleOf uses names k node place idle t s → r ≡ s
  rule_one node place idle task.IsValue r s p q = both p q
  rule_one node place idle task.IsOperand r s p q = both p q
  rule_one node place idle (task.Decides operator left) r s p q = both p q
  rule_one node place idle (task.Number value suffix) r s p q = both p q
  rule_one node place idle (task.Truth b) r s p q = both p q
  rule_one node place idle (task.Argument list name at) r s p q = both p q
  rule_one node place idle (task.Paren inner) r s p q = both p q
  rule_one node place idle (task.Name name) r s p q = both p q
  rule_one node place idle (task.Template name arguments) r s p q = both p q
  rule_one node place idle task.Condition r s p q = both p q
  rule_one node place idle (task.Asserts keyword) r s p q = both p q
  rule_one node place idle task.Target r s p q = both p q
  rule_one node place idle (task.Assigns value) r s p q = statement_one node place (task.Assigns value) r s p q
  rule_one node place idle (task.Compound operator at value) r s p q = statement_one node place (task.Compound operator at value) r s p q
  rule_one node place idle (task.Increment at) r s p q = both p q
  rule_one node place idle (task.Decrement at) r s p q = both p q
  rule_one node place idle (task.IsType wanted) r s p q = declared_one node place (task.IsType wanted) r s p q
  rule_one node place idle (task.Alias ty) r s p q = declared_one node place (task.Alias ty) r s p q
  rule_one node place idle task.Result r s p q = declared_one node place task.Result r s p q
  rule_one node place idle (task.Constant ty value) r s p q = declared_one node place (task.Constant ty value) r s p q
  rule_one node place idle (task.Returns function value) r s p q = declared_one node place (task.Returns function value) r s p q
  rule_one node place idle task.Discards r s p q = profile_one place task.Discards r s p q
  rule_one node place idle task.Override r s p q = profile_one place task.Override r s p q
  rule_one node place idle (task.Requires name) r s p q = profile_one place (task.Requires name) r s p q
  rule_one node place idle (task.Enables first) r s p q = profile_one place (task.Enables first) r s p q
  rule_one node place idle t r s p q = operation_one place idle t r s p q

pub steps_find_one_thing : OperatesInOneWay → ConvertsInOneWay → StepsFindOneThing
steps_find_one_thing one converts uses names k s r t p q = rule_one one converts uses names k s.node s.place (is_idle k.facts s.under) s.task r t p q
