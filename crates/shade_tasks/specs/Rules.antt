-- Rule: what each step finds of its node, by what is known before it, or the fault: each step of an expression but for calls of arrays, of structs
-- and of functions of the text; of statements conditions, assertions, targets, what changes them, `return` and `discard`; of declarations types,
-- aliases, types of results, constants, and what is out of the profile.
use Rattle.std.specs.Prelude.{◌≡◌, ℕ, Bool, true, false, List, Option, None, Some, is_some, codes, Ok, slice_get}
use Rattle.shade_base.specs.declared.place.Place.{Place}
use Rattle.shade_overload.specs.declared.builtin.Builtin.{Builtin}
use Rattle.shade_scope.specs.declared.scoped.Meaning.{Meaning}
use Rattle.shade_known.specs.declared.known.Known.{Known}
use Rattle.shade_known.specs.declared.known.Operand.{Operand}
use Rattle.shade_known.specs.Lookups.{what_in, is_idle}
use Rattle.shade_known.specs.Operates.{Operates}
use Rattle.shade_steps.specs.declared.step.Step.{Step}
use Rattle.shade_steps.specs.declared.step.Task.{Task}
use Rattle.shade_steps.specs.declared.step.Task.TheVariants as task
use Rattle.shade_typing.specs.Values.{Answer, number_found, truth_found, same_found, as_value, as_operand, as_condition, as_assertion, decided_found}
use Rattle.shade_typing.specs.Assignments.{as_target, as_stepped, IsAssigned}
use Rattle.shade_typing.specs.Operators.{applied, IsInfix, IsPrefix}
use Rattle.shade_typing.specs.Parts.{member_answer, element_answer}
use Rattle.shade_calls.specs.Calls.{row_of}
use Rattle.shade_calls.specs.Names.{name_answer}
use Rattle.shade_calls.specs.Templates.{template_answer}
use Rattle.shade_tasks.specs.Arguments.{as_argument}
use Rattle.shade_tasks.specs.Compounds.{IsCompound}
use Rattle.shade_tasks.specs.Declared.{as_type, alias_found, as_result, IsConstant, result_of, IsReturned}
use Rattle.shade_tasks.specs.Profile.{out, required, enabled, text_by}

-- a call whose callee is a row of the table
abbrev pub IsCall : Option Builtin → Known → Bool → List Operand → Place → Answer → Type 0
IsCall (Some b) k idle arguments place r = Operates k (applied b place idle) arguments r
IsCall None k idle arguments place r = ⊥

-- ---- the tasks

-- operators, accesses and calls
abbrev pub OperationOf : List (List ℕ) → Known → Place → Bool → Task → Answer → Type 0
OperationOf names k place idle (task.Prefix operator operand) r = IsPrefix k operator place idle operand r
OperationOf names k place idle (task.Infix left operator at right) r = IsInfix k operator at idle left right r
OperationOf names k place idle (task.Member whole dot member) r = r ≡ member_answer k whole (slice_get names member.name) place
OperationOf names k place idle (task.Index whole bracket index) r = r ≡ element_answer k idle whole index bracket place
OperationOf names k place idle (task.Call callee arguments) r = IsCall (row_of k.types (what_in k.facts callee.node)) k idle arguments place r
OperationOf names k place idle _ r = ⊥

-- names, with or without a template list, and what stands in one
abbrev pub NamedOf : List (Option Meaning) → List (List ℕ) → Known → ℕ → Place → Task → Answer → Type 0
NamedOf uses names k node place (task.Name name) r = r ≡ name_answer uses names k node name place
NamedOf uses names k node place (task.Template name arguments) r = r ≡ template_answer uses names k node name arguments place
NamedOf uses names k node place (task.Argument list name at) r = r ≡ as_argument uses names k list name at node place
NamedOf uses names k node place _ r = ⊥

-- conditions, assertions, targets and what changes them
abbrev pub StatementOf : Known → ℕ → Place → Task → Answer → Type 0
StatementOf k node place task.Condition r = r ≡ as_condition k node place
StatementOf k node place (task.Asserts keyword) r = r ≡ as_assertion k node place keyword
StatementOf k node place task.Target r = r ≡ as_target k (record { node = node; place = place })
StatementOf k node place (task.Assigns value) r = IsAssigned k (record { node = node; place = place }) value r
StatementOf k node place (task.Compound operator at value) r = IsCompound k operator at (record { node = node; place = place }) value r
StatementOf k node place (task.Increment at) r = r ≡ as_stepped k (record { node = node; place = place }) at
StatementOf k node place (task.Decrement at) r = r ≡ as_stepped k (record { node = node; place = place }) at
StatementOf k node place _ r = ⊥

-- types, aliases, types of results, constants and `return`
abbrev pub DeclaredOf : Known → ℕ → Place → Task → Answer → Type 0
DeclaredOf k node place (task.IsType wanted) r = r ≡ as_type k wanted node place
DeclaredOf k node place (task.Alias ty) r = r ≡ alias_found k ty
DeclaredOf k node place task.Result r = r ≡ as_result k node place
DeclaredOf k node place (task.Constant ty value) r = IsConstant k ty value r
DeclaredOf k node place (task.Returns function value) r = IsReturned k (result_of (what_in k.facts function)) value place r
DeclaredOf k node place _ r = ⊥

-- what is out of the profile
abbrev pub ProfileOf : List (List ℕ) → Place → Task → Answer → Type 0
ProfileOf names place task.Discards r = r ≡ out place (codes "discard")
ProfileOf names place task.Override r = r ≡ out place (codes "override")
ProfileOf names place (task.Requires name) r = r ≡ required (slice_get names name) place
ProfileOf names place (task.Enables first) r = r ≡ enabled (text_by names first) place
ProfileOf names place _ r = ⊥

-- of a node at a place, by whether nobody asks for it
abbrev pub RuleOf : List (Option Meaning) → List (List ℕ) → Known → ℕ → Place → Bool → Task → Answer → Type 0
RuleOf uses names k node place idle task.IsValue r = r ≡ as_value k node place
RuleOf uses names k node place idle task.IsOperand r = r ≡ as_operand k node place
RuleOf uses names k node place idle (task.Decides operator left) r = r ≡ Ok (decided_found k idle operator left.node)
RuleOf uses names k node place idle (task.Number value suffix) r = r ≡ Ok (number_found value suffix)
RuleOf uses names k node place idle (task.Truth b) r = r ≡ Ok (truth_found b)
RuleOf uses names k node place idle (task.Paren inner) r = r ≡ Ok (same_found k inner.node)
RuleOf uses names k node place idle (task.Name name) r = NamedOf uses names k node place (task.Name name) r
RuleOf uses names k node place idle (task.Template name arguments) r = NamedOf uses names k node place (task.Template name arguments) r
RuleOf uses names k node place idle (task.Argument list name at) r = NamedOf uses names k node place (task.Argument list name at) r
RuleOf uses names k node place idle task.Condition r = StatementOf k node place task.Condition r
RuleOf uses names k node place idle (task.Asserts keyword) r = StatementOf k node place (task.Asserts keyword) r
RuleOf uses names k node place idle task.Target r = StatementOf k node place task.Target r
RuleOf uses names k node place idle (task.Assigns value) r = StatementOf k node place (task.Assigns value) r
RuleOf uses names k node place idle (task.Compound operator at value) r = StatementOf k node place (task.Compound operator at value) r
RuleOf uses names k node place idle (task.Increment at) r = StatementOf k node place (task.Increment at) r
RuleOf uses names k node place idle (task.Decrement at) r = StatementOf k node place (task.Decrement at) r
RuleOf uses names k node place idle (task.IsType wanted) r = DeclaredOf k node place (task.IsType wanted) r
RuleOf uses names k node place idle (task.Alias ty) r = DeclaredOf k node place (task.Alias ty) r
RuleOf uses names k node place idle task.Result r = DeclaredOf k node place task.Result r
RuleOf uses names k node place idle (task.Constant ty value) r = DeclaredOf k node place (task.Constant ty value) r
RuleOf uses names k node place idle (task.Returns function value) r = DeclaredOf k node place (task.Returns function value) r
RuleOf uses names k node place idle task.Discards r = ProfileOf names place task.Discards r
RuleOf uses names k node place idle task.Override r = ProfileOf names place task.Override r
RuleOf uses names k node place idle (task.Requires name) r = ProfileOf names place (task.Requires name) r
RuleOf uses names k node place idle (task.Enables first) r = ProfileOf names place (task.Enables first) r
RuleOf uses names k node place idle other r = OperationOf names k place idle other r

abbrev pub Rule : List (Option Meaning) → List (List ℕ) → Known → Step → Answer → Type 0
Rule uses names k s r = RuleOf uses names k s.node s.place (is_idle k.facts s.under) s.task r

-- whether a task is asked here
abbrev pub is_asked : Known → Task → Bool
is_asked k task.IsValue = true
is_asked k task.IsOperand = true
is_asked k (task.Decides operator left) = true
is_asked k (task.Number value suffix) = true
is_asked k (task.Truth b) = true
is_asked k (task.Name name) = true
is_asked k (task.Template name arguments) = true
is_asked k (task.Argument list name at) = true
is_asked k (task.Paren inner) = true
is_asked k (task.Prefix operator operand) = true
is_asked k (task.Infix left operator at right) = true
is_asked k (task.Member whole dot member) = true
is_asked k (task.Index whole bracket index) = true
is_asked k (task.Call callee arguments) = is_some (row_of k.types (what_in k.facts callee.node))
is_asked k task.Condition = true
is_asked k (task.Asserts keyword) = true
is_asked k task.Target = true
is_asked k (task.Assigns value) = true
is_asked k (task.Compound operator at value) = true
is_asked k (task.Increment at) = true
is_asked k (task.Decrement at) = true
is_asked k (task.IsType wanted) = true
is_asked k (task.Alias ty) = true
is_asked k task.Result = true
is_asked k (task.Constant ty value) = true
is_asked k (task.Returns function value) = true
is_asked k task.Discards = true
is_asked k task.Override = true
is_asked k (task.Requires name) = true
is_asked k (task.Enables first) = true
is_asked k _ = false
