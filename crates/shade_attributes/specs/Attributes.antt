-- Rule: attributes. (WGSL, "Attributes", "Built-in Inputs and Outputs", "Const-Expressions".) An attribute out of the profile is told at its `@`, and what
-- `@builtin` names out of it at the word. An argument that must be constant and is not is told at its own place. Else the rule of attributes
-- fails at the `@` where the attribute may not stand there, stands there twice, or has other arguments than it takes.
use Rattle.std.specs.Prelude.{ℕ, ℤ, pos, Bool, true, false, not, ◌&&◌, ◌==◌, List, [], ◌∷◌, ◌++◌, Option, Some, None, is_some, slice_get, Ok, Err, if◌then◌else◌}
use Rattle.std.specs.List.{list_any}
use Rattle.shade_base.specs.declared.place.Place.{Place}
use Rattle.shade_ast.specs.declared.attr.AttrName.{AttrName}
use Rattle.shade_ast.specs.declared.attr.AttrName.TheVariants as attr
use Rattle.shade_ast.specs.Lexemes.{named_in}
use Rattle.shade_evaluate.specs.declared.fault.ConstFault.TheVariants as const_fault
use Rattle.shade_known.specs.declared.known.Found.{Found}
use Rattle.shade_known.specs.declared.known.Found.TheVariants as found
use Rattle.shade_known.specs.declared.known.Known.{Known}
use Rattle.shade_known.specs.declared.known.Operand.{Operand}
use Rattle.shade_known.specs.declared.known.What.{What}
use Rattle.shade_known.specs.declared.known.What.TheVariants as what
use Rattle.shade_known.specs.declared.fault.TypingFault.{TypingFault}
use Rattle.shade_known.specs.declared.fault.TypingFault.TheVariants as fault
use Rattle.shade_known.specs.declared.fault.TypeRule.TheVariants as rule
use Rattle.shade_known.specs.Lookups.{what_in, value_of_node}
use Rattle.shade_steps.specs.declared.step.AttrParts.{AttrParts}
use Rattle.shade_steps.specs.declared.step.Position.{Position}
use Rattle.shade_steps.specs.declared.step.Position.TheVariants as position
use Rattle.shade_typing.specs.Values.{Answer, breaks}
use Rattle.shade_attributes.specs.declared.words.Kind.{Kind}
use Rattle.shade_attributes.specs.declared.words.Kind.TheVariants as kind
use Rattle.shade_attributes.specs.Words.{attr_text, input_by, integer_of, kind_words}

-- ---- where an attribute may stand

abbrev pub at_variable : Position → Bool
at_variable position.Variable = true
at_variable _ = false

abbrev pub at_function : Position → Bool
at_function position.Function = true
at_function _ = false

-- only a parameter of an entry, and a member of a struct, which may be the type of one
abbrev pub at_input : Position → Bool
at_input position.Input = true
at_input position.Member = true
at_input _ = false

abbrev pub at_range : Position → Bool
at_range position.Function = true
at_range position.Range = true
at_range _ = false

abbrev pub may_stand : Kind → Position → Bool
may_stand kind.Compute at = at_function at
may_stand kind.WorkgroupSize at = at_function at
may_stand kind.Group at = at_variable at
may_stand kind.Binding at = at_variable at
may_stand kind.Builtin at = at_input at
may_stand kind.MustUse at = at_function at
may_stand kind.Diagnostic at = at_range at

-- ---- whether it stands there twice

-- the names of the attributes so far before the same thing, which are known of the first of them
abbrev pub seen_in : Option What → List ℕ
seen_in (Some (what.Attributes seen)) = seen
seen_in _ = []

-- a diagnostic filter may be repeated
abbrev pub is_repeated : List ℕ → AttrName → Bool
is_repeated seen (attr.Name n) = list_any (λ m. m == n.name) seen
is_repeated seen (attr.Diagnostic place) = false
is_repeated seen (attr.Const place) = false

abbrev pub seen_found : List ℕ → AttrName → Found
seen_found seen (attr.Name n) = found.Known (what.Attributes (seen ++ n.name ∷ []))
seen_found seen (attr.Diagnostic place) = found.Nothing
seen_found seen (attr.Const place) = found.Nothing

-- ---- its arguments

-- empty parentheses hold no arguments
abbrev pub given : Option (List Operand) → List Operand
given None = []
given (Some operands) = operands

abbrev pub are_none : List Operand → Bool
are_none [] = true
are_none _ = false

abbrev pub are_up_to_three : List Operand → Bool
are_up_to_three (x ∷ []) = true
are_up_to_three (x ∷ y ∷ []) = true
are_up_to_three (x ∷ y ∷ z ∷ []) = true
are_up_to_three _ = false

abbrev pub is_natural : Option ℤ → Bool
is_natural (Some (pos n)) = true
is_natural _ = false

-- one integer, which is not negative
abbrev pub are_index : Known → List Operand → Bool
are_index k (x ∷ []) = is_natural (integer_of k x.node)
are_index k _ = false

abbrev pub takes : Kind → Known → AttrParts → Bool
takes kind.Compute k parts = are_none (given parts.arguments)
takes kind.WorkgroupSize k parts = are_up_to_three (given parts.arguments)
takes kind.Group k parts = are_index k (given parts.arguments)
takes kind.Binding k parts = are_index k (given parts.arguments)
takes kind.Builtin k parts = is_some parts.word
takes kind.MustUse k parts = are_none (given parts.arguments)
takes kind.Diagnostic k parts = parts.filter

-- ---- what is told of the arguments themselves

abbrev pub word_fault_by : Option (List ℕ) → Place → Option TypingFault
word_fault_by None place = None
word_fault_by (Some text) place = if is_some (input_by (Some text)) then None else Some (fault.OutOfProfile place text)

-- the only argument of a `@builtin`, which is a name
abbrev pub word_fault : List (List ℕ) → List Operand → Option ℕ → Option TypingFault
word_fault names (x ∷ []) (Some word) = word_fault_by (slice_get names word) x.place
word_fault names _ _ = None

-- the first argument that is no constant
abbrev pub constant_fault : List (Option What) → List Operand → Option TypingFault
constant_fault facts [] = None
constant_fault facts (x ∷ others) =
    if is_some (value_of_node facts x.node) then constant_fault facts others else Some (fault.Constant (const_fault.NotConstant x.place))

abbrev pub argument_fault : Kind → List (List ℕ) → Known → AttrParts → Option TypingFault
argument_fault kind.Compute names k parts = None
argument_fault kind.WorkgroupSize names k parts = constant_fault k.facts (given parts.arguments)
argument_fault kind.Group names k parts = constant_fault k.facts (given parts.arguments)
argument_fault kind.Binding names k parts = constant_fault k.facts (given parts.arguments)
argument_fault kind.Builtin names k parts = word_fault names (given parts.arguments) parts.word
argument_fault kind.MustUse names k parts = None
argument_fault kind.Diagnostic names k parts = None

-- ---- the attribute

abbrev pub is_right : Kind → Known → List ℕ → AttrParts → Bool
is_right taken k seen parts = may_stand taken parts.position && not (is_repeated seen parts.name) && takes taken k parts

abbrev pub by_fault : Option TypingFault → Bool → Found → Place → Answer
by_fault (Some f) right made place = Err f
by_fault None right made place = if right then Ok made else breaks place rule.Attribute

abbrev pub by_seen : List ℕ → Kind → List (List ℕ) → Known → AttrParts → Place → Answer
by_seen seen taken names k parts place =
    by_fault (argument_fault taken names k parts) (is_right taken k seen parts) (seen_found seen parts.name) place

abbrev pub by_kind : Option Kind → List ℕ → List (List ℕ) → Known → AttrParts → Place → Answer
by_kind None text names k parts place = Err (fault.OutOfProfile place text)
by_kind (Some taken) text names k parts place = by_seen (seen_in (what_in k.facts parts.first)) taken names k parts place

abbrev pub by_text : Option (List ℕ) → List (List ℕ) → Known → AttrParts → Place → Answer
by_text None names k parts place = Ok found.Nothing
by_text (Some text) names k parts place = by_kind (named_in kind_words text) text names k parts place

-- an attribute whose `@` stands at this place; what is found is known of the first attribute before the same thing
abbrev pub attribute_answer : List (List ℕ) → Known → AttrParts → Place → Answer
attribute_answer names k parts place = by_text (attr_text names parts.name) names k parts place
