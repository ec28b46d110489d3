use Rattle.std.proofs.Common.{refl, ◌+◌, length, arith, ap, ◌∙◌, ◌≡◌}
use Rattle.std.proofs.lemmas.List.{length-map}
use Rattle.shade_ast.specs.declared.stmt.Continuing.{out-Continuing}
use Rattle.shade_ast.specs.declared.stmt.Otherwise.{out-Otherwise}
use Rattle.shade_ast.specs.Expressions.{Expression}
use Rattle.shade_ast.specs.Repeats.{Many, Listed}
use Rattle.shade_ast.specs.Statements.{Attribute, Statement, Selects, Block as BlockPhrase}
use Rattle.shade_parse_stmt.specs.Follows.{Above, Anything, Free, Closing, Selected}
use Rattle.shade_parse_stmt.specs.StatementParts.{Leaves, Plain, Compound, Braced, Guards, AllArms, ForHead, ForRest, ColonBlock, OneClause, SwitchRest, LoopRest, LoopEnds, ContinuingRest, LastStatements}
use Rattle.shade_ast.proofs.ShapeLaws.{grows_trans}
use Rattle.shade_cursor.specs.declared.part.Fault.TheVariants as fault
use Rattle.shade_cursor.specs.Shown.{lexeme, lexemes}
use Rattle.shade_parse_expr.specs.Reading.{Went}
use Rattle.shade_cursor.proofs.Tokens.{isnt}
use Rattle.shade_parse_stmt.proofs.Handing.{errs, answers, fault_by, ranked, unranked, fails_here, ok_of, err_of, ok_if}
use Rattle.shade_parse_stmt.proofs.Blocks.{braced_fails, braced_open, braced_tree, guard_fails, guard_body_fails, guard_tree, block_attrs_fails, block_open, block_body_fails, block_tree}
use Rattle.shade_parse_stmt.proofs.FollowSteps.{fails_to_rank}
use Rattle.shade_parse_stmt.proofs.Compounds.{by_compound, by_compound_fails, by_plain, by_plain_fails, compound_attrs_fails, compound_stuck}
use Rattle.shade_parse_stmt.proofs.CompoundTrees.{in_block_fails, in_block_tree, while_fails, while_tree, switch_fails, switch_tree, loop_fails, loop_tree, for_fails, for_tree, if_first_fails, if_others_fails, if_tree}
use Rattle.shade_parse_stmt.proofs.Loops.{statements_begin, statements_fail, statements_more, statements_tree}
use Rattle.shade_parse_stmt.proofs.Arms.{arms_begin, arms_tree, arms_fail, arms_more, else_fails, else_tree}
use Rattle.shade_parse_stmt.proofs.Fors.{for_head_fails, for_body_fails, for_rest_tree}
use Rattle.shade_parse_stmt.proofs.LoopLaws.{end_stuck, end_brace_tree, end_part_fails, end_open, end_part_tree, part_attrs_fails, part_open, part_body_fails, part_tree, loop_attrs_fails, loop_open, loop_body_fails, loop_end_fails, loop_rest_tree}
use Rattle.shade_parse_stmt.proofs.LastBodies.{last_begin, last_brace_tree, last_item_fails, last_more, last_leave_fails, last_leave_tree}
use Rattle.shade_parse_stmt.proofs.ClauseLaws.{colon_fails, colon_tree, bare_fails, bare_tree, clause_stuck, default_fails, default_tree, case_fails, case_body_fails, case_tree}
use Rattle.shade_parse_stmt.proofs.SwitchLaws.{clauses_begin, clauses_fail, clauses_more, clauses_tree}
use Rattle.shade_parse_stmt.proofs.SwitchParts.{switch_value_fails, switch_attrs_fails, switch_open, switch_clauses_fails, switch_end_open, switch_rest_tree}
use Rattle.shade_parse_stmt.proofs.statements.+statement.Goals as goal

pub braced-returns-in_err-list-clause-tree : goal.braced-returns-in_err-list-clause-tree
braced-returns-in_err-list-clause-tree t c = errs _ c.in_err-list.field-0.0 _ _ c.from_residual.ensures.1
    (fault_by Braced (Many Statement) Anything Closing (lexemes c.args.pieces.now) c.args.names.now c.args.names.now _ c.args.from c.args.from c.in_err-list.field-0.0 (omega (arith))
    (λ to x. braced_fails (lexemes c.args.pieces.now) c.args.from (omega (arith, length-map c.args.pieces.now lexeme, c.requires.can.within)) to x) c.in_err-list.ensures.tree)

pub braced-returns-in_default-clause-tree : goal.braced-returns-in_default-clause-tree
braced-returns-in_default-clause-tree t c = fails_here Braced Anything (lexemes c.args.pieces.now) c.args.names.now _ c.args.from c.in_ok-list.list.end
    (omega (arith, c.in_ok-list.ensures.went.few))
    (braced_open (lexemes c.args.pieces.now) c.args.from (omega (arith, length-map c.args.pieces.now lexeme, c.requires.can.within)) _ c.args.node c.in_ok-list.list c.in_ok-list.ensures.tree
    (λ p is. c.in_default.ensures.value p is))

pub braced-returns-clause-tree : goal.braced-returns-clause-tree
braced-returns-clause-tree t c = braced_tree (lexemes c.args.pieces.now) c.args.from (omega (arith, length-map c.args.pieces.now lexeme, c.requires.can.within)) _ c.args.node c.in_ok-list.list c.in_ok-list.ensures.tree c.in-Some.end c.in-Some.ensures.value

pub guarded-returns-in_err-condition-clause-tree : goal.guarded-returns-in_err-condition-clause-tree
guarded-returns-in_err-condition-clause-tree t c = errs _ c.in_err-condition.field-0.0 _ _ c.from_residual.ensures.1
    (fault_by Guards Expression (Above 0) (Above 7) (lexemes c.args.pieces.now) c.args.names.now c.args.names.now _ c.args.from c.args.from c.in_err-condition.field-0.0 (omega (arith))
    (λ to x. guard_fails (lexemes c.args.pieces.now) c.args.from (omega (arith, length-map c.args.pieces.now lexeme, c.requires.can.within)) to x)
    (ranked Expression 7 (lexemes c.args.pieces.now) c.args.names.now _ c.args.from c.in_err-condition.field-0.0 c.in_err-condition.ensures.tree))

pub guarded-returns-in-Err-clause-tree : goal.guarded-returns-in-Err-clause-tree
guarded-returns-in-Err-clause-tree t c = errs _ c.in-Err.fault _ _ c.refuse.ensures
    (fault_by Guards BlockPhrase (Above 0) (Above 0) (lexemes c.args.pieces.now) c.args.names.now _ _ c.args.from c.in_ok-condition.condition.end c.in-Err.fault
    (omega (arith, c.in_ok-condition.ensures.went.few))
    (λ to x. guard_body_fails (lexemes c.args.pieces.now) c.args.from (omega (arith, length-map c.args.pieces.now lexeme, c.requires.can.within)) _ c.args.node c.in_ok-condition.condition
    c.in_ok-condition.ensures.tree to x) (ranked BlockPhrase 0 (lexemes c.args.pieces.now) _ _ c.in_ok-condition.condition.end c.in-Err.fault c.in-Err.ensures.tree))

pub guarded-returns-clause-tree : goal.guarded-returns-clause-tree
guarded-returns-clause-tree t c = guard_tree (lexemes c.args.pieces.now) c.args.from (omega (arith, length-map c.args.pieces.now lexeme, c.requires.can.within)) _ _ c.args.node c.in_ok-condition.condition c.in_ok-condition.ensures.tree c.in-Ok.ensures.grows c.in-Ok.body c.in-Ok.ensures.tree

pub block-returns-in_err-attrs-clause-tree : goal.block-returns-in_err-attrs-clause-tree
block-returns-in_err-attrs-clause-tree t c = errs _ c.in_err-attrs.field-0.0 _ _ c.from_residual.ensures.1
    (unranked BlockPhrase 0 (lexemes c.args.pieces.now) c.args.names.now _ c.args.from c.in_err-attrs.field-0.0
    (fault_by BlockPhrase (Many Attribute) (Above 0) (Above 8) (lexemes c.args.pieces.now) c.args.names.now c.args.names.now _ c.args.from c.args.from c.in_err-attrs.field-0.0
    (omega arith) (λ to x. block_attrs_fails (lexemes c.args.pieces.now) c.args.from (omega (arith, length-map c.args.pieces.now lexeme, c.requires.can.within)) to x)
    (ranked (Many Attribute) 8 (lexemes c.args.pieces.now) c.args.names.now _ c.args.from c.in_err-attrs.field-0.0 c.in_err-attrs.ensures.tree)))

pub block-returns-in_default-clause-tree : goal.block-returns-in_default-clause-tree
block-returns-in_default-clause-tree t c = record {
  fails = fails_to_rank BlockPhrase 0 (lexemes c.args.pieces.now) c.args.from c.in_ok-attrs.attrs.end
      (block_open (lexemes c.args.pieces.now) c.args.from (omega (arith, length-map c.args.pieces.now lexeme, c.requires.can.within)) _ c.args.node c.in_ok-attrs.attrs c.in_ok-attrs.ensures.tree
      (λ p is. c.in_default.ensures.value p is));
  few = c.in_ok-attrs.ensures.went.few;
}

pub block-returns-in_err-body-clause-tree : goal.block-returns-in_err-body-clause-tree
block-returns-in_err-body-clause-tree t c = errs _ c.in_err-body.field-0.0 _ _ c.from_residual-in_err-body.ensures.1
    (unranked BlockPhrase 0 (lexemes c.args.pieces.now) c.args.names.now _ c.args.from c.in_err-body.field-0.0
    (fault_by BlockPhrase Braced (Above 0) Anything (lexemes c.args.pieces.now) c.args.names.now _ _ c.args.from (c.in_ok-attrs.attrs.end + 1) c.in_err-body.field-0.0
    (omega (arith, c.in_ok-attrs.ensures.went.few))
    (λ to x. block_body_fails (lexemes c.args.pieces.now) c.args.from (omega (arith, length-map c.args.pieces.now lexeme, c.requires.can.within)) _ c.args.node c.in_ok-attrs.attrs
    c.in_ok-attrs.ensures.tree c.in-Some.place c.in-Some.ensures.value to x) c.in_err-body.ensures.tree))

pub block-returns-clause-tree : goal.block-returns-clause-tree
block-returns-clause-tree t c = block_tree (lexemes c.args.pieces.now) c.args.from (omega (arith, length-map c.args.pieces.now lexeme, c.requires.can.within)) _ _ c.args.node c.in_ok-attrs.attrs
    c.in_ok-attrs.ensures.tree c.in-Some.place c.in-Some.ensures.value c.in_ok-body.ensures.grows c.in_ok-body.body c.in_ok-body.ensures.tree _ c.block_of.ensures.tree c.block_of.ensures.end
    c.block_of.ensures.node

pub statement-returns-then-begins_compound-clause-tree : goal.statement-returns-then-begins_compound-clause-tree
statement-returns-then-begins_compound-clause-tree t c = answers c.compound.result _ _ _ _
    (λ s x. by_compound (lexemes c.args.pieces.now) c.args.from (omega (arith, length-map c.args.pieces.now lexeme, c.requires.can.within)) c.if-begins_compound.ensures.value _ c.args.node s x)
    (λ g x. fault_by Statement Compound Free Free (lexemes c.args.pieces.now) c.args.names.now c.args.names.now _ c.args.from c.args.from g (omega arith)
    (λ to y. by_compound_fails (lexemes c.args.pieces.now) c.args.from (omega (arith, length-map c.args.pieces.now lexeme, c.requires.can.within)) c.if-begins_compound.ensures.value to y) x)
    c.compound.ensures.tree

pub statement-returns-clause-tree : goal.statement-returns-clause-tree
statement-returns-clause-tree t c = answers c.plain.result _ _ _ _
    (λ s x. by_plain (lexemes c.args.pieces.now) c.args.from (omega (arith, length-map c.args.pieces.now lexeme, c.requires.can.within)) c.if-begins_compound.ensures.value _ c.args.node s x)
    (λ g x. fault_by Statement Plain Free Anything (lexemes c.args.pieces.now) c.args.names.now c.args.names.now _ c.args.from c.args.from g (omega arith)
    (λ to y. by_plain_fails (lexemes c.args.pieces.now) c.args.from (omega (arith, length-map c.args.pieces.now lexeme, c.requires.can.within)) c.if-begins_compound.ensures.value to y) x)
    c.plain.ensures.tree

pub compound-returns-in_err-attrs-clause-tree : goal.compound-returns-in_err-attrs-clause-tree
compound-returns-in_err-attrs-clause-tree t c = errs _ c.in_err-attrs.field-0.0 _ _ c.from_residual.ensures.1
    (fault_by Compound (Many Attribute) Free (Above 8) (lexemes c.args.pieces.now) c.args.names.now c.args.names.now _ c.args.from c.args.from c.in_err-attrs.field-0.0 (omega (arith))
    (λ to x. compound_attrs_fails (lexemes c.args.pieces.now) c.args.from (omega (arith, length-map c.args.pieces.now lexeme, c.requires.can.within)) to x)
    (ranked (Many Attribute) 8 (lexemes c.args.pieces.now) c.args.names.now _ c.args.from c.in_err-attrs.field-0.0 c.in_err-attrs.ensures.tree))

pub compound-returns-in_err-body-clause-tree : goal.compound-returns-in_err-body-clause-tree
compound-returns-in_err-body-clause-tree t c = errs _ c.in_err-body.field-0.0 _ _ c.from_residual-in_err-body.ensures.1
    (fault_by Compound Braced Free Anything (lexemes c.args.pieces.now) c.args.names.now _ _ c.args.from (c.in_ok-attrs.attrs.end + 1) c.in_err-body.field-0.0
    (omega (arith, c.in_ok-attrs.ensures.went.few))
    (λ to x. in_block_fails (lexemes c.args.pieces.now) c.args.from (omega (arith, length-map c.args.pieces.now lexeme, c.requires.can.within)) _ c.args.node c.in_ok-attrs.attrs
    c.in_ok-attrs.ensures.tree c.in-Some.place c.in-Some.ensures.value to x) c.in_err-body.ensures.tree)

pub compound-returns-in-Some-clause-tree : goal.compound-returns-in-Some-clause-tree
compound-returns-in-Some-clause-tree t c = in_block_tree (lexemes c.args.pieces.now) c.args.from (omega (arith, length-map c.args.pieces.now lexeme, c.requires.can.within)) _ _ c.args.node
    c.in_ok-attrs.attrs c.in_ok-attrs.ensures.tree c.in-Some.place c.in-Some.ensures.value c.in_ok-body.ensures.grows c.in_ok-body.body c.in_ok-body.ensures.tree _
    c.block_statement.ensures.tree c.block_statement.ensures.end c.block_statement.ensures.node

pub compound-returns-in_err-first-clause-tree : goal.compound-returns-in_err-first-clause-tree
compound-returns-in_err-first-clause-tree t c = errs _ c.in_err-first.field-0.0 _ _ c.from_residual-in_err-first.ensures.1
    (fault_by Compound Guards Free (Above 0) (lexemes c.args.pieces.now) c.args.names.now _ _ c.args.from (c.in_ok-attrs.attrs.end + 1) c.in_err-first.field-0.0
    (omega (arith, c.in_ok-attrs.ensures.went.few))
    (λ to x. if_first_fails (lexemes c.args.pieces.now) c.args.from (omega (arith, length-map c.args.pieces.now lexeme, c.requires.can.within)) _ c.args.node c.in_ok-attrs.attrs
    c.in_ok-attrs.ensures.tree c.in-Some-key_at.keyword c.in-Some-key_at.ensures.value to x) c.in_err-first.ensures.tree)

pub compound-returns-in-Err-clause-tree : goal.compound-returns-in-Err-clause-tree
compound-returns-in-Err-clause-tree t c = errs _ c.in-Err.fault _ _ c.refuse.ensures
    (fault_by Compound AllArms Free Free (lexemes c.args.pieces.now) c.args.names.now _ _ c.args.from c.in_ok-first.first.end c.in-Err.fault
    (omega (arith, c.in_ok-attrs.ensures.went.few, c.in_ok-first.ensures.went.few))
    (λ to x. if_others_fails (lexemes c.args.pieces.now) c.args.from (omega (arith, length-map c.args.pieces.now lexeme, c.requires.can.within)) _ _ c.args.node c.in_ok-attrs.attrs
    c.in_ok-attrs.ensures.tree c.in-Some-key_at.keyword c.in-Some-key_at.ensures.value c.in_ok-first.ensures.grows c.in_ok-first.first c.in_ok-first.ensures.tree to x)
    c.in-Err.ensures.tree)

pub compound-returns-in-Some-key_at-clause-tree : goal.compound-returns-in-Some-key_at-clause-tree
compound-returns-in-Some-key_at-clause-tree t c = if_tree (lexemes c.args.pieces.now) c.args.from (omega (arith, length-map c.args.pieces.now lexeme, c.requires.can.within)) _ _ _ c.args.node
    c.in_ok-attrs.attrs c.in_ok-attrs.ensures.tree c.in-Some-key_at.keyword c.in-Some-key_at.ensures.value c.in_ok-first.ensures.grows c.in_ok-first.first c.in_ok-first.ensures.tree
    c.in-Ok.ensures.grows c.in-Ok.others c.in-Ok.ensures.tree _ c.if_statement.ensures

pub compound-returns-in_err-rest-clause-tree : goal.compound-returns-in_err-rest-clause-tree
compound-returns-in_err-rest-clause-tree t c = errs _ c.in_err-rest.field-0.0 _ _ c.from_residual-in_err-rest.ensures.1
    (fault_by Compound SwitchRest Free Anything (lexemes c.args.pieces.now) c.args.names.now _ _ c.args.from (c.in_ok-attrs.attrs.end + 1) c.in_err-rest.field-0.0
    (omega (arith, c.in_ok-attrs.ensures.went.few))
    (λ to x. switch_fails (lexemes c.args.pieces.now) c.args.from (omega (arith, length-map c.args.pieces.now lexeme, c.requires.can.within)) _ c.args.node c.in_ok-attrs.attrs
    c.in_ok-attrs.ensures.tree c.in-Some-key_at-2.keyword c.in-Some-key_at-2.ensures.value to x) c.in_err-rest.ensures.tree)

pub compound-returns-in-Some-key_at-2-clause-tree : goal.compound-returns-in-Some-key_at-2-clause-tree
compound-returns-in-Some-key_at-2-clause-tree t c = switch_tree (lexemes c.args.pieces.now) c.args.from (omega (arith, length-map c.args.pieces.now lexeme, c.requires.can.within)) _ _
    c.args.node c.in_ok-attrs.attrs c.in_ok-attrs.ensures.tree c.in-Some-key_at-2.keyword c.in-Some-key_at-2.ensures.value c.in_ok-rest.ensures.grows c.in_ok-rest.rest
    c.in_ok-rest.ensures.tree _ c.switch_statement.ensures

pub compound-returns-in_err-rest-2-clause-tree : goal.compound-returns-in_err-rest-2-clause-tree
compound-returns-in_err-rest-2-clause-tree t c = errs _ c.in_err-rest-2.field-0.0 _ _ c.from_residual-in_err-rest-2.ensures.1
    (fault_by Compound LoopRest Free Anything (lexemes c.args.pieces.now) c.args.names.now _ _ c.args.from (c.in_ok-attrs.attrs.end + 1) c.in_err-rest-2.field-0.0
    (omega (arith, c.in_ok-attrs.ensures.went.few))
    (λ to x. loop_fails (lexemes c.args.pieces.now) c.args.from (omega (arith, length-map c.args.pieces.now lexeme, c.requires.can.within)) _ c.args.node c.in_ok-attrs.attrs
    c.in_ok-attrs.ensures.tree c.in-Some-key_at-3.keyword c.in-Some-key_at-3.ensures.value to x) c.in_err-rest-2.ensures.tree)

pub compound-returns-in-Some-key_at-3-clause-tree : goal.compound-returns-in-Some-key_at-3-clause-tree
compound-returns-in-Some-key_at-3-clause-tree t c = loop_tree (lexemes c.args.pieces.now) c.args.from (omega (arith, length-map c.args.pieces.now lexeme, c.requires.can.within)) _ _ c.args.node
    c.in_ok-attrs.attrs c.in_ok-attrs.ensures.tree c.in-Some-key_at-3.keyword c.in-Some-key_at-3.ensures.value c.in_ok-rest-2.ensures.grows c.in_ok-rest-2.rest c.in_ok-rest-2.ensures.tree _
    c.loop_statement.ensures

pub compound-returns-in_err-rest-3-clause-tree : goal.compound-returns-in_err-rest-3-clause-tree
compound-returns-in_err-rest-3-clause-tree t c = errs _ c.in_err-rest-3.field-0.0 _ _ c.from_residual-in_err-rest-3.ensures.1
    (fault_by Compound ForRest Free (Above 0) (lexemes c.args.pieces.now) c.args.names.now _ _ c.args.from (c.in_ok-attrs.attrs.end + 1) c.in_err-rest-3.field-0.0
    (omega (arith, c.in_ok-attrs.ensures.went.few))
    (λ to x. for_fails (lexemes c.args.pieces.now) c.args.from (omega (arith, length-map c.args.pieces.now lexeme, c.requires.can.within)) _ c.args.node c.in_ok-attrs.attrs
    c.in_ok-attrs.ensures.tree c.in-Some-key_at-4.keyword c.in-Some-key_at-4.ensures.value to x) c.in_err-rest-3.ensures.tree)

pub compound-returns-in-Some-key_at-4-clause-tree : goal.compound-returns-in-Some-key_at-4-clause-tree
compound-returns-in-Some-key_at-4-clause-tree t c = for_tree (lexemes c.args.pieces.now) c.args.from (omega (arith, length-map c.args.pieces.now lexeme, c.requires.can.within)) _ _ c.args.node
    c.in_ok-attrs.attrs c.in_ok-attrs.ensures.tree c.in-Some-key_at-4.keyword c.in-Some-key_at-4.ensures.value c.in_ok-rest-3.ensures.grows c.in_ok-rest-3.rest c.in_ok-rest-3.ensures.tree _
    c.for_statement.ensures

pub compound-returns-in_err-rest-4-clause-tree : goal.compound-returns-in_err-rest-4-clause-tree
compound-returns-in_err-rest-4-clause-tree t c = errs _ c.in_err-rest-4.field-0.0 _ _ c.from_residual-in_err-rest-4.ensures.1
    (fault_by Compound Guards Free (Above 0) (lexemes c.args.pieces.now) c.args.names.now _ _ c.args.from (c.in_ok-attrs.attrs.end + 1) c.in_err-rest-4.field-0.0
    (omega (arith, c.in_ok-attrs.ensures.went.few))
    (λ to x. while_fails (lexemes c.args.pieces.now) c.args.from (omega (arith, length-map c.args.pieces.now lexeme, c.requires.can.within)) _ c.args.node c.in_ok-attrs.attrs
    c.in_ok-attrs.ensures.tree c.in-Some-key_at-5.keyword c.in-Some-key_at-5.ensures.value to x) c.in_err-rest-4.ensures.tree)

pub compound-returns-in-Some-key_at-5-clause-tree : goal.compound-returns-in-Some-key_at-5-clause-tree
compound-returns-in-Some-key_at-5-clause-tree t c = while_tree (lexemes c.args.pieces.now) c.args.from (omega (arith, length-map c.args.pieces.now lexeme, c.requires.can.within)) _ _ c.args.node
    c.in_ok-attrs.attrs c.in_ok-attrs.ensures.tree c.in-Some-key_at-5.keyword c.in-Some-key_at-5.ensures.value c.in_ok-rest-4.ensures.grows c.in_ok-rest-4.rest c.in_ok-rest-4.ensures.tree _
    c.while_statement.ensures

pub compound-returns-clause-tree : goal.compound-returns-clause-tree
compound-returns-clause-tree t c = fails_here Compound Free (lexemes c.args.pieces.now) c.args.names.now _ c.args.from c.in_ok-attrs.attrs.end (omega (arith, c.in_ok-attrs.ensures.went.few))
    (compound_stuck (lexemes c.args.pieces.now) c.args.from (omega (arith, length-map c.args.pieces.now lexeme, c.requires.can.within)) _ c.args.node c.in_ok-attrs.attrs
    c.in_ok-attrs.ensures.tree (λ p is. c.in_default.ensures.value p is) (λ p is. c.in_default-key_at.ensures.value p is) (λ p is. c.in_default-key_at-2.ensures.value p is)
    (λ p is. c.in_default-key_at-3.ensures.value p is) (λ p is. c.in_default-key_at-4.ensures.value p is) (λ p is. c.in_default-key_at-5.ensures.value p is))

pub statements-list-init : goal.statements-list-init
statements-list-init t c = statements_begin (lexemes c.args.pieces.now) (length c.args.pieces.now) c.args.from (omega (arith, length-map c.args.pieces.now lexeme, c.requires.can.within)) c.args.names.now c.args.node c.requires.can.within _ c.new-list.ensures

pub statements-returns-in_err-item-clause-tree : goal.statements-returns-in_err-item-clause-tree
statements-returns-in_err-item-clause-tree t c = errs _ c.in_err-item.field-0.0 _ _ c.from_residual.ensures.1
    (fault_by (Many Statement) Statement Closing Free (lexemes c.args.pieces.now) c.args.names.now _ _ c.args.from c.list.at c.in_err-item.field-0.0 (omega (arith, c.list.invariant.few))
    (λ to x. statements_fail (lexemes c.args.pieces.now) (length c.args.pieces.now) c.args.from (omega (arith, length-map c.args.pieces.now lexeme, c.requires.can.within)) _ _ c.args.node _ _
    _ c.list.invariant c.list-test.ensures.value to x) c.in_err-item.ensures.tree)

pub statements-list-preserved : goal.statements-list-preserved
statements-list-preserved t c = statements_more (lexemes c.args.pieces.now) (length c.args.pieces.now) c.args.from (omega (arith, length-map c.args.pieces.now lexeme, c.requires.can.within)) _ _
    c.args.node _ _ _ c.list.invariant c.list-test.ensures.value _ c.in_ok-item.ensures.grows c.in_ok-item.item c.in_ok-item.ensures.tree c.in_ok-item.ensures.went.within
    c.in_ok-item.ensures.went.numbered c.in_ok-item.ensures.went.few _ c.in_ok-push_statement.ensures

pub statements-returns-clause-tree : goal.statements-returns-clause-tree
statements-returns-clause-tree t c = statements_tree (lexemes c.args.pieces.now) (length c.args.pieces.now) c.args.from (omega (arith, length-map c.args.pieces.now lexeme, c.requires.can.within)) _ _ c.args.node _ _ _ c.list.invariant c.list-test.ensures.value

pub branches-arms-init : goal.branches-arms-init
branches-arms-init t c = arms_begin (lexemes c.args.pieces.now) (length c.args.pieces.now) c.args.from (omega (arith, length-map c.args.pieces.now lexeme, c.requires.can.within)) c.args.names.now c.args.node c.requires.can.within _ c.new-arms.ensures

pub branches-returns-in_err-body-clause-tree : goal.branches-returns-in_err-body-clause-tree
branches-returns-in_err-body-clause-tree t c = errs _ c.in_err-body.field-0.0 _ _ c.from_residual.ensures.1
    (fault_by AllArms BlockPhrase Free (Above 0) (lexemes c.args.pieces.now) c.args.names.now _ _ c.args.from (c.arms.at + 1) c.in_err-body.field-0.0 (omega (arith, c.arms.invariant.few))
    (λ to x. else_fails (lexemes c.args.pieces.now) (length c.args.pieces.now) c.args.from (omega (arith, length-map c.args.pieces.now lexeme, c.requires.can.within)) _ _ c.args.node _ _ _
    c.arms.invariant c.in-Some.else_keyword c.in-Some.ensures.value (λ p is. c.in_default-key_at.ensures.value p is) to x)
    (ranked BlockPhrase 0 (lexemes c.args.pieces.now) _ _ (c.arms.at + 1) c.in_err-body.field-0.0 c.in_err-body.ensures.tree))

pub branches-returns-in_default-key_at-clause-tree : goal.branches-returns-in_default-key_at-clause-tree
branches-returns-in_default-key_at-clause-tree t c = else_tree (lexemes c.args.pieces.now) (length c.args.pieces.now) c.args.from
    (omega (arith, length-map c.args.pieces.now lexeme, c.requires.can.within)) _ _ c.args.node _ _ _ c.arms.invariant c.in-Some.else_keyword c.in-Some.ensures.value
    (λ p is. c.in_default-key_at.ensures.value p is) _ c.in_ok-body.ensures.grows c.in_ok-body.body c.in_ok-body.ensures.tree _ (ap out-Otherwise c.in_ok-otherwise.ensures ∙ c.otherwise_of.ensures)

pub branches-returns-in_err-guarded-clause-tree : goal.branches-returns-in_err-guarded-clause-tree
branches-returns-in_err-guarded-clause-tree t c = errs _ c.in_err-guarded.field-0.0 _ _ c.from_residual-in_err-guarded.ensures.1
    (fault_by AllArms Guards Free (Above 0) (lexemes c.args.pieces.now) c.args.names.now _ _ c.args.from (c.arms.at + 2) c.in_err-guarded.field-0.0 (omega (arith, c.arms.invariant.few))
    (λ to x. arms_fail (lexemes c.args.pieces.now) (length c.args.pieces.now) c.args.from (omega (arith, length-map c.args.pieces.now lexeme, c.requires.can.within)) _ _ c.args.node _ _ _
    c.arms.invariant c.in-Some.else_keyword c.in-Some.ensures.value c.in-Some-key_at.if_keyword c.in-Some-key_at.ensures.value to x) c.in_err-guarded.ensures.tree)

pub branches-arms-preserved : goal.branches-arms-preserved
branches-arms-preserved t c = arms_more (lexemes c.args.pieces.now) (length c.args.pieces.now) c.args.from (omega (arith, length-map c.args.pieces.now lexeme, c.requires.can.within)) _ _
    c.args.node _ _ _ c.arms.invariant c.in-Some.else_keyword c.in-Some.ensures.value c.in-Some-key_at.if_keyword c.in-Some-key_at.ensures.value _ c.in_ok-guarded.ensures.grows
    c.in_ok-guarded.guarded c.in_ok-guarded.ensures.tree c.in_ok-guarded.ensures.went.within c.in_ok-guarded.ensures.went.numbered c.in_ok-guarded.ensures.went.few _ c.arm_of.ensures _
    c.in_ok-push_arm.ensures

pub branches-returns-clause-tree : goal.branches-returns-clause-tree
branches-returns-clause-tree t c = arms_tree (lexemes c.args.pieces.now) (length c.args.pieces.now) c.args.from (omega (arith, length-map c.args.pieces.now lexeme, c.requires.can.within)) _ _ c.args.node _ _ _ c.arms.invariant (λ p is. c.in_default.ensures.value p is)

pub for_parts-returns-in_err-head-clause-tree : goal.for_parts-returns-in_err-head-clause-tree
for_parts-returns-in_err-head-clause-tree t c = errs _ c.in_err-head.field-0.0 _ _ c.from_residual.ensures.1
    (fault_by ForRest ForHead (Above 0) Anything (lexemes c.args.pieces.now) c.args.names.now c.args.names.now _ c.args.from c.args.from c.in_err-head.field-0.0 (omega (arith))
    (λ to x. for_head_fails (lexemes c.args.pieces.now) c.args.from (omega (arith, length-map c.args.pieces.now lexeme, c.requires.can.within)) to x) c.in_err-head.ensures.tree)

pub for_parts-returns-in_err-head-2-clause-tree : goal.for_parts-returns-in_err-head-2-clause-tree
for_parts-returns-in_err-head-2-clause-tree t c = errs _ c.in_err-head-2.field-0.0 _ _ c.from_residual-in_err-head-2.ensures.1
    (fault_by ForRest BlockPhrase (Above 0) (Above 0) (lexemes c.args.pieces.now) c.args.names.now _ _ c.args.from c.in_ok-head.head.end c.in_err-head-2.field-0.0
    (omega (arith, c.in_ok-head.ensures.went.few))
    (λ to x. for_body_fails (lexemes c.args.pieces.now) c.args.from (omega (arith, length-map c.args.pieces.now lexeme, c.requires.can.within)) _ c.args.node c.in_ok-head.head
    c.in_ok-head.ensures.tree to x)
    (ranked BlockPhrase 0 (lexemes c.args.pieces.now) _ _ c.in_ok-head.head.end c.in_err-head-2.field-0.0
    (err_of _ c.in_err-head-2.field-0.0 _ _ c.in_err-head-2.ensures c.block-body.ensures.tree)))

pub for_parts-returns-clause-tree : goal.for_parts-returns-clause-tree
for_parts-returns-clause-tree t c = for_rest_tree (lexemes c.args.pieces.now) c.args.from (omega (arith, length-map c.args.pieces.now lexeme, c.requires.can.within)) _ _ c.args.node
    c.in_ok-head.head c.in_ok-head.ensures.tree c.block-body.ensures.grows c.in_ok-head-2.body (ok_of _ c.in_ok-head-2.body _ _ c.in_ok-head-2.ensures.1 c.block-body.ensures.tree)
    c.in_ok-head-2.head c.in_ok-head-2.ensures.0

pub for_parts-returns-clause-went : goal.for_parts-returns-clause-went
for_parts-returns-clause-went t c =
    let b : Went c.args.pieces.now c.for_header.new.names c.block-body.new.names c.in_ok-head.head.end c.in_ok-head.head.node c.in_ok-head-2.body.end c.in_ok-head-2.body.node = ok_if _ c.in_ok-head-2.body _ c.in_ok-head-2.ensures.1 c.block-body.ensures.went in
    record {
      further = omega (arith, c.in_ok-head.ensures.went.further, b.further);
      within = b.within;
      numbered = omega (arith, c.in_ok-head.ensures.went.numbered, b.numbered);
      few = omega (arith, c.in_ok-head.ensures.went.few, b.few);
    }

pub loop_end-returns-in-Some-clause-tree : goal.loop_end-returns-in-Some-clause-tree
loop_end-returns-in-Some-clause-tree t c = end_brace_tree (lexemes c.args.pieces.now) c.args.from (omega (arith, length-map c.args.pieces.now lexeme, c.requires.can.within)) c.args.names.now c.args.node c.in-Some.end c.in-Some.ensures.value

pub loop_end-returns-in_default-key_at-clause-tree : goal.loop_end-returns-in_default-key_at-clause-tree
loop_end-returns-in_default-key_at-clause-tree t c = fails_here LoopEnds Anything (lexemes c.args.pieces.now) c.args.names.now _ c.args.from c.args.from (omega (arith))
    (end_stuck (lexemes c.args.pieces.now) c.args.from (omega (arith, length-map c.args.pieces.now lexeme, c.requires.can.within)) (λ p is. c.in_default-key_at.ensures.value p is)
    (λ p is. c.in_default.ensures.value p is))

pub loop_end-returns-in_err-part-clause-tree : goal.loop_end-returns-in_err-part-clause-tree
loop_end-returns-in_err-part-clause-tree t c = errs _ c.in_err-part.field-0.0 _ _ c.from_residual.ensures.1
    (fault_by LoopEnds (ContinuingRest c.in-Some-key_at.keyword) Anything Anything (lexemes c.args.pieces.now) c.args.names.now c.args.names.now _ c.args.from (c.args.from + 1)
    c.in_err-part.field-0.0 (omega (arith))
    (λ to x. end_part_fails (lexemes c.args.pieces.now) c.args.from (omega (arith, length-map c.args.pieces.now lexeme, c.requires.can.within)) c.in-Some-key_at.keyword
    c.in-Some-key_at.ensures.value to x) c.in_err-part.ensures.tree)

pub loop_end-returns-in_default-mark_at-clause-tree : goal.loop_end-returns-in_default-mark_at-clause-tree
loop_end-returns-in_default-mark_at-clause-tree t c = errs _ (fault.Unexpected (c.in_ok-part.part.end)) _ _ c.refuse.ensures
    (fails_here LoopEnds Anything (lexemes c.args.pieces.now) c.args.names.now _ c.args.from c.in_ok-part.part.end (omega (arith, c.in_ok-part.ensures.went.few))
    (end_open (lexemes c.args.pieces.now) c.args.from (omega (arith, length-map c.args.pieces.now lexeme, c.requires.can.within)) c.in-Some-key_at.keyword c.in-Some-key_at.ensures.value _
    c.args.node c.in_ok-part.part c.in_ok-part.ensures.tree (λ p is. c.in_default-mark_at.ensures.value p is)))

pub loop_end-returns-clause-tree : goal.loop_end-returns-clause-tree
loop_end-returns-clause-tree t c = end_part_tree (lexemes c.args.pieces.now) c.args.from (omega (arith, length-map c.args.pieces.now lexeme, c.requires.can.within)) c.in-Some-key_at.keyword
    c.in-Some-key_at.ensures.value _ c.args.node c.in_ok-part.part c.in_ok-part.ensures.tree c.in-Some-mark_at.end c.in-Some-mark_at.ensures.value

pub last_body-list-init : goal.last_body-list-init
last_body-list-init t c = last_begin (lexemes c.args.pieces.now) (length c.args.pieces.now) c.args.from (omega (arith, length-map c.args.pieces.now lexeme, c.requires.can.within)) c.args.names.now c.args.node c.requires.can.within _ c.new-statements.ensures

pub last_body-returns-in-Some-clause-tree : goal.last_body-returns-in-Some-clause-tree
last_body-returns-in-Some-clause-tree t c = last_brace_tree (lexemes c.args.pieces.now) (length c.args.pieces.now) c.args.from (omega (arith, length-map c.args.pieces.now lexeme, c.requires.can.within)) _ _ c.args.node _ _ _ c.list.invariant c.in-Some.end c.in-Some.ensures.value

pub last_body-returns-in_err-last-clause-tree : goal.last_body-returns-in_err-last-clause-tree
last_body-returns-in_err-last-clause-tree t c = errs _ c.in_err-last.field-0.0 _ _ c.from_residual.ensures.1
    (fault_by LastStatements Leaves Anything Anything (lexemes c.args.pieces.now) c.args.names.now _ _ c.args.from (c.list.at + 2) c.in_err-last.field-0.0
    (omega (arith, c.list.invariant.few))
    (λ to x. last_leave_fails (lexemes c.args.pieces.now) (length c.args.pieces.now) c.args.from (omega (arith, length-map c.args.pieces.now lexeme, c.requires.can.within)) _ _ c.args.node _ _
    _ c.list.invariant c.in-Some-break_if_at.break_keyword c.in-Some-break_if_at.if_keyword c.in-Some-break_if_at.ensures.value.0 c.in-Some-break_if_at.ensures.value.1 to x)
    c.in_err-last.ensures.tree)

pub last_body-returns-in-Some-break_if_at-clause-tree : goal.last_body-returns-in-Some-break_if_at-clause-tree
last_body-returns-in-Some-break_if_at-clause-tree t c = last_leave_tree (lexemes c.args.pieces.now) (length c.args.pieces.now) c.args.from
    (omega (arith, length-map c.args.pieces.now lexeme, c.requires.can.within)) _ _ c.args.node _ _ _ c.list.invariant c.in-Some-break_if_at.break_keyword c.in-Some-break_if_at.if_keyword
    c.in-Some-break_if_at.ensures.value.0 c.in-Some-break_if_at.ensures.value.1 _ c.in_ok-last.ensures.grows c.in_ok-last.last c.in_ok-last.ensures.tree

pub last_body-returns-in_err-item-clause-tree : goal.last_body-returns-in_err-item-clause-tree
last_body-returns-in_err-item-clause-tree t c = errs _ c.in_err-item.field-0.0 _ _ c.from_residual-in_err-item.ensures.1
    (fault_by LastStatements Statement Anything Free (lexemes c.args.pieces.now) c.args.names.now _ _ c.args.from c.list.at c.in_err-item.field-0.0 (omega (arith, c.list.invariant.few))
    (λ to x. last_item_fails (lexemes c.args.pieces.now) (length c.args.pieces.now) c.args.from (omega (arith, length-map c.args.pieces.now lexeme, c.requires.can.within)) _ _ c.args.node _ _
    _ c.list.invariant (λ p is. c.in_default.ensures.value p is) (λ p q is_key is_if. c.in_default-break_if_at.ensures.value p q is_key is_if) to x) c.in_err-item.ensures.tree)

pub last_body-list-preserved : goal.last_body-list-preserved
last_body-list-preserved t c = last_more (lexemes c.args.pieces.now) (length c.args.pieces.now) c.args.from (omega (arith, length-map c.args.pieces.now lexeme, c.requires.can.within)) _ _
    c.args.node _ _ _ c.list.invariant (λ p is. c.in_default.ensures.value p is) (λ p q is_key is_if. c.in_default-break_if_at.ensures.value p q is_key is_if) _ c.in_ok-item.ensures.grows
    c.in_ok-item.item c.in_ok-item.ensures.tree c.in_ok-item.ensures.went.within c.in_ok-item.ensures.went.numbered c.in_ok-item.ensures.went.few _ c.in_ok-push_statement.ensures

pub continuing-returns-in_err-attrs-clause-tree : goal.continuing-returns-in_err-attrs-clause-tree
continuing-returns-in_err-attrs-clause-tree t c = errs _ c.in_err-attrs.field-0.0 _ _ c.from_residual.ensures.1
    (fault_by (ContinuingRest c.args.keyword) (Many Attribute) Anything (Above 8) (lexemes c.args.pieces.now) c.args.names.now c.args.names.now _ c.args.from c.args.from
    c.in_err-attrs.field-0.0 (omega (arith))
    (λ to x. part_attrs_fails c.args.keyword (lexemes c.args.pieces.now) c.args.from (omega (arith, length-map c.args.pieces.now lexeme, c.requires.can.within)) to x)
    (ranked (Many Attribute) 8 (lexemes c.args.pieces.now) c.args.names.now _ c.args.from c.in_err-attrs.field-0.0 c.in_err-attrs.ensures.tree))

pub continuing-returns-in_default-clause-tree : goal.continuing-returns-in_default-clause-tree
continuing-returns-in_default-clause-tree t c = fails_here (ContinuingRest c.args.keyword) Anything (lexemes c.args.pieces.now) c.args.names.now _ c.args.from c.in_ok-attrs.attrs.end
    (omega (arith, c.in_ok-attrs.ensures.went.few))
    (part_open c.args.keyword (lexemes c.args.pieces.now) c.args.from (omega (arith, length-map c.args.pieces.now lexeme, c.requires.can.within)) _ c.args.node c.in_ok-attrs.attrs
    c.in_ok-attrs.ensures.tree (λ p is. c.in_default.ensures.value p is))

pub continuing-returns-in_err-body-clause-tree : goal.continuing-returns-in_err-body-clause-tree
continuing-returns-in_err-body-clause-tree t c = errs _ c.in_err-body.field-0.0 _ _ c.from_residual-in_err-body.ensures.1
    (fault_by (ContinuingRest c.args.keyword) LastStatements Anything Anything (lexemes c.args.pieces.now) c.args.names.now _ _ c.args.from (c.in_ok-attrs.attrs.end + 1)
    c.in_err-body.field-0.0 (omega (arith, c.in_ok-attrs.ensures.went.few))
    (λ to x. part_body_fails c.args.keyword (lexemes c.args.pieces.now) c.args.from (omega (arith, length-map c.args.pieces.now lexeme, c.requires.can.within)) _ c.args.node
    c.in_ok-attrs.attrs c.in_ok-attrs.ensures.tree _ c.in-Some.ensures.value to x) c.in_err-body.ensures.tree)

pub continuing-returns-clause-tree : goal.continuing-returns-clause-tree
continuing-returns-clause-tree t c = part_tree c.args.keyword (lexemes c.args.pieces.now) c.args.from (omega (arith, length-map c.args.pieces.now lexeme, c.requires.can.within)) _ _ c.args.node
    c.in_ok-attrs.attrs c.in_ok-attrs.ensures.tree _ c.in-Some.ensures.value c.in_ok-body.ensures.grows c.in_ok-body.body c.in_ok-body.ensures.tree _ (ap out-Continuing c.in_ok-part.ensures ∙ c.continuing_of.ensures)

pub loop_parts-returns-in_err-inner-clause-tree : goal.loop_parts-returns-in_err-inner-clause-tree
loop_parts-returns-in_err-inner-clause-tree t c = errs _ c.in_err-inner.field-0.0 _ _ c.from_residual.ensures.1
    (fault_by LoopRest (Many Attribute) Anything (Above 8) (lexemes c.args.pieces.now) c.args.names.now c.args.names.now _ c.args.from c.args.from c.in_err-inner.field-0.0 (omega (arith))
    (λ to x. loop_attrs_fails (lexemes c.args.pieces.now) c.args.from (omega (arith, length-map c.args.pieces.now lexeme, c.requires.can.within)) to x)
    (ranked (Many Attribute) 8 (lexemes c.args.pieces.now) c.args.names.now _ c.args.from c.in_err-inner.field-0.0 c.in_err-inner.ensures.tree))

pub loop_parts-returns-in_default-clause-tree : goal.loop_parts-returns-in_default-clause-tree
loop_parts-returns-in_default-clause-tree t c = fails_here LoopRest Anything (lexemes c.args.pieces.now) c.args.names.now _ c.args.from c.in_ok-inner.inner.end
    (omega (arith, c.in_ok-inner.ensures.went.few))
    (loop_open (lexemes c.args.pieces.now) c.args.from (omega (arith, length-map c.args.pieces.now lexeme, c.requires.can.within)) _ c.args.node c.in_ok-inner.inner c.in_ok-inner.ensures.tree
    (λ p is. c.in_default.ensures.value p is))

pub loop_parts-returns-in_err-body-clause-tree : goal.loop_parts-returns-in_err-body-clause-tree
loop_parts-returns-in_err-body-clause-tree t c = errs _ c.in_err-body.field-0.0 _ _ c.from_residual-in_err-body.ensures.1
    (fault_by LoopRest (Many Statement) Anything Closing (lexemes c.args.pieces.now) c.args.names.now _ _ c.args.from (c.in_ok-inner.inner.end + 1) c.in_err-body.field-0.0
    (omega (arith, c.in_ok-inner.ensures.went.few))
    (λ to x. loop_body_fails (lexemes c.args.pieces.now) c.args.from (omega (arith, length-map c.args.pieces.now lexeme, c.requires.can.within)) _ c.args.node c.in_ok-inner.inner
    c.in_ok-inner.ensures.tree _ c.in-Some.ensures.value to x) c.in_err-body.ensures.tree)

pub loop_parts-returns-in_err-last-clause-tree : goal.loop_parts-returns-in_err-last-clause-tree
loop_parts-returns-in_err-last-clause-tree t c = errs _ c.in_err-last.field-0.0 _ _ c.from_residual-in_err-last.ensures.1
    (fault_by LoopRest LoopEnds Anything Anything (lexemes c.args.pieces.now) c.args.names.now _ _ c.args.from c.in_ok-body.body.end c.in_err-last.field-0.0
    (omega (arith, c.in_ok-inner.ensures.went.few, c.in_ok-body.ensures.went.few))
    (λ to x. loop_end_fails (lexemes c.args.pieces.now) c.args.from (omega (arith, length-map c.args.pieces.now lexeme, c.requires.can.within)) _ _ c.args.node c.in_ok-inner.inner
    c.in_ok-inner.ensures.tree _ c.in-Some.ensures.value c.in_ok-body.ensures.grows c.in_ok-body.body c.in_ok-body.ensures.tree to x) c.in_err-last.ensures.tree)

pub loop_parts-returns-clause-tree : goal.loop_parts-returns-clause-tree
loop_parts-returns-clause-tree t c = loop_rest_tree (lexemes c.args.pieces.now) c.args.from (omega (arith, length-map c.args.pieces.now lexeme, c.requires.can.within)) _ _ _ c.args.node
    c.in_ok-inner.inner c.in_ok-inner.ensures.tree _ c.in-Some.ensures.value c.in_ok-body.ensures.grows c.in_ok-body.body c.in_ok-body.ensures.tree c.in_ok-last.ensures.grows
    c.in_ok-last.last c.in_ok-last.ensures.tree

pub clause_body-returns-in_err-body-clause-tree : goal.clause_body-returns-in_err-body-clause-tree
clause_body-returns-in_err-body-clause-tree t c = errs _ c.in_err-body.field-0.0 _ _ c.from_residual.ensures.1
    (fault_by ColonBlock BlockPhrase (Above 0) (Above 0) (lexemes c.args.pieces.now) c.args.names.now c.args.names.now _ c.args.from (c.args.from + 1) c.in_err-body.field-0.0 (omega (arith))
    (λ to x. colon_fails (lexemes c.args.pieces.now) c.args.from (omega (arith, length-map c.args.pieces.now lexeme, c.requires.can.within)) (c.if-is_mark.ensures.value.0 refl).0
    (c.if-is_mark.ensures.value.0 refl).1 to x)
    (ranked BlockPhrase 0 (lexemes c.args.pieces.now) c.args.names.now _ (c.args.from + 1) c.in_err-body.field-0.0 c.in_err-body.ensures.tree))

pub clause_body-returns-then-is_mark-clause-tree : goal.clause_body-returns-then-is_mark-clause-tree
clause_body-returns-then-is_mark-clause-tree t c = colon_tree (lexemes c.args.pieces.now) c.args.from (omega (arith, length-map c.args.pieces.now lexeme, c.requires.can.within)) _ c.args.node
    (c.if-is_mark.ensures.value.0 refl).0 (c.if-is_mark.ensures.value.0 refl).1 c.in_ok-body.body c.in_ok-body.ensures.tree

pub clause_body-returns-in_err-body-2-clause-tree : goal.clause_body-returns-in_err-body-2-clause-tree
clause_body-returns-in_err-body-2-clause-tree t c = errs _ c.in_err-body-2.field-0.0 _ _ c.from_residual-in_err-body-2.ensures.1
    (fault_by ColonBlock BlockPhrase (Above 0) (Above 0) (lexemes c.args.pieces.now) c.args.names.now c.args.names.now _ c.args.from c.args.from c.in_err-body-2.field-0.0 (omega (arith))
    (λ to x. bare_fails (lexemes c.args.pieces.now) c.args.from (omega (arith, length-map c.args.pieces.now lexeme, c.requires.can.within)) (λ p is. isnt c.if-is_mark.ensures.value (p, is)) to
    x) (ranked BlockPhrase 0 (lexemes c.args.pieces.now) c.args.names.now _ c.args.from c.in_err-body-2.field-0.0 c.in_err-body-2.ensures.tree))

pub clause_body-returns-clause-tree : goal.clause_body-returns-clause-tree
clause_body-returns-clause-tree t c = bare_tree (lexemes c.args.pieces.now) c.args.from (omega (arith, length-map c.args.pieces.now lexeme, c.requires.can.within)) (λ p is. isnt c.if-is_mark.ensures.value (p, is)) _ c.args.node c.in_ok-body-2.body c.in_ok-body-2.ensures.tree

pub clause-returns-in_err-list-clause-tree : goal.clause-returns-in_err-list-clause-tree
clause-returns-in_err-list-clause-tree t c = errs _ c.in_err-list.field-0.0 _ _ c.from_residual.ensures.1
    (fault_by OneClause (Listed Selects) (Above 0) Selected (lexemes c.args.pieces.now) c.args.names.now c.args.names.now _ c.args.from (c.args.from + 1) c.in_err-list.field-0.0
    (omega (arith))
    (λ to x. case_fails (lexemes c.args.pieces.now) c.args.from (omega (arith, length-map c.args.pieces.now lexeme, c.requires.can.within)) c.in-Some.keyword c.in-Some.ensures.value to x)
    c.in_err-list.ensures.tree)

pub clause-returns-in_err-rest-clause-tree : goal.clause-returns-in_err-rest-clause-tree
clause-returns-in_err-rest-clause-tree t c = errs _ c.in_err-rest.field-0.0 _ _ c.from_residual-in_err-rest.ensures.1
    (fault_by OneClause ColonBlock (Above 0) (Above 0) (lexemes c.args.pieces.now) c.args.names.now _ _ c.args.from c.in_ok-list.list.end c.in_err-rest.field-0.0
    (omega (arith, c.in_ok-list.ensures.went.few))
    (λ to x. case_body_fails (lexemes c.args.pieces.now) c.args.from (omega (arith, length-map c.args.pieces.now lexeme, c.requires.can.within)) c.in-Some.keyword c.in-Some.ensures.value _
    c.args.node c.in_ok-list.list c.in_ok-list.ensures.tree to x) c.in_err-rest.ensures.tree)

pub clause-returns-in-Some-clause-tree : goal.clause-returns-in-Some-clause-tree
clause-returns-in-Some-clause-tree t c = case_tree (lexemes c.args.pieces.now) c.args.from (omega (arith, length-map c.args.pieces.now lexeme, c.requires.can.within)) c.in-Some.keyword
    c.in-Some.ensures.value _ _ c.args.node c.in_ok-list.list c.in_ok-list.ensures.tree c.in_ok-rest.ensures.grows c.in_ok-rest.rest c.in_ok-rest.ensures.tree _ c.case_of.ensures

pub clause-returns-in_default-key_at-clause-tree : goal.clause-returns-in_default-key_at-clause-tree
clause-returns-in_default-key_at-clause-tree t c = fails_here OneClause (Above 0) (lexemes c.args.pieces.now) c.args.names.now _ c.args.from c.args.from (omega (arith))
    (clause_stuck (lexemes c.args.pieces.now) c.args.from (omega (arith, length-map c.args.pieces.now lexeme, c.requires.can.within)) (λ p is. c.in_default.ensures.value p is)
    (λ p is. c.in_default-key_at.ensures.value p is))

pub clause-returns-in_err-rest-2-clause-tree : goal.clause-returns-in_err-rest-2-clause-tree
clause-returns-in_err-rest-2-clause-tree t c = errs _ c.in_err-rest-2.field-0.0 _ _ c.from_residual-in_err-rest-2.ensures.1
    (fault_by OneClause ColonBlock (Above 0) (Above 0) (lexemes c.args.pieces.now) c.args.names.now c.args.names.now _ c.args.from (c.args.from + 1) c.in_err-rest-2.field-0.0 (omega (arith))
    (λ to x. default_fails (lexemes c.args.pieces.now) c.args.from (omega (arith, length-map c.args.pieces.now lexeme, c.requires.can.within)) c.in-Some-key_at.keyword
    c.in-Some-key_at.ensures.value to x) c.in_err-rest-2.ensures.tree)

pub clause-returns-clause-tree : goal.clause-returns-clause-tree
clause-returns-clause-tree t c = default_tree (lexemes c.args.pieces.now) c.args.from (omega (arith, length-map c.args.pieces.now lexeme, c.requires.can.within))
    c.in-Some-key_at.keyword c.in-Some-key_at.ensures.value _ c.args.node c.in_ok-rest-2.rest c.in_ok-rest-2.ensures.tree _ c.default_of.ensures

pub clauses-list-init : goal.clauses-list-init
clauses-list-init t c = clauses_begin (lexemes c.args.pieces.now) (length c.args.pieces.now) c.args.from (omega (arith, length-map c.args.pieces.now lexeme, c.requires.can.within)) c.args.names.now c.args.node c.requires.can.within _ c.new-list.ensures

pub clauses-returns-in_err-item-clause-tree : goal.clauses-returns-in_err-item-clause-tree
clauses-returns-in_err-item-clause-tree t c = errs _ c.in_err-item.field-0.0 _ _ c.from_residual.ensures.1
    (fault_by (Many OneClause) OneClause (Above 9) (Above 0) (lexemes c.args.pieces.now) c.args.names.now _ _ c.args.from c.list.at c.in_err-item.field-0.0
    (omega (arith, c.list.invariant.few))
    (λ to x. clauses_fail (lexemes c.args.pieces.now) (length c.args.pieces.now) c.args.from (omega (arith, length-map c.args.pieces.now lexeme, c.requires.can.within)) _ _ c.args.node _ _ _
    c.list.invariant c.list-test.ensures.value to x) c.in_err-item.ensures.tree)

pub clauses-list-preserved : goal.clauses-list-preserved
clauses-list-preserved t c = clauses_more (lexemes c.args.pieces.now) (length c.args.pieces.now) c.args.from (omega (arith, length-map c.args.pieces.now lexeme, c.requires.can.within)) _ _
    c.args.node _ _ _ c.list.invariant c.list-test.ensures.value _ c.in_ok-item.ensures.grows c.in_ok-item.item c.in_ok-item.ensures.tree c.in_ok-item.ensures.went.within
    c.in_ok-item.ensures.went.numbered c.in_ok-item.ensures.went.few _ c.in_ok-push_clause.ensures

pub clauses-returns-clause-tree : goal.clauses-returns-clause-tree
clauses-returns-clause-tree t c = clauses_tree (lexemes c.args.pieces.now) (length c.args.pieces.now) c.args.from (omega (arith, length-map c.args.pieces.now lexeme, c.requires.can.within)) _ _ c.args.node _ _ _ c.list.invariant c.list-test.ensures.value

pub switch_parts-returns-in_err-selector-clause-tree : goal.switch_parts-returns-in_err-selector-clause-tree
switch_parts-returns-in_err-selector-clause-tree t c = errs _ c.in_err-selector.field-0.0 _ _ c.from_residual.ensures.1
    (fault_by SwitchRest Expression Anything (Above 7) (lexemes c.args.pieces.now) c.args.names.now c.args.names.now _ c.args.from c.args.from c.in_err-selector.field-0.0 (omega (arith))
    (λ to x. switch_value_fails (lexemes c.args.pieces.now) c.args.from (omega (arith, length-map c.args.pieces.now lexeme, c.requires.can.within)) to x)
    (ranked Expression 7 (lexemes c.args.pieces.now) c.args.names.now _ c.args.from c.in_err-selector.field-0.0 c.in_err-selector.ensures.tree))

pub switch_parts-returns-in-Err-clause-tree : goal.switch_parts-returns-in-Err-clause-tree
switch_parts-returns-in-Err-clause-tree t c = errs _ c.in-Err.fault _ _ c.refuse.ensures
    (fault_by SwitchRest (Many Attribute) Anything (Above 8) (lexemes c.args.pieces.now) c.args.names.now _ _ c.args.from c.in_ok-selector.selector.end c.in-Err.fault
    (omega (arith, c.in_ok-selector.ensures.went.few))
    (λ to x. switch_attrs_fails (lexemes c.args.pieces.now) c.args.from (omega (arith, length-map c.args.pieces.now lexeme, c.requires.can.within)) _ c.args.node c.in_ok-selector.selector
    c.in_ok-selector.ensures.tree to x) (ranked (Many Attribute) 8 (lexemes c.args.pieces.now) _ _ c.in_ok-selector.selector.end c.in-Err.fault c.in-Err.ensures.tree))

pub switch_parts-returns-in_default-clause-tree : goal.switch_parts-returns-in_default-clause-tree
switch_parts-returns-in_default-clause-tree t c = errs _ (fault.Unexpected (c.in-Ok.inner.end)) _ _ c.refuse-in_default.ensures
    (fails_here SwitchRest Anything (lexemes c.args.pieces.now) c.args.names.now _ c.args.from c.in-Ok.inner.end (omega (arith, c.in_ok-selector.ensures.went.few, c.in-Ok.ensures.went.few))
    (switch_open (lexemes c.args.pieces.now) c.args.from (omega (arith, length-map c.args.pieces.now lexeme, c.requires.can.within)) _ c.args.node c.in_ok-selector.selector
    c.in_ok-selector.ensures.tree _ c.in-Ok.inner c.in-Ok.ensures.tree (λ p is. c.in_default.ensures.value p is)))

pub switch_parts-returns-in-Err-clauses-clause-tree : goal.switch_parts-returns-in-Err-clauses-clause-tree
switch_parts-returns-in-Err-clauses-clause-tree t c = errs _ c.in-Err-clauses.fault _ _ c.refuse-in-Err-clauses.ensures
    (fault_by SwitchRest (Many OneClause) Anything (Above 9) (lexemes c.args.pieces.now) c.args.names.now _ _ c.args.from (c.in-Ok.inner.end + 1) c.in-Err-clauses.fault
    (omega (arith, c.in_ok-selector.ensures.went.few, c.in-Ok.ensures.went.few))
    (λ to x. switch_clauses_fails (lexemes c.args.pieces.now) c.args.from (omega (arith, length-map c.args.pieces.now lexeme, c.requires.can.within)) _ c.args.node c.in_ok-selector.selector
    c.in_ok-selector.ensures.tree _ c.in-Ok.inner c.in-Ok.ensures.tree _ c.in-Some.ensures.value to x) c.in-Err-clauses.ensures.tree)

pub switch_parts-returns-in_default-mark_at-clause-tree : goal.switch_parts-returns-in_default-mark_at-clause-tree
switch_parts-returns-in_default-mark_at-clause-tree t c = errs _ (fault.Unexpected (c.in-Ok-clauses.list.end)) _ _ c.refuse-in_default-mark_at.ensures
    (fails_here SwitchRest Anything (lexemes c.args.pieces.now) c.args.names.now _ c.args.from c.in-Ok-clauses.list.end
    (omega (arith, c.in_ok-selector.ensures.went.few, c.in-Ok.ensures.went.few, c.in-Ok-clauses.ensures.went.few))
    (switch_end_open (lexemes c.args.pieces.now) c.args.from (omega (arith, length-map c.args.pieces.now lexeme, c.requires.can.within)) _ c.args.node c.in_ok-selector.selector
    c.in_ok-selector.ensures.tree _ c.in-Ok.inner c.in-Ok.ensures.tree _ c.in-Some.ensures.value _ c.in-Ok-clauses.list c.in-Ok-clauses.ensures.tree
    (λ p is. c.in_default-mark_at.ensures.value p is)))

pub switch_parts-returns-clause-tree : goal.switch_parts-returns-clause-tree
switch_parts-returns-clause-tree t c = switch_rest_tree (lexemes c.args.pieces.now) c.args.from (omega (arith, length-map c.args.pieces.now lexeme, c.requires.can.within)) _ _ _ c.args.node
    c.in_ok-selector.selector c.in_ok-selector.ensures.tree c.in-Ok.ensures.grows c.in-Ok.inner c.in-Ok.ensures.tree _ c.in-Some.ensures.value c.in-Ok-clauses.ensures.grows
    c.in-Ok-clauses.list c.in-Ok-clauses.ensures.tree c.in-Some-mark_at.end c.in-Some-mark_at.ensures.value

pub block-returns-in_err-body-clause-grows : goal.block-returns-in_err-body-clause-grows
block-returns-in_err-body-clause-grows t c = grows_trans _ _ _ c.in_ok-attrs.ensures.grows c.in_err-body.ensures.grows

pub block-returns-clause-grows : goal.block-returns-clause-grows
block-returns-clause-grows t c = grows_trans _ _ _ c.in_ok-attrs.ensures.grows c.in_ok-body.ensures.grows

pub block-returns-clause-went : goal.block-returns-clause-went
block-returns-clause-went t c = record {
  further = omega (arith, c.in_ok-attrs.ensures.went.further, c.in_ok-body.ensures.went.further, c.block_of.ensures.end, c.block_of.ensures.node);
  within = omega (arith, c.block_of.ensures.end, c.block_of.ensures.node, c.in_ok-body.ensures.went.within);
  numbered = omega (arith, c.in_ok-attrs.ensures.went.numbered, c.in_ok-body.ensures.node, c.block_of.ensures.end, c.block_of.ensures.node);
  few = omega (arith, c.in_ok-attrs.ensures.went.few, c.in_ok-body.ensures.went.few, c.block_of.ensures.end, c.block_of.ensures.node);
}

pub braced-returns-clause-went : goal.braced-returns-clause-went
braced-returns-clause-went t c = record {
  further = omega (arith, c.in_ok-list.ensures.went.further);
  within = omega (arith, c.in-Some.ensures.within);
  numbered = omega (arith, c.in_ok-list.ensures.went.numbered);
  few = omega (arith, c.in_ok-list.ensures.went.few);
}

pub braced-returns-clause-node : goal.braced-returns-clause-node
braced-returns-clause-node t c = omega (arith, c.in_ok-list.ensures.went.numbered)

pub compound-returns-in_err-body-clause-grows : goal.compound-returns-in_err-body-clause-grows
compound-returns-in_err-body-clause-grows t c = grows_trans _ _ _ c.in_ok-attrs.ensures.grows c.in_err-body.ensures.grows

pub compound-returns-in-Some-clause-grows : goal.compound-returns-in-Some-clause-grows
compound-returns-in-Some-clause-grows t c = grows_trans _ _ _ c.in_ok-attrs.ensures.grows c.in_ok-body.ensures.grows

pub compound-returns-in-Some-clause-went : goal.compound-returns-in-Some-clause-went
compound-returns-in-Some-clause-went t c = record {
  further = omega (arith, c.in_ok-attrs.ensures.went.further, c.in_ok-body.ensures.went.further, c.block_statement.ensures.end, c.block_statement.ensures.node);
  within = omega (arith, c.block_statement.ensures.end, c.block_statement.ensures.node, c.in_ok-body.ensures.went.within);
  numbered = omega (arith, c.in_ok-attrs.ensures.went.numbered, c.in_ok-body.ensures.node, c.block_statement.ensures.end, c.block_statement.ensures.node);
  few = omega (arith, c.in_ok-attrs.ensures.went.few, c.in_ok-body.ensures.went.few, c.block_statement.ensures.end, c.block_statement.ensures.node);
}

pub compound-returns-in_err-first-clause-grows : goal.compound-returns-in_err-first-clause-grows
compound-returns-in_err-first-clause-grows t c = grows_trans _ _ _ c.in_ok-attrs.ensures.grows c.in_err-first.ensures.grows

pub compound-returns-in-Err-clause-grows : goal.compound-returns-in-Err-clause-grows
compound-returns-in-Err-clause-grows t c = grows_trans _ _ _ c.in_ok-attrs.ensures.grows (grows_trans _ _ _ c.in_ok-first.ensures.grows c.in-Err.ensures.grows)

pub compound-returns-in-Some-key_at-clause-grows : goal.compound-returns-in-Some-key_at-clause-grows
compound-returns-in-Some-key_at-clause-grows t c = grows_trans _ _ _ c.in_ok-attrs.ensures.grows (grows_trans _ _ _ c.in_ok-first.ensures.grows c.in-Ok.ensures.grows)

pub compound-returns-in-Some-key_at-clause-went : goal.compound-returns-in-Some-key_at-clause-went
compound-returns-in-Some-key_at-clause-went t c =
    let end : c.if_statement.result.end ≡ c.in-Ok.others.end = ap (λ y. y.end) c.if_statement.ensures in
    let node : c.if_statement.result.node ≡ c.in-Ok.others.node + 1 = ap (λ y. y.node) c.if_statement.ensures in
    record {
      further = omega (arith, c.in_ok-attrs.ensures.went.further, c.in_ok-first.ensures.went.further, c.in-Ok.ensures.went.further);
      within = omega (arith, c.in-Ok.ensures.went.within);
      numbered = omega (arith, c.in_ok-attrs.ensures.went.numbered, c.in_ok-first.ensures.went.numbered, c.in-Ok.ensures.went.numbered);
      few = omega (arith, c.in_ok-attrs.ensures.went.few, c.in_ok-first.ensures.went.few, c.in-Ok.ensures.went.few);
    }

pub compound-returns-in_err-rest-clause-grows : goal.compound-returns-in_err-rest-clause-grows
compound-returns-in_err-rest-clause-grows t c = grows_trans _ _ _ c.in_ok-attrs.ensures.grows c.in_err-rest.ensures.grows

pub compound-returns-in-Some-key_at-2-clause-grows : goal.compound-returns-in-Some-key_at-2-clause-grows
compound-returns-in-Some-key_at-2-clause-grows t c = grows_trans _ _ _ c.in_ok-attrs.ensures.grows c.in_ok-rest.ensures.grows

pub compound-returns-in-Some-key_at-2-clause-went : goal.compound-returns-in-Some-key_at-2-clause-went
compound-returns-in-Some-key_at-2-clause-went t c =
    let end : c.switch_statement.result.end ≡ c.in_ok-rest.rest.end = ap (λ y. y.end) c.switch_statement.ensures in
    let node : c.switch_statement.result.node ≡ c.in_ok-rest.rest.node + 1 = ap (λ y. y.node) c.switch_statement.ensures in
    record {
      further = omega (arith, c.in_ok-attrs.ensures.went.further, c.in_ok-rest.ensures.went.further);
      within = omega (arith, c.in_ok-rest.ensures.went.within);
      numbered = omega (arith, c.in_ok-attrs.ensures.went.numbered, c.in_ok-rest.ensures.went.numbered);
      few = omega (arith, c.in_ok-attrs.ensures.went.few, c.in_ok-rest.ensures.went.few);
    }

pub compound-returns-in_err-rest-2-clause-grows : goal.compound-returns-in_err-rest-2-clause-grows
compound-returns-in_err-rest-2-clause-grows t c = grows_trans _ _ _ c.in_ok-attrs.ensures.grows c.in_err-rest-2.ensures.grows

pub compound-returns-in-Some-key_at-3-clause-grows : goal.compound-returns-in-Some-key_at-3-clause-grows
compound-returns-in-Some-key_at-3-clause-grows t c = grows_trans _ _ _ c.in_ok-attrs.ensures.grows c.in_ok-rest-2.ensures.grows

pub compound-returns-in-Some-key_at-3-clause-went : goal.compound-returns-in-Some-key_at-3-clause-went
compound-returns-in-Some-key_at-3-clause-went t c =
    let end : c.loop_statement.result.end ≡ c.in_ok-rest-2.rest.end = ap (λ y. y.end) c.loop_statement.ensures in
    let node : c.loop_statement.result.node ≡ c.in_ok-rest-2.rest.node + 1 = ap (λ y. y.node) c.loop_statement.ensures in
    record {
      further = omega (arith, c.in_ok-attrs.ensures.went.further, c.in_ok-rest-2.ensures.went.further);
      within = omega (arith, c.in_ok-rest-2.ensures.went.within);
      numbered = omega (arith, c.in_ok-attrs.ensures.went.numbered, c.in_ok-rest-2.ensures.went.numbered);
      few = omega (arith, c.in_ok-attrs.ensures.went.few, c.in_ok-rest-2.ensures.went.few);
    }

pub compound-returns-in_err-rest-3-clause-grows : goal.compound-returns-in_err-rest-3-clause-grows
compound-returns-in_err-rest-3-clause-grows t c = grows_trans _ _ _ c.in_ok-attrs.ensures.grows c.in_err-rest-3.ensures.grows

pub compound-returns-in-Some-key_at-4-clause-grows : goal.compound-returns-in-Some-key_at-4-clause-grows
compound-returns-in-Some-key_at-4-clause-grows t c = grows_trans _ _ _ c.in_ok-attrs.ensures.grows c.in_ok-rest-3.ensures.grows

pub compound-returns-in-Some-key_at-4-clause-went : goal.compound-returns-in-Some-key_at-4-clause-went
compound-returns-in-Some-key_at-4-clause-went t c =
    let end : c.for_statement.result.end ≡ c.in_ok-rest-3.rest.end = ap (λ y. y.end) c.for_statement.ensures in
    let node : c.for_statement.result.node ≡ c.in_ok-rest-3.rest.node + 1 = ap (λ y. y.node) c.for_statement.ensures in
    record {
      further = omega (arith, c.in_ok-attrs.ensures.went.further, c.in_ok-rest-3.ensures.went.further);
      within = omega (arith, c.in_ok-rest-3.ensures.went.within);
      numbered = omega (arith, c.in_ok-attrs.ensures.went.numbered, c.in_ok-rest-3.ensures.went.numbered);
      few = omega (arith, c.in_ok-attrs.ensures.went.few, c.in_ok-rest-3.ensures.went.few);
    }

pub compound-returns-in_err-rest-4-clause-grows : goal.compound-returns-in_err-rest-4-clause-grows
compound-returns-in_err-rest-4-clause-grows t c = grows_trans _ _ _ c.in_ok-attrs.ensures.grows c.in_err-rest-4.ensures.grows

pub compound-returns-in-Some-key_at-5-clause-grows : goal.compound-returns-in-Some-key_at-5-clause-grows
compound-returns-in-Some-key_at-5-clause-grows t c = grows_trans _ _ _ c.in_ok-attrs.ensures.grows c.in_ok-rest-4.ensures.grows

pub compound-returns-in-Some-key_at-5-clause-went : goal.compound-returns-in-Some-key_at-5-clause-went
compound-returns-in-Some-key_at-5-clause-went t c =
    let end : c.while_statement.result.end ≡ c.in_ok-rest-4.rest.end = ap (λ y. y.end) c.while_statement.ensures in
    let node : c.while_statement.result.node ≡ c.in_ok-rest-4.rest.node + 1 = ap (λ y. y.node) c.while_statement.ensures in
    record {
      further = omega (arith, c.in_ok-attrs.ensures.went.further, c.in_ok-rest-4.ensures.went.further);
      within = omega (arith, c.in_ok-rest-4.ensures.went.within);
      numbered = omega (arith, c.in_ok-attrs.ensures.went.numbered, c.in_ok-rest-4.ensures.went.numbered);
      few = omega (arith, c.in_ok-attrs.ensures.went.few, c.in_ok-rest-4.ensures.went.few);
    }

pub guarded-returns-in-Err-clause-grows : goal.guarded-returns-in-Err-clause-grows
guarded-returns-in-Err-clause-grows t c = grows_trans _ _ _ c.in_ok-condition.ensures.grows c.in-Err.ensures.grows

pub guarded-returns-clause-grows : goal.guarded-returns-clause-grows
guarded-returns-clause-grows t c = grows_trans _ _ _ c.in_ok-condition.ensures.grows c.in-Ok.ensures.grows

pub guarded-returns-clause-went : goal.guarded-returns-clause-went
guarded-returns-clause-went t c = record {
  further = omega (arith, c.in_ok-condition.ensures.went.further, c.in-Ok.ensures.went.further);
  within = omega (arith, c.in-Ok.ensures.went.within);
  numbered = omega (arith, c.in_ok-condition.ensures.went.numbered, c.in-Ok.ensures.went.numbered);
  few = omega (arith, c.in_ok-condition.ensures.went.few, c.in-Ok.ensures.went.few);
}

pub switch_parts-attributes-requires : goal.switch_parts-attributes-requires
switch_parts-attributes-requires t c = record {
  can = record {
    within = omega (arith, c.in_ok-selector.ensures.went.within);
    numbered = omega (arith, c.in_ok-selector.ensures.went.numbered);
    few = omega (arith, c.in_ok-selector.ensures.went.few);
  };
}

pub switch_parts-returns-in-Err-clause-grows : goal.switch_parts-returns-in-Err-clause-grows
switch_parts-returns-in-Err-clause-grows t c = grows_trans _ _ _ c.in_ok-selector.ensures.grows c.in-Err.ensures.grows

pub switch_parts-returns-in_default-clause-grows : goal.switch_parts-returns-in_default-clause-grows
switch_parts-returns-in_default-clause-grows t c = grows_trans _ _ _ c.in_ok-selector.ensures.grows c.in-Ok.ensures.grows

pub switch_parts-returns-in-Err-clauses-clause-grows : goal.switch_parts-returns-in-Err-clauses-clause-grows
switch_parts-returns-in-Err-clauses-clause-grows t c = grows_trans _ _ _ c.in_ok-selector.ensures.grows (grows_trans _ _ _ c.in-Ok.ensures.grows c.in-Err-clauses.ensures.grows)

pub switch_parts-returns-in_default-mark_at-clause-grows : goal.switch_parts-returns-in_default-mark_at-clause-grows
switch_parts-returns-in_default-mark_at-clause-grows t c = grows_trans _ _ _ c.in_ok-selector.ensures.grows (grows_trans _ _ _ c.in-Ok.ensures.grows c.in-Ok-clauses.ensures.grows)

pub switch_parts-returns-clause-grows : goal.switch_parts-returns-clause-grows
switch_parts-returns-clause-grows t c = grows_trans _ _ _ c.in_ok-selector.ensures.grows (grows_trans _ _ _ c.in-Ok.ensures.grows c.in-Ok-clauses.ensures.grows)

pub switch_parts-returns-clause-went : goal.switch_parts-returns-clause-went
switch_parts-returns-clause-went t c = record {
  further = omega (arith, c.in_ok-selector.ensures.went.further, c.in-Ok.ensures.went.further, c.in-Ok-clauses.ensures.went.further);
  within = omega (arith, c.in-Some-mark_at.ensures.within);
  numbered = omega (arith, c.in_ok-selector.ensures.went.numbered, c.in-Ok.ensures.went.numbered, c.in-Ok-clauses.ensures.went.numbered);
  few = omega (arith, c.in_ok-selector.ensures.went.few, c.in-Ok.ensures.went.few, c.in-Ok-clauses.ensures.went.few);
}

pub clause-returns-in_err-rest-clause-grows : goal.clause-returns-in_err-rest-clause-grows
clause-returns-in_err-rest-clause-grows t c = grows_trans _ _ _ c.in_ok-list.ensures.grows c.in_err-rest.ensures.grows

pub clause-returns-in-Some-clause-grows : goal.clause-returns-in-Some-clause-grows
clause-returns-in-Some-clause-grows t c = grows_trans _ _ _ c.in_ok-list.ensures.grows c.in_ok-rest.ensures.grows

pub clause-returns-in-Some-clause-went : goal.clause-returns-in-Some-clause-went
clause-returns-in-Some-clause-went t c = record {
  further = omega (arith, c.in_ok-list.ensures.went.further, c.in_ok-rest.ensures.went.further);
  within = omega (arith, c.in_ok-rest.ensures.went.within);
  numbered = omega (arith, c.in_ok-list.ensures.went.numbered, c.in_ok-rest.ensures.went.numbered);
  few = omega (arith, c.in_ok-list.ensures.went.few, c.in_ok-rest.ensures.went.few);
}

pub clause-returns-clause-went : goal.clause-returns-clause-went
clause-returns-clause-went t c = record {
  further = omega (arith, c.in_ok-rest-2.ensures.went.further);
  within = omega (arith, c.in_ok-rest-2.ensures.went.within);
  numbered = omega (arith, c.in_ok-rest-2.ensures.went.numbered);
  few = omega (arith, c.in_ok-rest-2.ensures.went.few);
}

pub clause_body-returns-then-is_mark-clause-went : goal.clause_body-returns-then-is_mark-clause-went
clause_body-returns-then-is_mark-clause-went t c = record {
  further = omega (arith, c.in_ok-body.ensures.went.further);
  within = omega (arith, c.in_ok-body.ensures.went.within);
  numbered = omega (arith, c.in_ok-body.ensures.went.numbered);
  few = omega (arith, c.in_ok-body.ensures.went.few);
}

pub clause_body-returns-clause-went : goal.clause_body-returns-clause-went
clause_body-returns-clause-went t c = record {
  further = omega (arith, c.in_ok-body-2.ensures.went.further);
  within = omega (arith, c.in_ok-body-2.ensures.went.within);
  numbered = omega (arith, c.in_ok-body-2.ensures.went.numbered);
  few = omega (arith, c.in_ok-body-2.ensures.went.few);
}

pub loop_parts-returns-in_err-body-clause-grows : goal.loop_parts-returns-in_err-body-clause-grows
loop_parts-returns-in_err-body-clause-grows t c = grows_trans _ _ _ c.in_ok-inner.ensures.grows c.in_err-body.ensures.grows

pub loop_parts-returns-in_err-last-clause-grows : goal.loop_parts-returns-in_err-last-clause-grows
loop_parts-returns-in_err-last-clause-grows t c = grows_trans _ _ _ c.in_ok-inner.ensures.grows (grows_trans _ _ _ c.in_ok-body.ensures.grows c.in_err-last.ensures.grows)

pub loop_parts-returns-clause-grows : goal.loop_parts-returns-clause-grows
loop_parts-returns-clause-grows t c = grows_trans _ _ _ c.in_ok-inner.ensures.grows (grows_trans _ _ _ c.in_ok-body.ensures.grows c.in_ok-last.ensures.grows)

pub loop_parts-returns-clause-went : goal.loop_parts-returns-clause-went
loop_parts-returns-clause-went t c = record {
  further = omega (arith, c.in_ok-inner.ensures.went.further, c.in_ok-body.ensures.went.further, c.in_ok-last.ensures.went.further);
  within = omega (arith, c.in_ok-last.ensures.went.within);
  numbered = omega (arith, c.in_ok-inner.ensures.went.numbered, c.in_ok-body.ensures.went.numbered, c.in_ok-last.ensures.went.numbered);
  few = omega (arith, c.in_ok-inner.ensures.went.few, c.in_ok-body.ensures.went.few, c.in_ok-last.ensures.went.few);
}

pub loop_end-returns-clause-went : goal.loop_end-returns-clause-went
loop_end-returns-clause-went t c = record {
  further = omega (arith, c.in_ok-part.ensures.went.further);
  within = omega (arith, c.in-Some-mark_at.ensures.within);
  numbered = omega (arith, c.in_ok-part.ensures.went.numbered);
  few = omega (arith, c.in_ok-part.ensures.went.few);
}

pub continuing-returns-in_err-body-clause-grows : goal.continuing-returns-in_err-body-clause-grows
continuing-returns-in_err-body-clause-grows t c = grows_trans _ _ _ c.in_ok-attrs.ensures.grows c.in_err-body.ensures.grows

pub continuing-returns-in_err-part-clause-grows : goal.continuing-returns-in_err-part-clause-grows
continuing-returns-in_err-part-clause-grows t c = grows_trans _ _ _ c.in_ok-attrs.ensures.grows c.in_ok-body.ensures.grows

pub continuing-returns-clause-grows : goal.continuing-returns-clause-grows
continuing-returns-clause-grows t c = grows_trans _ _ _ c.in_ok-attrs.ensures.grows c.in_ok-body.ensures.grows

pub continuing-returns-clause-went : goal.continuing-returns-clause-went
continuing-returns-clause-went t c = record {
  further = omega (arith, c.in_ok-attrs.ensures.went.further, c.in_ok-body.ensures.went.further);
  within = omega (arith, c.in_ok-body.ensures.went.within);
  numbered = omega (arith, c.in_ok-attrs.ensures.went.numbered, c.in_ok-body.ensures.went.numbered);
  few = omega (arith, c.in_ok-attrs.ensures.went.few, c.in_ok-body.ensures.went.few);
}

pub statements-returns-in_err-item-clause-grows : goal.statements-returns-in_err-item-clause-grows
statements-returns-in_err-item-clause-grows t c = grows_trans _ _ _ c.list.invariant.grows c.in_err-item.ensures.grows

pub statements-returns-in_err-push_statement-clause-grows : goal.statements-returns-in_err-push_statement-clause-grows
statements-returns-in_err-push_statement-clause-grows t c = grows_trans _ _ _ c.list.invariant.grows c.in_ok-item.ensures.grows

pub clauses-returns-in_err-item-clause-grows : goal.clauses-returns-in_err-item-clause-grows
clauses-returns-in_err-item-clause-grows t c = grows_trans _ _ _ c.list.invariant.grows c.in_err-item.ensures.grows

pub clauses-returns-in_err-push_clause-clause-grows : goal.clauses-returns-in_err-push_clause-clause-grows
clauses-returns-in_err-push_clause-clause-grows t c = grows_trans _ _ _ c.list.invariant.grows c.in_ok-item.ensures.grows

pub branches-returns-in_err-body-clause-grows : goal.branches-returns-in_err-body-clause-grows
branches-returns-in_err-body-clause-grows t c = grows_trans _ _ _ c.arms.invariant.grows c.in_err-body.ensures.grows

pub branches-returns-in_err-otherwise-clause-grows : goal.branches-returns-in_err-otherwise-clause-grows
branches-returns-in_err-otherwise-clause-grows t c = grows_trans _ _ _ c.arms.invariant.grows c.in_ok-body.ensures.grows

pub branches-returns-in_default-key_at-clause-grows : goal.branches-returns-in_default-key_at-clause-grows
branches-returns-in_default-key_at-clause-grows t c = grows_trans _ _ _ c.arms.invariant.grows c.in_ok-body.ensures.grows

pub branches-returns-in_err-guarded-clause-grows : goal.branches-returns-in_err-guarded-clause-grows
branches-returns-in_err-guarded-clause-grows t c = grows_trans _ _ _ c.arms.invariant.grows c.in_err-guarded.ensures.grows

pub branches-returns-in_err-push_arm-clause-grows : goal.branches-returns-in_err-push_arm-clause-grows
branches-returns-in_err-push_arm-clause-grows t c = grows_trans _ _ _ c.arms.invariant.grows c.in_ok-guarded.ensures.grows

pub last_body-returns-in_err-last-clause-grows : goal.last_body-returns-in_err-last-clause-grows
last_body-returns-in_err-last-clause-grows t c = grows_trans _ _ _ c.list.invariant.grows c.in_err-last.ensures.grows

pub last_body-returns-in-Some-break_if_at-clause-grows : goal.last_body-returns-in-Some-break_if_at-clause-grows
last_body-returns-in-Some-break_if_at-clause-grows t c = grows_trans _ _ _ c.list.invariant.grows c.in_ok-last.ensures.grows

pub last_body-returns-in_err-item-clause-grows : goal.last_body-returns-in_err-item-clause-grows
last_body-returns-in_err-item-clause-grows t c = grows_trans _ _ _ c.list.invariant.grows c.in_err-item.ensures.grows

pub last_body-returns-in_err-push_statement-clause-grows : goal.last_body-returns-in_err-push_statement-clause-grows
last_body-returns-in_err-push_statement-clause-grows t c = grows_trans _ _ _ c.list.invariant.grows c.in_ok-item.ensures.grows
