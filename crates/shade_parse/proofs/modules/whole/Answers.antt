use Rattle.std.proofs.Common.{refl, sym, subst, length, arith, ◌≤◌, map, ◌++◌}
use Rattle.shade_ast.specs.Declarations.{Module}
use Rattle.shade_cursor.specs.Shown.{lexemes}
use Rattle.shade_parse_expr.proofs.Turns.{errs}
use Rattle.shade_ast.proofs.ShapeLaws.{grows_trans}
use Rattle.shade_ast.specs.Shaped.{directive_shape, decl_shape}
use Rattle.shade_ast.specs.Nodes.{joined_of, directive_nodes, decl_nodes, CountFrom}
use Rattle.shade_ast.specs.Places.{IsOnly}
use Rattle.shade_parse_simple.proofs.Faulty.{isnt, below, above}
use Rattle.shade_parse.proofs.ModuleLaws.{tree}
use Rattle.shade_parse.proofs.ModuleTrees.{DeclTurn, directives_first, directive_turn, directive_fault, decls_first, decl_turn, decl_fault, whole_only, whole_nodes, whole_few}
use Rattle.shade_parse.proofs.modules.whole.Goals as goal

pub directives-init : goal.directives-init
directives-init c = directives_first c.args.names c.new-directives.ensures

pub returns-in_err-read-clause-tree : goal.returns-in_err-read-clause-tree
returns-in_err-read-clause-tree c = errs _ c.in_err-read.field-0.0 _ _ c.from_residual.ensures.1 (directive_fault c.directives.invariant _ c.in_err-read.field-0.0 (c.directives-test.ensures.value.0 refl) c.in_err-read.ensures.tree)

pub directives-preserved : goal.directives-preserved
directives-preserved c = directive_turn c.directives.invariant c.push.new.items c.in_ok-read.ensures.grows (c.directives-test.ensures.value.0 refl) c.in_ok-read.ensures.tree
    c.in_ok-push.ensures c.in_ok-read.ensures.went.further c.in_ok-read.ensures.went.within c.in_ok-read.ensures.went.numbered c.in_ok-read.ensures.went.few

pub decls-init : goal.decls-init
decls-init c = subst (λ ds. DeclTurn (lexemes c.args.pieces.now) (length c.args.pieces.now) c.directives.names c.directives.names ds c.new-decls.result c.directives.node c.directives.at c.directives.node)
    (sym c.directives-2.view_is) (decls_first c.directives.invariant c.new-decls.ensures (isnt c.directives-test.ensures.value) c.requires.few)

pub returns-in_err-read-2-clause-tree : goal.returns-in_err-read-2-clause-tree
returns-in_err-read-2-clause-tree c = errs _ c.in_err-read-2.field-0.0 _ _ c.from_residual-in_err-read-2.ensures.1 (decl_fault c.decls.invariant _ c.in_err-read-2.field-0.0 (below c.args.pieces.now c.decls.at (omega (arith, c.decls-test.true))) c.in_err-read-2.ensures.tree)

pub decls-preserved : goal.decls-preserved
decls-preserved c = decl_turn c.decls.invariant c.push-in-decls.new.items c.in_ok-read-2.ensures.grows c.in_ok-read-2.ensures.tree c.in_ok-push-2.ensures c.in_ok-read-2.ensures.went.within c.in_ok-read-2.ensures.went.numbered c.in_ok-read-2.ensures.went.few

pub returns-clause-tree : goal.returns-clause-tree
returns-clause-tree c = subst (λ ds. IsOnly Module (tree (map (directive_shape c.decls.names) ds) (map (decl_shape c.decls.names) c.decls.decls)) (lexemes c.args.pieces.now))
    c.directives-2.view_is (whole_only c.decls.invariant (above c.args.pieces.now c.decls.at (omega (arith, c.decls-test.false))))

pub returns-clause-nodes : goal.returns-clause-nodes
returns-clause-nodes c = subst (λ ds. CountFrom 0 (joined_of directive_nodes ds ++ joined_of decl_nodes c.decls.decls) (length (joined_of directive_nodes ds ++ joined_of decl_nodes c.decls.decls))) c.directives-2.view_is (whole_nodes c.decls.invariant)

pub returns-clause-few_nodes : goal.returns-clause-few_nodes
returns-clause-few_nodes c = subst (λ ds. length (joined_of directive_nodes ds ++ joined_of decl_nodes c.decls.decls) ≤ length c.args.pieces.now) c.directives-2.view_is (whole_few c.decls.invariant)

pub returns-clause-grows : goal.returns-clause-grows
returns-clause-grows c = grows_trans c.args.names c.directives.names c.decls.names c.directives.invariant.grows c.decls.invariant.grows
