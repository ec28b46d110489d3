use Rattle.std.proofs.Common.{sym, subst, ◌+◌, arith, ap, ◌≡◌}
use Rattle.shade_ast.specs.declared.lexeme.Sign.TheVariants as sign
use Rattle.shade_ast.specs.Repeats.{Listed}
use Rattle.shade_ast.specs.Statements.{Name}
use Rattle.shade_ast.specs.Declarations.{DirectiveOf}
use Rattle.shade_parse.specs.Rests.{Enclosed, DiagnosticRest}
use Rattle.shade_cursor.specs.Shown.{lexemes}
use Rattle.shade_parse_expr.proofs.Turns.{errs, fault_on, fails_here}
use Rattle.shade_parse_simple.proofs.Faulty.{within}
use Rattle.shade_ast.specs.Shapes.{requires_directive, enable_directive}
use Rattle.shade_parse_simple.specs.Readings.{ReadsOf}
use Rattle.shade_parse.specs.Parts.{directive_seen}
use Rattle.shade_parse.proofs.DirectiveLaws.{directive_stuck, directive_fails, built_fails}
use Rattle.shade_parse.proofs.DirectiveTrees.{directive_tree, requires_tree, enable_tree}
use Rattle.shade_parse.proofs.directives.directive.Goals as goal

pub returns-in_err-kind-clause-tree : goal.returns-in_err-kind-clause-tree
returns-in_err-kind-clause-tree c = errs _ c.in_err-kind.field-0.0 _ _ c.from_residual.ensures.1
    (fault_on DirectiveOf (DiagnosticRest c.in-Some.place) 0 0 (lexemes c.args.pieces.now) c.args.names.now c.args.names.now _ c.args.from (c.args.from + 1) c.in_err-kind.field-0.0
    (omega arith) (λ to f. directive_fails (within c.args.pieces.now c.args.from c.requires.can.within) _ c.in-Some.ensures.value f) c.in_err-kind.ensures.tree)

pub returns-in-Some-clause-tree : goal.returns-in-Some-clause-tree
returns-in-Some-clause-tree c = subst (λ r. ReadsOf directive_seen DirectiveOf 0 (lexemes c.args.pieces.now) c.diagnostic.new.names c.args.from c.args.node r) (sym c.numbered.ensures)
    (directive_tree (within c.args.pieces.now c.args.from c.requires.can.within) _ c.in-Some.ensures.value c.in_ok-kind.ensures.tree)

pub returns-in_err-list-clause-tree : goal.returns-in_err-list-clause-tree
returns-in_err-list-clause-tree c = errs _ c.in_err-list.field-0.0 _ _ c.from_residual-in_err-list.ensures.1
    (fault_on DirectiveOf (Enclosed (Listed Name) sign.Semicolon) 0 0 (lexemes c.args.pieces.now) c.args.names.now c.args.names.now _ c.args.from (c.args.from + 1) c.in_err-list.field-0.0
    (omega arith)
    (λ to f. directive_fails (within c.args.pieces.now c.args.from c.requires.can.within) _ c.in-Some-key_at.ensures.value
    (built_fails (λ l. requires_directive c.in-Some-key_at.place l.0.0 l.0.1) (within c.args.pieces.now (c.args.from + 1) (omega (arith, c.in-Some-key_at.ensures.within))) f))
    c.in_err-list.ensures.tree)

pub returns-in-Some-key_at-clause-tree : goal.returns-in-Some-key_at-clause-tree
returns-in-Some-key_at-clause-tree c = subst (λ r. ReadsOf directive_seen DirectiveOf 0 (lexemes c.args.pieces.now) c.name_list.new.names c.args.from c.args.node r)
    (sym c.numbered-in-Some-key_at.ensures)
    (directive_tree (within c.args.pieces.now c.args.from c.requires.can.within) _ c.in-Some-key_at.ensures.value
    (requires_tree (within c.args.pieces.now (c.args.from + 1) (omega (arith, c.in-Some-key_at.ensures.within))) c.in_ok-list.ensures.tree))

pub returns-in_default-key_at-2-clause-tree : goal.returns-in_default-key_at-2-clause-tree
returns-in_default-key_at-2-clause-tree c = fails_here DirectiveOf 0 (lexemes c.args.pieces.now) c.args.names.now c.args.names.now c.args.from c.args.from (omega arith)
    (directive_stuck (within c.args.pieces.now c.args.from c.requires.can.within) c.in_default.ensures.value c.in_default-key_at.ensures.value c.in_default-key_at-2.ensures.value)

pub returns-in_err-list-2-clause-tree : goal.returns-in_err-list-2-clause-tree
returns-in_err-list-2-clause-tree c = errs _ c.in_err-list-2.field-0.0 _ _ c.from_residual-in_err-list-2.ensures.1
    (fault_on DirectiveOf (Enclosed (Listed Name) sign.Semicolon) 0 0 (lexemes c.args.pieces.now) c.args.names.now c.args.names.now _ c.args.from (c.args.from + 1) c.in_err-list-2.field-0.0
    (omega arith)
    (λ to f. directive_fails (within c.args.pieces.now c.args.from c.requires.can.within) _ c.in-Some-key_at-2.ensures.value
    (built_fails (λ l. enable_directive c.in-Some-key_at-2.place l.0.0 l.0.1) (within c.args.pieces.now (c.args.from + 1) (omega (arith, c.in-Some-key_at-2.ensures.within))) f))
    c.in_err-list-2.ensures.tree)

pub returns-clause-tree : goal.returns-clause-tree
returns-clause-tree c = subst (λ r. ReadsOf directive_seen DirectiveOf 0 (lexemes c.args.pieces.now) c.name_list-2.new.names c.args.from c.args.node r) (sym c.numbered-2.ensures)
    (directive_tree (within c.args.pieces.now c.args.from c.requires.can.within) _ c.in-Some-key_at-2.ensures.value
    (enable_tree (within c.args.pieces.now (c.args.from + 1) (omega (arith, c.in-Some-key_at-2.ensures.within))) c.in_ok-list-2.ensures.tree))

pub returns-in-Some-clause-went : goal.returns-in-Some-clause-went
returns-in-Some-clause-went c =
    let end : c.numbered.result.end ≡ c.in_ok-kind.kind.end = ap (λ y. y.end) c.numbered.ensures in
    let node : c.numbered.result.node ≡ c.in_ok-kind.kind.node + 1 = ap (λ y. y.node) c.numbered.ensures in
    record {
      further = omega (arith, c.in_ok-kind.ensures.went.further);
      within = omega (arith, c.in_ok-kind.ensures.went.within);
      numbered = omega (arith, c.in_ok-kind.ensures.went.numbered);
      few = omega (arith, c.in_ok-kind.ensures.went.few);
    }

pub returns-in-Some-key_at-clause-went : goal.returns-in-Some-key_at-clause-went
returns-in-Some-key_at-clause-went c =
    let end : c.numbered-in-Some-key_at.result.end ≡ c.in_ok-list.list.end = ap (λ y. y.end) c.numbered-in-Some-key_at.ensures in
    let node : c.numbered-in-Some-key_at.result.node ≡ c.in_ok-list.list.node + 1 = ap (λ y. y.node) c.numbered-in-Some-key_at.ensures in
    record {
      further = omega (arith, c.in_ok-list.ensures.went.further);
      within = omega (arith, c.in_ok-list.ensures.went.within);
      numbered = omega (arith, c.in_ok-list.ensures.went.numbered);
      few = omega (arith, c.in_ok-list.ensures.went.few);
    }
