use Rattle.std.proofs.Common.{sym, subst, ◌+◌, arith, ap, ◌≡◌}
use Rattle.shade_parse.specs.Rests.{AliasRest, ConstRest, AssertRest, StructRest, PlainAt}
use Rattle.shade_cursor.specs.Shown.{lexemes}
use Rattle.shade_parse_expr.proofs.Turns.{errs, fault_on, fails_here}
use Rattle.shade_parse_simple.proofs.Faulty.{within}
use Rattle.shade_ast.specs.Chains.{Headed}
use Rattle.shade_parse_simple.specs.Readings.{ReadsOf}
use Rattle.shade_parse.specs.Parts.{decl_seen}
use Rattle.shade_parse.proofs.PlainLaws.{plain_stuck, plain_fails}
use Rattle.shade_parse.proofs.DeclarationTrees.{plain_tree, empty_tree}
use Rattle.shade_parse.proofs.declarations.plain.Goals as goal

pub returns-in-Some-clause-tree : goal.returns-in-Some-clause-tree
returns-in-Some-clause-tree c = subst (λ r. ReadsOf decl_seen (Headed PlainAt) 0 (lexemes c.args.pieces.now) c.args.names.now c.args.from c.args.node r) (sym c.numbered.ensures) (empty_tree (within c.args.pieces.now c.args.from c.requires.can.within) c.in-Some.ensures.value)

pub returns-in_err-read-clause-tree : goal.returns-in_err-read-clause-tree
returns-in_err-read-clause-tree c = errs _ c.in_err-read.field-0.0 _ _ c.from_residual.ensures.1
    (fault_on (Headed PlainAt) (AliasRest c.in-Some-key_at.place) 0 0 (lexemes c.args.pieces.now) c.args.names.now c.args.names.now _ c.args.from (c.args.from + 1) c.in_err-read.field-0.0
    (omega arith) (λ to f. plain_fails (within c.args.pieces.now c.args.from c.requires.can.within) _ c.in-Some-key_at.ensures.value f) c.in_err-read.ensures.tree)

pub returns-in-Some-key_at-clause-tree : goal.returns-in-Some-key_at-clause-tree
returns-in-Some-key_at-clause-tree c = subst (λ r. ReadsOf decl_seen (Headed PlainAt) 0 (lexemes c.args.pieces.now) c.alias.new.names c.args.from c.args.node r)
    (sym c.numbered-in-Some-key_at.ensures) (plain_tree (within c.args.pieces.now c.args.from c.requires.can.within) _ c.in-Some-key_at.ensures.value c.in_ok-read.ensures.tree)

pub returns-in_err-read-2-clause-tree : goal.returns-in_err-read-2-clause-tree
returns-in_err-read-2-clause-tree c = errs _ c.in_err-read-2.field-0.0 _ _ c.from_residual-in_err-read-2.ensures.1
    (fault_on (Headed PlainAt) (ConstRest c.in-Some-key_at-2.place) 0 0 (lexemes c.args.pieces.now) c.args.names.now c.args.names.now _ c.args.from (c.args.from + 1)
    c.in_err-read-2.field-0.0 (omega arith) (λ to f. plain_fails (within c.args.pieces.now c.args.from c.requires.can.within) _ c.in-Some-key_at-2.ensures.value f)
    c.in_err-read-2.ensures.tree)

pub returns-in-Some-key_at-2-clause-tree : goal.returns-in-Some-key_at-2-clause-tree
returns-in-Some-key_at-2-clause-tree c = subst (λ r. ReadsOf decl_seen (Headed PlainAt) 0 (lexemes c.args.pieces.now) c.constant.new.names c.args.from c.args.node r)
    (sym c.numbered-in-Some-key_at-2.ensures) (plain_tree (within c.args.pieces.now c.args.from c.requires.can.within) _ c.in-Some-key_at-2.ensures.value c.in_ok-read-2.ensures.tree)

pub returns-in_err-read-3-clause-tree : goal.returns-in_err-read-3-clause-tree
returns-in_err-read-3-clause-tree c = errs _ c.in_err-read-3.field-0.0 _ _ c.from_residual-in_err-read-3.ensures.1
    (fault_on (Headed PlainAt) (AssertRest c.in-Some-key_at-3.place) 0 0 (lexemes c.args.pieces.now) c.args.names.now c.args.names.now _ c.args.from (c.args.from + 1)
    c.in_err-read-3.field-0.0 (omega arith) (λ to f. plain_fails (within c.args.pieces.now c.args.from c.requires.can.within) _ c.in-Some-key_at-3.ensures.value f)
    c.in_err-read-3.ensures.tree)

pub returns-in-Some-key_at-3-clause-tree : goal.returns-in-Some-key_at-3-clause-tree
returns-in-Some-key_at-3-clause-tree c = subst (λ r. ReadsOf decl_seen (Headed PlainAt) 0 (lexemes c.args.pieces.now) c.assertion.new.names c.args.from c.args.node r)
    (sym c.numbered-in-Some-key_at-3.ensures) (plain_tree (within c.args.pieces.now c.args.from c.requires.can.within) _ c.in-Some-key_at-3.ensures.value c.in_ok-read-3.ensures.tree)

pub returns-in_err-read-4-clause-tree : goal.returns-in_err-read-4-clause-tree
returns-in_err-read-4-clause-tree c = errs _ c.in_err-read-4.field-0.0 _ _ c.from_residual-in_err-read-4.ensures.1
    (fault_on (Headed PlainAt) (StructRest c.in-Some-key_at-4.place) 0 0 (lexemes c.args.pieces.now) c.args.names.now c.args.names.now _ c.args.from (c.args.from + 1)
    c.in_err-read-4.field-0.0 (omega arith) (λ to f. plain_fails (within c.args.pieces.now c.args.from c.requires.can.within) _ c.in-Some-key_at-4.ensures.value f)
    c.in_err-read-4.ensures.tree)

pub returns-in_default-key_at-4-clause-tree : goal.returns-in_default-key_at-4-clause-tree
returns-in_default-key_at-4-clause-tree c = fails_here (Headed PlainAt) 0 (lexemes c.args.pieces.now) c.args.names.now c.args.names.now c.args.from c.args.from (omega arith)
    (plain_stuck (within c.args.pieces.now c.args.from c.requires.can.within) c.in_default.ensures.value c.in_default-key_at.ensures.value c.in_default-key_at-2.ensures.value
    c.in_default-key_at-3.ensures.value c.in_default-key_at-4.ensures.value)

pub returns-clause-tree : goal.returns-clause-tree
returns-clause-tree c = subst (λ r. ReadsOf decl_seen (Headed PlainAt) 0 (lexemes c.args.pieces.now) c.structure.new.names c.args.from c.args.node r) (sym c.numbered-2.ensures)
    (plain_tree (within c.args.pieces.now c.args.from c.requires.can.within) _ c.in-Some-key_at-4.ensures.value c.in_ok-read-4.ensures.tree)

pub returns-in-Some-key_at-clause-went : goal.returns-in-Some-key_at-clause-went
returns-in-Some-key_at-clause-went c =
    let end : c.numbered-in-Some-key_at.result.end ≡ c.in_ok-read.read.end = ap (λ y. y.end) c.numbered-in-Some-key_at.ensures in
    let node : c.numbered-in-Some-key_at.result.node ≡ c.in_ok-read.read.node + 1 = ap (λ y. y.node) c.numbered-in-Some-key_at.ensures in
    record {
      further = omega (arith, c.in_ok-read.ensures.went.further);
      within = omega (arith, c.in_ok-read.ensures.went.within);
      numbered = omega (arith, c.in_ok-read.ensures.went.numbered);
      few = omega (arith, c.in_ok-read.ensures.went.few);
    }

pub returns-in-Some-key_at-2-clause-went : goal.returns-in-Some-key_at-2-clause-went
returns-in-Some-key_at-2-clause-went c =
    let end : c.numbered-in-Some-key_at-2.result.end ≡ c.in_ok-read-2.read.end = ap (λ y. y.end) c.numbered-in-Some-key_at-2.ensures in
    let node : c.numbered-in-Some-key_at-2.result.node ≡ c.in_ok-read-2.read.node + 1 = ap (λ y. y.node) c.numbered-in-Some-key_at-2.ensures in
    record {
      further = omega (arith, c.in_ok-read-2.ensures.went.further);
      within = omega (arith, c.in_ok-read-2.ensures.went.within);
      numbered = omega (arith, c.in_ok-read-2.ensures.went.numbered);
      few = omega (arith, c.in_ok-read-2.ensures.went.few);
    }

pub returns-in-Some-key_at-3-clause-went : goal.returns-in-Some-key_at-3-clause-went
returns-in-Some-key_at-3-clause-went c =
    let end : c.numbered-in-Some-key_at-3.result.end ≡ c.in_ok-read-3.read.end = ap (λ y. y.end) c.numbered-in-Some-key_at-3.ensures in
    let node : c.numbered-in-Some-key_at-3.result.node ≡ c.in_ok-read-3.read.node + 1 = ap (λ y. y.node) c.numbered-in-Some-key_at-3.ensures in
    record {
      further = omega (arith, c.in_ok-read-3.ensures.went.further);
      within = omega (arith, c.in_ok-read-3.ensures.went.within);
      numbered = omega (arith, c.in_ok-read-3.ensures.went.numbered);
      few = omega (arith, c.in_ok-read-3.ensures.went.few);
    }
