use Rattle.std.proofs.Common.{refl, sym, ap, subst, ◌+◌, arith, ◌≡◌}
use Rattle.shade_ast.specs.Repeats.{Many}
use Rattle.shade_ast.specs.Statements.{Attribute, Var}
use Rattle.shade_ast.specs.Declarations.{Declaration}
use Rattle.shade_parse.specs.Rests.{PlainAt, OverrideRest, FnRest}
use Rattle.shade_ast.proofs.ShapeLaws.{grows_trans}
use Rattle.shade_cursor.specs.declared.part.Fault.TheVariants as fault
use Rattle.shade_parse_expr.specs.Parts.{Faults}
use Rattle.shade_cursor.specs.Shown.{lexemes}
use Rattle.shade_parse_expr.proofs.Turns.{errs, answers, fault_on, fails_here}
use Rattle.shade_parse_simple.proofs.Faulty.{within}
use Rattle.shade_parse_simple.proofs.Widens.{widen, attrs_keep}
use Rattle.shade_ast.specs.Chains.{Headed}
use Rattle.shade_parse_simple.specs.Readings.{ReadsOf}
use Rattle.shade_parse.specs.Parts.{decl_seen}
use Rattle.shade_parse.proofs.DeclarationLaws.{decl_attrs_fail, decl_fn_fails, decl_override_fails, decl_var_fails, decl_var_stuck, decl_plain_fails, decl_stuck}
use Rattle.shade_parse.proofs.DeclarationTrees.{fn_decl_tree, override_decl_tree, var_decl_tree, decl_plain_tree, no_attrs}
use Rattle.shade_ast.specs.Shaped.{attr_shapes}
use Rattle.shade_parse.proofs.declarations.declaration.Goals as goal

pub returns-in_err-attrs-clause-tree : goal.returns-in_err-attrs-clause-tree
returns-in_err-attrs-clause-tree c = errs _ c.in_err-attrs.field-0.0 _ _ c.from_residual.ensures.1
    (fault_on Declaration (Many Attribute) 0 8 (lexemes c.args.pieces.now) c.args.names.now c.args.names.now _ c.args.from c.args.from c.in_err-attrs.field-0.0 (omega arith)
    (λ to f. decl_attrs_fail (within c.args.pieces.now c.args.from c.requires.can.within) f) c.in_err-attrs.ensures.tree)

pub returns-in_err-body-clause-tree : goal.returns-in_err-body-clause-tree
returns-in_err-body-clause-tree c = errs _ c.in_err-body.field-0.0 _ _ c.from_residual-in_err-body.ensures.1
    (fault_on Declaration FnRest 0 0 (lexemes c.args.pieces.now) c.args.names.now c.attributes.new.names _ c.args.from (c.in_ok-attrs.attrs.end + 1) c.in_err-body.field-0.0
    (omega (arith, c.in_ok-attrs.ensures.went.few))
    (λ to f. decl_fn_fails (within c.args.pieces.now c.args.from c.requires.can.within) c.in_ok-attrs.ensures.tree.reads _ c.in-Some.ensures.value f) c.in_err-body.ensures.tree)

pub returns-in-Some-clause-tree : goal.returns-in-Some-clause-tree
returns-in-Some-clause-tree c = subst (λ r. ReadsOf decl_seen Declaration 0 (lexemes c.args.pieces.now) c.function.new.names c.args.from c.args.node r) (sym c.fn_decl.ensures)
    (fn_decl_tree (within c.args.pieces.now c.args.from c.requires.can.within) (widen attrs_keep c.in_ok-body.ensures.grows c.in_ok-attrs.ensures.tree) c.in-Some.ensures.value
    c.in_ok-body.ensures.tree)

pub returns-in_err-body-2-clause-tree : goal.returns-in_err-body-2-clause-tree
returns-in_err-body-2-clause-tree c = errs _ c.in_err-body-2.field-0.0 _ _ c.from_residual-in_err-body-2.ensures.1
    (fault_on Declaration OverrideRest 0 0 (lexemes c.args.pieces.now) c.args.names.now c.attributes.new.names _ c.args.from (c.in_ok-attrs.attrs.end + 1) c.in_err-body-2.field-0.0
    (omega (arith, c.in_ok-attrs.ensures.went.few))
    (λ to f. decl_override_fails (within c.args.pieces.now c.args.from c.requires.can.within) c.in_ok-attrs.ensures.tree.reads c.in_default.ensures.value _ c.in-Some-key_at.ensures.value f)
    c.in_err-body-2.ensures.tree)

pub returns-in-Some-key_at-clause-tree : goal.returns-in-Some-key_at-clause-tree
returns-in-Some-key_at-clause-tree c = subst (λ r. ReadsOf decl_seen Declaration 0 (lexemes c.args.pieces.now) c.overridable.new.names c.args.from c.args.node r)
    (sym c.override_decl.ensures)
    (override_decl_tree (within c.args.pieces.now c.args.from c.requires.can.within) (widen attrs_keep c.in_ok-body-2.ensures.grows c.in_ok-attrs.ensures.tree) c.in_default.ensures.value
    c.in-Some-key_at.ensures.value c.in_ok-body-2.ensures.tree)

pub returns-in_err-variable-clause-tree : goal.returns-in_err-variable-clause-tree
returns-in_err-variable-clause-tree c = errs _ c.in_err-variable.field-0.0 _ _ c.from_residual-in_err-variable.ensures.1
    (fault_on Declaration Var 0 8 (lexemes c.args.pieces.now) c.args.names.now c.attributes.new.names _ c.args.from c.in_ok-attrs.attrs.end c.in_err-variable.field-0.0
    (omega (arith, c.in_ok-attrs.ensures.went.few))
    (λ to f. decl_var_fails (within c.args.pieces.now c.args.from c.requires.can.within) c.in_ok-attrs.ensures.tree.reads c.in_default.ensures.value c.in_default-key_at.ensures.value _
    c.in-Some-key_at-2.ensures.value f) c.in_err-variable.ensures.tree)

pub returns-in_default-mark_at-clause-tree : goal.returns-in_default-mark_at-clause-tree
returns-in_default-mark_at-clause-tree c = errs _ (fault.Unexpected (c.in_ok-variable.variable.end)) _ _ c.refuse.ensures
    (fails_here Declaration 0 (lexemes c.args.pieces.now) c.args.names.now c.var.new.names c.args.from c.in_ok-variable.variable.end
    (omega (arith, c.in_ok-attrs.ensures.went.few, c.in_ok-variable.ensures.went.few))
    (decl_var_stuck (within c.args.pieces.now c.args.from c.requires.can.within) c.in_ok-attrs.ensures.tree.reads c.in_default.ensures.value c.in_default-key_at.ensures.value _
    c.in-Some-key_at-2.ensures.value c.in_ok-variable.ensures.tree.reads c.in_default-mark_at.ensures.value))

pub returns-in-Some-key_at-2-clause-tree : goal.returns-in-Some-key_at-2-clause-tree
returns-in-Some-key_at-2-clause-tree c = subst (λ r. ReadsOf decl_seen Declaration 0 (lexemes c.args.pieces.now) c.var.new.names c.args.from c.args.node r) (sym c.var_decl.ensures)
    (var_decl_tree (within c.args.pieces.now c.args.from c.requires.can.within) (widen attrs_keep c.in_ok-variable.ensures.grows c.in_ok-attrs.ensures.tree) c.in_default.ensures.value
    c.in_default-key_at.ensures.value c.in-Some-key_at-2.ensures.value c.in_ok-variable.ensures.tree c.in-Some-mark_at.ensures.value)

pub returns-then-not-is_empty-clause-tree : goal.returns-then-not-is_empty-clause-tree
returns-then-not-is_empty-clause-tree c = fails_here Declaration 0 (lexemes c.args.pieces.now) c.args.names.now c.attributes.new.names c.args.from c.in_ok-attrs.attrs.end
    (omega (arith, c.in_ok-attrs.ensures.went.few))
    (decl_stuck (within c.args.pieces.now c.args.from c.requires.can.within) c.in_ok-attrs.ensures.tree.reads c.in_default.ensures.value c.in_default-key_at.ensures.value
    c.in_default-key_at-2.ensures.value (no_attrs c.attributes.new.names _ c.if-not-is_empty.ensures))

pub returns-clause-tree : goal.returns-clause-tree
returns-clause-tree c = answers c.plain.result (λ r. ReadsOf decl_seen (Headed PlainAt) 0 (lexemes c.args.pieces.now) c.plain.new.names c.in_ok-attrs.attrs.end c.in_ok-attrs.attrs.node r)
    (λ r. ReadsOf decl_seen Declaration 0 (lexemes c.args.pieces.now) c.plain.new.names c.args.from c.args.node r)
    (λ f. Faults (Headed PlainAt) 0 (lexemes c.args.pieces.now) c.attributes.new.names c.plain.new.names c.in_ok-attrs.attrs.end f)
    (λ f. Faults Declaration 0 (lexemes c.args.pieces.now) c.args.names.now c.plain.new.names c.args.from f)
    (λ r x. decl_plain_tree (within c.args.pieces.now c.args.from c.requires.can.within) (widen attrs_keep c.plain.ensures.grows c.in_ok-attrs.ensures.tree) c.in_default.ensures.value
    c.in_default-key_at.ensures.value c.in_default-key_at-2.ensures.value (c.if-not-is_empty.ensures.0 refl) x)
    (λ f x. fault_on Declaration (Headed PlainAt) 0 0 (lexemes c.args.pieces.now) c.args.names.now c.attributes.new.names c.plain.new.names c.args.from c.in_ok-attrs.attrs.end f
    (omega (arith, c.in_ok-attrs.ensures.went.few))
    (λ to g. decl_plain_fails (within c.args.pieces.now c.args.from c.requires.can.within) c.in_ok-attrs.ensures.tree.reads c.in_default.ensures.value c.in_default-key_at.ensures.value
    c.in_default-key_at-2.ensures.value (ap (attr_shapes c.attributes.new.names) (c.if-not-is_empty.ensures.0 refl)) g) x) c.plain.ensures.tree

pub function-requires : goal.function-requires
function-requires c = record {
  can = record {
    within = omega (arith, c.in-Some.ensures.within);
    numbered = omega (arith, c.in_ok-attrs.ensures.went.numbered);
    few = omega (arith, c.in_ok-attrs.ensures.went.few);
  };
}

pub returns-in_err-body-clause-grows : goal.returns-in_err-body-clause-grows
returns-in_err-body-clause-grows c = grows_trans _ _ _ c.in_ok-attrs.ensures.grows c.in_err-body.ensures.grows

pub returns-in-Some-clause-grows : goal.returns-in-Some-clause-grows
returns-in-Some-clause-grows c = grows_trans _ _ _ c.in_ok-attrs.ensures.grows c.in_ok-body.ensures.grows

pub returns-in-Some-clause-went : goal.returns-in-Some-clause-went
returns-in-Some-clause-went c =
    let end : c.fn_decl.result.end ≡ c.in_ok-body.body.end = ap (λ y. y.end) c.fn_decl.ensures in
    let node : c.fn_decl.result.node ≡ c.in_ok-body.body.node + 1 = ap (λ y. y.node) c.fn_decl.ensures in
    record {
      further = omega (arith, c.in_ok-attrs.ensures.went.further, c.in_ok-body.ensures.went.further);
      within = omega (arith, c.in_ok-body.ensures.went.within);
      numbered = omega (arith, c.in_ok-attrs.ensures.went.numbered, c.in_ok-body.ensures.went.numbered);
      few = omega (arith, c.in_ok-attrs.ensures.went.few, c.in_ok-body.ensures.went.few);
    }

pub overridable-requires : goal.overridable-requires
overridable-requires c = record {
  can = record {
    within = omega (arith, c.in-Some-key_at.ensures.within);
    numbered = omega (arith, c.in_ok-attrs.ensures.went.numbered);
    few = omega (arith, c.in_ok-attrs.ensures.went.few);
  };
}

pub returns-in_err-body-2-clause-grows : goal.returns-in_err-body-2-clause-grows
returns-in_err-body-2-clause-grows c = grows_trans _ _ _ c.in_ok-attrs.ensures.grows c.in_err-body-2.ensures.grows

pub returns-in-Some-key_at-clause-grows : goal.returns-in-Some-key_at-clause-grows
returns-in-Some-key_at-clause-grows c = grows_trans _ _ _ c.in_ok-attrs.ensures.grows c.in_ok-body-2.ensures.grows

pub returns-in-Some-key_at-clause-went : goal.returns-in-Some-key_at-clause-went
returns-in-Some-key_at-clause-went c =
    let end : c.override_decl.result.end ≡ c.in_ok-body-2.body.end = ap (λ y. y.end) c.override_decl.ensures in
    let node : c.override_decl.result.node ≡ c.in_ok-body-2.body.node + 1 = ap (λ y. y.node) c.override_decl.ensures in
    record {
      further = omega (arith, c.in_ok-attrs.ensures.went.further, c.in_ok-body-2.ensures.went.further);
      within = omega (arith, c.in_ok-body-2.ensures.went.within);
      numbered = omega (arith, c.in_ok-attrs.ensures.went.numbered, c.in_ok-body-2.ensures.went.numbered);
      few = omega (arith, c.in_ok-attrs.ensures.went.few, c.in_ok-body-2.ensures.went.few);
    }

pub var-requires : goal.var-requires
var-requires c = record {
  can = record {
    within = omega (arith, c.in-Some-key_at-2.ensures.within);
    numbered = omega (arith, c.in_ok-attrs.ensures.went.numbered);
    few = omega (arith, c.in_ok-attrs.ensures.went.few);
  };
}

pub returns-in_err-variable-clause-grows : goal.returns-in_err-variable-clause-grows
returns-in_err-variable-clause-grows c = grows_trans _ _ _ c.in_ok-attrs.ensures.grows c.in_err-variable.ensures.grows

pub returns-in_default-mark_at-clause-grows : goal.returns-in_default-mark_at-clause-grows
returns-in_default-mark_at-clause-grows c = grows_trans _ _ _ c.in_ok-attrs.ensures.grows c.in_ok-variable.ensures.grows

pub returns-in-Some-key_at-2-clause-grows : goal.returns-in-Some-key_at-2-clause-grows
returns-in-Some-key_at-2-clause-grows c = grows_trans _ _ _ c.in_ok-attrs.ensures.grows c.in_ok-variable.ensures.grows

pub returns-in-Some-key_at-2-clause-went : goal.returns-in-Some-key_at-2-clause-went
returns-in-Some-key_at-2-clause-went c =
    let end : c.var_decl.result.end ≡ c.in_ok-variable.variable.end + 1 = ap (λ y. y.end) c.var_decl.ensures in
    let node : c.var_decl.result.node ≡ c.in_ok-variable.variable.node + 1 = ap (λ y. y.node) c.var_decl.ensures in
    record {
      further = omega (arith, c.in_ok-attrs.ensures.went.further, c.in_ok-variable.ensures.went.further);
      within = omega (arith, c.in-Some-mark_at.ensures.within);
      numbered = omega (arith, c.in_ok-attrs.ensures.went.numbered, c.in_ok-variable.ensures.went.numbered);
      few = omega (arith, c.in_ok-attrs.ensures.went.few, c.in_ok-variable.ensures.went.few);
    }
