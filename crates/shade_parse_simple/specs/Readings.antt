-- What a function of the parser answers: the phrase that it read, with its nodes and names numbered.
use Rattle.std.specs.Prelude.{ℕ, ◌≤◌, Bool, List, [], ◌∷◌, length, Option, option_map}
use Rattle.shade_ast.specs.declared.attr.Attr.{Attr}
use Rattle.shade_ast.specs.declared.attr.AttrName.{AttrName}
use Rattle.shade_ast.specs.declared.attr.Arguments.{Arguments}
use Rattle.shade_ast.specs.declared.expr.Expr.{Expr}
use Rattle.shade_ast.specs.declared.expr.Named.{Named}
use Rattle.shade_ast.specs.declared.stmt.Var.{Var}
use Rattle.shade_ast.specs.declared.stmt.VarSpace.{VarSpace}
use Rattle.shade_ast.specs.declared.stmt.Binding.{Binding}
use Rattle.shade_ast.specs.declared.stmt.Update.{Update}
use Rattle.shade_ast.specs.declared.stmt.Simple.{Simple}
use Rattle.shade_ast.specs.Lexemes.{Lexeme}
use Rattle.shade_ast.specs.Shapes.{NameShape, ExprShape, ExprShapes, AttrNameShape, AttrShape, VarSpaceShape, VarShape, BindingShape, UpdateShape, SimpleShape}
use Rattle.shade_ast.specs.Shaped.{name_shape, expr_shape, attr_name_shape, arguments_shape, attr_shape, attr_shapes, var_space_shape, var_shape, binding_shape, update_shape, simple_shape}
use Rattle.shade_ast.specs.Needs.{maybe_of as most_maybe, named_needs, expr_needs, attr_name_needs, arguments_need, attr_needs, attrs_need, var_space_needs, var_needs, binding_needs, update_needs, simple_needs}
use Rattle.shade_ast.specs.Nodes.{maybe_of as nodes_maybe, named_nodes, expr_nodes, attr_name_nodes, arguments_nodes, attr_nodes, attrs_nodes, var_space_nodes, var_nodes, binding_nodes, update_nodes, simple_nodes, CountFrom}
use Rattle.shade_ast.specs.Reads.{Reads}
use Rattle.shade_parse_simple.specs.declared.read.Read.{Read}
use Rattle.shade_base.specs.declared.place.Place.{Place}

-- what is told of a tree: its shape by the names, how many names it asks for, and the numbers of its nodes in postorder
pub record Seen (T R : Type 0) : Type 0 where
  pub shape : List (List ℕ) → T → R
  pub needs : T → ℕ
  pub nodes : T → List ℕ

abbrev pub attrs_seen : Seen (List Attr) (List AttrShape)
attrs_seen = record { shape = attr_shapes; needs = attrs_need; nodes = attrs_nodes }

abbrev pub var_seen : Seen Var VarShape
var_seen = record { shape = var_shape; needs = var_needs; nodes = var_nodes }

abbrev pub binding_seen : Seen Binding BindingShape
binding_seen = record { shape = binding_shape; needs = binding_needs; nodes = binding_nodes }

abbrev pub update_seen : Seen Update UpdateShape
update_seen = record { shape = update_shape; needs = update_needs; nodes = update_nodes }

abbrev pub simple_seen : Seen Simple SimpleShape
simple_seen = record { shape = simple_shape; needs = simple_needs; nodes = simple_nodes }

-- a tree that was read, whose names are known
pub record ReadsOf {T R : Type 0} (seen : Seen T R) (G : R → List Lexeme → List Lexeme → Type 0) (n : ℕ) (tokens : List Lexeme) (names : List (List ℕ)) (from node : ℕ) (r : Read T) : Type 0 where
  pub reads : Reads G n tokens from (seen.shape names r.tree) r.end
  pub known : seen.needs r.tree ≤ length names
  pub nodes : CountFrom node (seen.nodes r.tree) r.node

abbrev pub named_seen : Seen Named NameShape
named_seen = record { shape = name_shape; needs = named_needs; nodes = named_nodes }

abbrev pub expr_seen : Seen Expr ExprShape
expr_seen = record { shape = expr_shape; needs = expr_needs; nodes = expr_nodes }

abbrev pub var_space_seen : Seen VarSpace VarSpaceShape
var_space_seen = record { shape = var_space_shape; needs = var_space_needs; nodes = var_space_nodes }

-- a second name, and whether a comma stands behind the last
abbrev pub access_seen : Seen (Option Named × Bool) (Option NameShape × Bool)
access_seen = record { shape = λ names a. (option_map (name_shape names) a.0, a.1); needs = λ a. most_maybe named_needs a.0; nodes = λ a. nodes_maybe named_nodes a.0 }

abbrev pub attr_name_seen : Seen AttrName AttrNameShape
attr_name_seen = record { shape = attr_name_shape; needs = attr_name_needs; nodes = attr_name_nodes }

abbrev pub arguments_seen : Seen Arguments (ExprShapes × Bool)
arguments_seen = record { shape = arguments_shape; needs = arguments_need; nodes = arguments_nodes }

abbrev pub attr_seen : Seen Attr AttrShape
attr_seen = record { shape = attr_shape; needs = attr_needs; nodes = attr_nodes }

-- the place of the first token of what may begin with attributes
abbrev pub first_of : List Attr → Place → Place
first_of [] place = place
first_of (attr ∷ attrs) place = attr.place
