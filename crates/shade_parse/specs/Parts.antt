-- What is told of the parts of declarations and directives.
use Rattle.std.specs.Prelude.{Bool, List, map, option_map, max, ◌++◌}
use Rattle.shade_ast.specs.declared.tree.Decl.{Decl}
use Rattle.shade_ast.specs.declared.tree.DeclKind.{DeclKind}
use Rattle.shade_ast.specs.declared.tree.Member.{Member}
use Rattle.shade_ast.specs.declared.tree.Rule.{Rule}
use Rattle.shade_ast.specs.declared.tree.Directive.{Directive}
use Rattle.shade_ast.specs.declared.tree.DirectiveKind.{DirectiveKind}
use Rattle.shade_ast.specs.declared.tree.FnResult.{FnResult}
use Rattle.shade_ast.specs.Shapes.{MemberShape, ResultShape, RuleShape, DirectiveShape, DeclShape}
use Rattle.shade_ast.specs.Shaped.{name_shape, expr_shape, block_shape, member_shape, result_shape, rule_shape, directive_kind_shape, directive_shape, decl_kind_shape, decl_shape}
use Rattle.shade_ast.specs.Needs.{most_of, maybe_of as most_maybe, named_needs, expr_needs, block_needs, member_needs, result_needs, rule_needs, directive_kind_needs, directive_needs, decl_kind_needs, decl_needs}
use Rattle.shade_ast.specs.Nodes.{joined_of, maybe_of as nodes_maybe, named_nodes, expr_nodes, block_nodes, member_nodes, result_nodes, rule_nodes, directive_kind_nodes, directive_nodes, decl_kind_nodes, decl_nodes}
use Rattle.shade_parse.specs.declared.members.ItemList.{ItemList}
use Rattle.shade_base.specs.declared.place.Place.{Place}
use Rattle.shade_parse.specs.declared.declarations.OverrideBody.{OverrideBody}
use Rattle.shade_parse.specs.declared.declarations.FnBody.{FnBody}
use Rattle.shade_parse_simple.specs.Readings.{Seen}
use Rattle.shade_parse.specs.Rests.{OverrideShape, FnShape}

-- items in a list that is closed, with whether a comma stands behind the last and the place of the mark that closes it
abbrev pub enclosed_seen : {T R : Type 0} → Seen T R → Seen (ItemList T) ((List R × Bool) × Place)
enclosed_seen seen = record { shape = λ names l. ((map (seen.shape names) l.items, l.trailing), l.close); needs = λ l. most_of seen.needs l.items; nodes = λ l. joined_of seen.nodes l.items }

abbrev pub member_seen : Seen Member MemberShape
member_seen = record { shape = member_shape; needs = member_needs; nodes = member_nodes }

abbrev pub result_seen : Seen FnResult ResultShape
result_seen = record { shape = result_shape; needs = result_needs; nodes = result_nodes }

abbrev pub rule_seen : Seen Rule RuleShape
rule_seen = record { shape = rule_shape; needs = rule_needs; nodes = rule_nodes }

-- what stands at a place
abbrev pub directive_kind_seen : Place → Seen DirectiveKind DirectiveShape
directive_kind_seen place = record { shape = λ names k. directive_kind_shape names place k; needs = directive_kind_needs; nodes = directive_kind_nodes }

abbrev pub directive_seen : Seen Directive DirectiveShape
directive_seen = record { shape = directive_shape; needs = directive_needs; nodes = directive_nodes }

abbrev pub decl_kind_seen : Place → Seen DeclKind DeclShape
decl_kind_seen place = record { shape = λ names k. decl_kind_shape names place k; needs = decl_kind_needs; nodes = decl_kind_nodes }

abbrev pub decl_seen : Seen Decl DeclShape
decl_seen = record { shape = decl_shape; needs = decl_needs; nodes = decl_nodes }

abbrev pub override_seen : Seen OverrideBody OverrideShape
override_seen = record {
  shape = λ names o. record { name = name_shape names o.name; ty = option_map (expr_shape names) o.ty; value = option_map (expr_shape names) o.value };
  needs = λ o. max (named_needs o.name) (max (most_maybe expr_needs o.ty) (most_maybe expr_needs o.value));
  nodes = λ o. named_nodes o.name ++ (nodes_maybe expr_nodes o.ty ++ nodes_maybe expr_nodes o.value);
}

abbrev pub fn_seen : Seen FnBody FnShape
fn_seen = record {
  shape = λ names f. record { name = name_shape names f.name; params = map (member_shape names) f.params; trailing = f.trailing; result = option_map (result_shape names) f.result; body = block_shape names f.body };
  needs = λ f. max (named_needs f.name) (max (most_of member_needs f.params) (max (most_maybe result_needs f.result) (block_needs f.body)));
  nodes = λ f. named_nodes f.name ++ (joined_of member_nodes f.params ++ (nodes_maybe result_nodes f.result ++ block_nodes f.body));
}
