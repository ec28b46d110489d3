use Rattle.std.proofs.Common.{length, arith, ap}
use Rattle.std.proofs.lemmas.List.{length-map}
use Rattle.shade_cursor.specs.Shown.{lexeme, lexemes}
use Rattle.shade_parse.proofs.TableLaws.{few_names, whole_named}
use Rattle.shade_parse.proofs.whole.named.Goals as goal

pub whole-requires-clause-few : goal.whole-requires-clause-few
whole-requires-clause-few c = omega (arith, few_names (lexemes c.args.pieces.now), ap length c.in-Ok-names_of.ensures, length-map c.args.pieces.now lexeme)

pub returns : goal.returns
returns c =
    whole_named c.args.pieces.now c.in_ok-directives.field-0 c.in-Ok.names c.in-Ok-names_of.known c.in-Ok.ensures c.in-Ok-names_of.ensures c.in_ok-directives.ensures.grows c.are_distinct.ensures
    c.in_ok-directives.ensures.tree c.in_ok-directives.ensures.known c.in_ok-directives.ensures.nodes c.in_ok-directives.ensures.few_nodes
