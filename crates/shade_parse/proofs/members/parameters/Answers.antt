use Rattle.std.proofs.Common.{sym, subst, arith}
use Rattle.shade_ast.specs.declared.lexeme.Sign.TheVariants as sign
use Rattle.shade_ast.specs.Repeats.{Listed, MaybeListed}
use Rattle.shade_ast.specs.Declarations.{MemberOf}
use Rattle.shade_parse.specs.Rests.{Enclosed}
use Rattle.shade_parse_expr.specs.Parts.{Faults}
use Rattle.shade_cursor.specs.Shown.{lexemes}
use Rattle.shade_parse_expr.proofs.Turns.{answers, fault_on}
use Rattle.shade_parse_simple.proofs.Faulty.{within}
use Rattle.shade_parse.specs.Parts.{enclosed_seen, member_seen}
use Rattle.shade_parse.proofs.ListTurns.{list_none, list_some}
use Rattle.shade_parse.proofs.MemberLaws.{members_paren}
use Rattle.shade_parse.proofs.Enclosing.{maybe_stuck}
use Rattle.shade_parse_simple.specs.Readings.{ReadsOf}
use Rattle.shade_parse.proofs.members.parameters.Goals as goal

pub returns-in-Some-clause-tree : goal.returns-in-Some-clause-tree
returns-in-Some-clause-tree c = subst
    (λ r. ReadsOf (enclosed_seen member_seen) (Enclosed (MaybeListed MemberOf) sign.Close) 0 (lexemes c.args.pieces.now) c.args.names.now c.args.from c.args.node r)
    (sym c.closed_list.ensures) (list_none members_paren c.new.ensures (within c.args.pieces.now c.args.from c.requires.can.within) c.in-Some.ensures.value)

pub returns-clause-tree : goal.returns-clause-tree
returns-clause-tree c = answers c.members.result
    (λ r. ReadsOf (enclosed_seen member_seen) (Enclosed (Listed MemberOf) sign.Close) 0 (lexemes c.args.pieces.now) c.members.new.names c.args.from c.args.node r)
    (λ r. ReadsOf (enclosed_seen member_seen) (Enclosed (MaybeListed MemberOf) sign.Close) 0 (lexemes c.args.pieces.now) c.members.new.names c.args.from c.args.node r)
    (λ f. Faults (Enclosed (Listed MemberOf) sign.Close) 0 (lexemes c.args.pieces.now) c.args.names.now c.members.new.names c.args.from f)
    (λ f. Faults (Enclosed (MaybeListed MemberOf) sign.Close) 0 (lexemes c.args.pieces.now) c.args.names.now c.members.new.names c.args.from f)
    (λ r x. list_some members_paren (within c.args.pieces.now c.args.from c.requires.can.within) c.in_default.ensures.value x)
    (λ f x. fault_on (Enclosed (MaybeListed MemberOf) sign.Close) (Enclosed (Listed MemberOf) sign.Close) 0 0 (lexemes c.args.pieces.now) c.args.names.now c.args.names.now
    c.members.new.names c.args.from c.args.from f (omega arith)
    (λ to g. maybe_stuck MemberOf sign.Close 0 members_paren.comma_low members_paren.closer_low members_paren.apart members_paren.no_item
    (within c.args.pieces.now c.args.from c.requires.can.within) c.in_default.ensures.value g) x) c.members.ensures.tree
