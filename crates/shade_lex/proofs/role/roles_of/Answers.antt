use Rattle.std.proofs.Common.{ap, ◌∙◌, ◌++◌, ◌∷◌, []}
use Rattle.shade_lex.proofs.Turns.{roles_turn}
use Rattle.shade_lex.proofs.role.roles_of.Goals as goal

pub loop-token-preserved : goal.loop-token-preserved
loop-token-preserved c =
    roles_turn c.args.text.now c.loop-token.previous c.args.tokens.now c.loop-token.token-index _ c.loop-token.roles.items c.push.new.self.items _ c.loop-token-test.true
    (c.in_ok-push.ensures.items ∙ ap (λ r. c.loop-token.roles.items ++ r ∷ []) c.role_of.ensures) c.loop-token.invariant
