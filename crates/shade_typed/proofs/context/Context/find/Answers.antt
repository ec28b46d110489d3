use Rattle.std.proofs.Common.{◌≡◌, ap, subst, ◌∙◌, Some}
use Rattle.shade_core.specs.Types.{type_at}
use Rattle.shade_typed.proofs.ContextLaws.{found_some}
use Rattle.shade_typed.proofs.context.Context.find.Goals as goal

pub returns-clause-found : goal.returns-clause-found
returns-clause-found c =
    let same = c.table.ensures ∙ (c.self.invariant.same ∙ ap (λ v. v.shader.types) c.self.view_is) in
    found_some c.args.self.now.shader.types c.in_ok-id.id c.args.ty (subst (λ t. type_at t c.in_ok-id.id ≡ Some c.args.ty) same c.in_ok-id.ensures.some)
