use Rattle.std.proofs.Common.{◌&&◌, sym, ap, subst, ◌∙◌, false, arith}
use Rattle.std.specs.Prelude.{IsTrue}
use Rattle.shade_shape.specs.Facts.{AreFacts}
use Rattle.shade_shape.proofs.TypeLaws.{held_tells, held_within}
use Rattle.shade_shape.proofs.types.Types.is_held.Goals as goal

pub returns-then-id-count : goal.returns-then-id-count
returns-then-id-count c =
    (λ h. let no : IsTrue false = h in absurd cc, λ h. absurd (omega (arith, c.if-id-count.true, c.count.ensures, held_within c.args.self.now c.args.id h)))

pub returns : goal.returns
returns c =
    let t = c.args.self.now in
    let facts : AreFacts t c.self.inside.facts.items = rw c.self.view_is at c.self.invariant in
    let is = c.is_constructible.ensures ∙ ap (λ f. f.loadable && f.plain) c.facts.ensures in
    let tells = held_tells t c.self.inside.facts.items facts c.args.id (omega (arith, c.if-id-count.false, c.count.ensures)) in
    (λ h. tells.0 (subst IsTrue is h), λ h. subst IsTrue (sym is) (tells.1 h))
