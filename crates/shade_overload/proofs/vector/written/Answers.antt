use Rattle.std.proofs.Common.{◌≡◌, ap, length, true}
use Rattle.std.specs.Prelude.{◌==◌}
use Rattle.shade_overload.proofs.VectorLaws.{conversion_chosen, written_chosen}
use Rattle.shade_overload.proofs.vector.written.Goals as goal

pub returns-then-is_vector : goal.returns-then-is_vector
returns-then-is_vector c =
    λ t. conversion_chosen t c.args.count c.args.scalar _ c.args.types.now _ c.requires.many c.requires.few c.requires.known (c.is_vector.ensures.0 c.if-is_vector.true) (rw c.written_first-first.ensures at c.chosen.ensures)

pub returns : goal.returns
returns c = λ t.
    written_chosen t c.args.count c.args.scalar _ c.args.types.now _ c.requires.many c.requires.few c.requires.known
    (λ e. absurd (let h : (length c.args.types.now == 0) ≡ true = ap (λ x. length x == 0) e in cc (h, c.is_empty.ensures, c.if-is_empty.false)))
    (λ v. absurd (let h = c.is_vector.ensures.1 v in cc (h, c.if-is_vector.false)))
    c.from_parts.ensures
