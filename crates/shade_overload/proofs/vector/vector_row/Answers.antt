use Rattle.shade_overload.proofs.VectorLaws.{common_chosen}
use Rattle.shade_overload.proofs.vector.vector_row.Goals as goal

pub returns-in_default : goal.returns-in_default
returns-in_default c = rw c.in_default.is (λ t. common_chosen t c.args.count c.args.types.now _ c.requires.many c.requires.few c.common.ensures)

pub returns : goal.returns
returns c = rw (c.in-Some.is, c.in-Plain.is) c.written.ensures
