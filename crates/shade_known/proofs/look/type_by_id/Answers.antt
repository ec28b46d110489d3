use Rattle.std.proofs.Common.{sym, ◌≤◌, length, arith}
use Rattle.std.proofs.lemmas.Option.{slice_get_past}
use Rattle.shade_known.proofs.Turns.{over_more}
use Rattle.shade_known.proofs.look.type_by_id.Goals as goal

pub returns-then-id-count-clause-of : goal.returns-then-id-count-clause-of
returns-then-id-count-clause-of c =
    let within : c.args.id.0 ≤ length c.args.table.now.types = omega arith in
    over_more c.args.id.0 (length c.args.table.now.types) c.args.table.now.structs c.get.result.now within (c.get.ensures.sound.over c.args.id.0 c.get.result.now c.get.ensures.ty)

pub returns-then-id-count-clause-over : goal.returns-then-id-count-clause-over
returns-then-id-count-clause-over c = c.get.ensures.sound.over c.args.id.0 c.get.result.now c.get.ensures.ty

pub returns-clause-ty : goal.returns-clause-ty
returns-clause-ty c = let past : length c.args.table.now.types ≤ c.args.id.0 = omega arith in sym (slice_get_past c.args.table.now.types c.args.id.0 past)
