use Rattle.std.proofs.Common.{arith, length, ◌-◌}
use Rattle.shade_overload.proofs.PatternLaws.{begins_at, ends_at, ends_from}
use Rattle.shade_overload.proofs.choice.forms_of.Goals as goal

pub returns-in_err-form_of-2-clause-none : goal.returns-in_err-form_of-2-clause-none
returns-in_err-form_of-2-clause-none c =
    rw c.from_residual-in_err-form_of-2.ensures (λ f g begins ends.
    let last = ends_from c.args.types.now g _ (length c.args.types.now - 1) (omega arith) ends in
    c.in_err-form_of-2.ensures.none g last.0 last.1)

pub returns-clause-some : goal.returns-clause-some
returns-clause-some c =
    (begins_at c.args.types.now _ _ (omega arith) c.in_ok-form_of.ensures.some, ends_at c.args.types.now _ _ (length c.args.types.now - 1) (omega arith) c.in_ok-form_of-2.ensures.some)
