use Rattle.std.proofs.Common.{sym, subst}
use Rattle.std.specs.Prelude.{All}
use Rattle.shade_core.specs.HasShape.{MayTake}
use Rattle.shade_core.specs.Types.{NamesHeld}
use Rattle.shade_shape.proofs.Tells.{refutes}
use Rattle.shade_shape.proofs.signature.is_signature.Goals as goal

pub returns-then-not-are_held : goal.returns-then-not-are_held
returns-then-not-are_held c = refutes (λ s. absurd (let h = c.are_held.ensures.1 (subst (All (NamesHeld c.args.types.now)) (sym c.as_slice-2.ensures) s.locals) in cc (h, c.if-not-are_held.true)))

pub returns : goal.returns
returns c = (
  λ h. record {
    params = subst (All (MayTake c.args.types.now c.args.function.now.entry)) c.as_slice.ensures (c.may_take_all.ensures.0 c.if-not-may_take_all.false);
    locals = subst (All (NamesHeld c.args.types.now)) c.as_slice-2.ensures (c.are_held.ensures.0 c.if-not-are_held.false);
    result = c.may_give.ensures.0 c.if-not-may_give.false;
    lanes = c.has_lanes.ensures.0 h;
  },
  λ s. c.has_lanes.ensures.1 s.lanes,
)
