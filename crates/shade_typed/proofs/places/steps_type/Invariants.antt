use Rattle.std.proofs.Common.{◌≡◌, Some}
use Rattle.shade_core.specs.Types.{type_at}
use Rattle.shade_typed.proofs.PlaceLaws.{LedSoFar}
use Rattle.shade_typed.proofs.places.steps_type.Given as goal

abbrev pub invariant-steps : goal.invariant-steps
invariant-steps l = record {
  led : LedSoFar l.context l.steps l.step-index l.initial.at.ty l.at.ty;
  stands : type_at l.context.shader.types l.at.id ≡ Some l.at.ty;
}
