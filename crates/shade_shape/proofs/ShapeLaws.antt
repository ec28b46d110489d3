-- What the shape of a module gives.
use Rattle.std.proofs.Common.{◌≡◌, refl, sym, ap, subst, ◌∙◌, ℕ, ◌*◌, ◌<◌, ◌≤◌, List, length, Option, None, Some, arith}
use Rattle.std.specs.Prelude.{All, slice_get, slice_index, IsTrue}
use Rattle.std.proofs.Math.Nat.{mul-pos}
use Rattle.std.proofs.lemmas.List.Elements.{All-get_or}
use Rattle.std.proofs.lemmas.Option.{slice_get_within, get_or_from_slice_get}
use Rattle.shade_values.specs.declared.types.TypeId.{TypeId}
use Rattle.shade_values.specs.Table.{Table}
use Rattle.shade_core.specs.declared.module.CoreFunction.{CoreFunction}
use Rattle.shade_core.specs.declared.module.CoreModule.{CoreModule}
use Rattle.shade_core.specs.declared.statement.CoreStatement.{CoreStatement}
use Rattle.shade_core.specs.Limits.{lane_count, lanes_of}
use Rattle.shade_core.specs.HasShape.{HasLanes, HasShape, MayGive, IsSignature, Ends, ends_with_return}
use Rattle.shade_shape.specs.Laws.{IsStarted, EntriesStart, IsNumbered, FunctionsAreNumbered}

signature_at : (shader : CoreModule) → HasShape shader → (k : ℕ) (f : CoreFunction) → slice_get shader.functions k ≡ Some f → IsSignature shader.types f
signature_at shader shape k f at =
    subst (IsSignature shader.types) (get_or_from_slice_get shader.functions k f f at) (All-get_or (IsSignature shader.types) shader.functions k f (slice_get_within shader.functions k f at) shape.signatures)

-- an entry has no result
no_result : (t : Table) (entry : Option (List ℕ)) (size : List ℕ) (result : Option TypeId) → entry ≡ Some size → MayGive t entry result → result ≡ None
no_result t entry size None e may = refl
no_result t (Some size') size (Some id) e may = absurd may
no_result t None size (Some id) e may = absurd (let f : None ≡ Some size = e in cc)

some_lanes : (entry : Option (List ℕ)) (size : List ℕ) → entry ≡ Some size → HasLanes entry → 1 ≤ lane_count size
some_lanes entry size e has =
    let each : (i : ℕ) → i < 3 → 0 < slice_index size i = subst HasLanes e has in
    omega (arith, mul-pos (mul-pos (each 0 (omega arith)) (each 1 (omega arith))) (each 2 (omega arith)))

ends_so : (result : Option TypeId) (body : List CoreStatement) → result ≡ None → Ends result body → IsTrue (ends_with_return body)
ends_so result body none ends = subst (λ r. Ends r body) none ends

pub started : EntriesStart
started shader shape k f size at entry =
    let signature = signature_at shader shape k f at in
    let none = no_result shader.types f.entry size f.result entry signature.result in
    record {
      some = some_lanes f.entry size entry signature.lanes;
      most = subst (λ e. lanes_of e ≤ 256) entry (shape.limits.functions k f at).lanes;
      resultless = none;
      ends = ends_so f.result f.body none (shape.bodies k f at).ends;
    }

pub numbered : FunctionsAreNumbered
numbered shader shape k f at = record {
  functions = shape.few_functions;
  params = (shape.limits.functions k f at).params;
  numbered = (shape.bodies k f at).numbered;
}
