use Rattle.std.proofs.Common.{sym, ◌∷◌}
use Rattle.shade_typed.specs.Places.{HaveTypes, origin_of}
use Rattle.shade_typed.proofs.AnswerLaws.{holds}
use Rattle.shade_typed.proofs.AtomicLaws.{no_place, pointer_of, pointer_known, pointer_to, atomic_none, atomic_simple, atomic_some}
use Rattle.shade_typed.proofs.OperandLaws.{all_held}
use Rattle.shade_typed.proofs.atomics.atomic_fit.Goals as goal

pub returns-in_default-place_of-clause-fit : goal.returns-in_default-place_of-clause-fit
returns-in_default-place_of-clause-fit c = no_place c.args.context.now c.args.op c.args.view.now c.args.operands.now c.in_default-place_of.ensures.place

pub row_result-requires-clause-of : goal.row_result-requires-clause-of
row_result-requires-clause-of c =
    let have = rw c.in-Some-2.is at c.in_ok-types.ensures in
    let held = all_held c.args.context.now c.args.operands.now c.in-Some-2.types.items (holds (HaveTypes c.args.context.now c.args.operands.now) c.in-Some-2.types.items have) in
    let listed = rw c.deref.ensures.value at c.in_ok-all.ensures in
    let place = origin_of c.in-Some-place_of.place in
    let id = c.in-Some-place_of.place.at.id in
    rw c.deref-2.ensures.value (rw listed (rw c.table.ensures (rw c.types.ensures.same (pointer_of c.args.context.now.shader.types place id c.in-Some-2.types.items c.types.ensures.sound c.in-Some-place_of.ensures.stands held))))

pub row_result-requires-clause-known : goal.row_result-requires-clause-known
row_result-requires-clause-known c =
    let have = rw c.in-Some-2.is at c.in_ok-types.ensures in
    let held = all_held c.args.context.now c.args.operands.now c.in-Some-2.types.items (holds (HaveTypes c.args.context.now c.args.operands.now) c.in-Some-2.types.items have) in
    let listed = rw c.deref.ensures.value at c.in_ok-all.ensures in
    let place = origin_of c.in-Some-place_of.place in
    let id = c.in-Some-place_of.place.at.id in
    rw c.deref-2.ensures.value (rw listed (pointer_known c.args.context.now.shader.types place id c.in-Some-2.types.items held))

pub returns-in_default-row_result-clause-fit : goal.returns-in_default-row_result-clause-fit
returns-in_default-row_result-clause-fit c =
    let have = rw c.in-Some-2.is at c.in_ok-types.ensures in
    let held = all_held c.args.context.now c.args.operands.now c.in-Some-2.types.items (holds (HaveTypes c.args.context.now c.args.operands.now) c.in-Some-2.types.items have) in
    let listed = rw c.deref.ensures.value at c.in_ok-all.ensures in
    let place = origin_of c.in-Some-place_of.place in
    let id = c.in-Some-place_of.place.at.id in
    let row = rw c.types.ensures.same at (rw c.table.ensures at (rw listed at (rw c.deref-2.ensures.value at c.in_default-row_result.ensures))) in
    atomic_none c.args.context.now c.types.ensures.sound c.args.op c.in-Some.builtin c.args.view.now c.args.operands.now place id c.in-Some-2.types.items (sym c.in-Some.ensures) c.in-Some-place_of.ensures.place c.in-Some-place_of.ensures.stands have row

pub given_fit-requires : goal.given_fit-requires
given_fit-requires c =
    let have = rw c.in-Some-2.is at c.in_ok-types.ensures in
    let held = all_held c.args.context.now c.args.operands.now c.in-Some-2.types.items (holds (HaveTypes c.args.context.now c.args.operands.now) c.in-Some-2.types.items have) in
    let listed = rw c.deref.ensures.value at c.in_ok-all.ensures in
    let place = origin_of c.in-Some-place_of.place in
    let id = c.in-Some-place_of.place.at.id in
    let row = rw c.types.ensures.same at (rw c.table.ensures at (rw listed at (rw c.deref-2.ensures.value at c.in-Some-row_result.ensures))) in
    atomic_simple c.args.context.now.shader.types c.args.op c.in-Some.builtin (pointer_to place id ∷ c.in-Some-2.types.items) c.in-Some-row_result.given (sym c.in-Some.ensures) row

pub returns-clause-fit : goal.returns-clause-fit
returns-clause-fit c =
    let have = rw c.in-Some-2.is at c.in_ok-types.ensures in
    let held = all_held c.args.context.now c.args.operands.now c.in-Some-2.types.items (holds (HaveTypes c.args.context.now c.args.operands.now) c.in-Some-2.types.items have) in
    let listed = rw c.deref.ensures.value at c.in_ok-all.ensures in
    let place = origin_of c.in-Some-place_of.place in
    let id = c.in-Some-place_of.place.at.id in
    let row = rw c.types.ensures.same at (rw c.table.ensures at (rw listed at (rw c.deref-2.ensures.value at c.in-Some-row_result.ensures))) in
    atomic_some c.args.context.now c.types.ensures.sound c.args.op c.in-Some.builtin c.args.view.now c.args.operands.now place id c.in-Some-2.types.items c.in-Some-row_result.given _ (sym c.in-Some.ensures) c.in-Some-place_of.ensures.place c.in-Some-place_of.ensures.stands have row c.given_fit.ensures.fit
