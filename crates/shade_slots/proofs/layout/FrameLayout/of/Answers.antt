use Rattle.std.proofs.Common.{◌≡◌, ◌∙◌, ap₂, ◌+◌, ◌*◌, ◌≤◌, Some, map, length, ℕ, Fits, w64, arith}
use Rattle.shade_slots.specs.Slots.{end_from, pointer_words}
use Rattle.shade_slots.proofs.SlotLaws.{end_grows}
use Rattle.shade_slots.proofs.layout.FrameLayout.of.Goals as goal

-- src/slots.rt:76:34
pub slots_at-requires-clause-few : goal.slots_at-requires-clause-few
slots_at-requires-clause-few c =
    let middle : ℕ = end_from c.args.types.now 0 c.args.params.now + pointer_words * length c.args.params.now in
    let locals = end_grows c.args.types.now middle (map (λ id. Some id) c.args.locals.now) in
    let values = end_grows c.args.types.now (end_from c.args.types.now middle (map (λ id. Some id) c.args.locals.now)) c.args.values.now in
    omega (arith, locals, values, c.requires.few)

-- src/slots.rt:77:21
pub overflow_add-first : goal.overflow_add-first
overflow_add-first c =
    let middle : ℕ = end_from c.args.types.now 0 c.args.params.now + pointer_words * length c.args.params.now in
    let locals = end_grows c.args.types.now middle (map (λ id. Some id) c.args.locals.now) in
    let values = end_grows c.args.types.now (end_from c.args.types.now middle (map (λ id. Some id) c.args.locals.now)) c.args.values.now in
    omega (arith, locals, values, c.in_ok-params.ensures.end, c.requires.few)

-- src/slots.rt:78:29
pub slots_at-requires-2-clause-few : goal.slots_at-requires-2-clause-few
slots_at-requires-2-clause-few c =
    let first : ℕ = end_from c.args.types.now 0 c.args.params.now + pointer_words * length c.args.params.now in
    let items : c.as_slice.result.now ≡ map (λ id. Some id) c.args.locals.now = c.as_slice.ensures.value ∙ c.in_ok-locals.ensures in
    let same : end_from c.args.types.now (c.in_ok-params.pointers + 3 * length c.args.params.now) c.as_slice.result.now ≡ end_from c.args.types.now first (map (λ id. Some id) c.args.locals.now) =
    ap₂ (λ (pointers : ℕ) types. end_from c.args.types.now (pointers + 3 * length c.args.params.now) types) c.in_ok-params.ensures.end items in
    let values = end_grows c.args.types.now (end_from c.args.types.now first (map (λ id. Some id) c.args.locals.now)) c.args.values.now in
    omega (arith, same, values, c.requires.few)
