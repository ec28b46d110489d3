use Rattle.std.proofs.Common.{◌≡◌, ◌∙◌, ℕ, ◌+◌, ◌<◌, ap, length, arith}
use Rattle.std.proofs.lemmas.List.{take_rest}
use Rattle.std.proofs.lemmas.Str.{encodes-chars}
use Rattle.shade_lex.specs.Tokens.{width}
use Rattle.shade_lex.proofs.LexLaws.{reading-begin, reading-step, reading-fits, reading-problem}
use Rattle.shade_lex.proofs.lexer.lex.Goals as goal

pub pieces-init : goal.pieces-init
pieces-init c =
    let whole : width c.in-Ok.characters.items ≡ length c.args.text.now = ap width c.in-Ok.ensures ∙ ap length (encodes-chars c.args.text.now c.utf8.text) in
    rw c.new-items.ensures.items (reading-begin c.args.text.now c.in-Ok.characters.items whole)

pub returns-in-Err-clause-fault : goal.returns-in-Err-clause-fault
returns-in-Err-clause-fault c =
    let left : c.pieces.at < length c.in-Ok.characters.items = omega arith in
    rw c.fault_at.ensures (reading-problem _ _ _ _ _ _ c.in-Ok.ensures c.pieces.invariant left (rw (c.deref.ensures.value, take_rest) at c.in-Err.ensures.problem))

pub width_of-bytes-requires : goal.width_of-bytes-requires
width_of-bytes-requires c =
    let fits = reading-fits _ _ _ _ _ c.pieces.invariant c.count_of-count.result in
    rw (c.deref.ensures.value, take_rest) (omega (arith, fits, c.requires))

pub overflow_cast-bytes : goal.overflow_cast-bytes
overflow_cast-bytes c =
    let fits = reading-fits _ _ _ _ _ c.pieces.invariant c.count_of-count.result in
    let bytes = rw (c.deref.ensures.value, take_rest) at c.width_of-bytes.ensures in
    omega (arith, fits, bytes, c.requires)

pub overflow_cast-bytes-in-pieces : goal.overflow_cast-bytes-in-pieces
overflow_cast-bytes-in-pieces c =
    let fits = reading-fits _ _ _ _ _ c.pieces.invariant c.count_of-count.result in
    let bytes = rw (c.deref.ensures.value, take_rest) at c.width_of-bytes.ensures in
    omega (arith, fits, bytes, c.requires)

pub overflow_add-place : goal.overflow_add-place
overflow_add-place c =
    let fits = reading-fits _ _ _ _ _ c.pieces.invariant c.count_of-count.result in
    let bytes = rw (c.deref.ensures.value, take_rest) at c.width_of-bytes.ensures in
    omega (arith, fits, bytes, c.requires)

pub place_after-place-requires-clause-within : goal.place_after-place-requires-clause-within
place_after-place-requires-clause-within c =
    let fits = reading-fits _ _ _ _ _ c.pieces.invariant c.count_of-count.result in
    let bytes = rw (c.deref.ensures.value, take_rest) at c.width_of-bytes.ensures in
    omega (arith, fits, bytes)

pub place_after-place-requires-clause-small : goal.place_after-place-requires-clause-small
place_after-place-requires-clause-small c =
    let fits = reading-fits _ _ _ _ _ c.pieces.invariant c.count_of-count.result in
    let bytes = rw (c.deref.ensures.value, take_rest) at c.width_of-bytes.ensures in
    omega (arith, fits, bytes, c.requires)

pub pieces-preserved : goal.pieces-preserved
pieces-preserved c =
    let bytes = rw (c.deref.ensures.value, take_rest, c.count_of-count.ensures) at c.width_of-bytes.ensures in
    reading-step _ _ _ _ _ _ _ _ _ _ c.pieces.invariant (rw (c.deref.ensures.value, take_rest) at c.in-Ok-read_piece.ensures.piece) (rw (c.deref.ensures.value, take_rest) at c.in-Ok-read_piece.ensures.within)
    (ap (λ (n : ℕ). c.pieces.at + n) c.count_of-count.ensures) (ap (λ (n : ℕ). c.pieces.place.offset + n) bytes) (rw bytes at c.in_ok-add_token.ensures.ok) c.place_after-place.ensures
