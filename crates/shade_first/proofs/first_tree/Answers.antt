use Rattle.std.proofs.Common.{sym, ◌≡◌, subst, List, arith, MatchOption, slice_get}
use Rattle.shade_first.specs.declared.token.Token.{Token}
use Rattle.shade_first.specs.declared.phrase.SyntaxFault.{SyntaxFault}
use Rattle.shade_first.specs.Form.{Shader}
use Rattle.shade_first.specs.Reads.{Reads, Fails, Faults}
use Rattle.shade_first.specs.Tokens.{AreWords}
use Rattle.shade_first.proofs.LexLaws.{are_words}
use Rattle.shade_first.proofs.Texts.{text_fails, text_longer, text_stops, text_spells}
use Rattle.shade_first.proofs.first_tree.Goals as goal

pub returns-then-end-len : goal.returns-then-end-len
returns-then-end-len c =
    let read = subst (λ (ts : List Token). Reads Shader ts 0 c.in-Ok-shader.tree c.in-Ok-shader.end) c.as_slice.ensures c.in-Ok-shader.ensures in
    text_longer c.args.text.now c.in-Ok.field-0.tokens c.in-Ok.field-0.stop (omega arith) c.in-Ok.ensures.lexed c.in-Ok-shader.tree c.in-Ok-shader.end read c.offset_at.result (omega arith)
    (subst (λ (ts : List Token). MatchOption (slice_get ts c.in-Ok-shader.end) (c.offset_at.result ≡ c.in-Ok.field-0.stop) (λ t. c.offset_at.result ≡ t.place.offset)) c.as_slice-then-end-len.ensures c.offset_at.ensures)

pub returns-then-stop-text : goal.returns-then-stop-text
returns-then-stop-text c =
    let read = subst (λ (ts : List Token). Reads Shader ts 0 c.in-Ok-shader.tree c.in-Ok-shader.end) c.as_slice.ensures c.in-Ok-shader.ensures in
    text_stops c.args.text.now c.in-Ok.field-0.tokens c.in-Ok.field-0.stop (omega arith) c.in-Ok.ensures.lexed c.in-Ok-shader.tree c.in-Ok-shader.end read (omega arith) (omega arith)

pub returns-in-Ok-shader : goal.returns-in-Ok-shader
returns-in-Ok-shader c =
    let read = subst (λ (ts : List Token). Reads Shader ts 0 c.in-Ok-shader.tree c.in-Ok-shader.end) c.as_slice.ensures c.in-Ok-shader.ensures in
    text_spells c.args.text.now c.in-Ok.field-0.tokens c.in-Ok.field-0.stop (omega arith) c.in-Ok.ensures.lexed c.in-Ok-shader.tree c.in-Ok-shader.end read (omega arith) (omega (arith, c.in-Ok.ensures.within))

pub returns-in-Err-Unexpected : goal.returns-in-Err-Unexpected
returns-in-Err-Unexpected c =
    let fault = subst (λ (f : SyntaxFault). Faults Shader c.as_slice.result.now 0 f) c.in-Err-Unexpected.field-0-is c.in-Err-Unexpected.ensures in
    let fails = subst (λ (ts : List Token). Fails Shader ts 0 c.in-Err-Unexpected.at) c.as_slice.ensures fault in
    text_fails c.args.text.now c.in-Ok.field-0.tokens c.in-Ok.field-0.stop (omega arith) c.in-Ok.ensures.lexed c.in-Err-Unexpected.at c.offset_at-in-Err-Unexpected.result fails
    (subst (λ (ts : List Token). MatchOption (slice_get ts c.in-Err-Unexpected.at) (c.offset_at-in-Err-Unexpected.result ≡ c.in-Ok.field-0.stop) (λ t. c.offset_at-in-Err-Unexpected.result ≡ t.place.offset)) c.as_slice-in-Err-Unexpected.ensures c.offset_at-in-Err-Unexpected.ensures)

pub shader-requires-clause-words : goal.shader-requires-clause-words
shader-requires-clause-words c = subst (λ (ts : List Token). AreWords ts) (sym c.as_slice.ensures) (are_words c.args.text.now 0 c.in-Ok.field-0.tokens c.in-Ok.field-0.stop c.in-Ok.ensures.lexed)
