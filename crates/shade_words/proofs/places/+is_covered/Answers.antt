use Rattle.std.proofs.Common.{◌<◌, inl, inr, Some, sym, ap, subst, ◌∙◌}
use Rattle.std.proofs.lemmas.Bool.{false≢true}
use Rattle.std.specs.Prelude.{◌↔◌, IsTrue, nat_eq}
use Rattle.shade_words.specs.Lays.{Covers}
use Rattle.shade_words.specs.Types.{lay}
use Rattle.shade_words.proofs.PlaceLaws.{leaf_covers, vector_word, exchanged_word, pointer_word, by_eq, by_less}
use Rattle.shade_words.proofs.places.+is_covered.Goals as goal

pub returns-in-Plain : goal.returns-in-Plain
returns-in-Plain t c = elim c.in-Plain.is as (λ _. IsTrue (nat_eq c.args.word 0) ↔ Covers (lay c.args.types.now c.args.ty) c.args.word) [
  | inl h ↦ by_eq c.args.word 0 _ (leaf_covers c.args.types.now c.get.ensures.sound c.args.ty h.0 c.args.word (inl (c.get.ensures.ty ∙ ap (λ x. Some x) h.1)))
  | inr h ↦ by_eq c.args.word 0 _ (leaf_covers c.args.types.now c.get.ensures.sound c.args.ty h.0 c.args.word (inr (c.get.ensures.ty ∙ ap (λ x. Some x) h.1)))
]

pub returns-in-Vector : goal.returns-in-Vector
returns-in-Vector t c =
    by_less c.args.word c.from.result _
    (subst (λ n. (c.args.word < n) ↔ Covers (lay c.args.types.now c.args.ty) c.args.word) (sym c.from.ensures)
    (vector_word c.args.types.now c.get.ensures.sound c.args.ty c.in-Vector.count c.args.word c.in-Vector.field-1 (c.get.ensures.ty ∙ ap (λ x. Some x) c.in-Vector.is)))

pub returns-in-Exchanged : goal.returns-in-Exchanged
returns-in-Exchanged t c =
    by_less c.args.word 2 _ (exchanged_word c.args.types.now c.get.ensures.sound c.args.ty c.args.word c.in-Exchanged.field-0 (c.get.ensures.ty ∙ ap (λ x. Some x) c.in-Exchanged.is))

pub returns-in-Pointer : goal.returns-in-Pointer
returns-in-Pointer t c = (
  λ x. absurd (false≢true x),
  λ x. absurd (pointer_word c.args.types.now c.get.ensures.sound c.args.ty c.args.word c.in-Pointer.field-0 c.in-Pointer.field-1 c.in-Pointer.field-2 (c.get.ensures.ty ∙ ap (λ y. Some y) c.in-Pointer.is) x),
)
