use Rattle.std.proofs.Common.{◌/◌, sym, ap, ◌∙◌}
use Rattle.shade_words.proofs.TypeLaws.{lay_lies}
use Rattle.shade_words.proofs.places.word_count.Goals as goal

pub returns-clause-count : goal.returns-clause-count
returns-clause-count c =
    c.words_of.ensures ∙ (ap (λ x. x.size / 4) c.layout_of.ensures.layout ∙ sym (lay_lies c.args.types.now c.layout_of.ensures.sound c.args.ty).words)
