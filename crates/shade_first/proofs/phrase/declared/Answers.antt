use Rattle.std.proofs.Common.{◌≡◌, ◌∙◌, sym, ap, true}
use Rattle.shade_first.specs.Reserved.{is_reserved}
use Rattle.shade_first.proofs.Tokens.{name_reads, name_fails, word_is}
use Rattle.shade_first.proofs.phrase.declared.Goals as goal

pub returns-in_default : goal.returns-in_default
returns-in_default c = name_fails c.args.tokens.now c.args.from c.requires.within (λ text p is free. c.in_default.ensures text p is)

pub returns-then-is_reserved : goal.returns-then-is_reserved
returns-then-is_reserved c =
    name_fails c.args.tokens.now c.args.from c.requires.within
    (λ text p is free.
    let same : text ≡ c.in-Some.word.now = word_is c.args.tokens.now c.args.from text c.in-Some.word.now p c.in-Some.place is c.in-Some.ensures in
    let taken : is_reserved text ≡ true = ap is_reserved (same ∙ sym c.as_slice.ensures) ∙ sym c.if-is_reserved.ensures in
    cc)

pub returns-in-Ok : goal.returns-in-Ok
returns-in-Ok c = name_reads c.args.tokens.now c.args.from c.in-Some.word.now c.in-Ok.name c.in-Some.place c.in-Some.ensures (c.requires.words.words c.args.from c.in-Some.word.now c.in-Some.place c.in-Some.ensures) (ap is_reserved (sym c.as_slice.ensures) ∙ sym c.if-is_reserved.ensures) c.in-Ok.ensures.cases
