use Rattle.std.proofs.Common.{◌≡◌, ◌++◌, ◌∷◌, [], ◌∙◌, ◌≤◌, ◌<◌, length, ap, arith, rules}
use Rattle.shade_race.specs.Word.{cells_of}
use Rattle.shade_race.proofs.RootLaws.{row_more, row_length}
use Rattle.shade_race.proofs.root.Root.begin.Goals as goal

pub loop-word-preserved : goal.loop-word-preserved
loop-word-preserved c =
    let pushed : c.push.new.self.items ≡ c.loop-word.cells.items ++ c.none.result ∷ [] = search rules in
    pushed ∙ ap (λ x. c.loop-word.cells.items ++ x ∷ []) c.none.ensures ∙ ap (λ xs. xs ++ cells_of [] ∷ []) c.loop-word.invariant ∙ row_more c.loop-word.word

pub invariant_of-result : goal.invariant_of-result
invariant_of-result c =
    let count : length c.loop-word.cells.items ≡ c.loop-word.word = ap length c.loop-word.invariant ∙ row_length 0 c.loop-word.word in
    let end : c.loop-word.word ≤ c.args.words = search rules in
    let fits : c.args.words < 4294967296 = search rules in
    record { few = omega (arith, count, end, fits) }
