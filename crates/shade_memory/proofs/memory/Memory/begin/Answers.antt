use Rattle.std.proofs.Common.{◌≡◌, ◌∙◌, ◌+◌, ◌<◌, ap, ap₂, sym, map, length, List, ℕ, ◌∷◌, [], ◌++◌, Some, arith}
use Rattle.std.specs.Prelude.{slice_get}
use Rattle.std.proofs.lemmas.List.FromFn.{map-range_with_len_more}
use Rattle.std.proofs.lemmas.Option.{slice_get-get_or}
use Rattle.shade_core.specs.declared.module.Root.{Root}
use Rattle.shade_spots.specs.Memory.{first_by, words_by, words_of}
use Rattle.shade_memory.proofs.memory.Memory.begin.Goals as goal

pub roots-preserved : goal.roots-preserved
roots-preserved c =
    let at : 0 + c.roots.number ≡ c.roots.number = omega arith in
    let within : c.roots.number < length c.as_slice-handed.result.now = omega (arith, c.roots-test.true, c.requires.handed, ap length c.as_slice-variables.ensures, ap length c.as_slice-handed.ensures) in
    let variable : slice_get c.args.«module».now.roots c.roots.number ≡ Some c.index-variables-number.result =
    ap (λ (roots : List Root). slice_get roots c.roots.number) (sym c.as_slice-variables.ensures)
    ∙ (slice_get-get_or c.as_slice-variables.result.now c.roots.number c.index-variables-number.result c.roots-test.true ∙ ap (λ (root : Root). Some root) (sym c.index-variables-number.is)) in
    let words : words_of c.as_slice-handed.result.now c.roots.number ≡ c.as_slice-words.result.now =
    ap words_by (slice_get-get_or c.as_slice-handed.result.now c.roots.number c.index-handed-number.result within) ∙ (sym c.index-handed-number.is ∙ sym c.as_slice-words.ensures) in
    let made : c.in_ok-root.root ≡ first_by c.args.«module».now (slice_get c.args.«module».now.roots c.roots.number) (words_of c.as_slice-handed.result.now c.roots.number) =
    c.in_ok-root.ensures ∙ sym (ap₂ (λ root words. first_by c.args.«module».now root words) variable words) in
    c.in_ok-push.ensures.items ∙ (ap₂ (λ (front : List (List ℕ)) (words : List ℕ). front ++ words ∷ []) c.roots.invariant made ∙ sym (map-range_with_len_more _ 0 c.roots.number c.roots.number at))
