-- What one more violation adds to a report.
use Rattle.std.proofs.Common.{◌≡◌, refl, suc, sym, ap, ◌∙◌, ℕ, ◌+◌, ◌<◌, List, [], ◌∷◌, ◌++◌, length, get_or, drop, map, add-one, drop-cons, slice_get, unwrap_or, Option, Some, None}
use Rattle.std.specs.List.{flat_map}
use Rattle.std.specs.Option.{option_map}
use Rattle.std.proofs.lemmas.Option.{slice_get-map}
use Rattle.std.proofs.lemmas.List.{append_assoc}
use Rattle.shade_core.specs.declared.module.CoreFunction.{CoreFunction}
use Rattle.shade_verdict.specs.declared.violation.Violation.{Violation}
use Rattle.shade_report.specs.declared.source.Source.{Source}
use Rattle.shade_report.specs.Sources.{list_sources}
use Rattle.shade_report.specs.CheckReport.{sources_in, violation_lines, violation_text}

drop_here : {A : Type 0} (xs : List A) (i : ℕ) (x : A) → i < length xs → x ≡ get_or xs i x → drop i xs ≡ x ∷ drop (i + 1) xs
drop_here xs i x lt is = drop-cons xs i x lt ∙ ap (λ y. y ∷ drop (suc i) xs) (sym is) ∙ ap (λ j. x ∷ drop j xs) (sym (add-one i))

in_function : (function : Option CoreFunction) → unwrap_or (option_map (λ (f : CoreFunction). list_sources f.body) function) [] ≡ sources_in function
in_function None = refl
in_function (Some function) = refl

-- the sources of a function in the list of those of all functions
pub found_sources : (functions : List CoreFunction) (all : List (List Source)) (number : ℕ) → all ≡ map (λ f. list_sources f.body) functions → unwrap_or (slice_get all number) [] ≡ sources_in (slice_get functions number)
found_sources functions all number is =
    ap (λ table. unwrap_or (slice_get table number) []) is ∙ (ap (λ found. unwrap_or found []) (slice_get-map (λ (f : CoreFunction). list_sources f.body) functions number) ∙ in_function (slice_get functions number))

pub one_more : (functions : List CoreFunction) (all : List (List Source)) (violations : List Violation) (i : ℕ) (v : Violation) (sources : List Source) (old new whole : List ℕ)
    → i < length violations → v ≡ get_or violations i v → all ≡ map (λ f. list_sources f.body) functions → sources ≡ unwrap_or (slice_get all v.function) []
    → new ≡ old ++ violation_lines functions sources v → old ++ flat_map (violation_text functions) (drop i violations) ≡ whole
    → new ++ flat_map (violation_text functions) (drop (i + 1) violations) ≡ whole
one_more functions all violations i v sources old new whole lt is told found added before =
    let later : List ℕ = flat_map (violation_text functions) (drop (i + 1) violations) in
    ap (λ xs. xs ++ later) (added ∙ ap (λ xs. old ++ violation_lines functions xs v) (found ∙ found_sources functions all v.function told))
    ∙ (append_assoc old (violation_text functions v) later ∙ (ap (λ xs. old ++ flat_map (violation_text functions) xs) (sym (drop_here violations i v lt is)) ∙ before))
