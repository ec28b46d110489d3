-- The open lists, the innermost first.
use Rattle.std.proofs.Common.{◌≡◌, List, [], ◌∷◌, ◌++◌, refl, ap, ◌∙◌, map, reverse, length, arith, Bor}
use Rattle.std.proofs.lemmas.List.{map_push, reverse-append}
use Rattle.shade_core.specs.declared.statement.CoreStatement.{CoreStatement}
use Rattle.shade_lane.specs.Seen.{place_of}

-- the last list is the innermost
pub view_push : (lists : List (Bor (List CoreStatement))) (list : Bor (List CoreStatement)) → reverse (map (λ l. l.now) (lists ++ list ∷ [])) ≡ list.now ∷ reverse (map (λ l. l.now) lists)
view_push lists list = ap reverse (map_push (λ l. l.now) lists list) ∙ reverse-append (map (λ l. l.now) lists) (list.now ∷ [])

none_left : {A : Type 0} (xs : List A) → length xs ≡ 0 → xs ≡ []
none_left [] e = refl
none_left (x ∷ xs) e = absurd (omega (arith, e))

-- a list that is done may be left out
pub place_pop : (old new : List (Bor (List CoreStatement))) (list : Bor (List CoreStatement)) → old ≡ new ++ list ∷ [] → length list.now ≡ 0
    → place_of (reverse (map (λ l. l.now) new)) ≡ place_of (reverse (map (λ l. l.now) old))
place_pop old new list e none = rw (e, view_push new list, none_left list.now none) refl
