-- The last statement of a list.
use Rattle.std.proofs.Common.{◌≡◌, refl, sym, ap, ◌∙◌, ℕ, ◌+◌, ◌<◌, Bool, false, List, [], ◌∷◌, length, get_or, drop}
use Rattle.shade_core.specs.declared.statement.CoreStatement.{CoreStatement}
use Rattle.shade_core.specs.Standing.{head_of}
use Rattle.shade_core.specs.HasShape.{is_return, ends_with_return}
use Rattle.shade_core.proofs.CodeLaws.{drop_here}

-- whether a list ends with a Return, or those before it where it is empty
abbrev pub ends_after : Bool → List CoreStatement → Bool
ends_after before [] = before
ends_after before (s ∷ rest) = ends_with_return (s ∷ rest)

pub end_first : (before : Bool) (s : CoreStatement) (rest : List CoreStatement) → ends_after before (s ∷ rest) ≡ ends_after (is_return (head_of s.act)) rest
end_first before s [] = refl
end_first before s (t ∷ rest) = refl

pub end_all : (list : List CoreStatement) → ends_after false list ≡ ends_with_return list
end_all [] = refl
end_all (s ∷ rest) = refl

pub end_step : (xs : List CoreStatement) (i : ℕ) (x : CoreStatement) (before after all : Bool) → i < length xs → x ≡ get_or xs i x → after ≡ is_return (head_of x.act)
    → ends_after before (drop i xs) ≡ all → ends_after after (drop (i + 1) xs) ≡ all
end_step xs i x before after all lt is e h =
    ap (λ b. ends_after b (drop (i + 1) xs)) e ∙ (sym (end_first before x (drop (i + 1) xs)) ∙ (ap (ends_after before) (sym (drop_here xs i x lt is)) ∙ h))
