-- A stack of marks whose last one is the innermost.
use Rattle.std.proofs.Common.{◌≡◌, ℕ, suc, ◌+◌, List, [], ◌∷◌, ◌++◌, length, refl, ap, ◌∙◌, sym, reverse, add-one}
use Rattle.std.proofs.lemmas.List.{reverse-append, length-reverse}
use Rattle.shade_rest.specs.declared.mark.Mark.{Mark}
use Rattle.shade_rest.specs.declared.mark.Mark.TheVariants as mark
use Rattle.shade_rest.specs.Marks.{rest_of, left, outside, depth}

-- the mark that is pushed is the innermost
pub pushed : (stack : List Mark) (m : Mark) → reverse (stack ++ m ∷ []) ≡ m ∷ reverse stack
pushed stack m = reverse-append stack (m ∷ [])

-- the mark that was pushed stands inside all the others
pub innermost : (stack new : List Mark) (m : Mark) → new ≡ stack ++ m ∷ [] → left new ≡ rest_of (m ∷ outside (reverse new))
innermost stack new m e =
    let p : reverse new ≡ m ∷ reverse stack = ap reverse e ∙ pushed stack m in
    ap rest_of (p ∙ ap (λ marks. m ∷ marks) (sym (ap outside p)))

pub innermost_is : (stack new : List Mark) (pushed_mark m : Mark) → pushed_mark ≡ m → new ≡ stack ++ pushed_mark ∷ [] → left new ≡ rest_of (m ∷ outside (reverse new))
innermost_is stack new pushed_mark m is e = innermost stack new m (e ∙ ap (λ x. stack ++ x ∷ []) is)

-- ---- the length of a stack is told by what it leaves

one_more : (d long : ℕ) → d ≡ long → d + 1 ≡ suc long
one_more d long e = add-one d ∙ ap suc e

depth_of : (marks : List Mark) → depth (rest_of marks) ≡ length marks
depth_of [] = refl
depth_of (mark.List list ∷ marks) = one_more (depth (rest_of marks)) (length marks) (depth_of marks)
depth_of (mark.Body body turn ∷ marks) = one_more (depth (rest_of marks)) (length marks) (depth_of marks)
depth_of (mark.Continuing body turn ∷ marks) = one_more (depth (rest_of marks)) (length marks) (depth_of marks)
depth_of (mark.Switch ∷ marks) = one_more (depth (rest_of marks)) (length marks) (depth_of marks)
depth_of (mark.Call number function args ∷ marks) = one_more (depth (rest_of marks)) (length marks) (depth_of marks)

pub marks_count : (stack : List Mark) → length stack ≡ depth (left stack)
marks_count stack = sym (depth_of (reverse stack) ∙ length-reverse stack)
