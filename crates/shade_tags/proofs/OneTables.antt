-- A module has one table of tags.
use Rattle.std.proofs.Common.{◌≡◌, refl, sym, ap, ap₂, subst, ◌∙◌, ℕ, zero, suc, ◌⊎◌, inl, inr, List, [], ◌∷◌, length, Some, arith}
use Rattle.std.specs.Prelude.{slice_get}
use Rattle.shade_core.specs.declared.module.CoreModule.{CoreModule}
use Rattle.shade_graph.specs.declared.node.Node.{Node}
use Rattle.shade_graph.specs.declared.node.Tag.{Tag}
use Rattle.shade_graph.specs.Graph.{Among, here, later}
use Rattle.shade_graph.specs.Order.{NodeLess}
use Rattle.shade_graph.proofs.OrderLaws.{apart}
use Rattle.shade_uniformity.specs.Edges.{TagLess}
use Rattle.shade_tags.specs.Tags.{IsTag, IsTable, InOrder}
use Rattle.shade_tags.specs.Laws.{OneTable}

own_clash : (u v : Node) → u ≡ v → NodeLess u v → ⊥
own_clash u v e less = let own : NodeLess u u = subst (λ (w : Node). NodeLess u w) (sym e) less in apart u u own own

-- no tag comes before another that comes before it
pub tag_clash : (s t : Tag) → TagLess s t → TagLess t s → ⊥
tag_clash s t (inl x) (inl y) = apart s.source t.source x y
tag_clash s t (inl x) (inr y) = own_clash s.source t.source (sym y.0) x
tag_clash s t (inr x) (inl y) = own_clash t.source s.source (sym x.0) y
tag_clash s t (inr x) (inr y) = apart s.target t.target x.1 y.1

-- ---- lists in an order without ties

abbrev Cases : {A : Type 0} → A → List A → Type 0
Cases x [] = ⊥
Cases x (y ∷ ys) = (x ≡ y) ⊎ Among x ys

among_cases : {A : Type 0} {x : A} {zs : List A} → Among x zs → Cases x zs
among_cases here = inl refl
among_cases (later h) = inr h

module _ {A : Type 0} (Less : A → A → Type 0) (clash : (x y : A) → Less x y → Less y x → ⊥) where
  abbrev Before : A → List A → Type 0
  Before x xs = (y : A) → Among y xs → Less x y

  abbrev Holds : List A → List A → Type 0
  Holds xs ys = (u : A) → Among u xs → Among u ys

  head_one : (x y : A) (xs ys : List A) → Cases x (y ∷ ys) → Cases y (x ∷ xs) → Before x xs → Before y ys → x ≡ y
  head_one x y xs ys (inl e) b before behind = e
  head_one x y xs ys (inr h) (inl e) before behind = sym e
  head_one x y xs ys (inr h) (inr g) before behind = absurd (clash x y (before y g) (behind x h))

  tail_holds : (x y : A) (xs ys : List A) → x ≡ y → Before x xs → Holds (x ∷ xs) (y ∷ ys) → Holds xs ys
  tail_holds x y xs ys e before holds u h = by_place (among_cases (holds u (later h))) where
    by_place : Cases u (y ∷ ys) → Among u ys
    by_place (inr g) = g
    by_place (inl f) = let own : Less x x = subst (λ (z : A). Less x z) (f ∙ sym e) (before u h) in absurd (clash x x own own)

  pub lists_one : (xs ys : List A) → InOrder Less xs → InOrder Less ys → Holds xs ys → Holds ys xs → xs ≡ ys
  lists_one [] [] a b f g = refl
  lists_one [] (y ∷ ys) a b f g = absurd (among_cases (g y here))
  lists_one (x ∷ xs) [] a b f g = absurd (among_cases (f x here))
  lists_one (x ∷ xs) (y ∷ ys) a b f g =
      let e : x ≡ y = head_one x y xs ys (among_cases (f x here)) (among_cases (g y here)) a.0 b.0 in
      ap₂ (λ z zs. z ∷ zs) e (lists_one xs ys a.1 b.1 (tail_holds x y xs ys e a.0 f) (tail_holds y x ys xs (sym e) b.0 g))

tables_one : (xs ys : List (List Tag)) → length xs ≡ length ys → ((k : ℕ) (a b : List Tag) → slice_get xs k ≡ Some a → slice_get ys k ≡ Some b → a ≡ b) → xs ≡ ys
tables_one [] [] l same = refl
tables_one [] (y ∷ ys) l same = absurd (omega (arith, l))
tables_one (x ∷ xs) [] l same = absurd (omega (arith, l))
tables_one (x ∷ xs) (y ∷ ys) l same = ap₂ (λ z zs. z ∷ zs) (same 0 x y refl refl) (tables_one xs ys (omega (arith, l)) (λ k a b e f. same (suc k) a b e f))

pub one_table : OneTable
one_table shader tags other t o = tables_one tags other (t.long ∙ sym o.long) (λ k a b e f.
    lists_one TagLess tag_clash a b (t.ordered k a e) (o.ordered k b f) (λ u h. (o.members k b f u).1 ((t.members k a e u).0 h)) (λ u h. (t.members k a e u).1 ((o.members k b f u).0 h)))
