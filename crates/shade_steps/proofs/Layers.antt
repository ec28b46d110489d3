-- The steps of each kind of expression, by those of its parts; and what a list holds once they are added to it in turn.
use Rattle.std.proofs.Common.{◌≡◌, refl, sym, ap, ◌∙◌, ℕ, Bool, List, [], ◌∷◌, ◌++◌, map, Option, Result, Ok, Err, append_assoc}
use Rattle.std.specs.Prelude.{OnOk}
use Rattle.std.specs.List.{flat_map}
use Rattle.shade_base.specs.declared.place.Place.{Place}
use Rattle.shade_ast.specs.declared.expr.Infix.{Infix}
use Rattle.shade_ast.specs.declared.expr.Prefix.{Prefix}
use Rattle.shade_ast.specs.declared.expr.Named.{Named}
use Rattle.shade_ast.specs.declared.expr.Expr.{Expr, fold_out-Expr}
use Rattle.shade_ast.specs.declared.expr.ExprKind.{ExprKind, ExprKind-F, out-ExprKind, map-ExprKind, fold-ExprKind, fold_out-ExprKind}
use Rattle.shade_ast.specs.declared.expr.ExprKind.TheVariants as kind
use Rattle.shade_known.specs.declared.known.Operand.{Operand}
use Rattle.shade_steps.specs.declared.step.Slot.TheVariants as slot
use Rattle.shade_steps.specs.declared.step.Step.{Step}
use Rattle.shade_steps.specs.declared.step.Task.TheVariants as task
use Rattle.shade_steps.specs.Steps.{Part, KindSteps, kind_steps, expr_part, part_of, own_of, steps_of, steps_of_value, steps_of_operand, steps_of_listed, value_steps, listed_steps, decided, right_of, operand_asked, step_of}

abbrev pub kind_part : ExprKind → KindSteps
kind_part = fold-ExprKind KindSteps Part kind_steps expr_part

pub part_is : (e : Expr) → part_of e ≡ record { own = own_of e.node e.place; steps = kind_part e.kind (own_of e.node e.place) }
part_is e = fold_out-Expr KindSteps Part kind_steps expr_part e

pub own_is : (e : Expr) → (part_of e).own ≡ own_of e.node e.place
own_is e = ap (λ p. p.own) (part_is e)

pub steps_by : (e : Expr) (under : Option ℕ) → steps_of under e ≡ kind_part e.kind (own_of e.node e.place) under
steps_by e under = ap (λ p. p.steps under) (part_is e)

layer : (k : ExprKind) (y : ExprKind-F ExprKind Expr) → out-ExprKind k ≡ y → kind_part k ≡ kind_steps (map-ExprKind ExprKind Expr KindSteps Part kind_part part_of y)
layer k y is = fold_out-ExprKind KindSteps Part kind_steps expr_part k ∙ ap (λ z. kind_steps (map-ExprKind ExprKind Expr KindSteps Part kind_part part_of z)) is

-- ---- lists that grow

pub then_on : {E : Type 0} (r : Result (Unit {0}) E) {P Q : Type 0} → (P → Q) → OnOk r P → OnOk r Q
then_on (Ok u) f p = f p
then_on (Err e) f p = p

pub two : (a b o : List Step) {o1 o2 : List Step} → o1 ≡ o ++ a → o2 ≡ o1 ++ b → o2 ≡ o ++ (a ++ b)
two a b o p q = q ∙ ap (λ x. x ++ b) p ∙ append_assoc o a b

pub three : (a b c o : List Step) {o1 o2 o3 : List Step} → o1 ≡ o ++ a → o2 ≡ o1 ++ b → o3 ≡ o2 ++ c → o3 ≡ o ++ (a ++ b ++ c)
three a b c o p q r = two (a ++ b) c o (two a b o p q) r

pub four : (a b c d o : List Step) {o1 o2 o3 o4 : List Step} → o1 ≡ o ++ a → o2 ≡ o1 ++ b → o3 ≡ o2 ++ c → o4 ≡ o3 ++ d → o4 ≡ o ++ (a ++ b ++ c ++ d)
four a b c d o p q r s = two (a ++ b ++ c) d o (three a b c o p q r) s

map_map : {A B C : Type 0} (f : B → C) (g : A → B) (xs : List A) → map (λ x. f (g x)) xs ≡ map f (map g xs)
map_map f g [] = refl
map_map f g (x ∷ xs) = ap (λ l. f (g x) ∷ l) (map_map f g xs)

flat_map_map : {A B C : Type 0} (f : B → List C) (g : A → B) (xs : List A) → flat_map (λ x. f (g x)) xs ≡ flat_map f (map g xs)
flat_map_map f g [] = refl
flat_map_map f g (x ∷ xs) = ap (λ l. f (g x) ++ l) (flat_map_map f g xs)

-- ---- each kind

module _ (e : Expr) (own : Operand) (under : Option ℕ) (own_part : own ≡ (part_of e).own) where
  is_own : own ≡ own_of e.node e.place
  is_own = own_part ∙ own_is e

  along : (k : ExprKind) (y : ExprKind-F ExprKind Expr) → e.kind ≡ k → out-ExprKind k ≡ y → steps_of under e ≡ kind_steps (map-ExprKind ExprKind Expr KindSteps Part kind_part part_of y) own under
  along k y kind_is is = steps_by e under ∙ ap (λ z. kind_part z (own_of e.node e.place) under) kind_is ∙ ap (λ f. f (own_of e.node e.place) under) (layer k y is) ∙ ap (λ o. kind_steps (map-ExprKind ExprKind Expr KindSteps Part kind_part part_of y) o under) (sym is_own)

  pub of-Infix : (left : Expr) (operator : Infix) (at : Place) (right : Expr) {l l2 r : Operand} (o : List Step) {o1 o2 o3 o4 : List Step} → e.kind ≡ kind.Infix left operator at right
      → l ≡ (part_of left).own → l2 ≡ (part_of left).own → r ≡ (part_of right).own
      → o1 ≡ o ++ steps_of_value under left → o2 ≡ o1 ++ decided under own l operator → o3 ≡ o2 ++ steps_of_value (right_of under operator own.node) right
      → o4 ≡ o3 ++ step_of own under (task.Infix l2 operator at r) ∷ [] → o4 ≡ o ++ steps_of under e
  of-Infix left operator at right {l = l} {l2 = l2} {r = r} o is is_l is_l2 is_r p q s t =
      four _ _ _ _ o p q s t
      ∙ ap (λ m. o ++ (steps_of_value under left ++ decided under own m operator ++ steps_of_value (right_of under operator own.node) right ++ step_of own under (task.Infix l2 operator at r) ∷ [])) is_l
      ∙ ap (λ m. o ++ (steps_of_value under left ++ decided under own (part_of left).own operator ++ steps_of_value (right_of under operator own.node) right ++ step_of own under (task.Infix m operator at r) ∷ [])) is_l2
      ∙ ap (λ m. o ++ (steps_of_value under left ++ decided under own (part_of left).own operator ++ steps_of_value (right_of under operator own.node) right ++ step_of own under (task.Infix (part_of left).own operator at m) ∷ [])) is_r
      ∙ ap (λ x. o ++ x) (sym (along _ _ is (kind.outs-Infix left operator at right)))

  pub of-Prefix : (operator : Prefix) (operand : Expr) {m1 m2 : Operand} (o : List Step) {o1 o2 o3 : List Step} → e.kind ≡ kind.Prefix operator operand
      → m1 ≡ (part_of operand).own → m2 ≡ (part_of operand).own
      → o1 ≡ o ++ steps_of under operand → o2 ≡ o1 ++ operand_asked operator under m1 → o3 ≡ o2 ++ step_of own under (task.Prefix operator m2) ∷ [] → o3 ≡ o ++ steps_of under e
  of-Prefix operator operand {m1 = m1} {m2 = m2} o is is_m1 is_m2 p q r =
      three _ _ _ o p q r
      ∙ ap (λ m. o ++ (steps_of under operand ++ operand_asked operator under m ++ step_of own under (task.Prefix operator m2) ∷ [])) is_m1
      ∙ ap (λ m. o ++ (steps_of under operand ++ operand_asked operator under (part_of operand).own ++ step_of own under (task.Prefix operator m) ∷ [])) is_m2
      ∙ ap (λ x. o ++ x) (sym (along _ _ is (kind.outs-Prefix operator operand)))

  pub of-Paren : (inner : Expr) {mine : Operand} (o : List Step) {o1 o2 : List Step} → e.kind ≡ kind.Paren inner → mine ≡ (part_of inner).own
      → o1 ≡ o ++ steps_of_operand under inner → o2 ≡ o1 ++ step_of own under (task.Paren mine) ∷ [] → o2 ≡ o ++ steps_of under e
  of-Paren inner o is is_mine p q =
      two _ _ o p q ∙ ap (λ m. o ++ (steps_of_operand under inner ++ step_of own under (task.Paren m) ∷ [])) is_mine
      ∙ ap (λ x. o ++ x) (sym (along _ _ is (kind.outs-Paren inner)))

  pub of-Member : (whole : Expr) (dot : Place) (member : Named) {mine : Operand} (o : List Step) {o1 o2 : List Step} → e.kind ≡ kind.Member whole dot member → mine ≡ (part_of whole).own
      → o1 ≡ o ++ steps_of under whole → o2 ≡ o1 ++ step_of own under (task.Member mine dot member) ∷ [] → o2 ≡ o ++ steps_of under e
  of-Member whole dot member o is is_mine p q =
      two _ _ o p q ∙ ap (λ m. o ++ (steps_of under whole ++ step_of own under (task.Member m dot member) ∷ [])) is_mine
      ∙ ap (λ x. o ++ x) (sym (along _ _ is (kind.outs-Member whole dot member)))

  pub of-Index : (whole : Expr) (bracket : Place) (index : Expr) {w i : Operand} (o : List Step) {o1 o2 o3 : List Step} → e.kind ≡ kind.Index whole bracket index
      → w ≡ (part_of whole).own → i ≡ (part_of index).own
      → o1 ≡ o ++ steps_of_operand under whole → o2 ≡ o1 ++ steps_of_value under index → o3 ≡ o2 ++ step_of own under (task.Index w bracket i) ∷ [] → o3 ≡ o ++ steps_of under e
  of-Index whole bracket index {w = w} {i = i} o is is_w is_i p q r =
      three _ _ _ o p q r
      ∙ ap (λ m. o ++ (steps_of_operand under whole ++ steps_of_value under index ++ step_of own under (task.Index m bracket i) ∷ [])) is_w
      ∙ ap (λ m. o ++ (steps_of_operand under whole ++ steps_of_value under index ++ step_of own under (task.Index (part_of whole).own bracket m) ∷ [])) is_i
      ∙ ap (λ x. o ++ x) (sym (along _ _ is (kind.outs-Index whole bracket index)))

  pub of-Call : (callee : Expr) (arguments : List Expr) (trailing : Bool) {a : Operand} {l : List Operand} (o : List Step) {o1 o2 o3 : List Step} → e.kind ≡ kind.Call callee arguments trailing
      → a ≡ (part_of callee).own → l ≡ map (λ x. (part_of x).own) arguments
      → o1 ≡ o ++ steps_of under callee → o2 ≡ o1 ++ flat_map (steps_of_value under) arguments → o3 ≡ o2 ++ step_of own under (task.Call a l) ∷ [] → o3 ≡ o ++ steps_of under e
  of-Call callee arguments trailing {a = a} {l = l} o is is_a is_l p q r =
      three _ _ _ o p q r
      ∙ ap (λ m. o ++ (steps_of under callee ++ flat_map (steps_of_value under) arguments ++ step_of own under (task.Call m l) ∷ [])) is_a
      ∙ ap (λ m. o ++ (steps_of under callee ++ m ++ step_of own under (task.Call (part_of callee).own l) ∷ [])) (flat_map_map (value_steps under) part_of arguments)
      ∙ ap (λ m. o ++ (steps_of under callee ++ flat_map (value_steps under) (map part_of arguments) ++ step_of own under (task.Call (part_of callee).own m) ∷ [])) (is_l ∙ map_map (λ (x : Part). x.own) part_of arguments)
      ∙ ap (λ x. o ++ x) (sym (along _ _ is (kind.outs-Call callee arguments trailing)))

  pub of-Template : (name : ℕ) (arguments : List Expr) (trailing : Bool) {l : List Operand} (o : List Step) {o1 o2 : List Step} → e.kind ≡ kind.Template name arguments trailing
      → l ≡ map (λ x. (part_of x).own) arguments
      → o1 ≡ o ++ steps_of_listed own.node name slot.First arguments → o2 ≡ o1 ++ step_of own under (task.Template name l) ∷ [] → o2 ≡ o ++ steps_of under e
  of-Template name arguments trailing {l = l} o is is_l p q =
      two _ _ o p q
      ∙ ap (λ m. o ++ (listed_steps own.node name slot.First (map part_of arguments) ++ step_of own under (task.Template name m) ∷ [])) (is_l ∙ map_map (λ (x : Part). x.own) part_of arguments)
      ∙ ap (λ x. o ++ x) (sym (along _ _ is (kind.outs-Template name arguments trailing)))
