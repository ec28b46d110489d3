-- Statements of items.
use Rattle.std.proofs.Common.{◌≡◌, sym, ap, ◌∙◌, subst, ℕ, ◌+◌, ◌<◌, List, [], ◌∷◌, ◌++◌, length, drop, take, get_or, arith, append_assoc}
use Rattle.std.proofs.lemmas.List.{drop_more, take_more}
use Rattle.shade_base.specs.declared.place.Place.{Place}
use Rattle.shade_core.specs.declared.statement.CoreStatement.{CoreStatement}
use Rattle.shade_first.specs.declared.tree.FirstItem.{FirstItem, fold-roll-FirstItem}
use Rattle.shade_first.specs.declared.tree.FirstItem.TheVariants as item
use Rattle.shade_first.specs.declared.tree.FirstItem.TheOpen as layer
use Rattle.shade_first.specs.declared.tree.FirstItem.TheVariants.{rolls-Barrier, rolls-If}
use Rattle.shade_first.specs.Lowering.{condition, branch, barrier, Adds, Lowers, none, one_barrier, one_branch, count_step, count_of, count_all}

pub count_barrier : (p : Place) → count_of (item.Barrier p) ≡ 1
count_barrier p = ap count_of (sym (rolls-Barrier p)) ∙ fold-roll-FirstItem ℕ count_step (layer.Barrier p)

pub count_branch : (p q : Place) (limit : ℕ) (inner : List FirstItem) → count_of (item.If p q limit inner) ≡ 2 + count_all inner
count_branch p q limit inner = ap count_of (sym (rolls-If p q limit inner)) ∙ fold-roll-FirstItem ℕ count_step (layer.If p q limit inner)

pub count_first : (items : List FirstItem) (i : ℕ) (d : FirstItem) → i < length items → count_all (drop i items) ≡ count_of (get_or items i d) + count_all (drop (i + 1) items)
count_first items i d h = ap count_all (drop_more items i d h)

-- the numbers count the statements
pub lowers_count : (is : List FirstItem) (n : ℕ) (ss : List CoreStatement) (m : ℕ) → Lowers is n ss m → m ≡ n + count_all is
lowers_count is n ss m (none k) = omega arith
lowers_count is n ss m (one_barrier k p {is = js} l) = let rest : m ≡ k + 1 + count_all js = lowers_count js (k + 1) _ m l in omega (arith, count_barrier p, rest)
lowers_count is n ss m (one_branch k p q limit {inner = inner} {is = js} {end = end} l r) =
    let first : end ≡ k + 2 + count_all inner = lowers_count inner (k + 2) _ end l in
    let rest : m ≡ end + count_all js = lowers_count js end _ m r in
    omega (arith, count_branch p q limit inner, first, rest)

-- statements one behind the other
pub lowers_append : (is js : List FirstItem) (n : ℕ) (ss ts : List CoreStatement) (m k : ℕ) → Lowers is n ss m → Lowers js m ts k → Lowers (is ++ js) n (ss ++ ts) k
lowers_append is js n ss ts m k (none i) l = l
lowers_append is js n ss ts m k (one_barrier i p {is = rest} {ss = more} r) l = one_barrier i p (lowers_append rest js (i + 1) more ts m k r l)
lowers_append is js n ss ts m k (one_branch i p q limit {is = rest} {ss = more} {end = end} r t) l =
    one_branch i p q limit r (lowers_append rest js end more ts m k t l)

-- what is added for an item
pub added_barrier : (i : FirstItem) (n : ℕ) (p : Place) (old new : List CoreStatement) → i ≡ item.Barrier p → new ≡ old ++ barrier n p ∷ [] → Adds i n old new (n + 1)
added_barrier i n p old new is pushed = record {
  statements = barrier n p ∷ [];
  lowered = subst (λ x. Lowers (x ∷ []) n (barrier n p ∷ []) (n + 1)) (sym is) (one_barrier n p (none (n + 1)));
  more = pushed;
}

pub added_branch : (i : FirstItem) (n : ℕ) (p q : Place) (limit : ℕ) (inner : List FirstItem) (body old more new : List CoreStatement) (end : ℕ) → i ≡ item.If p q limit inner
    → Lowers inner (n + 2) body end → more ≡ old ++ condition n q limit ∷ [] → new ≡ more ++ branch (n + 1) p n body ∷ [] → Adds i n old new end
added_branch i n p q limit inner body old more new end is low pushed pushed_too = record {
  statements = condition n q limit ∷ (branch (n + 1) p n body ∷ []);
  lowered = subst (λ x. Lowers (x ∷ []) n (condition n q limit ∷ (branch (n + 1) p n body ∷ [])) end) (sym is) (one_branch n p q limit low (none end));
  more = pushed_too ∙ ap (λ x. x ++ branch (n + 1) p n body ∷ []) pushed ∙ append_assoc old (condition n q limit ∷ []) (branch (n + 1) p n body ∷ []);
}

-- one item more
pub lowers_more : (items : List FirstItem) (n i next end : ℕ) (made more : List CoreStatement) (d : FirstItem) → i < length items → Lowers (take i items) n made next
    → Adds (get_or items i d) next made more end → Lowers (take (i + 1) items) n more end
lowers_more items n i next end made more d h l adds =
    subst (λ x. Lowers x n more end) (sym (take_more items i d h))
    (subst (λ x. Lowers (take i items ++ get_or items i d ∷ []) n x end) (sym adds.more)
    (lowers_append (take i items) (get_or items i d ∷ []) n made adds.statements next end l adds.lowered))

pub adds_count : (i : FirstItem) (n : ℕ) (old new : List CoreStatement) (next : ℕ) → Adds i n old new next → next ≡ n + count_of i
adds_count i n old new next adds = omega (arith, lowers_count (i ∷ []) n adds.statements next adds.lowered)
