-- Tokens spell one tree, and a tree has one list of statements.
use Rattle.std.proofs.Common.{◌≡◌, refl, sym, ap, ◌∙◌, ℕ, ◌+◌, ◌<◌, ◌≤◌, ◌^◌, List, [], ◌∷◌, ◌++◌, codes, arith}
use Rattle.std.specs.Fmt.{decimal}
use Rattle.std.proofs.lemmas.Fmt.{decimal_injective}
use Rattle.std.proofs.lemmas.List.{append_cancel_right}
use Rattle.shade_base.specs.declared.place.Place.{Place}
use Rattle.shade_core.specs.declared.statement.CoreStatement.{CoreStatement}
use Rattle.shade_first.specs.declared.token.Mark.TheVariants.{Open, CloseBrace, Less}
use Rattle.shade_first.specs.declared.token.Kind.{Kind}
use Rattle.shade_first.specs.declared.token.Kind.TheVariants as kind
use Rattle.shade_first.specs.declared.token.Token.{Token}
use Rattle.shade_first.specs.declared.tree.FirstItem.{FirstItem, out-FirstItem}
use Rattle.shade_first.specs.declared.tree.FirstItem.TheVariants as item
use Rattle.shade_first.specs.declared.tree.FirstItem.TheVariants.{outs-Barrier, outs-If}
use Rattle.shade_first.specs.declared.tree.FirstItem.TheOpen as layer
use Rattle.shade_first.specs.declared.tree.FirstShader.{FirstShader}
use Rattle.shade_first.specs.Form.{Placed, Fixed, done, more, Lanes, Limit, Declared, if_word, barrier_word, Item, Block, barrier, branch, ends, next, Shader}
use Rattle.shade_first.specs.Lowering.{Lowers, none, one_barrier, one_branch, condition, branch as branch_of, barrier as barrier_of}
use Rattle.shade_first.proofs.Tokens.{SameToken, same_token}
use Rattle.shade_first.proofs.Blocks.{words_differ, mark_no_word}

-- one thing was read, and the same follows it
record Once {R : Type 0} (r s : R) (us vs : List Token) : Type 0 where
  same : r ≡ s
  rest : us ≡ vs

placed_kind : (k j : Kind) (p q : Place) (ts us vs ws : List Token) → Placed k p ts us → Placed j q vs ws → ts ≡ vs → SameToken k j p q us ws
placed_kind k j p q ts us vs ws g h e = same_token k j p q us ws (sym g.is ∙ e ∙ h.is)

placed_once : (k : Kind) (p q : Place) (ts us vs ws : List Token) → Placed k p ts us → Placed k q vs ws → ts ≡ vs → Once p q us ws
placed_once k p q ts us vs ws g h e = let t = placed_kind k k p q ts us vs ws g h e in record { same = t.places; rest = t.rests }

fixed_once : (ks js : List Kind) (ts us vs ws : List Token) → Fixed ks ts us → Fixed js vs ws → ks ≡ js → ts ≡ vs → us ≡ ws
fixed_once ks js ts us vs ws (done xs) (done ys) k e = e
fixed_once ks js ts us vs ws (done xs) (more j q {ks = ls} h m) k e = let bad : [] ≡ j ∷ ls = k in absurd (cc)
fixed_once ks js ts us vs ws (more i p {ks = ls} g l) (done ys) k e = let bad : i ∷ ls ≡ [] = k in absurd (cc)
fixed_once ks js ts us vs ws (more i p {ks = ls} {us = xs} g l) (more j q {ks = ms} {us = ys} h m) k e =
    let lists : i ∷ ls ≡ j ∷ ms = k in
    let t = placed_kind i j p q ts xs vs ys g h e in
    fixed_once ls ms xs us ys ws l m (cc) t.rests

lanes_once : (n m : ℕ) (ts us vs ws : List Token) → Lanes n ts us → Lanes m vs ws → ts ≡ vs → Once n m us ws
lanes_once n m ts us vs ws g h e =
    let t : SameToken (kind.Number (decimal n)) (kind.Number (decimal m)) g.place h.place us ws = same_token _ _ _ _ _ _ (sym g.is ∙ e ∙ h.is) in
    let texts : decimal n ≡ decimal m = (let k : kind.Number (decimal n) ≡ kind.Number (decimal m) = t.kinds in cc) in
    let low : n ≤ 256 = g.most in
    let high : m ≤ 256 = h.most in
    record { same = decimal_injective n m (omega arith) (omega arith) texts; rest = t.rests }

limit_once : (n m : ℕ) (ts us vs ws : List Token) → Limit n ts us → Limit m vs ws → ts ≡ vs → Once n m us ws
limit_once n m ts us vs ws g h e =
    let t : SameToken (kind.Number (decimal n ++ codes "u")) (kind.Number (decimal m ++ codes "u")) g.place h.place us ws = same_token _ _ _ _ _ _ (sym g.is ∙ e ∙ h.is) in
    let texts : decimal n ++ codes "u" ≡ decimal m ++ codes "u" = (let k : kind.Number (decimal n ++ codes "u") ≡ kind.Number (decimal m ++ codes "u") = t.kinds in cc) in
    let low : n < 2 ^ 32 = g.most in
    let high : m < 2 ^ 32 = h.most in
    record { same = decimal_injective n m (omega arith) (omega arith) (append_cancel_right (decimal n) (decimal m) (codes "u") texts); rest = t.rests }

record OneName (name other : List ℕ) (p q : Place) (us vs : List Token) : Type 0 where
  names : name ≡ other
  places : p ≡ q
  rest : us ≡ vs

declared_once : (name other : List ℕ) (p q : Place) (ts us vs ws : List Token) → Declared name p ts us → Declared other q vs ws → ts ≡ vs → OneName name other p q us ws
declared_once name other p q ts us vs ws g h e =
    let t : SameToken (kind.Word name) (kind.Word other) p q us ws = same_token _ _ _ _ _ _ (sym g.is ∙ e ∙ h.is) in
    record { names = (let k : kind.Word name ≡ kind.Word other = t.kinds in cc); places = t.places; rest = t.rests }

record OneBlock (is js : List FirstItem) (p q : Place) (us vs : List Token) : Type 0 where
  items : is ≡ js
  places : p ≡ q
  rest : us ≡ vs

-- no statement begins with a brace
not_close : (parameter : List ℕ) (braces : ℕ) (i : FirstItem) (e : Place) (ts us vs ws : List Token) → Item parameter braces i ts us → Placed (kind.Mark CloseBrace) e vs ws → ts ≡ vs → ⊥
not_close parameter braces i e ts us vs ws (barrier b p {us = xs} g f) h same = mark_no_word _ (sym (placed_kind barrier_word (kind.Mark CloseBrace) p e ts xs vs ws g h same).kinds)
not_close parameter braces i e ts us vs ws (branch b p q n o {us = xs} lt g f l m k s) h same = mark_no_word _ (sym (placed_kind if_word (kind.Mark CloseBrace) p e ts xs vs ws g h same).kinds)

abbrev condition_of : List ℕ → List Kind
condition_of name = kind.Mark Open ∷ (kind.Word name ∷ [])

mutual
  item_once : (parameter other : List ℕ) (b c : ℕ) (i j : FirstItem) (ts us vs ws : List Token) → Item parameter b i ts us → Item other c j vs ws → parameter ≡ other → ts ≡ vs → Once i j us ws
  item_once parameter other b c i j ts us vs ws (barrier d p {us = xs} g f) (barrier d' p' {us = ys} h k) same e =
      let t = placed_once barrier_word p p' ts xs vs ys g h e in
      record { same = ap item.Barrier t.same; rest = fixed_once _ _ xs us ys ws f k refl t.rest }
  item_once parameter other b c i j ts us vs ws (barrier d p {us = xs} g f) (branch d' p' q' n' o' {us = ys} lt' h k l' m' r' s') same e = absurd (words_differ (sym (placed_kind barrier_word if_word p p' ts xs vs ys g h e).kinds))
  item_once parameter other b c i j ts us vs ws (branch d p q n o {us = xs} lt g f l m r s) (barrier d' p' {us = ys} h k) same e = absurd (words_differ (placed_kind if_word barrier_word p p' ts xs vs ys g h e).kinds)
  item_once parameter other b c i j ts us vs ws (branch d p q n {is = is} o {us = u1} {vs = u2} {ws = u3} {xs = u4} {ys = u5} lt g f l m r s) (branch d' p' q' n' {is = is'} o' {us = v1} {vs = v2} {ws = v3} {xs = v4} {ys = v5} lt' g' f' l' m' r' s') same e =
      let a = placed_once if_word p p' ts u1 vs v1 g g' e in
      let x2 = fixed_once _ _ u1 u2 v1 v2 f f' (ap condition_of same) a.rest in
      let x3 = placed_once (kind.Mark Less) q q' u2 u3 v2 v3 l l' x2 in
      let x4 = limit_once n n' u3 u4 v3 v4 m m' x3.rest in
      let x5 = fixed_once _ _ u4 u5 v4 v5 r r' refl x4.rest in
      let x6 = block_once parameter other (b + 1) (c + 1) is is' o o' u5 us v5 ws s s' same x5 in
      record { same = λ k. item.If (a.same k) (x3.same k) (x4.same k) (x6.items k); rest = x6.rest }

  block_once : (parameter other : List ℕ) (b c : ℕ) (is js : List FirstItem) (p q : Place) (ts us vs ws : List Token) → Block parameter b is p ts us → Block other c js q vs ws → parameter ≡ other → ts ≡ vs → OneBlock is js p q us ws
  block_once parameter other b c is js p q ts us vs ws (ends d p' g) (ends d' q' h) same e = let t = placed_once (kind.Mark CloseBrace) p q ts us vs ws g h e in record { items = refl; places = t.same; rest = t.rest }
  block_once parameter other b c is js p q ts us vs ws (ends d p' g) (next d' j q' {us = ys} h k) same e = absurd (not_close other c j p vs ys ts us h g (sym e))
  block_once parameter other b c is js p q ts us vs ws (next d i p' {us = xs} g f) (ends d' q' h) same e = absurd (not_close parameter b i q ts xs vs ws g h e)
  block_once parameter other b c is js p q ts us vs ws (next d i {is = is'} p' {us = xs} g f) (next d' j {is = js'} q' {us = ys} h k) same e =
      let a = item_once parameter other b c i j ts xs vs ys g h same e in
      let r = block_once parameter other b c is' js' p q xs us ys ws f k same a.rest in
      record { items = λ n. a.same n ∷ r.items n; places = r.places; rest = r.rest }

pub shader_once : (s t : FirstShader) (ts us vs ws : List Token) → Shader s ts us → Shader t vs ws → ts ≡ vs → s ≡ t
shader_once s t ts us vs ws g h e =
    let a = fixed_once _ _ _ _ _ _ g.opens h.opens refl e in
    let b = lanes_once _ _ _ _ _ _ g.lanes h.lanes a in
    let c = fixed_once _ _ _ _ _ _ g.named h.named refl b.rest in
    let d = declared_once _ _ _ _ _ _ _ _ g.name h.name c in
    let f = fixed_once _ _ _ _ _ _ g.taking h.taking refl d.rest in
    let k = declared_once _ _ _ _ _ _ _ _ g.parameter h.parameter f in
    let l = fixed_once _ _ _ _ _ _ g.typed h.typed refl k.rest in
    let m = block_once s.parameter t.parameter 1 1 s.items t.items s.end t.end _ _ _ _ g.body h.body k.names l in
    λ i. record { size = b.same i; name = d.names i; place = d.places i; parameter = k.names i; items = m.items i; end = m.places i }

-- statements
pub record OneLowering (ss ts : List CoreStatement) (m o : ℕ) : Type 0 where
  pub statements : ss ≡ ts
  pub next : m ≡ o

heads : (i j : FirstItem) (is js : List FirstItem) → i ∷ is ≡ j ∷ js → i ≡ j
heads i j is js e = cc

tails : (i j : FirstItem) (is js : List FirstItem) → i ∷ is ≡ j ∷ js → is ≡ js
tails i j is js e = cc

pub lowers_once : (is js : List FirstItem) (n k : ℕ) (ss ts : List CoreStatement) (m o : ℕ) → Lowers is n ss m → Lowers js k ts o → is ≡ js → n ≡ k → OneLowering ss ts m o
lowers_once is js n k ss ts m o (none a) (none b) e f = record { statements = refl; next = f }
lowers_once is js n k ss ts m o (none a) (one_barrier b p {is = ks} l) e f = let bad : [] ≡ item.Barrier p ∷ ks = e in absurd (cc)
lowers_once is js n k ss ts m o (none a) (one_branch b p q x {inner = inner} {is = ks} l r) e f = let bad : [] ≡ item.If p q x inner ∷ ks = e in absurd (cc)
lowers_once is js n k ss ts m o (one_barrier a p {is = ks} l) (none b) e f = let bad : item.Barrier p ∷ ks ≡ [] = e in absurd (cc)
lowers_once is js n k ss ts m o (one_branch a p q x {inner = inner} {is = ks} l r) (none b) e f = let bad : item.If p q x inner ∷ ks ≡ [] = e in absurd (cc)
lowers_once is js n k ss ts m o (one_barrier a p {is = ks} {ss = xs} l) (one_barrier b p' {is = ls} {ss = ys} l') e f =
    let head : layer.Barrier p ≡ layer.Barrier p' = sym (outs-Barrier p) ∙ ap out-FirstItem (heads _ _ ks ls e) ∙ outs-Barrier p' in
    let place : p ≡ p' = cc in
    let rest = lowers_once ks ls (a + 1) (b + 1) xs ys m o l l' (tails _ _ ks ls e) (ap (λ x. x + 1) f) in
    record { statements = λ i. barrier_of (f i) (place i) ∷ rest.statements i; next = rest.next }
lowers_once is js n k ss ts m o (one_barrier a p {is = ks} l) (one_branch b p' q' x' {inner = inner} {is = ls} l' r') e f =
    let head : layer.Barrier p ≡ layer.If p' q' x' inner = sym (outs-Barrier p) ∙ ap out-FirstItem (heads _ _ ks ls e) ∙ outs-If p' q' x' inner in absurd (cc)
lowers_once is js n k ss ts m o (one_branch a p q x {inner = inner} {is = ks} l r) (one_barrier b p' {is = ls} l') e f =
    let head : layer.If p q x inner ≡ layer.Barrier p' = sym (outs-If p q x inner) ∙ ap out-FirstItem (heads _ _ ks ls e) ∙ outs-Barrier p' in absurd (cc)
lowers_once is js n k ss ts m o (one_branch a p q x {inner = inner} {is = ks} {body = body} {ss = xs} {end = end} l r) (one_branch b p' q' x' {inner = inner'} {is = ls} {body = body'} {ss = ys} {end = end'} l' r') e f =
    let head : layer.If p q x inner ≡ layer.If p' q' x' inner' = sym (outs-If p q x inner) ∙ ap out-FirstItem (heads _ _ ks ls e) ∙ outs-If p' q' x' inner' in
    let place : p ≡ p' = cc in
    let operator : q ≡ q' = cc in
    let limit : x ≡ x' = cc in
    let inners : inner ≡ inner' = cc in
    let first = lowers_once inner inner' (a + 2) (b + 2) body body' end end' l l' inners (ap (λ y. y + 2) f) in
    let rest = lowers_once ks ls end end' xs ys m o r r' (tails _ _ ks ls e) first.next in
    record { statements = λ i. condition (f i) (operator i) (limit i) ∷ (branch_of (f i + 1) (place i) (f i) (first.statements i) ∷ rest.statements i); next = rest.next }
