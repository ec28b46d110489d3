-- Tokens of the same kinds spell the same form, whatever their places; and its tokens can be printed.
use Rattle.std.proofs.Common.{◌≡◌, ap, ◌∙◌, ℕ, ◌+◌, List, [], ◌∷◌, ◌++◌, codes}
use Rattle.std.specs.Fmt.{decimal}
use Rattle.shade_base.specs.declared.place.Place.{Place}
use Rattle.shade_first.specs.declared.token.Mark.TheVariants.{CloseBrace, Less}
use Rattle.shade_first.specs.declared.token.Kind.{Kind}
use Rattle.shade_first.specs.declared.token.Kind.TheVariants as kind
use Rattle.shade_first.specs.declared.token.Token.{Token}
use Rattle.shade_first.specs.declared.tree.FirstItem.{FirstItem}
use Rattle.shade_first.specs.declared.tree.FirstItem.TheVariants as item
use Rattle.shade_first.specs.declared.tree.FirstShader.{FirstShader}
use Rattle.shade_first.specs.Form.{token_of, Placed, Fixed, done, more, Limit, if_word, barrier_word, barrier_end, condition_begin, condition_end, opening, before_name, before_parameter, before_body, Item, Block, barrier, branch, ends, next, Shader}
use Rattle.shade_first.specs.Continuations.{kinds}

-- a phrase of tokens of the same kinds, and tokens of the same kinds behind it
record Again {R : Type 0} (G : R → List Token → List Token → Type 0) (us rest : List Token) : Type 0 where
  tree : R
  left : List Token
  phrase : G tree us left
  same : kinds left ≡ kinds rest

-- one token of the same kind
record First (k : Kind) (us rest : List Token) : Type 0 where
  place : Place
  left : List Token
  is : us ≡ token_of k place ∷ left
  same : kinds left ≡ kinds rest

first_again : (k : Kind) (p : Place) (ts us rest : List Token) → ts ≡ token_of k p ∷ rest → kinds us ≡ kinds ts → First k us rest
first_again k p ts [] rest is e = let bad : [] ≡ k ∷ kinds rest = e ∙ ap kinds is in absurd (cc)
first_again k p ts (u ∷ us) rest is e =
    let both : u.kind ∷ kinds us ≡ k ∷ kinds rest = e ∙ ap kinds is in
    let head : u.kind ≡ k = cc in
    let tail : kinds us ≡ kinds rest = cc in
    record { place = u.place; left = us; is = (let same : u ≡ token_of k u.place = λ i. token_of (head i) u.place in ap (λ x. x ∷ us) same); same = tail }

placed_again : (k : Kind) (p : Place) (ts us rest : List Token) → Placed k p ts rest → kinds us ≡ kinds ts → Again (Placed k) us rest
placed_again k p ts us rest g e = let f = first_again k p ts us rest g.is e in record { tree = f.place; left = f.left; phrase = record { is = f.is }; same = f.same }

record FixedAgain (ks : List Kind) (us rest : List Token) : Type 0 where
  left : List Token
  phrase : Fixed ks us left
  same : kinds left ≡ kinds rest

fixed_again : (ks : List Kind) (ts us rest : List Token) → Fixed ks ts rest → kinds us ≡ kinds ts → FixedAgain ks us rest
fixed_again ks ts us rest (done xs) e = record { left = us; phrase = done us; same = e }
fixed_again ks ts us rest (more k p {us = vs} g f) e =
    let a = placed_again k p ts us vs g e in
    let b = fixed_again _ vs a.left rest f a.same in
    record { left = b.left; phrase = more k a.tree a.phrase b.phrase; same = b.same }

limit_again : (n : ℕ) (ts us rest : List Token) → Limit n ts rest → kinds us ≡ kinds ts → First (kind.Number (decimal n ++ codes "u")) us rest
limit_again n ts us rest g e = first_again (kind.Number (decimal n ++ codes "u")) g.place ts us rest g.is e

record BlockAgain (parameter : List ℕ) (braces : ℕ) (us rest : List Token) : Type 0 where
  items : List FirstItem
  end : Place
  left : List Token
  phrase : Block parameter braces items end us left
  same : kinds left ≡ kinds rest

mutual
  item_again : (parameter : List ℕ) (braces : ℕ) (i : FirstItem) (ts us rest : List Token) → Item parameter braces i ts rest → kinds us ≡ kinds ts → Again (Item parameter braces) us rest
  item_again parameter braces i ts us rest (barrier b p {us = vs} g f) e =
      let a = placed_again barrier_word p ts us vs g e in
      let c = fixed_again barrier_end vs a.left rest f a.same in
      record { tree = item.Barrier a.tree; left = c.left; phrase = barrier b a.tree a.phrase c.phrase; same = c.same }
  item_again parameter braces i ts us rest (branch b p q n {is = is} o {us = u1} {vs = u2} {ws = u3} {xs = u4} {ys = u5} lt g f l m r s) e =
      let a = placed_again if_word p ts us u1 g e in
      let c = fixed_again (condition_begin parameter) u1 a.left u2 f a.same in
      let d = placed_again (kind.Mark Less) q u2 c.left u3 l c.same in
      let h = limit_again n u3 d.left u4 m d.same in
      let k = fixed_again condition_end u4 h.left u5 r h.same in
      let z = block_again parameter (b + 1) is o u5 k.left rest s k.same in
      record { tree = item.If a.tree d.tree n z.items; left = z.left; phrase = branch b a.tree d.tree n {is = z.items} z.end {rest = z.left} lt a.phrase c.phrase d.phrase (record { place = h.place; is = h.is; most = m.most }) k.phrase z.phrase; same = z.same }

  block_again : (parameter : List ℕ) (braces : ℕ) (is : List FirstItem) (e : Place) (ts us rest : List Token) → Block parameter braces is e ts rest → kinds us ≡ kinds ts → BlockAgain parameter braces us rest
  block_again parameter braces is e ts us rest (ends b p g) same = let a = placed_again (kind.Mark CloseBrace) e ts us rest g same in record { items = []; end = a.tree; left = a.left; phrase = ends b a.tree a.phrase; same = a.same }
  block_again parameter braces is e ts us rest (next b i {is = js} p {us = vs} g f) same =
      let a = item_again parameter b i ts us vs g same in
      let c = block_again parameter b js e vs a.left rest f a.same in
      record { items = a.tree ∷ c.items; end = c.end; left = c.left; phrase = next b a.tree c.end a.phrase c.phrase; same = c.same }

pub record ShaderAgain (us rest : List Token) : Type 0 where
  pub shader : FirstShader
  pub left : List Token
  pub phrase : Shader shader us left
  pub same : kinds left ≡ kinds rest

pub shader_again : (s : FirstShader) (ts us rest : List Token) → Shader s ts rest → kinds us ≡ kinds ts → ShaderAgain us rest
shader_again s ts us rest g e =
    let a = fixed_again opening ts us g.t1 g.opens e in
    let b = first_again (kind.Number (decimal s.size)) g.lanes.place g.t1 a.left g.t2 g.lanes.is a.same in
    let c = fixed_again before_name g.t2 b.left g.t3 g.named b.same in
    let d = first_again (kind.Word s.name) s.place g.t3 c.left g.t4 g.name.is c.same in
    let f = fixed_again before_parameter g.t4 d.left g.t5 g.taking d.same in
    let h = first_again (kind.Word s.parameter) g.q g.t5 f.left g.t6 g.parameter.is f.same in
    let k = fixed_again before_body g.t6 h.left g.t7 g.typed h.same in
    let z = block_again s.parameter 1 s.items s.end g.t7 k.left rest g.body k.same in
    record {
      shader = record { size = s.size; name = s.name; place = d.place; parameter = s.parameter; items = z.items; end = z.end };
      left = z.left;
      phrase = record {
        t1 = a.left;
        t2 = b.left;
        t3 = c.left;
        t4 = d.left;
        t5 = f.left;
        t6 = h.left;
        t7 = k.left;
        q = h.place;
        opens = a.phrase;
        lanes = record { place = b.place; is = b.is; least = g.lanes.least; most = g.lanes.most };
        named = c.phrase;
        name = record { is = d.is; word = g.name.word; free = g.name.free };
        taking = f.phrase;
        parameter = record { is = h.is; word = g.parameter.word; free = g.parameter.free };
        typed = k.phrase;
        body = z.phrase;
      };
      same = z.same;
    }
