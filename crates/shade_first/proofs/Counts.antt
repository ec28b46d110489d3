-- How many tokens and statements a text has.
use Rattle.std.proofs.Common.{◌≡◌, refl, sym, ap, subst, ℕ, zero, suc, ◌+◌, ◌<◌, ◌≤◌, Bool, true, false, ◌||◌, cond, eqb, List, [], ◌∷◌, length, take, drop, arith}
use Rattle.std.specs.List.{prefix_len}
use Rattle.std.proofs.lemmas.List.Folds.{length-prefix_len}
use Rattle.shade_base.specs.declared.place.Place.{Place}
use Rattle.shade_first.specs.declared.token.Mark.{Mark}
use Rattle.shade_first.specs.declared.token.Mark.TheVariants.{At, Open, Close, OpenBrace, CloseBrace, Colon, Semicolon, Less}
use Rattle.shade_first.specs.declared.token.Kind.{Kind}
use Rattle.shade_first.specs.declared.token.Kind.TheVariants as kind
use Rattle.shade_first.specs.declared.token.Token.{Token}
use Rattle.shade_first.specs.declared.lex.Front.{Front}
use Rattle.shade_first.specs.declared.lex.Front.TheVariants as front
use Rattle.shade_first.specs.declared.tree.FirstItem.{FirstItem}
use Rattle.shade_first.specs.declared.tree.FirstShader.{FirstShader}
use Rattle.shade_first.specs.Form.{Placed, Fixed, done, more, if_word, barrier_word, Item, Block, barrier, branch, ends, next}
use Rattle.shade_first.specs.Lowering.{count_of, count_all}
use Rattle.shade_first.specs.Tokens.{is_letter, is_digit, goes_on, is_blank, number_size, mark_front, front_of, size_of, Lexes, stops, blank, token}
use Rattle.shade_first.specs.FirstForm.{Spells}
use Rattle.shade_first.proofs.Lowered.{count_barrier, count_branch}

-- a token has a byte
pick : (u : Bool) (m : Mark) (rest : Front) (k : Kind) → (rest ≡ front.Token k → 0 < size_of k) → cond u (front.Token (kind.Mark m)) rest ≡ front.Token k → 0 < size_of k
pick true m rest k f e = let is : kind.Mark m ≡ k = cc in subst (λ (x : Kind). 0 < size_of x) is (omega arith)
pick false m rest k f e = f e

mark_size : (b : ℕ) (k : Kind) → mark_front b ≡ front.Token k → 0 < size_of k
mark_size b k =
    pick (eqb b 64) At _ k (pick (eqb b 40) Open _ k (pick (eqb b 41) Close _ k (pick (eqb b 123) OpenBrace _ k (pick (eqb b 125) CloseBrace _ k (pick (eqb b 58) Colon _ k (pick (eqb b 59) Semicolon _ k (pick (eqb b 60) Less front.Nothing k (λ e. let bad : front.Nothing ≡ front.Token k = e in absurd (cc)))))))))

more_than_none : (u : Bool) (n : ℕ) → 0 < n → 0 < cond u (n + 1) n
more_than_none true n h = omega arith
more_than_none false n h = h

front_size : (text : List ℕ) (k : Kind) → front_of text ≡ front.Token k → 0 < size_of k
front_size [] k e = let bad : front.Nothing ≡ front.Token k = e in absurd (cc)
front_size (b ∷ bs) k e = cases (is_blank b) (is_letter b) (is_digit b) refl refl e
  where
    cases : (u v w : Bool) → v ≡ is_letter b → w ≡ is_digit b → cond u front.Blank (cond v (front.Token (kind.Word (take (prefix_len goes_on (b ∷ bs)) (b ∷ bs)))) (cond w (front.Token (kind.Number (take (number_size (b ∷ bs)) (b ∷ bs)))) (mark_front b))) ≡ front.Token k → 0 < size_of k
    cases true v w letter digit is = let bad : front.Blank ≡ front.Token k = is in absurd (cc)
    cases false true w letter digit is =
        let same : kind.Word (take (prefix_len goes_on (b ∷ bs)) (b ∷ bs)) ≡ k = cc in
        subst (λ (x : Kind). 0 < size_of x) same (omega (arith, length-prefix_len goes_on (b ∷ bs), ap (λ x. cond (x || is_digit b || eqb b 95) (1 + prefix_len goes_on bs) 0) (sym letter)))
    cases false false true letter digit is =
        let same : kind.Number (take (number_size (b ∷ bs)) (b ∷ bs)) ≡ k = cc in
        let digits : prefix_len is_digit (b ∷ bs) ≡ 1 + prefix_len is_digit bs = ap (λ x. cond x (1 + prefix_len is_digit bs) 0) (sym digit) in
        subst (λ (x : Kind). 0 < size_of x) same (taken (number_size (b ∷ bs)) (more_than_none _ (prefix_len is_digit (b ∷ bs)) (omega arith)))
      where
        taken : (m : ℕ) → 0 < m → 0 < length (take m (b ∷ bs))
        taken zero h = absurd (omega arith)
        taken (suc m) h = omega arith
    cases false false false letter digit is = mark_size b k is

lexes_count : (text : List ℕ) (at : ℕ) (ts : List Token) (stop : ℕ) → Lexes text at ts stop → length ts + at ≤ stop
lexes_count text at ts stop (stops k is) = omega arith
lexes_count text at ts stop (blank k is l) = let h : length ts + (k + 1) ≤ stop = lexes_count text (k + 1) ts stop l in omega arith
lexes_count text at ts stop (token k p {ts = us} is l) = let h : length us + (k + size_of p) ≤ stop = lexes_count text (k + size_of p) us stop l in let size : 0 < size_of p = front_size (drop k text) p is in omega arith

-- a phrase has no more statements than tokens
placed_count : (k : Kind) (p : Place) (ts us : List Token) → Placed k p ts us → length ts ≡ suc (length us)
placed_count k p ts us g = ap length g.is

fixed_count : (ks : List Kind) (ts us : List Token) → Fixed ks ts us → length us ≤ length ts
fixed_count ks ts us (done xs) = omega arith
fixed_count ks ts us (more k p {us = vs} g f) = let a = placed_count k p ts vs g in let b = fixed_count _ vs us f in omega arith

mutual
  item_count : (parameter : List ℕ) (braces : ℕ) (i : FirstItem) (ts us : List Token) → Item parameter braces i ts us → count_of i + length us ≤ length ts
  item_count parameter braces i ts us (barrier b p {us = xs} g f) = let a = placed_count barrier_word p ts xs g in let c = fixed_count _ xs us f in omega (arith, count_barrier p)
  item_count parameter braces i ts us (branch b p q n {is = is} e {us = u1} {vs = u2} {ws = u3} {xs = u4} {ys = u5} lt g f l m r s) =
      let a1 = placed_count if_word p ts u1 g in
      let a2 = fixed_count _ u1 u2 f in
      let a3 = placed_count (kind.Mark Less) q u2 u3 l in
      let a4 : length u3 ≡ suc (length u4) = ap length m.is in
      let a5 = fixed_count _ u4 u5 r in
      let a6 = block_count parameter (b + 1) is e u5 us s in
      omega (arith, count_branch p q n is)

  block_count : (parameter : List ℕ) (braces : ℕ) (is : List FirstItem) (e : Place) (ts us : List Token) → Block parameter braces is e ts us → count_all is + suc (length us) ≤ length ts
  block_count parameter braces is e ts us (ends b p g) = let a = placed_count (kind.Mark CloseBrace) e ts us g in omega arith
  block_count parameter braces is e ts us (next b i {is = js} p {us = xs} g f) = let a = item_count parameter braces i ts xs g in let c = block_count parameter braces js e xs us f in omega arith

pub few : (text : List ℕ) (s : FirstShader) → Spells text s → count_all s.items < length text
few text s p =
    let g = p.spelled in
    let a0 = lexes_count text 0 p.tokens (length text) p.lexed in
    let a1 = fixed_count _ p.tokens g.t1 g.opens in
    let a2 : length g.t1 ≡ suc (length g.t2) = ap length g.lanes.is in
    let a3 = fixed_count _ g.t2 g.t3 g.named in
    let a4 : length g.t3 ≡ suc (length g.t4) = ap length g.name.is in
    let a5 = fixed_count _ g.t4 g.t5 g.taking in
    let a6 : length g.t5 ≡ suc (length g.t6) = ap length g.parameter.is in
    let a7 = fixed_count _ g.t6 g.t7 g.typed in
    let a8 = block_count s.parameter 1 s.items s.end g.t7 [] g.body in
    omega arith
