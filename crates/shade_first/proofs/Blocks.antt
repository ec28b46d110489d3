-- Statements and blocks.
use Rattle.std.proofs.Common.{◌≡◌, refl, sym, ap, ◌∙◌, subst, ℕ, ◌+◌, ◌<◌, ◌≤◌, List, [], ◌∷◌, ◌++◌, length, drop, get_or, arith, append_assoc, Some, slice_get}
use Rattle.shade_base.specs.declared.place.Place.{Place}
use Rattle.shade_first.specs.declared.token.Mark.TheVariants.{CloseBrace, Less}
use Rattle.shade_first.specs.declared.token.Kind.{Kind}
use Rattle.shade_first.specs.declared.token.Kind.TheVariants as kind
use Rattle.shade_first.specs.declared.token.Token.{Token}
use Rattle.shade_first.specs.declared.tree.FirstItem.{FirstItem}
use Rattle.shade_first.specs.declared.tree.FirstItem.TheVariants as item
use Rattle.shade_first.specs.Reads.{Near, Reads, Fails}
use Rattle.shade_first.specs.Form.{token_of, Placed, Fixed, Sequence, Limit, if_word, barrier_word, barrier_end, condition_begin, condition_end, Item, Block, Body, barrier, branch, ends, next}
use Rattle.shade_first.proofs.Stages.{After, Ends, Closes, Stage, closes_end, closes_after, near_get, begin, change, phrase, phrase_fails, stuck, finish}
use Rattle.shade_first.proofs.Tokens.{some_place, one_at, placed_closes, placed_reads, placed_fails, limit_closes, sequence_closes}

abbrev first_byte : Kind → ℕ
first_byte (kind.Word w) = get_or w 0 0
first_byte _ = 0

pub words_differ : if_word ≡ barrier_word → ⊥
words_differ e = let bytes : ◌≡◌ {A = ℕ} 105 119 = ap first_byte e in omega (arith, bytes)

pub mark_no_word : (w : List ℕ) → kind.Mark CloseBrace ≡ kind.Word w → ⊥
mark_no_word w e = cc

module _ (tokens : List Token) (at : ℕ) where
  -- the token there has the kind of the phrase that begins there
  near_kind : (k j : Kind) (p q : Place) (ys us : List Token) → slice_get tokens at ≡ Some (token_of k p) → Placed j q ys us → Near ys (drop at tokens) → j ≡ k
  near_kind k j p q ys us is g near = one_at tokens at j k q p (near_get tokens at (token_of j q) us (subst (λ x. Near x (drop at tokens)) g.is near)) is

  near_absent : (k : Kind) (q : Place) (ys us : List Token) → ((p : Place) → slice_get tokens at ≡ Some (token_of k p) → ⊥) → Placed k q ys us → Near ys (drop at tokens) → ⊥
  near_absent k q ys us absent g near = absent q (near_get tokens at (token_of k q) us (subst (λ x. Near x (drop at tokens)) g.is near))

pub body_closes : (parameter : List ℕ) (braces : ℕ) → Closes (Body parameter braces)
body_closes parameter braces = record { tree = ([], some_place); more = token_of (kind.Mark CloseBrace) some_place ∷ []; closed = λ w. ends braces some_place (record { is = refl }) }

module _ (parameter : List ℕ) (braces : ℕ) where
  abbrev BarrierRest : Place → FirstItem → List Token → List Token → Type 0
  BarrierRest p = After (Sequence barrier_end) (λ u. Ends (item.Barrier p))

  abbrev BodyRest : Place → Place → ℕ → FirstItem → List Token → List Token → Type 0
  BodyRest p q n = After (Body parameter (braces + 1)) (λ b. Ends (item.If p q n b.0))

  abbrev LimitRest : Place → Place → ℕ → FirstItem → List Token → List Token → Type 0
  LimitRest p q n = After (Sequence condition_end) (λ u. BodyRest p q n)

  abbrev LessRest : Place → Place → FirstItem → List Token → List Token → Type 0
  LessRest p q = After Limit (LimitRest p q)

  abbrev NameRest : Place → FirstItem → List Token → List Token → Type 0
  NameRest p = After (Placed (kind.Mark Less)) (LessRest p)

  abbrev IfRest : Place → FirstItem → List Token → List Token → Type 0
  IfRest p = After (Sequence (condition_begin parameter)) (λ u. NameRest p)

  barrier_back : (r : FirstItem) (ys w : List Token) → After (Placed barrier_word) BarrierRest r ys w → Item parameter braces r ys w
  barrier_back r ys w a =
      let e = a.rest.rest in
      subst (λ x. Item parameter braces x ys w) (sym e.same) (barrier braces a.part a.phrase (subst (λ x. Fixed barrier_end a.others x) e.left a.rest.phrase))

  branch_back : braces < 127 → (r : FirstItem) (ys w : List Token) → After (Placed if_word) IfRest r ys w → Item parameter braces r ys w
  branch_back lt r ys w a =
      let b = a.rest in
      let c = b.rest in
      let d = c.rest in
      let f = d.rest in
      let g = f.rest in
      let e = g.rest in
      subst (λ x. Item parameter braces x ys w) (sym e.same) (branch braces a.part c.part d.part g.part.1 lt a.phrase b.phrase c.phrase d.phrase f.phrase (subst (λ x. Block parameter (braces + 1) g.part.0 g.part.1 f.others x) e.left g.phrase))

  barrier_closes : Closes (After (Placed barrier_word) BarrierRest)
  barrier_closes = closes_after (Placed barrier_word) BarrierRest (placed_closes barrier_word) (λ p. closes_after (Sequence barrier_end) (λ u. Ends (item.Barrier p)) (sequence_closes barrier_end) (λ u. closes_end (item.Barrier p)))

  item_closes : Closes (Item parameter braces)
  item_closes = record { tree = barrier_closes.tree; more = barrier_closes.more; closed = λ w. barrier_back barrier_closes.tree (barrier_closes.more ++ w) w (barrier_closes.closed w) }

  body_rest_closes : (p q : Place) (n : ℕ) → Closes (BodyRest p q n)
  body_rest_closes p q n = closes_after (Body parameter (braces + 1)) (λ b. Ends (item.If p q n b.0)) (body_closes parameter (braces + 1)) (λ b. closes_end (item.If p q n b.0))

  limit_rest_closes : (p q : Place) (n : ℕ) → Closes (LimitRest p q n)
  limit_rest_closes p q n = closes_after (Sequence condition_end) (λ u. BodyRest p q n) (sequence_closes condition_end) (λ u. body_rest_closes p q n)

  less_rest_closes : (p q : Place) → Closes (LessRest p q)
  less_rest_closes p q = closes_after Limit (LimitRest p q) limit_closes (limit_rest_closes p q)

  name_rest_closes : (p : Place) → Closes (NameRest p)
  name_rest_closes p = closes_after (Placed (kind.Mark Less)) (LessRest p) (placed_closes (kind.Mark Less)) (less_rest_closes p)

  if_rest_closes : (p : Place) → Closes (IfRest p)
  if_rest_closes p = closes_after (Sequence (condition_begin parameter)) (λ u. NameRest p) (sequence_closes (condition_begin parameter)) (λ u. name_rest_closes p)

  module _ (tokens : List Token) (from : ℕ) (h : from ≤ length tokens) where
    -- a barrier stands there
    module _ (p : Place) (is : slice_get tokens from ≡ Some (token_of barrier_word p)) where
      barrier_forth : (r : FirstItem) (ys w : List Token) → Item parameter braces r ys w → Near ys (drop from tokens) → After (Placed barrier_word) BarrierRest r ys w
      barrier_forth r ys w (barrier b q {us = us} g f) near = record { part = q; others = us; phrase = g; rest = record { part = tt; others = w; phrase = f; rest = record { same = refl; left = refl } } }
      barrier_forth r ys w (branch b q o n e {us = us} lt g f l m k s) near = absurd (words_differ (near_kind tokens from barrier_word if_word p q ys us is g near))

      as_barrier : Stage (Item parameter braces) tokens from (from + 1) (BarrierRest p)
      as_barrier =
          phrase (Item parameter braces) tokens from (Placed barrier_word) BarrierRest from (from + 1) p
          (change (Item parameter braces) tokens from from (Item parameter braces) (After (Placed barrier_word) BarrierRest) barrier_forth barrier_back (begin (Item parameter braces) tokens from h))
          (placed_reads tokens from barrier_word p is)

      pub barrier_fails : (to : ℕ) → Fails (Sequence barrier_end) tokens (from + 1) to → Fails (Item parameter braces) tokens from to
      barrier_fails to f = phrase_fails (Item parameter braces) tokens from (Sequence barrier_end) (λ u. Ends (item.Barrier p)) (from + 1) to (λ u. closes_end (item.Barrier p)) as_barrier f

      pub barrier_reads : (to : ℕ) → Reads (Sequence barrier_end) tokens (from + 1) tt to → Reads (Item parameter braces) tokens from (item.Barrier p) to
      barrier_reads to r = finish (Item parameter braces) tokens from to (item.Barrier p) (item.Barrier p) refl (phrase (Item parameter braces) tokens from (Sequence barrier_end) (λ u. Ends (item.Barrier p)) (from + 1) to tt as_barrier r)

    module _ (absent : (p : Place) → slice_get tokens from ≡ Some (token_of barrier_word p) → ⊥) where
      -- no barrier, and too many braces
      pub deep_fails : 127 ≤ braces → Fails (Item parameter braces) tokens from from
      deep_fails deep = stuck (Item parameter braces) tokens from from (Item parameter braces) item_closes never (begin (Item parameter braces) tokens from h)
        where
          never : (r : FirstItem) (ys w : List Token) → Item parameter braces r ys w → Near ys (drop from tokens) → ⊥
          never r ys w (barrier b q {us = us} g f) near = near_absent tokens from barrier_word q ys us absent g near
          never r ys w (branch b q o n e lt g f l m k s) near = omega arith

      module _ (shallow : braces < 127) where
        branch_forth : (r : FirstItem) (ys w : List Token) → Item parameter braces r ys w → Near ys (drop from tokens) → After (Placed if_word) IfRest r ys w
        branch_forth r ys w (barrier b q {us = us} g f) near = absurd (near_absent tokens from barrier_word q ys us absent g near)
        branch_forth r ys w (branch b p q n {is = is} e {us = us} {vs = vs} {ws = ws} {xs = xs} {ys = zs} lt g f l m k s) near =
            record { part = p; others = us; phrase = g; rest = record { part = tt; others = vs; phrase = f; rest = record { part = q; others = ws; phrase = l; rest = record { part = n; others = xs; phrase = m; rest = record { part = tt; others = zs; phrase = k; rest = record { part = (is, e); others = w; phrase = s; rest = record { same = refl; left = refl } } } } } } }

        as_branch : Stage (Item parameter braces) tokens from from (After (Placed if_word) IfRest)
        as_branch = change (Item parameter braces) tokens from from (Item parameter braces) (After (Placed if_word) IfRest) branch_forth (branch_back shallow) (begin (Item parameter braces) tokens from h)

        pub if_fails : ((p : Place) → slice_get tokens from ≡ Some (token_of if_word p) → ⊥) → Fails (Item parameter braces) tokens from from
        if_fails no_if = phrase_fails (Item parameter braces) tokens from (Placed if_word) IfRest from from if_rest_closes as_branch (placed_fails tokens from if_word h no_if)

        module _ (p : Place) (is : slice_get tokens from ≡ Some (token_of if_word p)) where
          after_if : Stage (Item parameter braces) tokens from (from + 1) (IfRest p)
          after_if = phrase (Item parameter braces) tokens from (Placed if_word) IfRest from (from + 1) p as_branch (placed_reads tokens from if_word p is)

          pub name_fails : (to : ℕ) → Fails (Sequence (condition_begin parameter)) tokens (from + 1) to → Fails (Item parameter braces) tokens from to
          name_fails to f = phrase_fails (Item parameter braces) tokens from (Sequence (condition_begin parameter)) (λ u. NameRest p) (from + 1) to (λ u. name_rest_closes p) after_if f

          module _ (a : ℕ) (ra : Reads (Sequence (condition_begin parameter)) tokens (from + 1) tt a) where
            after_name : Stage (Item parameter braces) tokens from a (NameRest p)
            after_name = phrase (Item parameter braces) tokens from (Sequence (condition_begin parameter)) (λ u. NameRest p) (from + 1) a tt after_if ra

            pub less_fails : (to : ℕ) → Fails (Placed (kind.Mark Less)) tokens a to → Fails (Item parameter braces) tokens from to
            less_fails to f = phrase_fails (Item parameter braces) tokens from (Placed (kind.Mark Less)) (LessRest p) a to (less_rest_closes p) after_name f

            module _ (q : Place) (b : ℕ) (rb : Reads (Placed (kind.Mark Less)) tokens a q b) where
              after_less : Stage (Item parameter braces) tokens from b (LessRest p q)
              after_less = phrase (Item parameter braces) tokens from (Placed (kind.Mark Less)) (LessRest p) a b q after_name rb

              pub limit_fails : (to : ℕ) → Fails Limit tokens b to → Fails (Item parameter braces) tokens from to
              limit_fails to f = phrase_fails (Item parameter braces) tokens from Limit (LimitRest p q) b to (limit_rest_closes p q) after_less f

              module _ (n c : ℕ) (rc : Reads Limit tokens b n c) where
                after_limit : Stage (Item parameter braces) tokens from c (LimitRest p q n)
                after_limit = phrase (Item parameter braces) tokens from Limit (LimitRest p q) b c n after_less rc

                pub end_fails : (to : ℕ) → Fails (Sequence condition_end) tokens c to → Fails (Item parameter braces) tokens from to
                end_fails to f = phrase_fails (Item parameter braces) tokens from (Sequence condition_end) (λ u. BodyRest p q n) c to (λ u. body_rest_closes p q n) after_limit f

                module _ (d : ℕ) (rd : Reads (Sequence condition_end) tokens c tt d) where
                  after_end : Stage (Item parameter braces) tokens from d (BodyRest p q n)
                  after_end = phrase (Item parameter braces) tokens from (Sequence condition_end) (λ u. BodyRest p q n) c d tt after_limit rd

                  pub body_fails : (to : ℕ) → Fails (Body parameter (braces + 1)) tokens d to → Fails (Item parameter braces) tokens from to
                  body_fails to f = phrase_fails (Item parameter braces) tokens from (Body parameter (braces + 1)) (λ r. Ends (item.If p q n r.0)) d to (λ r. closes_end (item.If p q n r.0)) after_end f

                  pub branch_reads : (is : List FirstItem) (e : Place) (to : ℕ) → Reads (Body parameter (braces + 1)) tokens d (is, e) to → Reads (Item parameter braces) tokens from (item.If p q n is) to
                  branch_reads is e to r = finish (Item parameter braces) tokens from to (item.If p q n is) (item.If p q n is) refl (phrase (Item parameter braces) tokens from (Body parameter (braces + 1)) (λ r. Ends (item.If p q n r.0)) d to (is, e) after_end r)

  -- what a block has still to spell behind some of its statements
  pub record Remaining (items : List FirstItem) (r : List FirstItem × Place) (ys w : List Token) : Type 0 where
    pub more : List FirstItem
    pub split : r.0 ≡ items ++ more
    pub rest : Block parameter braces more r.1 ys w

  module _ (tokens : List Token) (from : ℕ) where
    pub block_begin : (items : List FirstItem) → items ≡ [] → from ≤ length tokens → Stage (Body parameter braces) tokens from from (Remaining items)
    block_begin items none h =
        change (Body parameter braces) tokens from from (Body parameter braces) (Remaining items)
        (λ r ys w g near. record { more = r.0; split = ap (λ x. x ++ r.0) (sym none); rest = g })
        (λ r ys w a. subst (λ x. Block parameter braces x r.1 ys w) (sym (a.split ∙ ap (λ x. x ++ a.more) none)) a.rest)
        (begin (Body parameter braces) tokens from h)

    module _ (at : ℕ) (items : List FirstItem) (s : Stage (Body parameter braces) tokens from at (Remaining items)) where
      pub block_close : (p : Place) → slice_get tokens at ≡ Some (token_of (kind.Mark CloseBrace) p) → Reads (Body parameter braces) tokens from (items, p) (at + 1)
      block_close p is =
          finish (Body parameter braces) tokens from (at + 1) (items, p) (items, p) refl
          (phrase (Body parameter braces) tokens from (Placed (kind.Mark CloseBrace)) (λ q. Ends (items, q)) at (at + 1) p
          (change (Body parameter braces) tokens from at (Remaining items) (After (Placed (kind.Mark CloseBrace)) (λ q. Ends (items, q))) (λ r ys w a near. forth r.0 r.1 ys w a.more a.rest a.split near) back s)
          (placed_reads tokens at (kind.Mark CloseBrace) p is))
        where
          pair : (xs : List FirstItem) (q : Place) → xs ≡ items → ◌≡◌ {A = List FirstItem × Place} (xs, q) (items, q)
          pair xs q e = ap (λ (x : List FirstItem). let r : List FirstItem × Place = (x, q) in r) e

          nil : (us : List FirstItem) → us ++ [] ≡ us
          nil [] = refl
          nil (u ∷ us) = ap (λ vs. u ∷ vs) (nil us)

          not_item : (i : FirstItem) (ys us : List Token) → Item parameter braces i ys us → Near ys (drop at tokens) → ⊥
          not_item i ys us (barrier b q {us = vs} g f) near = mark_no_word _ (sym (near_kind tokens at (kind.Mark CloseBrace) barrier_word p q ys vs is g near))
          not_item i ys us (branch b q o n e {us = vs} lt g f l m k t) near = mark_no_word _ (sym (near_kind tokens at (kind.Mark CloseBrace) if_word p q ys vs is g near))

          forth : (xs : List FirstItem) (e : Place) (ys w : List Token) (more : List FirstItem) → Block parameter braces more e ys w → xs ≡ items ++ more → Near ys (drop at tokens) → After {R = List FirstItem × Place} (Placed (kind.Mark CloseBrace)) (λ q. Ends (items, q)) (xs, e) ys w
          forth xs e ys w more (ends b q g) split near = record { part = e; others = w; phrase = g; rest = record { same = pair xs e (split ∙ nil items); left = refl } }
          forth xs e ys w more (next b i q {us = us} g f) split near = absurd (not_item i ys us g near)

          back : (r : List FirstItem × Place) (ys w : List Token) → After (Placed (kind.Mark CloseBrace)) (λ q. Ends (items, q)) r ys w → Remaining items r ys w
          back r ys w a =
              let e = a.rest in
              record {
                more = [];
                split = ap (λ (x : List FirstItem × Place). x.0) e.same ∙ sym (nil items);
                rest = ends braces r.1 (subst (λ x. Placed (kind.Mark CloseBrace) x ys w) (sym (ap (λ (x : List FirstItem × Place). x.1) e.same)) (subst (λ x. Placed (kind.Mark CloseBrace) a.part ys x) e.left a.phrase));
              }

      module _ (absent : (p : Place) → slice_get tokens at ≡ Some (token_of (kind.Mark CloseBrace) p) → ⊥) where
        an_item : Stage (Body parameter braces) tokens from at (After (Item parameter braces) (λ i. Remaining (items ++ i ∷ [])))
        an_item = change (Body parameter braces) tokens from at (Remaining items) (After (Item parameter braces) (λ i. Remaining (items ++ i ∷ []))) (λ r ys w a near. forth r.0 r.1 ys w a.more a.rest a.split near) back s
          where
            forth : (xs : List FirstItem) (e : Place) (ys w : List Token) (more : List FirstItem) → Block parameter braces more e ys w → xs ≡ items ++ more → Near ys (drop at tokens) → After {R = List FirstItem × Place} (Item parameter braces) (λ i. Remaining (items ++ i ∷ [])) (xs, e) ys w
            forth xs e ys w more (ends b q g) split near = absurd (near_absent tokens at (kind.Mark CloseBrace) e ys w absent g near)
            forth xs e ys w more (next b i {is = is} q {us = us} g f) split near = record { part = i; others = us; phrase = g; rest = record { more = is; split = split ∙ sym (append_assoc items (i ∷ []) is); rest = f } }

            back : (r : List FirstItem × Place) (ys w : List Token) → After (Item parameter braces) (λ i. Remaining (items ++ i ∷ [])) r ys w → Remaining items r ys w
            back r ys w a = record { more = a.part ∷ a.rest.more; split = a.rest.split ∙ append_assoc items (a.part ∷ []) a.rest.more; rest = next braces a.part r.1 a.phrase a.rest.rest }

        remaining_closes : (xs : List FirstItem) → Closes (Remaining xs)
        remaining_closes xs = record { tree = (xs ++ [], some_place); more = token_of (kind.Mark CloseBrace) some_place ∷ []; closed = λ w. record { more = []; split = refl; rest = ends braces some_place (record { is = refl }) } }

        pub item_fails : (to : ℕ) → Fails (Item parameter braces) tokens at to → Fails (Body parameter braces) tokens from to
        item_fails to f = phrase_fails (Body parameter braces) tokens from (Item parameter braces) (λ i. Remaining (items ++ i ∷ [])) at to (λ i. remaining_closes (items ++ i ∷ [])) an_item f

        pub item_more : (i : FirstItem) (more : List FirstItem) (to : ℕ) → more ≡ items ++ i ∷ [] → Reads (Item parameter braces) tokens at i to → Stage (Body parameter braces) tokens from to (Remaining more)
        item_more i more to pushed r = subst (λ xs. Stage (Body parameter braces) tokens from to (Remaining xs)) (sym pushed) (phrase (Body parameter braces) tokens from (Item parameter braces) (λ i. Remaining (items ++ i ∷ [])) at to i an_item r)
