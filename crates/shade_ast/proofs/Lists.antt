-- Lists with commas, and the token that closes them.
use Rattle.std.proofs.Common.{◌≡◌, refl, sym, ap, ◌∙◌, subst, ℕ, ◌+◌, ◌<◌, ◌≤◌, ◌⊎◌, inl, inr, Bool, true, false, List, [], ◌∷◌, ◌++◌, length, drop, append_assoc, Some, slice_get}
use Rattle.shade_base.specs.declared.place.Place.{Place}
use Rattle.shade_ast.specs.declared.lexeme.Sign.TheVariants as sign
use Rattle.shade_ast.specs.Lexemes.{Lexeme, Mark}
use Rattle.shade_ast.specs.Repeats.{Listed, last, last_comma, comma, MaybeListed, nothing, something}
use Rattle.shade_ast.specs.Reads.{Near, Reads, Fails, rank, rank_of}
use Rattle.shade_ast.proofs.Stages.{Stage, Closes, near_get, begin, consume, change, finish_ends, phrase, phrase_fails, stuck}
use Rattle.shade_ast.specs.Chains.{After, Ends, Closed}
use Rattle.shade_ast.proofs.Placed.{some_place}

module _ {R : Type 0} (G : R → List Lexeme → List Lexeme → Type 0) (closer : Place → Lexeme) where
  -- what follows an item, where these stand so far
  pub data Rest : List R → List R × Bool → List Lexeme → List Lexeme → Type 0 where
    close : {rs : List R} (p : Place) {w : List Lexeme} → Rest rs (rs, false) (closer p ∷ w) w
    comma_close : {rs : List R} (p q : Place) {w : List Lexeme} → Rest rs (rs, true) (Mark sign.Comma p ∷ (closer q ∷ w)) w
    item : {rs : List R} {s : List R × Bool} {r : R} (p : Place) {us zs w : List Lexeme} → G r us zs → Rest (rs ++ r ∷ []) s zs w → Rest rs s (Mark sign.Comma p ∷ us) w

  -- an item and what follows it
  abbrev pub Item : List R → List R × Bool → List Lexeme → List Lexeme → Type 0
  Item rs = After G (λ r. Rest (rs ++ r ∷ []))

  -- the token that closes a list of these
  pub record Close (rs : List R) (trailing : Bool) (s : List R × Bool) (ys w : List Lexeme) : Type 0 where
    pub place : Place
    pub split : ys ≡ closer place ∷ w
    pub same : s ≡ (rs, trailing)

  -- the closing token or an item
  abbrev pub Choice : List R → Bool → List R × Bool → List Lexeme → List Lexeme → Type 0
  Choice rs trailing s ys w = Close rs trailing s ys w ⊎ Item rs s ys w

  spine : (pre : List R) (s : List R × Bool) (ts us : List Lexeme) → Listed G s ts us → (p : Place) (w : List Lexeme) → us ≡ closer p ∷ w → Item pre (pre ++ s.0, s.1) ts w
  spine pre s ts us (last {r = r} g) p w e = record { part = r; others = us; phrase = g; rest = subst (λ x. Rest (pre ++ r ∷ []) (pre ++ r ∷ [], false) x w) (sym e) (close p) }
  spine pre s ts us (last_comma {r = r} q g) p w e = record { part = r; others = Mark sign.Comma q ∷ us; phrase = g; rest = subst (λ x. Rest (pre ++ r ∷ []) (pre ++ r ∷ [], true) (Mark sign.Comma q ∷ x) w) (sym e) (comma_close q p) }
  spine pre s ts us (comma {r = r} {rs = rs} {trailing = trailing} q {us = vs} g more) p w e =
      let i : Item (pre ++ r ∷ []) ((pre ++ r ∷ []) ++ rs, trailing) vs w = spine (pre ++ r ∷ []) (rs, trailing) vs us more p w e in
      record { part = r; others = Mark sign.Comma q ∷ vs; phrase = g; rest = item q i.phrase (subst (λ x. Rest ((pre ++ r ∷ []) ++ i.part ∷ []) (x, trailing) i.others w) (append_assoc pre (r ∷ []) rs) i.rest) }

  record Back (pre : List R) (s : List R × Bool) (ts w : List Lexeme) : Type 0 where
    rs : List R
    trailing : Bool
    place : Place
    phrase : Listed G (rs, trailing) ts (closer place ∷ w)
    same : s ≡ (pre ++ rs, trailing)

  back : (pre : List R) (r : R) (us : List Lexeme) → (rs : List R) → rs ≡ pre ++ r ∷ [] → (s : List R × Bool) (ys w : List Lexeme) → G r us ys → Rest rs s ys w → Back pre s us w
  back pre r us rs is s ys w g (close p) = record { rs = r ∷ []; trailing = false; place = p; phrase = last g; same = ap (λ x. (x, false)) is }
  back pre r us rs is s ys w g (comma_close p q) = record { rs = r ∷ []; trailing = true; place = q; phrase = last_comma p g; same = ap (λ x. (x, true)) is }
  back pre r us rs is s ys w g (item {r = q} p {us = vs} {zs = zs} h x) =
      let b : Back rs s vs w = back rs q vs (rs ++ q ∷ []) refl s zs w h x in
      record { rs = r ∷ b.rs; trailing = b.trailing; place = b.place; phrase = comma p g b.phrase; same = b.same ∙ ap (λ v. (v, b.trailing)) (ap (λ v. v ++ b.rs) is ∙ append_assoc pre (r ∷ []) b.rs) }

  item_closed : (s : List R × Bool) (ts w : List Lexeme) → Item [] s ts w → Closed (Listed G) closer s ts w
  item_closed s ts w i =
      let b : Back [] s ts w = back [] i.part ts (i.part ∷ []) refl s i.others w i.phrase i.rest in
      record { place = b.place; list = subst (λ x. Listed G x ts (closer b.place ∷ w)) (sym b.same) b.phrase }

  rest_closes : (rs : List R) → Closes (Rest rs)
  rest_closes rs = record { tree = (rs, false); more = closer some_place ∷ []; closed = λ w. close some_place }

  close_closes : (rs : List R) (trailing : Bool) → Closes (Close rs trailing)
  close_closes rs trailing = record { tree = (rs, trailing); more = closer some_place ∷ []; closed = λ w. record { place = some_place; split = refl; same = refl } }

  rest_cases : (rs : List R) (s : List R × Bool) (ys w : List Lexeme) → Rest rs s ys w → Close rs false s ys w ⊎ ((p : Place) × (us : List Lexeme) × (ys ≡ Mark sign.Comma p ∷ us) × Choice rs true s us w)
  rest_cases rs s ys w (close p) = inl (record { place = p; split = refl; same = refl })
  rest_cases rs s ys w (comma_close p q) = inr (p, closer q ∷ w, refl, inl (record { place = q; split = refl; same = refl }))
  rest_cases rs s ys w (item {r = r} p {us = us} {zs = zs} g x) = inr (p, us, refl, inr (record { part = r; others = zs; phrase = g; rest = x }))

  choice_back : (rs : List R) (p : Place) (s : List R × Bool) (us w : List Lexeme) → Choice rs true s us w → Rest rs s (Mark sign.Comma p ∷ us) w
  choice_back rs p s us w c =
      elim c [
        | inl e ↦ subst (λ x. Rest rs x (Mark sign.Comma p ∷ us) w) (sym e.same) (subst (λ x. Rest rs (rs, true) (Mark sign.Comma p ∷ x) w) (sym e.split) (comma_close p e.place))
        | inr i ↦ item p i.phrase i.rest
      ]

  -- an item has a rank, no comma and no closing token goes on with it, and none begins with the closing token
  module _ (m : ℕ) (comma_stops : m < 10) (closer_stops : (p : Place) → m < rank_of (closer p)) (apart : (p q : Place) → Mark sign.Comma p ≡ closer q → ⊥) (no_item : (r : R) (p : Place) (ts w : List Lexeme) → G r (closer p ∷ ts) w → ⊥) where
    rest_stops : (n : ℕ) (rs : List R) (r : R) (s : List R × Bool) (zs w : List Lexeme) → n < rank w → Rest (rs ++ r ∷ []) s zs w → m < rank zs
    rest_stops n rs r s zs w stop c =
        elim (rest_cases (rs ++ r ∷ []) s zs w c) [
          | inl e ↦ subst (λ x. m < rank x) (sym e.split) (closer_stops e.place)
          | inr e ↦ subst (λ x. m < rank x) (sym e.2) comma_stops
        ]

    module _ (H : List R × Bool → List Lexeme → List Lexeme → Type 0) (n : ℕ) (tokens : List Lexeme) (from : ℕ) where
      module _ (at : ℕ) (rs : List R) (trailing : Bool) (s : Stage H n tokens from at (Choice rs trailing)) where
        -- the closing token stands where an item may begin
        pub choose_close : (p : Place) (e : List R × Bool) → e ≡ (rs, trailing) → slice_get tokens at ≡ Some (closer p) → Reads H n tokens from e (at + 1)
        choose_close p e same is =
            finish_ends H n tokens from (at + 1) e (rs, trailing) same
            (change H n tokens from (at + 1) (λ q zs w. Choice rs trailing q (closer p ∷ zs) w) (Ends (rs, trailing))
            (λ q zs w stop near c.
            elim c [
              | inl e ↦ record { same = e.same; left = (let f : closer p ∷ zs ≡ closer e.place ∷ w = e.split in cc) }
              | inr i ↦ absurd (no_item i.part p zs i.others i.phrase)
            ])
            (λ q zs w e. inl (record { place = p; split = ap (λ x. closer p ∷ x) e.left; same = e.same }))
            (consume H n tokens from at (Choice rs trailing) (closer p) is s))

        pub choose_item : ((p : Place) → slice_get tokens at ≡ Some (closer p) → ⊥) → Stage H n tokens from at (Item rs)
        choose_item isnt =
            change H n tokens from at (Choice rs trailing) (Item rs)
            (λ q ys w stop near c.
            elim c [
              | inl e ↦ absurd (isnt e.place (near_get tokens at (closer e.place) w (subst (λ x. Near x (drop at tokens)) e.split near)))
              | inr i ↦ i
            ])
            (λ q ys w i. inr i)
            s

      module _ (at : ℕ) (rs : List R) (s : Stage H n tokens from at (Item rs)) where
        pub item_fails : (to : ℕ) → Fails G m tokens at to → Fails H n tokens from to
        item_fails to f = phrase_fails H n tokens from G m (λ r. Rest (rs ++ r ∷ [])) (rest_stops n rs) at to (λ r. rest_closes (rs ++ r ∷ [])) s f

        module _ (r : R) (fs : List R) (to : ℕ) (p : Reads G m tokens at r to) (is : fs ≡ rs ++ r ∷ []) where
          rest : Stage H n tokens from to (Rest fs)
          rest = subst (λ x. Stage H n tokens from to (Rest x)) (sym is) (phrase H n tokens from G m (λ r. Rest (rs ++ r ∷ [])) (rest_stops n rs) at to r s p)

          -- the closing token stands behind the item
          pub item_close : (q : Place) → slice_get tokens to ≡ Some (closer q) → Reads H n tokens from (fs, false) (to + 1)
          item_close q closes =
              finish_ends H n tokens from (to + 1) (fs, false) (fs, false) refl
              (change H n tokens from (to + 1) (λ o zs w. Rest fs o (closer q ∷ zs) w) (Ends (fs, false))
              (λ o zs w stop near c.
              elim (rest_cases fs o (closer q ∷ zs) w c) [
                | inl e ↦ record { same = e.same; left = (let f : closer q ∷ zs ≡ closer e.place ∷ w = e.split in cc) }
                | inr e ↦ absurd (apart e.0 q (let f : closer q ∷ zs ≡ Mark sign.Comma e.0 ∷ e.1 = e.2 in cc))
              ])
              (λ o zs w e. subst (λ x. Rest fs x (closer q ∷ zs) w) (sym e.same) (subst (λ x. Rest fs (fs, false) (closer q ∷ x) w) (sym e.left) (close q)))
              (consume H n tokens from to (Rest fs) (closer q) closes rest))

          -- neither it nor a comma does
          pub item_stuck : ((q : Place) → slice_get tokens to ≡ Some (closer q) → ⊥) → ((q : Place) → slice_get tokens to ≡ Some (Mark sign.Comma q) → ⊥) → Fails H n tokens from to
          item_stuck no_close no_comma =
              stuck H n tokens from to (Rest fs) (rest_closes fs)
              (λ o ys w stop c near.
              elim (rest_cases fs o ys w c) [
                | inl e ↦ no_close e.place (near_get tokens to (closer e.place) w (subst (λ x. Near x (drop to tokens)) e.split near))
                | inr e ↦ no_comma e.0 (near_get tokens to (Mark sign.Comma e.0) e.1 (subst (λ x. Near x (drop to tokens)) e.2 near))
              ])
              rest

          -- a comma does
          pub item_comma : (q : Place) → slice_get tokens to ≡ Some (Mark sign.Comma q) → Stage H n tokens from (to + 1) (Choice fs true)
          item_comma q commas =
              change H n tokens from (to + 1) (λ o zs w. Rest fs o (Mark sign.Comma q ∷ zs) w) (Choice fs true)
              (λ o zs w stop near c.
              elim (rest_cases fs o (Mark sign.Comma q ∷ zs) w c) [
                | inl e ↦ absurd (apart q e.place (let f : Mark sign.Comma q ∷ zs ≡ closer e.place ∷ w = e.split in cc))
                | inr e ↦ (let f : Mark sign.Comma q ∷ zs ≡ Mark sign.Comma e.0 ∷ e.1 = e.2 in let g : e.1 ≡ zs = cc in subst (λ x. Choice fs true o x w) g e.3)
              ])
              (λ o zs w c. choice_back fs q o zs w c)
              (consume H n tokens from to (Rest fs) (Mark sign.Comma q) commas rest)

    module _ (n : ℕ) (tokens : List Lexeme) (from : ℕ) (h : from ≤ length tokens) where
      -- a list that may have no item begins
      pub maybe_begin : Stage (Closed (MaybeListed G) closer) n tokens from from (Choice [] false)
      maybe_begin =
          change (Closed (MaybeListed G) closer) n tokens from from (Closed (MaybeListed G) closer) (Choice [] false)
          (λ r ys w stop near c. there r ys (closer c.place ∷ w) c.list c.place w refl)
          here
          (begin (Closed (MaybeListed G) closer) n tokens from h)
        where
          there : (r : List R × Bool) (ys us : List Lexeme) → MaybeListed G r ys us → (p : Place) (w : List Lexeme) → us ≡ closer p ∷ w → Choice [] false r ys w
          there r ys us nothing p w e = inl (record { place = p; split = e; same = refl })
          there r ys us (something l) p w e = inr (spine [] r ys us l p w e)

          here : (r : List R × Bool) (ys w : List Lexeme) → Choice [] false r ys w → Closed (MaybeListed G) closer r ys w
          here r ys w c =
              elim c [
                | inl e ↦ record { place = e.place; list = subst (λ x. MaybeListed G x ys (closer e.place ∷ w)) (sym e.same) (subst (λ x. MaybeListed G ([], false) ys x) e.split nothing) }
                | inr i ↦ (let l : Closed (Listed G) closer r ys w = item_closed r ys w i in record { place = l.place; list = something l.list })
              ]

      -- a list with at least one item begins
      pub listed_begin : Stage (Closed (Listed G) closer) n tokens from from (Item [])
      listed_begin =
          change (Closed (Listed G) closer) n tokens from from (Closed (Listed G) closer) (Item [])
          (λ r ys w stop near c. spine [] r ys (closer c.place ∷ w) c.list c.place w refl)
          item_closed
          (begin (Closed (Listed G) closer) n tokens from h)
