-- Lists with commas and the mark that closes them, item by item.
use Rattle.std.proofs.Common.{◌≡◌, refl, sym, ap, ◌∙◌, subst, ℕ, ◌+◌, ◌<◌, ◌≤◌, ◌⊎◌, inl, inr, Bool, true, false, List, [], ◌∷◌, ◌++◌, length, append_assoc, Some, slice_get}
use Rattle.shade_base.specs.declared.place.Place.{Place}
use Rattle.shade_ast.specs.declared.lexeme.Sign.{Sign}
use Rattle.shade_ast.specs.declared.lexeme.Sign.TheVariants as sign
use Rattle.shade_ast.specs.Lexemes.{Lexeme, Mark}
use Rattle.shade_ast.specs.Repeats.{Listed, last, last_comma, comma, MaybeListed, nothing, something}
use Rattle.shade_ast.specs.Reads.{Reads, Fails, rank, sign_rank}
use Rattle.shade_ast.proofs.Stages.{Stage, Closes, begin, change}
use Rattle.shade_ast.specs.Chains.{After, Ends, Placed}
use Rattle.shade_ast.proofs.Placed.{some_place}
use Rattle.shade_parse_expr.proofs.Chains.{then_reads, then_fails}
use Rattle.shade_parse.specs.Rests.{Enclosed, enclosed}
use Rattle.shade_parse_simple.proofs.Steps.{Stops, next, next_fails, token, token_or, no_token, token_avoids, not_here, right, ended}

abbrev pub shut : {R : Type 0} → List R → Bool → Place → (List R × Bool) × Place
shut rs trailing p = ((rs, trailing), p)

module _ {R : Type 0} (G : R → List Lexeme → List Lexeme → Type 0) (closer : Sign) where
  -- what follows an item, where these stand so far
  pub data Rest : List R → (List R × Bool) × Place → List Lexeme → List Lexeme → Type 0 where
    close : {rs : List R} (p : Place) {w : List Lexeme} → Rest rs (shut rs false p) (Mark closer p ∷ w) w
    comma_close : {rs : List R} (p q : Place) {w : List Lexeme} → Rest rs (shut rs true q) (Mark sign.Comma p ∷ (Mark closer q ∷ w)) w
    item : {rs : List R} {s : (List R × Bool) × Place} {r : R} (p : Place) {us zs w : List Lexeme} → G r us zs → Rest (rs ++ r ∷ []) s zs w → Rest rs s (Mark sign.Comma p ∷ us) w

  -- an item and what follows it
  abbrev pub Item : List R → (List R × Bool) × Place → List Lexeme → List Lexeme → Type 0
  Item rs = After G (λ r. Rest (rs ++ r ∷ []))

  -- the mark that closes a list of these
  abbrev pub Shuts : List R → Bool → (List R × Bool) × Place → List Lexeme → List Lexeme → Type 0
  Shuts rs trailing = After (Placed (Mark closer)) (λ p. Ends (shut rs trailing p))

  -- that mark, or an item
  abbrev pub Choice : List R → Bool → (List R × Bool) × Place → List Lexeme → List Lexeme → Type 0
  Choice rs trailing s ys w = Shuts rs trailing s ys w ⊎ Item rs s ys w

  abbrev CommaThen : List R → (List R × Bool) × Place → List Lexeme → List Lexeme → Type 0
  CommaThen rs = After (Placed (Mark sign.Comma)) (λ p. Choice rs true)

  spine : (pre : List R) (s : List R × Bool) (ts us : List Lexeme) → Listed G s ts us → (p : Place) (w : List Lexeme) → us ≡ Mark closer p ∷ w → Item pre (shut (pre ++ s.0) s.1 p) ts w
  spine pre s ts us (last {r = r} g) p w e = record { part = r; others = us; phrase = g; rest = subst (λ x. Rest (pre ++ r ∷ []) (shut (pre ++ r ∷ []) false p) x w) (sym e) (close p) }
  spine pre s ts us (last_comma {r = r} q g) p w e = record { part = r; others = Mark sign.Comma q ∷ us; phrase = g; rest = subst (λ x. Rest (pre ++ r ∷ []) (shut (pre ++ r ∷ []) true p) (Mark sign.Comma q ∷ x) w) (sym e) (comma_close q p) }
  spine pre s ts us (comma {r = r} {rs = rs} {trailing = trailing} q {us = vs} g more) p w e =
      let i : Item (pre ++ r ∷ []) (shut ((pre ++ r ∷ []) ++ rs) trailing p) vs w = spine (pre ++ r ∷ []) (rs, trailing) vs us more p w e in
      record { part = r; others = Mark sign.Comma q ∷ vs; phrase = g; rest = item q i.phrase (subst (λ x. Rest ((pre ++ r ∷ []) ++ i.part ∷ []) (shut x trailing p) i.others w) (append_assoc pre (r ∷ []) rs) i.rest) }

  record Back (pre : List R) (s : (List R × Bool) × Place) (ts w : List Lexeme) : Type 0 where
    rs : List R
    trailing : Bool
    place : Place
    phrase : Listed G (rs, trailing) ts (Mark closer place ∷ w)
    same : s ≡ shut (pre ++ rs) trailing place

  back : (pre : List R) (r : R) (us : List Lexeme) → (rs : List R) → rs ≡ pre ++ r ∷ [] → (s : (List R × Bool) × Place) (ys w : List Lexeme) → G r us ys → Rest rs s ys w → Back pre s us w
  back pre r us rs is s ys w g (close p) = record { rs = r ∷ []; trailing = false; place = p; phrase = last g; same = ap (λ x. shut x false p) is }
  back pre r us rs is s ys w g (comma_close p q) = record { rs = r ∷ []; trailing = true; place = q; phrase = last_comma p g; same = ap (λ x. shut x true q) is }
  back pre r us rs is s ys w g (item {r = q} p {us = vs} {zs = zs} h x) =
      let b : Back rs s vs w = back rs q vs (rs ++ q ∷ []) refl s zs w h x in
      record { rs = r ∷ b.rs; trailing = b.trailing; place = b.place; phrase = comma p g b.phrase; same = b.same ∙ ap (λ v. shut v b.trailing b.place) (ap (λ v. v ++ b.rs) is ∙ append_assoc pre (r ∷ []) b.rs) }

  listed_there : (s : (List R × Bool) × Place) (ts w : List Lexeme) → Enclosed (Listed G) closer s ts w → Item [] s ts w
  listed_there s ts w (enclosed {l = l} p g) = spine [] l ts (Mark closer p ∷ w) g p w refl

  listed_back : (s : (List R × Bool) × Place) (ts w : List Lexeme) → Item [] s ts w → Enclosed (Listed G) closer s ts w
  listed_back s ts w i =
      let b : Back [] s ts w = back [] i.part ts (i.part ∷ []) refl s i.others w i.phrase i.rest in
      subst (λ x. Enclosed (Listed G) closer x ts w) (sym b.same) (enclosed b.place b.phrase)

  rest_there : (rs : List R) (s : (List R × Bool) × Place) (ys w : List Lexeme) → Rest rs s ys w → Shuts rs false s ys w ⊎ CommaThen rs s ys w
  rest_there rs s ys w (close p) = inl (record { part = p; others = w; phrase = record { is = refl }; rest = record { same = refl; left = refl } })
  rest_there rs s ys w (comma_close p q) = inr (record { part = p; others = Mark closer q ∷ w; phrase = record { is = refl }; rest = inl (record { part = q; others = w; phrase = record { is = refl }; rest = record { same = refl; left = refl } }) })
  rest_there rs s ys w (item {r = r} p {us = us} {zs = zs} g x) = inr (record { part = p; others = us; phrase = record { is = refl }; rest = inr (record { part = r; others = zs; phrase = g; rest = x }) })

  shuts_rest : (rs : List R) (s : (List R × Bool) × Place) (ys w : List Lexeme) → Shuts rs false s ys w → Rest rs s ys w
  shuts_rest rs s ys w a = subst (λ x. Rest rs x ys w) (sym a.rest.same) (subst (λ l. Rest rs (shut rs false a.part) l w) (sym (a.phrase.is ∙ ap (λ l. Mark closer a.part ∷ l) a.rest.left)) (close a.part))

  comma_rest : (rs : List R) (s : (List R × Bool) × Place) (ys w : List Lexeme) → CommaThen rs s ys w → Rest rs s ys w
  comma_rest rs s ys w a =
      subst (λ l. Rest rs s l w) (sym a.phrase.is)
      (elim a.rest [
        | inl b ↦ subst (λ x. Rest rs x (Mark sign.Comma a.part ∷ a.others) w) (sym b.rest.same) (subst (λ l. Rest rs (shut rs true b.part) (Mark sign.Comma a.part ∷ l) w) (sym (b.phrase.is ∙ ap (λ l. Mark closer b.part ∷ l) b.rest.left)) (comma_close a.part b.part))
        | inr i ↦ item a.part i.phrase i.rest
      ])

  -- a list that may have no item
  maybe_there : (l : List R × Bool) (p : Place) (ts us w : List Lexeme) → MaybeListed G l ts us → us ≡ Mark closer p ∷ w → Shuts [] false (l, p) ts w ⊎ Enclosed (Listed G) closer (l, p) ts w
  maybe_there l p ts us w nothing e = inl (record { part = p; others = w; phrase = record { is = e }; rest = record { same = refl; left = refl } })
  maybe_there l p ts us w (something g) e = inr (enclosed p (subst (λ x. Listed G l ts x) e g))

  maybe_cases : (s : (List R × Bool) × Place) (ts w : List Lexeme) → Enclosed (MaybeListed G) closer s ts w → Shuts [] false s ts w ⊎ Enclosed (Listed G) closer s ts w
  maybe_cases s ts w (enclosed {l = l} p g) = maybe_there l p ts (Mark closer p ∷ w) w g refl

  maybe_back : (s : (List R × Bool) × Place) (ts w : List Lexeme) → Enclosed (Listed G) closer s ts w → Enclosed (MaybeListed G) closer s ts w
  maybe_back s ts w (enclosed p g) = enclosed p (something g)

  shuts_back : (s : (List R × Bool) × Place) (ts w : List Lexeme) → Shuts [] false s ts w → Enclosed (MaybeListed G) closer s ts w
  shuts_back s ts w a = subst (λ x. Enclosed (MaybeListed G) closer x ts w) (sym a.rest.same) (enclosed a.part (subst (λ l. MaybeListed G ([], false) l (Mark closer a.part ∷ w)) (sym (a.phrase.is ∙ ap (λ l. Mark closer a.part ∷ l) a.rest.left)) nothing))

  rest_closes : (rs : List R) → Closes (Rest rs)
  rest_closes rs = record { tree = shut rs false some_place; more = Mark closer some_place ∷ []; closed = λ w. close some_place }

  choice_closes : (rs : List R) → Closes (Choice rs true)
  choice_closes rs = record { tree = shut rs true some_place; more = Mark closer some_place ∷ []; closed = λ w. inl (record { part = some_place; others = w; phrase = record { is = refl }; rest = record { same = refl; left = refl } }) }

  -- an item has a rank, no comma and no closing mark goes on with it, and none begins with the closing mark
  module _ (m : ℕ) (comma_low : m < 10) (closer_low : m < sign_rank closer) (apart : closer ≡ sign.Comma → ⊥) (no_item : (r : R) (p : Place) (ts w : List Lexeme) → G r (Mark closer p ∷ ts) w → ⊥) where
    rest_stops : (n : ℕ) (rs : List R) (r : R) → Stops n m (Rest (rs ++ r ∷ []))
    rest_stops n rs r s zs w stop c =
        elim (rest_there (rs ++ r ∷ []) s zs w c) [
          | inl a ↦ subst (λ x. m < rank x) (sym a.phrase.is) closer_low
          | inr a ↦ subst (λ x. m < rank x) (sym a.phrase.is) comma_low
        ]

    module _ {H : (List R × Bool) × Place → List Lexeme → List Lexeme → Type 0} {n : ℕ} {tokens : List Lexeme} {from at : ℕ} where
      module _ {rs : List R} {trailing : Bool} (s : Stage H n tokens from at (Choice rs trailing)) where
        -- the closing mark stands where an item may begin
        pub choose_close : (p : Place) → slice_get tokens at ≡ Some (Mark closer p) → Reads H n tokens from (shut rs trailing p) (at + 1)
        choose_close p is = ended (token_or (λ p. refl) p is (λ r zs w stop i. no_item i.part p zs i.others i.phrase) s)

        pub choose_item : ((p : Place) → slice_get tokens at ≡ Some (Mark closer p) → ⊥) → Stage H n tokens from at (Item rs)
        choose_item never = right (not_here n tokens at (Mark closer) (λ p. Ends (shut rs trailing p)) never) s

      module _ (rs : List R) (s : Stage H n tokens from at (Item rs)) where
        pub item_fails : {to : ℕ} → Fails G m tokens at to → Fails H n tokens from to
        item_fails f = next_fails (rest_stops n rs) (λ r. rest_closes (rs ++ r ∷ [])) s f

        module _ {r : R} (fs : List R) (is : fs ≡ rs ++ r ∷ []) {to : ℕ} (x : Reads G m tokens at r to) where
          rest : Stage H n tokens from to (λ o ys w. Shuts fs false o ys w ⊎ CommaThen fs o ys w)
          rest =
              change H n tokens from to (Rest fs) (λ o ys w. Shuts fs false o ys w ⊎ CommaThen fs o ys w)
              (λ o ys w stop near c. rest_there fs o ys w c)
              (λ o ys w c. elim c [ inl a ↦ shuts_rest fs o ys w a | inr a ↦ comma_rest fs o ys w a ])
              (subst (λ l. Stage H n tokens from to (Rest l)) (sym is) (next (rest_stops n rs) s x))

          -- the closing mark stands behind the item
          pub item_close : (p : Place) → slice_get tokens to ≡ Some (Mark closer p) → Reads H n tokens from (shut fs false p) (to + 1)
          item_close p closes = ended (token_or (λ p. refl) p closes (token_avoids (Mark sign.Comma) n (Mark closer p) (λ q e. apart cc)) rest)

          module _ (unclosed : (p : Place) → slice_get tokens to ≡ Some (Mark closer p) → ⊥) where
            rest_comma : Stage H n tokens from to (CommaThen fs)
            rest_comma = right (not_here n tokens to (Mark closer) (λ p. Ends (shut fs false p)) unclosed) rest

            -- neither it nor a comma does
            pub item_stuck : ((p : Place) → slice_get tokens to ≡ Some (Mark sign.Comma p) → ⊥) → Fails H n tokens from to
            item_stuck never = no_token (λ p. choice_closes fs) never rest_comma

            -- a comma does
            pub item_comma : (p : Place) → slice_get tokens to ≡ Some (Mark sign.Comma p) → Stage H n tokens from (to + 1) (Choice fs true)
            item_comma p is = token (λ p. refl) p is rest_comma

    module _ {tokens : List Lexeme} {from : ℕ} (h : from ≤ length tokens) where
      -- a list with at least one item begins
      pub listed_begin : Stage (Enclosed (Listed G) closer) 0 tokens from from (Item [])
      listed_begin = change (Enclosed (Listed G) closer) 0 tokens from from (Enclosed (Listed G) closer) (Item []) (λ r ys w stop near c. listed_there r ys w c) listed_back (begin (Enclosed (Listed G) closer) 0 tokens from h)

      -- one that may have no item
      maybe_begin : Stage (Enclosed (MaybeListed G) closer) 0 tokens from from (λ r ys w. Shuts [] false r ys w ⊎ Enclosed (Listed G) closer r ys w)
      maybe_begin =
          change (Enclosed (MaybeListed G) closer) 0 tokens from from (Enclosed (MaybeListed G) closer) (λ r ys w. Shuts [] false r ys w ⊎ Enclosed (Listed G) closer r ys w)
          (λ r ys w stop near c. maybe_cases r ys w c)
          (λ r ys w c. elim c [ inl a ↦ shuts_back r ys w a | inr e ↦ maybe_back r ys w e ])
          (begin (Enclosed (MaybeListed G) closer) 0 tokens from h)

      pub maybe_none : (p : Place) → slice_get tokens from ≡ Some (Mark closer p) → Reads (Enclosed (MaybeListed G) closer) 0 tokens from (shut [] false p) (from + 1)
      maybe_none p is = ended (token_or (λ p. refl) p is (λ r zs w stop e. let i = listed_there r (Mark closer p ∷ zs) w e in no_item i.part p zs i.others i.phrase) maybe_begin)

      module _ (never : (p : Place) → slice_get tokens from ≡ Some (Mark closer p) → ⊥) where
        maybe_some : Stage (Enclosed (MaybeListed G) closer) 0 tokens from from (Enclosed (Listed G) closer)
        maybe_some = right (not_here 0 tokens from (Mark closer) (λ p. Ends (shut [] false p)) never) maybe_begin

        pub maybe_reads : {r : (List R × Bool) × Place} {to : ℕ} → Reads (Enclosed (Listed G) closer) 0 tokens from r to → Reads (Enclosed (MaybeListed G) closer) 0 tokens from r to
        maybe_reads {r = r} {to = to} x = then_reads (Enclosed (MaybeListed G) closer) (Enclosed (Listed G) closer) 0 tokens from from to maybe_some r x

        pub maybe_stuck : {to : ℕ} → Fails (Enclosed (Listed G) closer) 0 tokens from to → Fails (Enclosed (MaybeListed G) closer) 0 tokens from to
        maybe_stuck {to = to} x = then_fails (Enclosed (MaybeListed G) closer) (Enclosed (Listed G) closer) 0 tokens from from to maybe_some x
