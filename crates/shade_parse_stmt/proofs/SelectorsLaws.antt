-- Selectors of a `case` with the commas between them, one at a time.
use Rattle.std.proofs.Common.{◌≡◌, refl, sym, ap, ◌∙◌, subst, ℕ, ◌+◌, ◌<◌, ◌≤◌, ◌⊎◌, inl, inr, Bool, true, false, List, [], ◌∷◌, ◌++◌, length, map, drop, arith, append_assoc, Some, slice_get}
use Rattle.std.proofs.lemmas.List.{append-nil}
use Rattle.shade_base.specs.declared.place.Place.{Place}
use Rattle.shade_ast.specs.declared.lexeme.Keyword.TheVariants as word
use Rattle.shade_ast.specs.declared.lexeme.Sign.TheVariants as sign
use Rattle.shade_ast.specs.declared.stmt.Selector.{Selector}
use Rattle.shade_ast.specs.Lexemes.{Lexeme, Key, Mark}
use Rattle.shade_ast.specs.Names.{Grows}
use Rattle.shade_ast.specs.Needs.{most_of, selector_needs}
use Rattle.shade_ast.specs.Nodes.{joined_of, selector_nodes, CountFrom}
use Rattle.shade_ast.specs.Shapes.{SelectorShape}
use Rattle.shade_ast.specs.Shaped.{selector_shape}
use Rattle.shade_ast.specs.Repeats.{Listed, last, last_comma, comma}
use Rattle.shade_ast.specs.Statements.{Selects, selects_default, selects_value}
use Rattle.shade_ast.specs.Reads.{Near, rank_of}
use Rattle.shade_ast.proofs.Firsts.{First, BeginsExpr, expression_first}
use Rattle.shade_ast.specs.Chains.{After, Ends}
use Rattle.shade_ast.proofs.Stages.{Closes, near_get}
use Rattle.shade_ast.proofs.ShapeLaws.{grows_trans}
use Rattle.shade_parse_expr.proofs.Trees.{count_join}
use Rattle.shade_parse_simple.specs.declared.read.Read.{Read}
use Rattle.shade_parse_stmt.specs.Follows.{Above, Selected, SelectedToken, ReadsBy, FailsBy, ReadsOfBy}
use Rattle.shade_parse_stmt.specs.StatementParts.{selector_seen, selectors_seen}
use Rattle.shade_parse_stmt.specs.Trees.{holds, is_selected}
use Rattle.shade_parse_stmt.proofs.FollowSteps.{Step, begin, change, consume, phrase, phrase_fails, finish}
use Rattle.shade_parse_stmt.proofs.Grown.{selector_list_grows, known_on, map_one, most_one, joined_one}

-- what follows selectors
selected_is : (t : Lexeme) → SelectedToken t → is_selected t ≡ true
selected_is (Mark sign.Colon p) h = refl
selected_is (Mark sign.At p) h = refl
selected_is (Mark sign.OpenBrace p) h = refl
selected_is _ h = absurd h

selected_above : (w : List Lexeme) → Selected w → Above 7 w
selected_above [] h = absurd h
selected_above (t ∷ ts) h = by t h
  where
    by : (t : Lexeme) → SelectedToken t → 7 < rank_of t
    by (Mark sign.Colon p) h = omega arith
    by (Mark sign.At p) h = omega arith
    by (Mark sign.OpenBrace p) h = omega arith
    by _ h = absurd h

selected_near : (tokens : List Lexeme) (at : ℕ) (w : List Lexeme) → Selected w → Near w (drop at tokens) → false ≡ holds is_selected (slice_get tokens at) → ⊥
selected_near tokens at [] h near is = h
selected_near tokens at (t ∷ ts) h near is = let bad : false ≡ true = is ∙ ap (holds is_selected) (near_get tokens at t ts near) ∙ selected_is t h in cc

-- no selector begins so
no_expression : (t : Lexeme) → is_selected t ≡ true → BeginsExpr t → ⊥
no_expression (Mark sign.Colon p) e h = h
no_expression (Mark sign.At p) e h = h
no_expression (Mark sign.OpenBrace p) e h = h
no_expression _ e h = let bad : false ≡ true = e in cc

no_selector : (tokens : List Lexeme) (at : ℕ) → true ≡ holds is_selected (slice_get tokens at) → (s : SelectorShape) (ys w : List Lexeme) → Selects s ys w → Near ys (drop at tokens) → ⊥
no_selector tokens at is s ys w (selects_default p) near = let bad : true ≡ false = is ∙ ap (holds is_selected) (near_get tokens at (Key word.Default p) w near) in cc
no_selector tokens at is s ys w (selects_value {e = v} g) near =
    let f : First BeginsExpr ys = expression_first v ys w g in
    let stands : slice_get tokens at ≡ Some f.first = near_get tokens at f.first f.others (subst (λ x. Near x (drop at tokens)) f.split near) in
    no_expression f.first (sym (is ∙ ap (holds is_selected) stands)) f.fits

-- more selectors, where these stand so far
record ListThen (rs : List SelectorShape) (s : List SelectorShape × Bool) (ys w : List Lexeme) : Type 0 where
  others : List SelectorShape × Bool
  phrase : Listed Selects others ys w
  same : s ≡ (rs ++ others.0, others.1)

-- the end, the end behind a comma, or more behind a comma
data Behind (rs : List SelectorShape) : List SelectorShape × Bool → List Lexeme → List Lexeme → Type 0 where
  ended : {w : List Lexeme} → Behind rs (rs, false) w w
  comma_ended : (p : Place) {w : List Lexeme} → Behind rs (rs, true) (Mark sign.Comma p ∷ w) w
  comma_more : {s : List SelectorShape × Bool} (p : Place) {us w : List Lexeme} → ListThen rs s us w → Behind rs s (Mark sign.Comma p ∷ us) w

abbrev Item : List SelectorShape → List SelectorShape × Bool → List Lexeme → List Lexeme → Type 0
Item rs = After Selects (λ r. Behind (rs ++ r ∷ []))

-- the end behind a comma or one more
abbrev Choice : List SelectorShape → List SelectorShape × Bool → List Lexeme → List Lexeme → Type 0
Choice rs s ys w = Ends (rs, true) s ys w ⊎ ListThen rs s ys w

item_there : (rs : List SelectorShape) (s : List SelectorShape × Bool) (ys w : List Lexeme) → ListThen rs s ys w → Item rs s ys w
item_there rs s ys w l = by l.others ys w l.phrase l.same
  where
    by : (os : List SelectorShape × Bool) (ys w : List Lexeme) → Listed Selects os ys w → s ≡ (rs ++ os.0, os.1) → Item rs s ys w
    by os ys w (last {r = r} g) e = record { part = r; others = w; phrase = g; rest = subst (λ x. Behind (rs ++ r ∷ []) x w w) (sym e) ended }
    by os ys w (last_comma {r = r} p g) e = record { part = r; others = Mark sign.Comma p ∷ w; phrase = g; rest = subst (λ x. Behind (rs ++ r ∷ []) x (Mark sign.Comma p ∷ w) w) (sym e) (comma_ended p) }
    by os ys w (comma {r = r} {rs = ss} {trailing = trailing} p {us = us} g l) e = record {
      part = r;
      others = Mark sign.Comma p ∷ us;
      phrase = g;
      rest = comma_more p (record { others = (ss, trailing); phrase = l; same = e ∙ ap (λ x. (x, trailing)) (sym (append_assoc rs (r ∷ []) ss)) });
    }

item_back : (rs : List SelectorShape) (s : List SelectorShape × Bool) (ys w : List Lexeme) → Item rs s ys w → ListThen rs s ys w
item_back rs s ys w i = by s i.others w i.phrase i.rest
  where
    by : (s : List SelectorShape × Bool) (zs w : List Lexeme) → Selects i.part ys zs → Behind (rs ++ i.part ∷ []) s zs w → ListThen rs s ys w
    by s zs w g ended = record { others = (i.part ∷ [], false); phrase = last g; same = refl }
    by s zs w g (comma_ended p) = record { others = (i.part ∷ [], true); phrase = last_comma p g; same = refl }
    by s zs w g (comma_more p l) = record { others = (i.part ∷ l.others.0, l.others.1); phrase = comma p g l.phrase; same = l.same ∙ ap (λ x. (x, l.others.1)) (append_assoc rs (i.part ∷ []) l.others.0) }

behind_stops : (rs : List SelectorShape) (s : List SelectorShape × Bool) (zs w : List Lexeme) → Selected w → Behind rs s zs w → Above 7 zs
behind_stops rs s zs w stop ended = selected_above w stop
behind_stops rs s zs w stop (comma_ended p) = omega arith
behind_stops rs s zs w stop (comma_more p l) = omega arith

behind_closes : (rs : List SelectorShape) → Closes (Behind rs)
behind_closes rs = record { tree = (rs, false); more = []; closed = λ w. ended }

module _ (tokens : List Lexeme) (from : ℕ) where
  abbrev Stage : ℕ → (List SelectorShape × Bool → List Lexeme → List Lexeme → Type 0) → Type 0
  Stage = Step (Listed Selects) Selected tokens from

  list_stage : from ≤ length tokens → Stage from (Item [])
  list_stage h =
      change (Listed Selects) Selected tokens from from (Listed Selects) (Item [])
      (λ s ys w stop near g. item_there [] s ys w (record { others = s; phrase = g; same = refl }))
      (λ s ys w i. let l : ListThen [] s ys w = item_back [] s ys w i in subst (λ x. Listed Selects x ys w) (sym l.same) l.phrase)
      (begin (Listed Selects) Selected tokens from h)

  module _ (at : ℕ) (rs : List SelectorShape) (g : Stage at (Item rs)) where
    item_fails : (to : ℕ) → FailsBy Selects (Above 7) tokens at to → FailsBy (Listed Selects) Selected tokens from to
    item_fails to f = phrase_fails (Listed Selects) Selected tokens from Selects (Above 7) (λ r. Behind (rs ++ r ∷ [])) (λ r. behind_stops (rs ++ r ∷ [])) at to (λ r. behind_closes (rs ++ r ∷ [])) g f

    module _ (r : SelectorShape) (fs : List SelectorShape) (is : fs ≡ rs ++ r ∷ []) (to : ℕ) (x : ReadsBy Selects (Above 7) tokens at r to) where
      behind : Stage to (Behind fs)
      behind = subst (λ l. Stage to (Behind l)) (sym is) (phrase (Listed Selects) Selected tokens from Selects (Above 7) (λ r. Behind (rs ++ r ∷ [])) (λ r. behind_stops (rs ++ r ∷ [])) at to r g x)

      -- no comma stands behind the item
      item_last : ((p : Place) → slice_get tokens to ≡ Some (Mark sign.Comma p) → ⊥) → ReadsBy (Listed Selects) Selected tokens from (fs, false) to
      item_last never = finish (Listed Selects) Selected tokens from to (Behind fs) (fs, false) (λ w. ended) by behind
        where
          by : (s : List SelectorShape × Bool) (ys w : List Lexeme) → Selected w → Behind fs s ys w → Near ys (drop to tokens) → (s ≡ (fs, false)) × (ys ≡ w)
          by s ys w stop ended near = (refl, refl)
          by s ys w stop (comma_ended p) near = absurd (never p (near_get tokens to (Mark sign.Comma p) w near))
          by s ys w stop (comma_more p {us = us} l) near = absurd (never p (near_get tokens to (Mark sign.Comma p) us near))

      module _ (q : Place) (commas : slice_get tokens to ≡ Some (Mark sign.Comma q)) where
        choice : Stage (to + 1) (Choice fs)
        choice =
            change (Listed Selects) Selected tokens from (to + 1) (λ s zs w. Behind fs s (Mark sign.Comma q ∷ zs) w) (Choice fs) (λ s zs w stop near b. there s (Mark sign.Comma q ∷ zs) zs w refl stop b) back
            (consume (Listed Selects) Selected tokens from to (Behind fs) (Mark sign.Comma q) commas behind)
          where
            there : (s : List SelectorShape × Bool) (ys zs w : List Lexeme) → ys ≡ Mark sign.Comma q ∷ zs → Selected w → Behind fs s ys w → Choice fs s zs w
            there s ys zs w e stop ended = absurd (subst Selected e stop)
            there s ys zs w e stop (comma_ended p) =
                let both : Mark sign.Comma p ∷ w ≡ Mark sign.Comma q ∷ zs = e in
                let rest : zs ≡ w = cc in
                inl (record { same = refl; left = rest })
            there s ys zs w e stop (comma_more p {us = us} l) =
                let both : Mark sign.Comma p ∷ us ≡ Mark sign.Comma q ∷ zs = e in
                let rest : us ≡ zs = cc in
                inr (subst (λ x. ListThen fs s x w) rest l)

            back : (s : List SelectorShape × Bool) (zs w : List Lexeme) → Choice fs s zs w → Behind fs s (Mark sign.Comma q ∷ zs) w
            back s zs w c =
                elim c [
                  | inl e ↦ subst (λ x. Behind fs x (Mark sign.Comma q ∷ zs) w) (sym e.same) (subst (λ x. Behind fs (fs, true) (Mark sign.Comma q ∷ x) w) (sym e.left) (comma_ended q))
                  | inr l ↦ comma_more q l
                ]

        -- what ends the selectors stands behind the comma
        item_comma_last : true ≡ holds is_selected (slice_get tokens (to + 1)) → ReadsBy (Listed Selects) Selected tokens from (fs, true) (to + 1)
        item_comma_last selected =
            finish (Listed Selects) Selected tokens from (to + 1) (Choice fs) (fs, true) (λ w. inl (record { same = refl; left = refl }))
            (λ s ys w stop c near.
            elim c [
              | inl e ↦ (e.same, e.left)
              | inr l ↦ (let i : Item fs s ys w = item_there fs s ys w l in absurd (no_selector tokens (to + 1) selected i.part ys i.others i.phrase near))
            ])
            choice

        -- something else does
        item_more : false ≡ holds is_selected (slice_get tokens (to + 1)) → Stage (to + 1) (Item fs)
        item_more other =
            change (Listed Selects) Selected tokens from (to + 1) (Choice fs) (Item fs)
            (λ s ys w stop near c.
            elim c [
              | inl e ↦ absurd (selected_near tokens (to + 1) w stop (subst (λ x. Near x (drop (to + 1) tokens)) e.left near) other)
              | inr l ↦ item_there fs s ys w l
            ])
            (λ s ys w i. inr (item_back fs s ys w i))
            choice

-- the selectors so far, and one more to come
pub record SelectorWalk (tokens : List Lexeme) (size : ℕ) (start names : List (List ℕ)) (from node : ℕ) (items : List Selector) (at next : ℕ) : Type 0 where
  stage : Step (Listed Selects) Selected tokens from at (Item (map (selector_shape names) items))
  known : most_of selector_needs items ≤ length names
  nodes : CountFrom node (joined_of selector_nodes items) next
  pub grows : Grows start names
  pub past : from ≤ at
  pub within : at ≤ size
  pub numbered : next + from ≤ node + at
  pub few : length names + from ≤ length start + at

module _ (tokens : List Lexeme) (size from : ℕ) where
  pub selectors_begin : from ≤ length tokens → (start : List (List ℕ)) (node : ℕ) → from ≤ size → (items : List Selector) → items ≡ [] → SelectorWalk tokens size start start from node items from node
  selectors_begin h start node within items is =
      subst (λ l. SelectorWalk tokens size start start from node l from node) (sym is)
      (record {
        stage = list_stage tokens from h;
        known = omega arith;
        nodes = refl;
        grows = ([], sym (append-nil start));
        past = omega arith;
        within = within;
        numbered = omega arith;
        few = omega arith;
      })

  module _ (start mid : List (List ℕ)) (node : ℕ) (items : List Selector) (at next : ℕ) (t : SelectorWalk tokens size start mid from node items at next) where
    pub selectors_fail : (to : ℕ) → FailsBy Selects (Above 7) tokens at to → FailsBy (Listed Selects) Selected tokens from to
    selectors_fail = item_fails tokens from at (map (selector_shape mid) items) t.stage

    module _ (new : List (List ℕ)) (g : Grows mid new) (s : Read Selector) (x : ReadsOfBy selector_seen Selects (Above 7) tokens new at next s) (es : List Selector) (is : es ≡ items ++ s.tree ∷ []) where
      shapes : map (selector_shape new) es ≡ map (selector_shape mid) items ++ selector_shape new s.tree ∷ []
      shapes = ap (map (selector_shape new)) is ∙ map_one (selector_shape new) items s.tree ∙ ap (λ l. l ++ selector_shape new s.tree ∷ []) (selector_list_grows mid new items t.known g)

      known : most_of selector_needs es ≤ length new
      known = subst (λ l. most_of selector_needs l ≤ length new) (sym is) (most_one selector_needs items s.tree (length new) (known_on (most_of selector_needs items) mid new g t.known) x.known)

      nodes : CountFrom node (joined_of selector_nodes es) s.node
      nodes = subst (λ l. CountFrom node l s.node) (sym (ap (joined_of selector_nodes) is ∙ joined_one selector_nodes items s.tree)) (count_join (joined_of selector_nodes items) (selector_nodes s.tree) node next s.node t.nodes x.nodes)

      pub selectors_last : ((p : Place) → slice_get tokens s.end ≡ Some (Mark sign.Comma p) → ⊥) → ReadsOfBy selectors_seen (Listed Selects) Selected tokens new from node (record { tree = record { items = es; trailing = false }; end = s.end; node = s.node })
      selectors_last never = record { reads = item_last tokens from at (map (selector_shape mid) items) t.stage (selector_shape new s.tree) (map (selector_shape new) es) shapes s.end x.reads never; known = known; nodes = nodes }

      module _ (q : Place) (commas : slice_get tokens s.end ≡ Some (Mark sign.Comma q)) where
        pub selectors_comma_last : true ≡ holds is_selected (slice_get tokens (s.end + 1)) → ReadsOfBy selectors_seen (Listed Selects) Selected tokens new from node (record { tree = record { items = es; trailing = true }; end = s.end + 1; node = s.node })
        selectors_comma_last selected = record { reads = item_comma_last tokens from at (map (selector_shape mid) items) t.stage (selector_shape new s.tree) (map (selector_shape new) es) shapes s.end x.reads q commas selected; known = known; nodes = nodes }

        pub selectors_more : false ≡ holds is_selected (slice_get tokens (s.end + 1)) → s.end < size → s.node + at ≤ next + s.end → length new + at ≤ length mid + s.end → SelectorWalk tokens size start new from node es (s.end + 1) s.node
        selectors_more other within numbered few =
            let low : at ≤ s.end = x.reads.low in
            let past : from ≤ at = t.past in
            let t_numbered : next + from ≤ node + at = t.numbered in
            let t_few : length mid + from ≤ length start + at = t.few in
            record {
              stage = item_more tokens from at (map (selector_shape mid) items) t.stage (selector_shape new s.tree) (map (selector_shape new) es) shapes s.end x.reads q commas other;
              known = known;
              nodes = nodes;
              grows = grows_trans start mid new t.grows g;
              past = omega arith;
              within = omega arith;
              numbered = omega arith;
              few = omega arith;
            }
