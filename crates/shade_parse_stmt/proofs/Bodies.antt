-- Parts one after another, and what stands behind the last.
use Rattle.std.proofs.Common.{◌≡◌, refl, sym, ap, ◌∙◌, subst, ℕ, ◌+◌, ◌≤◌, ◌⊎◌, inl, inr, List, [], ◌∷◌, ◌++◌, length, drop, map, arith, append_assoc}
use Rattle.std.proofs.lemmas.List.{append-nil}
use Rattle.shade_ast.specs.Lexemes.{Lexeme}
use Rattle.shade_ast.specs.Names.{Grows}
use Rattle.shade_ast.specs.Needs.{most_of}
use Rattle.shade_ast.specs.Nodes.{joined_of, CountFrom}
use Rattle.shade_ast.specs.Repeats.{Many, no_more, more}
use Rattle.shade_ast.specs.Reads.{Near}
use Rattle.shade_ast.specs.Chains.{After}
use Rattle.shade_ast.proofs.Stages.{Closes, near_append}
use Rattle.shade_ast.proofs.ShapeLaws.{grows_trans}
use Rattle.shade_parse_expr.proofs.Trees.{count_join}
use Rattle.shade_parse_simple.specs.Readings.{Seen}
use Rattle.shade_parse_stmt.specs.Follows.{ReadsBy, FailsBy}
use Rattle.shade_parse_stmt.proofs.FollowSteps.{Step, change}
use Rattle.shade_parse_stmt.proofs.Grown.{known_on, map_one, most_one, joined_one}

module _ {S R : Type 0} (B : S → List Lexeme → List Lexeme → Type 0) (K : List S → R → List Lexeme → List Lexeme → Type 0) where
  -- what is left where these stand so far
  pub record MoreThen (rs : List S) (r : R) (ys w : List Lexeme) : Type 0 where
    pub others : List S
    pub middle : List Lexeme
    pub phrases : Many B others ys middle
    pub rest : K (rs ++ others) r middle w

  abbrev pub Choice : List S → R → List Lexeme → List Lexeme → Type 0
  Choice rs r ys w = After B (λ b. MoreThen (rs ++ b ∷ [])) r ys w ⊎ K rs r ys w

  pub choice_there : (rs : List S) (r : R) (ys w : List Lexeme) → MoreThen rs r ys w → Choice rs r ys w
  choice_there rs r ys w m = by m.others ys m.middle m.phrases m.rest
    where
      by : (os : List S) (ys middle : List Lexeme) → Many B os ys middle → K (rs ++ os) r middle w → Choice rs r ys w
      by os ys middle no_more k = inr (subst (λ x. K x r ys w) (append-nil rs) k)
      by os ys middle (more {r = b} {rs = bs} {us = us} g l) k = inl (record { part = b; others = us; phrase = g; rest = record { others = bs; middle = middle; phrases = l; rest = subst (λ x. K x r middle w) (sym (append_assoc rs (b ∷ []) bs)) k } })

  pub choice_back : (rs : List S) (r : R) (ys w : List Lexeme) → Choice rs r ys w → MoreThen rs r ys w
  choice_back rs r ys w c =
      elim c [
        | inl a ↦ record { others = a.part ∷ a.rest.others; middle = a.rest.middle; phrases = more a.phrase a.rest.phrases; rest = subst (λ x. K x r a.rest.middle w) (append_assoc rs (a.part ∷ []) a.rest.others) a.rest.rest }
        | inr k ↦ record { others = []; middle = ys; phrases = no_more; rest = subst (λ x. K x r ys w) (sym (append-nil rs)) k }
      ]

  pub more_closes : (rs : List S) → Closes (K rs) → Closes (MoreThen rs)
  more_closes rs c = record { tree = c.tree; more = c.more; closed = λ w. record { others = []; middle = c.more ++ w; phrases = no_more; rest = subst (λ x. K x c.tree (c.more ++ w) w) (sym (append-nil rs)) (c.closed w) } }

  pub more_stops : (F H : List Lexeme → Type 0) → ((b : S) (ts w : List Lexeme) → B b ts w → H ts) → ((l : List S) (r : R) (ts w : List Lexeme) → F w → K l r ts w → H ts) → (rs : List S) (r : R) (zs w : List Lexeme) → F w → MoreThen rs r zs w → H zs
  more_stops F H first last rs r zs w stop m =
      elim (choice_there rs r zs w m) [
        | inl a ↦ first a.part zs a.others a.phrase
        | inr k ↦ last rs r zs w stop k
      ]

  module _ (G : R → List Lexeme → List Lexeme → Type 0) (F : List Lexeme → Type 0) (tokens : List Lexeme) (from : ℕ) where
    pub list_begin : (at : ℕ) → Step G F tokens from at (After (Many B) K) → Step G F tokens from at (MoreThen [])
    list_begin at s =
        change G F tokens from at (After (Many B) K) (MoreThen [])
        (λ r ys w stop near a. record { others = a.part; middle = a.others; phrases = a.phrase; rest = a.rest })
        (λ r ys w m. record { part = m.others; others = m.middle; phrase = m.phrases; rest = m.rest })
        s

    -- no part begins here
    pub list_end : (at : ℕ) (rs : List S) → ((b : S) (ys w : List Lexeme) → B b ys w → Near ys (drop at tokens) → ⊥) → Step G F tokens from at (MoreThen rs) → Step G F tokens from at (K rs)
    list_end at rs never s =
        change G F tokens from at (MoreThen rs) (K rs)
        (λ r ys w stop near m.
        elim (choice_there rs r ys w m) [
          | inl a ↦ absurd (never a.part ys a.others a.phrase near)
          | inr k ↦ k
        ])
        (λ r ys w k. choice_back rs r ys w (inr k))
        s

    -- A part is read, with which nothing that stands behind the last begins.
    module _ (H : List Lexeme → Type 0) (first : (b : S) (ts w : List Lexeme) → B b ts w → H ts) (last : (l : List S) (r : R) (ts w : List Lexeme) → F w → K l r ts w → H ts) (at to : ℕ) (rs : List S) (s : Step G F tokens from at (MoreThen rs)) where
      pub list_more : (b : S) (es : List S) → es ≡ rs ++ b ∷ [] → (p : ReadsBy B H tokens at b to) → ((r : R) (ys w : List Lexeme) → F w → K rs r (p.us ++ ys) w → Near ys (drop to tokens) → ⊥) → Step G F tokens from to (MoreThen es)
      list_more b es is p never = subst (λ x. Step G F tokens from to (MoreThen x)) (sym is) (record {
        low = omega (arith, s.low, p.low);
        high = p.high;
        us = s.us ++ p.us;
        spelled = s.spelled ∙ ap (λ xs. s.us ++ xs) p.spelled ∙ sym (append_assoc s.us p.us (drop to tokens));
        back = λ r ys w c. subst (λ x. G r x w) (sym (append_assoc s.us p.us ys)) (s.back r (p.us ++ ys) w (choice_back rs r (p.us ++ ys) w (inl (record { part = b; others = ys; phrase = p.phrase ys; rest = c }))));
        leads =
            λ r ys w g stop near.
            elim (choice_there rs r (p.us ++ ys) w (s.leads r (p.us ++ ys) w (subst (λ x. G r x w) (append_assoc s.us p.us ys) g) stop (subst (Near (p.us ++ ys)) (sym p.spelled) (near_append p.us ys (drop to tokens) near)))) [
              | inl a ↦
                  (let o : (a.part ≡ b) × (ys ≡ a.others) = p.only a.part ys a.others a.phrase (more_stops F H first last (rs ++ a.part ∷ []) r a.others w stop a.rest) near in
                  subst (λ x. MoreThen (rs ++ b ∷ []) r x w) (sym o.1) (subst (λ x. MoreThen (rs ++ x ∷ []) r a.others w) o.0 a.rest))
              | inr k ↦ absurd (never r ys w stop k near)
            ];
      })

      pub list_fails : ((l : List S) → Closes (K l)) → (f : FailsBy B H tokens at to) → ((r : R) (ys w : List Lexeme) → F w → K rs r (f.us ++ ys) w → Near ys (drop to tokens) → ⊥) → FailsBy G F tokens from to
      list_fails ends f never = record {
        low = omega (arith, s.low, f.low);
        high = f.high;
        us = s.us ++ f.us;
        spelled = s.spelled ∙ ap (λ xs. s.us ++ xs) f.spelled ∙ sym (append_assoc s.us f.us (drop to tokens));
        begun =
            let b : S = f.begun.0 in
            let ys : List Lexeme = f.begun.1 in
            let e : Closes (MoreThen (rs ++ b ∷ [])) = more_closes (rs ++ b ∷ []) (ends (rs ++ b ∷ [])) in (
              e.tree,
              ys ++ e.more,
              λ w.
                  subst (λ x. G e.tree x w)
                  (ap (λ x. s.us ++ (f.us ++ x)) (sym (append_assoc ys e.more w)) ∙ sym (append_assoc s.us f.us ((ys ++ e.more) ++ w)))
                  (s.back e.tree (f.us ++ (ys ++ (e.more ++ w))) w (choice_back rs e.tree (f.us ++ (ys ++ (e.more ++ w))) w (inl (record { part = b; others = e.more ++ w; phrase = f.begun.2 (e.more ++ w); rest = e.closed w })))),
            );
        none =
            λ r ys w g stop near.
            elim (choice_there rs r (f.us ++ ys) w (s.leads r (f.us ++ ys) w (subst (λ x. G r x w) (append_assoc s.us f.us ys) g) stop (subst (Near (f.us ++ ys)) (sym f.spelled) (near_append f.us ys (drop to tokens) near)))) [
              | inl a ↦ f.none a.part ys a.others a.phrase (more_stops F H first last (rs ++ a.part ∷ []) r a.others w stop a.rest) near
              | inr k ↦ never r ys w stop k near
            ];
      }

-- a list that is being read, with its numbers
pub record Walk {T S R : Type 0} (seen : Seen T S) (B : S → List Lexeme → List Lexeme → Type 0) (K : List S → R → List Lexeme → List Lexeme → Type 0) (G : R → List Lexeme → List Lexeme → Type 0) (F : List Lexeme → Type 0) (tokens : List Lexeme) (size : ℕ) (start names : List (List ℕ)) (from node : ℕ) (items : List T) (at next : ℕ) : Type 0 where
  pub stage : Step G F tokens from at (MoreThen B K (map (seen.shape names) items))
  pub known : most_of seen.needs items ≤ length names
  pub nodes : CountFrom node (joined_of seen.nodes items) next
  pub grows : Grows start names
  pub past : from ≤ at
  pub within : at ≤ size
  pub numbered : next + from ≤ node + at
  pub few : length names + from ≤ length start + at

module _ {T S R : Type 0} (seen : Seen T S) (B : S → List Lexeme → List Lexeme → Type 0) (K : List S → R → List Lexeme → List Lexeme → Type 0) (G : R → List Lexeme → List Lexeme → Type 0) (F : List Lexeme → Type 0) (tokens : List Lexeme) (size : ℕ) where
  pub walk_begin : (start : List (List ℕ)) (from node : ℕ) → from ≤ size → Step G F tokens from from (After (Many B) K) → Walk seen B K G F tokens size start start from node [] from node
  walk_begin start from node h s = record {
    stage = list_begin B K G F tokens from from s;
    known = omega arith;
    nodes = refl;
    grows = ([], sym (append-nil start));
    past = omega arith;
    within = h;
    numbered = omega arith;
    few = omega arith;
  }

  module _ (steady : (old new : List (List ℕ)) (l : List T) → most_of seen.needs l ≤ length old → Grows old new → map (seen.shape new) l ≡ map (seen.shape old) l) (start mid new : List (List ℕ)) (from node : ℕ) (items : List T) (at next : ℕ) (t : Walk seen B K G F tokens size start mid from node items at next) (g : Grows mid new) where
    -- the list so far, once names were added
    pub walk_stage : Step G F tokens from at (MoreThen B K (map (seen.shape new) items))
    walk_stage = subst (λ l. Step G F tokens from at (MoreThen B K l)) (sym (steady mid new items t.known g)) t.stage

    pub walk_known : most_of seen.needs items ≤ length new
    walk_known = known_on (most_of seen.needs items) mid new g t.known

    -- one part more
    pub walk_more : (H : List Lexeme → Type 0) → ((b : S) (ts w : List Lexeme) → B b ts w → H ts) → ((l : List S) (r : R) (ts w : List Lexeme) → F w → K l r ts w → H ts) →
        (item : T) (es : List T) → es ≡ items ++ item ∷ [] → (to last : ℕ) → (p : ReadsBy B H tokens at (seen.shape new item) to) → seen.needs item ≤ length new →
        CountFrom next (seen.nodes item) last → ((r : R) (ys w : List Lexeme) → F w → K (map (seen.shape new) items) r (p.us ++ ys) w → Near ys (drop to tokens) → ⊥) → to ≤ size →
        last + at ≤ next + to → length new + at ≤ length mid + to → Walk seen B K G F tokens size start new from node es to last
    walk_more H first last_stops item es is to last p known nodes never within numbered few =
        let low : at ≤ to = p.low in
        let past : from ≤ at = t.past in
        let t_numbered : next + from ≤ node + at = t.numbered in
        let t_few : length mid + from ≤ length start + at = t.few in
        record {
          stage = list_more B K G F tokens from H first last_stops at to (map (seen.shape new) items) walk_stage (seen.shape new item) (map (seen.shape new) es) (ap (map (seen.shape new)) is ∙ map_one (seen.shape new) items item) p never;
          known = subst (λ l. most_of seen.needs l ≤ length new) (sym is) (most_one seen.needs items item (length new) walk_known known);
          nodes = subst (λ l. CountFrom node l last) (sym (ap (joined_of seen.nodes) is ∙ joined_one seen.nodes items item)) (count_join (joined_of seen.nodes items) (seen.nodes item) node next last t.nodes nodes);
          grows = grows_trans start mid new t.grows g;
          past = omega arith;
          within = within;
          numbered = omega arith;
          few = omega arith;
        }
