-- A phrase while it is read, where what may follow is told by its first tokens.
use Rattle.std.proofs.Common.{◌≡◌, refl, sym, ap, ◌∙◌, subst, ℕ, ◌+◌, ◌<◌, ◌≤◌, ◌⊎◌, inl, inr, List, [], ◌∷◌, ◌++◌, length, drop, arith, append_assoc, Some, slice_get}
use Rattle.std.proofs.lemmas.Option.{slice_get_within}
use Rattle.shade_base.specs.declared.place.Place.{Place}
use Rattle.shade_ast.specs.Lexemes.{Lexeme}
use Rattle.shade_ast.specs.Reads.{Near, Reads, Fails}
use Rattle.shade_ast.specs.Chains.{After, Ends, Headed}
use Rattle.shade_ast.proofs.Stages.{Closes, near_append, near_get, one_token}
use Rattle.shade_ast.proofs.Placed.{some_place, lexeme_place}
use Rattle.shade_parse_stmt.specs.Follows.{ReadsBy, FailsBy, Above, Marked}

-- by a rank
pub by_rank : {R : Type 0} (G : R → List Lexeme → List Lexeme → Type 0) (n : ℕ) (tokens : List Lexeme) (from : ℕ) (r : R) (to : ℕ) → Reads G n tokens from r to → ReadsBy G (Above n) tokens from r to
by_rank G n tokens from r to p = record { low = p.low; high = p.high; us = p.us; spelled = p.spelled; phrase = p.phrase; only = p.only }

pub fails_by_rank : {R : Type 0} (G : R → List Lexeme → List Lexeme → Type 0) (n : ℕ) (tokens : List Lexeme) (from to : ℕ) → Fails G n tokens from to → FailsBy G (Above n) tokens from to
fails_by_rank G n tokens from to p = record { low = p.low; high = p.high; us = p.us; spelled = p.spelled; begun = p.begun; none = p.none }

pub to_rank : {R : Type 0} (G : R → List Lexeme → List Lexeme → Type 0) (n : ℕ) (tokens : List Lexeme) (from : ℕ) (r : R) (to : ℕ) → ReadsBy G (Above n) tokens from r to → Reads G n tokens from r to
to_rank G n tokens from r to p = record { low = p.low; high = p.high; us = p.us; spelled = p.spelled; phrase = p.phrase; only = p.only }

pub fails_to_rank : {R : Type 0} (G : R → List Lexeme → List Lexeme → Type 0) (n : ℕ) (tokens : List Lexeme) (from to : ℕ) → FailsBy G (Above n) tokens from to → Fails G n tokens from to
fails_to_rank G n tokens from to p = record { low = p.low; high = p.high; us = p.us; spelled = p.spelled; begun = p.begun; none = p.none }

pub record Step {R : Type 0} (G : R → List Lexeme → List Lexeme → Type 0) (F : List Lexeme → Type 0) (tokens : List Lexeme) (from at : ℕ) (C : R → List Lexeme → List Lexeme → Type 0) : Type 0 where
  pub low : from ≤ at
  pub high : at ≤ length tokens
  pub us : List Lexeme
  pub spelled : drop from tokens ≡ us ++ drop at tokens
  pub back : (r : R) (ys w : List Lexeme) → C r ys w → G r (us ++ ys) w
  pub leads : (r : R) (ys w : List Lexeme) → G r (us ++ ys) w → F w → Near ys (drop at tokens) → C r ys w

pub closes_marked : {R : Type 0} (kind : Place → Lexeme) (C : Place → R → List Lexeme → List Lexeme → Type 0) → Closes (C some_place) → Closes (Marked kind C)
closes_marked kind C c = record { tree = c.tree; more = kind some_place ∷ c.more; closed = λ w. record { place = some_place; others = c.more ++ w; split = refl; rest = c.closed w } }

module _ {R : Type 0} (G : R → List Lexeme → List Lexeme → Type 0) (F : List Lexeme → Type 0) (tokens : List Lexeme) (from : ℕ) where
  pub begin : from ≤ length tokens → Step G F tokens from from G
  begin h = record { low = omega arith; high = h; us = []; spelled = refl; back = λ r ys w g. g; leads = λ r ys w g stop near. g }

  -- the same, said otherwise
  pub change : (at : ℕ) (C D : R → List Lexeme → List Lexeme → Type 0) → ((r : R) (ys w : List Lexeme) → F w → Near ys (drop at tokens) → C r ys w → D r ys w) → ((r : R) (ys w : List Lexeme) → D r ys w → C r ys w) → Step G F tokens from at C → Step G F tokens from at D
  change at C D f b s = record {
    low = s.low;
    high = s.high;
    us = s.us;
    spelled = s.spelled;
    back = λ r ys w d. s.back r ys w (b r ys w d);
    leads = λ r ys w g stop near. f r ys w stop near (s.leads r ys w g stop near);
  }

  -- a token is read
  pub consume : (at : ℕ) (C : R → List Lexeme → List Lexeme → Type 0) (t : Lexeme) → slice_get tokens at ≡ Some t → Step G F tokens from at C → Step G F tokens from (at + 1) (λ r zs w. C r (t ∷ zs) w)
  consume at C t is s = record {
    low = omega (arith, s.low);
    high = let lt : at < length tokens = slice_get_within tokens at t is in omega arith;
    us = s.us ++ t ∷ [];
    spelled = s.spelled ∙ ap (λ xs. s.us ++ xs) (one_token tokens at t is) ∙ sym (append_assoc s.us (t ∷ []) (drop (at + 1) tokens));
    back = λ r zs w c. subst (λ x. G r x w) (sym (append_assoc s.us (t ∷ []) zs)) (s.back r (t ∷ zs) w c);
    leads =
        λ r ys w g stop near.
        s.leads r (t ∷ ys) w (subst (λ x. G r x w) (append_assoc s.us (t ∷ []) ys) g) stop (subst (Near (t ∷ ys)) (sym (one_token tokens at t is)) refl);
  }

  -- a token of a kind is read
  pub mark : (kind : Place → Lexeme) (C : Place → R → List Lexeme → List Lexeme → Type 0) → ((p : Place) → lexeme_place (kind p) ≡ p) → (at : ℕ) (p : Place) → slice_get tokens at ≡ Some (kind p) → Step G F tokens from at (Marked kind C) → Step G F tokens from (at + 1) (C p)
  mark kind C is_place at p is s =
      change (at + 1) (λ r zs w. Marked kind C r (kind p ∷ zs) w) (C p)
      (λ r zs w stop near c.
      let e : kind p ∷ zs ≡ kind c.place ∷ c.others = c.split in
      let heads : kind p ≡ kind c.place = cc in
      let rest : c.others ≡ zs = cc in
      let same : c.place ≡ p = sym (is_place c.place) ∙ ap lexeme_place (sym heads) ∙ is_place p in
      subst (λ x. C p r x w) rest (subst (λ x. C x r c.others w) same c.rest))
      (λ r zs w c. record { place = p; others = zs; split = refl; rest = c })
      (consume at (Marked kind C) (kind p) is s)

  -- a phrase is read, or fails
  module _ {S : Type 0} (B : S → List Lexeme → List Lexeme → Type 0) (H : List Lexeme → Type 0) (C : S → R → List Lexeme → List Lexeme → Type 0) (stops : (b : S) (r : R) (zs w : List Lexeme) → F w → C b r zs w → H zs) (at to : ℕ) where
    pub phrase : (b : S) → Step G F tokens from at (After B C) → ReadsBy B H tokens at b to → Step G F tokens from to (C b)
    phrase b s p = record {
      low = omega (arith, s.low, p.low);
      high = p.high;
      us = s.us ++ p.us;
      spelled = s.spelled ∙ ap (λ xs. s.us ++ xs) p.spelled ∙ sym (append_assoc s.us p.us (drop to tokens));
      back = λ r ys w c. subst (λ x. G r x w) (sym (append_assoc s.us p.us ys)) (s.back r (p.us ++ ys) w (record { part = b; others = ys; phrase = p.phrase ys; rest = c }));
      leads =
          λ r ys w g stop near.
          let a : After B C r (p.us ++ ys) w = s.leads r (p.us ++ ys) w (subst (λ x. G r x w) (append_assoc s.us p.us ys) g) stop (subst (Near (p.us ++ ys)) (sym p.spelled) (near_append p.us ys (drop to tokens) near)) in
          let o : (a.part ≡ b) × (ys ≡ a.others) = p.only a.part ys a.others a.phrase (stops a.part r a.others w stop a.rest) near in
          subst (λ x. C b r x w) (sym o.1) (subst (λ x. C x r a.others w) o.0 a.rest);
    }

    pub phrase_fails : ((b : S) → Closes (C b)) → Step G F tokens from at (After B C) → FailsBy B H tokens at to → FailsBy G F tokens from to
    phrase_fails ends s f = record {
      low = omega (arith, s.low, f.low);
      high = f.high;
      us = s.us ++ f.us;
      spelled = s.spelled ∙ ap (λ xs. s.us ++ xs) f.spelled ∙ sym (append_assoc s.us f.us (drop to tokens));
      begun =
          let b : S = f.begun.0 in
          let ys : List Lexeme = f.begun.1 in
          let e : Closes (C b) = ends b in (
            e.tree,
            ys ++ e.more,
            λ w.
                subst (λ x. G e.tree x w)
                (ap (λ x. s.us ++ (f.us ++ x)) (sym (append_assoc ys e.more w)) ∙ sym (append_assoc s.us f.us ((ys ++ e.more) ++ w)))
                (s.back e.tree (f.us ++ (ys ++ (e.more ++ w))) w (record { part = b; others = e.more ++ w; phrase = f.begun.2 (e.more ++ w); rest = e.closed w })),
          );
      none =
          λ r ys w g stop near.
          let a : After B C r (f.us ++ ys) w = s.leads r (f.us ++ ys) w (subst (λ x. G r x w) (append_assoc s.us f.us ys) g) stop (subst (Near (f.us ++ ys)) (sym f.spelled) (near_append f.us ys (drop to tokens) near)) in
          f.none a.part ys a.others a.phrase (stops a.part r a.others w stop a.rest) near;
    }

  -- no phrase goes on with the token here
  pub stuck : (at : ℕ) (C : R → List Lexeme → List Lexeme → Type 0) → Closes C → ((s : R) (ys w : List Lexeme) → F w → C s ys w → Near ys (drop at tokens) → ⊥) → Step G F tokens from at C → FailsBy G F tokens from at
  stuck at C e no_way s = record {
    low = s.low;
    high = s.high;
    us = s.us;
    spelled = s.spelled;
    begun = (e.tree, e.more, λ w. s.back e.tree (e.more ++ w) w (e.closed w));
    none = λ r ys w g stop near. no_way r ys w stop (s.leads r ys w g stop near) near;
  }

  pub stuck_mark : (kind : Place → Lexeme) (C : Place → R → List Lexeme → List Lexeme → Type 0) → Closes (C some_place) → (at : ℕ) → ((p : Place) → slice_get tokens at ≡ Some (kind p) → ⊥) → Step G F tokens from at (Marked kind C) → FailsBy G F tokens from at
  stuck_mark kind C c at isnt s = stuck at (Marked kind C) (closes_marked kind C c) (λ r ys w stop d near. isnt d.place (near_get tokens at (kind d.place) d.others (subst (λ x. Near x (drop at tokens)) d.split near))) s

  -- nothing more is left
  pub finish : (at : ℕ) (C : R → List Lexeme → List Lexeme → Type 0) (e : R) → ((w : List Lexeme) → C e w w) → ((s : R) (ys w : List Lexeme) → F w → C s ys w → Near ys (drop at tokens) → (s ≡ e) × (ys ≡ w)) → Step G F tokens from at C → ReadsBy G F tokens from e at
  finish at C e c only_way s = record {
    low = s.low;
    high = s.high;
    us = s.us;
    spelled = s.spelled;
    phrase = λ w. s.back e w w (c w);
    only = λ q ys w g stop near. only_way q ys w stop (s.leads q ys w g stop near) near;
  }

  pub finish_ends : (at : ℕ) (e r : R) → e ≡ r → Step G F tokens from at (Ends r) → ReadsBy G F tokens from e at
  finish_ends at e r same s = finish at (Ends r) e (λ w. record { same = same; left = refl }) (λ q ys w stop c near. (c.same ∙ sym same, c.left)) s

  -- a phrase that another function reads on
  pub then_reads : (at to : ℕ) (C : R → List Lexeme → List Lexeme → Type 0) (r : R) → Step G F tokens from at C → ReadsBy C F tokens at r to → ReadsBy G F tokens from r to
  then_reads at to C r s p = record {
    low = omega (arith, s.low, p.low);
    high = p.high;
    us = s.us ++ p.us;
    spelled = s.spelled ∙ ap (λ xs. s.us ++ xs) p.spelled ∙ sym (append_assoc s.us p.us (drop to tokens));
    phrase = λ w. subst (λ x. G r x w) (sym (append_assoc s.us p.us w)) (s.back r (p.us ++ w) w (p.phrase w));
    only =
        λ q ys w g stop near.
        p.only q ys w (s.leads q (p.us ++ ys) w (subst (λ x. G q x w) (append_assoc s.us p.us ys) g) stop (subst (Near (p.us ++ ys)) (sym p.spelled) (near_append p.us ys (drop to tokens) near))) stop near;
  }

  pub then_fails : (at to : ℕ) (C : R → List Lexeme → List Lexeme → Type 0) → Step G F tokens from at C → FailsBy C F tokens at to → FailsBy G F tokens from to
  then_fails at to C s f = record {
    low = omega (arith, s.low, f.low);
    high = f.high;
    us = s.us ++ f.us;
    spelled = s.spelled ∙ ap (λ xs. s.us ++ xs) f.spelled ∙ sym (append_assoc s.us f.us (drop to tokens));
    begun = (f.begun.0, f.begun.1, λ w. subst (λ x. G f.begun.0 x w) (sym (append_assoc s.us f.us (f.begun.1 ++ w))) (s.back f.begun.0 (f.us ++ (f.begun.1 ++ w)) w (f.begun.2 w)));
    none =
        λ q ys w g stop near.
        f.none q ys w (s.leads q (f.us ++ ys) w (subst (λ x. G q x w) (append_assoc s.us f.us ys) g) stop (subst (Near (f.us ++ ys)) (sym f.spelled) (near_append f.us ys (drop to tokens) near))) stop near;
  }

-- what ends a phrase decides what follows it
pub ends_stops : {R : Type 0} (F H : List Lexeme → Type 0) (e r : R) (zs w : List Lexeme) → (F w → H w) → F w → Ends e r zs w → H zs
ends_stops F H e r zs w f stop c = subst H (sym c.left) (f stop)

pub marked_stops : {R : Type 0} (H : List Lexeme → Type 0) (kind : Place → Lexeme) (C : Place → R → List Lexeme → List Lexeme → Type 0) → ((p : Place) (ts : List Lexeme) → H (kind p ∷ ts)) → (r : R) (zs w : List Lexeme) → Marked kind C r zs w → H zs
marked_stops H kind C low r zs w c = subst H (sym c.split) (low c.place c.others)

-- what is left begins with a token that decides, or goes another way
module _ {R : Type 0} (G : R → List Lexeme → List Lexeme → Type 0) (F : List Lexeme → Type 0) (tokens : List Lexeme) (from at : ℕ) (At : Lexeme → R → List Lexeme → List Lexeme → Type 0) where
  -- the token that stands here decides
  pub take_head : (D : R → List Lexeme → List Lexeme → Type 0) (t : Lexeme) → slice_get tokens at ≡ Some t → ((r : R) (zs w : List Lexeme) → F w → D r (t ∷ zs) w → ⊥) → Step G F tokens from at (λ r ys w. Headed At r ys w ⊎ D r ys w) → Step G F tokens from (at + 1) (At t)
  take_head D t is never s =
      change G F tokens from (at + 1) (λ r zs w. Headed At r (t ∷ zs) w ⊎ D r (t ∷ zs) w) (At t)
      (λ r zs w stop near c.
      elim c [
        | inl h ↦
            (let e : t ∷ zs ≡ h.first ∷ h.others = h.split in
            let same_t : h.first ≡ t = cc in
            let same_zs : h.others ≡ zs = cc in
            subst (λ x. At t r x w) same_zs (subst (λ x. At x r h.others w) same_t h.at))
        | inr d ↦ absurd (never r zs w stop d)
      ])
      (λ r zs w a. inl (record { first = t; others = zs; split = refl; at = a }))
      (consume G F tokens from at (λ r ys w. Headed At r ys w ⊎ D r ys w) t is s)

  -- no such token stands here
  pub skip_head : (D : R → List Lexeme → List Lexeme → Type 0) → ((t : Lexeme) (r : R) (zs w : List Lexeme) → slice_get tokens at ≡ Some t → At t r zs w → ⊥) → Step G F tokens from at (λ r ys w. Headed At r ys w ⊎ D r ys w) → Step G F tokens from at D
  skip_head D never s =
      change G F tokens from at (λ r ys w. Headed At r ys w ⊎ D r ys w) D
      (λ r ys w stop near c.
      elim c [
        | inl h ↦ absurd (never h.first r h.others w (near_get tokens at h.first h.others (subst (λ x. Near x (drop at tokens)) h.split near)) h.at)
        | inr d ↦ d
      ])
      (λ r ys w d. inr d)
      s

  -- the token decides, and there is no other way
  pub head : (t : Lexeme) → slice_get tokens at ≡ Some t → Step G F tokens from at (Headed At) → Step G F tokens from (at + 1) (At t)
  head t is s =
      change G F tokens from (at + 1) (λ r zs w. Headed At r (t ∷ zs) w) (At t)
      (λ r zs w stop near h.
      let e : t ∷ zs ≡ h.first ∷ h.others = h.split in
      let same_t : h.first ≡ t = cc in
      let same_zs : h.others ≡ zs = cc in
      subst (λ x. At t r x w) same_zs (subst (λ x. At x r h.others w) same_t h.at))
      (λ r zs w a. record { first = t; others = zs; split = refl; at = a })
      (consume G F tokens from at (Headed At) t is s)

  pub stuck_head : (t : Lexeme) → Closes (At t) → ((t : Lexeme) (r : R) (zs w : List Lexeme) → slice_get tokens at ≡ Some t → At t r zs w → ⊥) → Step G F tokens from at (Headed At) → FailsBy G F tokens from at
  stuck_head t c never s =
      stuck G F tokens from at (Headed At)
      (record { tree = c.tree; more = t ∷ c.more; closed = λ w. record { first = t; others = c.more ++ w; split = refl; at = c.closed w } })
      (λ r ys w stop h near. never h.first r h.others w (near_get tokens at h.first h.others (subst (λ x. Near x (drop at tokens)) h.split near)) h.at)
      s
