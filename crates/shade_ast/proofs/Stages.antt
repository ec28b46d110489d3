-- A phrase while it is read: what every phrase that begins with the tokens read has still to spell.
use Rattle.std.proofs.Common.{◌≡◌, refl, sym, ap, ◌∙◌, subst, ℕ, zero, suc, ◌+◌, ◌<◌, ◌≤◌, ◌⊎◌, inl, inr, List, [], ◌∷◌, ◌++◌, length, drop, arith, append_assoc, Some, slice_get}
use Rattle.std.proofs.lemmas.List.{drop_more}
use Rattle.std.proofs.lemmas.Option.{slice_get_within, get_or_from_slice_get}
use Rattle.shade_ast.specs.Lexemes.{Lexeme}
use Rattle.shade_ast.specs.Reads.{Near, Reads, Fails, rank, rank_of}
use Rattle.shade_ast.specs.Chains.{After, Then, Ends}

-- one token, and the rest
pub one_token : (ts : List Lexeme) (i : ℕ) (t : Lexeme) → slice_get ts i ≡ Some t → drop i ts ≡ t ∷ drop (i + 1) ts
one_token ts i t is = drop_more ts i t (slice_get_within ts i t is) ∙ ap (λ u. u ∷ drop (i + 1) ts) (get_or_from_slice_get ts i t t is)

pub near_append : (us ys rest : List Lexeme) → Near ys rest → Near (us ++ ys) (us ++ rest)
near_append [] ys rest n = n
near_append (u ∷ us) ys rest n = refl

-- a token that is near stands at the place
pub near_get : (ts : List Lexeme) (i : ℕ) (t : Lexeme) (zs : List Lexeme) → Near (t ∷ zs) (drop i ts) → slice_get ts i ≡ Some t
near_get [] zero t zs n = absurd n
near_get (u ∷ ts) zero t zs n = ap Some (sym n)
near_get [] (suc i) t zs n = absurd n
near_get (u ∷ ts) (suc i) t zs n = near_get ts i t zs n

-- some tokens end it
pub record Closes {R : Type 0} (C : R → List Lexeme → List Lexeme → Type 0) : Type 0 where
  pub tree : R
  pub more : List Lexeme
  pub closed : (w : List Lexeme) → C tree (more ++ w) w

pub closes_end : {R : Type 0} (e : R) → Closes (Ends e)
closes_end e = record { tree = e; more = []; closed = λ w. record { same = refl; left = refl } }

pub closes_after : {R S : Type 0} (B : S → List Lexeme → List Lexeme → Type 0) (C : S → R → List Lexeme → List Lexeme → Type 0) → Closes B → ((b : S) → Closes (C b)) → Closes (After B C)
closes_after B C b c =
    let d = c b.tree in
    record {
      tree = d.tree;
      more = b.more ++ d.more;
      closed = λ w. record { part = b.tree; others = d.more ++ w; phrase = subst (λ x. B b.tree x (d.more ++ w)) (sym (append_assoc b.more d.more w)) (b.closed (d.more ++ w)); rest = d.closed w };
    }

pub closes_then : {R : Type 0} (t : Lexeme) (C : R → List Lexeme → List Lexeme → Type 0) → Closes C → Closes (Then t C)
closes_then t C c = record { tree = c.tree; more = t ∷ c.more; closed = λ w. record { others = c.more ++ w; split = refl; rest = c.closed w } }

pub closes_change : {R : Type 0} (C D : R → List Lexeme → List Lexeme → Type 0) → ((r : R) (ys w : List Lexeme) → C r ys w → D r ys w) → Closes C → Closes D
closes_change C D f c = record { tree = c.tree; more = c.more; closed = λ w. f c.tree (c.more ++ w) w (c.closed w) }

pub ends_stops : {R : Type 0} (n m : ℕ) (e r : R) (zs w : List Lexeme) → m ≤ n → n < rank w → Ends e r zs w → m < rank zs
ends_stops n m e r zs w le stop c = subst (λ x. m < rank x) (sym c.left) (omega arith)

pub then_stops : {R : Type 0} (m : ℕ) (t : Lexeme) (C : R → List Lexeme → List Lexeme → Type 0) → m < rank_of t → (r : R) (zs w : List Lexeme) → Then t C r zs w → m < rank zs
then_stops m t C low r zs w c = subst (λ x. m < rank x) (sym c.split) low

-- `C` says what is left of a phrase of `G` behind the tokens from one place to another: whatever `C` has makes such a phrase,
-- and every phrase that begins with these tokens takes that way.
pub record Stage {R : Type 0} (G : R → List Lexeme → List Lexeme → Type 0) (n : ℕ) (tokens : List Lexeme) (from at : ℕ) (C : R → List Lexeme → List Lexeme → Type 0) : Type 0 where
  pub low : from ≤ at
  pub high : at ≤ length tokens
  pub us : List Lexeme
  pub spelled : drop from tokens ≡ us ++ drop at tokens
  pub back : (r : R) (ys w : List Lexeme) → C r ys w → G r (us ++ ys) w
  pub leads : (r : R) (ys w : List Lexeme) → G r (us ++ ys) w → n < rank w → Near ys (drop at tokens) → C r ys w

module _ {R : Type 0} (G : R → List Lexeme → List Lexeme → Type 0) (n : ℕ) (tokens : List Lexeme) (from : ℕ) where
  pub begin : from ≤ length tokens → Stage G n tokens from from G
  begin h = record { low = omega arith; high = h; us = []; spelled = refl; back = λ r ys w g. g; leads = λ r ys w g stop near. g }

  -- the same, said otherwise
  pub change : (at : ℕ) (C D : R → List Lexeme → List Lexeme → Type 0) → ((r : R) (ys w : List Lexeme) → n < rank w → Near ys (drop at tokens) → C r ys w → D r ys w) → ((r : R) (ys w : List Lexeme) → D r ys w → C r ys w) → Stage G n tokens from at C → Stage G n tokens from at D
  change at C D f b s = record {
    low = s.low;
    high = s.high;
    us = s.us;
    spelled = s.spelled;
    back = λ r ys w d. s.back r ys w (b r ys w d);
    leads = λ r ys w g stop near. f r ys w stop near (s.leads r ys w g stop near);
  }

  -- a token is read
  pub consume : (at : ℕ) (C : R → List Lexeme → List Lexeme → Type 0) (t : Lexeme) → slice_get tokens at ≡ Some t → Stage G n tokens from at C → Stage G n tokens from (at + 1) (λ r zs w. C r (t ∷ zs) w)
  consume at C t is s = record {
    low = omega (arith, s.low);
    high = let lt : at < length tokens = slice_get_within tokens at t is in omega arith;
    us = s.us ++ t ∷ [];
    spelled = s.spelled ∙ ap (λ xs. s.us ++ xs) (one_token tokens at t is) ∙ sym (append_assoc s.us (t ∷ []) (drop (at + 1) tokens));
    back = λ r zs w c. subst (λ x. G r x w) (sym (append_assoc s.us (t ∷ []) zs)) (s.back r (t ∷ zs) w c);
    leads =
        λ r ys w g stop near.
        s.leads r (t ∷ ys) w (subst (λ x. G r x w) (append_assoc s.us (t ∷ []) ys) g) stop (subst (Near (t ∷ ys)) (sym (one_token tokens at t is)) refl);
  }

  pub consume_then : (at : ℕ) (t : Lexeme) (C : R → List Lexeme → List Lexeme → Type 0) → slice_get tokens at ≡ Some t → Stage G n tokens from at (Then t C) → Stage G n tokens from (at + 1) C
  consume_then at t C is s =
      change
      (at + 1)
      (λ r zs w. Then t C r (t ∷ zs) w)
      C
      (λ r ys w stop near c. subst (λ x. C r x w) (let e : t ∷ ys ≡ t ∷ c.others = c.split in let f : c.others ≡ ys = cc in f) c.rest)
      (λ r ys w d. record { others = ys; split = refl; rest = d })
      (consume at (Then t C) t is s)

  -- a phrase is read, or fails
  module _ {S : Type 0} (B : S → List Lexeme → List Lexeme → Type 0) (m : ℕ) (C : S → R → List Lexeme → List Lexeme → Type 0) (stops : (b : S) (r : R) (zs w : List Lexeme) → n < rank w → C b r zs w → m < rank zs) (at to : ℕ) where
    pub phrase : (b : S) → Stage G n tokens from at (After B C) → Reads B m tokens at b to → Stage G n tokens from to (C b)
    phrase b s p = record {
      low = omega (arith, s.low, p.low);
      high = p.high;
      us = s.us ++ p.us;
      spelled = s.spelled ∙ ap (λ xs. s.us ++ xs) p.spelled ∙ sym (append_assoc s.us p.us (drop to tokens));
      back = λ r ys w c. subst (λ x. G r x w) (sym (append_assoc s.us p.us ys)) (s.back r (p.us ++ ys) w (record { part = b; others = ys; phrase = p.phrase ys; rest = c }));
      leads =
          λ r ys w g stop near.
          let a : After B C r (p.us ++ ys) w = s.leads r (p.us ++ ys) w (subst (λ x. G r x w) (append_assoc s.us p.us ys) g) stop (subst (Near (p.us ++ ys)) (sym p.spelled) (near_append p.us ys (drop to tokens) near)) in
          let o : (a.part ≡ b) × (ys ≡ a.others) = p.only a.part ys a.others a.phrase (stops a.part r a.others w stop a.rest) near in
          subst (λ x. C b r x w) (sym o.1) (subst (λ x. C x r a.others w) o.0 a.rest);
    }

    pub phrase_fails : ((b : S) → Closes (C b)) → Stage G n tokens from at (After B C) → Fails B m tokens at to → Fails G n tokens from to
    phrase_fails ends s f = record {
      low = omega (arith, s.low, f.low);
      high = f.high;
      us = s.us ++ f.us;
      spelled = s.spelled ∙ ap (λ xs. s.us ++ xs) f.spelled ∙ sym (append_assoc s.us f.us (drop to tokens));
      begun =
          let b : S = f.begun.0 in
          let ys : List Lexeme = f.begun.1 in
          let e : Closes (C b) = ends b in (
            e.tree,
            ys ++ e.more,
            λ w.
                subst (λ x. G e.tree x w)
                (ap (λ x. s.us ++ (f.us ++ x)) (sym (append_assoc ys e.more w)) ∙ sym (append_assoc s.us f.us ((ys ++ e.more) ++ w)))
                (s.back e.tree (f.us ++ (ys ++ (e.more ++ w))) w (record { part = b; others = e.more ++ w; phrase = f.begun.2 (e.more ++ w); rest = e.closed w })),
          );
      none =
          λ r ys w g stop near.
          let a : After B C r (f.us ++ ys) w = s.leads r (f.us ++ ys) w (subst (λ x. G r x w) (append_assoc s.us f.us ys) g) stop (subst (Near (f.us ++ ys)) (sym f.spelled) (near_append f.us ys (drop to tokens) near)) in
          f.none a.part ys a.others a.phrase (stops a.part r a.others w stop a.rest) near;
    }

    -- The same where another way was still open, which what was read rules out.
    module _ (D : R → List Lexeme → List Lexeme → Type 0) (s : Stage G n tokens from at (λ r ys w. After B C r ys w ⊎ D r ys w)) where
      pub phrase_or : (b : S) (p : Reads B m tokens at b to) → ((r : R) (ys w : List Lexeme) → n < rank w → D r (p.us ++ ys) w → Near ys (drop to tokens) → ⊥) → Stage G n tokens from to (C b)
      phrase_or b p never = record {
        low = omega (arith, s.low, p.low);
        high = p.high;
        us = s.us ++ p.us;
        spelled = s.spelled ∙ ap (λ xs. s.us ++ xs) p.spelled ∙ sym (append_assoc s.us p.us (drop to tokens));
        back = λ r ys w c. subst (λ x. G r x w) (sym (append_assoc s.us p.us ys)) (s.back r (p.us ++ ys) w (inl (record { part = b; others = ys; phrase = p.phrase ys; rest = c })));
        leads =
            λ r ys w g stop near.
            elim (s.leads r (p.us ++ ys) w (subst (λ x. G r x w) (append_assoc s.us p.us ys) g) stop (subst (Near (p.us ++ ys)) (sym p.spelled) (near_append p.us ys (drop to tokens) near))) [
              | inl a ↦
                  (let o : (a.part ≡ b) × (ys ≡ a.others) = p.only a.part ys a.others a.phrase (stops a.part r a.others w stop a.rest) near in
                  subst (λ x. C b r x w) (sym o.1) (subst (λ x. C x r a.others w) o.0 a.rest))
              | inr d ↦ absurd (never r ys w stop d near)
            ];
      }

      pub phrase_or_fails : ((b : S) → Closes (C b)) → (f : Fails B m tokens at to) → ((r : R) (ys w : List Lexeme) → n < rank w → D r (f.us ++ ys) w → Near ys (drop to tokens) → ⊥) → Fails G n tokens from to
      phrase_or_fails ends f never = record {
        low = omega (arith, s.low, f.low);
        high = f.high;
        us = s.us ++ f.us;
        spelled = s.spelled ∙ ap (λ xs. s.us ++ xs) f.spelled ∙ sym (append_assoc s.us f.us (drop to tokens));
        begun =
            let b : S = f.begun.0 in
            let ys : List Lexeme = f.begun.1 in
            let e : Closes (C b) = ends b in (
              e.tree,
              ys ++ e.more,
              λ w.
                  subst (λ x. G e.tree x w)
                  (ap (λ x. s.us ++ (f.us ++ x)) (sym (append_assoc ys e.more w)) ∙ sym (append_assoc s.us f.us ((ys ++ e.more) ++ w)))
                  (s.back e.tree (f.us ++ (ys ++ (e.more ++ w))) w (inl (record { part = b; others = e.more ++ w; phrase = f.begun.2 (e.more ++ w); rest = e.closed w }))),
            );
        none =
            λ r ys w g stop near.
            elim (s.leads r (f.us ++ ys) w (subst (λ x. G r x w) (append_assoc s.us f.us ys) g) stop (subst (Near (f.us ++ ys)) (sym f.spelled) (near_append f.us ys (drop to tokens) near))) [
              | inl a ↦ f.none a.part ys a.others a.phrase (stops a.part r a.others w stop a.rest) near
              | inr d ↦ never r ys w stop d near
            ];
      }

  -- no phrase goes on with the token here
  pub stuck : (at : ℕ) (C : R → List Lexeme → List Lexeme → Type 0) → Closes C → ((s : R) (ys w : List Lexeme) → n < rank w → C s ys w → Near ys (drop at tokens) → ⊥) → Stage G n tokens from at C → Fails G n tokens from at
  stuck at C e no_way s = record {
    low = s.low;
    high = s.high;
    us = s.us;
    spelled = s.spelled;
    begun = (e.tree, e.more, λ w. s.back e.tree (e.more ++ w) w (e.closed w));
    none = λ r ys w g stop near. no_way r ys w stop (s.leads r ys w g stop near) near;
  }

  pub stuck_then : (at : ℕ) (t : Lexeme) (C : R → List Lexeme → List Lexeme → Type 0) → Closes C → (slice_get tokens at ≡ Some t → ⊥) → Stage G n tokens from at (Then t C) → Fails G n tokens from at
  stuck_then at t C c isnt s = stuck at (Then t C) (closes_then t C c) (λ r ys w stop d near. isnt (near_get tokens at t d.others (subst (λ x. Near x (drop at tokens)) d.split near))) s

  -- nothing more is left
  pub finish : (at : ℕ) (C : R → List Lexeme → List Lexeme → Type 0) (e : R) → ((w : List Lexeme) → C e w w) → ((s : R) (ys w : List Lexeme) → n < rank w → C s ys w → Near ys (drop at tokens) → (s ≡ e) × (ys ≡ w)) → Stage G n tokens from at C → Reads G n tokens from e at
  finish at C e c only_way s = record {
    low = s.low;
    high = s.high;
    us = s.us;
    spelled = s.spelled;
    phrase = λ w. s.back e w w (c w);
    only = λ q ys w g stop near. only_way q ys w stop (s.leads q ys w g stop near) near;
  }

  pub finish_ends : (at : ℕ) (e r : R) → e ≡ r → Stage G n tokens from at (Ends r) → Reads G n tokens from e at
  finish_ends at e r same s = finish at (Ends r) e (λ w. record { same = same; left = refl }) (λ q ys w stop c near. (c.same ∙ sym same, c.left)) s

  -- its last token is read
  pub finish_then : (at : ℕ) (t : Lexeme) (e r : R) → e ≡ r → slice_get tokens at ≡ Some t → Stage G n tokens from at (Then t (Ends r)) → Reads G n tokens from e (at + 1)
  finish_then at t e r same is s = finish_ends (at + 1) e r same (consume_then at t (Ends r) is s)

  -- a phrase of one token
  pub single : (e : R) (t : Lexeme) → slice_get tokens from ≡ Some t → ((w : List Lexeme) → G e (t ∷ w) w) → ((s : R) (ys w : List Lexeme) → G s (t ∷ ys) w → (s ≡ e) × (ys ≡ w)) → Reads G n tokens from e (from + 1)
  single e t is g only = record {
    low = omega arith;
    high = let lt : from < length tokens = slice_get_within tokens from t is in omega arith;
    us = t ∷ [];
    spelled = one_token tokens from t is;
    phrase = g;
    only = λ s ys w p stop near. only s ys w p;
  }

  pub single_fails : from ≤ length tokens → Closes G → ((s : R) (ys w : List Lexeme) → n < rank w → G s ys w → Near ys (drop from tokens) → ⊥) → Fails G n tokens from from
  single_fails h e no_way = stuck from G e no_way (begin h)

  -- a phrase that is one of another production
  pub reads_as : {S : Type 0} (B : S → List Lexeme → List Lexeme → Type 0) (m : ℕ) → m ≤ n → (f : S → R) → ((b : S) (ts w : List Lexeme) → B b ts w → G (f b) ts w) → ((r : R) (ts w : List Lexeme) → G r ts w → n < rank w → (b : S) × (r ≡ f b) × B b ts w) → (to : ℕ) (b : S) → Reads B m tokens from b to → Reads G n tokens from (f b) to
  reads_as B m le f there here to b p = record {
    low = p.low;
    high = p.high;
    us = p.us;
    spelled = p.spelled;
    phrase = λ w. there b (p.us ++ w) w (p.phrase w);
    only =
        λ s ys w g stop near.
        let h : (c : _) × (s ≡ f c) × B c (p.us ++ ys) w = here s (p.us ++ ys) w g stop in
        let o : (h.0 ≡ b) × (ys ≡ w) = p.only h.0 ys w h.2 (omega arith) near in
        (h.1 ∙ ap f o.0, o.1);
  }
