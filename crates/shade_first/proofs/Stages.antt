-- A phrase while it is read: what every phrase that begins with the tokens read has still to spell.
use Rattle.std.proofs.Common.{◌≡◌, refl, sym, ap, ◌∙◌, subst, ℕ, zero, suc, ◌+◌, ◌<◌, ◌≤◌, List, [], ◌∷◌, ◌++◌, length, drop, arith, append_assoc, Some, slice_get}
use Rattle.std.proofs.lemmas.List.{drop_more}
use Rattle.std.proofs.lemmas.Option.{slice_get_within, get_or_from_slice_get}
use Rattle.shade_first.specs.declared.token.Token.{Token}
use Rattle.shade_first.specs.Reads.{Near, Reads, Fails}

-- one token, and the rest
pub one_token : (ts : List Token) (i : ℕ) (t : Token) → slice_get ts i ≡ Some t → drop i ts ≡ t ∷ drop (i + 1) ts
one_token ts i t is = drop_more ts i t (slice_get_within ts i t is) ∙ ap (λ u. u ∷ drop (i + 1) ts) (get_or_from_slice_get ts i t t is)

pub append-nil : (us : List Token) → us ++ [] ≡ us
append-nil [] = refl
append-nil (u ∷ us) = ap (λ vs. u ∷ vs) (append-nil us)

pub near_append : (us ys rest : List Token) → Near ys rest → Near (us ++ ys) (us ++ rest)
near_append [] ys rest n = n
near_append (u ∷ us) ys rest n = refl

-- a token that is near stands at the place
pub near_get : (ts : List Token) (i : ℕ) (t : Token) (zs : List Token) → Near (t ∷ zs) (drop i ts) → slice_get ts i ≡ Some t
near_get [] zero t zs n = absurd n
near_get (u ∷ ts) zero t zs n = ap Some (sym n)
near_get [] (suc i) t zs n = absurd n
near_get (u ∷ ts) (suc i) t zs n = near_get ts i t zs n

-- a phrase, and then what depends on it
pub record After {R S : Type 0} (B : S → List Token → List Token → Type 0) (C : S → R → List Token → List Token → Type 0) (r : R) (ys w : List Token) : Type 0 where
  pub part : S
  pub others : List Token
  pub phrase : B part ys others
  pub rest : C part r others w

pub record Ends {R : Type 0} (e r : R) (ys w : List Token) : Type 0 where
  pub same : r ≡ e
  pub left : ys ≡ w

-- some tokens end it
pub record Closes {R : Type 0} (C : R → List Token → List Token → Type 0) : Type 0 where
  pub tree : R
  pub more : List Token
  pub closed : (w : List Token) → C tree (more ++ w) w

pub closes_end : {R : Type 0} (e : R) → Closes (Ends e)
closes_end e = record { tree = e; more = []; closed = λ w. record { same = refl; left = refl } }

pub closes_after : {R S : Type 0} (B : S → List Token → List Token → Type 0) (C : S → R → List Token → List Token → Type 0) → Closes B → ((b : S) → Closes (C b)) → Closes (After B C)
closes_after B C b c =
    let d = c b.tree in
    record {
      tree = d.tree;
      more = b.more ++ d.more;
      closed = λ w. record { part = b.tree; others = d.more ++ w; phrase = subst (λ x. B b.tree x (d.more ++ w)) (sym (append_assoc b.more d.more w)) (b.closed (d.more ++ w)); rest = d.closed w };
    }

pub record Stage {R : Type 0} (G : R → List Token → List Token → Type 0) (tokens : List Token) (from at : ℕ) (C : R → List Token → List Token → Type 0) : Type 0 where
  pub low : from ≤ at
  pub high : at ≤ length tokens
  pub us : List Token
  pub spelled : drop from tokens ≡ us ++ drop at tokens
  pub back : (r : R) (ys w : List Token) → C r ys w → G r (us ++ ys) w
  pub leads : (r : R) (ys w : List Token) → G r (us ++ ys) w → Near ys (drop at tokens) → C r ys w

module _ {R : Type 0} (G : R → List Token → List Token → Type 0) (tokens : List Token) (from : ℕ) where
  pub begin : from ≤ length tokens → Stage G tokens from from G
  begin h = record { low = omega arith; high = h; us = []; spelled = refl; back = λ r ys w g. g; leads = λ r ys w g near. g }

  pub change : (at : ℕ) (C D : R → List Token → List Token → Type 0) → ((r : R) (ys w : List Token) → C r ys w → Near ys (drop at tokens) → D r ys w) → ((r : R) (ys w : List Token) → D r ys w → C r ys w) → Stage G tokens from at C → Stage G tokens from at D
  change at C D f b s = record {
    low = s.low;
    high = s.high;
    us = s.us;
    spelled = s.spelled;
    back = λ r ys w d. s.back r ys w (b r ys w d);
    leads = λ r ys w g near. f r ys w (s.leads r ys w g near) near;
  }

  module _ {S : Type 0} (B : S → List Token → List Token → Type 0) (C : S → R → List Token → List Token → Type 0) (at to : ℕ) where
    pub phrase : (b : S) → Stage G tokens from at (After B C) → Reads B tokens at b to → Stage G tokens from to (C b)
    phrase b s p = record {
      low = omega (arith, s.low, p.low);
      high = p.high;
      us = s.us ++ p.us;
      spelled = s.spelled ∙ ap (λ xs. s.us ++ xs) p.spelled ∙ sym (append_assoc s.us p.us (drop to tokens));
      back = λ r ys w c. subst (λ x. G r x w) (sym (append_assoc s.us p.us ys)) (s.back r (p.us ++ ys) w (record { part = b; others = ys; phrase = p.phrase ys; rest = c }));
      leads =
          λ r ys w g near.
          let a : After B C r (p.us ++ ys) w = s.leads r (p.us ++ ys) w (subst (λ x. G r x w) (append_assoc s.us p.us ys) g) (subst (Near (p.us ++ ys)) (sym p.spelled) (near_append p.us ys (drop to tokens) near)) in
          let o : (a.part ≡ b) × (ys ≡ a.others) = p.only a.part ys a.others a.phrase near in
          subst (λ x. C b r x w) (sym o.1) (subst (λ x. C x r a.others w) o.0 a.rest);
    }

    pub phrase_fails : ((b : S) → Closes (C b)) → Stage G tokens from at (After B C) → Fails B tokens at to → Fails G tokens from to
    phrase_fails ends s f = record {
      low = omega (arith, s.low, f.low);
      high = f.high;
      us = s.us ++ f.us;
      spelled = s.spelled ∙ ap (λ xs. s.us ++ xs) f.spelled ∙ sym (append_assoc s.us f.us (drop to tokens));
      begun =
          let b : S = f.begun.0 in
          let ys : List Token = f.begun.1 in
          let e : Closes (C b) = ends b in (
            e.tree,
            ys ++ e.more,
            λ w.
                subst (λ x. G e.tree x w)
                (ap (λ x. s.us ++ (f.us ++ x)) (sym (append_assoc ys e.more w)) ∙ sym (append_assoc s.us f.us ((ys ++ e.more) ++ w)))
                (s.back e.tree (f.us ++ (ys ++ (e.more ++ w))) w (record { part = b; others = e.more ++ w; phrase = f.begun.2 (e.more ++ w); rest = e.closed w })),
          );
      none =
          λ r ys w g near.
          let a : After B C r (f.us ++ ys) w = s.leads r (f.us ++ ys) w (subst (λ x. G r x w) (append_assoc s.us f.us ys) g) (subst (Near (f.us ++ ys)) (sym f.spelled) (near_append f.us ys (drop to tokens) near)) in
          f.none a.part ys a.others a.phrase near;
    }

  pub stuck : (at : ℕ) (C : R → List Token → List Token → Type 0) → Closes C → ((s : R) (ys w : List Token) → C s ys w → Near ys (drop at tokens) → ⊥) → Stage G tokens from at C → Fails G tokens from at
  stuck at C e no_way s = record {
    low = s.low;
    high = s.high;
    us = s.us;
    spelled = s.spelled;
    begun = (e.tree, e.more, λ w. s.back e.tree (e.more ++ w) w (e.closed w));
    none = λ r ys w g near. no_way r ys w (s.leads r ys w g near) near;
  }

  pub finish : (at : ℕ) (e r : R) → e ≡ r → Stage G tokens from at (Ends r) → Reads G tokens from e at
  finish at e r same s = record {
    low = s.low;
    high = s.high;
    us = s.us;
    spelled = s.spelled;
    phrase = λ w. s.back e w w (record { same = same; left = refl });
    only = λ q ys w g near. let c : Ends r q ys w = s.leads q ys w g near in (c.same ∙ sym same, c.left);
  }

-- a phrase of one token
module _ {R : Type 0} (G : R → List Token → List Token → Type 0) (tokens : List Token) (from : ℕ) where
  pub single : (e : R) (t : Token) → slice_get tokens from ≡ Some t → ((w : List Token) → G e (t ∷ w) w) → ((s : R) (ys w : List Token) → G s (t ∷ ys) w → (s ≡ e) × (ys ≡ w)) → Reads G tokens from e (from + 1)
  single e t is g only = record {
    low = omega arith;
    high = let lt : from < length tokens = slice_get_within tokens from t is in omega arith;
    us = t ∷ [];
    spelled = one_token tokens from t is;
    phrase = g;
    only = λ s ys w p near. only s ys w p;
  }

  pub single_fails : from ≤ length tokens → Closes G → ((s : R) (ys w : List Token) → G s ys w → Near ys (drop from tokens) → ⊥) → Fails G tokens from from
  single_fails h e no_way = stuck G tokens from from G e no_way (begin G tokens from h)
