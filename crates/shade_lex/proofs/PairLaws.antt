-- Tokens have one list of template lists.
use Rattle.std.proofs.Common.{◌≡◌, ℕ, zero, suc, ◌+◌, ◌<◌, ◌≤◌, List, [], ◌∷◌, ◌++◌, length, Bool, true, false, Option, None, Some, refl, ap, sym, ◌∙◌, arith, subst, inl, inr}
use Rattle.std.specs.Prelude.{◌&&◌, ◌||◌, ◌==◌, slice_get}
use Rattle.std.proofs.lemmas.Bool.Decides.{eqb_tells}
use Rattle.shade_lex.specs.declared.role.Role.{Role}
use Rattle.shade_lex.specs.declared.token.Token.{Token}
use Rattle.shade_lex.specs.Templates.{role_at, is_greater, is_joined, is_reset_role, is_reset, depth, cuts, openers, greaters, IsOpen, IsPair, closes, AreClosers, pairs_from, pair_of, roles_from, HaveOneReading}
use Rattle.shade_lex.proofs.ScanLaws.{same_test, closes_some}

-- ---- what is told of a token hangs on the tokens before it that close

module _ (roles : List Role) (c d : ℕ → Bool) where
  abbrev Same : ℕ → Type 0
  Same n = (j : ℕ) → j < n → c j ≡ d j

  fewer : (n m : ℕ) → m ≤ n → Same n → Same m
  fewer n m le s = λ j lt. s j (omega (arith, le, lt))

  same_reset : (k : ℕ) → Same k → is_reset roles c k ≡ is_reset roles d k
  same_reset zero s = refl
  same_reset (suc k) s = ap (λ (b : Bool). is_reset_role (role_at roles (suc k)) || (is_joined (role_at roles (suc k)) && b)) (s k (omega arith))

  same_depth : (k : ℕ) → Same k → depth roles c k ≡ depth roles d k
  same_depth zero s = refl
  same_depth (suc k) s = rw (same_reset k (fewer (suc k) k (omega arith) s), same_depth k (fewer (suc k) k (omega arith) s)) refl

  same_cuts : (k level : ℕ) → Same k → cuts roles c k level ≡ cuts roles d k level
  same_cuts k level s = rw (same_reset k s, same_depth k s) refl

  same_openers : (i level k : ℕ) → Same k → openers roles c i level k ≡ openers roles d i level k
  same_openers i level zero s = refl
  same_openers i level (suc k) s = rw (same_openers i level k (fewer (suc k) k (omega arith) s), same_depth k (fewer (suc k) k (omega arith) s)) refl

  same_greaters : (i level k : ℕ) → Same k → greaters roles c i level k ≡ greaters roles d i level k
  same_greaters i level zero s = refl
  same_greaters i level (suc k) s = rw (same_greaters i level k (fewer (suc k) k (omega arith) s), same_depth k (fewer (suc k) k (omega arith) s)) refl

  same_open : (i end : ℕ) → Same end → IsOpen roles c i end → IsOpen roles d i end
  same_open i end s o = record { opens = o.opens; before = o.before; uncut = uncut; kept = kept }
    where
      at : depth roles c i ≡ depth roles d i
      at = same_depth i (fewer end i (omega (arith, o.before)) s)

      uncut : (k : ℕ) → i < k → k < end → cuts roles d k (depth roles d i) ≡ false
      uncut k a b = subst (λ (level : ℕ). cuts roles d k level ≡ false) at (sym (same_cuts k (depth roles c i) (fewer end k (omega (arith, b)) s)) ∙ o.uncut k a b)

      kept : (k : ℕ) → k ≤ end → greaters roles d i (depth roles d i) k ≤ openers roles d i (depth roles d i) k
      kept k le = subst (λ (level : ℕ). greaters roles d i level k ≤ openers roles d i level k) at
          (omega (arith, same_greaters i (depth roles c i) k (fewer end k le s), same_openers i (depth roles c i) k (fewer end k le s), o.kept k le))

  same_pair : (i j : ℕ) → Same j → IsPair roles c i j → IsPair roles d i j
  same_pair i j s p = record {
    open_before = same_open i j s p.open_before;
    closer = p.closer;
    level = sym (same_depth j s) ∙ p.level ∙ at;
    even = subst (λ (level : ℕ). greaters roles d i level j ≡ openers roles d i level j) at (sym (same_greaters i (depth roles c i) j s) ∙ p.even ∙ same_openers i (depth roles c i) j s);
  }
    where
      at : depth roles c i ≡ depth roles d i
      at = same_depth i (fewer j i (omega (arith, p.open_before.before)) s)

-- ---- the tokens that close are told from the first on

-- a token that closes is one of the tokens
greater_within : (roles : List Role) (k : ℕ) → is_greater (role_at roles k) ≡ true → k < length roles
greater_within [] k e = cc
greater_within (r ∷ roles) zero e = omega arith
greater_within (r ∷ roles) (suc k) e = omega (arith, greater_within roles k e)

or_true : (a : Bool) → (a || true) ≡ true
or_true true = refl
or_true false = refl

some_closes : (closers : List (Option ℕ)) (i j : ℕ) → slice_get closers i ≡ Some (Some j) → closes closers j ≡ true
some_closes [] i j e = cc
some_closes (None ∷ closers) zero j e = cc
some_closes (Some k ∷ closers) zero j e = let same : k ≡ j = cc in rw (same_test k j same) refl
some_closes (None ∷ closers) (suc i) j e = some_closes closers i j e
some_closes (Some k ∷ closers) (suc i) j e = rw (some_closes closers i j e) (or_true (k == j))

both_ways : (a b : Bool) → (a ≡ true → b ≡ true) → (b ≡ true → a ≡ true) → a ≡ b
both_ways true true f g = refl
both_ways true false f g = sym (f refl)
both_ways false true f g = g refl
both_ways false false f g = refl

module _ (roles : List Role) where
  -- a closer of one list is one of the other, where both agree on the tokens before it
  goes_over : (closers others : List (Option ℕ)) → AreClosers roles closers → AreClosers roles others → (i j : ℕ) → ((k : ℕ) → k < j → closes closers k ≡ closes others k) → slice_get closers i ≡ Some (Some j) → slice_get others i ≡ Some (Some j)
  goes_over closers others a b i j s e =
      let p : IsPair roles (closes closers) i j = a.sound i j e in
      b.complete i j (same_pair roles (closes closers) (closes others) i j s p) (greater_within roles j p.closer)

  forward : (closers others : List (Option ℕ)) → AreClosers roles closers → AreClosers roles others → (n : ℕ) → ((k : ℕ) → k < n → closes closers k ≡ closes others k) → closes closers n ≡ true → closes others n ≡ true
  forward closers others a b n s e =
      let i : (i : ℕ) × (slice_get closers i ≡ Some (Some n)) = closes_some closers n e in
      some_closes others i.0 n (goes_over closers others a b i.0 n s i.1)

  same_below : (closers others : List (Option ℕ)) → AreClosers roles closers → AreClosers roles others → (n j : ℕ) → j < n → closes closers j ≡ closes others j
  same_below closers others a b zero j lt = absurd (omega (arith, lt))
  same_below closers others a b (suc n) j lt = elim (eqb_tells j n) [
    | inl s ↦ subst (λ (k : ℕ). closes closers k ≡ closes others k) (sym s.1) (both_ways (closes closers n) (closes others n) (forward closers others a b n (same_below closers others a b n)) (forward others closers b a n (λ k lt. sym (same_below closers others a b n k lt))))
    | inr o ↦ same_below closers others a b n j (omega (arith, lt, o.1))
  ]

  same_entry : (closers others : List (Option ℕ)) → AreClosers roles closers → AreClosers roles others → (i j : ℕ) → slice_get closers i ≡ Some (Some j) → slice_get others i ≡ Some (Some j)
  same_entry closers others a b i j e = goes_over closers others a b i j (same_below closers others a b j) e

-- ---- the lists

module _ (tokens : List Token) where
  same_pairs : (closers others : List (Option ℕ)) (n : ℕ) → ((i j : ℕ) → slice_get closers i ≡ Some (Some j) → slice_get others i ≡ Some (Some j)) → ((i j : ℕ) → slice_get others i ≡ Some (Some j) → slice_get closers i ≡ Some (Some j)) → pairs_from tokens n closers ≡ pairs_from tokens n others
  same_pairs [] [] n f g = refl
  same_pairs [] (None ∷ others) n f g = same_pairs [] others (n + 1) (λ i j e. cc) (λ i j e. let none : slice_get {X = Option ℕ} [] (suc i) ≡ Some (Some j) = g (suc i) j e in cc)
  same_pairs [] (Some j ∷ others) n f g = let none : slice_get {X = Option ℕ} [] 0 ≡ Some (Some j) = g 0 j refl in cc
  same_pairs (None ∷ closers) [] n f g = same_pairs closers [] (n + 1) (λ i j e. let none : slice_get {X = Option ℕ} [] (suc i) ≡ Some (Some j) = f (suc i) j e in cc) (λ i j e. cc)
  same_pairs (Some j ∷ closers) [] n f g = let none : slice_get {X = Option ℕ} [] 0 ≡ Some (Some j) = f 0 j refl in cc
  same_pairs (None ∷ closers) (None ∷ others) n f g = same_pairs closers others (n + 1) (λ i j e. f (suc i) j e) (λ i j e. g (suc i) j e)
  same_pairs (None ∷ closers) (Some j ∷ others) n f g = let none : slice_get (None ∷ closers) 0 ≡ Some (Some j) = g 0 j refl in cc
  same_pairs (Some j ∷ closers) (None ∷ others) n f g = let none : slice_get (None ∷ others) 0 ≡ Some (Some j) = f 0 j refl in cc
  same_pairs (Some j ∷ closers) (Some k ∷ others) n f g =
      let is : slice_get (Some k ∷ others) 0 ≡ Some (Some j) = f 0 j refl in
      let same : j ≡ k = cc in
      let rest : pairs_from tokens (n + 1) closers ≡ pairs_from tokens (n + 1) others = same_pairs closers others (n + 1) (λ i j e. f (suc i) j e) (λ i j e. g (suc i) j e) in
      λ i. pair_of tokens n (Some (same i)) ++ rest i

pub templates_once : (text : List ℕ) (tokens : List Token) → HaveOneReading text tokens
templates_once text tokens pairs others a b =
    a.are ∙ same_pairs tokens a.closers b.closers 0 (same_entry (roles_from text None tokens) a.closers b.closers a.exact b.exact) (same_entry (roles_from text None tokens) b.closers a.closers b.exact a.exact) ∙ sym b.are
