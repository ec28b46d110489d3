-- The search for template lists keeps exactly the openers that are open, and finds exactly the pairs.
use Rattle.std.proofs.Common.{◌≡◌, ℕ, zero, suc, ◌+◌, ◌<◌, ◌≤◌, List, [], ◌∷◌, length, take, Bool, true, false, Option, None, Some, cond, refl, ap, sym, arith, subst, inl, inr}
use Rattle.std.specs.Prelude.{◌&&◌, ◌||◌, ◌==◌, nat_lt, slice_get, slice_set}
use Rattle.std.proofs.lemmas.Bool.Decides.{eqb_tells, nat_tests}
use Rattle.shade_lex.specs.declared.role.Role.{Role}
use Rattle.shade_lex.specs.declared.role.Role.TheVariants.{Word, Less, Greater, Raise, Lower, Cut, Reset, Joined, Other}
use Rattle.shade_lex.specs.declared.candidate.Candidate.{Candidate}
use Rattle.shade_lex.specs.Templates.{role_at, is_opener, is_less, is_greater, depth, cuts, openers, greaters, IsOpen, IsPair, closes}
use Rattle.shade_lex.specs.Scan.{ScanState}

-- how many candidates stand at a depth
abbrev pub count_at : ℕ → List Candidate → ℕ
count_at e [] = 0
count_at e (c ∷ cs) = count_at e cs + cond (c.depth == e) 1 0

-- a candidate is open, and newer ones of its depth are what it waits for
pub record IsListed (roles : List Role) (closed : ℕ → Bool) (k : ℕ) (c : Candidate) (newer : List Candidate) : Type 0 where
  pub still_open : IsOpen roles closed c.at k
  pub is_level : c.depth ≡ depth roles closed c.at
  pub above : openers roles closed c.at c.depth k ≡ greaters roles closed c.at c.depth k + count_at c.depth newer

pub record IsStack (roles : List Role) (closed : ℕ → Bool) (k : ℕ) (cs : List Candidate) : Type 0 where
  pub listed : (p : ℕ) (c : Candidate) → slice_get cs p ≡ Some c → IsListed roles closed k c (take p cs)
  pub all : (i : ℕ) → IsOpen roles closed i k → (p : ℕ) × (c : Candidate) × (slice_get cs p ≡ Some c) × (c.at ≡ i)
  pub rising : (p q : ℕ) (c d : Candidate) → p < q → slice_get cs p ≡ Some c → slice_get cs q ≡ Some d → d.depth ≤ c.depth
  pub low : (p : ℕ) (c : Candidate) → slice_get cs p ≡ Some c → c.depth ≤ depth roles closed k

pub record IsFoundSo (roles : List Role) (closed : ℕ → Bool) (k : ℕ) (closers : List (Option ℕ)) : Type 0 where
  pub sound : (i j : ℕ) → slice_get closers i ≡ Some (Some j) → IsPair roles closed i j × (j < k)
  pub complete : (i j : ℕ) → j < k → IsPair roles closed i j → slice_get closers i ≡ Some (Some j)

pub record IsScanned (roles : List Role) (closed : ℕ → Bool) (k : ℕ) (s : ScanState) : Type 0 where
  pub level : s.level ≡ depth roles closed k
  pub was : (j : ℕ) → k ≡ suc j → s.closed ≡ closed j
  pub stack : IsStack roles closed k s.candidates
  pub found : IsFoundSo roles closed k s.closers

pub record Agrees (closed : ℕ → Bool) (closers : List (Option ℕ)) (k : ℕ) : Type 0 where
  pub same : (j : ℕ) → j < k → closed j ≡ closes closers j

-- whatever tells the tokens that close, as far as they are found
pub record IsScan (roles : List Role) (k : ℕ) (s : ScanState) : Type 0 where
  pub long : length s.closers ≡ length roles
  pub first : k ≡ 0 → s.closed ≡ false
  pub scanned : (closed : ℕ → Bool) → Agrees closed s.closers k → IsScanned roles closed k s

-- tests
pub and_no : (b : Bool) → (b && false) ≡ false
and_no true = refl
and_no false = refl

pub lt_test : (i k : ℕ) → i < k → nat_lt i k ≡ true
lt_test i k h = grind (arith, nat_tests)

pub same_test : (a b : ℕ) → a ≡ b → (a == b) ≡ true
same_test a b e = elim (eqb_tells a b) [ inl s ↦ s.0 | inr o ↦ absurd (o.1 e) ]

pub differ_test : (a b : ℕ) → (a ≡ b → ⊥) → (a == b) ≡ false
differ_test a b n = elim (eqb_tells a b) [ inl s ↦ absurd (n s.1) | inr o ↦ o.0 ]

-- one token more: what it counts
module _ (roles : List Role) (closed : ℕ → Bool) (k i e : ℕ) where
  pub opener_none : is_opener roles k ≡ false → openers roles closed i e (suc k) ≡ openers roles closed i e k
  opener_none n = rw (n, and_no (nat_lt i k)) (omega arith)

  pub opener_other : (depth roles closed k ≡ e → ⊥) → openers roles closed i e (suc k) ≡ openers roles closed i e k
  opener_other n = rw (differ_test (depth roles closed k) e n, and_no (is_opener roles k), and_no (nat_lt i k)) (omega arith)

  pub opener_one : i < k → is_opener roles k ≡ true → depth roles closed k ≡ e → openers roles closed i e (suc k) ≡ openers roles closed i e k + 1
  opener_one lt o s = rw (lt_test i k lt, o, same_test (depth roles closed k) e s) refl

  pub greater_none : is_greater (role_at roles k) ≡ false → greaters roles closed i e (suc k) ≡ greaters roles closed i e k
  greater_none n = rw (n, and_no (nat_lt i k)) (omega arith)

  pub greater_other : (depth roles closed k ≡ e → ⊥) → greaters roles closed i e (suc k) ≡ greaters roles closed i e k
  greater_other n = rw (differ_test (depth roles closed k) e n, and_no (is_greater (role_at roles k)), and_no (nat_lt i k)) (omega arith)

  pub greater_one : i < k → is_greater (role_at roles k) ≡ true → depth roles closed k ≡ e → greaters roles closed i e (suc k) ≡ greaters roles closed i e k + 1
  greater_one lt g s = rw (lt_test i k lt, g, same_test (depth roles closed k) e s) refl

-- nothing stands between a token and the next
pub greaters_start : (roles : List Role) (closed : ℕ → Bool) (i e n : ℕ) → n ≤ suc i → greaters roles closed i e n ≡ 0
greaters_start roles closed i e zero le = refl
greaters_start roles closed i e (suc n) le =
    let not_after : nat_lt i n ≡ false = grind (arith, nat_tests) in
    rw (greaters_start roles closed i e n (omega (arith, le)), not_after) refl

pub openers_start : (roles : List Role) (closed : ℕ → Bool) (i e n : ℕ) → n ≤ suc i → openers roles closed i e n ≡ 0
openers_start roles closed i e zero le = refl
openers_start roles closed i e (suc n) le =
    let not_after : nat_lt i n ≡ false = grind (arith, nat_tests) in
    rw (openers_start roles closed i e n (omega (arith, le)), not_after) refl

-- what is open after a token was open before it, and is not cut by it
pub open_less : (roles : List Role) (closed : ℕ → Bool) (i k : ℕ) → IsOpen roles closed i (suc k) → i < k → IsOpen roles closed i k × (cuts roles closed k (depth roles closed i) ≡ false)
open_less roles closed i k o lt = (record { opens = o.opens; before = lt; uncut = λ m a b. o.uncut m a (omega (arith, b)); kept = λ n le. o.kept n (omega (arith, le)) }, o.uncut k lt (omega arith))

-- a candidate that is not cut stays
pub keep_listed : (roles : List Role) (closed : ℕ → Bool) (k : ℕ) (c : Candidate) (newer left : List Candidate) → IsListed roles closed k c newer → cuts roles closed k c.depth ≡ false
    → openers roles closed c.at c.depth (suc k) ≡ greaters roles closed c.at c.depth (suc k) + count_at c.depth left → IsListed roles closed (suc k) c left
keep_listed roles closed k c newer left l uncut above = record { still_open = stays; is_level = l.is_level; above = above }
  where
    even : greaters roles closed c.at (depth roles closed c.at) (suc k) ≤ openers roles closed c.at (depth roles closed c.at) (suc k)
    even = subst (λ (e : ℕ). greaters roles closed c.at e (suc k) ≤ openers roles closed c.at e (suc k)) l.is_level (omega (arith, above))

    not_cut : (m : ℕ) → c.at < m → m < suc k → cuts roles closed m (depth roles closed c.at) ≡ false
    not_cut m a b = elim (eqb_tells m k) [
      | inl s ↦ subst (λ (n : ℕ). cuts roles closed n (depth roles closed c.at) ≡ false) (sym s.1) (subst (λ (e : ℕ). cuts roles closed k e ≡ false) l.is_level uncut)
      | inr o ↦ l.still_open.uncut m a (omega (arith, b, o.1))
    ]

    kept : (n : ℕ) → n ≤ suc k → greaters roles closed c.at (depth roles closed c.at) n ≤ openers roles closed c.at (depth roles closed c.at) n
    kept n le = elim (eqb_tells n (suc k)) [
      | inl s ↦ subst (λ (m : ℕ). greaters roles closed c.at (depth roles closed c.at) m ≤ openers roles closed c.at (depth roles closed c.at) m) (sym s.1) even
      | inr o ↦ l.still_open.kept n (omega (arith, le, o.1))
    ]

    stays : IsOpen roles closed c.at (suc k)
    stays = record { opens = l.still_open.opens; before = omega (arith, l.still_open.before); uncut = not_cut; kept = kept }

-- a pair ends its list
pub pair_ends : (roles : List Role) (closed : ℕ → Bool) (i j k : ℕ) → is_opener roles j ≡ false → IsPair roles closed i j → IsOpen roles closed i k → j < k → ⊥
pair_ends roles closed i j k n p o lt =
    let kept : greaters roles closed i (depth roles closed i) (suc j) ≤ openers roles closed i (depth roles closed i) (suc j) = o.kept (suc j) lt in
    let more : greaters roles closed i (depth roles closed i) (suc j) ≡ greaters roles closed i (depth roles closed i) j + 1 = greater_one roles closed j i (depth roles closed i) p.open_before.before p.closer p.level in
    let same : openers roles closed i (depth roles closed i) (suc j) ≡ openers roles closed i (depth roles closed i) j = opener_none roles closed j i (depth roles closed i) n in
    omega (arith, kept, more, same, p.even)

-- a `>` is no opener
pub greater_is_no_opener : (roles : List Role) (j : ℕ) → is_greater (role_at roles j) ≡ true → is_opener roles j ≡ false
greater_is_no_opener roles zero g = refl
greater_is_no_opener roles (suc j) g = rw (no_less (role_at roles (suc j)) g) refl
  where
    no_less : (r : Role) → is_greater r ≡ true → is_less r ≡ false
    no_less Greater e = refl
    no_less Less e = cc
    no_less Word e = cc
    no_less Raise e = cc
    no_less Lower e = cc
    no_less Cut e = cc
    no_less Reset e = cc
    no_less Joined e = cc
    no_less Other e = cc

-- a token closes where some token is closed by it
pub closes_some : (closers : List (Option ℕ)) (j : ℕ) → closes closers j ≡ true → (i : ℕ) × (slice_get closers i ≡ Some (Some j))
closes_some [] j e = cc
closes_some (None ∷ closers) j e = let s : (i : ℕ) × (slice_get closers i ≡ Some (Some j)) = closes_some closers j e in (suc s.0, s.1)
closes_some (Some n ∷ closers) j e = by (n == j) refl e (λ (t : closes closers j ≡ true). closes_some closers j t)
  where
    by : (b : Bool) → (n == j) ≡ b → (b || closes closers j) ≡ true → (closes closers j ≡ true → (i : ℕ) × (slice_get closers i ≡ Some (Some j))) → (i : ℕ) × (slice_get (Some n ∷ closers) i ≡ Some (Some j))
    by true is t f = elim (eqb_tells n j) [ inl s ↦ (0, ap (λ (m : ℕ). Some (Some m)) s.1) | inr o ↦ cc (o.0, is) ]
    by false is t f = let s : (i : ℕ) × (slice_get closers i ≡ Some (Some j)) = f t in (suc s.0, s.1)

pub closes_set : (closers : List (Option ℕ)) (a k j : ℕ) → slice_get closers a ≡ Some None → closes (slice_set closers a (Some k)) j ≡ (k == j || closes closers j)
closes_set [] a k j e = cc
closes_set (None ∷ closers) zero k j e = refl
closes_set (Some n ∷ closers) zero k j e = cc
closes_set (None ∷ closers) (suc a) k j e = closes_set closers a k j e
closes_set (Some n ∷ closers) (suc a) k j e = rw (closes_set closers a k j e) (swapped (n == j) (k == j) (closes closers j))
  where
    swapped : (x y z : Bool) → (x || (y || z)) ≡ (y || (x || z))
    swapped true true z = refl
    swapped true false z = refl
    swapped false true z = refl
    swapped false false z = refl

-- nothing found so far closes at a later token
pub not_closed : (roles : List Role) (closed : ℕ → Bool) (k : ℕ) (closers : List (Option ℕ)) → IsFoundSo roles closed k closers → closes closers k ≡ false
not_closed roles closed k closers f = by (closes closers k) refl
  where
    by : (b : Bool) → closes closers k ≡ b → closes closers k ≡ false
    by true e = let s : (i : ℕ) × (slice_get closers i ≡ Some (Some k)) = closes_some closers k e in absurd (omega (arith, (f.sound s.0 k s.1).1))
    by false e = e
