-- A rule states one thing, or fails at one pointer, and never both.
use Rattle.std.proofs.Common.{◌≡◌, refl, sym, ap, ◌∙◌, subst, ℕ, zero, suc, ◌+◌, ◌<◌, ◌⊎◌, inl, inr, true, List, [], ◌∷◌, map, length, get_or, is_some, Option, Some, None, arith, MatchOption}
use Rattle.std.proofs.lemmas.Bool.Decides.{eqb_tells}
use Rattle.serde_json.specs.Data.{Data}
use Rattle.shade_job.specs.declared.refusal.JobRule.{JobRule}
use Rattle.shade_job.specs.Json.{IsFirstNone, ItemFails, PartsAre, PartsFail}
use Rattle.shade_job.specs.Pointers.{item_pointer}
use Rattle.shade_job.specs.JobOf.{Either}

pub record Decides {A : Type 0} (Is : A → Type 0) (Fails : List ℕ → Type 0) : Type 0 where
  pub one : (a b : A) → Is a → Is b → a ≡ b
  pub never : (a : A) (p : List ℕ) → Is a → Fails p → ⊥
  pub at : (p q : List ℕ) → Fails p → Fails q → p ≡ q

pub some_one : {A : Type 0} (a b : A) → Some a ≡ Some b → a ≡ b
some_one a b e = cc

pub none_some : {A : Type 0} (a : A) → None ≡ Some a → ⊥
none_some a e = cc

-- what an option has, or the pointer where it has none
pub option_decides : {A : Type 0} (o : Option A) (base : List ℕ) → Decides (λ (a : A). o ≡ Some a) (λ (p : List ℕ). (o ≡ None) × (p ≡ base))
option_decides {A} o base = record {
  one = λ a b h k. some_one a b (sym h ∙ k);
  never = λ a p h k. none_some a (sym k.0 ∙ h);
  at = λ p q h k. h.1 ∙ sym k.1;
}

-- a value that there must be, and what it states
pub inner_decides : {A B : Type 0} (o : Option B) (base : List ℕ) (Is : B → A → Type 0) (Fails : B → List ℕ → Type 0) → ((d : B) → Decides (Is d) (Fails d)) → Decides (λ (a : A). MatchOption o ⊥ (λ d. Is d a)) (λ (p : List ℕ). MatchOption o (p ≡ base) (λ d. Fails d p))
inner_decides None base Is Fails decides = record { one = λ a b h k. absurd h; never = λ a p h k. h; at = λ p q h k. h ∙ sym k }
inner_decides (Some d) base Is Fails decides = record { one = λ a b h k. (decides d).one a b h k; never = λ a p h k. (decides d).never a p h k; at = λ p q h k. (decides d).at p q h k }

-- the same of what is made of it
pub made_decides : {A B : Type 0} (make : A → B) (Is : A → Type 0) (Fails : List ℕ → Type 0) → Decides Is Fails → Decides (λ (b : B). (a : A) × Is a × (b ≡ make a)) Fails
made_decides make Is Fails decides = record {
  one = λ a b h k. h.2 ∙ (ap make (decides.one h.0 k.0 h.1 k.1) ∙ sym k.2);
  never = λ a p h k. decides.never h.0 p h.1 k;
  at = decides.at;
}

-- ---- lists

pub map_some_one : {A : Type 0} (xs ys : List A) → map (λ x. Some x) xs ≡ map (λ x. Some x) ys → xs ≡ ys
map_some_one [] [] e = refl
map_some_one [] (y ∷ ys) e = absurd (cc)
map_some_one (x ∷ xs) [] e = absurd (cc)
map_some_one {A} (x ∷ xs) (y ∷ ys) e =
    let first : x ≡ y = cc in
    let rest : map (λ (z : A). Some z) xs ≡ map (λ (z : A). Some z) ys = cc in
    let more : xs ≡ ys = map_some_one xs ys rest in cc

all_some : {A : Type 0} (parts : List A) (i : ℕ) → i < length (map (λ part. Some part) parts) → is_some (get_or (map (λ part. Some part) parts) i None) ≡ true
all_some [] i lt = absurd (omega arith)
all_some (x ∷ xs) zero lt = refl
all_some (x ∷ xs) (suc i) lt = all_some xs i (omega arith)

pub none_is : {A : Type 0} (o : Option A) → o ≡ None → is_some o ≡ true → ⊥
none_is None e h = cc
none_is (Some x) e h = cc

-- some parts are stated by all items, so none of these states nothing
pub stated_all : {A : Type 0} (stated : List (Option A)) (parts : List A) (i : ℕ) → stated ≡ map (λ part. Some part) parts → IsFirstNone stated i → ⊥
stated_all stated parts i e first =
    none_is (get_or stated i None) first.here
    (ap (λ os. is_some (get_or os i None)) e ∙ all_some parts i (subst (λ (n : ℕ). i < n) (ap length e) first.within))

before_is : {A : Type 0} (stated : List (Option A)) (i j : ℕ) → IsFirstNone stated i → IsFirstNone stated j → i < j → ⊥
before_is stated i j one other lt = none_is (get_or stated i None) one.here (other.before i lt)

pub first_one : {A : Type 0} (stated : List (Option A)) (i j : ℕ) → IsFirstNone stated i → IsFirstNone stated j → i ≡ j
first_one stated i j one other = elim (eqb_tells i j) [ inl same ↦ same.1 | inr differ ↦ absurd (apart differ.1) ] where
  ordered : ¬ (i ≡ j) → (i < j) ⊎ (j < i)
  ordered differ = elim (compared i j) [ inl less ↦ inl less | inr more ↦ inr (not_less differ more) ] where
    compared : (a b : ℕ) → (a < b) ⊎ (b < a + 1)
    compared zero zero = inr (omega arith)
    compared zero (suc b) = inl (omega arith)
    compared (suc a) zero = inr (omega arith)
    compared (suc a) (suc b) = elim (compared a b) [ inl less ↦ inl (omega arith) | inr more ↦ inr (omega arith) ]

    not_less : ¬ (i ≡ j) → j < i + 1 → j < i
    not_less differ more = omega arith

  apart : ¬ (i ≡ j) → ⊥
  apart differ = elim (ordered differ) [ inl less ↦ before_is stated i j one other less | inr more ↦ before_is stated j i other one more ]

pub list_decides : {A : Type 0} (base : List ℕ) (stated : List (Option A)) → Decides (λ (parts : List A). stated ≡ map (λ part. Some part) parts) (ItemFails base stated)
list_decides base stated = record {
  one = λ a b h k. map_some_one a b (sym h ∙ k);
  never = λ a p h k. stated_all stated a k.index h k.first;
  at = λ p q h k. same p q h k;
}
  where
    same : (p q : List ℕ) → ItemFails base stated p → ItemFails base stated q → p ≡ q
    same p q h k = let i : h.index ≡ k.index = first_one stated h.index k.index h.first k.first in h.is ∙ (ap (λ n. item_pointer base n) i ∙ sym k.is)

pub parts_decide : {A : Type 0} (stated : List Data → List (Option A)) (base : List ℕ) (items : Option (List Data)) → Decides (PartsAre stated items) (PartsFail stated base items)
parts_decide stated base None = record { one = λ a b h k. absurd h; never = λ a p h k. h; at = λ p q h k. h ∙ sym k }
parts_decide stated base (Some ds) = record { one = λ a b h k. (list_decides base (stated ds)).one a b h k; never = λ a p h k. (list_decides base (stated ds)).never a p h k; at = λ p q h k. (list_decides base (stated ds)).at p q h k }

-- ---- one rule after another

-- what is answered where some rules are tested in turn: one rule and one pointer
pub record OneFault (Faults : List ℕ → JobRule → Type 0) : Type 0 where
  pub one : (p q : List ℕ) (r t : JobRule) → Faults p r → Faults q t → (p ≡ q) × (r ≡ t)

pub either_one : {A : Type 0} (own : JobRule) (Fails : List ℕ → Type 0) (Is : A → Type 0) (Later : A → List ℕ → JobRule → Type 0) → Decides Is Fails → ((a : A) → Is a → OneFault (Later a)) → OneFault (Either own Fails Is Later)
either_one {A} own Fails Is Later decides later = record { one = λ p q r t h k. elim h [ inl wrong ↦ here p q r t wrong k | inr right ↦ there p q r t right k ] } where
  here : (p q : List ℕ) (r t : JobRule) → (r ≡ own) × Fails p → Either own Fails Is Later q t → (p ≡ q) × (r ≡ t)
  here p q r t h k = elim k [ inl wrong ↦ (decides.at p q h.1 wrong.1, h.0 ∙ sym wrong.0) | inr right ↦ absurd (decides.never right.0 p right.1 h.1) ]

  there : (p q : List ℕ) (r t : JobRule) → (a : A) × Is a × Later a p r → Either own Fails Is Later q t → (p ≡ q) × (r ≡ t)
  there p q r t h k =
      elim k [
        | inl wrong ↦ absurd (decides.never h.0 q h.1 wrong.1)
        | inr right ↦ (later h.0 h.1).one p q r t h.2 (subst (λ (a : A). Later a q t) (sym (decides.one h.0 right.0 h.1 right.1)) right.2)
      ]

-- a rule that holds hands the fault on
pub either_later : {A : Type 0} (own : JobRule) (Fails : List ℕ → Type 0) (Is : A → Type 0) (Later : A → List ℕ → JobRule → Type 0) → Decides Is Fails → (a : A) → Is a → (p : List ℕ) (r : JobRule) → Either own Fails Is Later p r → Later a p r
either_later {A} own Fails Is Later decides a is p r h =
    elim h [
      | inl wrong ↦ absurd (decides.never a p is wrong.1)
      | inr right ↦ subst (λ (b : A). Later b p r) (decides.one right.0 a right.1 is) right.2
    ]
