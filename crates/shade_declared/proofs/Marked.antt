-- The order as the code makes it, by a mark for each declaration that is begun; and that it is the order of the rule.
use Rattle.std.proofs.Common.{◌≡◌, refl, sym, ap, subst, ℕ, zero, suc, ◌<◌, ◌≤◌, Bool, true, false, true≢false, List, [], ◌∷◌, ◌++◌, length, get_or, set, replicate, Contains, ◌⊎◌, inl, inr, ⊎_elim, append_assoc, arith}
use Rattle.shade_declared.specs.Order.{Takes, ends, again, missing, fresh, numbers, IsOrder}
use Rattle.shade_declared.proofs.Members.{empty_has_none, here, there, is_here, first_or_rest}

-- what is wanted: one declaration, or each of some
pub data Wanted : Type 0 where
  One : ℕ → Wanted
  Each : List ℕ → Wanted

-- which are taken for what is wanted, and which are marked before and behind it
pub data Marked (named : List (List ℕ)) : List Bool → Wanted → List ℕ → List Bool → Type 0 where
  begun : (marks : List Bool) (d : ℕ) → get_or marks d true ≡ true → Marked named marks (One d) [] marks
  unbegun : (marks after : List Bool) (d : ℕ) (before : List ℕ) → get_or marks d true ≡ false → Marked named (set marks d true) (Each (get_or named d [])) before after
      → Marked named marks (One d) (before ++ d ∷ []) after
  none : (marks : List Bool) → Marked named marks (Each []) [] marks
  more : (marks between after : List Bool) (d : ℕ) (others first rest : List ℕ) → Marked named marks (One d) first between → Marked named between (Each others) rest after
      → Marked named marks (Each (d ∷ others)) (first ++ rest) after

-- ---- marks

set_true : (marks : List Bool) (d e : ℕ) → get_or (set marks d true) e true ≡ true → (d ≡ e) ⊎ (get_or marks e true ≡ true)
set_true [] d e h = inr refl
set_true (mark ∷ marks) zero zero h = inl refl
set_true (mark ∷ marks) zero (suc e) h = inr h
set_true (mark ∷ marks) (suc d) zero h = inr h
set_true (mark ∷ marks) (suc d) (suc e) h = ⊎_elim (λ s. inl (ap suc s)) (λ s. inr s) (set_true marks d e h)

set_false : (marks : List Bool) (d e : ℕ) → get_or (set marks d true) e true ≡ false → ¬ (d ≡ e) × (get_or marks e true ≡ false)
set_false [] d e h = absurd (true≢false h)
set_false (mark ∷ marks) zero zero h = absurd (true≢false h)
set_false (mark ∷ marks) zero (suc e) h = (λ s. omega (arith, s), h)
set_false (mark ∷ marks) (suc d) zero h = (λ s. omega (arith, s), h)
set_false (mark ∷ marks) (suc d) (suc e) h = let k = set_false marks d e h in (λ s. k.0 (omega (arith, s)), k.1)

all_true : (n d : ℕ) → get_or (replicate n false) d true ≡ true → n ≤ d
all_true zero d h = omega arith
all_true (suc n) zero h = absurd (true≢false (sym h))
all_true (suc n) (suc d) h = let k = all_true n d h in omega (arith, k)

some_false : (n d : ℕ) → get_or (replicate n false) d true ≡ false → d < n
some_false zero d h = absurd (true≢false h)
some_false (suc n) zero h = omega arith
some_false (suc n) (suc d) h = let k = some_false n d h in omega (arith, k)

module _ (named : List (List ℕ)) where
  -- a mark says that a declaration is begun; a number of none counts as begun
  record Shows (marks : List Bool) (started : List ℕ) : Type 0 where
    marked : (d : ℕ) → get_or marks d true ≡ true → (length named ≤ d) ⊎ Contains started d
    free : (d : ℕ) → get_or marks d true ≡ false → (d < length named) × ¬ Contains started d

  first_shows : Shows (replicate (length named) false) []
  first_shows = record { marked = λ d h. inl (all_true (length named) d h); free = λ d h. (some_false (length named) d h, empty_has_none d) }

  next_shows : (marks : List Bool) (started : List ℕ) (d : ℕ) → Shows marks started → Shows (set marks d true) (d ∷ started)
  next_shows marks started d s = record {
    marked = λ e h. ⊎_elim (λ is. inr (is_here d started e is)) (λ was. ⊎_elim (λ far. inl far) (λ c. inr (there d started e c)) (s.marked e was)) (set_true marks d e h);
    free = λ e h. let k = set_false marks d e h in let f = s.free e k.1 in (f.0, λ c. ⊎_elim k.0 f.1 (first_or_rest d started e c));
  }

  -- what is wanted first, and then more
  join : {a b c ds es first rest : List ℕ} → Takes named a ds first b → Takes named b es rest c → Takes named a (ds ++ es) (first ++ rest) c
  join (ends a) u = u
  join {c = c} {es = es} {rest = rest} (again a others order b d h t) u = again a (others ++ es) (order ++ rest) c d h (join t u)
  join {c = c} {es = es} {rest = rest} (missing a others order b d h t) u = missing a (others ++ es) (order ++ rest) c d h (join t u)
  join {c = c} {es = es} {rest = rest} (fresh a between b others first last d low new t v) u =
      subst (λ z. Takes named a (d ∷ (others ++ es)) z c) (sym (append_assoc first (d ∷ last) rest))
      (fresh a between c (others ++ es) first (last ++ rest) d low new t (join v u))

  abbrev list_of : Wanted → List ℕ
  list_of (One d) = d ∷ []
  list_of (Each ds) = ds

  record Taken (started wanted order : List ℕ) (after : List Bool) : Type 0 where
    all : List ℕ
    takes : Takes named started wanted order all
    shows : Shows after all

  taken : {marks after : List Bool} {w : Wanted} {order : List ℕ} → Marked named marks w order after → (started : List ℕ) → Shows marks started
      → Taken started (list_of w) order after
  taken (begun marks d is) started s =
      ⊎_elim (λ far. record { all = started; takes = missing started [] [] started d far (ends started); shows = s })
      (λ c. record { all = started; takes = again started [] [] started d c (ends started); shows = s }) (s.marked d is)
  taken (unbegun marks after d before is m) started s =
      let t = taken m (d ∷ started) (next_shows marks started d s) in
      let f = s.free d is in
      record { all = t.all; takes = fresh started t.all t.all [] before [] d f.0 f.1 t.takes (ends t.all); shows = t.shows }
  taken (none marks) started s = record { all = started; takes = ends started; shows = s }
  taken (more marks between after d others first rest m o) started s =
      let t = taken m started s in
      let u = taken o t.all t.shows in
      record { all = u.all; takes = join t.takes u.takes; shows = u.shows }

  pub marked_order : (order : List ℕ) (after : List Bool) → Marked named (replicate (length named) false) (Each (numbers (length named))) order after → IsOrder named order
  marked_order order after m = let t = taken m [] first_shows in record { after = t.all; takes = t.takes }
