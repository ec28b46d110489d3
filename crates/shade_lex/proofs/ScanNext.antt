-- One step of the search for template lists, whatever its token is; its beginning and its end.
use Rattle.std.proofs.Common.{◌≡◌, ℕ, zero, suc, ◌+◌, ◌-◌, ◌<◌, ◌≤◌, List, [], ◌∷◌, length, get_or, Bool, true, false, Option, None, Some, cond, refl, ap, sym, ◌∙◌, arith, subst, inl, inr}
use Rattle.std.specs.Prelude.{◌⊎◌, ◌≢◌, nat_le, slice_get, slice_set, replicate}
use Rattle.std.proofs.lemmas.Bool.Decides.{eqb_tells}
use Rattle.std.proofs.lemmas.List.{length-set, length-replicate}
use Rattle.std.proofs.lemmas.Option.{slice_get-get_or}
use Rattle.shade_lex.specs.declared.candidate.Candidate.{Candidate}
use Rattle.shade_lex.specs.declared.role.Role.{Role}
use Rattle.shade_lex.specs.declared.role.Role.TheVariants.{Word, Less, Greater, Raise, Lower, Cut, Reset, Joined, Other}
use Rattle.shade_lex.specs.Templates.{role_at, is_opener, is_less, is_greater, is_reset_role, is_joined, drops, is_reset, depth_after, depth, cuts, IsOpen, IsPair, closes, AreClosers}
use Rattle.shade_lex.specs.Scan.{ScanState, below, pass, push, close_by, cut_at, clear, next, CanScan}
use Rattle.shade_lex.proofs.ScanLaws.{IsStack, IsFoundSo, IsScanned, Agrees, IsScan, same_test, differ_test, pair_ends, greater_is_no_opener, closes_set, not_closed}
use Rattle.shade_lex.proofs.ScanSteps.{found_quiet, stack_quiet, stack_push, stack_unmatched, pair_unmatched, closes_newest, closes_only, stack_pop, stack_clear, stack_cut}

-- what a token of a role is not
not_opener : (roles : List Role) (k : ℕ) → is_less (role_at roles k) ≡ false → is_opener roles k ≡ false
not_opener roles zero e = refl
not_opener roles (suc k) e = rw e refl

not_reset : (roles : List Role) (closed : ℕ → Bool) (k : ℕ) → is_reset_role (role_at roles k) ≡ false → is_joined (role_at roles k) ≡ false → is_reset roles closed k ≡ false
not_reset roles closed zero r j = r
not_reset roles closed (suc k) r j = rw (r, j) refl

reset_is : (roles : List Role) (closed : ℕ → Bool) (k : ℕ) → is_reset_role (role_at roles k) ≡ true → is_reset roles closed k ≡ true
reset_is roles closed zero r = r
reset_is roles closed (suc k) r = rw r refl

uncut_by : (roles : List Role) (closed : ℕ → Bool) (k : ℕ) → is_reset roles closed k ≡ false → drops (role_at roles k) ≡ false → (e : ℕ) → cuts roles closed k e ≡ false
uncut_by roles closed k r d e = rw (r, d) refl

cut_by : (roles : List Role) (closed : ℕ → Bool) (k : ℕ) → is_reset roles closed k ≡ false → drops (role_at roles k) ≡ true → (e : ℕ) → cuts roles closed k e ≡ nat_le (depth roles closed k) e
cut_by roles closed k r d e = rw (r, d) refl

cut_all : (roles : List Role) (closed : ℕ → Bool) (k : ℕ) → is_reset roles closed k ≡ true → (e : ℕ) → cuts roles closed k e ≡ true
cut_all roles closed k r e = rw r refl

depth_on : (roles : List Role) (closed : ℕ → Bool) (k : ℕ) (r : Role) → role_at roles k ≡ r → is_reset roles closed k ≡ false → depth roles closed (suc k) ≡ depth_after r (depth roles closed k)
depth_on roles closed k r e n = rw (n, e) refl

depth_reset : (roles : List Role) (closed : ℕ → Bool) (k : ℕ) → is_reset roles closed k ≡ true → depth roles closed (suc k) ≡ 0
depth_reset roles closed k r = rw r refl

-- the token tells whether the one before it closed a list
agrees_less : (closed : ℕ → Bool) (closers : List (Option ℕ)) (k : ℕ) → Agrees closed closers (suc k) → Agrees closed closers k
agrees_less closed closers k a = record { same = λ j lt. a.same j (omega (arith, lt)) }

module _ (roles : List Role) (closed : ℕ → Bool) (k : ℕ) (s : ScanState) (i : IsScanned roles closed k s) where
  -- a token that closes nothing
  was_quiet : Agrees closed s.closers (suc k) → (j : ℕ) → suc k ≡ suc j → false ≡ closed j
  was_quiet a j e =
      let same : k ≡ j = omega (arith, e) in
      let none : closed k ≡ false = a.same k (omega arith) ∙ not_closed roles closed k s.closers i.found in
      sym (subst (λ (m : ℕ). closed m ≡ false) same none)

  -- a token that opens, closes and cuts nothing, and leaves or raises the depth
  quiet : (level : ℕ) → Agrees closed s.closers (suc k) → is_less (role_at roles k) ≡ false ⊎ (is_opener roles k ≡ false) → is_greater (role_at roles k) ≡ false → is_reset roles closed k ≡ false → drops (role_at roles k) ≡ false
      → depth roles closed (suc k) ≡ level → depth roles closed k ≤ level → IsScanned roles closed (suc k) (record { level = level; candidates = s.candidates; closers = s.closers; closed = false })
  quiet level a l g r d on up = record {
    level = sym on;
    was = was_quiet a;
    stack = stack_quiet roles closed k s.candidates i.stack (opener l) g (uncut_by roles closed k r d) (omega (arith, on, up));
    found = found_quiet roles closed k s.closers i.found g;
  }
    where
      opener : is_less (role_at roles k) ≡ false ⊎ (is_opener roles k ≡ false) → is_opener roles k ≡ false
      opener (inl e) = not_opener roles k e
      opener (inr e) = e

  passes : (r : Role) → role_at roles k ≡ r → Agrees closed s.closers (suc k) → is_less r ≡ false ⊎ (is_opener roles k ≡ false) → is_greater r ≡ false → is_reset roles closed k ≡ false → drops r ≡ false → depth_after r s.level ≡ s.level → IsScanned roles closed (suc k) (pass s)
  passes r e a l g n d same = quiet s.level a (by_role l) (ap is_greater e ∙ g) n (ap drops e ∙ d) (depth_on roles closed k r e n ∙ ap (depth_after r) (sym i.level) ∙ same) (omega (arith, i.level))
    where
      by_role : is_less r ≡ false ⊎ (is_opener roles k ≡ false) → is_less (role_at roles k) ≡ false ⊎ (is_opener roles k ≡ false)
      by_role (inl x) = inl (ap is_less e ∙ x)
      by_role (inr x) = inr x

  clears : Agrees closed s.closers (suc k) → is_less (role_at roles k) ≡ false → is_greater (role_at roles k) ≡ false → is_reset roles closed k ≡ true → IsScanned roles closed (suc k) (clear s)
  clears a l g r = record {
    level = sym (depth_reset roles closed k r);
    was = was_quiet a;
    stack = stack_clear roles closed k s.candidates i.stack (not_opener roles k l) (cut_all roles closed k r);
    found = found_quiet roles closed k s.closers i.found g;
  }

  cutting : (level : ℕ) → Agrees closed s.closers (suc k) → is_less (role_at roles k) ≡ false → is_greater (role_at roles k) ≡ false → is_reset roles closed k ≡ false → drops (role_at roles k) ≡ true → depth roles closed (suc k) ≡ level → depth roles closed k ≤ level + 1 → IsScanned roles closed (suc k) (cut_at level s)
  cutting level a l g r d on near = record {
    level = sym on;
    was = was_quiet a;
    stack = subst (λ (e : ℕ). IsStack roles closed (suc k) (below e s.candidates)) (sym i.level) (stack_cut roles closed k s.candidates i.stack (not_opener roles k l) g (cut_by roles closed k r d) (omega (arith, on, near)));
    found = found_quiet roles closed k s.closers i.found g;
  }

  pushes : Agrees closed s.closers (suc k) → role_at roles k ≡ Less → is_opener roles k ≡ true → IsScanned roles closed (suc k) (push k s)
  pushes a e o = record {
    level = i.level ∙ sym same;
    was = was_quiet a;
    stack = stack_push roles closed k s.candidates (record { at = k; depth = s.level }) i.stack o (ap is_greater e) (uncut_by roles closed k plain (ap drops e)) same refl i.level;
    found = found_quiet roles closed k s.closers i.found (ap is_greater e);
  }
    where
      plain : is_reset roles closed k ≡ false
      plain = not_reset roles closed k (ap is_reset_role e) (ap is_joined e)

      same : depth roles closed (suc k) ≡ depth roles closed k
      same = depth_on roles closed k Less e plain

  -- a `>` with no candidate of its depth
  unmatched : Agrees closed s.closers (suc k) → role_at roles k ≡ Greater → ((p : ℕ) (c : Candidate) → slice_get s.candidates p ≡ Some c → depth roles closed k ≡ c.depth → ⊥) → IsScanned roles closed (suc k) (pass s)
  unmatched a e none = record {
    level = i.level ∙ sym same;
    was = was_quiet a;
    stack = stack_unmatched roles closed k s.candidates i.stack (ap is_greater e) (uncut_by roles closed k plain (ap drops e)) same none;
    found = record { sound = λ m j f. (let x = i.found.sound m j f in (x.0, omega (arith, x.1))); complete = complete };
  }
    where
      plain : is_reset roles closed k ≡ false
      plain = not_reset roles closed k (ap is_reset_role e) (ap is_joined e)

      same : depth roles closed (suc k) ≡ depth roles closed k
      same = depth_on roles closed k Greater e plain

      complete : (m j : ℕ) → j < suc k → IsPair roles closed m j → slice_get s.closers m ≡ Some (Some j)
      complete m j lt x = elim (eqb_tells j k) [
        | inl t ↦ absurd (pair_unmatched roles closed k s.candidates i.stack (ap is_greater e) (uncut_by roles closed k plain (ap drops e)) same none m (subst (λ (n : ℕ). IsPair roles closed m n) t.1 x))
        | inr o ↦ i.found.complete m j (omega (arith, lt, o.1)) x
      ]

get-set_same : {A : Type 0} (xs : List A) (n : ℕ) (x old : A) → slice_get xs n ≡ Some old → slice_get (slice_set xs n x) n ≡ Some x
get-set_same [] n x old e = cc
get-set_same (y ∷ xs) zero x old e = refl
get-set_same (y ∷ xs) (suc n) x old e = get-set_same xs n x old e

get-set_other : {A : Type 0} (xs : List A) (n m : ℕ) (x : A) → n ≢ m → slice_get (slice_set xs n x) m ≡ slice_get xs m
get-set_other [] n m x ne = refl
get-set_other (y ∷ xs) zero zero x ne = absurd (ne refl)
get-set_other (y ∷ xs) zero (suc m) x ne = refl
get-set_other (y ∷ xs) (suc n) zero x ne = refl
get-set_other (y ∷ xs) (suc n) (suc m) x ne = get-set_other xs n m x (λ e. ne (ap suc e))

-- the closer of a candidate is not found yet
module _ (roles : List Role) (closed : ℕ → Bool) (k : ℕ) (closers : List (Option ℕ)) (f : IsFoundSo roles closed k closers) (i : ℕ) (o : IsOpen roles closed i k) where
  not_found : (j : ℕ) → slice_get closers i ≡ Some (Some j) → ⊥
  not_found j e =
      let x : IsPair roles closed i j × (j < k) = f.sound i j e in
      pair_ends roles closed i j k (greater_is_no_opener roles j x.0.closer) x.0 o x.1

  pub free : i < length closers → slice_get closers i ≡ Some None
  free lt = by (get_or closers i None) (slice_get-get_or closers i None lt)
    where
      by : (x : Option ℕ) → slice_get closers i ≡ Some x → slice_get closers i ≡ Some None
      by None e = e
      by (Some j) e = absurd (not_found j e)

-- a `>` that closes the newest candidate
module _ (roles : List Role) (closed : ℕ → Bool) (k : ℕ) (s : ScanState) (c : Candidate) (cs : List Candidate) (i : IsScanned roles closed k s) (these : s.candidates ≡ c ∷ cs) (e : role_at roles k ≡ Greater) (level : c.depth ≡ s.level)
    (slot : slice_get s.closers c.at ≡ Some None) (marks : closed k ≡ true) where
  plain : is_reset roles closed k ≡ false
  plain = not_reset roles closed k (ap is_reset_role e) (ap is_joined e)

  uncut : (level : ℕ) → cuts roles closed k level ≡ false
  uncut = uncut_by roles closed k plain (ap drops e)

  same : depth roles closed (suc k) ≡ depth roles closed k
  same = depth_on roles closed k Greater e plain

  stack : IsStack roles closed k (c ∷ cs)
  stack = subst (λ (xs : List Candidate). IsStack roles closed k xs) these i.stack

  deep : c.depth ≡ depth roles closed k
  deep = level ∙ i.level

  pair : IsPair roles closed c.at k
  pair = closes_newest roles closed k c cs stack (ap is_greater e) uncut same deep

  sound : (m j : ℕ) → slice_get (slice_set s.closers c.at (Some k)) m ≡ Some (Some j) → IsPair roles closed m j × (j < suc k)
  sound m j f = elim (eqb_tells c.at m) [
    | inl t ↦ (let here : slice_get (slice_set s.closers c.at (Some k)) m ≡ Some (Some k) = subst (λ (n : ℕ). slice_get (slice_set s.closers c.at (Some k)) n ≡ Some (Some k)) t.1 (get-set_same s.closers c.at (Some k) None slot) in
        let is : k ≡ j = cc (here, f) in
        let lt : j < suc k = omega (arith, is) in
        (subst (λ (n : ℕ). IsPair roles closed n j) t.1 (subst (λ (n : ℕ). IsPair roles closed c.at n) is pair), lt))
    | inr o ↦ (let x : IsPair roles closed m j × (j < k) = i.found.sound m j (sym (get-set_other s.closers c.at m (Some k) o.1) ∙ f) in (x.0, omega (arith, x.1)))
  ]

  complete : (m j : ℕ) → j < suc k → IsPair roles closed m j → slice_get (slice_set s.closers c.at (Some k)) m ≡ Some (Some j)
  complete m j lt x = elim (eqb_tells j k) [
    | inl t ↦ (let here : c.at ≡ m = closes_only roles closed k c cs stack (ap is_greater e) uncut same deep m (subst (λ (n : ℕ). IsPair roles closed m n) t.1 x) in
        subst (λ (n : ℕ). slice_get (slice_set s.closers c.at (Some k)) n ≡ Some (Some j)) here (get-set_same s.closers c.at (Some k) None slot ∙ ap (λ (n : ℕ). Some (Some n)) (sym t.1)))
    | inr o ↦ (let old : slice_get s.closers m ≡ Some (Some j) = i.found.complete m j (omega (arith, lt, o.1)) x in
        elim (eqb_tells c.at m) [
          | inl t ↦ (let here : slice_get s.closers m ≡ Some None = subst (λ (n : ℕ). slice_get s.closers n ≡ Some None) t.1 slot in cc (here, old))
          | inr u ↦ get-set_other s.closers c.at m (Some k) u.1 ∙ old
        ])
  ]

  pub matched : IsScanned roles closed (suc k) (record { level = s.level; candidates = cs; closers = slice_set s.closers c.at (Some k); closed = true })
  matched = record {
    level = i.level ∙ sym same;
    was = λ j n. (let is : k ≡ j = omega (arith, n) in sym (subst (λ (m : ℕ). closed m ≡ true) is marks));
    stack = stack_pop roles closed k c cs stack (ap is_greater e) uncut same deep;
    found = record { sound = sound; complete = complete };
  }

-- what tells the tokens that close after this token tells them before it too
agrees_set : (closed : ℕ → Bool) (closers : List (Option ℕ)) (a k : ℕ) → slice_get closers a ≡ Some None → Agrees closed (slice_set closers a (Some k)) (suc k) → Agrees closed closers k × (closed k ≡ true)
agrees_set closed closers a k slot g = (record { same = before }, g.same k (omega arith) ∙ closes_set closers a k k slot ∙ rw (same_test k k refl) refl)
  where
    before : (j : ℕ) → j < k → closed j ≡ closes closers j
    before j lt = g.same j (omega (arith, lt)) ∙ closes_set closers a k j slot ∙ rw (differ_test k j (λ e. omega (arith, e, lt))) refl

after_small : (r : Role) (d n : ℕ) → d ≤ n → depth_after r d ≤ suc n
after_small Raise d n le = omega (arith, le)
after_small Lower d n le = omega (arith, le)
after_small Word d n le = omega (arith, le)
after_small Less d n le = omega (arith, le)
after_small Greater d n le = omega (arith, le)
after_small Cut d n le = omega (arith, le)
after_small Reset d n le = omega (arith, le)
after_small Joined d n le = omega (arith, le)
after_small Other d n le = omega (arith, le)

-- the depth is no more than the tokens before it
depth_small : (roles : List Role) (closed : ℕ → Bool) (k : ℕ) → depth roles closed k ≤ k
depth_small roles closed zero = omega arith
depth_small roles closed (suc k) = by (is_reset roles closed k) (depth_small roles closed k)
  where
    by : (b : Bool) → depth roles closed k ≤ k → cond b 0 (depth_after (role_at roles k) (depth roles closed k)) ≤ suc k
    by true le = omega arith
    by false le = after_small (role_at roles k) (depth roles closed k) k le

-- one token more
module _ (roles : List Role) (k : ℕ) (s : ScanState) (x : IsScan roles k s) (within : k < length roles) where
  least : IsScanned roles (closes s.closers) k s
  least = x.scanned (closes s.closers) (record { same = λ j lt. refl })

  scanned : (closed : ℕ → Bool) → Agrees closed s.closers (suc k) → IsScanned roles closed k s
  scanned closed a = x.scanned closed (agrees_less closed s.closers k a)

  -- where nothing is found
  stays : (level : ℕ) (candidates : List Candidate) → ((closed : ℕ → Bool) → Agrees closed s.closers (suc k) → IsScanned roles closed (suc k) (record { level = level; candidates = candidates; closers = s.closers; closed = false }))
      → IsScan roles (suc k) (record { level = level; candidates = candidates; closers = s.closers; closed = false })
  stays level candidates f = record { long = x.long; first = λ e. cc; scanned = f }

  pass_by : (r : Role) → role_at roles k ≡ r → is_less r ≡ false ⊎ (is_opener roles k ≡ false) → is_greater r ≡ false → ((closed : ℕ → Bool) → Agrees closed s.closers (suc k) → is_reset roles closed k ≡ false) → drops r ≡ false → depth_after r s.level ≡ s.level → IsScan roles (suc k) (pass s)
  pass_by r e l g n d same = stays s.level s.candidates (λ closed a. passes roles closed k s (scanned closed a) r e a l g (n closed a) d same)

  plain_by : (r : Role) → role_at roles k ≡ r → is_reset_role r ≡ false → is_joined r ≡ false → (closed : ℕ → Bool) → Agrees closed s.closers (suc k) → is_reset roles closed k ≡ false
  plain_by r e a b closed g = not_reset roles closed k (ap is_reset_role e ∙ a) (ap is_joined e ∙ b)

  -- an `=` directly after a `>`
  joined_is : (closed : ℕ → Bool) → Agrees closed s.closers (suc k) → role_at roles k ≡ Joined → is_reset roles closed k ≡ s.closed
  joined_is closed a e = by k refl
    where
      by : (n : ℕ) → k ≡ n → is_reset roles closed k ≡ s.closed
      by zero z = subst (λ (m : ℕ). is_reset roles closed m ≡ s.closed) (sym z) (ap is_reset_role (subst (λ (m : ℕ). role_at roles m ≡ Joined) z e) ∙ sym (x.first z))
      by (suc j) z =
          let role : role_at roles (suc j) ≡ Joined = subst (λ (m : ℕ). role_at roles m ≡ Joined) z e in
          let is : is_reset roles closed (suc j) ≡ closed j = rw role refl in
          subst (λ (m : ℕ). is_reset roles closed m ≡ s.closed) (sym z) (is ∙ sym ((scanned closed a).was j z))

  joins : role_at roles k ≡ Joined → IsScan roles (suc k) (cond s.closed (clear s) (pass s))
  joins e = by s.closed refl
    where
      by : (b : Bool) → s.closed ≡ b → IsScan roles (suc k) (cond b (clear s) (pass s))
      by true c = stays 0 [] (λ closed a. clears roles closed k s (scanned closed a) a (ap is_less e) (ap is_greater e) (joined_is closed a e ∙ c))
      by false c = pass_by Joined e (inl refl) refl (λ closed a. joined_is closed a e ∙ c) refl refl

  opens : role_at roles k ≡ Less → IsScan roles (suc k) (cond (is_opener roles k) (push k s) (pass s))
  opens e = by (is_opener roles k) refl
    where
      by : (b : Bool) → is_opener roles k ≡ b → IsScan roles (suc k) (cond b (push k s) (pass s))
      by true o = stays s.level (record { at = k; depth = s.level } ∷ s.candidates) (λ closed a. pushes roles closed k s (scanned closed a) a e o)
      by false o = pass_by Less e (inr o) refl (plain_by Less e refl refl) refl refl

  -- no candidate stands as deep as a `>`, where the newest does not
  none_so_deep : (closed : ℕ → Bool) → IsScanned roles closed k s → (c : Candidate) (cs : List Candidate) → s.candidates ≡ c ∷ cs → (c.depth ≡ s.level → ⊥) → (p : ℕ) (d : Candidate) → slice_get s.candidates p ≡ Some d → depth roles closed k ≡ d.depth → ⊥
  none_so_deep closed i c cs these n p d e same =
      let top : slice_get s.candidates 0 ≡ Some c = ap (λ (xs : List Candidate). slice_get xs 0) these in
      let low : c.depth ≤ depth roles closed k = i.stack.low 0 c top in
      let high : d.depth ≤ c.depth = below_top p d e top in
      n (omega (arith, low, high, same, i.level))
    where
      below_top : (p : ℕ) (d : Candidate) → slice_get s.candidates p ≡ Some d → slice_get s.candidates 0 ≡ Some c → d.depth ≤ c.depth
      below_top zero d f top = let is : c ≡ d = cc in let level : c.depth ≡ d.depth = ap (λ (z : Candidate). z.depth) is in omega (arith, level)
      below_top (suc p) d f top = i.stack.rising 0 (suc p) c d (omega arith) top f

  closing : role_at roles k ≡ Greater → IsScan roles (suc k) (close_by k s s.candidates)
  closing e = by s.candidates refl
    where
      by : (xs : List Candidate) → s.candidates ≡ xs → IsScan roles (suc k) (close_by k s xs)
      by [] these = stays s.level s.candidates (λ closed a. unmatched roles closed k s (scanned closed a) a e (λ p c f same. (let none : slice_get {X = Candidate} [] p ≡ Some c = subst (λ (ys : List Candidate). slice_get ys p ≡ Some c) these f in cc none)))
      by (c ∷ cs) these = elim (eqb_tells c.depth s.level) [
        | inl t ↦ (
            let top : slice_get s.candidates 0 ≡ Some c = ap (λ (xs : List Candidate). slice_get xs 0) these in
            let listed = least.stack.listed 0 c top in
            let inside : c.at < length s.closers = omega (arith, listed.still_open.before, within, x.long) in
            let slot : slice_get s.closers c.at ≡ Some None = free roles (closes s.closers) k s.closers least.found c.at listed.still_open inside in
            rw t.0 (record {
              long = length-set s.closers c.at (Some k) ∙ x.long;
              first = λ z. cc;
              scanned = λ closed a. (let g : Agrees closed s.closers k × (closed k ≡ true) = agrees_set closed s.closers c.at k slot a in matched roles closed k s c cs (x.scanned closed g.0) these e t.1 slot g.1);
            }))
        | inr o ↦ rw o.0 (stays s.level s.candidates (λ closed a. unmatched roles closed k s (scanned closed a) a e (none_so_deep closed (scanned closed a) c cs these o.1)))
      ]

  pub next-scan : IsScan roles (suc k) (next (role_at roles k) (is_opener roles k) k s)
  next-scan = by (role_at roles k) refl
    where
      by : (r : Role) → role_at roles k ≡ r → IsScan roles (suc k) (next r (is_opener roles k) k s)
      by Word e = pass_by Word e (inl refl) refl (plain_by Word e refl refl) refl refl
      by Other e = pass_by Other e (inl refl) refl (plain_by Other e refl refl) refl refl
      by Less e = opens e
      by Greater e = closing e
      by Raise e = stays (s.level + 1) s.candidates (λ closed a. (
          let n : is_reset roles closed k ≡ false = plain_by Raise e refl refl closed a in
          let i : IsScanned roles closed k s = scanned closed a in
          quiet roles closed k s i (s.level + 1) a (inl (ap is_less e)) (ap is_greater e) n (ap drops e) (depth_on roles closed k Raise e n ∙ ap (λ (m : ℕ). m + 1) (sym i.level)) (omega (arith, i.level))))
      by Lower e = stays (s.level - 1) (below s.level s.candidates) (λ closed a. (
          let n : is_reset roles closed k ≡ false = plain_by Lower e refl refl closed a in
          let i : IsScanned roles closed k s = scanned closed a in
          cutting roles closed k s i (s.level - 1) a (ap is_less e) (ap is_greater e) n (ap drops e) (depth_on roles closed k Lower e n ∙ ap (λ (m : ℕ). m - 1) (sym i.level)) (omega (arith, i.level))))
      by Cut e = stays s.level (below s.level s.candidates) (λ closed a. (
          let n : is_reset roles closed k ≡ false = plain_by Cut e refl refl closed a in
          let i : IsScanned roles closed k s = scanned closed a in
          cutting roles closed k s i s.level a (ap is_less e) (ap is_greater e) n (ap drops e) (depth_on roles closed k Cut e n ∙ sym i.level) (omega (arith, i.level))))
      by Reset e = stays 0 [] (λ closed a. clears roles closed k s (scanned closed a) a (ap is_less e) (ap is_greater e) (reset_is roles closed k (ap is_reset_role e)))
      by Joined e = joins e

  pub scan-can : CanScan s k
  scan-can = record { shallow = omega (arith, depth_small roles (closes s.closers) k, least.level); inside = inside }
    where
      inside : (p : ℕ) (d : Candidate) → p < length s.candidates → (get_or s.candidates p d).at < length s.closers
      inside p d lt =
          let listed = least.stack.listed p (get_or s.candidates p d) (slice_get-get_or s.candidates p d lt) in
          omega (arith, listed.still_open.before, within, x.long)

-- before the first token
pub scan-begin : (roles : List Role) → IsScan roles 0 (record { level = 0; candidates = []; closers = replicate (length roles) None; closed = false })
scan-begin roles = record {
  long = length-replicate {A = Option ℕ} (length roles) None;
  first = λ e. refl;
  scanned = λ closed a. record {
    level = refl;
    was = λ j e. cc;
    stack = record { listed = λ p c e. cc; all = λ i o. absurd (omega (arith, o.before)); rising = λ p q c d lt a b. cc; low = λ p c e. cc };
    found = record { sound = λ i j e. absurd (none_yet (length roles) i j e); complete = λ i j lt. absurd (omega (arith, lt)) };
  };
}
  where
    none_yet : (n i j : ℕ) → slice_get {X = Option ℕ} (replicate n None) i ≡ Some (Some j) → ⊥
    none_yet zero i j e = cc
    none_yet (suc n) zero j e = cc
    none_yet (suc n) (suc i) j e = none_yet n i j e

-- after the last token
pub scan-end : (roles : List Role) (k : ℕ) (s : ScanState) → IsScan roles k s → k ≡ length roles → AreClosers roles s.closers
scan-end roles k s x e = record {
  sound = λ i j f. (found.sound i j f).0;
  complete = λ i j p lt. found.complete i j (omega (arith, lt, e)) p;
}
  where
    found : IsFoundSo roles (closes s.closers) k s.closers
    found = (x.scanned (closes s.closers) (record { same = λ j lt. refl })).found

-- one step, as the code goes on
pub scan-step : (roles : List Role) (k n : ℕ) (s t : ScanState) → IsScan roles k s → k < length roles → n ≡ suc k → t ≡ next (role_at roles k) (is_opener roles k) k s → IsScan roles n t
scan-step roles k n s t x lt e is = rw (e, is) (next-scan roles k s x lt)
