-- Rows of usages, function by function, each behind those that it calls.
use Rattle.std.proofs.Common.{◌≡◌, refl, sym, ap, subst, ◌∙◌, ℕ, zero, suc, ◌+◌, ◌<◌, ◌≤◌, List, [], ◌∷◌, ◌++◌, length, get_or, Option, Some, inl, inr, arith}
use Rattle.std.specs.Prelude.{◌⊎◌, ◌↔◌, Contains, slice_get, slice_set}
use Rattle.std.specs.Option.{option_map}
use Rattle.std.proofs.lemmas.Bool.{cases_lt}
use Rattle.std.proofs.lemmas.List.{length-map, length-append}
use Rattle.std.proofs.lemmas.List.Elements.{Contains-append_left, Contains-append_right, Contains-append_cases}
use Rattle.std.proofs.lemmas.Option.{slice_get-map, slice_get-get_or}
use Rattle.shade_core.specs.declared.statement.Argument.{Argument}
use Rattle.shade_core.specs.declared.module.CoreFunction.{CoreFunction}
use Rattle.shade_core.specs.Code.{Code, done, plain, jump, call, branch, switch, loop, no_part, part, code_of}
use Rattle.shade_core.specs.Standing.{Standing, does, jumps, calls, branches, switches, loops, cases_of, standing, statements}
use Rattle.shade_chains.specs.Events.{deeper, event, events, plain_events}
use Rattle.shade_chains.specs.Orders.{RowCalls, IsOrder}
use Rattle.shade_chains.specs.Tops.{rows_in}
use Rattle.shade_rules.specs.declared.usage.Row.{Row}
use Rattle.shade_rules.specs.Gathered.{Rows, HasBy, HasAt, FunctionGives, IsUnknown, AreUsages}
use Rattle.shade_rules.specs.Sets.{HasUsage}
use Rattle.shade_rules.specs.Usages.{Usage, StandsIn, Uses}
use Rattle.shade_rules.proofs.UsageLaws as laws
use Rattle.shade_rules.proofs.UsageLaws.{none_in, behind_of, first_of, uses_within, function_sound, function_complete}

-- ---- a call that stands in a function is an event of it

three : {A : Type 0} (xs ys zs : List A) (x : A) → Contains (xs ++ ys ++ zs) x → Contains xs x ⊎ (Contains ys x ⊎ Contains zs x)
three xs ys zs x h = elim (Contains-append_cases (xs ++ ys) zs x h) [
  | inl front ↦ elim (Contains-append_cases xs ys x front) [ inl a ↦ inl a | inr b ↦ inr (inl b) ]
  | inr c ↦ inr (inr c)
]

in_first : {A : Type 0} (xs ys zs : List A) (x : A) → Contains xs x → Contains (xs ++ ys ++ zs) x
in_first xs ys zs x h = Contains-append_left (xs ++ ys) zs x (Contains-append_left xs ys x h)

in_second : {A : Type 0} (xs ys zs : List A) (x : A) → Contains ys x → Contains (xs ++ ys ++ zs) x
in_second xs ys zs x h = Contains-append_left (xs ++ ys) zs x (Contains-append_right xs ys x h)

in_third : {A : Type 0} (xs ys zs : List A) (x : A) → Contains zs x → Contains (xs ++ ys ++ zs) x
in_third xs ys zs x h = Contains-append_right (xs ++ ys) zs x h

head_same : (s t : Standing) → s ≡ t → s.head ≡ t.head
head_same s t e = ap (λ (x : Standing). x.head) e

same_callee : (f g : ℕ) (fs gs : List Argument) → calls f fs ≡ calls g gs → f ≡ g
same_callee f g fs gs e = cc

abbrev HasEvent : ℕ → Code → ℕ → Type 0
HasEvent deep c g = (m : ℕ) × Contains (events deep c) (event m (Some g))

call_event : (deep : ℕ) (c : Code) (n g : ℕ) (args : List Argument) → Contains (statements c) (standing n (calls g args)) → HasEvent deep c g
call_event deep done n g args h = absurd (none_in (standing n (calls g args)) h)
call_event deep (plain m act rest) n g args h = elim (laws.cases_of (standing m (does act)) (statements rest) (standing n (calls g args)) h) [
  | inl e ↦ let wrong : does act ≡ calls g args = head_same (standing m (does act)) (standing n (calls g args)) e in cc
  | inr later ↦ let r : HasEvent deep rest g = call_event deep rest n g args later in (r.0, Contains-append_right (plain_events deep act) (events deep rest) (event r.0 (Some g)) r.1)
]
call_event deep (jump m act rest) n g args h = elim (laws.cases_of (standing m (jumps act)) (statements rest) (standing n (calls g args)) h) [
  | inl e ↦ let wrong : jumps act ≡ calls g args = head_same (standing m (jumps act)) (standing n (calls g args)) e in cc
  | inr later ↦ call_event deep rest n g args later
]
call_event deep (call m f fs rest) n g args h = elim (laws.cases_of (standing m (calls f fs)) (statements rest) (standing n (calls g args)) h) [
  | inl e ↦
      let same : f ≡ g = same_callee f g fs args (head_same (standing m (calls f fs)) (standing n (calls g args)) e) in
      (deep, subst (λ (k : ℕ). Contains (event deep (Some f) ∷ events deep rest) (event deep (Some k))) same (first_of (event deep (Some f)) (events deep rest)))
  | inr later ↦ let r : HasEvent deep rest g = call_event deep rest n g args later in (r.0, behind_of (event deep (Some f)) (events deep rest) (event r.0 (Some g)) r.1)
]
call_event deep (branch m cond one two rest) n g args h = elim (laws.cases_of (standing m (branches cond)) (statements one ++ statements two ++ statements rest) (standing n (calls g args)) h) [
  | inl e ↦ let wrong : branches cond ≡ calls g args = head_same (standing m (branches cond)) (standing n (calls g args)) e in cc
  | inr inside_ ↦ elim (three (statements one) (statements two) (statements rest) (standing n (calls g args)) inside_) [
    | inl a ↦ let r : HasEvent deep one g = call_event deep one n g args a in (r.0, in_first (events deep one) (events deep two) (events deep rest) (event r.0 (Some g)) r.1)
    | inr more ↦ elim more [
      | inl b ↦ let r : HasEvent deep two g = call_event deep two n g args b in (r.0, in_second (events deep one) (events deep two) (events deep rest) (event r.0 (Some g)) r.1)
      | inr c ↦ let r : HasEvent deep rest g = call_event deep rest n g args c in (r.0, in_third (events deep one) (events deep two) (events deep rest) (event r.0 (Some g)) r.1)
    ]
  ]
]
call_event deep (switch m selector parts rest) n g args h = elim (laws.cases_of (standing m (switches selector (cases_of parts))) (statements parts ++ statements rest) (standing n (calls g args)) h) [
  | inl e ↦ let wrong : switches selector (cases_of parts) ≡ calls g args = head_same (standing m (switches selector (cases_of parts))) (standing n (calls g args)) e in cc
  | inr inside_ ↦ elim (Contains-append_cases (statements parts) (statements rest) (standing n (calls g args)) inside_) [
    | inl a ↦ let r : HasEvent deep parts g = call_event deep parts n g args a in (r.0, Contains-append_left (events deep parts) (events deep rest) (event r.0 (Some g)) r.1)
    | inr b ↦ let r : HasEvent deep rest g = call_event deep rest n g args b in (r.0, Contains-append_right (events deep parts) (events deep rest) (event r.0 (Some g)) r.1)
  ]
]
call_event deep (loop m body continuing leave rest) n g args h = elim (laws.cases_of (standing m (loops leave)) (statements body ++ statements continuing ++ statements rest) (standing n (calls g args)) h) [
  | inl e ↦ let wrong : loops leave ≡ calls g args = head_same (standing m (loops leave)) (standing n (calls g args)) e in cc
  | inr inside_ ↦ elim (three (statements body) (statements continuing) (statements rest) (standing n (calls g args)) inside_) [
    | inl a ↦ let r : HasEvent (deeper deep) body g = call_event (deeper deep) body n g args a in (r.0, in_first (events (deeper deep) body) (events (deeper deep) continuing) (events deep rest) (event r.0 (Some g)) r.1)
    | inr more ↦ elim more [
      | inl b ↦ let r : HasEvent (deeper deep) continuing g = call_event (deeper deep) continuing n g args b in (r.0, in_second (events (deeper deep) body) (events (deeper deep) continuing) (events deep rest) (event r.0 (Some g)) r.1)
      | inr c ↦ let r : HasEvent deep rest g = call_event deep rest n g args c in (r.0, in_third (events (deeper deep) body) (events (deeper deep) continuing) (events deep rest) (event r.0 (Some g)) r.1)
    ]
  ]
]
call_event deep no_part n g args h = absurd (none_in (standing n (calls g args)) h)
call_event deep (part m which keys fallback body others) n g args h = elim (Contains-append_cases (statements body) (statements others) (standing n (calls g args)) h) [
  | inl a ↦ let r : HasEvent deep body g = call_event deep body n g args a in (r.0, Contains-append_left (events deep body) (events deep others) (event r.0 (Some g)) r.1)
  | inr b ↦ let r : HasEvent deep others g = call_event deep others n g args b in (r.0, Contains-append_right (events deep body) (events deep others) (event r.0 (Some g)) r.1)
]

row_calls : (functions : List CoreFunction) (k g : ℕ) (args : List Argument) → StandsIn functions k (calls g args) → RowCalls (rows_in functions) k g
row_calls functions k g args stands =
    let r : HasEvent 0 (code_of stands.function.body) g = call_event 0 (code_of stands.function.body) stands.number g args stands.stands in
    record {
      row = events 0 (code_of stands.function.body);
      at = slice_get-map (λ (f : CoreFunction). events 0 (code_of f.body)) functions k ∙ ap (option_map (λ (f : CoreFunction). events 0 (code_of f.body))) stands.at;
      loops = r.0;
      stands = r.1;
    }

-- ---- one row for another

set_here : (rows : Rows) (k : ℕ) (row : Row) → k < length rows → slice_get (slice_set rows k row) k ≡ Some row
set_here [] k row lt = absurd (omega (arith, lt))
set_here (r ∷ rows) zero row lt = refl
set_here (r ∷ rows) (suc k) row lt = set_here rows k row (omega (arith, lt))

set_there : (rows : Rows) (k g : ℕ) (row : Row) → (k ≡ g → ⊥) → slice_get (slice_set rows k row) g ≡ slice_get rows g
set_there [] k g row ne = refl
set_there (r ∷ rows) zero zero row ne = absurd (ne refl)
set_there (r ∷ rows) zero (suc g) row ne = refl
set_there (r ∷ rows) (suc k) zero row ne = refl
set_there (r ∷ rows) (suc k) (suc g) row ne = set_there rows k g row (λ e. ne (ap suc e))

-- one number or another
same_or : (k g : ℕ) → (k ≡ g) ⊎ (k ≡ g → ⊥)
same_or k g = elim (cases_lt k g) [
  | inl less ↦ inr (λ e. omega (arith, less, e))
  | inr more ↦ elim (cases_lt g k) [ inl less ↦ inr (λ e. omega (arith, less, e)) | inr le ↦ inl (omega (arith, more, le)) ]
]

module _ (functions : List CoreFunction) where
  -- what the rows tell is so
  abbrev pub AreSound : Rows → Type 0
  AreSound rows = (g : ℕ) (u : Usage) → HasAt rows g u → Uses functions g u

  -- of the first functions of an order the rows tell all
  abbrev pub AreWhole : List ℕ → ℕ → Rows → Type 0
  AreWhole order n rows = (i k : ℕ) → i < n → slice_get order i ≡ Some k → (u : Usage) → Uses functions k u → HasAt rows k u

  pub empty_sound : (rows : Rows) → ((k : ℕ) (u : Usage) → HasAt rows k u → ⊥) → AreSound rows
  empty_sound rows empty g u h = absurd (empty g u h)

  pub none_whole : (order : List ℕ) (rows : Rows) → AreWhole order 0 rows
  none_whole order rows i k lt = absurd (omega (arith, lt))

  module _ (rows : Rows) (k : ℕ) (f : CoreFunction) (row : Row) (sound : AreSound rows) (at : slice_get functions k ≡ Some f) (long : k < length rows)
      (is : (u : Usage) → HasUsage row u ↔ FunctionGives (HasAt rows) f u) where
    pub next_sound : AreSound (slice_set rows k row)
    next_sound g u h = elim (same_or k g) [
      | inl same ↦
          let here : HasUsage row u = subst (λ (o : Option Row). HasBy o u) (set_here rows k row long) (subst (λ (n : ℕ). HasAt (slice_set rows k row) n u) (sym same) h) in
          subst (λ (n : ℕ). Uses functions n u) same (function_sound functions rows sound k f u at ((is u).0 here))
      | inr apart ↦ sound g u (subst (λ (o : Option Row). HasBy o u) (set_there rows k g row apart) h)
    ]

    -- whatever stands behind its callees tells all
    module _ (order : List ℕ) (n : ℕ) (ordered : IsOrder (rows_in functions) order) (here : slice_get order n ≡ Some k) (whole : AreWhole order n rows) where
      callee : (g : ℕ) (args : List Argument) (u : Usage) → StandsIn functions k (calls g args) → Uses functions g u → HasAt rows g u
      callee g args u stands used =
          let within : g < length (rows_in functions) =
          (let few : g < length functions = uses_within functions g u used in
          let long_ : length (rows_in functions) ≡ length functions = length-map functions (λ (h : CoreFunction). events 0 (code_of h.body)) in
          omega (arith, few, long_)) in
          let earlier : (j : ℕ) × (j < n) × (slice_get order j ≡ Some g) = ordered.behind n k g here (row_calls functions k g args stands) within in
          whole earlier.0 g earlier.1 earlier.2 u used

      own : (u : Usage) → Uses functions k u → HasUsage row u
      own u used = (is u).1 (function_complete functions rows k f at callee u used)

      pub next_whole : AreWhole order (n + 1) (slice_set rows k row)
      next_whole i g lt there u used = elim (same_or k g) [
        | inl same ↦
            subst (λ (m : ℕ). HasAt (slice_set rows k row) m u) same
            (subst (λ (o : Option Row). HasBy o u) (sym (set_here rows k row long)) (own u (subst (λ (m : ℕ). Uses functions m u) (sym same) used)))
        | inr apart ↦ subst (λ (o : Option Row). HasBy o u) (sym (set_there rows k g row apart)) (whole i g (before i g lt there apart) there u used)
      ]
        where
          -- it is one of those before
          before : (i g : ℕ) → i < n + 1 → slice_get order i ≡ Some g → (k ≡ g → ⊥) → i < n
          before i g lt there apart = elim (cases_lt i n) [
            | inl less ↦ less
            | inr more ↦
                let same : i ≡ n = omega (arith, lt, more) in
                let one : Some k ≡ Some g = sym here ∙ (ap (slice_get order) (sym same) ∙ there) in
                absurd (apart (one_number k g one))
          ]
            where
              one_number : (a b : ℕ) → Some a ≡ Some b → a ≡ b
              one_number a b e = cc

  -- all functions
  pub all_usages : (rows : Rows) (order : List ℕ) (n : ℕ) → IsOrder (rows_in functions) order → length order ≤ n → AreSound rows → AreWhole order n rows → AreUsages functions rows
  all_usages rows order n ordered past sound whole k u = (
    λ h. sound k u h,
    λ used.
        (let few : k < length functions = uses_within functions k u used in
        let long : length (rows_in functions) ≡ length functions = length-map functions (λ (h : CoreFunction). events 0 (code_of h.body)) in
        let placed : Contains order k = ordered.all k (omega (arith, few, long)) in
        let at : slice_get order placed.0 ≡ Some k = laws.contains_at order k placed in
        let within : placed.0 < length order = placed.1 in
        whole placed.0 k (omega (arith, within, past)) at u used),
  )

-- ---- the turns of the loop over an order

length_set : (rows : Rows) (k : ℕ) (row : Row) → length (slice_set rows k row) ≡ length rows
length_set [] k row = refl
length_set (r ∷ rows) zero row = refl
length_set (r ∷ rows) (suc k) row = ap suc (length_set rows k row)

-- a function of an order is there
pub function_within : (functions : List CoreFunction) (order : List ℕ) (n d : ℕ) → IsOrder (rows_in functions) order → n < length order → get_or order n d < length functions
function_within functions order n d ordered lt =
    let below : get_or order n d < length (rows_in functions) = ordered.below n d lt in
    let long : length (rows_in functions) ≡ length functions = length-map functions (λ (f : CoreFunction). events 0 (code_of f.body)) in
    omega (arith, below, long)

-- what is gathered after the first functions of an order
pub record IsGathered (functions : List CoreFunction) (order : List ℕ) (n : ℕ) (rows : Rows) : Type 0 where
  pub long : length rows ≡ length functions
  pub sound : AreSound functions rows
  pub whole : AreWhole functions order n rows

pub gathered_first : (functions : List CoreFunction) (order : List ℕ) (rows : Rows) (count : ℕ) → IsUnknown count rows → count ≡ length functions → IsGathered functions order 0 rows
gathered_first functions order rows count h e = record { long = h.long ∙ e; sound = empty_sound functions rows h.empty; whole = none_whole functions order rows }

pub gathered_next : (functions : List CoreFunction) (order : List ℕ) (n d : ℕ) (rows more : Rows) (f : CoreFunction) (row : Row) → IsOrder (rows_in functions) order → n < length order → f ≡ get_or functions (get_or order n d) f
    → IsGathered functions order n rows → ((u : Usage) → HasUsage row u ↔ FunctionGives (HasAt rows) f u) → more ≡ slice_set rows (get_or order n d) row → IsGathered functions order (n + 1) more
gathered_next functions order n d rows more f row ordered lt is g row_is m =
    let k = get_or order n d in
    let within : k < length functions = function_within functions order n d ordered lt in
    let at : slice_get functions k ≡ Some f = slice_get-get_or functions k f within ∙ ap Some (sym is) in
    let here : slice_get order n ≡ Some k = slice_get-get_or order n d lt in
    let fits : k < length rows = (let long : length rows ≡ length functions = g.long in omega (arith, within, long)) in
    record {
      long = ap length m ∙ (length_set rows k row ∙ g.long);
      sound = subst (AreSound functions) (sym m) (next_sound functions rows k f row g.sound at fits row_is);
      whole = subst (AreWhole functions order (n + 1)) (sym m) (next_whole functions rows k f row g.sound at fits row_is order n ordered here g.whole);
    }

pub gathered_all : (functions : List CoreFunction) (order : List ℕ) (n : ℕ) (rows : Rows) → IsOrder (rows_in functions) order → length order ≤ n → IsGathered functions order n rows → AreUsages functions rows
gathered_all functions order n rows ordered past g = all_usages functions rows order n ordered past g.sound g.whole

-- as many rows as functions
pub row_within : (rows : Rows) (functions : List CoreFunction) (order : List ℕ) (n k : ℕ) → IsGathered functions order n rows → k < length functions → k < length rows
row_within rows functions order n k g lt = let long : length rows ≡ length functions = g.long in omega (arith, lt, long)

-- rows of functions of which nothing is known
empty_more : (rows : Rows) (row : Row) → ((u : Usage) → HasUsage row u → ⊥) → ((k : ℕ) (u : Usage) → HasAt rows k u → ⊥) → (k : ℕ) (u : Usage) → HasAt (rows ++ row ∷ []) k u → ⊥
empty_more [] row none h zero u x = none u x
empty_more [] row none h (suc k) u x = x
empty_more (r ∷ rows) row none h zero u x = h zero u x
empty_more (r ∷ rows) row none h (suc k) u x = empty_more rows row none (λ j. h (suc j)) k u x

pub unknown_first : (rows : Rows) → rows ≡ [] → IsUnknown 0 rows
unknown_first rows e = subst (λ (l : Rows). IsUnknown 0 l) (sym e) (record { long = refl; empty = λ k u h. h })

pub unknown_more : (rows more : Rows) (n : ℕ) (row : Row) → more ≡ rows ++ row ∷ [] → ((u : Usage) → HasUsage row u → ⊥) → IsUnknown n rows → IsUnknown (n + 1) more
unknown_more rows more n row m none h = record {
  long = ap length m ∙ (length-append rows (row ∷ []) ∙ ap (λ k. k + 1) h.long);
  empty = λ k u x. empty_more rows row none h.empty k u (subst (λ (l : Rows). HasAt l k u) m x);
}

pub unknown_all : (rows : Rows) (n count : ℕ) → count ≤ n → n ≤ count → IsUnknown n rows → IsUnknown count rows
unknown_all rows n count past within h = let same : n ≡ count = omega (arith, past, within) in subst (λ k. IsUnknown k rows) same h
