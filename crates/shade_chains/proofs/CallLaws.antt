-- The events of a function are its calls and the statements at which all lanes meet.
use Rattle.std.proofs.Common.{◌≡◌, refl, sym, ap, subst, ◌∙◌, ℕ, zero, suc, ◌+◌, ◌<◌, List, [], ◌∷◌, ◌++◌, length, map, Option, Some, None, inl, inr, arith}
use Rattle.std.specs.Prelude.{◌⊎◌, min, Contains, slice_get, slice_index_or, option_map}
use Rattle.std.proofs.lemmas.List.Elements.{Contains-append_left, Contains-append_right, Contains-append_cases}
use Rattle.std.proofs.lemmas.Option.{slice_get-map}
use Rattle.shade_core.specs.declared.module.CoreFunction.{CoreFunction}
use Rattle.shade_core.specs.declared.module.CoreModule.{CoreModule}
use Rattle.shade_core.specs.Code.{Plain, Set, Load, Declare, Store, Atomic, Barrier, UniformLoad, Length, Code, done, plain, jump, call, branch, switch, loop, no_part, part, code_of}
use Rattle.shade_core.specs.Chains.{calls_in, meetings_in, CallsIn, MeetsIn}
use Rattle.shade_chains.specs.declared.events.Event.{Event}
use Rattle.shade_chains.specs.Events.{deeper, event, events, plain_events}
use Rattle.shade_chains.specs.Orders.{Rows, RowCalls}
use Rattle.shade_chains.specs.Tops.{rows_in}

-- ---- lists

pub contains_cases : {A : Type 0} (y : A) (xs : List A) (x : A) → Contains (y ∷ xs) x → (y ≡ x) ⊎ Contains xs x
contains_cases {A} y xs x h = by_place h.0 h.1 h.2
  where
    by_place : (k : ℕ) → k < length (y ∷ xs) → slice_index_or (y ∷ xs) k x ≡ x → (y ≡ x) ⊎ Contains xs x
    by_place zero lt e = inl e
    by_place (suc k) lt e = inr (k, omega (arith, lt), e)

pub contains_behind : {A : Type 0} (y : A) (xs : List A) (x : A) → Contains xs x → Contains (y ∷ xs) x
contains_behind y xs x h = (suc h.0, omega (arith, h.1), h.2)

pub contains_first : {A : Type 0} (x : A) (xs : List A) → Contains (x ∷ xs) x
contains_first x xs = (zero, omega arith, refl)

contains_three : {A : Type 0} (xs ys zs : List A) (x : A) → Contains (xs ++ ys ++ zs) x → Contains xs x ⊎ Contains ys x ⊎ Contains zs x
contains_three xs ys zs x h = elim (Contains-append_cases (xs ++ ys) zs x h) [
  | inl front ↦ elim (Contains-append_cases xs ys x front) [
    | inl a ↦ inl a
    | inr b ↦ inr (inl b)
  ]
  | inr c ↦ inr (inr c)
]

in_one : {A : Type 0} (xs ys zs : List A) (x : A) → Contains xs x → Contains (xs ++ ys ++ zs) x
in_one xs ys zs x h = Contains-append_left (xs ++ ys) zs x (Contains-append_left xs ys x h)

in_two : {A : Type 0} (xs ys zs : List A) (x : A) → Contains ys x → Contains (xs ++ ys ++ zs) x
in_two xs ys zs x h = Contains-append_left (xs ++ ys) zs x (Contains-append_right xs ys x h)

in_three : {A : Type 0} (xs ys zs : List A) (x : A) → Contains zs x → Contains (xs ++ ys ++ zs) x
in_three xs ys zs x h = Contains-append_right (xs ++ ys) zs x h

nothing : {A : Type 0} (x : A) → Contains [] x → ⊥
nothing x h = omega (arith, h.1)

-- ---- calls

next_loop : (n loops : ℕ) → n ≡ min 255 loops → deeper n ≡ min 255 (loops + 1)
next_loop n loops e = omega (arith, e)

call_listed : (c : Code) (loops n g l : ℕ) → n ≡ min 255 loops → Contains (calls_in loops c) (g, l) → Contains (events n c) (event (min 255 l) (Some g))
call_listed done loops n g l e h = absurd (nothing (g, l) h)
call_listed (plain m act rest) loops n g l e h = Contains-append_right (plain_events n act) (events n rest) (event (min 255 l) (Some g)) (call_listed rest loops n g l e h)
call_listed (jump m act rest) loops n g l e h = call_listed rest loops n g l e h
call_listed (call m f args rest) loops n g l e h = elim (contains_cases (f, loops) (calls_in loops rest) (g, l) h) [
  | inl s ↦
      let same_loops : loops ≡ l = ap (λ (p : ℕ × ℕ). p.1) s in
      let same_callee : f ≡ g = ap (λ (p : ℕ × ℕ). p.0) s in
      subst (Contains (event n (Some f) ∷ events n rest)) (λ i. event ((e ∙ ap (min 255) same_loops) i) (Some (same_callee i))) (contains_first (event n (Some f)) (events n rest))
  | inr more ↦ contains_behind (event n (Some f)) (events n rest) (event (min 255 l) (Some g)) (call_listed rest loops n g l e more)
]
call_listed (branch m cond one two rest) loops n g l e h = elim (contains_three (calls_in loops one) (calls_in loops two) (calls_in loops rest) (g, l) h) [
  | inl a ↦ in_one (events n one) (events n two) (events n rest) (event (min 255 l) (Some g)) (call_listed one loops n g l e a)
  | inr (inl b) ↦ in_two (events n one) (events n two) (events n rest) (event (min 255 l) (Some g)) (call_listed two loops n g l e b)
  | inr (inr c) ↦ in_three (events n one) (events n two) (events n rest) (event (min 255 l) (Some g)) (call_listed rest loops n g l e c)
]
call_listed (switch m selector parts rest) loops n g l e h = elim (Contains-append_cases (calls_in loops parts) (calls_in loops rest) (g, l) h) [
  | inl a ↦ Contains-append_left (events n parts) (events n rest) (event (min 255 l) (Some g)) (call_listed parts loops n g l e a)
  | inr b ↦ Contains-append_right (events n parts) (events n rest) (event (min 255 l) (Some g)) (call_listed rest loops n g l e b)
]
call_listed (loop m body continuing leave rest) loops n g l e h = elim (contains_three (calls_in (loops + 1) body) (calls_in (loops + 1) continuing) (calls_in loops rest) (g, l) h) [
  | inl a ↦ in_one (events (deeper n) body) (events (deeper n) continuing) (events n rest) (event (min 255 l) (Some g)) (call_listed body (loops + 1) (deeper n) g l (next_loop n loops e) a)
  | inr (inl b) ↦ in_two (events (deeper n) body) (events (deeper n) continuing) (events n rest) (event (min 255 l) (Some g)) (call_listed continuing (loops + 1) (deeper n) g l (next_loop n loops e) b)
  | inr (inr c) ↦ in_three (events (deeper n) body) (events (deeper n) continuing) (events n rest) (event (min 255 l) (Some g)) (call_listed rest loops n g l e c)
]
call_listed no_part loops n g l e h = absurd (nothing (g, l) h)
call_listed (part m which keys fallback body others) loops n g l e h = elim (Contains-append_cases (calls_in loops body) (calls_in loops others) (g, l) h) [
  | inl a ↦ Contains-append_left (events n body) (events n others) (event (min 255 l) (Some g)) (call_listed body loops n g l e a)
  | inr b ↦ Contains-append_right (events n body) (events n others) (event (min 255 l) (Some g)) (call_listed others loops n g l e b)
]

-- a call that an event is of
abbrev CallOf : Code → ℕ → ℕ → ℕ → Type 0
CallOf c loops g m = (l : ℕ) × Contains (calls_in loops c) (g, l) × (m ≡ min 255 l)

one_meeting : (n m g : ℕ) → Contains (event n None ∷ []) (event m (Some g)) → ⊥
one_meeting n m g h = elim (contains_cases (event n None) [] (event m (Some g)) h) [
  | inl s ↦ (let f : None ≡ Some g = ap (λ x. x.callee) s in cc)
  | inr none ↦ nothing (event m (Some g)) none
]

no_plain_call : (act : Plain) (n m g : ℕ) → Contains (plain_events n act) (event m (Some g)) → ⊥
no_plain_call (Set op args) n m g h = nothing (event m (Some g)) h
no_plain_call (Load view) n m g h = nothing (event m (Some g)) h
no_plain_call (Declare local value) n m g h = nothing (event m (Some g)) h
no_plain_call (Store view value) n m g h = nothing (event m (Some g)) h
no_plain_call (Atomic op view args) n m g h = nothing (event m (Some g)) h
no_plain_call (Barrier in_space severity) n m g h = one_meeting n m g h
no_plain_call (UniformLoad view severity) n m g h = one_meeting n m g h
no_plain_call (Length view) n m g h = nothing (event m (Some g)) h

call_back : (c : Code) (loops n g m : ℕ) → n ≡ min 255 loops → Contains (events n c) (event m (Some g)) → CallOf c loops g m
call_back done loops n g m e h = absurd (nothing (event m (Some g)) h)
call_back (plain k act rest) loops n g m e h = elim (Contains-append_cases (plain_events n act) (events n rest) (event m (Some g)) h) [
  | inl none ↦ absurd (no_plain_call act n m g none)
  | inr b ↦ call_back rest loops n g m e b
]
call_back (jump k act rest) loops n g m e h = call_back rest loops n g m e h
call_back (call k f args rest) loops n g m e h = elim (contains_cases (event n (Some f)) (events n rest) (event m (Some g)) h) [
  | inl s ↦
      let same_callee : f ≡ g = (let q : Some f ≡ Some g = ap (λ x. x.callee) s in cc) in
      let same_loops : n ≡ m = ap (λ x. x.loops) s in (
        loops,
        subst (Contains ((f, loops) ∷ calls_in loops rest)) (λ i. (same_callee i, loops)) (contains_first (f, loops) (calls_in loops rest)),
        sym same_loops ∙ e,
      )
  | inr b ↦ (let r = call_back rest loops n g m e b in (r.0, contains_behind (f, loops) (calls_in loops rest) (g, r.0) r.1, r.2))
]
call_back (branch k cond one two rest) loops n g m e h = elim (contains_three (events n one) (events n two) (events n rest) (event m (Some g)) h) [
  | inl a ↦ (let r = call_back one loops n g m e a in (r.0, in_one (calls_in loops one) (calls_in loops two) (calls_in loops rest) (g, r.0) r.1, r.2))
  | inr (inl b) ↦ (let r = call_back two loops n g m e b in (r.0, in_two (calls_in loops one) (calls_in loops two) (calls_in loops rest) (g, r.0) r.1, r.2))
  | inr (inr c) ↦ (let r = call_back rest loops n g m e c in (r.0, in_three (calls_in loops one) (calls_in loops two) (calls_in loops rest) (g, r.0) r.1, r.2))
]
call_back (switch k selector parts rest) loops n g m e h = elim (Contains-append_cases (events n parts) (events n rest) (event m (Some g)) h) [
  | inl a ↦ (let r = call_back parts loops n g m e a in (r.0, Contains-append_left (calls_in loops parts) (calls_in loops rest) (g, r.0) r.1, r.2))
  | inr b ↦ (let r = call_back rest loops n g m e b in (r.0, Contains-append_right (calls_in loops parts) (calls_in loops rest) (g, r.0) r.1, r.2))
]
call_back (loop k body continuing leave rest) loops n g m e h = elim (contains_three (events (deeper n) body) (events (deeper n) continuing) (events n rest) (event m (Some g)) h) [
  | inl a ↦ (let r = call_back body (loops + 1) (deeper n) g m (next_loop n loops e) a in (r.0, in_one (calls_in (loops + 1) body) (calls_in (loops + 1) continuing) (calls_in loops rest) (g, r.0) r.1, r.2))
  | inr (inl b) ↦ (let r = call_back continuing (loops + 1) (deeper n) g m (next_loop n loops e) b in (r.0, in_two (calls_in (loops + 1) body) (calls_in (loops + 1) continuing) (calls_in loops rest) (g, r.0) r.1, r.2))
  | inr (inr c) ↦ (let r = call_back rest loops n g m e c in (r.0, in_three (calls_in (loops + 1) body) (calls_in (loops + 1) continuing) (calls_in loops rest) (g, r.0) r.1, r.2))
]
call_back no_part loops n g m e h = absurd (nothing (event m (Some g)) h)
call_back (part k which keys fallback body others) loops n g m e h = elim (Contains-append_cases (events n body) (events n others) (event m (Some g)) h) [
  | inl a ↦ (let r = call_back body loops n g m e a in (r.0, Contains-append_left (calls_in loops body) (calls_in loops others) (g, r.0) r.1, r.2))
  | inr b ↦ (let r = call_back others loops n g m e b in (r.0, Contains-append_right (calls_in loops body) (calls_in loops others) (g, r.0) r.1, r.2))
]

-- ---- meetings

meet_first : (loops n l : ℕ) (rest : Code) → n ≡ min 255 loops → (Contains (meetings_in loops rest) l → Contains (events n rest) (event (min 255 l) None)) → Contains (loops ∷ meetings_in loops rest) l
    → Contains (event n None ∷ events n rest) (event (min 255 l) None)
meet_first loops n l rest e more h = elim (contains_cases loops (meetings_in loops rest) l h) [
  | inl s ↦ subst (Contains (event n None ∷ events n rest)) (λ i. event ((e ∙ ap (min 255) s) i) None) (contains_first (event n None) (events n rest))
  | inr b ↦ contains_behind (event n None) (events n rest) (event (min 255 l) None) (more b)
]

meet_plain : (act : Plain) (k loops n l : ℕ) (rest : Code) → n ≡ min 255 loops → (Contains (meetings_in loops rest) l → Contains (events n rest) (event (min 255 l) None)) → Contains (meetings_in loops (plain k act rest)) l
    → Contains (plain_events n act ++ events n rest) (event (min 255 l) None)
meet_plain (Set op args) k loops n l rest e more h = more h
meet_plain (Load view) k loops n l rest e more h = more h
meet_plain (Declare local value) k loops n l rest e more h = more h
meet_plain (Store view value) k loops n l rest e more h = more h
meet_plain (Atomic op view args) k loops n l rest e more h = more h
meet_plain (Barrier in_space severity) k loops n l rest e more h = meet_first loops n l rest e more h
meet_plain (UniformLoad view severity) k loops n l rest e more h = meet_first loops n l rest e more h
meet_plain (Length view) k loops n l rest e more h = more h

meet_listed : (c : Code) (loops n l : ℕ) → n ≡ min 255 loops → Contains (meetings_in loops c) l → Contains (events n c) (event (min 255 l) None)
meet_listed done loops n l e h = absurd (nothing l h)
meet_listed (plain k act rest) loops n l e h = meet_plain act k loops n l rest e (meet_listed rest loops n l e) h
meet_listed (jump k act rest) loops n l e h = meet_listed rest loops n l e h
meet_listed (call k f args rest) loops n l e h = contains_behind (event n (Some f)) (events n rest) (event (min 255 l) None) (meet_listed rest loops n l e h)
meet_listed (branch k cond one two rest) loops n l e h = elim (contains_three (meetings_in loops one) (meetings_in loops two) (meetings_in loops rest) l h) [
  | inl a ↦ in_one (events n one) (events n two) (events n rest) (event (min 255 l) None) (meet_listed one loops n l e a)
  | inr (inl b) ↦ in_two (events n one) (events n two) (events n rest) (event (min 255 l) None) (meet_listed two loops n l e b)
  | inr (inr c) ↦ in_three (events n one) (events n two) (events n rest) (event (min 255 l) None) (meet_listed rest loops n l e c)
]
meet_listed (switch k selector parts rest) loops n l e h = elim (Contains-append_cases (meetings_in loops parts) (meetings_in loops rest) l h) [
  | inl a ↦ Contains-append_left (events n parts) (events n rest) (event (min 255 l) None) (meet_listed parts loops n l e a)
  | inr b ↦ Contains-append_right (events n parts) (events n rest) (event (min 255 l) None) (meet_listed rest loops n l e b)
]
meet_listed (loop k body continuing leave rest) loops n l e h = elim (contains_three (meetings_in (loops + 1) body) (meetings_in (loops + 1) continuing) (meetings_in loops rest) l h) [
  | inl a ↦ in_one (events (deeper n) body) (events (deeper n) continuing) (events n rest) (event (min 255 l) None) (meet_listed body (loops + 1) (deeper n) l (next_loop n loops e) a)
  | inr (inl b) ↦ in_two (events (deeper n) body) (events (deeper n) continuing) (events n rest) (event (min 255 l) None) (meet_listed continuing (loops + 1) (deeper n) l (next_loop n loops e) b)
  | inr (inr c) ↦ in_three (events (deeper n) body) (events (deeper n) continuing) (events n rest) (event (min 255 l) None) (meet_listed rest loops n l e c)
]
meet_listed no_part loops n l e h = absurd (nothing l h)
meet_listed (part k which keys fallback body others) loops n l e h = elim (Contains-append_cases (meetings_in loops body) (meetings_in loops others) l h) [
  | inl a ↦ Contains-append_left (events n body) (events n others) (event (min 255 l) None) (meet_listed body loops n l e a)
  | inr b ↦ Contains-append_right (events n body) (events n others) (event (min 255 l) None) (meet_listed others loops n l e b)
]

-- a meeting that an event is of
abbrev MeetingOf : Code → ℕ → ℕ → Type 0
MeetingOf c loops m = (l : ℕ) × Contains (meetings_in loops c) l × (m ≡ min 255 l)

back_first : (loops n m : ℕ) (rest : Code) → n ≡ min 255 loops → (Contains (events n rest) (event m None) → MeetingOf rest loops m) → Contains (event n None ∷ events n rest) (event m None)
    → (l : ℕ) × Contains (loops ∷ meetings_in loops rest) l × (m ≡ min 255 l)
back_first loops n m rest e more h = elim (contains_cases (event n None) (events n rest) (event m None) h) [
  | inl s ↦ (loops, contains_first loops (meetings_in loops rest), sym (ap (λ x. x.loops) s) ∙ e)
  | inr b ↦ (let r = more b in (r.0, contains_behind loops (meetings_in loops rest) r.0 r.1, r.2))
]

back_plain : (act : Plain) (k loops n m : ℕ) (rest : Code) → n ≡ min 255 loops → (Contains (events n rest) (event m None) → MeetingOf rest loops m) → Contains (plain_events n act ++ events n rest) (event m None)
    → MeetingOf (plain k act rest) loops m
back_plain (Set op args) k loops n m rest e more h = more h
back_plain (Load view) k loops n m rest e more h = more h
back_plain (Declare local value) k loops n m rest e more h = more h
back_plain (Store view value) k loops n m rest e more h = more h
back_plain (Atomic op view args) k loops n m rest e more h = more h
back_plain (Barrier in_space severity) k loops n m rest e more h = back_first loops n m rest e more h
back_plain (UniformLoad view severity) k loops n m rest e more h = back_first loops n m rest e more h
back_plain (Length view) k loops n m rest e more h = more h

meet_back : (c : Code) (loops n m : ℕ) → n ≡ min 255 loops → Contains (events n c) (event m None) → MeetingOf c loops m
meet_back done loops n m e h = absurd (nothing (event m None) h)
meet_back (plain k act rest) loops n m e h = back_plain act k loops n m rest e (meet_back rest loops n m e) h
meet_back (jump k act rest) loops n m e h = meet_back rest loops n m e h
meet_back (call k f args rest) loops n m e h = elim (contains_cases (event n (Some f)) (events n rest) (event m None) h) [
  | inl s ↦ absurd (let f : Some f ≡ None = ap (λ x. x.callee) s in cc)
  | inr b ↦ meet_back rest loops n m e b
]
meet_back (branch k cond one two rest) loops n m e h = elim (contains_three (events n one) (events n two) (events n rest) (event m None) h) [
  | inl a ↦ (let r = meet_back one loops n m e a in (r.0, in_one (meetings_in loops one) (meetings_in loops two) (meetings_in loops rest) r.0 r.1, r.2))
  | inr (inl b) ↦ (let r = meet_back two loops n m e b in (r.0, in_two (meetings_in loops one) (meetings_in loops two) (meetings_in loops rest) r.0 r.1, r.2))
  | inr (inr c) ↦ (let r = meet_back rest loops n m e c in (r.0, in_three (meetings_in loops one) (meetings_in loops two) (meetings_in loops rest) r.0 r.1, r.2))
]
meet_back (switch k selector parts rest) loops n m e h = elim (Contains-append_cases (events n parts) (events n rest) (event m None) h) [
  | inl a ↦ (let r = meet_back parts loops n m e a in (r.0, Contains-append_left (meetings_in loops parts) (meetings_in loops rest) r.0 r.1, r.2))
  | inr b ↦ (let r = meet_back rest loops n m e b in (r.0, Contains-append_right (meetings_in loops parts) (meetings_in loops rest) r.0 r.1, r.2))
]
meet_back (loop k body continuing leave rest) loops n m e h = elim (contains_three (events (deeper n) body) (events (deeper n) continuing) (events n rest) (event m None) h) [
  | inl a ↦ (let r = meet_back body (loops + 1) (deeper n) m (next_loop n loops e) a in (r.0, in_one (meetings_in (loops + 1) body) (meetings_in (loops + 1) continuing) (meetings_in loops rest) r.0 r.1, r.2))
  | inr (inl b) ↦ (let r = meet_back continuing (loops + 1) (deeper n) m (next_loop n loops e) b in (r.0, in_two (meetings_in (loops + 1) body) (meetings_in (loops + 1) continuing) (meetings_in loops rest) r.0 r.1, r.2))
  | inr (inr c) ↦ (let r = meet_back rest loops n m e c in (r.0, in_three (meetings_in (loops + 1) body) (meetings_in (loops + 1) continuing) (meetings_in loops rest) r.0 r.1, r.2))
]
meet_back no_part loops n m e h = absurd (nothing (event m None) h)
meet_back (part k which keys fallback body others) loops n m e h = elim (Contains-append_cases (events n body) (events n others) (event m None) h) [
  | inl a ↦ (let r = meet_back body loops n m e a in (r.0, Contains-append_left (meetings_in loops body) (meetings_in loops others) r.0 r.1, r.2))
  | inr b ↦ (let r = meet_back others loops n m e b in (r.0, Contains-append_right (meetings_in loops body) (meetings_in loops others) r.0 r.1, r.2))
]

-- ---- the events of each function

abbrev row_of : CoreFunction → List Event
row_of f = events 0 (code_of f.body)

pub row_at : (functions : List CoreFunction) (k : ℕ) (f : CoreFunction) → slice_get functions k ≡ Some f → slice_get (rows_in functions) k ≡ Some (events 0 (code_of f.body))
row_at functions k f at = slice_get-map row_of functions k ∙ ap (option_map row_of) at

pub row_from : (functions : List CoreFunction) (k : ℕ) (row : List Event) → slice_get (rows_in functions) k ≡ Some row → (f : CoreFunction) × (slice_get functions k ≡ Some f) × (row ≡ events 0 (code_of f.body))
row_from functions k row at = by_found (slice_get functions k) refl
  where
    by_found : (found : Option CoreFunction) → slice_get functions k ≡ found → (f : CoreFunction) × (slice_get functions k ≡ Some f) × (row ≡ events 0 (code_of f.body))
    by_found None e = absurd (let q : Some row ≡ None = sym at ∙ (slice_get-map row_of functions k ∙ ap (option_map row_of) e) in cc)
    by_found (Some f) e = (f, e, (let q : Some row ≡ Some (row_of f) = sym at ∙ (slice_get-map row_of functions k ∙ ap (option_map row_of) e) in cc))

pub call_row : (shader : CoreModule) (k g l : ℕ) (f : CoreFunction) → slice_get shader.functions k ≡ Some f → CallsIn shader k g l → Contains (events 0 (code_of f.body)) (event (min 255 l) (Some g))
call_row shader k g l f at c =
    let same : c.function ≡ f = (let q : Some c.function ≡ Some f = sym c.at ∙ at in cc) in
    call_listed (code_of f.body) 0 0 g l refl (subst (λ x. Contains (calls_in 0 (code_of x.body)) (g, l)) same c.stands)

pub row_call : (shader : CoreModule) (k g m : ℕ) (f : CoreFunction) → slice_get shader.functions k ≡ Some f → Contains (events 0 (code_of f.body)) (event m (Some g)) → (l : ℕ) × CallsIn shader k g l × (m ≡ min 255 l)
row_call shader k g m f at h = (let r = call_back (code_of f.body) 0 0 g m refl h in (r.0, record { function = f; at = at; stands = r.1 }, r.2))

pub meeting_row : (shader : CoreModule) (k l : ℕ) (f : CoreFunction) → slice_get shader.functions k ≡ Some f → MeetsIn shader k l → Contains (events 0 (code_of f.body)) (event (min 255 l) None)
meeting_row shader k l f at c =
    let same : c.function ≡ f = (let q : Some c.function ≡ Some f = sym c.at ∙ at in cc) in
    meet_listed (code_of f.body) 0 0 l refl (subst (λ x. Contains (meetings_in 0 (code_of x.body)) l) same c.stands)

pub row_meeting : (shader : CoreModule) (k m : ℕ) (f : CoreFunction) → slice_get shader.functions k ≡ Some f → Contains (events 0 (code_of f.body)) (event m None) → (l : ℕ) × MeetsIn shader k l × (m ≡ min 255 l)
row_meeting shader k m f at h = (let r = meet_back (code_of f.body) 0 0 m refl h in (r.0, record { function = f; at = at; stands = r.1 }, r.2))
