-- The greatest sum of a function over the chains of calls that begin there, from those of the functions that it calls.
use Rattle.std.proofs.Common.{◌≡◌, refl, sym, ap, subst, ◌∙◌, ℕ, zero, suc, ◌+◌, ◌<◌, ◌≤◌, List, [], ◌∷◌, length, map, fold, get_or, set, Option, Some, None, inl, inr, arith}
use Rattle.std.specs.Prelude.{◌⊎◌, min, max, All, Contains, slice_get, slice_index_or}
use Rattle.std.proofs.lemmas.List.{get_or-set_same, get_or-set_other}
use Rattle.std.proofs.lemmas.Bool.{cases_lt}
use Rattle.std.proofs.lemmas.Option.{slice_get-get_or}
use Rattle.shade_core.specs.declared.module.CoreFunction.{CoreFunction}
use Rattle.shade_core.specs.declared.module.CoreModule.{CoreModule}
use Rattle.shade_core.specs.Code.{code_of}
use Rattle.shade_core.specs.Views.{ValueTypes}
use Rattle.shade_core.specs.Chains.{CallsIn, Calls, MeetsIn, Chain, last, on}
use Rattle.shade_core.specs.Frames.{frame_length}
use Rattle.shade_core.specs.Limits.{Keeps, KeepsAndCalls, local_bytes, value_bytes}
use Rattle.shade_chains.specs.declared.events.Event.{Event}
use Rattle.shade_chains.specs.declared.chains.Measure.{Measure}
use Rattle.shade_chains.specs.declared.chains.Measure.TheVariants.{Bytes, Depth, Words}
use Rattle.shade_chains.specs.Events.{event, events}
use Rattle.shade_chains.specs.Orders.{Rows, RowCalls, IsOrder}
use Rattle.shade_chains.specs.Tops.{cap, IsTop, top_at, frame, own_part, last_part, meeting_part, summed, callee_part, event_part, greater, top_by, CalleesStand, Sums, rows_in, HasEvents}
use Rattle.shade_chains.proofs.CallLaws.{contains_cases, contains_behind, contains_first, row_at, row_from, call_row, row_call, meeting_row, row_meeting}

-- ---- the greatest of some sums

abbrev AtLeast : Option ℕ → ℕ → Type 0
AtLeast top x = (best : ℕ) × (top ≡ Some best) × (x ≤ best)

greater_left : (a b : Option ℕ) (x : ℕ) → AtLeast a x → AtLeast (greater a b) x
greater_left None b x h = absurd (let f : None ≡ Some h.0 = h.1 in cc)
greater_left (Some a) None x h = h
greater_left (Some a) (Some b) x h = (let same : a ≡ h.0 = (let f : Some a ≡ Some h.0 = h.1 in cc) in (max a b, refl, omega (arith, same, h.2)))

greater_right : (a b : Option ℕ) (x : ℕ) → AtLeast b x → AtLeast (greater a b) x
greater_right None b x h = h
greater_right (Some a) None x h = absurd (let f : None ≡ Some h.0 = h.1 in cc)
greater_right (Some a) (Some b) x h = (let same : b ≡ h.0 = (let f : Some b ≡ Some h.0 = h.1 in cc) in (max a b, refl, omega (arith, same, h.2)))

-- what holds of the number that is there
abbrev IfThere : (ℕ → Type 0) → Option ℕ → Type 0
IfThere R top = (best : ℕ) → top ≡ Some best → R best

greater_there : (R : ℕ → Type 0) (a b : Option ℕ) → IfThere R a → IfThere R b → IfThere R (greater a b)
greater_there R None b ra rb best e = rb best e
greater_there R (Some a) None ra rb best e = ra best e
greater_there R (Some a) (Some b) ra rb best e =
    let is : max a b ≡ best = (let f : Some (max a b) ≡ Some best = e in cc) in
    elim (cases_lt a b) [
      | inl lt ↦ subst R (omega (arith, is, lt)) (rb b refl)
      | inr ge ↦ subst R (omega (arith, is, ge)) (ra a refl)
    ]

fold_keeps : (p : Event → Option ℕ) (row : List Event) (start : Option ℕ) (x : ℕ) → AtLeast start x → AtLeast (fold (λ best e. greater best (p e)) start row) x
fold_keeps p [] start x h = h
fold_keeps p (e ∷ row) start x h = fold_keeps p row (greater start (p e)) x (greater_left start (p e) x h)

fold_takes : (p : Event → Option ℕ) (row : List Event) (start : Option ℕ) (e : Event) (x : ℕ) → Contains row e → AtLeast (p e) x → AtLeast (fold (λ best e. greater best (p e)) start row) x
fold_takes p [] start e x has h = absurd (omega (arith, has.1))
fold_takes p (y ∷ row) start e x has h = elim (contains_cases y row e has) [
  | inl s ↦ fold_keeps p row (greater start (p y)) x (greater_right start (p y) x (subst (λ z. AtLeast (p z) x) (sym s) h))
  | inr more ↦ fold_takes p row (greater start (p y)) e x more h
]

fold_there : (R : ℕ → Type 0) (p : Event → Option ℕ) (row : List Event) (start : Option ℕ) → IfThere R start → ((e : Event) → Contains row e → IfThere R (p e)) → IfThere R (fold (λ best e. greater best (p e)) start row)
fold_there R p [] start from each = from
fold_there R p (e ∷ row) start from each =
    fold_there R p row (greater start (p e)) (greater_there R start (p e) from (each e (contains_first e row))) (λ y has. each y (contains_behind e row y has))

-- a sum that the last function of a chain has, or an event
abbrev IsFound : Measure → ℕ → List (Option ℕ) → List Event → ℕ → Type 0
IsFound m bytes tops row x = AtLeast (last_part m bytes) x ⊎ ((e : Event) × Contains row e × AtLeast (event_part m bytes tops e) x)

abbrev IsReached : Measure → (ℕ → Type 0) → ℕ → Type 0
IsReached m Adds best = (total : ℕ) × Adds total × (min (cap m) total ≡ best)

top_made : (m : Measure) (Adds : ℕ → Type 0) (bytes : ℕ) (tops : List (Option ℕ)) (row : List Event) → ((total : ℕ) → Adds total → IsFound m bytes tops row (min (cap m) total))
    → IfThere (IsReached m Adds) (last_part m bytes) → ((e : Event) → Contains row e → IfThere (IsReached m Adds) (event_part m bytes tops e)) → IsTop (cap m) Adds (top_by m bytes tops row)
top_made m Adds bytes tops row found from each = record {
  above = λ total adds. elim (found total adds) [
    | inl l ↦ fold_keeps (event_part m bytes tops) row (last_part m bytes) (min (cap m) total) l
    | inr w ↦ fold_takes (event_part m bytes tops) row (last_part m bytes) w.0 (min (cap m) total) w.1 w.2
  ];
  reached = fold_there (IsReached m Adds) (event_part m bytes tops) row (last_part m bytes) from each;
}

-- ---- a call

call_above : (m : Measure) (own real rest : ℕ) (Rest : ℕ → Type 0) (top : Option ℕ) → own ≡ min (cap m) real → IsTop (cap m) Rest top → Rest rest → AtLeast (summed (cap m) own top) (min (cap m) (real + rest))
call_above m own real rest Rest top is t adds =
    let a = t.above rest adds in
    (min (cap m) (own + a.0), ap (summed (cap m) own) a.1, omega (arith, is, a.2))

call_there : (m : Measure) (Adds Rest : ℕ → Type 0) (own real : ℕ) (top : Option ℕ) → own ≡ min (cap m) real → IsTop (cap m) Rest top → ((rest : ℕ) → Rest rest → Adds (real + rest)) → IfThere (IsReached m Adds) (summed (cap m) own top)
call_there m Adds Rest own real None is t more best e = absurd (let f : None ≡ Some best = e in cc)
call_there m Adds Rest own real (Some b) is t more best e =
    let r = t.reached b refl in
    let sum : min (cap m) (own + b) ≡ best = (let f : Some (min (cap m) (own + b)) ≡ Some best = e in cc) in
    (real + r.0, more r.0 r.1, omega (arith, is, r.2, sum))

none_there : (R : ℕ → Type 0) → IfThere R None
none_there R best e = absurd (let f : None ≡ Some best = e in cc)

one_there : (R : ℕ → Type 0) (x : ℕ) → R x → IfThere R (Some x)
one_there R x h best e = subst R (let f : Some x ≡ Some best = e in cc) h

-- ---- the three measures

-- what is known where a function is measured
record Known (m : Measure) (shader : CoreModule) (values : ℕ → ValueTypes) (bytes : ℕ) (tops : List (Option ℕ)) (k : ℕ) (f : CoreFunction) : Type 0 where
  at : slice_get shader.functions k ≡ Some f
  keeps : min (cap Bytes) (local_bytes shader.types f + value_bytes shader.types (values k)) ≡ bytes
  callees : (g l : ℕ) → Contains (events 0 (code_of f.body)) (event l (Some g)) → IsTop (cap m) (Sums m shader values g) (top_at tops g)

-- the event of a call, and that of a meeting
by_event : (row : List Event) (R : Event → Type 0) → ((l : ℕ) → Contains row (event l None) → R (event l None)) → ((l g : ℕ) → Contains row (event l (Some g)) → R (event l (Some g))) → (e : Event) → Contains row e → R e
by_event row R meets calls e has = by_callee e.callee refl
  where
    by_callee : (callee : Option ℕ) → e.callee ≡ callee → R e
    by_callee None is =
        let same : e ≡ event e.loops None = λ i. event e.loops (is i) in
        subst R (sym same) (meets e.loops (subst (Contains row) same has))
    by_callee (Some g) is =
        let same : e ≡ event e.loops (Some g) = λ i. event e.loops (is i) in
        subst R (sym same) (calls e.loops g (subst (Contains row) same has))

depth_top : (shader : CoreModule) (values : ℕ → ValueTypes) (bytes : ℕ) (tops : List (Option ℕ)) (k : ℕ) (f : CoreFunction) → Known Depth shader values bytes tops k f
    → IsTop (cap Depth) (Sums Depth shader values k) (top_by Depth bytes tops (events 0 (code_of f.body)))
depth_top shader values bytes tops k f known =
    let row = events 0 (code_of f.body) in
    top_made Depth (Sums Depth shader values k) bytes tops row found
    (one_there (IsReached Depth (Sums Depth shader values k)) 1 (1, last refl, refl))
    (by_event row (λ e. IfThere (IsReached Depth (Sums Depth shader values k)) (event_part Depth bytes tops e))
    (λ l has. none_there (IsReached Depth (Sums Depth shader values k)))
    (λ l g has.
    let c = row_call shader k g l f known.at has in
    call_there Depth (Sums Depth shader values k) (Sums Depth shader values g) 1 1 (top_at tops g) refl (known.callees g l has)
    (λ rest adds. on g 1 rest ((record { loops = c.0; stands = c.1 }), refl) adds refl)))
  where
    found : (total : ℕ) → Sums Depth shader values k total → IsFound Depth bytes tops (events 0 (code_of f.body)) (min 255 total)
    found total (last e) = inl (1, refl, omega (arith, e))
    found total (on g own rest p c e) =
        let has = call_row shader k g p.0.loops f known.at p.0.stands in
        inr (
          event (min 255 p.0.loops) (Some g),
          has,
          (let a = call_above Depth 1 1 rest (Sums Depth shader values g) (top_at tops g) refl (known.callees g (min 255 p.0.loops) has) c in (a.0, a.1, omega (arith, a.2, e, p.1))),
        )

words_top : (shader : CoreModule) (values : ℕ → ValueTypes) (bytes : ℕ) (tops : List (Option ℕ)) (k : ℕ) (f : CoreFunction) → Known Words shader values bytes tops k f
    → IsTop (cap Words) (Sums Words shader values k) (top_by Words bytes tops (events 0 (code_of f.body)))
words_top shader values bytes tops k f known =
    let row = events 0 (code_of f.body) in
    top_made Words (Sums Words shader values k) bytes tops row found
    (none_there (IsReached Words (Sums Words shader values k)))
    (by_event row (λ e. IfThere (IsReached Words (Sums Words shader values k)) (event_part Words bytes tops e))
    (λ l has.
    let c = row_meeting shader k l f known.at has in
    one_there (IsReached Words (Sums Words shader values k)) (frame l) (3 + c.0, last (c.0, c.1, refl), omega (arith, c.2)))
    (λ l g has.
    let c = row_call shader k g l f known.at has in
    call_there Words (Sums Words shader values k) (Sums Words shader values g) (frame l) (3 + c.0) (top_at tops g) (omega (arith, c.2)) (known.callees g l has)
    (λ rest adds. on g (3 + c.0) rest (c.0, c.1, refl) adds refl)))
  where
    found : (total : ℕ) → Sums Words shader values k total → IsFound Words bytes tops (events 0 (code_of f.body)) (min 255 total)
    found total (last w) = inr (event (min 255 w.0) None, meeting_row shader k w.0 f known.at w.1, (frame (min 255 w.0), refl, omega (arith, w.2)))
    found total (on g own rest p c e) =
        let has = call_row shader k g p.0 f known.at p.1 in
        inr (
          event (min 255 p.0) (Some g),
          has,
          (let a = call_above Words (frame (min 255 p.0)) (3 + p.0) rest (Sums Words shader values g) (top_at tops g) (omega arith) (known.callees g (min 255 p.0) has) c in (a.0, a.1, omega (arith, a.2, e, p.2))),
        )

-- what a function keeps
abbrev kept_by : CoreModule → (ℕ → ValueTypes) → ℕ → CoreFunction → ℕ
kept_by shader values k f = local_bytes shader.types f + value_bytes shader.types (values k)

keeps_its : (shader : CoreModule) (values : ℕ → ValueTypes) (k : ℕ) (f : CoreFunction) → slice_get shader.functions k ≡ Some f → Keeps shader values k (kept_by shader values k f)
keeps_its shader values k f at = record { function = f; at = at; bytes = refl }

keeps_that : (shader : CoreModule) (values : ℕ → ValueTypes) (k : ℕ) (f : CoreFunction) → slice_get shader.functions k ≡ Some f → (total : ℕ) → Keeps shader values k total → total ≡ kept_by shader values k f
keeps_that shader values k f at total h =
    let same : h.function ≡ f = (let q : Some h.function ≡ Some f = sym h.at ∙ at in cc) in
    h.bytes ∙ ap (kept_by shader values k) same

bytes_top : (shader : CoreModule) (values : ℕ → ValueTypes) (bytes : ℕ) (tops : List (Option ℕ)) (k : ℕ) (f : CoreFunction) → Known Bytes shader values bytes tops k f
    → IsTop (cap Bytes) (Sums Bytes shader values k) (top_by Bytes bytes tops (events 0 (code_of f.body)))
bytes_top shader values bytes tops k f known =
    let row = events 0 (code_of f.body) in
    let own = keeps_its shader values k f known.at in
    top_made Bytes (Sums Bytes shader values k) bytes tops row found
    (one_there (IsReached Bytes (Sums Bytes shader values k)) bytes (kept_by shader values k f, last own, known.keeps))
    (by_event row (λ e. IfThere (IsReached Bytes (Sums Bytes shader values k)) (event_part Bytes bytes tops e))
    (λ l has. none_there (IsReached Bytes (Sums Bytes shader values k)))
    (λ l g has.
    let c = row_call shader k g l f known.at has in
    call_there Bytes (Sums Bytes shader values k) (Sums Bytes shader values g) bytes (kept_by shader values k f) (top_at tops g) (sym known.keeps) (known.callees g l has)
    (λ rest adds. on g (kept_by shader values k f) rest (record { keeps = own; calls = record { loops = c.0; stands = c.1 } }) adds refl)))
  where
    found : (total : ℕ) → Sums Bytes shader values k total → IsFound Bytes bytes tops (events 0 (code_of f.body)) (min (cap Bytes) total)
    found total (last h) = inl (bytes, refl, omega (arith, keeps_that shader values k f known.at total h, known.keeps))
    found total (on g part rest p c e) =
        let has = call_row shader k g p.calls.loops f known.at p.calls.stands in
        inr (
          event (min 255 p.calls.loops) (Some g),
          has,
          (let a = call_above Bytes bytes (kept_by shader values k f) rest (Sums Bytes shader values g) (top_at tops g) (sym known.keeps) (known.callees g (min 255 p.calls.loops) has) c in (a.0, a.1, omega (arith, a.2, e, keeps_that shader values k f known.at part p.keeps))),
        )

measured : (m : Measure) (shader : CoreModule) (values : ℕ → ValueTypes) (bytes : ℕ) (tops : List (Option ℕ)) (k : ℕ) (f : CoreFunction) → Known m shader values bytes tops k f
    → IsTop (cap m) (Sums m shader values k) (top_by m bytes tops (events 0 (code_of f.body)))
measured Bytes = bytes_top
measured Depth = depth_top
measured Words = words_top

-- ---- one function after another

abbrev pub AreTopsBelow : Measure → CoreModule → (ℕ → ValueTypes) → List ℕ → List (Option ℕ) → ℕ → Type 0
AreTopsBelow m shader values order tops i = (j k : ℕ) → j < i → slice_get order j ≡ Some k → IsTop (cap m) (Sums m shader values k) (top_at tops k)

same_or : (a b : ℕ) → (a ≡ b) ⊎ (a ≡ b → ⊥)
same_or a b = elim (cases_lt a b) [
  | inl l ↦ inr (λ e. omega (arith, l, e))
  | inr g ↦ elim (cases_lt b a) [
    | inl l ↦ inr (λ e. omega (arith, l, e))
    | inr h ↦ inl (omega (arith, g, h))
  ]
]

-- of the function at the next place
top_here : (m : Measure) (shader : CoreModule) (values : ℕ → ValueTypes) (bytes : List ℕ) (rows : Rows) (order : List ℕ) (tops : List (Option ℕ)) (row : List Event) (i n : ℕ) → HasEvents shader values bytes rows → IsOrder rows order → CalleesStand rows
    → slice_get order i ≡ Some n → slice_get rows n ≡ Some row → AreTopsBelow m shader values order tops i → IsTop (cap m) (Sums m shader values n) (top_by m (slice_index_or bytes n 0) tops row)
top_here m shader values bytes rows order tops row i n has ordered stand here at below =
    let found = row_from shader.functions n row (ap (λ r. slice_get r n) (sym has.rows) ∙ at) in
    subst (λ r. IsTop (cap m) (Sums m shader values n) (top_by m (slice_index_or bytes n 0) tops r)) (sym found.2)
    (measured m shader values (slice_index_or bytes n 0) tops n found.0 (record {
      at = found.1;
      keeps = has.bytes n found.0 found.1;
      callees = λ g l stands.
          let call : RowCalls rows n g = record { row = row; at = at; loops = l; stands = subst (λ r. Contains r (event l (Some g))) (sym found.2) stands } in
          let b = ordered.behind i n g here call (stand n g call) in
          below b.0 g b.1 b.2;
    }))

pub tops_more : (m : Measure) (shader : CoreModule) (values : ℕ → ValueTypes) (bytes : List ℕ) (rows : Rows) (order : List ℕ) (tops after : List (Option ℕ)) (row : List Event) (i n : ℕ) → HasEvents shader values bytes rows → IsOrder rows order → CalleesStand rows
    → slice_get order i ≡ Some n → slice_get rows n ≡ Some row → n < length tops → after ≡ set tops n (top_by m (slice_index_or bytes n 0) tops row) → AreTopsBelow m shader values order tops i → AreTopsBelow m shader values order after (i + 1)
tops_more m shader values bytes rows order tops after row i n has ordered stand here at lt set_is below j k before there =
    subst (λ ts. IsTop (cap m) (Sums m shader values k) (top_at ts k)) (sym set_is) (elim (same_or k n) [
      | inl s ↦
          subst (λ x. IsTop (cap m) (Sums m shader values x) (top_at (set tops n (top_by m (slice_index_or bytes n 0) tops row)) x)) (sym s)
          (subst (IsTop (cap m) (Sums m shader values n)) (sym (get_or-set_same tops n (top_by m (slice_index_or bytes n 0) tops row) None lt)) (top_here m shader values bytes rows order tops row i n has ordered stand here at below))
      | inr o ↦ subst (IsTop (cap m) (Sums m shader values k)) (sym (get_or-set_other tops n k (top_by m (slice_index_or bytes n 0) tops row) None o)) (elim (cases_lt j i) [
        | inl earlier ↦ below j k earlier there
        | inr late ↦ absurd (o (let e : Some k ≡ Some n = sym there ∙ (ap (slice_get order) (omega (arith, before, late)) ∙ here) in cc))
      ])
    ])

pub tops_end : (m : Measure) (shader : CoreModule) (values : ℕ → ValueTypes) (rows : Rows) (order : List ℕ) (tops : List (Option ℕ)) (i : ℕ) → IsOrder rows order → length order ≤ i → AreTopsBelow m shader values order tops i → (k : ℕ) → k < length rows → IsTop (cap m) (Sums m shader values k) (top_at tops k)
tops_end m shader values rows order tops i ordered le below k lt =
    let here = ordered.all k lt in
    below here.0 k (omega (arith, here.1, le)) (place_is order k here)
  where
    place_is : (xs : List ℕ) (x : ℕ) (h : Contains xs x) → slice_get xs h.0 ≡ Some x
    place_is xs x h = slice_get-get_or xs h.0 x h.1 ∙ ap Some h.2
