-- Rows that come to others, one call after another, and all of them together.
use Rattle.std.proofs.Common.{◌≡◌, refl, sym, ap, subst, ◌∙◌, arith, ℕ, ◌+◌, ◌<◌, ◌≤◌, true, false, List, [], ◌∷◌, ◌++◌, length, map, take, get_or, Option, Some, None, inl, inr}
use Rattle.std.specs.Prelude.{◌↔◌, ◌⊎◌, slice_get}
use Rattle.std.specs.List.{flat_map}
use Rattle.std.proofs.lemmas.Bool.{cases_lt, false≢true}
use Rattle.std.proofs.lemmas.List.{map-append, take_more}
use Rattle.std.proofs.lemmas.Option.{slice_get_within}
use Rattle.shade_core.specs.declared.module.CoreFunction.{CoreFunction}
use Rattle.shade_core.specs.declared.module.CoreModule.{CoreModule}
use Rattle.shade_core.specs.declared.module.CoreParam.{CoreParam}
use Rattle.shade_core.specs.declared.statement.Base.{Base}
use Rattle.shade_core.specs.declared.statement.Base.TheVariants.{Pointee}
use Rattle.shade_core.specs.Code.{code_of}
use Rattle.shade_flow.specs.declared.definition.Definition.{Definition}
use Rattle.shade_flow.specs.Definitions.{points_there, tracked}
use Rattle.shade_flow.specs.Exact.{IsBefore}
use Rattle.shade_flow.specs.Lists.{In}
use Rattle.shade_graph.specs.declared.node.Node.{Node}
use Rattle.shade_graph.specs.declared.node.Node.TheVariants.{Start, ContentsOut}
use Rattle.shade_graph.specs.Graph.{Among, here, later}
use Rattle.shade_graph.proofs.Members.{among_left, among_right, among_split, among_map, map_among}
use Rattle.shade_uniformity.specs.declared.rows.Given.{Given}
use Rattle.shade_uniformity.specs.declared.walk.Spot.{Spot}
use Rattle.shade_uniformity.specs.Structure.{Starts}
use Rattle.shade_uniformity.specs.Rows.{definition_node}
use Rattle.shade_uniformity.specs.RowLists.{given, visit_rows}
use Rattle.shade_uniformity.specs.HeldRows.{Adds, IsHeldRow, IsContentsRow, IsReturnRow, VisitHeld, AnyHeld}
use Rattle.shade_uniformity.specs.AllRows.{IsGiven, AreRows}
use Rattle.shade_uniformity.specs.Visits.{Visit, visit_at, visit_of, AreAnalysed}
use Rattle.shade_uniformity.proofs.FlatLaws.{among_flat, flat_among, flat_over}
use Rattle.shade_uniformity.proofs.SpanLaws.{number_is}
use Rattle.shade_uniformity.proofs.RowLaws.{listed_row}
use Rattle.shade_uniformity.proofs.RowsBack.{row_listed, held_row}

pub adds_none : (property : Given → Type 0) (rows : List Given) → ((row : Given) → property row → ⊥) → Adds property rows rows
adds_none property rows never row = (λ h. inl h, λ h. elim h [ inl old ↦ old | inr more ↦ absurd (never row more) ])

-- ---- definitions of one variable

in_among : {A : Type 0} (x : A) (xs : List A) → In x xs → Among x xs
in_among x [] h = elim h [ ]
in_among {A = A} x (y ∷ ys) h = elim h [ inl e ↦ subst (λ (z : A). Among x (z ∷ ys)) e here | inr more ↦ later (in_among x ys more) ]

among_in : {A : Type 0} (x : A) (xs : List A) → Among x xs → In x xs
among_in x [] h = elim h [ ]
among_in x (y ∷ ys) here = inl refl
among_in x (y ∷ ys) (later h) = inr (among_in x ys h)

module _ (f : CoreFunction) (n : ℕ) where
  pub held_adds : (u : Node) (variable : Base) (found : List Definition) (old new : List Given) → new ≡ old ++ map (λ (by : Definition). given n u (definition_node by)) found → tracked f variable ≡ true
      → IsBefore f n variable found → Adds (IsHeldRow f n u variable) old new
  held_adds u variable found old new made followed before row = (
    λ h. elim (among_split old (map node found) (subst (λ (rows : List Given). Among row rows) made h)) [
      | inl own ↦ inl own
      | inr more ↦ (let r = map_among node found row more in
          inr (record { by = r.0; held = record { followed = followed; reaches = (before.exact r.0).0 (among_in r.0 found r.1) }; is = r.2 }))
    ],
    λ h. subst (λ (rows : List Given). Among row rows) (sym made) (elim h [
      | inl own ↦ among_left old (map node found) own
      | inr more ↦ among_right old (map node found)
          (subst (λ (r : Given). Among r (map node found)) (sym more.is) (among_map node found more.by (in_among more.by found ((before.exact more.by).1 more.held.reaches))))
    ]),
  )
    where
      node : Definition → Given
      node by = given n u (definition_node by)

  pub held_none : (u : Node) (variable : Base) (rows : List Given) → tracked f variable ≡ false → Adds (IsHeldRow f n u variable) rows rows
  held_none u variable rows e = adds_none (IsHeldRow f n u variable) rows (λ row h. false≢true (sym e ∙ h.held.followed))

  -- ---- what parameters point to

  lower : (k : ℕ) (row : Given) → IsContentsRow f n k row → IsContentsRow f n (k + 1) row
  lower k row h = record { param = h.param; within = omega (arith, h.within); one = h.one }

  last : (k : ℕ) (row : Given) → IsHeldRow f n (ContentsOut k) (Pointee k) row → IsContentsRow f n (k + 1) row
  last k row h = record { param = k; within = omega arith; one = h }

  below_or : (i k : ℕ) → i < k + 1 → (i < k) ⊎ (i ≡ k)
  below_or i k lt = elim (cases_lt i k) [ inl below ↦ inl below | inr above ↦ inr (omega (arith, lt, above)) ]

  pub contents_turn : (k : ℕ) (first old new : List Given) → Adds (IsContentsRow f n k) first old → Adds (IsHeldRow f n (ContentsOut k) (Pointee k)) old new → Adds (IsContentsRow f n (k + 1)) first new
  contents_turn k first old new before one row = (
    λ h. elim ((one row).0 h) [
      | inl own ↦ elim ((before row).0 own) [ inl old_ ↦ inl old_ | inr more ↦ inr (lower k row more) ]
      | inr more ↦ inr (last k row more)
    ],
    λ h. elim h [
      | inl own ↦ (one row).1 (inl ((before row).1 (inl own)))
      | inr more ↦ elim (below_or more.param k more.within) [
        | inl lt ↦ (one row).1 (inl ((before row).1 (inr (record { param = more.param; within = lt; one = more.one }))))
        | inr e ↦ (one row).1 (inr (subst (λ (i : ℕ). IsHeldRow f n (ContentsOut i) (Pointee i) row) e more.one))
      ]
    ],
  )

  pub contents_none : (rows : List Given) → Adds (IsContentsRow f n 0) rows rows
  contents_none rows = adds_none (IsContentsRow f n 0) rows (λ row h. omega (arith, h.within))

  points_within : (i : ℕ) (param : Option CoreParam) → slice_get f.params i ≡ param → points_there param ≡ true → i < length f.params
  points_within i None at e = cc
  points_within i (Some param) at e = slice_get_within f.params i param at

  pub contents_all : (k : ℕ) (first new : List Given) → length f.params ≤ k → Adds (IsContentsRow f n k) first new → Adds (IsReturnRow f n) first new
  contents_all k first new all h row = (
    λ r. elim ((h row).0 r) [ inl own ↦ inl own | inr more ↦ inr (record { param = more.param; one = more.one }) ],
    λ r. (h row).1 (elim r [
      | inl own ↦ inl own
      | inr more ↦ inr (record { param = more.param; within = omega (arith, all, points_within more.param (slice_get f.params more.param) refl more.one.held.followed); one = more.one })
    ]),
  )

-- ---- statement by statement

module _ (f : CoreFunction) where
  in_more : (vs : List Visit) (v : Visit) (row : Given) → AnyHeld f vs row → AnyHeld f (vs ++ v ∷ []) row
  in_more vs v row h = record { visit = h.visit; among = among_left vs (v ∷ []) h.among; held = h.held }

  in_last : (vs : List Visit) (v : Visit) (row : Given) → VisitHeld f v row → AnyHeld f (vs ++ v ∷ []) row
  in_last vs v row h = record { visit = v; among = among_right vs (v ∷ []) here; held = h }

  split_one : (v w : Visit) (row : Given) → Among w (v ∷ []) → VisitHeld f w row → VisitHeld f v row
  split_one v w row here h = h
  split_one v w row (later more) h = elim more [ ]

  any_more : (vs : List Visit) (v : Visit) (first old new : List Given) → Adds (AnyHeld f vs) first old → Adds (VisitHeld f v) old new → Adds (AnyHeld f (vs ++ v ∷ [])) first new
  any_more vs v first old new before one row = (
    λ h. elim ((one row).0 h) [
      | inl own ↦ elim ((before row).0 own) [ inl old_ ↦ inl old_ | inr more ↦ inr (in_more vs v row more) ]
      | inr more ↦ inr (in_last vs v row more)
    ],
    λ h. elim h [
      | inl own ↦ (one row).1 (inl ((before row).1 (inl own)))
      | inr more ↦ elim (among_split vs (v ∷ []) more.among) [
        | inl earlier ↦ (one row).1 (inl ((before row).1 (inr (record { visit = more.visit; among = earlier; held = more.held }))))
        | inr latest ↦ (one row).1 (inr (split_one v more.visit row latest more.held))
      ]
    ],
  )

  pub any_none : (rows : List Given) → Adds (AnyHeld f []) rows rows
  any_none rows = adds_none (AnyHeld f []) rows (λ row h. elim h.among [ ])

  pub any_turn : (spots : List Spot) (i : ℕ) (x : Spot) (first old new : List Given) → i < length spots → x ≡ get_or spots i x → Adds (VisitHeld f (visit_of x)) old new
      → Adds (AnyHeld f (map visit_of (take i spots))) first old → Adds (AnyHeld f (map visit_of (take (i + 1) spots))) first new
  any_turn spots i x first old new lt is one before =
      let more : map visit_of (take (i + 1) spots) ≡ map visit_of (take i spots) ++ visit_of x ∷ [] =
      ap (map visit_of) (take_more spots i x lt ∙ ap (λ (y : Spot). take i spots ++ y ∷ []) (sym is)) ∙ map-append visit_of (take i spots) (x ∷ []) in
      subst (λ (vs : List Visit). Adds (AnyHeld f vs) first new) (sym more) (any_more (map visit_of (take i spots)) (visit_of x) first old new before one)

-- ---- all rows

pub rows_are : (shader : CoreModule) (f : CoreFunction) (spots : List Spot) (own rows : List Given) → AreAnalysed f.body spots → own ≡ flat_map (λ (s : Spot). visit_rows shader f (visit_of s)) spots
    → Adds (AnyHeld f (map visit_of spots)) own rows → AreRows shader f rows
rows_are shader f spots own rows are made adds row = (sound, complete)
  where
    vs : List Visit
    vs = map visit_of spots

    all : own ≡ flat_map (visit_rows shader f) (map visit_of spots)
    all = made ∙ flat_over (visit_rows shader f) visit_of spots

    sound : Among row rows → IsGiven shader f row
    sound h = elim ((adds row).0 h) [
      | inl first ↦ (let r = among_flat (visit_rows shader f) (map visit_of spots) row (subst (λ (l : List Given). Among row l) all first) in
          let w = (are r.0).0 r.1 in
          let g = listed_row shader f w.under row w.starts (subst (λ (v : Visit). Among row (visit_rows shader f v)) w.is r.2) in
          record { under = w.under; here = w.here; rest = w.rest; stands = w.stands; numbered = subst (λ (k : ℕ). Starts w.here k w.rest) (sym g.0) w.starts; row = g.1 })
      | inr held ↦ (let w = (are held.visit).0 held.among in
          let g = held_row shader f w.under row w.starts (subst (λ (v : Visit). VisitHeld f v row) w.is held.held) in
          record { under = w.under; here = w.here; rest = w.rest; stands = w.stands; numbered = subst (λ (k : ℕ). Starts w.here k w.rest) (sym g.0) w.starts; row = g.1 })
    ]

    complete : IsGiven shader f row → Among row rows
    complete g =
        let v : Visit = visit_at g.under g.here in
        let at : Among v (map visit_of spots) = (are v).1 (record { under = g.under; here = g.here; number = row.statement; rest = g.rest; stands = g.stands; starts = g.numbered; is = refl }) in
        let same : given v.statement.number row.from row.to ≡ row = ap (λ (k : ℕ). given k row.from row.to) (number_is g.under g.numbered) in
        (adds row).1 (elim (row_listed shader f g.under g.row) [
          | inl own_ ↦ inl (subst (λ (l : List Given). Among row l) (sym all)
              (flat_among (visit_rows shader f) (map visit_of spots) v row at (subst (λ (r : Given). Among r (visit_rows shader f v)) same own_)))
          | inr held ↦ inr (record { visit = v; among = at; held = subst (λ (r : Given). VisitHeld f v r) same held })
        ])
