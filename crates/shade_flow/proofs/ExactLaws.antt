-- Chunks that are right list exactly the definitions that reach.
use Rattle.std.proofs.Common.{◌≡◌, ℕ, ◌+◌, ◌<◌, Some, List, [], ◌∷◌, ◌++◌, refl, sym, arith, subst, inl, inr, length}
use Rattle.std.specs.Prelude.{slice_get}
use Rattle.shade_core.specs.declared.statement.Base.{Base}
use Rattle.shade_core.specs.Code.{Code}
use Rattle.shade_flow.specs.declared.definition.Definition.{Definition}
use Rattle.shade_flow.specs.declared.definition.Defined.{Defined}
use Rattle.shade_flow.specs.declared.point.Point.{Point}
use Rattle.shade_flow.specs.declared.chunk.Chunk.{Chunk}
use Rattle.shade_flow.specs.Bits.{Has, at}
use Rattle.shade_flow.specs.Flow.{Reaches}
use Rattle.shade_flow.specs.Lists.{In}
use Rattle.shade_flow.specs.Chosen.{chosen, IsChosen, before_of, Precedes, Ascends, DefinedAscend}
use Rattle.shade_flow.specs.Writes.{defined}
use Rattle.shade_flow.specs.Routes.{defined_in}
use Rattle.shade_flow.specs.Tables.{number, AreWays}
use Rattle.shade_flow.specs.Exact.{IsChunkOf, AreChunksOf}
use Rattle.shade_flow.proofs.Members.{in_split, in_left, in_right, in_slice, slice_in}
use Rattle.shade_flow.proofs.ChosenLaws.{listed_chosen, chosen_at, chosen_ascends}
use Rattle.shade_flow.proofs.TableLaws.{rows_tell}
use Rattle.shade_flow.proofs.Variables.{same_is, same_self}

none_before : (place : ℕ) → 0 + place ≡ place
none_before place = omega arith

module _ (body : Code) (edges : List (ℕ × ℕ)) (ways : AreWays body edges) (point : Point) (variable : Base) where
  chunk_sound : (chunk : Chunk) → IsChunkOf body edges chunk → (by : Definition) → In by (chosen variable (at chunk.rows.items (number point)) 0 chunk.definitions.items) → Reaches body variable by point
  chunk_sound chunk k by h =
      let c : IsChosen variable (at chunk.rows.items (number point)) 0 chunk.definitions.items by = listed_chosen variable (at chunk.rows.items (number point)) 0 chunk.definitions.items by h in
      let r : Reaches body c.defined.variable c.defined.by point =
      (rows_tell body edges ways c.defined.variable c.defined.by c.place k.starts k.makes k.passes (k.bits c.place c.defined c.there) chunk.rows.items k.reached point).0 (subst (λ (b : ℕ). Has (at chunk.rows.items (number point)) b) (none_before c.place) c.has) in
      subst (λ (b : Definition). Reaches body variable b point) c.is (subst (λ (v : Base). Reaches body v c.defined.by point) (same_is c.defined.variable variable c.same) r)

  chunk_complete : (chunk : Chunk) → IsChunkOf body edges chunk → (by : Definition) → In (defined variable by) chunk.definitions.items
      → Reaches body variable by point → In by (chosen variable (at chunk.rows.items (number point)) 0 chunk.definitions.items)
  chunk_complete chunk k by m r =
      let p : (p : ℕ) × (p < length chunk.definitions.items) × (slice_get chunk.definitions.items p ≡ Some (defined variable by)) = slice_in chunk.definitions.items (defined variable by) m in
      let has : Has (at chunk.rows.items (number point)) p.0 = (rows_tell body edges ways variable by p.0 k.starts k.makes k.passes (k.bits p.0 (defined variable by) p.2) chunk.rows.items k.reached point).1 r in
      chosen_at variable (at chunk.rows.items (number point)) 0 chunk.definitions.items p.0 (defined variable by) p.2 (same_self variable) (subst (λ (b : ℕ). Has (at chunk.rows.items (number point)) b) (sym (none_before p.0)) has)

  pub all_sound : (chunks : List Chunk) → AreChunksOf body edges chunks → (by : Definition) → In by (before_of (number point) variable chunks) → Reaches body variable by point
  all_sound [] k by h = absurd h
  all_sound (chunk ∷ later) k by h = elim (in_split by (chosen variable (at chunk.rows.items (number point)) 0 chunk.definitions.items) (before_of (number point) variable later) h) [
    | inl here ↦ chunk_sound chunk k.0 by here
    | inr after ↦ all_sound later k.1 by after
  ]

  pub all_complete : (chunks : List Chunk) → AreChunksOf body edges chunks → (by : Definition) → In (defined variable by) (defined_in chunks) → Reaches body variable by point → In by (before_of (number point) variable chunks)
  all_complete [] k by m r = absurd m
  all_complete (chunk ∷ later) k by m r = elim (in_split (defined variable by) chunk.definitions.items (defined_in later) m) [
    | inl here ↦ in_left by (chosen variable (at chunk.rows.items (number point)) 0 chunk.definitions.items) (before_of (number point) variable later) (chunk_complete chunk k.0 by here r)
    | inr after ↦ in_right by (chosen variable (at chunk.rows.items (number point)) 0 chunk.definitions.items) (before_of (number point) variable later) (all_complete later k.1 by after r)
  ]

-- the list is in order, as the definitions of the chunks are
ascend_left : (xs ys : List Defined) → DefinedAscend (xs ++ ys) → DefinedAscend xs
ascend_left [] ys a = tt
ascend_left (x ∷ xs) ys a = (λ other m. a.0 other (in_left other xs ys m), ascend_left xs ys a.1)

ascend_right : (xs ys : List Defined) → DefinedAscend (xs ++ ys) → DefinedAscend ys
ascend_right [] ys a = a
ascend_right (x ∷ xs) ys a = ascend_right xs ys a.1

ascend_cross : (xs ys : List Defined) → DefinedAscend (xs ++ ys) → (x y : Defined) → In x xs → In y ys → Precedes x.by y.by
ascend_cross [] ys a x y m n = absurd m
ascend_cross (z ∷ xs) ys a x y (inl e) n = subst (λ (d : Defined). Precedes d.by y.by) (sym e) (a.0 y (in_right y xs ys n))
ascend_cross (z ∷ xs) ys a x y (inr m) n = ascend_cross xs ys a.1 x y m n

joined_ascend : (xs ys : List Definition) → Ascends xs → Ascends ys → ((x y : Definition) → In x xs → In y ys → Precedes x y) → Ascends (xs ++ ys)
joined_ascend [] ys a b c = b
joined_ascend (x ∷ xs) ys a b c = (λ other m. elim (in_split other xs ys m) [ inl l ↦ a.0 other l | inr r ↦ c x other (inl refl) r ], joined_ascend xs ys a.1 b (λ u v m n. c u v (inr m) n))

module _ (point : ℕ) (variable : Base) where
  chosen_from : (row : ℕ) (definitions : List Defined) (by : Definition) → In by (chosen variable row 0 definitions) → (d : Defined) × In d definitions × (d.by ≡ by)
  chosen_from row definitions by m = let c : IsChosen variable row 0 definitions by = listed_chosen variable row 0 definitions by m in (c.defined, in_slice definitions c.place c.defined c.there, c.is)

  before_from : (chunks : List Chunk) (by : Definition) → In by (before_of point variable chunks) → (d : Defined) × In d (defined_in chunks) × (d.by ≡ by)
  before_from [] by m = absurd m
  before_from (chunk ∷ later) by m = elim (in_split by (chosen variable (at chunk.rows.items point) 0 chunk.definitions.items) (before_of point variable later) m) [
    | inl here ↦ (let r : (d : Defined) × In d chunk.definitions.items × (d.by ≡ by) = chosen_from (at chunk.rows.items point) chunk.definitions.items by here in (r.0, in_left r.0 chunk.definitions.items (defined_in later) r.1, r.2))
    | inr after ↦ (let r : (d : Defined) × In d (defined_in later) × (d.by ≡ by) = before_from later by after in (r.0, in_right r.0 chunk.definitions.items (defined_in later) r.1, r.2))
  ]

  pub before_ascends : (chunks : List Chunk) → DefinedAscend (defined_in chunks) → Ascends (before_of point variable chunks)
  before_ascends [] a = tt
  before_ascends (chunk ∷ later) a =
      joined_ascend (chosen variable (at chunk.rows.items point) 0 chunk.definitions.items) (before_of point variable later)
      (chosen_ascends variable (at chunk.rows.items point) 0 chunk.definitions.items (ascend_left chunk.definitions.items (defined_in later) a))
      (before_ascends later (ascend_right chunk.definitions.items (defined_in later) a)) cross
    where
      cross : (x y : Definition) → In x (chosen variable (at chunk.rows.items point) 0 chunk.definitions.items) → In y (before_of point variable later) → Precedes x y
      cross x y m n =
          let d : (d : Defined) × In d chunk.definitions.items × (d.by ≡ x) = chosen_from (at chunk.rows.items point) chunk.definitions.items x m in
          let e : (e : Defined) × In e (defined_in later) × (e.by ≡ y) = before_from later y n in
          subst (λ (b : Definition). Precedes x b) e.2 (subst (λ (b : Definition). Precedes b e.0.by) d.2 (ascend_cross chunk.definitions.items (defined_in later) a d.0 e.0 d.1 e.1))
