-- Members of a struct: how deep they are nested, and that their types are known.
use Rattle.std.proofs.Common.{◌≡◌, refl, sym, ap, ◌∙◌, ℕ, zero, suc, ◌+◌, ◌<◌, Bool, true, false, ◌||◌, List, [], ◌∷◌, length, map, Option, Some, None, nat_le, nat_lt, arith, le-ltb, lt-ltb, ltb-true, ltb-false, leb-true, leb-false}
use Rattle.std.specs.Prelude.{min, max, slice_get}
use Rattle.std.specs.List.{list_any}
use Rattle.std.proofs.lemmas.Option.{slice_get_within}
use Rattle.std.proofs.lemmas.List.Elements.{All-append}
use Rattle.std.proofs.Math.ListN.{get_or-map as get_or-map_same}
use Rattle.shade_values.specs.declared.types.ShadeType.{ShadeType}
use Rattle.shade_values.specs.declared.types.TypeId.{TypeId}
use Rattle.shade_values.specs.Kept.{struct_shape}
use Rattle.shade_values.specs.Shape.{Shape, pointer, shape_at, member_shapes, shapes}
use Rattle.shade_values.specs.Sound.{AreKnown}
use Rattle.shade_values.specs.Table.{Table}
use Rattle.shade_core.specs.Types.{greatest_nesting, nesting, nestings}
use Rattle.shade_shape.specs.Depths.{depth_in, depth_of}
use Rattle.shade_known.specs.declared.known.Known.{Known}
use Rattle.shade_steps.specs.declared.step.MemberParts.{MemberParts}
use Rattle.shade_calls.specs.Templates.{type_named}
use Rattle.shade_declarations.specs.Types.{written_id}
use Rattle.shade_declarations.specs.Depths.{are_deep}
use Rattle.shade_declarations.specs.Structs.{is_no_struct, is_none, is_pointer_type, member_by, member_of, members_of, text_of}

-- ---- depths

deep_cases : (x y : ℕ) (a b : Bool) → nat_le 255 (min 256 x) ≡ a → nat_lt 255 (y + 1) ≡ b → (a || b) ≡ nat_lt 255 (max x y + 1)
deep_cases x y true b p q = let h = leb-true 255 (min 256 x) p in sym (lt-ltb 255 (max x y + 1) (omega (arith, h)))
deep_cases x y false true p q = let h = ltb-true 255 (y + 1) q in sym (lt-ltb 255 (max x y + 1) (omega (arith, h)))
deep_cases x y false false p q =
    let h = leb-false 255 (min 256 x) p in
    let k = ltb-false 255 (y + 1) q in
    sym (le-ltb 255 (max x y + 1) (omega (arith, h, k)))

depth_at : (known : List Shape) (id : TypeId) → depth_in (map depth_of known) id ≡ depth_of (shape_at known id)
depth_at known id = get_or-map_same depth_of known id.0 pointer

deep_members : (known : List Shape) (ms : List (List ℕ × TypeId)) → are_deep (map depth_of known) ms ≡ nat_lt greatest_nesting (nestings (member_shapes known ms) + 1)
deep_members known [] = refl
deep_members known (m ∷ ms) =
    (λ i. nat_le greatest_nesting (depth_at known m.1 i) || deep_members known ms i)
    ∙ deep_cases (nesting (shape_at known m.1)) (nestings (member_shapes known ms)) (nat_le 255 (min 256 (nesting (shape_at known m.1)))) (nat_lt 255 (nestings (member_shapes known ms) + 1)) refl refl

pub deep_so : (t : Table) (depths : List ℕ) (ms : List (List ℕ × TypeId)) → depths ≡ map depth_of (shapes t) → are_deep depths ms ≡ nat_lt greatest_nesting (nesting (struct_shape t ms))
deep_so t depths ms is = ap (λ d. are_deep d ms) is ∙ deep_members (shapes t) ms

pub no_struct_so : (t : Table) (depths : List ℕ) (ms : List (List ℕ × TypeId)) (empty pointed deep r : Bool) → depths ≡ map depth_of (shapes t)
    → empty ≡ is_none ms → pointed ≡ list_any (λ m. is_pointer_type (slice_get t.types m.1.0)) ms → deep ≡ are_deep depths ms → r ≡ (empty || (pointed || deep)) → r ≡ is_no_struct t ms
no_struct_so t depths ms empty pointed deep r is none has below all = all ∙ (λ i. none i || (has i || (below ∙ deep_so t depths ms is) i))

-- ---- members

by_known : (t : Table) (id : Option TypeId) (text : List ℕ) (ty : Option ShadeType) → type_named t id ≡ ty → AreKnown (length t.types) (member_by id ty text)
by_known t None text ty is = λ k d lt. absurd (omega (arith, lt))
by_known t (Some id) text None is = λ k d lt. absurd (omega (arith, lt))
by_known t (Some id) text (Some ty) is = only_known t id text (slice_get_within t.types id.0 ty is)
  where
    only_known : (t : Table) (id : TypeId) (text : List ℕ) → id.0 < length t.types → AreKnown (length t.types) ((text, id) ∷ [])
    only_known t id text low zero d lt = low
    only_known t id text low (suc k) d lt = absurd (omega (arith, lt))

pub members_known : (k : Known) (names : List (List ℕ)) (members : List MemberParts) → AreKnown (length k.types.types) (members_of k names members)
members_known k names [] = λ i d lt. absurd (omega (arith, lt))
members_known k names (m ∷ members) =
    All-append (λ m. m.1.0 < length k.types.types) (member_of k names m) (members_of k names members)
    (by_known k.types (written_id k m.ty) (text_of names m.name.name) (type_named k.types (written_id k m.ty)) refl) (members_known k names members)
