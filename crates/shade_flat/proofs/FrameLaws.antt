-- What a write of a value does to the frames.
use Rattle.std.proofs.Common.{◌≡◌, ℕ, zero, suc, ◌+◌, ◌*◌, ◌<◌, ◌≤◌, ◌⊎◌, inl, inr, Bool, true, false, List, [], ◌∷◌, ◌++◌, map, length, Option, Some, None, if◌then◌else◌, refl, sym, ap, subst, ◌∙◌, arith}
use Rattle.std.specs.Prelude.{◌==◌, ◌%◌, ◌^◌, nat_lt, slice_get}
use Rattle.std.proofs.Math.Path.{fun_ext}
use Rattle.std.proofs.lemmas.Bool.{eqb-true, eqb-false}
use Rattle.shade_values.specs.declared.types.TypeId.{TypeId}
use Rattle.shade_values.specs.declared.value.Value.{Value}
use Rattle.shade_values.specs.Sound.{IsSound}
use Rattle.shade_values.specs.Table.{Table}
use Rattle.shade_words.specs.Lays.{size, IsLay, decode}
use Rattle.shade_words.proofs.Layouts.{decode_same, covers_within}
use Rattle.shade_words.proofs.TypeLaws.{lay_lies, lt_or}
use Rattle.shade_core.specs.declared.module.CoreParam.{CoreParam}
use Rattle.shade_core.specs.declared.module.CoreParam.TheVariants as parameter
use Rattle.shade_core.specs.Types.{type_at}
use Rattle.shade_spots.specs.Spots.{Variable, shared, private, local, Spot}
use Rattle.shade_slots.specs.declared.slot.Slot.{Slot}
use Rattle.shade_slots.specs.declared.layout.FrameLayout.{FrameLayout}
use Rattle.shade_slots.specs.Slots.{size_of, slots_from, end_from, pointer_words}
use Rattle.shade_slots.proofs.SlotLaws.{end_grows}
use Rattle.shade_frames.specs.Frames.{Setting, Frame, params_of, put_value}
use Rattle.shade_flat.specs.declared.open.Open.{Open}
use Rattle.shade_flat.specs.Flat.{slot_lay, slot_at, slot_value, slot_word, local_word, own_of, spot_in, pointed_by, pointer_of, variable_of, param_at, frame_at, frames_inside, frames_of}
use Rattle.shade_flat.specs.Rows.{IsFrameOf, ArePrivates, Stacked, put_first}
use Rattle.shade_flat.proofs.Places.{inside, beside, outside}

-- ---- one slot

lay_size : (t : Table) (ty : Option TypeId) → size (slot_lay t ty) ≡ size_of t ty
lay_size t None = refl
lay_size t (Some id) = refl

pub slot_lies : (t : Table) → IsSound t → (ty : Option TypeId) → IsLay (slot_lay t ty)
slot_lies t sound None = let le : 0 ≤ 0 = omega arith in le
slot_lies t sound (Some id) = (lay_lies t sound id).lies

-- a slot is told by its own words
pub slot_same : (t : Table) → IsSound t → (u v : ℕ → ℕ) (base : ℕ) (slot : Slot) → ((i : ℕ) → i < size_of t slot.ty → v (base + slot.first + i) ≡ u (base + slot.first + i))
    → slot_value t v base slot ≡ slot_value t u base slot
slot_same t sound u v base slot h =
    decode_same (slot_lay t slot.ty) v u (base + slot.first) (base + slot.first)
    (λ i c. h i (omega (arith, lay_size t slot.ty, covers_within (slot_lay t slot.ty) i (slot_lies t sound slot.ty) c)))

got_within : (xs : List CoreParam) (i : ℕ) (x : CoreParam) → slice_get xs i ≡ Some x → i < length xs
got_within [] i x e = let no_one : ⊥ = cc e in absurd no_one
got_within (y ∷ xs) zero x e = omega arith
got_within (y ∷ xs) (suc i) x e = let h : i < length xs = got_within xs i x e in omega (arith, h)

-- a pointer is told by its three words
pointer_same : (t : Table) (u v : ℕ → ℕ) (at : ℕ) (p : Option CoreParam) → ((x : CoreParam) → p ≡ Some x → (i : ℕ) → i < 3 → v (at + i) ≡ u (at + i)) → pointer_of t v at p ≡ pointer_of t u at p
pointer_same t u v at None h = refl
pointer_same t u v at (Some (parameter.Plain id)) h = refl
pointer_same t u v at (Some (parameter.Input which)) h = refl
pointer_same t u v at (Some (parameter.Pointer in_space id)) h =
    let w = h (parameter.Pointer in_space id) refl in
    let here : at + 0 ≡ at = omega arith in
    let first : v at ≡ u at = subst (λ j. v j ≡ u j) here (w 0 (omega arith)) in
    let second : v (at + 1) ≡ u (at + 1) = w 1 (omega arith) in
    let third : v (at + 2) ≡ u (at + 2) = w 2 (omega arith) in
    λ i. record { variable = variable_of (first i) (second i); first = third i; shape = pointed_by t (type_at t id) }

-- ---- one frame

-- the frame that lies so
abbrev words_frame : Setting → (function depth base : ℕ) → FrameLayout → (ℕ → ℕ) → Frame
words_frame s function depth base layout w = record {
  function = function;
  depth = depth;
  params = λ n. slot_value s.shader.types w base (slot_at layout.params.items n);
  pointers = λ n. pointer_of s.shader.types w (base + layout.pointers + pointer_words * n) (param_at s.shader function n);
  values = λ n. slot_value s.shader.types w base (slot_at layout.values.items n);
}

-- words of a frame that are the same
abbrev SameTo : (u v : ℕ → ℕ) (base to : ℕ) → Type 0
SameTo u v base to = (w : ℕ) → w < to → v (base + w) ≡ u (base + w)

-- where the local variables and the values of statements begin
abbrev pub variables_at : (layout : FrameLayout) (params : List (Option TypeId)) → ℕ
variables_at layout params = layout.pointers + pointer_words * length params

abbrev pub values_at : Table → (layout : FrameLayout) (params : List (Option TypeId)) → List TypeId → ℕ
values_at t layout params locals = end_from t (layout.pointers + pointer_words * length params) (map (λ id. Some id) locals)

module _ (s : Setting) (sound : IsSound s.shader.types) (function : ℕ) (layout : FrameLayout) (is : IsFrameOf s function layout) where
  param_inside : (n i : ℕ) → i < size_of s.shader.types (slot_at layout.params.items n).ty → (slot_at layout.params.items n).first + i < layout.pointers
  param_inside n i lt =
      let h = subst (λ l. i < size_of s.shader.types (slot_at l n).ty → (slot_at l n).first + i < end_from s.shader.types 0 is.params) (sym is.laid.params) (λ less. (inside s.shader.types 0 is.params n i less).1) lt in
      omega (arith, h, is.laid.pointers)

  value_inside : (n i : ℕ) → i < size_of s.shader.types (slot_at layout.values.items n).ty → (slot_at layout.values.items n).first + i < layout.size
  value_inside n i lt =
      let h = subst (λ l. i < size_of s.shader.types (slot_at l n).ty → (slot_at l n).first + i < end_from s.shader.types (values_at s.shader.types layout is.params is.locals) is.values) (sym is.laid.values)
      (λ less. (inside s.shader.types (values_at s.shader.types layout is.params is.locals) is.values n i less).1) lt in
      omega (arith, h, is.laid.size)

  pub local_inside : (n i : ℕ) → i < size_of s.shader.types (slot_at layout.locals.items n).ty → (slot_at layout.locals.items n).first + i < values_at s.shader.types layout is.params is.locals
  local_inside n i lt =
      subst (λ l. i < size_of s.shader.types (slot_at l n).ty → (slot_at l n).first + i < values_at s.shader.types layout is.params is.locals) (sym is.laid.locals)
      (λ less. (inside s.shader.types (variables_at layout is.params) (map (λ id. Some id) is.locals) n i less).1) lt

  value_beside : (m n i : ℕ) → (m ≡ n → ⊥) → i < size_of s.shader.types (slot_at layout.values.items m).ty
      → ((slot_at layout.values.items m).first + i < (slot_at layout.values.items n).first)
      ⊎ ((slot_at layout.values.items n).first + size_of s.shader.types (slot_at layout.values.items n).ty ≤ (slot_at layout.values.items m).first + i)
  value_beside m n i ne lt =
      subst (λ l. i < size_of s.shader.types (slot_at l m).ty → ((slot_at l m).first + i < (slot_at l n).first) ⊎ ((slot_at l n).first + size_of s.shader.types (slot_at l n).ty ≤ (slot_at l m).first + i))
      (sym is.laid.values) (beside s.shader.types (values_at s.shader.types layout is.params is.locals) is.values m n i ne) lt

  pub value_outside : (n w : ℕ) → w < values_at s.shader.types layout is.params is.locals
      → (w < (slot_at layout.values.items n).first) ⊎ ((slot_at layout.values.items n).first + size_of s.shader.types (slot_at layout.values.items n).ty ≤ w)
  value_outside n w lt =
      subst (λ l. (w < (slot_at l n).first) ⊎ ((slot_at l n).first + size_of s.shader.types (slot_at l n).ty ≤ w)) (sym is.laid.values)
      (outside s.shader.types (values_at s.shader.types layout is.params is.locals) is.values n w (inl lt))

  pointers_before : layout.pointers + 3 * length is.params ≤ values_at s.shader.types layout is.params is.locals
  pointers_before = end_grows s.shader.types (variables_at layout is.params) (map (λ id. Some id) is.locals)

  pub values_before : values_at s.shader.types layout is.params is.locals ≤ layout.size
  values_before = omega (arith, is.laid.size, end_grows s.shader.types (values_at s.shader.types layout is.params is.locals) is.values)

  pointer_inside : (n i : ℕ) (x : CoreParam) → param_at s.shader function n ≡ Some x → i < 3 → layout.pointers + 3 * n + i < values_at s.shader.types layout is.params is.locals
  pointer_inside n i x e lt =
      let few : n < length (params_of (slice_get s.shader.functions function)) = got_within (params_of (slice_get s.shader.functions function)) n x e in
      let same : length is.params ≡ length (params_of (slice_get s.shader.functions function)) = is.each in
      omega (arith, few, same, pointers_before, lt)

  module _ (u v : ℕ → ℕ) (depth base : ℕ) (low : SameTo u v base (values_at s.shader.types layout is.params is.locals)) where
    params_same : (n : ℕ) → slot_value s.shader.types v base (slot_at layout.params.items n) ≡ slot_value s.shader.types u base (slot_at layout.params.items n)
    params_same n =
        slot_same s.shader.types sound u v base (slot_at layout.params.items n)
        (λ i lt.
        let e : base + ((slot_at layout.params.items n).first + i) ≡ base + (slot_at layout.params.items n).first + i = omega arith in
        let at : (slot_at layout.params.items n).first + i < values_at s.shader.types layout is.params is.locals = omega (arith, param_inside n i lt, pointers_before) in
        subst (λ j. v j ≡ u j) e (low ((slot_at layout.params.items n).first + i) at))

    pub all_params : (words_frame s function depth base layout v).params ≡ (words_frame s function depth base layout u).params
    all_params = fun_ext params_same

    pointers_same : (n : ℕ) → pointer_of s.shader.types v (base + layout.pointers + pointer_words * n) (param_at s.shader function n) ≡ pointer_of s.shader.types u (base + layout.pointers + pointer_words * n) (param_at s.shader function n)
    pointers_same n =
        pointer_same s.shader.types u v (base + layout.pointers + pointer_words * n) (param_at s.shader function n)
        (λ x p i lt.
        let e : base + (layout.pointers + 3 * n + i) ≡ base + layout.pointers + 3 * n + i = omega arith in
        subst (λ j. v j ≡ u j) e (low (layout.pointers + 3 * n + i) (pointer_inside n i x p lt)))

    pub all_pointers : (words_frame s function depth base layout v).pointers ≡ (words_frame s function depth base layout u).pointers
    all_pointers = fun_ext pointers_same

  -- a frame is told by its own words
  pub frame_same : (layouts : ℕ → FrameLayout) (u v : ℕ → ℕ) (depth base : ℕ) → layouts function ≡ layout → SameTo u v base layout.size
      → frame_at s layouts v depth (record { function = function; base = base }) ≡ frame_at s layouts u depth (record { function = function; base = base })
  frame_same layouts u v depth base e same =
      subst (λ l. words_frame s function depth base l v ≡ words_frame s function depth base l u) (sym e)
      (λ i. record { function = function; depth = depth; params = all_params u v depth base low i; pointers = all_pointers u v depth base low i; values = values i })
    where
      low : SameTo u v base (values_at s.shader.types layout is.params is.locals)
      low w lt = same w (omega (arith, lt, values_before))

      values_same : (n : ℕ) → slot_value s.shader.types v base (slot_at layout.values.items n) ≡ slot_value s.shader.types u base (slot_at layout.values.items n)
      values_same n =
          slot_same s.shader.types sound u v base (slot_at layout.values.items n)
          (λ i lt.
          let j : base + ((slot_at layout.values.items n).first + i) ≡ base + (slot_at layout.values.items n).first + i = omega arith in
          subst (λ k. v k ≡ u k) j (same ((slot_at layout.values.items n).first + i) (value_inside n i lt)))

      values : (words_frame s function depth base layout v).values ≡ (words_frame s function depth base layout u).values
      values = fun_ext values_same

  -- a value comes to the slot of a statement
  pub frame_put : (layouts : ℕ → FrameLayout) (u v : ℕ → ℕ) (depth base n : ℕ) (x : Value) → layouts function ≡ layout
      → ((j : ℕ) → (j < base + (slot_at layout.values.items n).first) ⊎ (base + (slot_at layout.values.items n).first + size_of s.shader.types (slot_at layout.values.items n).ty ≤ j) → v j ≡ u j)
      → slot_value s.shader.types v base (slot_at layout.values.items n) ≡ x
      → frame_at s layouts v depth (record { function = function; base = base }) ≡ put_value (frame_at s layouts u depth (record { function = function; base = base })) n x
  frame_put layouts u v depth base n x e others here =
      subst (λ l. words_frame s function depth base l v ≡ put_value (words_frame s function depth base l u) n x) (sym e)
      (λ i. record { function = function; depth = depth; params = all_params u v depth base low i; pointers = all_pointers u v depth base low i; values = values i })
    where
      low : SameTo u v base (values_at s.shader.types layout is.params is.locals)
      low w lt = others (base + w) (elim (value_outside n w lt) [ inl h ↦ inl (omega (arith, h)) | inr h ↦ inr (omega (arith, h)) ])

      other : (m : ℕ) → (m ≡ n → ⊥) → slot_value s.shader.types v base (slot_at layout.values.items m) ≡ slot_value s.shader.types u base (slot_at layout.values.items m)
      other m ne =
          slot_same s.shader.types sound u v base (slot_at layout.values.items m)
          (λ i lt. others (base + (slot_at layout.values.items m).first + i) (elim (value_beside m n i ne lt) [ inl h ↦ inl (omega (arith, h)) | inr h ↦ inr (omega (arith, h)) ]))

      by : (m : ℕ) (b : Bool) → (m == n) ≡ b → slot_value s.shader.types v base (slot_at layout.values.items m) ≡ (if b then x else slot_value s.shader.types u base (slot_at layout.values.items m))
      by m true is_n = subst (λ k. slot_value s.shader.types v base (slot_at layout.values.items k) ≡ x) (sym (eqb-true m n is_n)) here
      by m false not_n = other m (eqb-false m n not_n)

      each : (m : ℕ) → slot_value s.shader.types v base (slot_at layout.values.items m) ≡ (put_value (words_frame s function depth base layout u) n x).values m
      each m = by m (m == n) refl

      values : (words_frame s function depth base layout v).values ≡ (put_value (words_frame s function depth base layout u) n x).values
      values = fun_ext each

-- ---- all frames

pub inside_more : (s : Setting) (layouts : ℕ → FrameLayout) (words : ℕ → ℕ) (depth : ℕ) (opens : List Open) (o : Open) (outer : List Frame)
    → frames_inside s layouts words depth (opens ++ o ∷ []) outer ≡ frame_at s layouts words (depth + length opens) o ∷ frames_inside s layouts words depth opens outer
inside_more s layouts words depth [] o outer = ap (λ d. frame_at s layouts words d o ∷ outer) (let e : depth ≡ depth + 0 = omega arith in e)
inside_more s layouts words depth (p ∷ opens) o outer =
    inside_more s layouts words (depth + 1) opens o (frame_at s layouts words depth p ∷ outer)
    ∙ ap (λ d. frame_at s layouts words d o ∷ frames_inside s layouts words (depth + 1) opens (frame_at s layouts words depth p ∷ outer)) (let e : depth + 1 + length opens ≡ depth + suc (length opens) = omega arith in e)

pub stacked_end : (layouts : ℕ → FrameLayout) (from to : ℕ) (opens : List Open) → Stacked layouts from to opens → from ≤ to
stacked_end layouts from to [] h = h
stacked_end layouts from to (o ∷ opens) h = omega (arith, h.0, stacked_end layouts (o.base + (layouts o.function).size) to opens h.1)

module _ (s : Setting) (sound : IsSound s.shader.types) (layouts : ℕ → FrameLayout) (all : (f : ℕ) → IsFrameOf s f (layouts f)) where
  -- frames below a place are told by the words below it
  pub below_same : (u v : ℕ → ℕ) (depth from to : ℕ) (opens : List Open) (outer : List Frame) → Stacked layouts from to opens → ((j : ℕ) → j < to → v j ≡ u j)
      → frames_inside s layouts v depth opens outer ≡ frames_inside s layouts u depth opens outer
  below_same u v depth from to [] outer h same = refl
  below_same u v depth from to (o ∷ opens) outer h same =
      let end : o.base + (layouts o.function).size ≤ to = stacked_end layouts (o.base + (layouts o.function).size) to opens h.1 in
      let here = frame_same s sound o.function (layouts o.function) (all o.function) layouts u v depth o.base refl (λ w lt. same (o.base + w) (omega (arith, lt, end))) in
      ap (λ f. frames_inside s layouts v (depth + 1) opens (f ∷ outer)) here
      ∙ below_same u v (depth + 1) (o.base + (layouts o.function).size) to opens (frame_at s layouts u depth o ∷ outer) h.1 same

  -- a value comes to the slot of a statement of the innermost call
  pub frames_put : (u v : ℕ → ℕ) (from : ℕ) (below : List Open) (top : Open) (n : ℕ) (x : Value) → Stacked layouts from top.base below
      → ((j : ℕ) → (j < top.base + (slot_at (layouts top.function).values.items n).first) ⊎ (top.base + (slot_at (layouts top.function).values.items n).first + size_of s.shader.types (slot_at (layouts top.function).values.items n).ty ≤ j) → v j ≡ u j)
      → slot_value s.shader.types v top.base (slot_at (layouts top.function).values.items n) ≡ x
      → frames_of s layouts v (below ++ top ∷ []) ≡ put_first n x (frames_of s layouts u (below ++ top ∷ []))
  frames_put u v from below top n x stacked others here =
      let first = frame_put s sound top.function (layouts top.function) (all top.function) layouts u v (0 + length below) top.base n x refl others here in
      let rest = below_same u v 0 from top.base below [] stacked (λ j lt. others j (inl (omega (arith, lt)))) in
      inside_more s layouts v 0 below top []
      ∙ ((λ i. first i ∷ rest i) ∙ ap (put_first n x) (sym (inside_more s layouts u 0 below top [])))

-- ---- memory of the lane's own

lt_true : (a b : ℕ) → a < b → nat_lt a b ≡ true
lt_true a b h = grind (arith)

lt_false : (a b : ℕ) → b ≤ a → nat_lt a b ≡ false
lt_false a b h = grind (arith)

-- a word of a slot is told by the words of the slot
word_same : (t : Table) (u v : ℕ → ℕ) (base : ℕ) (slot : Slot) (i : ℕ) → ((k : ℕ) → k < size_of t slot.ty → v (base + slot.first + k) ≡ u (base + slot.first + k)) → slot_word t v base slot i ≡ slot_word t u base slot i
word_same t u v base slot i h = by (lt_or i (size_of t slot.ty))
  where
    by : (i < size_of t slot.ty) ⊎ (size_of t slot.ty ≤ i) → slot_word t v base slot i ≡ slot_word t u base slot i
    by (inl lt) = ap (λ w. if nat_lt i (size_of t slot.ty) then w % 2 ^ 32 else 0) (h i lt)
    by (inr le) =
        ap (λ b. if b then v (base + slot.first + i) % 2 ^ 32 else 0) (lt_false i (size_of t slot.ty) le)
        ∙ sym (ap (λ b. if b then u (base + slot.first + i) % 2 ^ 32 else 0) (lt_false i (size_of t slot.ty) le))

module _ (s : Setting) (sound : IsSound s.shader.types) (layouts : ℕ → FrameLayout) (all : (f : ℕ) → IsFrameOf s f (layouts f)) (u v : ℕ → ℕ) (top : Open) (n : ℕ)
    (others : (j : ℕ) → (j < top.base + (slot_at (layouts top.function).values.items n).first) ⊎ (top.base + (slot_at (layouts top.function).values.items n).first + size_of s.shader.types (slot_at (layouts top.function).values.items n).ty ≤ j) → v j ≡ u j) where
  top_same : (number i : ℕ) → slot_word s.shader.types v top.base (slot_at (layouts top.function).locals.items number) i ≡ slot_word s.shader.types u top.base (slot_at (layouts top.function).locals.items number) i
  top_same number i =
      word_same s.shader.types u v top.base (slot_at (layouts top.function).locals.items number) i
      (λ k lt. others (top.base + (slot_at (layouts top.function).locals.items number).first + k)
      (elim (value_outside s sound top.function (layouts top.function) (all top.function) n ((slot_at (layouts top.function).locals.items number).first + k) (local_inside s sound top.function (layouts top.function) (all top.function) number k lt))
      [ inl h ↦ inl (omega (arith, h)) | inr h ↦ inr (omega (arith, h)) ]))

  locals_same : (from : ℕ) (below : List Open) → Stacked layouts from top.base below → (d number i : ℕ)
      → local_word s layouts v (slice_get (below ++ top ∷ []) d) number i ≡ local_word s layouts u (slice_get (below ++ top ∷ []) d) number i
  locals_same from [] stacked zero number i = top_same number i
  locals_same from [] stacked (suc d) number i = refl
  locals_same from (o ∷ below) stacked zero number i =
      word_same s.shader.types u v o.base (slot_at (layouts o.function).locals.items number) i
      (λ k lt.
      let end : o.base + (layouts o.function).size ≤ top.base = stacked_end layouts (o.base + (layouts o.function).size) top.base below stacked.1 in
      let within = local_inside s sound o.function (layouts o.function) (all o.function) number k lt in
      let before = values_before s sound o.function (layouts o.function) (all o.function) in
      others (o.base + (slot_at (layouts o.function).locals.items number).first + k) (inl (omega (arith, end, within, before))))
  locals_same from (o ∷ below) stacked (suc d) number i = locals_same (o.base + (layouts o.function).size) below stacked.1 d number i

  -- no variable of the lane's own changes
  pub own_same : (privates : List Slot) (start : ℕ) (below : List Open) → ArePrivates s privates start → Stacked layouts start top.base below
      → own_of s layouts privates v (below ++ top ∷ []) ≡ own_of s layouts privates u (below ++ top ∷ [])
  own_same privates start below are stacked = fun_ext (λ variable. fun_ext (λ i. by variable i))
    where
      end : start ≤ top.base
      end = stacked_end layouts start top.base below stacked

      private_inside : (root k : ℕ) → k < size_of s.shader.types (slot_at privates root).ty → (slot_at privates root).first + k < start
      private_inside root k lt =
          let h = subst (λ l. k < size_of s.shader.types (slot_at l root).ty → (slot_at l root).first + k < end_from s.shader.types 0 are.types) (sym are.laid) (λ less. (inside s.shader.types 0 are.types root k less).1) lt in
          omega (arith, h, are.within)

      by : (variable : Variable) (i : ℕ) → own_of s layouts privates v (below ++ top ∷ []) variable i ≡ own_of s layouts privates u (below ++ top ∷ []) variable i
      by (shared root) i = refl
      by (private root) i = word_same s.shader.types u v 0 (slot_at privates root) i (λ k lt. others (0 + (slot_at privates root).first + k) (inl (omega (arith, end, private_inside root k lt))))
      by (local depth number) i = locals_same start below stacked depth number i
