-- Tables of bits: one more bit, one more definition, one more write.
use Rattle.std.proofs.Common.{◌≡◌, ℕ, zero, suc, ◌+◌, ◌*◌, ◌%◌, ◌<◌, ◌≤◌, ◌-◌, ◌^◌, true, false, Option, None, Some, List, [], ◌∷◌, ◌++◌, length, get_or, take, refl, ap, sym, ◌∙◌, arith, subst, inl, inr}
use Rattle.std.specs.Prelude.{slice_get, slice_set, replicate, ◌≢◌, ◌⊎◌, ◌↔◌, bit_and, bit_or}
use Rattle.std.specs.Int.{bit_at, bit_not, w64}
use Rattle.std.proofs.lemmas.Bool.{false≢true}
use Rattle.std.proofs.lemmas.Bool.Decides.{eqb_tells}
use Rattle.std.proofs.lemmas.Bool.{cases_lt}
use Rattle.std.proofs.lemmas.List.{get_or_default, length-set, take_more}
use Rattle.std.proofs.lemmas.Option.{slice_get-get_or, slice_get_within}
use Rattle.std.proofs.lemmas.Nat.Bits.{bit_at_set_same, bit_at_set_other, bit_at-zero, bit_at_not, bit_at-lt}
use Rattle.shade_core.specs.declared.statement.Base.{Base}
use Rattle.shade_flow.specs.declared.definition.Definition.{Definition}
use Rattle.shade_flow.specs.declared.definition.Defined.{Defined}
use Rattle.shade_flow.specs.declared.definition.Write.{Write}
use Rattle.shade_flow.specs.Lists.{In}
use Rattle.shade_flow.specs.Bits.{Has, at}
use Rattle.shade_flow.specs.Flow.{same_var}
use Rattle.shade_flow.specs.Tables.{Joins, made_at, SetsBit, AreBits, AreBitsOf, IsStop, AreStopped}
use Rattle.shade_flow.proofs.Members.{at_set_same, at_set_other, in_split, in_left, in_right}
use Rattle.shade_flow.proofs.Variables.{same_is, same_self}
use Rattle.shade_flow.proofs.Words.{and_both, and_cases}

-- a bit of a word
pub one_here : (word bit result : ℕ) → bit < 64 → result ≡ bit_or word (1 * 2 ^ bit % 2 ^ 64) → Has result bit
one_here word bit result low e = rw e (bit_at_set_same w64 word bit low)

pub others_stay : (word bit result : ℕ) → bit < 64 → result ≡ bit_or word (1 * 2 ^ bit % 2 ^ 64) → (other : ℕ) → other ≢ bit → bit_at result other ≡ bit_at word other
others_stay word bit result low e other n = rw e (bit_at_set_other w64 word bit low other n)

-- the bits of one word that another lacks
pub left_out : (word bits result : ℕ) → bits < 2 ^ 64 → result ≡ bit_and word (bit_not w64 bits) → (bit : ℕ) → bit < 64 → Has result bit ↔ (Has word bit × (bit_at bits bit ≡ 0))
left_out word bits result small e bit low =
    let off : bit_at (bit_not w64 bits) bit ≡ 1 - bit_at bits bit = bit_at_not w64 bits bit small low in (
      λ h. (let both : Has word bit × Has (bit_not w64 bits) bit = and_cases word (bit_not w64 bits) bit (subst (λ (n : ℕ). Has n bit) e h) in (both.0, omega (arith, both.1, off, bit_at-lt bits bit))),
      λ h. subst (λ (n : ℕ). Has n bit) (sym e) (and_both word (bit_not w64 bits) bit h.0 (omega (arith, off, h.1))),
    )

-- a bit at a place, or at none
pub sets_none : (rows : List ℕ) (bit : ℕ) → SetsBit rows None bit rows
sets_none rows bit = record { long = refl; there = λ point e lt. cc; from = λ point other h. inl h; grows = λ point other h. h }

pub sets_past : (rows : List ℕ) (point bit : ℕ) → length rows ≤ point → SetsBit rows (Some point) bit rows
sets_past rows point bit past = record { long = refl; there = there; from = λ p other h. inl h; grows = λ p other h. h }
  where
    there : (p : ℕ) → Some point ≡ Some p → p < length rows → Has (at rows p) bit
    there p e lt = let same : point ≡ p = cc in absurd (omega (arith, past, same, lt))

pub sets_here : (rows : List ℕ) (point bit row word : ℕ) → point < length rows → row ≡ get_or rows point row → Has word bit → ((other : ℕ) → other ≢ bit → bit_at word other ≡ bit_at row other) → SetsBit rows (Some point) bit (slice_set rows point word)
sets_here rows point bit row word below read has others = record { long = length-set rows point word; there = there; from = from; grows = grows }
  where
    row_is : row ≡ at rows point
    row_is = read ∙ get_or_default rows point row 0 below

    here : at (slice_set rows point word) point ≡ word
    here = at_set_same rows point word below

    there : (p : ℕ) → Some point ≡ Some p → p < length rows → Has (at (slice_set rows point word) p) bit
    there p e lt = let same : point ≡ p = cc in subst (λ (q : ℕ). Has (at (slice_set rows point word) q) bit) same (rw here has)

    from : (p other : ℕ) → Has (at (slice_set rows point word) p) other → Has (at rows p) other ⊎ ((Some point ≡ Some p) × (other ≡ bit))
    from p other h = elim (eqb_tells point p) [
      | inl s ↦ elim (eqb_tells other bit) [
        | inl b ↦ inr (ap (λ (q : ℕ). Some q) s.1, b.1)
        | inr b ↦ (let in_word : Has word other = rw here at (rw (← s.1) at h) in inl (rw (← s.1) (rw (← row_is) (sym (others other b.1) ∙ in_word))))
      ]
      | inr o ↦ inl (rw (at_set_other rows point p word o.1) at h)
    ]

    grows : (p other : ℕ) → Has (at rows p) other → Has (at (slice_set rows point word) p) other
    grows p other h = elim (eqb_tells point p) [
      | inl s ↦ (let old : Has row other = rw row_is (rw s.1 h) in
          subst (λ (q : ℕ). Has (at (slice_set rows point word) q) other) s.1 (rw here (elim (eqb_tells other bit) [ inl b ↦ subst (λ (q : ℕ). Has word q) (sym b.1) has | inr b ↦ others other b.1 ∙ old ])))
      | inr o ↦ rw (at_set_other rows point p word o.1) h
    ]

-- one more definition
module _ (place : Definition → Option ℕ) (definitions : List Defined) (nodes : ℕ) where
  at_zeros : (count point : ℕ) → at (replicate count 0) point ≡ 0
  at_zeros zero point = refl
  at_zeros (suc count) zero = refl
  at_zeros (suc count) (suc point) = at_zeros count point

  zeros_long : (count : ℕ) → length (replicate {A = ℕ} count 0) ≡ count
  zeros_long zero = refl
  zeros_long (suc count) = ap suc (zeros_long count)

  pub bits_none : (rows : List ℕ) → rows ≡ replicate nodes 0 → AreBits place definitions 0 nodes rows
  bits_none rows e = rw e (record { long = zeros_long nodes; there = λ bit point d lt f g h. absurd (omega (arith, lt)); back = back })
    where
      back : (bit point : ℕ) → Has (at (replicate nodes 0) point) bit → (defined : Defined) × (bit < 0) × (slice_get definitions bit ≡ Some defined) × (place defined.by ≡ Some point)
      back bit point h = let none : Has 0 bit = rw (at_zeros nodes point) at h in absurd (omega (arith, none, bit_at-zero bit))

  pub bits_step : (index : ℕ) (old new : List ℕ) (d : Defined) → AreBits place definitions index nodes old → index < length definitions → d ≡ get_or definitions index d → SetsBit old (place d.by) index new
      → AreBits place definitions (index + 1) nodes new
  bits_step index old new d b lt is s = record { long = s.long ∙ b.long; there = there; back = back }
    where
      here : slice_get definitions index ≡ Some d
      here = slice_get-get_or definitions index d lt ∙ ap (λ (x : Defined). Some x) (sym is)

      there : (bit point : ℕ) (defined : Defined) → bit < index + 1 → slice_get definitions bit ≡ Some defined → place defined.by ≡ Some point → point < nodes → Has (at new point) bit
      there bit point defined low f g below = elim (eqb_tells bit index) [
        | inl e ↦ (let same : d ≡ defined = cc (here, rw e.1 at f) in
            subst (λ (k : ℕ). Has (at new point) k) (sym e.1) (s.there point (rw same g) (omega (arith, below, b.long))))
        | inr o ↦ s.grows point bit (b.there bit point defined (omega (arith, low, o.1)) f g below)
      ]

      back : (bit point : ℕ) → Has (at new point) bit → (defined : Defined) × (bit < index + 1) × (slice_get definitions bit ≡ Some defined) × (place defined.by ≡ Some point)
      back bit point h = elim (s.from point bit h) [
        | inl old_has ↦ (let r : (defined : Defined) × (bit < index) × (slice_get definitions bit ≡ Some defined) × (place defined.by ≡ Some point) = b.back bit point old_has in (r.0, omega (arith, r.1), r.2, r.3))
        | inr now ↦ (d, omega (arith, now.1), rw now.1 here, now.0)
      ]

-- one more definition of a variable, or of another
module _ (variable : Base) (definitions : List Defined) where
  pub of_none : AreBitsOf variable definitions 0 0
  of_none = record { there = λ bit d lt f g. absurd (omega (arith, lt)); back = λ bit h. absurd (omega (arith, h, bit_at-zero bit)) }

  module _ (index word : ℕ) (d : Defined) (b : AreBitsOf variable definitions index word) (lt : index < length definitions) (is : d ≡ get_or definitions index d) where
    at_index : slice_get definitions index ≡ Some d
    at_index = slice_get-get_or definitions index d lt ∙ ap (λ (x : Defined). Some x) (sym is)

    pub of_one : (new : ℕ) → same_var d.variable variable ≡ true → Has new index → ((other : ℕ) → other ≢ index → bit_at new other ≡ bit_at word other) → AreBitsOf variable definitions (index + 1) new
    of_one new same has others = record { there = there; back = back }
      where
        there : (bit : ℕ) (defined : Defined) → bit < index + 1 → slice_get definitions bit ≡ Some defined → defined.variable ≡ variable → Has new bit
        there bit defined low f g = elim (eqb_tells bit index) [
          | inl e ↦ subst (λ (k : ℕ). Has new k) (sym e.1) has
          | inr o ↦ others bit o.1 ∙ b.there bit defined (omega (arith, low, o.1)) f g
        ]

        back : (bit : ℕ) → Has new bit → (defined : Defined) × (bit < index + 1) × (slice_get definitions bit ≡ Some defined) × (defined.variable ≡ variable)
        back bit h = elim (eqb_tells bit index) [
          | inl e ↦ (d, omega (arith, e.1), rw e.1 at_index, same_is d.variable variable same)
          | inr o ↦ (let r : (defined : Defined) × (bit < index) × (slice_get definitions bit ≡ Some defined) × (defined.variable ≡ variable) = b.back bit (sym (others bit o.1) ∙ h) in (r.0, omega (arith, r.1), r.2, r.3))
        ]

    pub of_other : same_var d.variable variable ≡ false → AreBitsOf variable definitions (index + 1) word
    of_other differs = record { there = there; back = back }
      where
        there : (bit : ℕ) (defined : Defined) → bit < index + 1 → slice_get definitions bit ≡ Some defined → defined.variable ≡ variable → Has word bit
        there bit defined low f g = elim (eqb_tells bit index) [
          | inl e ↦ (let same : d ≡ defined = cc (at_index, rw e.1 at f) in
              let one : d.variable ≡ variable = ap (λ (x : Defined). x.variable) same ∙ g in
              absurd (false≢true (sym differs ∙ rw one (same_self variable))))
          | inr o ↦ b.there bit defined (omega (arith, low, o.1)) f g
        ]

        back : (bit : ℕ) → Has word bit → (defined : Defined) × (bit < index + 1) × (slice_get definitions bit ≡ Some defined) × (defined.variable ≡ variable)
        back bit h = let r : (defined : Defined) × (bit < index) × (slice_get definitions bit ≡ Some defined) × (defined.variable ≡ variable) = b.back bit h in (r.0, omega (arith, r.1), r.2, r.3)

-- one write, which stops no definition in these rows, or takes its variable's bits out of one row
module _ (definitions : List Defined) (write : Write) where
  nothing_past : (rows : List ℕ) (point : ℕ) → length rows ≤ point → at rows point ≡ 0
  nothing_past [] point h = refl
  nothing_past (row ∷ rows) zero h = absurd (omega (arith, h))
  nothing_past (row ∷ rows) (suc point) h = nothing_past rows point (omega (arith, h))

  has_within : (rows : List ℕ) (point bit : ℕ) → Has (at rows point) bit → point < length rows
  has_within rows point bit h = elim (cases_lt point (length rows)) [
    | inl lt ↦ lt
    | inr ge ↦ (let none : Has 0 bit = rw (nothing_past rows point ge) at h in absurd (omega (arith, none, bit_at-zero bit)))
  ]

  pub stops_none : (rows : List ℕ) → ((point : ℕ) (variable : Base) → point < length rows → ¬ IsStop write point variable) → AreStopped definitions (write ∷ []) rows rows
  stops_none rows none = record { long = refl; sound = sound; complete = λ bit point d f h g. h }
    where
      sound : (bit point : ℕ) (d : Defined) → slice_get definitions bit ≡ Some d → Has (at rows point) bit → Has (at rows point) bit × ((w : Write) → In w (write ∷ []) → ¬ IsStop w point d.variable)
      sound bit point d f h = (h, by)
        where
          by : (w : Write) → In w (write ∷ []) → ¬ IsStop w point d.variable
          by w (inl e) = subst (λ (x : Write). ¬ IsStop x point d.variable) (sym e) (none point d.variable (has_within rows point bit h))
          by w (inr m) = absurd m

  pub stops_part : (rows : List ℕ) → write.whole ≡ false → AreStopped definitions (write ∷ []) rows rows
  stops_part rows part = stops_none rows (λ point variable lt s. false≢true (sym part ∙ s.whole))

  pub stops_nowhere : (rows : List ℕ) → None ≡ made_at write.defined.by → AreStopped definitions (write ∷ []) rows rows
  stops_nowhere rows nowhere = stops_none rows (λ point variable lt s. cc (nowhere, s.place))

  pub stops_past : (rows : List ℕ) (place : ℕ) → Some place ≡ made_at write.defined.by → length rows ≤ place → AreStopped definitions (write ∷ []) rows rows
  stops_past rows place here past = stops_none rows (λ point variable lt s. (let same : place ≡ point = cc (here, s.place) in omega (arith, past, lt, same)))

  module _ (rows : List ℕ) (place row bits word : ℕ) (few : length definitions ≤ 64) (whole : write.whole ≡ true) (is : Some place ≡ made_at write.defined.by) (below : place < length rows)
      (read : row ≡ get_or rows place row) (of : AreBitsOf write.defined.variable definitions (length definitions) bits) (left : (bit : ℕ) → bit < 64 → Has word bit ↔ (Has row bit × (bit_at bits bit ≡ 0))) where
    row_is : row ≡ at rows place
    row_is = read ∙ get_or_default rows place row 0 below

    here : at (slice_set rows place word) place ≡ word
    here = at_set_same rows place word below

    is_stop : (variable : Base) → write.defined.variable ≡ variable → IsStop write place variable
    is_stop variable same = record { whole = whole; place = sym is; same = same }

    -- a bit at the place
    stays : (bit : ℕ) (d : Defined) → slice_get definitions bit ≡ Some d → Has word bit → Has row bit × ¬ IsStop write place d.variable
    stays bit d f h =
        let within : bit < length definitions = slice_get_within definitions bit d f in
        let both : Has row bit × (bit_at bits bit ≡ 0) = (left bit (omega (arith, within, few))).0 h in
        (both.0, λ s. (let one : Has bits bit = of.there bit d within f (sym s.same) in omega (arith, one, both.1)))

    passes : (bit : ℕ) (d : Defined) → slice_get definitions bit ≡ Some d → Has row bit → ¬ IsStop write place d.variable → Has word bit
    passes bit d f h none = (left bit (omega (arith, within, few))).1 (h, off)
      where
        within : bit < length definitions
        within = slice_get_within definitions bit d f

        off : bit_at bits bit ≡ 0
        off = elim (eqb_tells (bit_at bits bit) 1) [
          | inl one ↦ (let r : (other : Defined) × (bit < length definitions) × (slice_get definitions bit ≡ Some other) × (other.variable ≡ write.defined.variable) = of.back bit one.1 in
              let same : r.0 ≡ d = cc (f, r.2) in
              absurd (none (is_stop d.variable (sym r.3 ∙ ap (λ (x : Defined). x.variable) same))))
          | inr o ↦ omega (arith, o.1, bit_at-lt bits bit)
        ]

    pub stops_here : AreStopped definitions (write ∷ []) rows (slice_set rows place word)
    stops_here = record { long = length-set rows place word; sound = sound; complete = complete }
      where
        other_place : (point : ℕ) (variable : Base) → place ≢ point → ¬ IsStop write point variable
        other_place point variable differs s = let same : place ≡ point = cc (is, s.place) in differs same

        sound : (bit point : ℕ) (d : Defined) → slice_get definitions bit ≡ Some d → Has (at (slice_set rows place word) point) bit → Has (at rows point) bit × ((w : Write) → In w (write ∷ []) → ¬ IsStop w point d.variable)
        sound bit point d f h = (both.0, by)
          where
            both : Has (at rows point) bit × ¬ IsStop write point d.variable
            both = elim (eqb_tells place point) [
              | inl s ↦ (let in_word : Has word bit = rw here at (rw (← s.1) at h) in
                  let r : Has row bit × ¬ IsStop write place d.variable = stays bit d f in_word in
                  subst (λ (q : ℕ). Has (at rows q) bit × ¬ IsStop write q d.variable) s.1 (rw row_is at r.0, r.1))
              | inr o ↦ (rw (at_set_other rows place point word o.1) at h, other_place point d.variable o.1)
            ]

            by : (w : Write) → In w (write ∷ []) → ¬ IsStop w point d.variable
            by w (inl e) = subst (λ (x : Write). ¬ IsStop x point d.variable) (sym e) both.1
            by w (inr m) = absurd m

        complete : (bit point : ℕ) (d : Defined) → slice_get definitions bit ≡ Some d → Has (at rows point) bit → ((w : Write) → In w (write ∷ []) → ¬ IsStop w point d.variable) → Has (at (slice_set rows place word) point) bit
        complete bit point d f h none = elim (eqb_tells place point) [
          | inl s ↦ (let in_row : Has row bit = rw (row_is, s.1) h in
              let in_word : Has word bit = passes bit d f in_row (subst (λ (q : ℕ). ¬ IsStop write q d.variable) (sym s.1) (none write (inl refl))) in
              subst (λ (q : ℕ). Has (at (slice_set rows place word) q) bit) s.1 (rw here in_word))
          | inr o ↦ rw (at_set_other rows place point word o.1) h
        ]

-- some writes, and one more
pub stopped_none : (definitions : List Defined) (rows : List ℕ) → AreStopped definitions [] rows rows
stopped_none definitions rows = record { long = refl; sound = λ bit point d f h. (h, λ w m. absurd m); complete = λ bit point d f h g. h }

pub stopped_step : (definitions : List Defined) (writes : List Write) (index : ℕ) (w : Write) (rows old new : List ℕ) → index < length writes
    → AreStopped definitions (take index writes) rows old → AreStopped definitions (get_or writes index w ∷ []) old new → AreStopped definitions (take (index + 1) writes) rows new
stopped_step definitions writes index w rows old new lt a b = record { long = b.long ∙ a.long; sound = sound; complete = complete }
  where
    more : take (index + 1) writes ≡ take index writes ++ get_or writes index w ∷ []
    more = take_more writes index w lt

    sound : (bit point : ℕ) (d : Defined) → slice_get definitions bit ≡ Some d → Has (at new point) bit → Has (at rows point) bit × ((x : Write) → In x (take (index + 1) writes) → ¬ IsStop x point d.variable)
    sound bit point d f h =
        let now : Has (at old point) bit × ((x : Write) → In x (get_or writes index w ∷ []) → ¬ IsStop x point d.variable) = b.sound bit point d f h in
        let before : Has (at rows point) bit × ((x : Write) → In x (take index writes) → ¬ IsStop x point d.variable) = a.sound bit point d f now.0 in
        (before.0, λ x m. elim (in_split x (take index writes) (get_or writes index w ∷ []) (subst (λ (l : List Write). In x l) more m)) [ inl l ↦ before.1 x l | inr r ↦ now.1 x r ])

    complete : (bit point : ℕ) (d : Defined) → slice_get definitions bit ≡ Some d → Has (at rows point) bit → ((x : Write) → In x (take (index + 1) writes) → ¬ IsStop x point d.variable) → Has (at new point) bit
    complete bit point d f h none =
        b.complete bit point d f (a.complete bit point d f h (λ x m. none x (subst (λ (l : List Write). In x l) (sym more) (in_left x (take index writes) (get_or writes index w ∷ []) m))))
        (λ x m. none x (subst (λ (l : List Write). In x l) (sym more) (in_right x (take index writes) (get_or writes index w ∷ []) m)))

-- one more edge below the count
pub edges_more : (edges : List (ℕ × ℕ)) (i count next last : ℕ) (other : ℕ × ℕ) → ((k : ℕ) (d : ℕ × ℕ) → k < i → Joins count (get_or edges k d)) → i < length edges
    → count ≤ next → (get_or edges i other).0 < next → next ≤ last → (get_or edges i other).1 < last → (k : ℕ) (d : ℕ × ℕ) → k < i + 1 → Joins last (get_or edges k d)
edges_more edges i count next last other h lt up below more end k d low = elim (eqb_tells k i) [
  | inl s ↦ (let here : get_or edges i other ≡ get_or edges k d = get_or_default edges i other d lt ∙ ap (λ (j : ℕ). get_or edges j d) (sym s.1) in
      subst (λ (x : ℕ × ℕ). Joins last x) here (omega (arith, below, more), end))
  | inr o ↦ (let old : Joins count (get_or edges k d) = h k d (omega (arith, low, o.1)) in (omega (arith, old.0, up, more), omega (arith, old.1, up, more)))
]
