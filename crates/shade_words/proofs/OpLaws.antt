-- Each operation whose result is a scalar or a vector, at the types that it takes.
use Rattle.std.proofs.Common.{◌≡◌, ℕ, ◌⊎◌, inl, inr, Bool, true, false, List, [], ◌∷◌, Option, Some, None, refl, sym, ap, subst, ◌∙◌}
use Rattle.std.specs.Prelude.{if◌then◌else◌, ◌==◌}
use Rattle.std.proofs.lemmas.Bool.{false≢true}
use Rattle.shade_values.specs.declared.types.Scalar.{Scalar}
use Rattle.shade_values.specs.declared.types.Scalar.TheVariants as scalar
use Rattle.shade_values.specs.declared.types.ShadeType.{ShadeType}
use Rattle.shade_values.specs.declared.types.ShadeType.TheVariants as type
use Rattle.shade_values.specs.declared.value.Leaf.{Leaf}
use Rattle.shade_values.specs.declared.value.Value.{Value}
use Rattle.shade_values.specs.declared.op.Op.{Op}
use Rattle.shade_values.specs.declared.op.Op.TheVariants.{Add, Subtract, Multiply, Divide, Remainder, Negate, Complement, And, Or, Xor, ShiftLeft, ShiftRight, Equal, NotEqual, Less, LessEqual, Greater, GreaterEqual, Not, LogicalAnd, LogicalOr, Convert, Vector, Make, Bitcast, All as AllOf, Any, Select, Abs, Sign, Min, Max, Clamp, Dot, CountOneBits, CountLeadingZeros, CountTrailingZeros, ReverseBits, FirstLeadingBit, FirstTrailingBit, ExtractBits, InsertBits, Member, Index, Swizzle, AtomicLoad, AtomicStore, AtomicAdd, AtomicSub, AtomicMax, AtomicMin, AtomicAnd, AtomicOr, AtomicXor, AtomicExchange, AtomicCompareExchangeWeak}
use Rattle.shade_values.specs.Operations.{unary, binary, ternary, quaternary, converted, is_zero}
use Rattle.shade_values.specs.Apply.{Apply, by_parts, at_lane}
use Rattle.shade_values.specs.Table.{Table}
use Rattle.shade_values.specs.Takes.{Takes, Row, IsAny, IsBool, IsInteger, IsSigned, IsConcrete, formed, one, Arithmetic, Choice, Reread, Atomically}
use Rattle.shade_values.specs.Typed.{IsLeafOf}
use Rattle.shade_values.proofs.RangeLaws.{unary_ranged, binary_ranged, ternary_ranged, quaternary_ranged, converted_ranged}
use Rattle.shade_words.specs.Forms.{part_leaf, moves, HasLetters}
use Rattle.shade_words.specs.Spans.{IsHeld}
use Rattle.shade_words.proofs.LeafLaws.{Leafwise, by_operands, joined, joined_none, AreLeaves, over}
use Rattle.shade_words.proofs.SpecialLaws.{AreVectors, all_leafwise, any_leafwise, dot_leafwise, swizzle_leafwise, vector_leafwise, some_is}

-- ---- rows of operations that go part by part

-- what makes an operation one that goes part by part
record IsByParts (op : Op) : Type 0 where
  pub whole : (args : List Value) → Apply op args ≡ by_parts op args
  pub part : (args : List Value) (k : ℕ) → part_leaf op args k ≡ at_lane op args k

-- no type is a pointer
abbrev pub AreHeld : List ShadeType → Type 0
AreHeld [] = Unit {0}
AreHeld (ty ∷ tys) = IsHeld ty × AreHeld tys

converted_scalar : (s : Scalar) (a : Leaf) → (converted s a).scalar ≡ s
converted_scalar scalar.Bool a = refl
converted_scalar scalar.I32 a = refl
converted_scalar scalar.U32 a = refl
converted_scalar scalar.Abstract a = refl

select : (s : Scalar) (a b c : Leaf) → IsLeafOf s a → IsLeafOf s b → IsLeafOf scalar.Bool c → IsLeafOf s (ternary Select a b c)
select s a b c h k l = chosen (is_zero c.number)
  where
    chosen : (x : Bool) → IsLeafOf s (if x then a else b)
    chosen true = h
    chosen false = k

-- operands that are scalars, or have as many parts as the result
abbrev joined_two : Option ℕ → Option ℕ → Option ℕ → Type 0
joined_two m n f = (joined m (joined n None) ≡ f) × ((m ≡ None) ⊎ (m ≡ f)) × ((n ≡ None) ⊎ (n ≡ f))

both : (f : Option ℕ) → joined_two f f f
both None = (refl, inl refl, inl refl)
both (Some n) = (refl, inr refl, inr refl)

abbrev joined_three : Option ℕ → Option ℕ → Option ℕ → Option ℕ → Type 0
joined_three m n o f = (joined m (joined n (joined o None)) ≡ f) × ((m ≡ None) ⊎ (m ≡ f)) × ((n ≡ None) ⊎ (n ≡ f)) × ((o ≡ None) ⊎ (o ≡ f))

all_three : (f : Option ℕ) → joined_three f f f f
all_three None = (refl, inl refl, inl refl, inl refl)
all_three (Some n) = (refl, inr refl, inr refl, inr refl)

first_two : (f : Option ℕ) → joined_three f f None f
first_two None = (refl, inl refl, inl refl, inl refl)
first_two (Some n) = (refl, inr refl, inr refl, inl refl)

first_one : (f : Option ℕ) → joined_three f None None f
first_one None = (refl, inl refl, inl refl, inl refl)
first_one (Some n) = (refl, inr refl, inl refl, inl refl)

abbrev joined_four : Option ℕ → Option ℕ → Option ℕ → Option ℕ → Option ℕ → Type 0
joined_four m n o p f =
    (joined m (joined n (joined o (joined p None))) ≡ f) × ((m ≡ None) ⊎ (m ≡ f)) × ((n ≡ None) ⊎ (n ≡ f)) × ((o ≡ None) ⊎ (o ≡ f)) × ((p ≡ None) ⊎ (p ≡ f))

two_of_four : (f : Option ℕ) → joined_four f f None None f
two_of_four None = (refl, inl refl, inl refl, inl refl, inl refl)
two_of_four (Some n) = (refl, inr refl, inr refl, inl refl, inl refl)

module _ (op : Op) (by : IsByParts op) (tys : List ShadeType) (r : ShadeType) where
  one_row : (Fits : Scalar → Type 0) (g : Scalar → Scalar) → ((s : Scalar) → Fits s → (a : Leaf) → IsLeafOf s a → IsLeafOf (g s) (unary op a))
      → Row Fits one (λ f s. formed f (g s)) tys (Some r) → Leafwise op tys r
  one_row Fits g each (f, s, fits, e, is) =
      subst (λ x. Leafwise op x r) (sym e) (by_operands op ((f, s) ∷ []) f (g s) r (joined_none f) (inr refl, tt) every by.whole by.part (some_is r (formed f (g s)) is))
    where
      every : (ls : List Leaf) → AreLeaves ((f, s) ∷ []) ls → IsLeafOf (g s) (over op ls)
      every [] h = absurd h
      every (a ∷ []) h = each s fits a h.0
      every (a ∷ b ∷ ls) h = absurd h.1

  -- two operands, the second of a scalar that the first one's tells
  two_operands : (f m n : Option ℕ) (s t g : Scalar) → joined_two m n f → ((a b : Leaf) → IsLeafOf s a → IsLeafOf t b → IsLeafOf g (binary op a b))
      → tys ≡ formed m s ∷ formed n t ∷ [] → r ≡ formed f g → Leafwise op tys r
  two_operands f m n s t g agree each e is =
      subst (λ x. Leafwise op x r) (sym e) (by_operands op ((m, s) ∷ (n, t) ∷ []) f g r agree.0 (agree.1, (agree.2, tt)) every by.whole by.part is)
    where
      every : (ls : List Leaf) → AreLeaves ((m, s) ∷ (n, t) ∷ []) ls → IsLeafOf g (over op ls)
      every [] h = absurd h
      every (a ∷ []) h = absurd h.1
      every (a ∷ b ∷ []) h = each a b h.0 h.1.0
      every (a ∷ b ∷ c ∷ ls) h = absurd h.1.1

  two_row : (Fits : Scalar → Type 0) (t g : Scalar → Scalar) → ((s : Scalar) (a b : Leaf) → IsLeafOf s a → IsLeafOf (t s) b → IsLeafOf (g s) (binary op a b))
      → Row Fits (λ f s. formed f s ∷ formed f (t s) ∷ []) (λ f s. formed f (g s)) tys (Some r) → Leafwise op tys r
  two_row Fits t g each (f, s, fits, e, is) = two_operands f f f s (t s) (g s) (both f) (each s) e (some_is r (formed f (g s)) is)

  arithmetic : ((s : Scalar) (a b : Leaf) → IsLeafOf s a → IsLeafOf s b → IsLeafOf s (binary op a b)) → Arithmetic tys (Some r) → Leafwise op tys r
  arithmetic each (inl row) = two_row IsInteger (λ s. s) (λ s. s) each row
  arithmetic each (inr (n, s, fits, inl e, is)) = two_operands (Some n) (Some n) None s s s (refl, inr refl, inl refl) (each s) e (some_is r (type.Vector n s) is)
  arithmetic each (inr (n, s, fits, inr e, is)) = two_operands (Some n) None (Some n) s s s (refl, inl refl, inr refl) (each s) e (some_is r (type.Vector n s) is)

  three_operands : (f m n o : Option ℕ) (s t u g : Scalar) → joined_three m n o f → ((a b c : Leaf) → IsLeafOf s a → IsLeafOf t b → IsLeafOf u c → IsLeafOf g (ternary op a b c))
      → tys ≡ formed m s ∷ formed n t ∷ formed o u ∷ [] → r ≡ formed f g → Leafwise op tys r
  three_operands f m n o s t u g agree each e is =
      subst (λ x. Leafwise op x r) (sym e) (by_operands op ((m, s) ∷ (n, t) ∷ (o, u) ∷ []) f g r agree.0 (agree.1, (agree.2, (agree.3, tt))) every by.whole by.part is)
    where
      every : (ls : List Leaf) → AreLeaves ((m, s) ∷ (n, t) ∷ (o, u) ∷ []) ls → IsLeafOf g (over op ls)
      every [] h = absurd h
      every (a ∷ []) h = absurd h.1
      every (a ∷ b ∷ []) h = absurd h.1.1
      every (a ∷ b ∷ c ∷ []) h = each a b c h.0 h.1.0 h.1.1.0
      every (a ∷ b ∷ c ∷ d ∷ ls) h = absurd h.1.1.1

  four_operands : (f m n o p : Option ℕ) (s t u w g : Scalar) → joined_four m n o p f
      → ((a b c d : Leaf) → IsLeafOf s a → IsLeafOf t b → IsLeafOf u c → IsLeafOf w d → IsLeafOf g (quaternary op a b c d))
      → tys ≡ formed m s ∷ formed n t ∷ formed o u ∷ formed p w ∷ [] → r ≡ formed f g → Leafwise op tys r
  four_operands f m n o p s t u w g agree each e is =
      subst (λ x. Leafwise op x r) (sym e) (by_operands op ((m, s) ∷ (n, t) ∷ (o, u) ∷ (p, w) ∷ []) f g r agree.0 (agree.1, (agree.2, (agree.3, (agree.4, tt)))) every by.whole by.part is)
    where
      every : (ls : List Leaf) → AreLeaves ((m, s) ∷ (n, t) ∷ (o, u) ∷ (p, w) ∷ []) ls → IsLeafOf g (over op ls)
      every [] h = absurd h
      every (a ∷ []) h = absurd h.1
      every (a ∷ b ∷ []) h = absurd h.1.1
      every (a ∷ b ∷ c ∷ []) h = absurd h.1.1.1
      every (a ∷ b ∷ c ∷ d ∷ []) h = each a b c d h.0 h.1.0 h.1.1.0 h.1.1.1.0
      every (a ∷ b ∷ c ∷ d ∷ x ∷ ls) h = absurd h.1.1.1.1

choice : (tys : List ShadeType) (r : ShadeType) → Choice tys (Some r) → Leafwise Select tys r
choice tys r (f, g, s, inl none, e, is) =
    three_operands Select (record { whole = λ args. refl; part = λ args k. refl }) tys r f f f None s s scalar.Bool s (first_two f) (select s)
    (subst (λ x. tys ≡ formed f s ∷ formed f s ∷ formed x scalar.Bool ∷ []) none e) (some_is r (formed f s) is)
choice tys r (f, g, s, inr same, e, is) =
    three_operands Select (record { whole = λ args. refl; part = λ args k. refl }) tys r f f f f s s scalar.Bool s (all_three f) (select s)
    (subst (λ x. tys ≡ formed f s ∷ formed f s ∷ formed x scalar.Bool ∷ []) same e) (some_is r (formed f s) is)

reread : (n : ℕ) (s : Scalar) (tys : List ShadeType) (r : ShadeType) → Reread n s tys (Some r) → Leafwise (Bitcast n s) tys r
reread n s tys r (x, ok, fits, e, is) =
    let form : Option ℕ = if n == 1 then None else Some n in
    one_row (Bitcast n s) (record { whole = λ args. refl; part = λ args k. refl }) tys r IsAny (λ u. s) (λ u fits a h. (converted_scalar s a, converted_ranged s a))
    (form, x, tt, e ∙ ap (λ ty. ty ∷ []) (form_is (n == 1) x), is ∙ ap Some (form_is (n == 1) s))
  where
    form_is : (b : Bool) (u : Scalar) → (if b then type.Plain u else type.Vector n u) ≡ formed (if b then None else Some n) u
    form_is true u = refl
    form_is false u = refl

no_atomic : (t : Table) (values : Scalar → List ShadeType) (gives : Scalar → Option ShadeType) (tys : List ShadeType) (r : Option ShadeType) → AreHeld tys → Atomically t values gives tys r → ⊥
no_atomic t values gives tys r held (space, access, id, s, names, e, is) = (subst AreHeld e held).0

-- each operation that moves no parts, at types that it takes
pub leafwise : (t : Table) (op : Op) (tys : List ShadeType) (r : ShadeType) → moves op ≡ false → HasLetters op → AreHeld tys → AreVectors tys → Takes t op tys (Some r) → Leafwise op tys r
leafwise t Add tys r still picked held vectors row = arithmetic Add (record { whole = λ args. refl; part = λ args k. refl }) tys r (λ s a b h k. (h.0, binary_ranged Add a b h.1)) row
leafwise t Subtract tys r still picked held vectors row = arithmetic Subtract (record { whole = λ args. refl; part = λ args k. refl }) tys r (λ s a b h k. (h.0, binary_ranged Subtract a b h.1)) row
leafwise t Multiply tys r still picked held vectors row = arithmetic Multiply (record { whole = λ args. refl; part = λ args k. refl }) tys r (λ s a b h k. (h.0, binary_ranged Multiply a b h.1)) row
leafwise t Divide tys r still picked held vectors row = arithmetic Divide (record { whole = λ args. refl; part = λ args k. refl }) tys r (λ s a b h k. (h.0, binary_ranged Divide a b h.1)) row
leafwise t Remainder tys r still picked held vectors row = arithmetic Remainder (record { whole = λ args. refl; part = λ args k. refl }) tys r (λ s a b h k. (h.0, binary_ranged Remainder a b h.1)) row
leafwise t Negate tys r still picked held vectors row = one_row Negate (record { whole = λ args. refl; part = λ args k. refl }) tys r IsSigned (λ s. s) (λ s fits a h. (h.0, unary_ranged Negate a h.1)) row
leafwise t Sign tys r still picked held vectors row = one_row Sign (record { whole = λ args. refl; part = λ args k. refl }) tys r IsSigned (λ s. s) (λ s fits a h. (h.0, unary_ranged Sign a h.1)) row
leafwise t Complement tys r still picked held vectors row = one_row Complement (record { whole = λ args. refl; part = λ args k. refl }) tys r IsInteger (λ s. s) (λ s fits a h. (h.0, unary_ranged Complement a h.1)) row
leafwise t Abs tys r still picked held vectors row = one_row Abs (record { whole = λ args. refl; part = λ args k. refl }) tys r IsInteger (λ s. s) (λ s fits a h. (h.0, unary_ranged Abs a h.1)) row
leafwise t CountOneBits tys r still picked held vectors row = one_row CountOneBits (record { whole = λ args. refl; part = λ args k. refl }) tys r IsConcrete (λ s. s) (λ s fits a h. (h.0, unary_ranged CountOneBits a h.1)) row
leafwise t CountLeadingZeros tys r still picked held vectors row = one_row CountLeadingZeros (record { whole = λ args. refl; part = λ args k. refl }) tys r IsConcrete (λ s. s) (λ s fits a h. (h.0, unary_ranged CountLeadingZeros a h.1)) row
leafwise t CountTrailingZeros tys r still picked held vectors row = one_row CountTrailingZeros (record { whole = λ args. refl; part = λ args k. refl }) tys r IsConcrete (λ s. s) (λ s fits a h. (h.0, unary_ranged CountTrailingZeros a h.1)) row
leafwise t ReverseBits tys r still picked held vectors row = one_row ReverseBits (record { whole = λ args. refl; part = λ args k. refl }) tys r IsConcrete (λ s. s) (λ s fits a h. (h.0, unary_ranged ReverseBits a h.1)) row
leafwise t FirstLeadingBit tys r still picked held vectors row = one_row FirstLeadingBit (record { whole = λ args. refl; part = λ args k. refl }) tys r IsConcrete (λ s. s) (λ s fits a h. (h.0, unary_ranged FirstLeadingBit a h.1)) row
leafwise t FirstTrailingBit tys r still picked held vectors row = one_row FirstTrailingBit (record { whole = λ args. refl; part = λ args k. refl }) tys r IsConcrete (λ s. s) (λ s fits a h. (h.0, unary_ranged FirstTrailingBit a h.1)) row
leafwise t And tys r still picked held vectors row = two_row And (record { whole = λ args. refl; part = λ args k. refl }) tys r IsAny (λ s. s) (λ s. s) (λ s a b h k. (h.0, binary_ranged And a b h.1)) row
leafwise t Or tys r still picked held vectors row = two_row Or (record { whole = λ args. refl; part = λ args k. refl }) tys r IsAny (λ s. s) (λ s. s) (λ s a b h k. (h.0, binary_ranged Or a b h.1)) row
leafwise t Xor tys r still picked held vectors row = two_row Xor (record { whole = λ args. refl; part = λ args k. refl }) tys r IsInteger (λ s. s) (λ s. s) (λ s a b h k. (h.0, binary_ranged Xor a b h.1)) row
leafwise t Min tys r still picked held vectors row = two_row Min (record { whole = λ args. refl; part = λ args k. refl }) tys r IsInteger (λ s. s) (λ s. s) (λ s a b h k. (h.0, binary_ranged Min a b h.1)) row
leafwise t Max tys r still picked held vectors row = two_row Max (record { whole = λ args. refl; part = λ args k. refl }) tys r IsInteger (λ s. s) (λ s. s) (λ s a b h k. (h.0, binary_ranged Max a b h.1)) row
leafwise t ShiftLeft tys r still picked held vectors row = two_row ShiftLeft (record { whole = λ args. refl; part = λ args k. refl }) tys r IsInteger (λ s. scalar.U32) (λ s. s) (λ s a b h k. (h.0, binary_ranged ShiftLeft a b h.1)) row
leafwise t ShiftRight tys r still picked held vectors row = two_row ShiftRight (record { whole = λ args. refl; part = λ args k. refl }) tys r IsInteger (λ s. scalar.U32) (λ s. s) (λ s a b h k. (h.0, binary_ranged ShiftRight a b h.1)) row
leafwise t Equal tys r still picked held vectors row = two_row Equal (record { whole = λ args. refl; part = λ args k. refl }) tys r IsAny (λ s. s) (λ s. scalar.Bool) (λ s a b h k. (refl, binary_ranged Equal a b h.1)) row
leafwise t NotEqual tys r still picked held vectors row = two_row NotEqual (record { whole = λ args. refl; part = λ args k. refl }) tys r IsAny (λ s. s) (λ s. scalar.Bool) (λ s a b h k. (refl, binary_ranged NotEqual a b h.1)) row
leafwise t Less tys r still picked held vectors row = two_row Less (record { whole = λ args. refl; part = λ args k. refl }) tys r IsInteger (λ s. s) (λ s. scalar.Bool) (λ s a b h k. (refl, binary_ranged Less a b h.1)) row
leafwise t LessEqual tys r still picked held vectors row = two_row LessEqual (record { whole = λ args. refl; part = λ args k. refl }) tys r IsInteger (λ s. s) (λ s. scalar.Bool) (λ s a b h k. (refl, binary_ranged LessEqual a b h.1)) row
leafwise t Greater tys r still picked held vectors row = two_row Greater (record { whole = λ args. refl; part = λ args k. refl }) tys r IsInteger (λ s. s) (λ s. scalar.Bool) (λ s a b h k. (refl, binary_ranged Greater a b h.1)) row
leafwise t GreaterEqual tys r still picked held vectors row = two_row GreaterEqual (record { whole = λ args. refl; part = λ args k. refl }) tys r IsInteger (λ s. s) (λ s. scalar.Bool) (λ s a b h k. (refl, binary_ranged GreaterEqual a b h.1)) row
leafwise t Not tys r still picked held vectors row = one_row Not (record { whole = λ args. refl; part = λ args k. refl }) tys r IsBool (λ s. s) (λ s fits a h. (sym fits, unary_ranged Not a h.1)) row
leafwise t LogicalAnd tys r still picked held vectors row = two_operands LogicalAnd (record { whole = λ args. refl; part = λ args k. refl }) tys r None None None scalar.Bool scalar.Bool scalar.Bool (both None) (λ a b h k. (refl, binary_ranged LogicalAnd a b h.1)) row.0 (some_is r (type.Plain scalar.Bool) row.1)
leafwise t LogicalOr tys r still picked held vectors row = two_operands LogicalOr (record { whole = λ args. refl; part = λ args k. refl }) tys r None None None scalar.Bool scalar.Bool scalar.Bool (both None) (λ a b h k. (refl, binary_ranged LogicalOr a b h.1)) row.0 (some_is r (type.Plain scalar.Bool) row.1)
leafwise t (Convert s) tys r still picked held vectors row = one_row (Convert s) (record { whole = λ args. refl; part = λ args k. refl }) tys r IsAny (λ u. s) (λ u fits a h. (converted_scalar s a, converted_ranged s a)) (None, row.0, tt, row.2, row.3)
leafwise t (Vector n s) tys r still picked held vectors row = vector_leafwise n s tys r row
leafwise t (Make id) tys r still picked held vectors row = absurd (false≢true (sym still))
leafwise t (Bitcast n s) tys r still picked held vectors row = reread n s tys r row
leafwise t AllOf tys r still picked held vectors row = all_leafwise tys r row
leafwise t Any tys r still picked held vectors row = any_leafwise tys r row
leafwise t Select tys r still picked held vectors row = choice tys r row
leafwise t Clamp tys r still picked held vectors row = three_operands Clamp (record { whole = λ args. refl; part = λ args k. refl }) tys r row.0 row.0 row.0 row.0 row.1 row.1 row.1 row.1 (all_three row.0) (λ a b c h k l. (h.0, ternary_ranged Clamp a b c h.1 k.1)) row.3 (some_is r (formed row.0 row.1) row.4)
leafwise t Dot tys r still picked held vectors row = dot_leafwise tys r vectors row
leafwise t ExtractBits tys r still picked held vectors row = three_operands ExtractBits (record { whole = λ args. refl; part = λ args k. refl }) tys r row.0 row.0 None None row.1 scalar.U32 scalar.U32 row.1 (first_one row.0) (λ a b c h k l. (h.0, ternary_ranged ExtractBits a b c h.1 k.1)) row.3 (some_is r (formed row.0 row.1) row.4)
leafwise t InsertBits tys r still picked held vectors row = four_operands InsertBits (record { whole = λ args. refl; part = λ args k. refl }) tys r row.0 row.0 row.0 None None row.1 row.1 scalar.U32 scalar.U32 row.1 (two_of_four row.0) (λ a b c d h k l m. (h.0, quaternary_ranged InsertBits a b c d h.1)) row.3 (some_is r (formed row.0 row.1) row.4)
leafwise t (Member k) tys r still picked held vectors row = absurd (false≢true (sym still))
leafwise t Index tys r still picked held vectors row = absurd (false≢true (sym still))
leafwise t (Swizzle n letters) tys r still picked held vectors row = swizzle_leafwise n letters tys r picked row
leafwise t AtomicLoad tys r still picked held vectors row = absurd (no_atomic t _ _ tys (Some r) held row)
leafwise t AtomicStore tys r still picked held vectors row = absurd (no_atomic t _ _ tys (Some r) held row)
leafwise t AtomicAdd tys r still picked held vectors row = absurd (no_atomic t _ _ tys (Some r) held row)
leafwise t AtomicSub tys r still picked held vectors row = absurd (no_atomic t _ _ tys (Some r) held row)
leafwise t AtomicMax tys r still picked held vectors row = absurd (no_atomic t _ _ tys (Some r) held row)
leafwise t AtomicMin tys r still picked held vectors row = absurd (no_atomic t _ _ tys (Some r) held row)
leafwise t AtomicAnd tys r still picked held vectors row = absurd (no_atomic t _ _ tys (Some r) held row)
leafwise t AtomicOr tys r still picked held vectors row = absurd (no_atomic t _ _ tys (Some r) held row)
leafwise t AtomicXor tys r still picked held vectors row = absurd (no_atomic t _ _ tys (Some r) held row)
leafwise t AtomicExchange tys r still picked held vectors row = absurd (no_atomic t _ _ tys (Some r) held row)
leafwise t AtomicCompareExchangeWeak tys r still picked held vectors row = absurd (no_atomic t _ _ tys (Some r) held row)
