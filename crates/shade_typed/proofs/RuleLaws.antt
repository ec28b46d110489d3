-- An operation takes what its rule takes.
use Rattle.std.proofs.Common.{◌≡◌, ◌≢◌, refl, sym, ap, subst, ◌∙◌, ℕ, zero, suc, ◌≤◌, Bool, true, false, List, [], ◌∷◌, Option, Some, None, inl, inr, arith}
use Rattle.std.specs.Prelude.{◌↔◌, ◌==◌, if◌then◌else◌, All, IsTrue}
use Rattle.std.proofs.lemmas.Bool.Decides.{Decides-eqb}
use Rattle.std.proofs.lemmas.List.Elements.{All-head}
use Rattle.shade_values.specs.declared.types.Scalar.{Scalar}
use Rattle.shade_values.specs.declared.types.Scalar.TheVariants as scalar
use Rattle.shade_values.specs.declared.types.ShadeType.{ShadeType}
use Rattle.shade_values.specs.declared.types.ShadeType.TheVariants as type
use Rattle.shade_values.specs.declared.op.Op.{Op}
use Rattle.shade_values.specs.declared.op.Op.TheVariants as op
use Rattle.shade_values.specs.Sound.{IsOf, IsSound}
use Rattle.shade_values.specs.Table.{Table}
use Rattle.shade_values.specs.Takes.{Arithmetic, Reread, Row, Takes, VectorOf, formed, sized, tested, truth_of}
use Rattle.shade_overload.specs.Rows.{IsKnown, IsRow}
use Rattle.shade_overload.specs.declared.builtin.Builtin.{Builtin}
use Rattle.shade_overload.specs.declared.builtin.Builtin.TheVariants as builtin
use Rattle.shade_overload.specs.declared.overload.Overload.{Overload}
use Rattle.shade_core.specs.Atomics.{is_atomic}
use Rattle.shade_core.specs.Types.{IsConstructible, IsHeld}
use Rattle.shade_typed.specs.declared.rule.Rule.{Rule}
use Rattle.shade_typed.specs.declared.rule.Rule.TheVariants as rule
use Rattle.shade_typed.specs.Rules.{RuleTakes, bitcast_rule, function_of, operator_of, other_rule, row_or, rule_of, vector_rule}
use Rattle.shade_typed.specs.Simple.{is_simple}
use Rattle.shade_typed.proofs.AnswerLaws.{some_same}
use Rattle.shade_typed.proofs.RowLaws.{held_known, all_known, all_of}

true_false : true ≡ false → ⊥
true_false e = cc

-- an operation of values, which a rule takes alike
abbrev Alike : Table → Op → Rule → List ShadeType → ShadeType → Type 0
Alike t o r args ty = ((is_atomic o ≡ false) × Takes t o args (Some ty)) ↔ RuleTakes t r args ty

abbrev row : Op → List ShadeType → Option ShadeType → Overload
row o args result = record { op = Some o; params = args; result = result }

formed_simple : (f : Option ℕ) (s : Scalar) → IsTrue (is_simple (formed f s))
formed_simple None s = refl
formed_simple (Some n) s = refl

simple_as : (ty given : ShadeType) → Some ty ≡ Some given → IsTrue (is_simple given) → IsTrue (is_simple ty)
simple_as ty given e h = subst (λ x. IsTrue (is_simple x)) (sym (some_same ty given e)) h

-- an operation whose row is just what it takes
direct : (t : Table) (o : Op) (b : Builtin) (args : List ShadeType) (ty : ShadeType) → is_atomic o ≡ false → ((v : Overload) → IsRow t b v → Takes t o v.params v.result) → (Takes t o args (Some ty) → IsRow t b (row o args (Some ty))) → (Takes t o args (Some ty) → IsTrue (is_simple ty))
    → Alike t o (rule.Row b) args ty
direct t o b args ty values takes is simple = (
  λ h. (record { row = row o args (Some ty); is = is h.1; params = refl; gives = refl }, simple h.1),
  λ w. (values, subst (λ r. Takes t o args r) w.0.gives (subst (λ ps. Takes t o ps w.0.row.result) w.0.params (takes w.0.row w.0.is))),
)

of_row : (Fits : Scalar → Type 0) (params : Option ℕ → Scalar → List ShadeType) (gives : Option ℕ → Scalar → ShadeType) → ((f : Option ℕ) (s : Scalar) → IsTrue (is_simple (gives f s))) → (args : List ShadeType) (ty : ShadeType) → Row Fits params gives args (Some ty) → IsTrue (is_simple ty)
of_row Fits params gives simple args ty h = simple_as ty (gives h.0 h.1) h.4 (simple h.0 h.1)

of_arithmetic : (args : List ShadeType) (ty : ShadeType) → Arithmetic args (Some ty) → IsTrue (is_simple ty)
of_arithmetic args ty (inl h) = of_row _ _ formed formed_simple args ty h
of_arithmetic args ty (inr h) = simple_as ty (type.Vector h.0 h.1) h.4 refl

of_tested : (f : Option ℕ) (s : Scalar) → IsTrue (is_simple (tested f s))
of_tested f s = formed_simple f scalar.Bool

-- ---- vectors and bits

vector_held : (t : Table) (n : ℕ) (s : Scalar) → IsConstructible t (type.Vector n s) → s ≢ scalar.Abstract
vector_held t n s h e = held_known t (type.Vector n s) h (ap Some e)

vector_gives : (t : Table) (n : ℕ) (s : Scalar) (args : List ShadeType) (ty : ShadeType) → IsHeld t ty → VectorOf n s args (Some ty) → s ≢ scalar.Abstract
vector_gives t n s args ty held h = vector_held t n s (subst (IsConstructible t) (some_same ty (type.Vector n s) h.2) held.constructible)

not_equal : (a b : ℕ) → (a ≡ b → ⊥) → (a == b) ≡ false
not_equal a b none = by_test (a == b) refl
  where
    by_test : (r : Bool) → (a == b) ≡ r → r ≡ false
    by_test false e = refl
    by_test true e = absurd (none ((Decides-eqb a b).0 e))

-- no vector has more than four parts
vector_past : (n : ℕ) (s : Scalar) → 5 ≤ n → vector_rule n s ≡ rule.Never
vector_past n s many =
    ap (λ b. if b then rule.Row (builtin.Vec2 (Some (type.Plain s))) else if n == 3 then rule.Row (builtin.Vec3 (Some (type.Plain s))) else if n == 4 then rule.Row (builtin.Vec4 (Some (type.Plain s))) else rule.Never)
    (not_equal n 2 (λ e. omega (arith, e, many)))
    ∙ (ap (λ b. if b then rule.Row (builtin.Vec3 (Some (type.Plain s))) else if n == 4 then rule.Row (builtin.Vec4 (Some (type.Plain s))) else rule.Never) (not_equal n 3 (λ e. omega (arith, e, many)))
    ∙ ap (λ b. if b then rule.Row (builtin.Vec4 (Some (type.Plain s))) else rule.Never) (not_equal n 4 (λ e. omega (arith, e, many))))

vector_alike : (t : Table) (n : ℕ) (s : Scalar) (args : List ShadeType) (ty : ShadeType) → All IsKnown args → IsHeld t ty → Alike t (op.Vector n s) (vector_rule n s) args ty
vector_alike t zero s args ty known held = (λ h. absurd (omega (arith, h.1.0)), λ w. absurd w)
vector_alike t (suc zero) s args ty known held = (λ h. absurd (omega (arith, h.1.0)), λ w. absurd w)
vector_alike t (suc (suc zero)) s args ty known held = direct t (op.Vector 2 s) (builtin.Vec2 (Some (type.Plain s))) args ty refl (λ v r. r.1.1) (λ h. (vector_gives t 2 s args ty held h, (refl, h), known)) (λ h. simple_as ty (type.Vector 2 s) h.2 refl)
vector_alike t (suc (suc (suc zero))) s args ty known held = direct t (op.Vector 3 s) (builtin.Vec3 (Some (type.Plain s))) args ty refl (λ v r. r.1.1) (λ h. (vector_gives t 3 s args ty held h, (refl, h), known)) (λ h. simple_as ty (type.Vector 3 s) h.2 refl)
vector_alike t (suc (suc (suc (suc zero)))) s args ty known held = direct t (op.Vector 4 s) (builtin.Vec4 (Some (type.Plain s))) args ty refl (λ v r. r.1.1) (λ h. (vector_gives t 4 s args ty held h, (refl, h), known)) (λ h. simple_as ty (type.Vector 4 s) h.2 refl)
vector_alike t (suc (suc (suc (suc (suc n))))) s args ty known held = (λ h. absurd (omega (arith, h.1.1)), λ w. absurd (subst (λ r. RuleTakes t r args ty) (vector_past (suc (suc (suc (suc (suc n))))) s (omega arith)) w))

sized_simple : (b : Bool) (n : ℕ) (s : Scalar) → IsTrue (is_simple (if b then type.Plain s else type.Vector n s))
sized_simple true n s = refl
sized_simple false n s = refl

reread_simple : (n : ℕ) (s : Scalar) (args : List ShadeType) (ty : ShadeType) → Reread n s args (Some ty) → IsTrue (is_simple ty)
reread_simple n s args ty h = simple_as ty (sized n s) h.4 (sized_simple (n == 1) n s)

-- the one vector that is read anew
one_vector : (t : Table) (n : ℕ) (x : Scalar) (args : List ShadeType) → All (IsOf t) args → args ≡ type.Vector n x ∷ [] → (2 ≤ n) × (n ≤ 4)
one_vector t n x args of e = All-head (IsOf t) (type.Vector n x) [] (subst (All (IsOf t)) e of)

many_parts : (t : Table) (n : ℕ) (s : Scalar) (args : List ShadeType) (ty : ShadeType) → (n == 1) ≡ false → All (IsOf t) args → Alike t (op.Bitcast n s) (bitcast_rule n s) args ty
many_parts t n s args ty other of =
    let vector : (x : Scalar) → sized n x ≡ type.Vector n x = λ x. ap (λ b. if b then type.Plain x else type.Vector n x) other in
    let is : bitcast_rule n s ≡ rule.Row (builtin.Bitcast (Some (type.Vector n s))) = ap (λ b. if b then rule.Row (builtin.Bitcast (Some (type.Plain s))) else rule.Row (builtin.Bitcast (Some (type.Vector n s)))) other in
    subst (λ r. Alike t (op.Bitcast n s) r args ty) (sym is) (direct t (op.Bitcast n s) (builtin.Bitcast (Some (type.Vector n s))) args ty refl (λ v r. r.2.1)
    (λ h. (let few = one_vector t n h.0 args of (h.3 ∙ ap (λ x. x ∷ []) (vector h.0)) in (few.0, few.1, (refl, h)))) (reread_simple n s args ty))

bitcast_alike : (t : Table) (n : ℕ) (s : Scalar) (args : List ShadeType) (ty : ShadeType) → All (IsOf t) args → Alike t (op.Bitcast n s) (bitcast_rule n s) args ty
bitcast_alike t zero s args ty of = many_parts t 0 s args ty refl of
bitcast_alike t (suc zero) s args ty of =
    direct t (op.Bitcast 1 s) (builtin.Bitcast (Some (type.Plain s))) args ty refl (λ v r. r.1) (λ h. (refl, h)) (reread_simple 1 s args ty)
bitcast_alike t (suc (suc n)) s args ty of = many_parts t (suc (suc n)) s args ty (not_equal (suc (suc n)) 1 (λ e. omega (arith, e))) of

-- ---- conversions

convert_alike : (t : Table) (s : Scalar) (args : List ShadeType) (ty : ShadeType) → All IsKnown args → IsHeld t ty → Alike t (op.Convert s) (rule_of (op.Convert s)) args ty
convert_alike t scalar.I32 args ty known held = direct t (op.Convert scalar.I32) builtin.I32 args ty refl (λ v r. r.0.1) (λ h. ((refl, h), known)) (λ h. simple_as ty (type.Plain scalar.I32) h.3 refl)
convert_alike t scalar.U32 args ty known held = direct t (op.Convert scalar.U32) builtin.U32 args ty refl (λ v r. r.0.1) (λ h. ((refl, h), known)) (λ h. simple_as ty (type.Plain scalar.U32) h.3 refl)
convert_alike t scalar.Bool args ty known held = direct t (op.Convert scalar.Bool) builtin.Bool args ty refl (λ v r. r.0.1) (λ h. ((refl, h), known)) (λ h. simple_as ty (type.Plain scalar.Bool) h.3 refl)
convert_alike t scalar.Abstract args ty known held = (λ h. absurd (h.1.1 refl), λ w. absurd w)

-- ---- the rules

pub alike : (t : Table) (o : Op) (args : List ShadeType) (ty : ShadeType) → IsSound t → All (IsHeld t) args → IsHeld t ty → Alike t o (rule_of o) args ty
alike t op.Add args ty sound held gives = direct t op.Add builtin.Add args ty refl (λ v r. r.1) (λ h. (refl, h)) (of_arithmetic args ty)
alike t op.Subtract args ty sound held gives = direct t op.Subtract builtin.Subtract args ty refl (λ v r. r.1) (λ h. (refl, h)) (of_arithmetic args ty)
alike t op.Multiply args ty sound held gives = direct t op.Multiply builtin.Multiply args ty refl (λ v r. r.1) (λ h. (refl, h)) (of_arithmetic args ty)
alike t op.Divide args ty sound held gives = direct t op.Divide builtin.Divide args ty refl (λ v r. r.1) (λ h. (refl, h)) (of_arithmetic args ty)
alike t op.Remainder args ty sound held gives = direct t op.Remainder builtin.Remainder args ty refl (λ v r. r.1) (λ h. (refl, h)) (of_arithmetic args ty)
alike t op.Negate args ty sound held gives = direct t op.Negate builtin.Negate args ty refl (λ v r. r.1) (λ h. (refl, h)) (of_row _ _ formed formed_simple args ty)
alike t op.Complement args ty sound held gives = direct t op.Complement builtin.Complement args ty refl (λ v r. r.1) (λ h. (refl, h)) (of_row _ _ formed formed_simple args ty)
alike t op.And args ty sound held gives = direct t op.And builtin.And args ty refl (λ v r. r.1) (λ h. (refl, h)) (of_row _ _ formed formed_simple args ty)
alike t op.Or args ty sound held gives = direct t op.Or builtin.Or args ty refl (λ v r. r.1) (λ h. (refl, h)) (of_row _ _ formed formed_simple args ty)
alike t op.Xor args ty sound held gives = direct t op.Xor builtin.Xor args ty refl (λ v r. r.1) (λ h. (refl, h)) (of_row _ _ formed formed_simple args ty)
alike t op.ShiftLeft args ty sound held gives = direct t op.ShiftLeft builtin.ShiftLeft args ty refl (λ v r. r.1) (λ h. (refl, h)) (of_row _ _ formed formed_simple args ty)
alike t op.ShiftRight args ty sound held gives = direct t op.ShiftRight builtin.ShiftRight args ty refl (λ v r. r.1) (λ h. (refl, h)) (of_row _ _ formed formed_simple args ty)
alike t op.Equal args ty sound held gives = direct t op.Equal builtin.Equal args ty refl (λ v r. r.1) (λ h. (refl, h)) (of_row _ _ tested of_tested args ty)
alike t op.NotEqual args ty sound held gives = direct t op.NotEqual builtin.NotEqual args ty refl (λ v r. r.1) (λ h. (refl, h)) (of_row _ _ tested of_tested args ty)
alike t op.Less args ty sound held gives = direct t op.Less builtin.Less args ty refl (λ v r. r.1) (λ h. (refl, h)) (of_row _ _ tested of_tested args ty)
alike t op.LessEqual args ty sound held gives = direct t op.LessEqual builtin.LessEqual args ty refl (λ v r. r.1) (λ h. (refl, h)) (of_row _ _ tested of_tested args ty)
alike t op.Greater args ty sound held gives = direct t op.Greater builtin.Greater args ty refl (λ v r. r.1) (λ h. (refl, h)) (of_row _ _ tested of_tested args ty)
alike t op.GreaterEqual args ty sound held gives = direct t op.GreaterEqual builtin.GreaterEqual args ty refl (λ v r. r.1) (λ h. (refl, h)) (of_row _ _ tested of_tested args ty)
alike t op.Not args ty sound held gives = direct t op.Not builtin.Not args ty refl (λ v r. r.1) (λ h. (refl, h)) (of_row _ _ formed formed_simple args ty)
alike t op.LogicalAnd args ty sound held gives = direct t op.LogicalAnd builtin.LogicalAnd args ty refl (λ v r. r.1) (λ h. (refl, h)) (λ h. simple_as ty (type.Plain scalar.Bool) h.1 refl)
alike t op.LogicalOr args ty sound held gives = direct t op.LogicalOr builtin.LogicalOr args ty refl (λ v r. r.1) (λ h. (refl, h)) (λ h. simple_as ty (type.Plain scalar.Bool) h.1 refl)
alike t (op.Convert s) args ty sound held gives = convert_alike t s args ty (all_known t args held) gives
alike t (op.Vector n s) args ty sound held gives = vector_alike t n s args ty (all_known t args held) gives
alike t (op.Make id) args ty sound held gives = (λ h. h.1, λ w. (refl, w))
alike t (op.Bitcast n s) args ty sound held gives = bitcast_alike t n s args ty (all_of t args sound held)
alike t op.All args ty sound held gives = direct t op.All builtin.All args ty refl (λ v r. r.1) (λ h. (refl, h)) (of_row _ _ truth_of (λ f s. refl) args ty)
alike t op.Any args ty sound held gives = direct t op.Any builtin.Any args ty refl (λ v r. r.1) (λ h. (refl, h)) (of_row _ _ truth_of (λ f s. refl) args ty)
alike t op.Select args ty sound held gives = direct t op.Select builtin.Select args ty refl (λ v r. r.1) (λ h. (refl, h)) (λ h. simple_as ty (formed h.0 h.2) h.5 (formed_simple h.0 h.2))
alike t op.Abs args ty sound held gives = direct t op.Abs builtin.Abs args ty refl (λ v r. r.1) (λ h. (refl, h)) (of_row _ _ formed formed_simple args ty)
alike t op.Sign args ty sound held gives = direct t op.Sign builtin.Sign args ty refl (λ v r. r.1) (λ h. (refl, h)) (of_row _ _ formed formed_simple args ty)
alike t op.Min args ty sound held gives = direct t op.Min builtin.Min args ty refl (λ v r. r.1) (λ h. (refl, h)) (of_row _ _ formed formed_simple args ty)
alike t op.Max args ty sound held gives = direct t op.Max builtin.Max args ty refl (λ v r. r.1) (λ h. (refl, h)) (of_row _ _ formed formed_simple args ty)
alike t op.Clamp args ty sound held gives = direct t op.Clamp builtin.Clamp args ty refl (λ v r. r.1) (λ h. (refl, h)) (of_row _ _ formed formed_simple args ty)
alike t op.Dot args ty sound held gives = direct t op.Dot builtin.Dot args ty refl (λ v r. r.1) (λ h. (refl, h)) (λ h. simple_as ty (type.Plain h.1) h.4 refl)
alike t op.CountOneBits args ty sound held gives = direct t op.CountOneBits builtin.CountOneBits args ty refl (λ v r. r.1) (λ h. (refl, h)) (of_row _ _ formed formed_simple args ty)
alike t op.CountLeadingZeros args ty sound held gives = direct t op.CountLeadingZeros builtin.CountLeadingZeros args ty refl (λ v r. r.1) (λ h. (refl, h)) (of_row _ _ formed formed_simple args ty)
alike t op.CountTrailingZeros args ty sound held gives = direct t op.CountTrailingZeros builtin.CountTrailingZeros args ty refl (λ v r. r.1) (λ h. (refl, h)) (of_row _ _ formed formed_simple args ty)
alike t op.ReverseBits args ty sound held gives = direct t op.ReverseBits builtin.ReverseBits args ty refl (λ v r. r.1) (λ h. (refl, h)) (of_row _ _ formed formed_simple args ty)
alike t op.FirstLeadingBit args ty sound held gives = direct t op.FirstLeadingBit builtin.FirstLeadingBit args ty refl (λ v r. r.1) (λ h. (refl, h)) (of_row _ _ formed formed_simple args ty)
alike t op.FirstTrailingBit args ty sound held gives = direct t op.FirstTrailingBit builtin.FirstTrailingBit args ty refl (λ v r. r.1) (λ h. (refl, h)) (of_row _ _ formed formed_simple args ty)
alike t op.ExtractBits args ty sound held gives = direct t op.ExtractBits builtin.ExtractBits args ty refl (λ v r. r.1) (λ h. (refl, h)) (of_row _ _ formed formed_simple args ty)
alike t op.InsertBits args ty sound held gives = direct t op.InsertBits builtin.InsertBits args ty refl (λ v r. r.1) (λ h. (refl, h)) (of_row _ _ formed formed_simple args ty)
alike t (op.Member k) args ty sound held gives = (λ h. h.1, λ w. (refl, w))
alike t op.Index args ty sound held gives = (λ h. h.1, λ w. (refl, w))
alike t (op.Swizzle n letters) args ty sound held gives = (λ h. h.1, λ w. (refl, w))
alike t op.AtomicLoad args ty sound held gives = (λ h. absurd (true_false h.0), λ w. absurd w)
alike t op.AtomicStore args ty sound held gives = (λ h. absurd (true_false h.0), λ w. absurd w)
alike t op.AtomicAdd args ty sound held gives = (λ h. absurd (true_false h.0), λ w. absurd w)
alike t op.AtomicSub args ty sound held gives = (λ h. absurd (true_false h.0), λ w. absurd w)
alike t op.AtomicMax args ty sound held gives = (λ h. absurd (true_false h.0), λ w. absurd w)
alike t op.AtomicMin args ty sound held gives = (λ h. absurd (true_false h.0), λ w. absurd w)
alike t op.AtomicAnd args ty sound held gives = (λ h. absurd (true_false h.0), λ w. absurd w)
alike t op.AtomicOr args ty sound held gives = (λ h. absurd (true_false h.0), λ w. absurd w)
alike t op.AtomicXor args ty sound held gives = (λ h. absurd (true_false h.0), λ w. absurd w)
alike t op.AtomicExchange args ty sound held gives = (λ h. absurd (true_false h.0), λ w. absurd w)
alike t op.AtomicCompareExchangeWeak args ty sound held gives = (λ h. absurd (true_false h.0), λ w. absurd w)

-- ---- which rule an operation has

pub of_operator : (o : Op) (b : Builtin) → operator_of o ≡ Some b → rule.Row b ≡ rule_of o
of_operator o b e = sym (ap (λ x. row_or x (row_or (function_of o) (other_rule o))) e)

pub of_function : (o : Op) (b : Builtin) → operator_of o ≡ None → function_of o ≡ Some b → rule.Row b ≡ rule_of o
of_function o b none e = sym (ap (λ x. row_or x (row_or (function_of o) (other_rule o))) none ∙ ap (λ x. row_or x (other_rule o)) e)

pub of_other : (o : Op) → operator_of o ≡ None → function_of o ≡ None → other_rule o ≡ rule_of o
of_other o none no_function = sym (ap (λ x. row_or x (row_or (function_of o) (other_rule o))) none ∙ ap (λ x. row_or x (other_rule o)) no_function)
