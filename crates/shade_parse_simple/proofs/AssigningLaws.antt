-- `=` and the operators that assign: one token, or the three of `>>=`, each directly behind the one before.
use Rattle.std.proofs.Common.{◌≡◌, refl, sym, ap, ◌∙◌, subst, ℕ, ◌+◌, ◌<◌, ◌≤◌, ◌⊎◌, inl, inr, Option, None, Some, List, [], ◌∷◌, length, drop, arith, slice_get}
use Rattle.shade_base.specs.declared.place.Place.{Place}
use Rattle.shade_ast.specs.declared.lexeme.Sign.{Sign}
use Rattle.shade_ast.specs.declared.lexeme.Sign.TheVariants as sign
use Rattle.shade_ast.specs.declared.stmt.OpAssign.{OpAssign}
use Rattle.shade_ast.specs.declared.stmt.OpAssign.TheVariants as operator
use Rattle.shade_ast.specs.Lexemes.{Lexeme, Mark, Adjacent}
use Rattle.shade_ast.specs.Statements.{Assigns, add_assigns, subtract_assigns, multiply_assigns, divide_assigns, remainder_assigns, bit_and_assigns, bit_or_assigns, bit_xor_assigns, shift_left_assigns, shift_right_assigns}
use Rattle.shade_ast.specs.Reads.{Near, Reads, Fails, rank, rank_of}
use Rattle.shade_ast.proofs.Stages.{Stage, Closes, near_get, begin, change, single, single_fails, closes_end, closes_after}
use Rattle.shade_ast.specs.Chains.{After, Ends, Placed}
use Rattle.shade_ast.proofs.Placed.{some_place, lexeme_place}
use Rattle.shade_cursor.specs.Operators.{found, Behind}
use Rattle.shade_parse_expr.proofs.Ranks.{after_place}
use Rattle.shade_cursor.proofs.Tokens.{some_one, Told, told, untold}
use Rattle.shade_parse_simple.specs.Updates.{assigns_of, Assigning, plainly, by_operator}
use Rattle.shade_parse_simple.proofs.Faulty.{reads_to}
use Rattle.shade_parse_simple.proofs.Steps.{Stops, Avoids, end_stops, next, next_fails, token_or, ended}

-- a mark that follows directly on another
pub record PlacedBehind (s : Sign) (first : Place) (p : Place) (ts rest : List Lexeme) : Type 0 where
  pub is : ts ≡ Mark s p ∷ rest
  pub next : Adjacent first p

module _ (s : Sign) (first : Place) where
  pub behind_closes : Closes (PlacedBehind s first)
  behind_closes = record { tree = after_place first; more = Mark s (after_place first) ∷ []; closed = λ w. record { is = refl; next = refl } }

  module _ (n : ℕ) (tokens : List Lexeme) (from : ℕ) where
    pub behind_reads : (p : Place) → slice_get tokens from ≡ Some (Mark s p) → Adjacent first p → Reads (PlacedBehind s first) n tokens from p (from + 1)
    behind_reads p is next = single (PlacedBehind s first) n tokens from p (Mark s p) is (λ w. record { is = refl; next = next }) same
      where
        same : (q : Place) (ys w : List Lexeme) → PlacedBehind s first q (Mark s p ∷ ys) w → (q ≡ p) × (ys ≡ w)
        same q ys w g =
            let e : Mark s p ∷ ys ≡ Mark s q ∷ w = g.is in
            let t : Mark s q ≡ Mark s p = cc in
            let l : ys ≡ w = cc in
            (ap lexeme_place t, l)

    pub behind_fails : from ≤ length tokens → (Behind tokens from s first → ⊥) → Fails (PlacedBehind s first) n tokens from from
    behind_fails h never = single_fails (PlacedBehind s first) n tokens from h behind_closes (λ p ys w stop g near. never (p, near_get tokens from (Mark s p) w (subst (λ x. Near x (drop from tokens)) g.is near), g.next))

pub behind_stops : {R : Type 0} {C : Place → R → List Lexeme → List Lexeme → Type 0} (s : Sign) (first : Place) (n m : ℕ) → ((p : Place) → m < rank_of (Mark s p)) → Stops n m (After (PlacedBehind s first) C)
behind_stops s first n m low r zs w stop a = subst (λ x. m < rank x) (sym a.phrase.is) (low a.part)

abbrev pub Signed : Type 0
Signed = Option OpAssign × Place

abbrev pub plain_sign : Place → Signed
plain_sign p = (None, p)

abbrev pub by_sign : OpAssign → Place → Signed
by_sign o p = (Some o, p)

-- one token
pub record OneSign (r : Signed) (ts w : List Lexeme) : Type 0 where
  pub token : Lexeme
  pub split : ts ≡ token ∷ w
  pub tells : assigns_of token ≡ Some r

-- three tokens, of which the first was read, or two
abbrev ShiftLast : Place → Place → Signed → List Lexeme → List Lexeme → Type 0
ShiftLast p q = After (PlacedBehind sign.Equal q) (λ s. Ends (by_sign operator.ShiftRight p))

abbrev ShiftRest : Place → Signed → List Lexeme → List Lexeme → Type 0
ShiftRest p = After (PlacedBehind sign.Greater p) (ShiftLast p)

abbrev pub Shifts : Signed → List Lexeme → List Lexeme → Type 0
Shifts = After (Placed (Mark sign.Greater)) ShiftRest

operator_there : (o : OpAssign) (p : Place) (ts w : List Lexeme) → Assigns o p ts w → Shifts (by_sign o p) ts w ⊎ OneSign (by_sign o p) ts w
operator_there o p ts w (add_assigns q) = inr (record { token = Mark sign.PlusEqual p; split = refl; tells = refl })
operator_there o p ts w (subtract_assigns q) = inr (record { token = Mark sign.MinusEqual p; split = refl; tells = refl })
operator_there o p ts w (multiply_assigns q) = inr (record { token = Mark sign.StarEqual p; split = refl; tells = refl })
operator_there o p ts w (divide_assigns q) = inr (record { token = Mark sign.SlashEqual p; split = refl; tells = refl })
operator_there o p ts w (remainder_assigns q) = inr (record { token = Mark sign.PercentEqual p; split = refl; tells = refl })
operator_there o p ts w (bit_and_assigns q) = inr (record { token = Mark sign.AmpersandEqual p; split = refl; tells = refl })
operator_there o p ts w (bit_or_assigns q) = inr (record { token = Mark sign.BarEqual p; split = refl; tells = refl })
operator_there o p ts w (bit_xor_assigns q) = inr (record { token = Mark sign.CaretEqual p; split = refl; tells = refl })
operator_there o p ts w (shift_left_assigns q) = inr (record { token = Mark sign.ShiftLeftEqual p; split = refl; tells = refl })
operator_there o p ts w (shift_right_assigns p2 q s a b) = inl
    (record {
      part = p;
      others = Mark sign.Greater q ∷ (Mark sign.Equal s ∷ w);
      phrase = record { is = refl };
      rest = record {
        part = q;
        others = Mark sign.Equal s ∷ w;
        phrase = record { is = refl; next = a };
        rest = record
            { part = s; others = w; phrase = record { is = refl; next = b }; rest = record { same = refl; left = refl } };
      };
    })

pub assigning_there : (r : Signed) (ts w : List Lexeme) → Assigning r ts w → Shifts r ts w ⊎ OneSign r ts w
assigning_there r ts w (plainly p) = inr (record { token = Mark sign.Equal p; split = refl; tells = refl })
assigning_there r ts w (by_operator {o = o} {p = p} g) = operator_there o p ts w g

shift_back : (r : Signed) (ts w : List Lexeme) → Shifts r ts w → Assigning r ts w
shift_back r ts w a =
    let b = a.rest in
    let c = b.rest in
    let spelled : ts ≡ Mark sign.Greater a.part ∷ (Mark sign.Greater b.part ∷ (Mark sign.Equal c.part ∷ c.others)) = a.phrase.is ∙ ap (λ l. Mark sign.Greater a.part ∷ l) (b.phrase.is ∙ ap (λ l. Mark sign.Greater b.part ∷ l) c.phrase.is) in
    subst (λ x. Assigning x ts w) (sym c.rest.same)
    (subst (λ l. Assigning (by_sign operator.ShiftRight a.part) ts l) c.rest.left
    (subst (λ l. Assigning (by_sign operator.ShiftRight a.part) l c.others) (sym spelled) (by_operator (shift_right_assigns a.part b.part c.part b.phrase.next c.phrase.next))))

one_back : (t : Lexeme) (r : Signed) (w : List Lexeme) → assigns_of t ≡ Some r → Assigning r (t ∷ w) w
one_back (Mark sign.Equal p) r w e = subst (λ x. Assigning x (Mark sign.Equal p ∷ w) w) (some_one (plain_sign p) r e) (plainly p)
one_back (Mark sign.PlusEqual p) r w e = subst (λ x. Assigning x (Mark sign.PlusEqual p ∷ w) w) (some_one (by_sign operator.Add p) r e) (by_operator (add_assigns p))
one_back (Mark sign.MinusEqual p) r w e = subst (λ x. Assigning x (Mark sign.MinusEqual p ∷ w) w) (some_one (by_sign operator.Subtract p) r e) (by_operator (subtract_assigns p))
one_back (Mark sign.StarEqual p) r w e = subst (λ x. Assigning x (Mark sign.StarEqual p ∷ w) w) (some_one (by_sign operator.Multiply p) r e) (by_operator (multiply_assigns p))
one_back (Mark sign.SlashEqual p) r w e = subst (λ x. Assigning x (Mark sign.SlashEqual p ∷ w) w) (some_one (by_sign operator.Divide p) r e) (by_operator (divide_assigns p))
one_back (Mark sign.PercentEqual p) r w e = subst (λ x. Assigning x (Mark sign.PercentEqual p ∷ w) w) (some_one (by_sign operator.Remainder p) r e) (by_operator (remainder_assigns p))
one_back (Mark sign.AmpersandEqual p) r w e = subst (λ x. Assigning x (Mark sign.AmpersandEqual p ∷ w) w) (some_one (by_sign operator.BitAnd p) r e) (by_operator (bit_and_assigns p))
one_back (Mark sign.BarEqual p) r w e = subst (λ x. Assigning x (Mark sign.BarEqual p ∷ w) w) (some_one (by_sign operator.BitOr p) r e) (by_operator (bit_or_assigns p))
one_back (Mark sign.CaretEqual p) r w e = subst (λ x. Assigning x (Mark sign.CaretEqual p ∷ w) w) (some_one (by_sign operator.BitXor p) r e) (by_operator (bit_xor_assigns p))
one_back (Mark sign.ShiftLeftEqual p) r w e = subst (λ x. Assigning x (Mark sign.ShiftLeftEqual p ∷ w) w) (some_one (by_sign operator.ShiftLeft p) r e) (by_operator (shift_left_assigns p))
one_back _ r w e = absurd (let bad : None ≡ Some r = e in cc)

-- none goes on with an operand before it
pub sign_high : (t : Lexeme) (r : Signed) → assigns_of t ≡ Some r → 2 < rank_of t
sign_high (Mark sign.Equal p) r e = omega arith
sign_high (Mark sign.PlusEqual p) r e = omega arith
sign_high (Mark sign.MinusEqual p) r e = omega arith
sign_high (Mark sign.StarEqual p) r e = omega arith
sign_high (Mark sign.SlashEqual p) r e = omega arith
sign_high (Mark sign.PercentEqual p) r e = omega arith
sign_high (Mark sign.AmpersandEqual p) r e = omega arith
sign_high (Mark sign.BarEqual p) r e = omega arith
sign_high (Mark sign.CaretEqual p) r e = omega arith
sign_high (Mark sign.ShiftLeftEqual p) r e = omega arith
sign_high _ r e = absurd (let bad : None ≡ Some r = e in cc)

pub assigning_closes : Closes Assigning
assigning_closes = record { tree = plain_sign some_place; more = Mark sign.Equal some_place ∷ []; closed = λ w. plainly some_place }

-- a token that assigns by itself is all that is read
one_only : (t : Lexeme) (r : Signed) → assigns_of t ≡ Some r → (s : Signed) (ys w : List Lexeme) → Assigning s (t ∷ ys) w → (s ≡ r) × (ys ≡ w)
one_only t r tells s ys w g =
    elim (assigning_there s (t ∷ ys) w g) [
      | inl a ↦
          (let e : t ∷ ys ≡ Mark sign.Greater a.part ∷ a.others = a.phrase.is in
          let same : t ≡ Mark sign.Greater a.part = cc in
          let bad : Some r ≡ None = sym tells ∙ ap assigns_of same in
          cc)
      | inr o ↦
          (let e : t ∷ ys ≡ o.token ∷ w = o.split in
          let same : o.token ≡ t = cc in
          let rest : ys ≡ w = cc in
          (some_one s r (sym o.tells ∙ ap assigns_of same ∙ tells), rest))
    ]

one_avoids : (p : Place) → Avoids 0 (Mark sign.Greater p) OneSign
one_avoids p r zs w stop o =
    let e : Mark sign.Greater p ∷ zs ≡ o.token ∷ w = o.split in
    let same : o.token ≡ Mark sign.Greater p = cc in
    let bad : Some r ≡ None = sym o.tells ∙ ap assigns_of same in
    cc

last_stops : (p q : Place) → Stops 0 0 (ShiftLast p q)
last_stops p q = behind_stops sign.Equal q 0 0 (λ s. omega arith)

last_closes : (p q : Place) → Closes (ShiftLast p q)
last_closes p q = closes_after (PlacedBehind sign.Equal q) (λ s. Ends (by_sign operator.ShiftRight p)) (behind_closes sign.Equal q) (λ s. closes_end (by_sign operator.ShiftRight p))

pub two : (i : ℕ) → i + 1 + 1 ≡ i + 2
two i = omega arith

module _ {tokens : List Lexeme} {from : ℕ} where
  pub one_reads : {r : Signed} → found assigns_of (slice_get tokens from) ≡ Some r → Reads Assigning 0 tokens from r (from + 1)
  one_reads {r = r} e =
      let t : Told assigns_of (slice_get tokens from) r = told assigns_of (slice_get tokens from) r (sym e) in
      single Assigning 0 tokens from r t.token t.stands (λ w. one_back t.token r w t.tells) (λ s ys w g. one_only t.token r t.tells s ys w g)

  module _ (h : from ≤ length tokens) where
    pub none_fails : found assigns_of (slice_get tokens from) ≡ None → ((p : Place) → slice_get tokens from ≡ Some (Mark sign.Greater p) → ⊥) → Fails Assigning 0 tokens from from
    none_fails none never =
        single_fails Assigning 0 tokens from h assigning_closes
        (λ r ys w stop g near.
        elim (assigning_there r ys w g) [
          | inl a ↦ never a.part (near_get tokens from (Mark sign.Greater a.part) a.others (subst (λ x. Near x (drop from tokens)) a.phrase.is near))
          | inr o ↦ (let bad : Some r ≡ None = sym o.tells ∙ untold assigns_of (slice_get tokens from) o.token (sym none) (near_get tokens from o.token w (subst (λ x. Near x (drop from tokens)) o.split near)) in cc)
        ])

    -- `>>=`
    module _ (p : Place) (is : slice_get tokens from ≡ Some (Mark sign.Greater p)) where
      shift_first : Stage Assigning 0 tokens from (from + 1) (ShiftRest p)
      shift_first =
          token_or (λ p. refl) p is (one_avoids p)
          (change Assigning 0 tokens from from Assigning (λ r ys w. Shifts r ys w ⊎ OneSign r ys w) (λ r ys w stop near g. assigning_there r ys w g)
          (λ r ys w c.
          elim c [
            | inl a ↦ shift_back r ys w a
            | inr o ↦ subst (λ l. Assigning r l w) (sym o.split) (one_back o.token r w o.tells)
          ])
          (begin Assigning 0 tokens from h))

      pub shift_second_fails : from + 1 ≤ length tokens → (Behind tokens (from + 1) sign.Greater p → ⊥) → Fails Assigning 0 tokens from (from + 1)
      shift_second_fails high never = next_fails (last_stops p) (last_closes p) shift_first (behind_fails sign.Greater p 0 tokens (from + 1) high never)

      module _ (q : Place) (second : slice_get tokens (from + 1) ≡ Some (Mark sign.Greater q)) (follows : Adjacent p q) where
        shift_second : Stage Assigning 0 tokens from (from + 2) (ShiftLast p q)
        shift_second = subst (λ i. Stage Assigning 0 tokens from i (ShiftLast p q)) (two from) (next (last_stops p) shift_first (behind_reads sign.Greater p 0 tokens (from + 1) q second follows))

        pub shift_third_fails : from + 2 ≤ length tokens → (Behind tokens (from + 2) sign.Equal q → ⊥) → Fails Assigning 0 tokens from (from + 2)
        shift_third_fails high never = next_fails (λ s. end_stops 0 0 (omega arith)) (λ s. closes_end (by_sign operator.ShiftRight p)) shift_second (behind_fails sign.Equal q 0 tokens (from + 2) high never)

        pub shift_reads : (s : Place) → slice_get tokens (from + 2) ≡ Some (Mark sign.Equal s) → Adjacent q s → Reads Assigning 0 tokens from (by_sign operator.ShiftRight p) (from + 3)
        shift_reads s third follows_last = reads_to (from + 2 + 1) (from + 3) (omega arith) (ended (next (λ s. end_stops 0 0 (omega arith)) shift_second (behind_reads sign.Equal q 0 tokens (from + 2) s third follows_last)))
