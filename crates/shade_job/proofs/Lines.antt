-- The first line of some bytes.
use Rattle.std.proofs.Common.{◌≡◌, refl, sym, ap, ◌∙◌, subst, ℕ, zero, suc, ◌+◌, ◌<◌, ◌≤◌, ◌^◌, ◌==◌, Bool, true, false, ◌&&◌, cond, nat_lt, List, [], ◌∷◌, ◌++◌, length, take, drop, drop-cons, add-one, get_or, Some, None, arith}
use Rattle.std.specs.List.{position, position_or_len}
use Rattle.std.specs.Char.{is_ascii_digit}
use Rattle.std.specs.Str.{all_ascii_digits}
use Rattle.std.specs.Fmt.{decimal}
use Rattle.std.proofs.lemmas.List.{append_assoc, take-append-drop, length-append, append_cancel_left, append-nil, get_or_append_left}
use Rattle.std.proofs.lemmas.List.Quantifiers.{position-Some}
use Rattle.std.proofs.lemmas.List.Sums.{position_or_len_is}
use Rattle.std.proofs.lemmas.Bool.Decides.{nat_tests}
use Rattle.std.proofs.lemmas.Fmt.{decimal_injective}
use Rattle.std.proofs.Math.Seq.{get_or-append_seam, take-append_seam}
use Rattle.std.proofs.lemmas.Grind.{flat_map-append}
use Rattle.shade_base.proofs.Numbers.{digits_all}
use Rattle.shade_job.specs.Steps.{line, lines, AllBelow, States}

abbrev is_break : ℕ → Bool
is_break b = b == 10

and_left : (a b : Bool) → (a && b) ≡ true → a ≡ true
and_left true b h = refl
and_left false b h = h

and_right : (a b : Bool) → (a && b) ≡ true → b ≡ true
and_right true b h = h
and_right false b h = absurd (cc)

some_one : {a b : ℕ} → Some a ≡ Some b → a ≡ b
some_one h = cc

digit_free : (c : ℕ) → is_ascii_digit c ≡ true → is_break c ≡ false
digit_free c h = grind (arith, nat_tests)

-- no digit is a line break
digits_free : (ds : List ℕ) (k : ℕ) → all_ascii_digits ds ≡ true → k < length ds → is_break (get_or ds k 0) ≡ false
digits_free [] k all below = absurd (omega arith)
digits_free (c ∷ cs) zero all below = digit_free c (and_left (is_ascii_digit c) (all_ascii_digits cs) all)
digits_free (c ∷ cs) (suc k) all below = digits_free cs k (and_right (is_ascii_digit c) (all_ascii_digits cs) all) (omega arith)

module _ (n : ℕ) (text rest : List ℕ) (small : n < 2 ^ 32) (is : text ≡ line n ++ rest) where
  spelled : text ≡ decimal n ++ 10 ∷ rest
  spelled = is ∙ append_assoc (decimal n) (10 ∷ []) rest

  free : (k : ℕ) → k < length (decimal n) → is_break (get_or text k 0) ≡ false
  free k below =
      ap (λ xs. is_break (get_or xs k 0)) spelled ∙ (ap is_break (get_or_append_left (decimal n) (10 ∷ rest) 0 k below) ∙ digits_free (decimal n) k (digits_all n (decimal n) small refl) below)

  break_ : is_break (get_or text (length (decimal n)) 0) ≡ true
  break_ = ap (λ xs. is_break (get_or xs (length (decimal n)) 0)) spelled ∙ ap is_break (get_or-append_seam (decimal n) 10 rest 0)

  -- the first line break stands behind the digits
  pub break_at : position is_break text ≡ Some (length (decimal n))
  break_at =
      let total : length text ≡ length (decimal n) + suc (length rest) = ap length spelled ∙ length-append (decimal n) (10 ∷ rest) in
      let at : position_or_len is_break text ≡ length (decimal n) = position_or_len_is is_break text (length (decimal n)) 0 (omega arith) free (λ below. break_) in
      let below : nat_lt (length (decimal n)) (length text) ≡ true = grind (arith, nat_tests, total) in
      ap (λ i. cond (nat_lt i (length text)) (Some i) None) at ∙ ap (λ b. cond b (Some (length (decimal n))) None) below

  pub front_is : (end : ℕ) → position is_break text ≡ Some end → take end text ≡ decimal n
  front_is end found = let same : end ≡ length (decimal n) = some_one (sym found ∙ break_at) in ap (λ i. take i text) same ∙ (ap (take (length (decimal n))) spelled ∙ take-append_seam (decimal n) (10 ∷ rest))

-- no number has this first line
pub no_break : (text : List ℕ) → position is_break text ≡ None → (n : ℕ) (rest : List ℕ) → n < 2 ^ 32 → text ≡ line n ++ rest → ⊥
no_break text none n rest small is = let some : position is_break text ≡ Some (length (decimal n)) = break_at n text rest small is in cc

drop_here : (xs : List ℕ) (i : ℕ) → i < length xs → drop i xs ≡ get_or xs i 0 ∷ drop (i + 1) xs
drop_here xs i lt = drop-cons xs i 0 lt ∙ ap (λ j. get_or xs i 0 ∷ drop j xs) (sym (add-one i))

-- the line that was found
pub found_line : (text : List ℕ) (end n : ℕ) → position is_break text ≡ Some end → take end text ≡ decimal n → text ≡ line n ++ drop (end + 1) text
found_line text end n found digits =
    let at : (end < length text) × (is_break (get_or text end 0) ≡ true) × ((k : ℕ) → k < end → is_break (get_or text k 0) ≡ false) = position-Some is_break text end 0 found in
    let ten : get_or text end 0 ≡ 10 = is_ten (get_or text end 0) at.1 in
    sym (take-append-drop end text) ∙ (ap (λ xs. xs ++ drop end text) digits ∙ (ap (λ xs. decimal n ++ xs) (drop_here text end at.0 ∙ ap (λ c. c ∷ drop (end + 1) text) ten) ∙ sym (append_assoc (decimal n) (10 ∷ []) (drop (end + 1) text))))
  where
    is_ten : (c : ℕ) → is_break c ≡ true → c ≡ 10
    is_ten c h = grind (arith, nat_tests)

-- no lane has a first line whose digits are those of no lane
pub no_lane : (text : List ℕ) (end lanes : ℕ) → position is_break text ≡ Some end → lanes < 2 ^ 32 → ((n : ℕ) → n < lanes → ¬ (take end text ≡ decimal n)) → (n : ℕ) (rest : List ℕ) → n < lanes → text ≡ line n ++ rest → ⊥
no_lane text end lanes found few none n rest below is = let small : n < 2 ^ 32 = omega arith in none n below (front_is n text rest small is end found)

-- digits write one number
pub other_lane : (text : List ℕ) (m lanes : ℕ) → text ≡ decimal m → m < 2 ^ 32 → lanes < 2 ^ 32 → lanes ≤ m → (n : ℕ) → n < lanes → text ≡ decimal n → ⊥
other_lane text m lanes digits small few above n below is =
    let same : m ≡ n = decimal_injective m n (omega arith) (omega arith) (sym digits ∙ is) in omega arith

-- some bytes begin with one line
pub line_one : (m n : ℕ) (rest after : List ℕ) → m < 2 ^ 32 → n < 2 ^ 32 → line m ++ rest ≡ line n ++ after → (m ≡ n) × (rest ≡ after)
line_one m n rest after m_small n_small is = (numbers, append_cancel_left (line n) rest after (ap (λ k. line k ++ rest) (sym numbers) ∙ is)) where
  numbers : m ≡ n
  numbers = decimal_injective m n (omega arith) (omega arith) (sym (front_is m (line m ++ rest) rest m_small refl (length (decimal m)) (break_at m (line m ++ rest) rest m_small refl)) ∙ front_is n (line m ++ rest) after n_small is (length (decimal m)) (break_at m (line m ++ rest) rest m_small refl))

below_left : (lanes : ℕ) (xs ys : List ℕ) → AllBelow lanes (xs ++ ys) → AllBelow lanes ys
below_left lanes [] ys all = all
below_left lanes (x ∷ xs) ys all = below_left lanes xs ys all.1

below_more : (lanes : ℕ) (xs : List ℕ) (n : ℕ) → AllBelow lanes xs → n < lanes → AllBelow lanes (xs ++ n ∷ [])
below_more lanes [] n all below = (below, tt)
below_more lanes (x ∷ xs) n all below = (all.0, below_more lanes xs n all.1 below)

-- where so many steps were read and some bytes are left
pub record Read (lanes : ℕ) (bytes read rest : List ℕ) : Type 0 where
  pub spelled : bytes ≡ lines read ++ rest
  pub below : AllBelow lanes read
  pub few : length read ≤ 10000000
  pub only : (steps : List ℕ) → States lanes bytes steps → (more : List ℕ) × (steps ≡ read ++ more) × (rest ≡ lines more)

module _ (lanes : ℕ) (bytes read rest : List ℕ) (few : lanes < 2 ^ 32) (so_far : Read lanes bytes read rest) (some : 0 < length rest) where
  -- one more step
  abbrev More : List ℕ → Type 0
  More steps = (n : ℕ) × (ns : List ℕ) × (n < lanes) × (rest ≡ line n ++ lines ns) × (steps ≡ read ++ n ∷ ns)

  more_by : (steps more : List ℕ) → States lanes bytes steps → steps ≡ read ++ more → rest ≡ lines more → More steps
  more_by steps [] states is spelled = let none : length rest ≡ 0 = ap length spelled in absurd (omega arith)
  more_by steps (n ∷ ns) states is spelled = (n, ns, (below_left lanes read (n ∷ ns) (subst (AllBelow lanes) is states.lanes_each)).0, spelled, is)

  more : (steps : List ℕ) → States lanes bytes steps → More steps
  more steps states = let m : (more : List ℕ) × (steps ≡ read ++ more) × (rest ≡ lines more) = so_far.only steps states in more_by steps m.0 states m.1 m.2

  pub no_steps : ((n : ℕ) (after : List ℕ) → n < lanes → ¬ (rest ≡ line n ++ after)) → (steps : List ℕ) → States lanes bytes steps → ⊥
  no_steps none steps states = let m : More steps = more steps states in none m.0 (lines m.1) m.2 m.3

  pub too_many : length read ≡ 10000000 → (steps : List ℕ) → States lanes bytes steps → ⊥
  too_many full steps states =
      let m : More steps = more steps states in
      let total : length steps ≡ length read + suc (length m.1) = ap length m.4 ∙ length-append read (m.0 ∷ m.1) in
      let most : length steps ≤ 10000000 = states.few_steps in omega arith

  pub read_more : (n : ℕ) (after read' : List ℕ) → ¬ (length read ≡ 10000000) → rest ≡ line n ++ after → n < lanes → read' ≡ read ++ n ∷ [] → Read lanes bytes read' after
  read_more n after read' room is below grows = subst (λ r. Read lanes bytes r after) (sym grows) (record {
    spelled = so_far.spelled ∙ (ap (λ xs. lines read ++ xs) is ∙ (sym (append_assoc (lines read) (line n) after) ∙ ap (λ xs. xs ++ after) (ap (λ xs. lines read ++ xs) (sym (append-nil (line n))) ∙ sym (flat_map-append line read (n ∷ [])))));
    below = below_more lanes read n so_far.below below;
    few = (let total : length (read ++ n ∷ []) ≡ length read + 1 = length-append read (n ∷ []) in let most : length read ≤ 10000000 = so_far.few in omega arith);
    only = λ steps states. only steps (more steps states);
  })
    where
      only : (steps : List ℕ) → More steps → (rest' : List ℕ) × (steps ≡ (read ++ n ∷ []) ++ rest') × (after ≡ lines rest')
      only steps m =
          let same : (m.0 ≡ n) × (lines m.1 ≡ after) = line_one m.0 n (lines m.1) after (omega (arith, m.2)) (omega arith) (sym m.3 ∙ is) in
          (m.1, m.4 ∙ (ap (λ k. read ++ k ∷ m.1) same.0 ∙ sym (append_assoc read (n ∷ []) m.1)), sym same.1)

-- all was read
pub all_read : (lanes : ℕ) (bytes read rest : List ℕ) → Read lanes bytes read rest → length rest ≡ 0 → length bytes ≤ 16777216 → States lanes bytes read
all_read lanes bytes read rest so_far none few = record { spelled = so_far.spelled ∙ (ap (λ xs. lines read ++ xs) (empty rest none) ∙ append-nil (lines read)); lanes_each = so_far.below; few_bytes = few; few_steps = so_far.few } where
  empty : (xs : List ℕ) → length xs ≡ 0 → xs ≡ []
  empty [] e = refl
  empty (x ∷ xs) e = absurd (omega arith)
