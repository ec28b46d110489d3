-- The longest word, number and mark at the front of a text.
use Rattle.std.proofs.Common.{◌≡◌, ℕ, zero, suc, ◌+◌, ◌<◌, ◌≤◌, List, [], ◌∷◌, length, take, drop, Bool, true, false, refl, sym, ◌∙◌, arith, cond, inl, inr, subst}
use Rattle.std.specs.Prelude.{◌&&◌, ◌||◌, ◌==◌, max}
use Rattle.std.specs.List.{list_all}
use Rattle.std.specs.Char.{is_ascii_digit, is_ascii_hexdigit}
use Rattle.unicode_ident.specs.Ident.{is_xid_start, is_xid_continue}
use Rattle.std.proofs.lemmas.Bool.Decides.{leb_tells, eqb_tells, nat_tests}
use Rattle.std.proofs.Math.Nat.{max-eq_left, max-eq_right}
use Rattle.shade_lex.specs.Characters.{starts}
use Rattle.shade_lex.specs.Lexemes.{is_word, is_number, is_mark, is_lexeme, is_run, is_suffix, is_empty, is_x, is_hex_tail}
use Rattle.shade_lex.specs.Counts.{count, word_count, suffix_count, starts_hexadecimal, digits_count, number_count, starts_three, starts_pair, is_single, mark_count}
use Rattle.shade_lex.specs.Pieces.{IsLongest}

-- tests, by cases
and_false : (b : Bool) → (b && false) ≡ false
and_false true = refl
and_false false = refl

or_false : (b : Bool) → (b || false) ≡ b
or_false true = refl
or_false false = refl

or_parts : (a b : Bool) → (a || b) ≡ false → (a ≡ false) × (b ≡ false)
or_parts true b e = cc
or_parts false b e = (refl, e)

and_parts : (a b : Bool) → (a && b) ≡ true → (a ≡ true) × (b ≡ true)
and_parts true b e = (refl, e)
and_parts false b e = cc

-- the characters at the front that pass
count-within : (p : ℕ → Bool) (cs : List ℕ) → count p cs ≤ length cs
count-within p [] = omega arith
count-within p (c ∷ cs) = by (p c) (count-within p cs)
  where
    by : (b : Bool) → count p cs ≤ length cs → cond b (count p cs + 1) 0 ≤ suc (length cs)
    by true h = omega (arith, h)
    by false h = omega arith

count-passes : (p : ℕ → Bool) (cs : List ℕ) → list_all p (take (count p cs) cs) ≡ true
count-passes p [] = refl
count-passes p (c ∷ cs) = by (p c) refl (count-passes p cs)
  where
    by : (b : Bool) → p c ≡ b → list_all p (take (count p cs) cs) ≡ true → list_all p (take (cond b (count p cs + 1) 0) (c ∷ cs)) ≡ true
    by true e h = let one : count p cs + 1 ≡ suc (count p cs) = omega arith in rw (one, e, h) refl
    by false e h = refl

count-none : (p : ℕ → Bool) (cs : List ℕ) (m : ℕ) → count p cs < m → m ≤ length cs → list_all p (take m cs) ≡ false
count-none p [] m lt le = absurd (omega (arith, lt, le))
count-none p (c ∷ cs) zero lt le = absurd (omega (arith, lt))
count-none p (c ∷ cs) (suc m) lt le = by (p c) refl lt (λ (h : count p cs < m). count-none p cs m h (omega (arith, le)))
  where
    by : (b : Bool) → p c ≡ b → cond b (count p cs + 1) 0 < suc m → (count p cs < m → list_all p (take m cs) ≡ false) → (p c && list_all p (take m cs)) ≡ false
    by true e h next = rw e (next (omega (arith, h)))
    by false e h next = rw e refl

starts-count : (p : ℕ → Bool) (cs : List ℕ) → starts p (take (count p cs) cs) ≡ starts p cs
starts-count p [] = refl
starts-count p (c ∷ cs) = by (p c) refl
  where
    by : (b : Bool) → p c ≡ b → starts p (take (cond b (count p cs + 1) 0) (c ∷ cs)) ≡ p c
    by true e = let one : count p cs + 1 ≡ suc (count p cs) = omega arith in rw one refl
    by false e = sym e

starts-take : (p : ℕ → Bool) (cs : List ℕ) (m : ℕ) → starts p cs ≡ false → starts p (take m cs) ≡ false
starts-take p [] zero e = refl
starts-take p [] (suc m) e = refl
starts-take p (c ∷ cs) zero e = refl
starts-take p (c ∷ cs) (suc m) e = e

-- no front of no characters
nothing : (p : List ℕ → Bool) → IsLongest p [] 0
nothing p = record { within = omega arith; passes = λ h. absurd (omega (arith, h)); none = λ more lt le. absurd (omega (arith, lt, le)) }

-- words
pub word_count-longest : (text : List ℕ) → IsLongest is_word text (word_count text)
word_count-longest [] = nothing is_word
word_count-longest (c ∷ cs) = by (is_xid_start c || (c == 95 && starts is_xid_continue cs)) refl
  where
    n : ℕ
    n = count is_xid_continue cs

    one : count is_xid_continue cs + 1 ≡ suc (count is_xid_continue cs)
    one = omega arith

    by : (b : Bool) → (is_xid_start c || (c == 95 && starts is_xid_continue cs)) ≡ b → IsLongest is_word (c ∷ cs) (cond b (count is_xid_continue cs + 1) 0)
    by true e = record {
      within = omega (arith, count-within is_xid_continue cs);
      passes = λ h. rw (one, starts-count is_xid_continue cs, e, count-passes is_xid_continue cs) refl;
      none = none;
    }
      where
        none : (more : ℕ) → count is_xid_continue cs + 1 < more → more ≤ suc (length cs) → is_word (take more (c ∷ cs)) ≡ false
        none zero lt le = absurd (omega (arith, lt))
        none (suc m) lt le = rw (count-none is_xid_continue cs m (omega (arith, lt)) (omega (arith, le))) (and_false _)
    by false e = record { within = omega arith; passes = λ h. absurd (omega (arith, h)); none = none }
      where
        neither : (m : ℕ) → (is_xid_start c || (c == 95 && starts is_xid_continue (take m cs))) ≡ false
        neither m =
            let parts = or_parts (is_xid_start c) (c == 95 && starts is_xid_continue cs) e in
            rw parts.0 (second (c == 95) (starts is_xid_continue cs) refl parts.1)
          where
            second : (t s : Bool) → starts is_xid_continue cs ≡ s → (t && s) ≡ false → (t && starts is_xid_continue (take m cs)) ≡ false
            second true s is h = starts-take is_xid_continue cs m (is ∙ h)
            second false s is h = refl

        none : (more : ℕ) → 0 < more → more ≤ suc (length cs) → is_word (take more (c ∷ cs)) ≡ false
        none zero lt le = absurd (omega (arith, lt))
        none (suc m) lt le = rw (neither m) refl

-- marks
mark_one : (text : List ℕ) → 1 ≤ length text → is_mark (take 1 text) ≡ starts is_single text
mark_one [] h = absurd (omega (arith, h))
mark_one (c ∷ cs) h = refl

mark_two : (text : List ℕ) → 2 ≤ length text → is_mark (take 2 text) ≡ starts_pair text
mark_two [] h = absurd (omega (arith, h))
mark_two (c ∷ []) h = absurd (omega (arith, h))
mark_two (c ∷ d ∷ cs) h = refl

mark_three : (text : List ℕ) → 3 ≤ length text → is_mark (take 3 text) ≡ starts_three text
mark_three [] h = absurd (omega (arith, h))
mark_three (c ∷ []) h = absurd (omega (arith, h))
mark_three (c ∷ d ∷ []) h = absurd (omega (arith, h))
mark_three (c ∷ d ∷ e ∷ cs) h = refl

mark_more : (text : List ℕ) (m : ℕ) → suc (suc (suc (suc m))) ≤ length text → is_mark (take (suc (suc (suc (suc m)))) text) ≡ false
mark_more [] m h = absurd (omega (arith, h))
mark_more (c ∷ []) m h = absurd (omega (arith, h))
mark_more (c ∷ d ∷ []) m h = absurd (omega (arith, h))
mark_more (c ∷ d ∷ e ∷ []) m h = absurd (omega (arith, h))
mark_more (c ∷ d ∷ e ∷ f ∷ cs) m h = refl

three_long : (text : List ℕ) → starts_three text ≡ true → 3 ≤ length text
three_long [] e = cc
three_long (c ∷ []) e = cc
three_long (c ∷ d ∷ []) e = cc
three_long (c ∷ d ∷ f ∷ cs) e = omega arith

pair_long : (text : List ℕ) → starts_pair text ≡ true → 2 ≤ length text
pair_long [] e = cc
pair_long (c ∷ []) e = cc
pair_long (c ∷ d ∷ cs) e = omega arith

one_long : (text : List ℕ) → starts is_single text ≡ true → 1 ≤ length text
one_long [] e = cc
one_long (c ∷ cs) e = omega arith

pub mark_count-longest : (text : List ℕ) → IsLongest is_mark text (mark_count text)
mark_count-longest text = by (starts_three text) (starts_pair text) (starts is_single text) refl refl refl
  where
    -- no mark of so many characters, where it fails its test
    none_by : (n : ℕ) → (n < 3 → starts_three text ≡ false) → (n < 2 → starts_pair text ≡ false) → (n < 1 → starts is_single text ≡ false) → (more : ℕ) → n < more → more ≤ length text → is_mark (take more text) ≡ false
    none_by n three pair single zero lt le = absurd (omega (arith, lt))
    none_by n three pair single (suc zero) lt le = mark_one text le ∙ single lt
    none_by n three pair single (suc (suc zero)) lt le = mark_two text le ∙ pair lt
    none_by n three pair single (suc (suc (suc zero))) lt le = mark_three text le ∙ three lt
    none_by n three pair single (suc (suc (suc (suc m)))) lt le = mark_more text m le

    by : (t p s : Bool) → starts_three text ≡ t → starts_pair text ≡ p → starts is_single text ≡ s → IsLongest is_mark text (cond t 3 (cond p 2 (cond s 1 0)))
    by true p s three pair single = record {
      within = three_long text three;
      passes = λ h. mark_three text (three_long text three) ∙ three;
      none = none_by 3 (λ h. absurd (omega (arith, h))) (λ h. absurd (omega (arith, h))) (λ h. absurd (omega (arith, h)));
    }
    by false true s three pair single = record {
      within = pair_long text pair;
      passes = λ h. mark_two text (pair_long text pair) ∙ pair;
      none = none_by 2 (λ h. three) (λ h. absurd (omega (arith, h))) (λ h. absurd (omega (arith, h)));
    }
    by false false true three pair single = record {
      within = one_long text single;
      passes = λ h. mark_one text (one_long text single) ∙ single;
      none = none_by 1 (λ h. three) (λ h. pair) (λ h. absurd (omega (arith, h)));
    }
    by false false false three pair single = record {
      within = omega arith;
      passes = λ h. absurd (omega (arith, h));
      none = none_by 0 (λ h. three) (λ h. pair) (λ h. single);
    }

-- the longest front that passes one of two tests
pub longest-or : (p q : List ℕ → Bool) (text : List ℕ) (n m : ℕ) → IsLongest p text n → IsLongest q text m → IsLongest (λ cs. p cs || q cs) text (max n m)
longest-or p q text n m a b = elim (leb_tells n m) [
  | inl t ↦ rw (max-eq_right t.1) (record { within = b.within; passes = λ h. rw (b.passes h) (or_true _); none = λ more lt le. rw (a.none more (omega (arith, t.1, lt)) le, b.none more lt le) refl })
  | inr f ↦ (let least : m ≤ n = omega (arith, f.1) in rw (max-eq_left least) (record { within = a.within; passes = λ h. rw (a.passes h) refl; none = λ more lt le. rw (a.none more lt le, b.none more (omega (arith, f.1, lt)) le) refl }))
]
  where
    or_true : (x : Bool) → (x || true) ≡ true
    or_true true = refl
    or_true false = refl

-- a front that is no shorter than the longest passes exactly where it is as long
pub longest-is : (p : List ℕ → Bool) (text : List ℕ) (n len : ℕ) → IsLongest p text n → n ≤ len → len ≤ length text → 0 < len → (n == len) ≡ p (take len text)
longest-is p text n len a le within some = elim (eqb_tells n len) [
  | inl s ↦ (let passes : p (take len text) ≡ true = subst (λ (k : ℕ). p (take k text) ≡ true) s.1 (a.passes (omega (arith, s.1, some))) in s.0 ∙ sym passes)
  | inr o ↦ (let none : p (take len text) ≡ false = a.none len (omega (arith, o.1, le)) within in o.0 ∙ sym none)
]

-- a text has one longest front
pub longest-once : (p : List ℕ → Bool) (text : List ℕ) (n m : ℕ) → IsLongest p text n → IsLongest p text m → n ≡ m
longest-once p text n m a b = elim (eqb_tells n m) [
  | inl s ↦ s.1
  | inr o ↦ elim (leb_tells n m) [
    | inl t ↦ (let some : 0 < m = omega (arith, t.1, o.1) in cc (a.none m (omega (arith, t.1, o.1)) b.within, b.passes some))
    | inr f ↦ (let some : 0 < n = omega (arith, f.1) in cc (b.none n f.1 a.within, a.passes some))
  ]
]

-- digits and a suffix
abbrev pub run_count : (ℕ → Bool) → List ℕ → ℕ
run_count p cs = suffix_count (drop (count p cs) cs) + count p cs

run_count-more : (p : ℕ → Bool) (c : ℕ) (cs : List ℕ) → p c ≡ true → run_count p (c ∷ cs) ≡ suc (run_count p cs)
run_count-more p c cs e =
    let one : count p cs + 1 ≡ suc (count p cs) = omega arith in
    rw (e, one) (omega arith)

run_count-stop : (p : ℕ → Bool) (c : ℕ) (cs : List ℕ) → p c ≡ false → run_count p (c ∷ cs) ≡ suffix_count (c ∷ cs)
run_count-stop p c cs e = rw e (omega arith)

-- digits are no suffixes
pub record IsNoSuffix (p : ℕ → Bool) : Type 0 where
  pub excludes : (c : ℕ) → p c ≡ true → is_suffix c ≡ false

run-within : (p : ℕ → Bool) (cs : List ℕ) → run_count p cs ≤ length cs
run-within p [] = omega arith
run-within p (c ∷ cs) = by (p c) (is_suffix c) refl refl (run-within p cs)
  where
    by : (b s : Bool) → p c ≡ b → is_suffix c ≡ s → run_count p cs ≤ length cs → run_count p (c ∷ cs) ≤ suc (length cs)
    by true s e f h = omega (arith, run_count-more p c cs e, h)
    by false true e f h = let n : run_count p (c ∷ cs) ≡ 1 = run_count-stop p c cs e ∙ rw f refl in omega (arith, n)
    by false false e f h = let n : run_count p (c ∷ cs) ≡ 0 = run_count-stop p c cs e ∙ rw f refl in omega (arith, n)

run-passes : (p : ℕ → Bool) (cs : List ℕ) → is_run p (take (run_count p cs) cs) ≡ true
run-passes p [] = refl
run-passes p (c ∷ cs) = by (p c) (is_suffix c) refl refl (run-passes p cs)
  where
    by : (b s : Bool) → p c ≡ b → is_suffix c ≡ s → is_run p (take (run_count p cs) cs) ≡ true → is_run p (take (run_count p (c ∷ cs)) (c ∷ cs)) ≡ true
    by true s e f h = rw (run_count-more p c cs e, e, h) refl
    by false true e f h = let n : run_count p (c ∷ cs) ≡ 1 = run_count-stop p c cs e ∙ rw f refl in rw (n, e, f) refl
    by false false e f h = let n : run_count p (c ∷ cs) ≡ 0 = run_count-stop p c cs e ∙ rw f refl in rw n refl

run-none : (p : ℕ → Bool) → IsNoSuffix p → (cs : List ℕ) (m : ℕ) → run_count p cs < m → m ≤ length cs → is_run p (take m cs) ≡ false
run-none p x [] m lt le = absurd (omega (arith, lt, le))
run-none p x (c ∷ cs) zero lt le = absurd (omega (arith, lt))
run-none p x (c ∷ cs) (suc m) lt le = by (p c) (is_suffix c) refl refl lt (λ (h : run_count p cs < m). run-none p x cs m h (omega (arith, le)))
  where
    by : (b s : Bool) → p c ≡ b → is_suffix c ≡ s → run_count p (c ∷ cs) < suc m → (run_count p cs < m → is_run p (take m cs) ≡ false) → ((p c && is_run p (take m cs)) || (is_suffix c && is_empty (take m cs))) ≡ false
    by true s e f h next =
        let less : run_count p cs < m = omega (arith, h, run_count-more p c cs e) in
        rw (e, next less, x.excludes c e) refl
    by false true e f h next =
        let n : run_count p (c ∷ cs) ≡ 1 = run_count-stop p c cs e ∙ rw f refl in
        rw (e, f) (some m cs (omega (arith, h, n)) (omega (arith, le)))
      where
        some : (m : ℕ) (cs : List ℕ) → 1 ≤ m → m ≤ length cs → is_empty (take m cs) ≡ false
        some zero cs a b = absurd (omega (arith, a))
        some (suc m) [] a b = absurd (omega (arith, b))
        some (suc m) (d ∷ cs) a b = refl
    by false false e f h next = rw (e, f) refl

no_suffix-digit : IsNoSuffix is_ascii_digit
no_suffix-digit = record { excludes = λ c e. grind (arith, nat_tests) }

no_suffix-hex : IsNoSuffix is_ascii_hexdigit
no_suffix-hex = record { excludes = λ c e. grind (arith, nat_tests) }

no_suffix-none : IsNoSuffix (λ _. false)
no_suffix-none = record { excludes = λ c e. cc }

count-no_digits : (cs : List ℕ) → count (λ _. false) cs ≡ 0
count-no_digits [] = refl
count-no_digits (c ∷ cs) = refl

x_is_no_suffix : (c : ℕ) → is_x c ≡ true → is_suffix c ≡ false
x_is_no_suffix c e = grind (arith, nat_tests)

zero_is_digit : (c : ℕ) → (c == 48) ≡ true → is_ascii_digit c ≡ true
zero_is_digit c e = grind (arith, nat_tests)

-- numbers that go on after their first character as a run
longest-cons : (p : ℕ → Bool) → IsNoSuffix p → (c : ℕ) (cs : List ℕ) → ((m : ℕ) → is_number (c ∷ take m cs) ≡ is_run p (take m cs)) → IsLongest is_number (c ∷ cs) (suc (run_count p cs))
longest-cons p x c cs same = record { within = omega (arith, run-within p cs); passes = λ h. same (run_count p cs) ∙ run-passes p cs; none = none }
  where
    none : (more : ℕ) → suc (run_count p cs) < more → more ≤ suc (length cs) → is_number (take more (c ∷ cs)) ≡ false
    none zero lt le = absurd (omega (arith, lt))
    none (suc m) lt le = same m ∙ run-none p x cs m (omega (arith, lt)) (omega (arith, le))

-- a digit but 0, and digits
decimal_test : (c : ℕ) (x : List ℕ) → is_ascii_digit c ≡ true → (c == 48) ≡ false → is_number (c ∷ x) ≡ is_run is_ascii_digit x
decimal_test c x d z = rw (d, z) (or_false _)

decimal_hex : (c : ℕ) (cs : List ℕ) → (c == 48) ≡ false → starts_hexadecimal (c ∷ cs) ≡ false
decimal_hex c [] z = refl
decimal_hex c (d ∷ []) z = refl
decimal_hex c (d ∷ e ∷ cs) z = rw z refl

decimal_count : (c : ℕ) (cs : List ℕ) → is_ascii_digit c ≡ true → (c == 48) ≡ false → number_count (c ∷ cs) ≡ suc (run_count is_ascii_digit cs)
decimal_count c cs d z =
    let one : count is_ascii_digit cs + 1 ≡ suc (count is_ascii_digit cs) = omega arith in
    let digits : digits_count (c ∷ cs) ≡ suc (count is_ascii_digit cs) = rw (decimal_hex c cs z, z) one in
    rw (d, digits) (omega arith)

-- 0 alone
zero_hex : (c : ℕ) (cs : List ℕ) (m : ℕ) → (c == 48) ≡ true → starts_hexadecimal (c ∷ cs) ≡ false → is_hex_tail (take m cs) ≡ false
zero_hex c [] zero z h = refl
zero_hex c [] (suc m) z h = refl
zero_hex c (d ∷ ds) zero z h = refl
zero_hex c (d ∷ []) (suc zero) z h = and_false (is_x d)
zero_hex c (d ∷ []) (suc (suc m)) z h = and_false (is_x d)
zero_hex c (d ∷ e ∷ es) (suc zero) z h = and_false (is_x d)
zero_hex c (d ∷ e ∷ es) (suc (suc m)) z h = by (is_x d) (is_ascii_hexdigit e) refl refl (rw z at h)
  where
    by : (x y : Bool) → is_x d ≡ x → is_ascii_hexdigit e ≡ y → (is_x d && is_ascii_hexdigit e) ≡ false → (is_x d && (is_ascii_hexdigit e && is_run is_ascii_hexdigit (e ∷ take m es))) ≡ false
    by true true p q fails = let t : (is_x d && is_ascii_hexdigit e) ≡ true = rw (p, q) refl in cc
    by true false p q fails = rw (p, q) refl
    by false y p q fails = rw p refl

zero_test : (c : ℕ) (x : List ℕ) → (c == 48) ≡ true → is_hex_tail x ≡ false → is_number (c ∷ x) ≡ is_run (λ _. false) x
zero_test c x z h = rw (zero_is_digit c z, z, h) (or_false _)

zero_count : (c : ℕ) (cs : List ℕ) → (c == 48) ≡ true → starts_hexadecimal (c ∷ cs) ≡ false → number_count (c ∷ cs) ≡ suc (run_count (λ _. false) cs)
zero_count c cs z h =
    let digits : digits_count (c ∷ cs) ≡ 1 = rw (h, z) refl in
    let none : run_count (λ _. false) cs ≡ suffix_count cs = rw (count-no_digits cs) (omega arith) in
    let all : number_count (c ∷ cs) ≡ suffix_count cs + 1 = rw (zero_is_digit c z, digits) refl in
    omega (arith, none, all)

-- `0x` and hexadecimal digits
module _ (c d e : ℕ) (es : List ℕ) (z : (c == 48) ≡ true) (x : is_x d ≡ true) (h : is_ascii_hexdigit e ≡ true) where
  hex_test : (cs : List ℕ) → is_number (c ∷ d ∷ cs) ≡ (starts is_ascii_hexdigit cs && is_run is_ascii_hexdigit cs)
  hex_test cs = rw (zero_is_digit c z, z, x_is_no_suffix d x, x) refl

  hex_count : number_count (c ∷ d ∷ e ∷ es) ≡ suc (suc (run_count is_ascii_hexdigit (e ∷ es)))
  hex_count =
      let begins : starts_hexadecimal (c ∷ d ∷ e ∷ es) ≡ true = rw (z, x, h) refl in
      let two : count is_ascii_hexdigit (e ∷ es) + 2 ≡ suc (suc (count is_ascii_hexdigit (e ∷ es))) = omega arith in
      let digits : digits_count (c ∷ d ∷ e ∷ es) ≡ suc (suc (count is_ascii_hexdigit (e ∷ es))) = rw begins two in
      rw (zero_is_digit c z, digits) (omega arith)

  hex_starts : starts is_ascii_hexdigit (take (run_count is_ascii_hexdigit (e ∷ es)) (e ∷ es)) ≡ true
  hex_starts = rw (run_count-more is_ascii_hexdigit e es h) h

  hex_longest : IsLongest is_number (c ∷ d ∷ e ∷ es) (suc (suc (run_count is_ascii_hexdigit (e ∷ es))))
  hex_longest = record {
    within = omega (arith, run-within is_ascii_hexdigit (e ∷ es));
    passes = λ some. hex_test (take (run_count is_ascii_hexdigit (e ∷ es)) (e ∷ es)) ∙ rw (hex_starts, run-passes is_ascii_hexdigit (e ∷ es)) refl;
    none = none;
  }
    where
      none : (more : ℕ) → suc (suc (run_count is_ascii_hexdigit (e ∷ es))) < more → more ≤ length (c ∷ d ∷ e ∷ es) → is_number (take more (c ∷ d ∷ e ∷ es)) ≡ false
      none zero lt le = absurd (omega (arith, lt))
      none (suc zero) lt le = absurd (omega (arith, lt))
      none (suc (suc m)) lt le = hex_test (take m (e ∷ es)) ∙ rw (run-none is_ascii_hexdigit no_suffix-hex (e ∷ es) m (omega (arith, lt)) (omega (arith, le))) (and_false _)

hex_parts : (c : ℕ) (cs : List ℕ) → (c == 48) ≡ true → starts_hexadecimal (c ∷ cs) ≡ true → IsLongest is_number (c ∷ cs) (number_count (c ∷ cs))
hex_parts c [] z h = cc
hex_parts c (d ∷ []) z h = cc
hex_parts c (d ∷ e ∷ es) z h =
    let parts = and_parts (c == 48) (is_x d && is_ascii_hexdigit e) h in
    let last = and_parts (is_x d) (is_ascii_hexdigit e) parts.1 in
    rw (hex_count c d e es z last.0 last.1) (hex_longest c d e es z last.0 last.1)

-- no digit
no_number : (c : ℕ) (cs : List ℕ) → is_ascii_digit c ≡ false → IsLongest is_number (c ∷ cs) (number_count (c ∷ cs))
no_number c cs d = rw d (record { within = omega arith; passes = λ h. absurd (omega (arith, h)); none = none })
  where
    not_zero : (b : Bool) → (c == 48) ≡ b → (c == 48) ≡ false
    not_zero true e = cc (zero_is_digit c e, d)
    not_zero false e = e

    none : (more : ℕ) → 0 < more → more ≤ suc (length cs) → is_number (take more (c ∷ cs)) ≡ false
    none zero lt le = absurd (omega (arith, lt))
    none (suc m) lt le = rw (d, not_zero (c == 48) refl) refl

pub number_count-longest : (text : List ℕ) → IsLongest is_number text (number_count text)
number_count-longest [] = nothing is_number
number_count-longest (c ∷ cs) = by (is_ascii_digit c) (c == 48) (starts_hexadecimal (c ∷ cs)) refl refl refl
  where
    by : (d z h : Bool) → is_ascii_digit c ≡ d → (c == 48) ≡ z → starts_hexadecimal (c ∷ cs) ≡ h → IsLongest is_number (c ∷ cs) (number_count (c ∷ cs))
    by false z h d_is z_is h_is = no_number c cs d_is
    by true false h d_is z_is h_is = rw (decimal_count c cs d_is z_is) (longest-cons is_ascii_digit no_suffix-digit c cs (λ m. decimal_test c (take m cs) d_is z_is))
    by true true false d_is z_is h_is = rw (zero_count c cs z_is h_is) (longest-cons (λ _. false) no_suffix-none c cs (λ m. zero_test c (take m cs) z_is (zero_hex c cs m z_is h_is)))
    by true true true d_is z_is h_is = hex_parts c cs z_is h_is

-- the longest lexeme
pub lexeme-longest : (text : List ℕ) → IsLongest is_lexeme text (max (word_count text) (max (number_count text) (mark_count text)))
lexeme-longest text = longest-or is_word (λ cs. is_number cs || is_mark cs) text _ _ (word_count-longest text) (longest-or is_number is_mark text _ _ (number_count-longest text) (mark_count-longest text))
