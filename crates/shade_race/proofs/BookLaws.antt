-- The law of a word, lifted over the words and the roots of a book.
use Rattle.std.proofs.Common.{◌≡◌, ℕ, zero, suc, ◌+◌, ◌<◌, ◌≤◌, Bool, true, false, List, [], ◌∷◌, refl, ap, sym, ◌∙◌, subst, arith}
use Rattle.std.specs.Prelude.{◌==◌, if◌then◌else◌}
use Rattle.std.proofs.lemmas.Bool.{eqb-true, eq-eqb}
use Rattle.shade_values.specs.declared.touch.Touch.{Touch}
use Rattle.shade_values.specs.declared.types.Space.{Space}
use Rattle.shade_values.specs.declared.types.Space.TheVariants.{Function, Private, Workgroup, Uniform, Storage}
use Rattle.shade_race.specs.declared.epochs.Epochs.{Epochs}
use Rattle.shade_race.specs.Word.{Mark, race_of, cells_of, noted, AllMarks, IsPast}
use Rattle.shade_race.specs.History.{Size, Event, Noted, Passed, epoch_in, raised, epochs_of, space_at, Access, access_of, accesses, AllAccesses, IsStepped, covers, touches, act_of, mark_of, mark_if, marks_at, row, roots_from, race_then, races_in, races_from, noted_words, noted_root, changed, noted_book, passed_book, word_races, root_races, book_races, NoteLeads, BarrierLeads, RacesTell}
use Rattle.shade_race.proofs.Logic.{not_true, and_parts}
use Rattle.shade_race.proofs.WordLaws.{cells_follow}

-- ---- epochs do not fall

epoch_rises : (s t : Space) (e : Epochs) → epoch_in s e ≤ epoch_in s (raised t e)
epoch_rises Workgroup Workgroup e = omega arith
epoch_rises Workgroup Storage e = omega arith
epoch_rises Workgroup Function e = omega arith
epoch_rises Workgroup Private e = omega arith
epoch_rises Workgroup Uniform e = omega arith
epoch_rises Storage Workgroup e = omega arith
epoch_rises Storage Storage e = omega arith
epoch_rises Storage Function e = omega arith
epoch_rises Storage Private e = omega arith
epoch_rises Storage Uniform e = omega arith
epoch_rises Function t e = omega arith
epoch_rises Private t e = omega arith
epoch_rises Uniform t e = omega arith

all_wider : {P Q : Access → Type 0} → ((x : Access) → P x → Q x) → (xs : List Access) → AllAccesses P xs → AllAccesses Q xs
all_wider f [] h = tt
all_wider f (x ∷ xs) h = (f x h.0, all_wider f xs h.1)

abbrev IsReached : List Size → Epochs → Access → Type 0
IsReached sizes e x = x.epoch ≤ epoch_in (space_at sizes x.touch.root) e

reached : (sizes : List Size) (past : List Event) → AllAccesses (IsReached sizes (epochs_of past)) (accesses sizes past)
reached sizes [] = tt
reached sizes (Noted step lane touch ∷ past) = (omega arith, reached sizes past)
reached sizes (Passed space ∷ past) =
    all_wider (λ x h. let up : epoch_in (space_at sizes x.touch.root) (epochs_of past) ≤ epoch_in (space_at sizes x.touch.root) (raised space (epochs_of past)) = epoch_rises (space_at sizes x.touch.root) space (epochs_of past) in omega arith)
    (accesses sizes past) (reached sizes past)

-- ---- the accesses of a word are in order

abbrev IsBefore : Access → Access → Type 0
IsBefore x y = (y.step < x.step) × (y.touch.root ≡ x.touch.root → y.epoch ≤ x.epoch)

abbrev IsRising : List Access → Type 0
IsRising [] = Unit {0}
IsRising (x ∷ xs) = AllAccesses (IsBefore x) xs × IsRising xs

both : {P Q R : Access → Type 0} → ((x : Access) → P x → Q x → R x) → (xs : List Access) → AllAccesses P xs → AllAccesses Q xs → AllAccesses R xs
both f [] h g = tt
both f (x ∷ xs) h g = (f x h.0 g.0, both f xs h.1 g.1)

pub rising : (sizes : List Size) (past : List Event) → IsStepped (accesses sizes past) → IsRising (accesses sizes past)
rising sizes [] h = tt
rising sizes (Noted step lane touch ∷ past) h =
    (both (λ y lt up. (lt, (λ same. subst (λ (r : ℕ). y.epoch ≤ epoch_in (space_at sizes r) (epochs_of past)) same up))) (accesses sizes past) h.0 (reached sizes past), rising sizes past h.1)
rising sizes (Passed space ∷ past) h = rising sizes past h

kept_if : (Q : Mark → Type 0) (b : Bool) (m : Mark) (past : List Mark) → (b ≡ true → Q m) → AllMarks Q past → AllMarks Q (mark_if b m past)
kept_if Q true m past f h = (f refl, h)
kept_if Q false m past f h = h

marks_all : (P : Access → Type 0) (Q : Mark → Type 0) (r w : ℕ) → ((y : Access) → touches r w y.touch ≡ true → P y → Q (mark_of y)) → (xs : List Access) → AllAccesses P xs → AllMarks Q (marks_at r w xs)
marks_all P Q r w f [] h = tt
marks_all P Q r w f (x ∷ xs) h = kept_if Q (touches r w x.touch) (mark_of x) (marks_at r w xs) (λ is. f x is h.0) (marks_all P Q r w f xs h.1)

root_is : (r w : ℕ) (t : Touch) → touches r w t ≡ true → t.root ≡ r
root_is r w t e = eqb-true t.root r (and_parts (t.root == r) (covers w t) e).0

past_if : (b : Bool) (m : Mark) (past : List Mark) → (b ≡ true → AllMarks (λ n. (n.act.step < m.act.step) × (n.epoch ≤ m.epoch)) past) → IsPast past → IsPast (mark_if b m past)
past_if true m past f h = (f refl, h)
past_if false m past f h = h

pub marks_past : (r w : ℕ) (xs : List Access) → IsRising xs → IsPast (marks_at r w xs)
marks_past r w [] h = tt
marks_past r w (x ∷ xs) h =
    past_if (touches r w x.touch) (mark_of x) (marks_at r w xs)
    (λ is. marks_all (IsBefore x) (λ n. (n.act.step < x.step) × (n.epoch ≤ x.epoch)) r w (λ y t before. (before.0, before.1 (root_is r w y.touch t ∙ sym (root_is r w x.touch is)))) xs h.0)
    (marks_past r w xs h.1)

-- ---- words

row_stays : (x : Access) (xs : List Access) (r w n : ℕ) → (x.touch.root == r) ≡ false → row xs r w n ≡ row (x ∷ xs) r w n
row_stays x xs r w zero e = refl
row_stays x xs r w (suc n) e = rw (e, row_stays x xs r (suc w) n e) refl

row_noted : (x : Access) (xs : List Access) (r w n : ℕ) → (x.touch.root == r) ≡ true → IsRising (x ∷ xs) → noted_words (noted x.epoch (act_of x)) x.touch w (row xs r w n) ≡ row (x ∷ xs) r w n
row_noted x xs r w zero e h = refl
row_noted x xs r w (suc n) e h = rw (e, row_noted x xs r (suc w) n e h) (ap (λ c. c ∷ row (x ∷ xs) r (suc w) n) (by (covers w x.touch) refl))
  where
    by : (b : Bool) → covers w x.touch ≡ b → (if b then noted x.epoch (act_of x) (cells_of (marks_at r w xs)) else cells_of (marks_at r w xs)) ≡ cells_of (mark_if b (mark_of x) (marks_at r w xs))
    by false is = refl
    by true is =
        let so : touches r w x.touch ≡ true = rw (e, is) refl in
        cells_follow (mark_of x) (marks_at r w xs) (subst (λ (b : Bool). IsPast (mark_if b (mark_of x) (marks_at r w xs))) so (marks_past r w (x ∷ xs) h))

-- ---- roots

other_root : (i j : ℕ) → (i ≡ j → ⊥) → (i == j) ≡ false
other_root i j f = not_true (i == j) (λ e. f (eqb-true i j e))

roots_stay : (x : Access) (xs : List Access) (r : ℕ) (sizes : List Size) → x.touch.root < r → roots_from xs r sizes ≡ roots_from (x ∷ xs) r sizes
roots_stay x xs r [] h = refl
roots_stay x xs r (s ∷ sizes) h =
    rw (row_stays x xs r 0 s.words (other_root x.touch.root r (λ e. absurd (omega arith))), roots_stay x xs (suc r) sizes (omega arith)) refl

roots_noted : (x : Access) (xs : List Access) (e : Epochs) (r n : ℕ) (sizes : List Size) → x.touch.root ≡ r + n → epoch_in (space_at sizes n) e ≡ x.epoch → IsRising (x ∷ xs)
    → changed (λ root. noted_root (epoch_in root.space e) (act_of x) x.touch root) n (roots_from xs r sizes) ≡ roots_from (x ∷ xs) r sizes
roots_noted x xs e r n [] is same h = refl
roots_noted x xs e r zero (s ∷ sizes) is same h =
    rw (same, row_noted x xs r 0 s.words (eq-eqb x.touch.root r (omega arith)) h, roots_stay x xs (suc r) sizes (omega arith)) refl
roots_noted x xs e r (suc n) (s ∷ sizes) is same h =
    rw (row_stays x xs r 0 s.words (other_root x.touch.root r (λ e. absurd (omega arith))), roots_noted x xs e (suc r) n sizes (omega arith) same h) refl

pub note_leads : NoteLeads
note_leads sizes past book step lane touch h above = record {
  steps = (above, h.steps);
  cells =
      ap (noted_book step lane touch) h.cells
      ∙ ap (λ roots. record { roots = roots; epochs = epochs_of past })
      (roots_noted (access_of sizes step lane touch past) (accesses sizes past) (epochs_of past) 0 touch.root sizes (omega arith) refl (rising sizes (Noted step lane touch ∷ past) (above, h.steps)));
}

pub barrier_leads : BarrierLeads
barrier_leads sizes past book space h = record { steps = h.steps; cells = ap (passed_book space) h.cells }

-- ---- races

words_tell : (xs : List Access) (r w n : ℕ) → word_races r w (row xs r w n) ≡ races_in xs r w n
words_tell xs r w zero = refl
words_tell xs r w (suc n) = ap (race_then r w (race_of (marks_at r w xs))) (words_tell xs r (suc w) n)

roots_tell : (xs : List Access) (r : ℕ) (sizes : List Size) → root_races r (roots_from xs r sizes) ≡ races_from xs r sizes
roots_tell xs r [] = refl
roots_tell xs r (s ∷ sizes) = rw (words_tell xs r 0 s.words, roots_tell xs (suc r) sizes) refl

pub races_tell : RacesTell
races_tell sizes past book h = ap book_races h.cells ∙ roots_tell (accesses sizes past) 0 sizes
