-- The races of a book are those of all pairs of its history.
use Rattle.std.proofs.Common.{◌≡◌, ℕ, zero, suc, ◌+◌, ◌<◌, ◌≤◌, Bool, true, false, not, ◌&&◌, List, [], ◌∷◌, ◌++◌, Option, Some, None, refl, ap, sym, ◌∙◌, subst, arith, inl, inr}
use Rattle.std.specs.Prelude.{◌==◌}
use Rattle.std.proofs.lemmas.Bool.{eqb-true, eq-eqb}
use Rattle.shade_values.specs.declared.touch.TouchKind.{TouchKind}
use Rattle.shade_values.specs.declared.touch.TouchKind.TheVariants.{Read, Write, Atomic}
use Rattle.shade_race.specs.declared.access.RacingPair.{RacingPair}
use Rattle.shade_race.specs.declared.access.Race.{Race}
use Rattle.shade_race.specs.Word.{Mark, collide, races, race_of, IsPast}
use Rattle.shade_race.specs.History.{Size, Event, Access, accesses, AllAccesses, IsStepped, touches, mark_of, mark_if, marks_at, race_then, races_in, races_from, races_of}
use Rattle.shade_race.specs.Meaning.{Among, here, there, IsLeast, RaceAt, IsRaceAt, words_in, Precedes, IsInOrder, HasRace, AreRaces, RacesAreLeast}
use Rattle.shade_race.proofs.Logic.{false_true, not_true, and_parts}
use Rattle.shade_race.proofs.BookLaws.{rising, marks_past, races_tell}
use Rattle.shade_race.proofs.Meaning.{record_is_least, no_record_no_race}

-- ---- lists

nothing_among : {A : Type 0} {item : A} {C : Type 0} → Among item [] → C
nothing_among h = elim h [ ]

among_cases : {A : Type 0} (x y : A) (rest : List A) {C : Type 0} → Among x (y ∷ rest) → (x ≡ y → C) → (Among x rest → C) → C
among_cases x y rest here first later = first refl
among_cases x y rest (there h) first later = later h

among_parts : {A : Type 0} (x : A) (xs ys : List A) {C : Type 0} → Among x (xs ++ ys) → (Among x xs → C) → (Among x ys → C) → C
among_parts x [] ys h left right = right h
among_parts x (y ∷ xs) ys h left right = among_cases x y (xs ++ ys) h (λ e. left (subst (λ z. Among x (z ∷ xs)) e here)) (λ g. among_parts x xs ys g (λ l. left (there l)) right)

among_left : {A : Type 0} (x : A) (xs ys : List A) → Among x xs → Among x (xs ++ ys)
among_left x [] ys h = nothing_among h
among_left x (y ∷ xs) ys here = here
among_left x (y ∷ xs) ys (there h) = there (among_left x xs ys h)

among_right : {A : Type 0} (x : A) (xs ys : List A) → Among x ys → Among x (xs ++ ys)
among_right x [] ys h = h
among_right x (y ∷ xs) ys h = there (among_right x xs ys h)

-- ---- the accesses of a word, and those of the history

among_if : (b : Bool) (m n : Mark) (past : List Mark) → Among n past → Among n (mark_if b m past)
among_if true m n past h = there h
among_if false m n past h = h

mark_among : (r w : ℕ) (x : Access) (xs : List Access) → touches r w x.touch ≡ true → Among x xs → Among (mark_of x) (marks_at r w xs)
mark_among r w x [] e h = nothing_among h
mark_among r w x (y ∷ xs) e h =
    among_cases x y xs h
    (λ same. subst (λ (z : Access). Among (mark_of x) (mark_if (touches r w z.touch) (mark_of z) (marks_at r w xs))) same (subst (λ b. Among (mark_of x) (mark_if b (mark_of x) (marks_at r w xs))) (sym e) here))
    (λ g. among_if (touches r w y.touch) (mark_of y) (mark_of x) (marks_at r w xs) (mark_among r w x xs e g))

-- an access of the history that a word's access is
record IsOf (r w : ℕ) (m : Mark) (xs : List Access) : Type 0 where
  access : Access
  among : Among access xs
  touched : touches r w access.touch ≡ true
  is : mark_of access ≡ m

of_later : (r w : ℕ) (m : Mark) (x : Access) (xs : List Access) → IsOf r w m xs → IsOf r w m (x ∷ xs)
of_later r w m x xs o = record { access = o.access; among = there o.among; touched = o.touched; is = o.is }

of_if : (r w : ℕ) (b : Bool) (m : Mark) (x : Access) (xs : List Access) → touches r w x.touch ≡ b → (Among m (marks_at r w xs) → IsOf r w m xs) → Among m (mark_if b (mark_of x) (marks_at r w xs)) → IsOf r w m (x ∷ xs)
of_if r w true m x xs e more h =
    among_cases m (mark_of x) (marks_at r w xs) h (λ same. record { access = x; among = here; touched = e; is = sym same }) (λ g. of_later r w m x xs (more g))
of_if r w false m x xs e more h = of_later r w m x xs (more h)

of_mark : (r w : ℕ) (m : Mark) (xs : List Access) → Among m (marks_at r w xs) → IsOf r w m xs
of_mark r w m [] h = nothing_among h
of_mark r w m (x ∷ xs) h = of_if r w (touches r w x.touch) m x xs refl (of_mark r w m xs) h

-- ---- two that race

not_same : (i j : ℕ) → (i ≡ j → ⊥) → (i == j) ≡ false
not_same i j f = not_true (i == j) (λ e. f (eqb-true i j e))

not_false : (b : Bool) → not b ≡ true → b ≡ false
not_false true e = false_true false refl e
not_false false e = refl

race_true : (r w : ℕ) (x y : Access) → RaceAt r w x y → races (mark_of y) (mark_of x) ≡ true
race_true r w x y race = rw (not_same x.lane y.lane race.lanes, eq-eqb x.epoch y.epoch race.epoch, race.kinds) refl

race_parts : (r w : ℕ) (x y : Access) → touches r w x.touch ≡ true → touches r w y.touch ≡ true → races (mark_of y) (mark_of x) ≡ true → RaceAt r w x y
race_parts r w x y one other e =
    let parts = and_parts (not (x.lane == y.lane)) ((x.epoch == y.epoch) && collide x.touch.kind y.touch.kind) e in
    let more = and_parts (x.epoch == y.epoch) (collide x.touch.kind y.touch.kind) parts.1 in
    record {
      one = one;
      other = other;
      lanes = λ same. false_true (x.lane == y.lane) (not_false (x.lane == y.lane) parts.0) (eq-eqb x.lane y.lane same);
      epoch = eqb-true x.epoch y.epoch more.0;
      kinds = more.1;
    }

collide_either : (k j : TouchKind) → collide k j ≡ collide j k
collide_either Read Read = refl
collide_either Read Write = refl
collide_either Read Atomic = refl
collide_either Write Read = refl
collide_either Write Write = refl
collide_either Write Atomic = refl
collide_either Atomic Read = refl
collide_either Atomic Write = refl
collide_either Atomic Atomic = refl

race_either : (r w : ℕ) (x y : Access) → RaceAt r w x y → RaceAt r w y x
race_either r w x y race = record {
  one = race.other;
  other = race.one;
  lanes = λ same. race.lanes (sym same);
  epoch = sym race.epoch;
  kinds = collide_either y.touch.kind x.touch.kind ∙ race.kinds;
}

-- ---- the steps of two accesses

access_at : (P : Access → Type 0) (x : Access) (xs : List Access) → AllAccesses P xs → Among x xs → P x
access_at P x [] all h = nothing_among h
access_at P x (y ∷ xs) all here = all.0
access_at P x (y ∷ xs) all (there h) = access_at P x xs all.1 h

by_steps : (x y : Access) (xs : List Access) {C : Type 0} → IsStepped xs → Among x xs → Among y xs → (x ≡ y → C) → (x.step < y.step → C) → (y.step < x.step → C) → C
by_steps x y [] steps h g same less more = nothing_among h
by_steps x y (z ∷ xs) steps here here same less more = same refl
by_steps x y (z ∷ xs) steps here (there g) same less more = more (access_at (λ u. u.step < x.step) y xs steps.0 g)
by_steps x y (z ∷ xs) steps (there h) here same less more = less (access_at (λ u. u.step < y.step) x xs steps.0 h)
by_steps x y (z ∷ xs) steps (there h) (there g) same less more = by_steps x y xs steps.1 h g same less more

-- ---- the race of a word

is_race : (r w : ℕ) (xs : List Access) (f : RacingPair) → IsLeast (marks_at r w xs) f → IsRaceAt r w xs f
is_race r w xs f l =
    let one : IsOf r w l.first xs = of_mark r w l.first xs l.first_among in
    let other : IsOf r w l.second xs = of_mark r w l.second xs l.second_among in
    record {
      first = one.access;
      second = other.access;
      first_among = one.among;
      second_among = other.among;
      first_is = ap (λ (m : Mark). m.act) one.is ∙ l.first_is;
      second_is = ap (λ (m : Mark). m.act) other.is ∙ l.second_is;
      before = l.before;
      race = race_parts r w one.access other.access one.touched other.touched (ap (λ (m : Mark). races m (mark_of one.access)) other.is ∙ ap (races l.second) one.is ∙ l.race);
      least = λ x y h g up race. l.least (mark_of x) (mark_of y) (mark_among r w x xs race.one h) (mark_among r w y xs race.other g) up (race_true r w x y race);
    }

no_race : (r w : ℕ) (xs : List Access) (x y : Access) → IsPast (marks_at r w xs) → race_of (marks_at r w xs) ≡ None → Among x xs → Among y xs → x.step < y.step → RaceAt r w x y → ⊥
no_race r w xs x y past none h g up race =
    false_true (races (mark_of y) (mark_of x))
    (no_record_no_race (marks_at r w xs) (mark_of x) (mark_of y) past none (mark_among r w x xs race.one h) (mark_among r w y xs race.other g) up)
    (race_true r w x y race)

no_two : (r w : ℕ) (xs : List Access) (x y : Access) → IsStepped xs → IsPast (marks_at r w xs) → race_of (marks_at r w xs) ≡ None → Among x xs → Among y xs → RaceAt r w x y → ⊥
no_two r w xs x y steps past none h g race =
    by_steps x y xs steps h g
    (λ same. race.lanes (ap (λ (z : Access). z.lane) same))
    (λ up. no_race r w xs x y past none h g up race)
    (λ down. no_race r w xs y x past none g h down (race_either r w x y race))

-- ---- a race of the list

then_parts : (r w : ℕ) (o : Option RacingPair) (rest : List Race) (race : Race) {C : Type 0} → Among race (race_then r w o rest)
    → (o ≡ Some race.found → race.root ≡ r → race.word ≡ w → C) → (Among race rest → C) → C
then_parts r w None rest race h first later = later h
then_parts r w (Some f) rest race h first later =
    among_cases race (record { root = r; word = w; found = f }) rest h
    (λ same. first (sym (ap (λ (x : Race). Some x.found) same)) (ap (λ (x : Race). x.root) same) (ap (λ (x : Race). x.word) same))
    later

then_later : (r w : ℕ) (o : Option RacingPair) (rest : List Race) (race : Race) → Among race rest → Among race (race_then r w o rest)
then_later r w None rest race h = h
then_later r w (Some f) rest race h = there h

-- a race among those of some words of a root
record IsIn (xs : List Access) (r w n : ℕ) (race : Race) : Type 0 where
  root_is : race.root ≡ r
  from : w ≤ race.word
  to : race.word < w + n
  found_is : race_of (marks_at race.root race.word xs) ≡ Some race.found

told_in : (xs : List Access) (r w n : ℕ) (race : Race) → Among race (races_in xs r w n) → IsIn xs r w n race
told_in xs r w zero race h = nothing_among h
told_in xs r w (suc n) race h =
    then_parts r w (race_of (marks_at r w xs)) (races_in xs r (suc w) n) race h
    (λ found root word. record { root_is = root; from = omega (arith, word); to = omega (arith, word); found_is = rw (root, word) found })
    (λ later.
    let t : IsIn xs r (suc w) n race = told_in xs r (suc w) n race later in
    let from : suc w ≤ race.word = t.from in
    let to : race.word < suc w + n = t.to in
    record { root_is = t.root_is; from = omega (arith, from); to = omega (arith, to); found_is = t.found_is })

-- a race among those of all roots from one on
record IsFrom (xs : List Access) (r : ℕ) (sizes : List Size) (race : Race) : Type 0 where
  number : ℕ
  root_is : race.root ≡ r + number
  within : race.word < words_in sizes number
  found_is : race_of (marks_at race.root race.word xs) ≡ Some race.found

told_from : (xs : List Access) (r : ℕ) (sizes : List Size) (race : Race) → Among race (races_from xs r sizes) → IsFrom xs r sizes race
told_from xs r [] race h = nothing_among h
told_from xs r (s ∷ sizes) race h =
    among_parts race (races_in xs r 0 s.words) (races_from xs (suc r) sizes) h
    (λ here.
    let t : IsIn xs r 0 s.words race = told_in xs r 0 s.words race here in
    let root : race.root ≡ r = t.root_is in
    let to : race.word < 0 + s.words = t.to in
    record { number = 0; root_is = omega (arith, root); within = omega (arith, to); found_is = t.found_is })
    (λ later.
    let t : IsFrom xs (suc r) sizes race = told_from xs (suc r) sizes race later in
    let root : race.root ≡ suc r + t.number = t.root_is in
    record { number = suc t.number; root_is = omega (arith, root); within = t.within; found_is = t.found_is })

-- ---- a word's race is in the list

abbrev race_at : ℕ → ℕ → RacingPair → Race
race_at r w f = record { root = r; word = w; found = f }

has_in : (xs : List Access) (r w n k v : ℕ) (f : RacingPair) → v ≡ w + k → k < n → race_of (marks_at r v xs) ≡ Some f → Among (race_at r v f) (races_in xs r w n)
has_in xs r w zero k v f e h found = absurd (omega (arith, h))
has_in xs r w (suc n) zero v f e h found =
    let same : v ≡ w = omega (arith, e) in
    subst (λ (u : ℕ). Among (race_at r v f) (race_then r u (race_of (marks_at r u xs)) (races_in xs r (suc w) n))) same
    (subst (λ o. Among (race_at r v f) (race_then r v o (races_in xs r (suc w) n))) (sym found) here)
has_in xs r w (suc n) (suc k) v f e h found =
    then_later r w (race_of (marks_at r w xs)) (races_in xs r (suc w) n) (race_at r v f) (has_in xs r (suc w) n k v f (omega (arith, e)) (omega (arith, h)) found)

has_from : (xs : List Access) (r : ℕ) (sizes : List Size) (n root word : ℕ) (f : RacingPair) → root ≡ r + n → word < words_in sizes n → race_of (marks_at root word xs) ≡ Some f
    → Among (race_at root word f) (races_from xs r sizes)
has_from xs r [] n root word f e h found = absurd (omega (arith, h))
has_from xs r (s ∷ sizes) zero root word f e h found =
    let same : root ≡ r = omega (arith, e) in
    among_left (race_at root word f) (races_in xs r 0 s.words) (races_from xs (suc r) sizes)
    (subst (λ (q : ℕ). Among (race_at root word f) (races_in xs q 0 s.words)) same (has_in xs root 0 s.words word word f (omega arith) h found))
has_from xs r (s ∷ sizes) (suc n) root word f e h found =
    among_right (race_at root word f) (races_in xs r 0 s.words) (races_from xs (suc r) sizes) (has_from xs (suc r) sizes n root word f (omega (arith, e)) h found)

-- ---- the order of the list

ordered_then : (r w : ℕ) (o : Option RacingPair) (rest : List Race) → ((y : Race) → Among y rest → (y.root ≡ r) × (w < y.word)) → IsInOrder rest → IsInOrder (race_then r w o rest)
ordered_then r w None rest f h = h
ordered_then r w (Some p) rest f h = ((λ y g. inr (sym (f y g).0, (f y g).1)), h)

ordered_in : (xs : List Access) (r w n : ℕ) → IsInOrder (races_in xs r w n)
ordered_in xs r w zero = tt
ordered_in xs r w (suc n) =
    ordered_then r w (race_of (marks_at r w xs)) (races_in xs r (suc w) n)
    (λ y g.
    let t : IsIn xs r (suc w) n y = told_in xs r (suc w) n y g in
    let from : suc w ≤ y.word = t.from in
    (t.root_is, omega (arith, from)))
    (ordered_in xs r (suc w) n)

ordered_both : (list more : List Race) → IsInOrder list → IsInOrder more → ((x y : Race) → Among x list → Among y more → Precedes x y) → IsInOrder (list ++ more)
ordered_both [] more h g f = g
ordered_both (x ∷ list) more h g f =
    ((λ y a. among_parts y list more a (h.0 y) (f x y here)), ordered_both list more h.1 g (λ z y b. f z y (there b)))

ordered_from : (xs : List Access) (r : ℕ) (sizes : List Size) → IsInOrder (races_from xs r sizes)
ordered_from xs r [] = tt
ordered_from xs r (s ∷ sizes) =
    ordered_both (races_in xs r 0 s.words) (races_from xs (suc r) sizes) (ordered_in xs r 0 s.words) (ordered_from xs (suc r) sizes)
    (λ x y a b.
    let t : IsIn xs r 0 s.words x = told_in xs r 0 s.words x a in
    let u : IsFrom xs (suc r) sizes y = told_from xs (suc r) sizes y b in
    let one : x.root ≡ r = t.root_is in
    let other : y.root ≡ suc r + u.number = u.root_is in
    inl (omega (arith, one, other)))

-- ---- the list

all_by : (sizes : List Size) (xs : List Access) (root word : ℕ) (x y : Access) (o : Option RacingPair) → IsStepped xs → IsPast (marks_at root word xs) → word < words_in sizes root → race_of (marks_at root word xs) ≡ o
    → Among x xs → Among y xs → RaceAt root word x y → HasRace root word (races_from xs 0 sizes)
all_by sizes xs root word x y None steps past h found a b race = absurd (no_two root word xs x y steps past found a b race)
all_by sizes xs root word x y (Some f) steps past h found a b race =
    record { race = race_at root word f; among = has_from xs 0 sizes root root word f (omega arith) h found; root_is = refl; word_is = refl }

races_are : (sizes : List Size) (xs : List Access) → IsStepped xs → ((r w : ℕ) → IsPast (marks_at r w xs)) → AreRaces sizes xs (races_from xs 0 sizes)
races_are sizes xs steps past = record {
  order = ordered_from xs 0 sizes;
  all = λ root word x y h a b race. all_by sizes xs root word x y (race_of (marks_at root word xs)) steps (past root word) h refl a b race;
  within = λ race h.
      let t : IsFrom xs 0 sizes race = told_from xs 0 sizes race h in
      let root : race.root ≡ 0 + t.number = t.root_is in
      let same : t.number ≡ race.root = omega (arith, root) in
      subst (λ (n : ℕ). race.word < words_in sizes n) same t.within;
  least = λ race h.
      let t : IsFrom xs 0 sizes race = told_from xs 0 sizes race h in
      is_race race.root race.word xs race.found (record_is_least (marks_at race.root race.word xs) race.found (past race.root race.word) t.found_is);
}

pub told_races : (sizes : List Size) (past : List Event) → IsStepped (accesses sizes past) → AreRaces sizes (accesses sizes past) (races_of sizes past)
told_races sizes past steps = races_are sizes (accesses sizes past) steps (λ r w. marks_past r w (accesses sizes past) (rising sizes past steps))

pub races_are_least : RacesAreLeast
races_are_least sizes past book h = subst (λ list. AreRaces sizes (accesses sizes past) list) (sym (races_tell sizes past book h)) (told_races sizes past h.steps)
