-- The recorded race is the least.
use Rattle.std.proofs.Common.{◌≡◌, ◌<◌, ◌≤◌, Bool, true, false, List, [], ◌∷◌, Option, Some, None, refl, ap, sym, subst, arith, inl, inr}
use Rattle.std.specs.Prelude.{◌⊎◌}
use Rattle.shade_race.specs.declared.access.LaneAccess.{LaneAccess}
use Rattle.shade_race.specs.declared.access.RacingPair.{RacingPair}
use Rattle.shade_race.specs.Word.{Mark, races, or_else, first_of, pair, race_of, AllMarks, IsPast}
use Rattle.shade_race.specs.Meaning.{Among, here, there, IsLeast, RecordIsLeast, NoRecordNoRace}
use Rattle.shade_race.proofs.Logic.{false_true, no_some}
use Rattle.shade_race.proofs.WordLaws.{none_parts, all_more, or_some, first_below}

none_among : {m : Mark} {C : Type 0} → Among m [] → C
none_among h = elim h [ ]

all_at : (P : Mark → Type 0) (n : Mark) (past : List Mark) → AllMarks P past → Among n past → P n
all_at P n [] h g = none_among g
all_at P n (m ∷ past) h here = h.0
all_at P n (m ∷ past) h (there g) = all_at P n past h.1 g

none_means : (p : Mark → Bool) (n : Mark) (past : List Mark) → first_of p past ≡ None → Among n past → p n ≡ false
none_means p n [] e h = none_among h
none_means p n (m ∷ past) e here = (none_parts (first_of p past) (p n) n.act e).1
none_means p n (m ∷ past) e (there h) = none_means p n past (none_parts (first_of p past) (p m) m.act e).0 h

record IsFirst (p : Mark → Bool) (x : LaneAccess) (past : List Mark) : Type 0 where
  pub mark : Mark
  pub among : Among mark past
  pub is : mark.act ≡ x
  pub so : p mark ≡ true
  pub least : (n : Mark) → Among n past → p n ≡ true → x.step ≤ n.act.step

below : (m : Mark) (past : List Mark) → IsPast (m ∷ past) → AllMarks (λ n. n.act.step < m.act.step) past
below m past h = all_more (λ n g. g.0) past h.0

least_later : (p : Mark → Bool) (x : LaneAccess) (m : Mark) (past : List Mark) → x.step < m.act.step → ((n : Mark) → Among n past → p n ≡ true → x.step ≤ n.act.step)
    → (n : Mark) → Among n (m ∷ past) → p n ≡ true → x.step ≤ n.act.step
least_later p x m past lt f n here e = omega arith
least_later p x m past lt f n (there h) e = f n h e

least_now : (p : Mark → Bool) (m : Mark) (past : List Mark) → first_of p past ≡ None → (n : Mark) → Among n (m ∷ past) → p n ≡ true → m.act.step ≤ n.act.step
least_now p m past none n here e = omega arith
least_now p m past none n (there h) e = false_true (p n) (none_means p n past none h) e

first_means : (p : Mark → Bool) (x : LaneAccess) (past : List Mark) → IsPast past → first_of p past ≡ Some x → IsFirst p x past
first_means p x [] h e = no_some x e
first_means p x (m ∷ past) h e =
    or_some (first_of p past) (p m) m.act x e
    (λ before.
    let f : IsFirst p x past = first_means p x past h.1 before in
    record { mark = f.mark; among = there f.among; is = f.is; so = f.so; least = least_later p x m past (first_below p m.act.step x past (below m past h) before) f.least })
    (λ none so is.
    record { mark = m; among = here; is = is; so = so; least = λ n g t. subst (λ (a : LaneAccess). a.step ≤ n.act.step) is (least_now p m past none n g t) })

no_pair : (o : Option RacingPair) (first : Option LaneAccess) (a : LaneAccess) → or_else o (pair first a) ≡ None → (o ≡ None) × (first ≡ None)
no_pair (Some f) first a e = no_some f (sym e)
no_pair None None a e = (refl, refl)
no_pair None (Some x) a e = no_some (record { first = x; second = a }) (sym e)

pub no_record_no_race : NoRecordNoRace
no_record_no_race [] n m h e a b lt = none_among a
no_record_no_race (k ∷ past) n m h e here here lt = absurd (omega arith)
no_record_no_race (k ∷ past) n m h e (there a) here lt = none_means (races m) n past (no_pair (race_of past) (first_of (races m) past) m.act e).1 a
no_record_no_race (k ∷ past) n m h e here (there b) lt = let up : m.act.step < n.act.step = all_at (λ j. j.act.step < n.act.step) m past (below n past h) b in absurd (omega arith)
no_record_no_race (k ∷ past) n m h e (there a) (there b) lt = no_record_no_race past n m h.1 (no_pair (race_of past) (first_of (races k) past) k.act e).0 a b lt

one_pair : (o : Option RacingPair) (first : Option LaneAccess) (a : LaneAccess) (f : RacingPair) {C : Type 0} → or_else o (pair first a) ≡ Some f → (o ≡ Some f → C) → (o ≡ None → first ≡ Some f.first → a ≡ f.second → C) → C
one_pair (Some g) first a f e old new = old e
one_pair None None a f e old new = no_some f e
one_pair None (Some x) a f e old new =
    let is : record { first = x; second = a } ≡ f = cc e in
    new refl (ap (λ (g : RacingPair). Some g.first) is) (ap (λ (g : RacingPair). g.second) is)

abbrev AtMost : RacingPair → Mark → Mark → Type 0
AtMost f n m = (f.second.step < m.act.step) ⊎ ((f.second.step ≡ m.act.step) × (f.first.step ≤ n.act.step))

least_kept : (k : Mark) (past : List Mark) (f : RacingPair) → IsPast (k ∷ past) → f.second.step < k.act.step → ((n m : Mark) → Among n past → Among m past → n.act.step < m.act.step → races m n ≡ true → AtMost f n m)
    → (n m : Mark) → Among n (k ∷ past) → Among m (k ∷ past) → n.act.step < m.act.step → races m n ≡ true → AtMost f n m
least_kept k past f h lt old n m a here up e = inl lt
least_kept k past f h lt old n m here (there b) up e = let no : m.act.step < n.act.step = all_at (λ j. j.act.step < n.act.step) m past (below n past h) b in absurd (omega arith)
least_kept k past f h lt old n m (there a) (there b) up e = old n m a b up e

least_new : (k : Mark) (past : List Mark) (f : RacingPair) → IsPast (k ∷ past) → k.act ≡ f.second → race_of past ≡ None → ((n : Mark) → Among n past → races k n ≡ true → f.first.step ≤ n.act.step)
    → (n m : Mark) → Among n (k ∷ past) → Among m (k ∷ past) → n.act.step < m.act.step → races m n ≡ true → AtMost f n m
least_new k past f h is none least n m here here up e = absurd (omega arith)
least_new k past f h is none least n m (there a) here up e = inr (sym (ap (λ (x : LaneAccess). x.step) is), least n a e)
least_new k past f h is none least n m here (there b) up e = let no : m.act.step < n.act.step = all_at (λ j. j.act.step < n.act.step) m past (below n past h) b in absurd (omega arith)
least_new k past f h is none least n m (there a) (there b) up e = false_true (races m n) (no_record_no_race past n m h.1 none a b up) e

pub record_is_least : RecordIsLeast
record_is_least [] f h e = no_some f e
record_is_least (k ∷ past) f h e =
    one_pair (race_of past) (first_of (races k) past) k.act f e
    (λ old.
    let r : IsLeast past f = record_is_least past f h.1 old in
    let lt : r.second.act.step < k.act.step = all_at (λ j. j.act.step < k.act.step) r.second past (below k past h) r.second_among in
    record {
      first = r.first;
      second = r.second;
      first_among = there r.first_among;
      second_among = there r.second_among;
      first_is = r.first_is;
      second_is = r.second_is;
      before = r.before;
      race = r.race;
      least = least_kept k past f h (subst (λ (a : LaneAccess). a.step < k.act.step) r.second_is lt) r.least;
    })
    (λ none first is.
    let g : IsFirst (races k) f.first past = first_means (races k) f.first past h.1 first in
    let lt : g.mark.act.step < k.act.step = all_at (λ j. j.act.step < k.act.step) g.mark past (below k past h) g.among in
    record {
      first = g.mark;
      second = k;
      first_among = there g.among;
      second_among = here;
      first_is = g.is;
      second_is = is;
      before = subst (λ (a : LaneAccess). f.first.step < a.step) is (subst (λ (a : LaneAccess). a.step < k.act.step) g.is lt);
      race = g.so;
      least = least_new k past f h is none g.least;
    })
