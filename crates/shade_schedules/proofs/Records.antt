-- No word has a recorded race exactly where no pair races.
use Rattle.std.proofs.Common.{◌≡◌, Bool, true, false, not, ◌&&◌, List, [], ◌∷◌, ◌++◌, Option, Some, None, refl, ap, sym, ◌∙◌, subst, append_assoc}
use Rattle.std.specs.Prelude.{◌==◌}
use Rattle.std.proofs.lemmas.Bool.{eqb-true, eq-eqb}
use Rattle.shade_schedules.specs.System.{Kind, Read, Write, Atomic, System}
use Rattle.shade_schedules.specs.Machine.{Access}
use Rattle.shade_schedules.specs.Races.{Among, here, there, collide, Race}
use Rattle.shade_schedules.specs.Records.{races_at, choose, first_with, pair_or, record_from, record_at, RecordsTell, record_then, records, ListsTell}
use Rattle.shade_schedules.proofs.Lists.{false_true, not_true, and_parts, none_among, among_left, among_right}

module _ (K : System) where
  not_is : (b : Bool) → not b ≡ true → b ≡ false
  not_is true e = false_true false refl e
  not_is false e = refl

  race_of : (a : K.Address) (x y : Access K) → races_at K a x y ≡ true → Race K x y
  race_of a x y e =
      let p : (not (x.lane == y.lane) ≡ true) × ((K.covers x.touch.spot a && (K.covers y.touch.spot a && ((K.epoch_at x.epochs a == K.epoch_at y.epochs a) && collide x.touch.kind y.touch.kind))) ≡ true) = and_parts _ _ e in
      let q : (K.covers x.touch.spot a ≡ true) × ((K.covers y.touch.spot a && ((K.epoch_at x.epochs a == K.epoch_at y.epochs a) && collide x.touch.kind y.touch.kind)) ≡ true) = and_parts _ _ p.1 in
      let r : (K.covers y.touch.spot a ≡ true) × (((K.epoch_at x.epochs a == K.epoch_at y.epochs a) && collide x.touch.kind y.touch.kind) ≡ true) = and_parts _ _ q.1 in
      let s : ((K.epoch_at x.epochs a == K.epoch_at y.epochs a) ≡ true) × (collide x.touch.kind y.touch.kind ≡ true) = and_parts _ _ r.1 in
      record {
        lanes = λ same. false_true (x.lane == y.lane) (not_is (x.lane == y.lane) p.0) (eq-eqb x.lane y.lane same);
        address = a;
        one = q.0;
        other = r.0;
        epoch = eqb-true (K.epoch_at x.epochs a) (K.epoch_at y.epochs a) s.0;
        kinds = s.1;
      }

  told_by : (x y : Access K) → (r : Race K x y) → races_at K r.address x y ≡ true
  told_by x y r = rw (not_true (x.lane == y.lane) (λ e. r.lanes (eqb-true x.lane y.lane e)), r.one, r.other, eq-eqb (K.epoch_at x.epochs r.address) (K.epoch_at y.epochs r.address) r.epoch, r.kinds) refl

  collide_sym : (k l : Kind) → collide k l ≡ true → collide l k ≡ true
  collide_sym Read Read e = e
  collide_sym Read Write e = refl
  collide_sym Read Atomic e = refl
  collide_sym Write Read e = refl
  collide_sym Write Write e = refl
  collide_sym Write Atomic e = refl
  collide_sym Atomic Read e = refl
  collide_sym Atomic Write e = refl
  collide_sym Atomic Atomic e = e

  abbrev turned : (x y : Access K) → (r : Race K x y) → Race K y x
  turned x y r = record { lanes = λ e. r.lanes (sym e); address = r.address; one = r.other; other = r.one; epoch = sym r.epoch; kinds = collide_sym x.touch.kind y.touch.kind r.kinds }

  -- ---- what no record says

  none_chosen : (b : Bool) (x : Access K) (o : Option (Access K)) → choose K b x o ≡ None → (b ≡ false) × (o ≡ None)
  none_chosen true x o e = let no_one : ⊥ = cc e in absurd no_one
  none_chosen false x o e = (refl, e)

  none_first : (a : K.Address) (y x : Access K) (xs : List (Access K)) → first_with K a y xs ≡ None → Among x xs → races_at K a x y ≡ false
  none_first a y x [] e h = none_among h
  none_first a y x (z ∷ xs) e here = (none_chosen (races_at K a x y) x (first_with K a y xs) e).0
  none_first a y x (z ∷ xs) e (there h) = none_first a y x xs (none_chosen (races_at K a z y) z (first_with K a y xs) e).1 h

  none_pair : (o : Option (Access K)) (y : Access K) (p : Option (Access K × Access K)) → pair_or K o y p ≡ None → (o ≡ None) × (p ≡ None)
  none_pair None y p e = (refl, e)
  none_pair (Some x) y p e = let no_one : ⊥ = cc e in absurd no_one

  none_later : (a : K.Address) (x y : Access K) (earlier ys : List (Access K)) → record_from K a earlier ys ≡ None → Among x earlier → Among y ys → races_at K a x y ≡ false
  none_later a x y earlier [] e h g = none_among g
  none_later a x y earlier (z ∷ ys) e h here = none_first a y x earlier (none_pair (first_with K a y earlier) y (record_from K a (earlier ++ y ∷ []) ys) e).0 h
  none_later a x y earlier (z ∷ ys) e h (there g) =
      none_later a x y (earlier ++ z ∷ []) ys (none_pair (first_with K a z earlier) z (record_from K a (earlier ++ z ∷ []) ys) e).1 (among_left (z ∷ []) h) g

  no_race : (x y : Access K) (r : Race K x y) (earlier ys : List (Access K)) → record_from K r.address earlier ys ≡ None → Among x ys → Among y ys → ⊥
  no_race x y r earlier [] e h g = none_among h
  no_race x y r earlier (z ∷ ys) e here here = r.lanes refl
  no_race x y r earlier (z ∷ ys) e here (there g) =
      false_true (races_at K r.address x y) (none_later r.address x y (earlier ++ x ∷ []) ys (none_pair (first_with K r.address x earlier) x (record_from K r.address (earlier ++ x ∷ []) ys) e).1 (among_right earlier here) g) (told_by x y r)
  no_race x y r earlier (z ∷ ys) e (there h) here =
      false_true (races_at K r.address y x) (none_later r.address y x (earlier ++ y ∷ []) ys (none_pair (first_with K r.address y earlier) y (record_from K r.address (earlier ++ y ∷ []) ys) e).1 (among_right earlier here) h) (told_by y x (turned x y r))
  no_race x y r earlier (z ∷ ys) e (there h) (there g) =
      no_race x y r (earlier ++ z ∷ []) ys (none_pair (first_with K r.address z earlier) z (record_from K r.address (earlier ++ z ∷ []) ys) e).1 h g

  -- ---- no pair, no record

  no_first : (a : K.Address) (y : Access K) (xs : List (Access K)) → ((x : Access K) → Among x xs → Race K x y → ⊥) → first_with K a y xs ≡ None
  no_first a y [] h = refl
  no_first a y (x ∷ xs) h = rw (not_true (races_at K a x y) (λ e. h x here (race_of a x y e))) (no_first a y xs (λ z g. h z (there g)))

  no_record : (a : K.Address) (earlier ys : List (Access K)) → ((x y : Access K) → Among x (earlier ++ ys) → Among y (earlier ++ ys) → Race K x y → ⊥) → record_from K a earlier ys ≡ None
  no_record a earlier [] h = refl
  no_record a earlier (y ∷ ys) h =
      ap (λ o. pair_or K o y (record_from K a (earlier ++ y ∷ []) ys)) (no_first a y earlier (λ x g. h x y (among_left (y ∷ ys) g) (among_right earlier here)))
      ∙ no_record a (earlier ++ y ∷ []) ys (λ x z g f. h x z (subst (λ xs. Among x xs) (append_assoc earlier (y ∷ []) ys) g) (subst (λ xs. Among z xs) (append_assoc earlier (y ∷ []) ys) f))

  -- A history is free of races exactly where no word has a recorded race.
  pub records_tell : RecordsTell K
  records_tell history = ((λ free a. no_record a [] history free), (λ none x y h g r. no_race x y r [] history (none r.address) h g))

  none_then : (o : Option (Access K × Access K)) (others : List (Access K × Access K)) → record_then K o others ≡ [] → (o ≡ None) × (others ≡ [])
  none_then None others e = (refl, e)
  none_then (Some pair) others e = let no_one : ⊥ = cc e in absurd no_one

  none_of : (a : K.Address) (words : List K.Address) (history : List (Access K)) → records K words history ≡ [] → Among a words → record_at K a history ≡ None
  none_of a [] history e h = none_among h
  none_of a (b ∷ words) history e here = (none_then (record_at K a history) (records K words history) e).0
  none_of a (b ∷ words) history e (there h) = none_of a words history (none_then (record_at K b history) (records K words history) e).1 h

  all_none : (words : List K.Address) (history : List (Access K)) → ((a : K.Address) → record_at K a history ≡ None) → records K words history ≡ []
  all_none [] history h = refl
  all_none (a ∷ words) history h = ap (λ o. record_then K o (records K words history)) (h a) ∙ all_none words history h

  -- Where all that was touched is among some words, a history is free of races exactly where none of them has a recorded race.
  pub lists_tell : ListsTell K
  lists_tell words history inside = (
    (λ free. all_none words history ((records_tell history).0 free)),
    (λ none x y h g r. no_race x y r [] history (none_of r.address words history none (inside x r.address h r.one)) h g),
  )
