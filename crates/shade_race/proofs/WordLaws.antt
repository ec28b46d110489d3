-- The cells of a word follow from the cells before its last access.
use Rattle.std.proofs.Common.{◌≡◌, ℕ, ◌<◌, ◌≤◌, Bool, true, false, not, ◌&&◌, List, [], ◌∷◌, Option, Some, None, refl, ap, sym, ◌∙◌, subst, arith}
use Rattle.std.specs.Prelude.{◌==◌, ◌||◌, nat_lt, if◌then◌else◌}
use Rattle.std.proofs.lemmas.Bool.{eqb-true, eq-eqb}
use Rattle.shade_values.specs.declared.touch.TouchKind.{TouchKind}
use Rattle.shade_values.specs.declared.touch.TouchKind.TheVariants.{Read, Write, Atomic}
use Rattle.shade_race.specs.declared.access.LaneAccess.{LaneAccess}
use Rattle.shade_race.specs.declared.cells.Firsts.{Firsts}
use Rattle.shade_race.specs.Word.{Mark, same_kind, collide, races, or_else, when, first_of, pair, race_of, last_epoch, is_of, is_other, other_than, firsts_of, cells_in, cells_of, pick_from, pick, earlier, rival_by, rival, noted_by, noted_first, fresh, kept_by, kept, raced, AllMarks, IsPast, CellsFollow, SixSuffice}
use Rattle.shade_race.proofs.Logic.{false_true, not_true, no_some, or_none, none_when, some_when}

-- ---- the first of some accesses

first_same : (p q : Mark → Bool) → ((m : Mark) → p m ≡ q m) → (past : List Mark) → first_of p past ≡ first_of q past
first_same p q h [] = refl
first_same p q h (m ∷ past) = rw (first_same p q h past, h m) refl

pub none_parts : (o : Option LaneAccess) (b : Bool) (a : LaneAccess) → or_else o (when b a) ≡ None → (o ≡ None) × (b ≡ false)
none_parts (Some x) b a e = no_some x (sym e)
none_parts None b a e = (refl, none_when b a e)

-- fewer accesses, and none of the more
none_fewer : (p q : Mark → Bool) → ((m : Mark) → p m ≡ false → q m ≡ false) → (past : List Mark) → first_of p past ≡ None → first_of q past ≡ None
none_fewer p q h [] e = refl
none_fewer p q h (m ∷ past) e =
    let parts : (first_of p past ≡ None) × (p m ≡ false) = none_parts (first_of p past) (p m) m.act e in
    rw (none_fewer p q h past parts.0, h m parts.1) refl

none_all : (p : Mark → Bool) (past : List Mark) → AllMarks (λ m. p m ≡ false) past → first_of p past ≡ None
none_all p [] h = refl
none_all p (m ∷ past) h = rw (none_all p past h.1, h.0) refl

pub all_more : {P Q : Mark → Type 0} → ((m : Mark) → P m → Q m) → (past : List Mark) → AllMarks P past → AllMarks Q past
all_more f [] h = tt
all_more f (m ∷ past) h = (f m h.0, all_more f past h.1)

pub or_some : (o : Option LaneAccess) (b : Bool) (a x : LaneAccess) {C : Type 0} → or_else o (when b a) ≡ Some x → (o ≡ Some x → C) → (o ≡ None → b ≡ true → a ≡ x → C) → C
or_some (Some y) b a x e f g = f e
or_some None b a x e f g = g refl (some_when b a x e).0 (some_when b a x e).1

-- the first, where it is among the fewer too
first_and : (p : Mark → Bool) (q : LaneAccess → Bool) (x : LaneAccess) → q x ≡ true → (past : List Mark) → first_of p past ≡ Some x → first_of (λ m. p m && q m.act) past ≡ Some x
first_and p q x t [] e = no_some x e
first_and p q x t (m ∷ past) e =
    or_some (first_of p past) (p m) m.act x e
    (λ before. rw (first_and p q x t past before) refl)
    (λ none is same.
    rw (none_fewer p (λ n. p n && q n.act) (λ n f. rw f refl) past none, is, ap q same ∙ t) (ap Some same))

pub first_below : (p : Mark → Bool) (s : ℕ) (x : LaneAccess) (past : List Mark) → AllMarks (λ n. n.act.step < s) past → first_of p past ≡ Some x → x.step < s
first_below p s x [] h e = no_some x e
first_below p s x (m ∷ past) h e =
    or_some (first_of p past) (p m) m.act x e
    (λ before. first_below p s x past h.1 before)
    (λ none is same. subst (λ (a : LaneAccess). a.step < s) same h.0)

-- ---- the lesser step

earlier_none : (o : Option LaneAccess) → earlier o None ≡ o
earlier_none None = refl
earlier_none (Some x) = refl

pub lt_true : (a b : ℕ) → a < b → nat_lt a b ≡ true
lt_true a b h = grind (arith)

lt_false : (a b : ℕ) → b < a → nat_lt a b ≡ false
lt_false a b h = grind (arith)

-- one more access after two firsts, of either and of both
earlier_more : (o r : Option LaneAccess) (b c : Bool) (a : LaneAccess) → ((x : LaneAccess) → o ≡ Some x → x.step < a.step) → ((x : LaneAccess) → r ≡ Some x → x.step < a.step)
    → or_else (earlier o r) (when (b || c) a) ≡ earlier (or_else o (when b a)) (or_else r (when c a))
earlier_more (Some x) (Some y) b c a f g = by (nat_lt x.step y.step)
  where
    by : (t : Bool) → or_else (if t then Some x else Some y) (when (b || c) a) ≡ (if t then Some x else Some y)
    by true = refl
    by false = refl
earlier_more (Some x) None b true a f g = rw (lt_true x.step a.step (f x refl)) refl
earlier_more (Some x) None b false a f g = refl
earlier_more None (Some y) true c a f g = rw (lt_false a.step y.step (g y refl)) refl
earlier_more None (Some y) false c a f g = refl
earlier_more None None true true a f g = by (nat_lt a.step a.step)
  where
    by : (t : Bool) → Some a ≡ (if t then Some a else Some a)
    by true = refl
    by false = refl
earlier_more None None true false a f g = refl
earlier_more None None false true a f g = refl
earlier_more None None false false a f g = refl

-- the first of two sorts is the lesser of the firsts
first_either : (p q : Mark → Bool) (past : List Mark) → IsPast past → first_of (λ m. p m || q m) past ≡ earlier (first_of p past) (first_of q past)
first_either p q [] h = refl
first_either p q (m ∷ past) h =
    let below : AllMarks (λ n. n.act.step < m.act.step) past = all_more (λ n g. g.0) past h.0 in
    rw (first_either p q past h.1)
    (earlier_more (first_of p past) (first_of q past) (p m) (q m) m.act (λ x e. first_below p m.act.step x past below e) (λ x e. first_below q m.act.step x past below e))

-- ---- what six cells tell

-- of one kind: the first access by another lane
pick_tells : (e : ℕ) (k : TouchKind) (a : LaneAccess) (past : List Mark) → pick a (firsts_of e k past) ≡ first_of (is_other e k a.lane) past
pick_tells e k a past = by (first_of (is_of e k) past) refl
  where
    other : (x : LaneAccess) (t : Bool) → (x.lane == a.lane) ≡ t → first_of (is_of e k) past ≡ Some x → (if t then first_of (is_other e k x.lane) past else Some x) ≡ first_of (is_other e k a.lane) past
    other x true lanes is = ap (λ l. first_of (is_other e k l) past) (eqb-true x.lane a.lane lanes)
    other x false lanes is = sym (first_and (is_of e k) (λ y. not (y.lane == a.lane)) x (rw lanes refl) past is)

    by : (o : Option LaneAccess) → first_of (is_of e k) past ≡ o → pick_from o (other_than e k o past) a ≡ first_of (is_other e k a.lane) past
    by None is = sym (none_fewer (is_of e k) (is_other e k a.lane) (λ m f. rw f refl) past is)
    by (Some x) is = other x (x.lane == a.lane) refl is

read_rivals : (e l : Bool) (k : TouchKind) → (not l && (e && collide k Read)) ≡ (((e && same_kind k Write) && not l) || ((e && same_kind k Atomic) && not l))
read_rivals true true Read = refl
read_rivals true true Write = refl
read_rivals true true Atomic = refl
read_rivals true false Read = refl
read_rivals true false Write = refl
read_rivals true false Atomic = refl
read_rivals false true k = refl
read_rivals false false k = refl

write_rivals : (e l : Bool) (k : TouchKind) → (not l && (e && collide k Write)) ≡ (((e && same_kind k Read) && not l) || (((e && same_kind k Write) && not l) || ((e && same_kind k Atomic) && not l)))
write_rivals true true Read = refl
write_rivals true true Write = refl
write_rivals true true Atomic = refl
write_rivals true false Read = refl
write_rivals true false Write = refl
write_rivals true false Atomic = refl
write_rivals false true k = refl
write_rivals false false k = refl

atomic_rivals : (e l : Bool) (k : TouchKind) → (not l && (e && collide k Atomic)) ≡ (((e && same_kind k Read) && not l) || ((e && same_kind k Write) && not l))
atomic_rivals true true Read = refl
atomic_rivals true true Write = refl
atomic_rivals true true Atomic = refl
atomic_rivals true false Read = refl
atomic_rivals true false Write = refl
atomic_rivals true false Atomic = refl
atomic_rivals false true k = refl
atomic_rivals false false k = refl

abbrev races_by : TouchKind → ℕ → ℕ → Mark → Bool
races_by k e lane n = not (n.act.lane == lane) && ((n.epoch == e) && collide n.act.kind k)

rivals_tell : (k : TouchKind) (e : ℕ) (a : LaneAccess) (past : List Mark) → IsPast past → rival_by k a (cells_in e past) ≡ first_of (races_by k e a.lane) past
rivals_tell Read e a past h =
    rw (pick_tells e Write a past, pick_tells e Atomic a past)
    (sym (first_same (races_by Read e a.lane) (λ n. is_other e Write a.lane n || is_other e Atomic a.lane n) (λ n. read_rivals (n.epoch == e) (n.act.lane == a.lane) n.act.kind) past
    ∙ first_either (is_other e Write a.lane) (is_other e Atomic a.lane) past h))
rivals_tell Write e a past h =
    rw (pick_tells e Read a past, pick_tells e Write a past, pick_tells e Atomic a past)
    (sym (first_same (races_by Write e a.lane) (λ n. is_other e Read a.lane n || (is_other e Write a.lane n || is_other e Atomic a.lane n)) (λ n. write_rivals (n.epoch == e) (n.act.lane == a.lane) n.act.kind) past
    ∙ first_either (is_other e Read a.lane) (λ n. is_other e Write a.lane n || is_other e Atomic a.lane n) past h
    ∙ ap (earlier (first_of (is_other e Read a.lane) past)) (first_either (is_other e Write a.lane) (is_other e Atomic a.lane) past h)))
rivals_tell Atomic e a past h =
    rw (pick_tells e Read a past, pick_tells e Write a past)
    (sym (first_same (races_by Atomic e a.lane) (λ n. is_other e Read a.lane n || is_other e Write a.lane n) (λ n. atomic_rivals (n.epoch == e) (n.act.lane == a.lane) n.act.kind) past
    ∙ first_either (is_other e Read a.lane) (is_other e Write a.lane) past h))

-- Six cells suffice: the first access of a word with which one races is the least of those kept.
pub rival_tells : (m : Mark) (past : List Mark) → IsPast past → rival m.act (cells_in m.epoch past) ≡ first_of (races m) past
rival_tells m past h = rivals_tell m.act.kind m.epoch m.act past h

-- ---- nothing of an older epoch

older : (e : ℕ) (past : List Mark) → IsPast past → last_epoch past < e → AllMarks (λ n. n.epoch < e) past
older e [] h lt = tt
older e (m ∷ past) h lt = (lt, all_more (λ n g. let le : n.epoch ≤ m.epoch = g.1 in omega arith) past h.0)

not_of : (e : ℕ) (k : TouchKind) (n : Mark) → n.epoch < e → is_of e k n ≡ false
not_of e k n lt = rw (not_true (n.epoch == e) (λ t. let same : n.epoch ≡ e = eqb-true n.epoch e t in absurd (omega arith))) refl

none_older : (e : ℕ) (k : TouchKind) (past : List Mark) → IsPast past → last_epoch past < e → firsts_of e k past ≡ record { first = None; other = None }
none_older e k past h lt = rw (none_all (is_of e k) past (all_more (λ n g. not_of e k n g) past (older e past h lt))) refl

none_of_none : (e : ℕ) (k : TouchKind) → firsts_of e k [] ≡ record { first = None; other = None }
none_of_none e k = refl

pub fresh_tells : (e : ℕ) (past : List Mark) → IsPast past → last_epoch past ≤ e → fresh e (cells_of past) ≡ cells_in e past
fresh_tells e past h le = by (last_epoch past == e) refl
  where
    by : (b : Bool) → (last_epoch past == e) ≡ b
        → (if b then cells_of past else record { race = race_of past; epoch = e; reads = record { first = None; other = None }; writes = record { first = None; other = None }; atomics = record { first = None; other = None } }) ≡ cells_in e past
    by true is = ap (λ d. cells_in d past) (eqb-true (last_epoch past) e is)
    by false is =
        let lt : last_epoch past < e = below (last_epoch past) e le is in
        rw (none_older e Read past h lt, none_older e Write past h lt, none_older e Atomic past h lt) refl
      where
        below : (d f : ℕ) → d ≤ f → (d == f) ≡ false → d < f
        below d f g not_same = grind (arith, eq-eqb)

last_below : (m : Mark) (past : List Mark) → IsPast (m ∷ past) → last_epoch past ≤ m.epoch
last_below m [] h = omega arith
last_below m (n ∷ past) h = h.0.0.1

pub six_suffice : SixSuffice
six_suffice m past h = ap (rival m.act) (fresh_tells m.epoch past h.1 (last_below m past h)) ∙ rival_tells m past h.1

-- ---- the firsts with one more access

eqb_refl : (n : ℕ) → (n == n) ≡ true
eqb_refl n = eq-eqb n n refl

kind_refl : (k : TouchKind) → same_kind k k ≡ true
kind_refl Read = refl
kind_refl Write = refl
kind_refl Atomic = refl

-- of another kind
firsts_stay : (m : Mark) (k : TouchKind) (past : List Mark) → same_kind m.act.kind k ≡ false → firsts_of m.epoch k (m ∷ past) ≡ firsts_of m.epoch k past
firsts_stay m k past other =
    rw (eqb_refl m.epoch, other, or_none (first_of (is_of m.epoch k) past)) (by (first_of (is_of m.epoch k) past))
  where
    by : (o : Option LaneAccess)
        → ◌≡◌ {A = Firsts} (record { first = o; other = other_than m.epoch k o (m ∷ past) }) (record { first = o; other = other_than m.epoch k o past })
    by None = refl
    by (Some x) = rw (eqb_refl m.epoch, other, or_none (first_of (is_other m.epoch k x.lane) past)) refl

eqb_sym : (i j : ℕ) (t : Bool) → (i == j) ≡ t → (j == i) ≡ t
eqb_sym i j true is = eq-eqb j i (sym (eqb-true i j is))
eqb_sym i j false is = not_true (j == i) (λ e. false_true (i == j) is (eq-eqb i j (sym (eqb-true j i e))))

abbrev more_of : Mark → TouchKind → List Mark → Option LaneAccess → Firsts
more_of m k past o = record { first = or_else o (when (is_of m.epoch k m) m.act); other = other_than m.epoch k (or_else o (when (is_of m.epoch k m) m.act)) (m ∷ past) }

abbrev one_of : Mark → TouchKind → List Mark → Option LaneAccess → Firsts
one_of m k past o = record { first = o; other = other_than m.epoch k o (m ∷ past) }

pub and_false : (b : Bool) → (b && false) ≡ false
and_false true = refl
and_false false = refl

no_other : (m : Mark) (k : TouchKind) (past : List Mark) → first_of (is_of m.epoch k) past ≡ None → first_of (is_other m.epoch k m.act.lane) (m ∷ past) ≡ None
no_other m k past none =
    ap (λ o. or_else o (when (is_other m.epoch k m.act.lane m) m.act)) (none_fewer (is_of m.epoch k) (is_other m.epoch k m.act.lane) (λ n f. rw f refl) past none)
    ∙ ap (λ t. when (is_of m.epoch k m && not t) m.act) (eqb_refl m.act.lane)
    ∙ ap (λ t. when t m.act) (and_false (is_of m.epoch k m))

-- of its kind
firsts_more : (m : Mark) (k : TouchKind) (past : List Mark) → same_kind m.act.kind k ≡ true → noted_first m.act (firsts_of m.epoch k past) ≡ firsts_of m.epoch k (m ∷ past)
firsts_more m k past same = by (first_of (is_of m.epoch k) past) refl
  where
    is_so : is_of m.epoch k m ≡ true
    is_so = rw (eqb_refl m.epoch, same) refl

    other : (x : LaneAccess) (t : Bool) → (x.lane == m.act.lane) ≡ t
        → (if t then first_of (is_other m.epoch k x.lane) past else or_else (first_of (is_other m.epoch k x.lane) past) (Some m.act)) ≡ first_of (is_other m.epoch k x.lane) (m ∷ past)
    other x true is = rw (eqb_refl m.epoch, same, eqb_sym x.lane m.act.lane true is, or_none (first_of (is_other m.epoch k x.lane) past)) refl
    other x false is = rw (eqb_refl m.epoch, same, eqb_sym x.lane m.act.lane false is) refl

    by : (o : Option LaneAccess) → first_of (is_of m.epoch k) past ≡ o → noted_by o (other_than m.epoch k o past) m.act ≡ more_of m k past o
    by None none = sym (ap (λ t. one_of m k past (when t m.act)) is_so ∙ ap (λ o. record { first = Some m.act; other = o }) (no_other m k past none))
    by (Some x) is = ap (λ o. record { first = Some x; other = o }) (other x (x.lane == m.act.lane) refl)

-- ---- all cells of the present epoch with one more access

raced_more : (m : Mark) (past : List Mark) → IsPast past → raced m.act (cells_in m.epoch past) ≡ race_of (m ∷ past)
raced_more m past h = ap (λ o. or_else (race_of past) (pair o m.act)) (rival_tells m past h)

kept_more : (m : Mark) (past : List Mark) (k : TouchKind) → m.act.kind ≡ k → kept_by k m.act (cells_in m.epoch past) ≡ record (cells_in m.epoch (m ∷ past)) { race = race_of past }
kept_more m past Read is =
    rw (firsts_more m Read past (ap (λ j. same_kind j Read) is), firsts_stay m Write past (ap (λ j. same_kind j Write) is), firsts_stay m Atomic past (ap (λ j. same_kind j Atomic) is)) refl
kept_more m past Write is =
    rw (firsts_more m Write past (ap (λ j. same_kind j Write) is), firsts_stay m Read past (ap (λ j. same_kind j Read) is), firsts_stay m Atomic past (ap (λ j. same_kind j Atomic) is)) refl
kept_more m past Atomic is =
    rw (firsts_more m Atomic past (ap (λ j. same_kind j Atomic) is), firsts_stay m Read past (ap (λ j. same_kind j Read) is), firsts_stay m Write past (ap (λ j. same_kind j Write) is)) refl

now_follow : (m : Mark) (past : List Mark) → IsPast past → record (kept m.act (cells_in m.epoch past)) { race = raced m.act (cells_in m.epoch past) } ≡ cells_in m.epoch (m ∷ past)
now_follow m past h =
    let kept_is : kept m.act (cells_in m.epoch past) ≡ record (cells_in m.epoch (m ∷ past)) { race = race_of past } = kept_more m past m.act.kind refl in
    λ i. record (kept_is i) { race = raced_more m past h i }

pub cells_follow : CellsFollow
cells_follow m past h =
    ap (λ c. record (kept m.act c) { race = raced m.act c }) (fresh_tells m.epoch past h.1 (last_below m past h)) ∙ now_follow m past h.1
