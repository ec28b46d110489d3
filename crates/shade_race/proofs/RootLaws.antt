-- Roots as a book is seen.
use Rattle.std.proofs.Common.{◌≡◌, ℕ, zero, suc, ◌+◌, ◌<◌, ◌≤◌, List, [], ◌∷◌, ◌++◌, map, drop, length, get_or, refl, ap, sym, ◌∙◌, subst, arith, add-one, inl, inr}
use Rattle.std.specs.Prelude.{slice_set, ◌⊎◌, Bool, true, false, min}
use Rattle.std.proofs.Math.Dec.{leb}
use Rattle.std.proofs.Math.Nat.{min-eq_left, min-eq_right}
use Rattle.std.proofs.lemmas.Bool.{leb-true, leb-false}
use Rattle.shade_race.specs.declared.access.LaneAccess.{LaneAccess}
use Rattle.shade_race.specs.declared.access.Race.{Race}
use Rattle.shade_values.specs.declared.touch.Touch.{Touch}
use Rattle.shade_values.specs.declared.types.Space.{Space}
use Rattle.shade_race.specs.declared.epochs.Epochs.{Epochs}
use Rattle.shade_race.specs.declared.root.Root.{Root}
use Rattle.shade_race.specs.Word.{cells_of}
use Rattle.shade_race.specs.History.{sizes_of, epoch_in, RootCells, row, roots_from, Size, noted_root, changed, words_at, word_races, root_races}
use Rattle.shade_race.specs.Roots.{seen_root, AreUnnamed}
use Rattle.shade_race.proofs.ListLaws.{get_default}

more : (w n : ℕ) → row [] 0 w n ++ cells_of [] ∷ [] ≡ row [] 0 w (suc n)
more w zero = refl
more w (suc n) = ap (λ cs. cells_of [] ∷ cs) (more (suc w) n)

pub row_more : (n : ℕ) → row [] 0 0 n ++ cells_of [] ∷ [] ≡ row [] 0 0 (n + 1)
row_more n = rw add-one (more 0 n)

pub row_length : (w n : ℕ) → length (row [] 0 w n) ≡ n
row_length w zero = refl
row_length w (suc n) = ap suc (row_length (suc w) n)

pub row_any : (r w v n : ℕ) → row [] r w n ≡ row [] 0 v n
row_any r w v zero = refl
row_any r w v (suc n) = ap (λ cs. cells_of [] ∷ cs) (row_any r (suc w) (suc v) n)

pub words_seen : (roots : List Root) (n : ℕ) (d : Root) → n < length roots → words_at n (map seen_root roots) ≡ length (get_or roots n d).cells.items
words_seen [] n d h = absurd (omega arith)
words_seen (root ∷ roots) zero d h = refl
words_seen (root ∷ roots) (suc n) d h = words_seen roots n d (omega arith)

pub words_past : (roots : List Root) (n : ℕ) → length roots ≤ n → 0 ≡ words_at n (map seen_root roots)
words_past [] n h = refl
words_past (root ∷ roots) zero h = absurd (omega arith)
words_past (root ∷ roots) (suc n) h = words_past roots n (omega arith)

changed_seen : (f : RootCells → RootCells) (roots : List Root) (n : ℕ) (d new : Root) → n < length roots → seen_root new ≡ f (seen_root (get_or roots n d)) → map seen_root (slice_set roots n new) ≡ changed f n (map seen_root roots)
changed_seen f [] n d new h e = absurd (omega arith)
changed_seen f (root ∷ roots) zero d new h e = ap (λ x. x ∷ map seen_root roots) e
changed_seen f (root ∷ roots) (suc n) d new h e = ap (λ xs. seen_root root ∷ xs) (changed_seen f roots n d new (omega arith) e)

pub book_changed : (roots : List Root) (n e : ℕ) (epochs : Epochs) (a : LaneAccess) (t : Touch) (i m new : Root) → n < length roots → i ≡ get_or roots n i → m ≡ get_or roots n m → e ≡ epoch_in i.space epochs
    → seen_root new ≡ noted_root e a t (seen_root m) → map seen_root (slice_set roots n new) ≡ changed (λ root. noted_root (epoch_in root.space epochs) a t root) n (map seen_root roots)
book_changed roots n e epochs a t i m new h here there is made =
    let same : i ≡ m = here ∙ get_default roots n i m h ∙ sym there in
    changed_seen (λ root. noted_root (epoch_in root.space epochs) a t root) roots n m new h
    (made ∙ ap (λ k. noted_root k a t (seen_root m)) (is ∙ ap (λ (x : Root). epoch_in x.space epochs) same) ∙ ap (λ x. noted_root (epoch_in (seen_root x).space epochs) a t (seen_root x)) there)

sizes_next : (words : List ℕ) (spaces : List Space) (i : ℕ) (d : Space) (e : ℕ) → length words ≡ length spaces → i < length words
    → drop i (sizes_of words spaces) ≡ record { space = get_or spaces i d; words = get_or words i e } ∷ drop (suc i) (sizes_of words spaces)
sizes_next [] spaces i d e same h = absurd (omega arith)
sizes_next (w ∷ ws) [] i d e same h = absurd (omega arith)
sizes_next (w ∷ ws) (s ∷ ss) zero d e same h = refl
sizes_next (w ∷ ws) (s ∷ ss) (suc i) d e same h = sizes_next ws ss i d e (omega arith) (omega arith)

pub sizes_drop : (words : List ℕ) (spaces : List Space) (i : ℕ) (d : Space) (e : ℕ) → length words ≡ length spaces → i < length words
    → drop i (sizes_of words spaces) ≡ record { space = get_or spaces i d; words = get_or words i e } ∷ drop (i + 1) (sizes_of words spaces)
sizes_drop words spaces i d e same h = rw add-one (sizes_next words spaces i d e same h)

pub seen_length : (roots : List Root) → length (map seen_root roots) ≡ length roots
seen_length [] = refl
seen_length (root ∷ roots) = ap suc (seen_length roots)

-- ---- a book's beginning

seen_more : (roots : List Root) (root : Root) (rest : List RootCells) → map seen_root (roots ++ root ∷ []) ++ rest ≡ map seen_root roots ++ seen_root root ∷ rest
seen_more [] root rest = refl
seen_more (r ∷ roots) root rest = ap (λ xs. seen_root r ∷ xs) (seen_more roots root rest)

pub begin_more : (roots now : List Root) (root : Root) (words : List ℕ) (spaces : List Space) (n : ℕ) (d : Space) (e : ℕ) → length words ≡ length spaces → n < length words
    → now ≡ roots ++ root ∷ [] → seen_root root ≡ record { space = get_or spaces n d; cells = row [] 0 0 (get_or words n e) }
    → map seen_root roots ++ roots_from [] n (drop n (sizes_of words spaces)) ≡ roots_from [] 0 (sizes_of words spaces)
    → map seen_root now ++ roots_from [] (n + 1) (drop (n + 1) (sizes_of words spaces)) ≡ roots_from [] 0 (sizes_of words spaces)
begin_more roots now root words spaces n d e same h longer made before =
    let one : record { space = get_or spaces n d; cells = row [] n 0 (get_or words n e) } ≡ seen_root root =
    ap (λ cells. record { space = get_or spaces n d; cells = cells }) (row_any n 0 0 (get_or words n e)) ∙ sym made in
    ap (λ xs. map seen_root xs ++ roots_from [] (n + 1) (drop (n + 1) (sizes_of words spaces))) longer
    ∙ seen_more roots root (roots_from [] (n + 1) (drop (n + 1) (sizes_of words spaces)))
    ∙ ap (λ x. map seen_root roots ++ x ∷ roots_from [] (n + 1) (drop (n + 1) (sizes_of words spaces))) (sym one)
    ∙ ap (λ k. map seen_root roots ++ record { space = get_or spaces n d; cells = row [] n 0 (get_or words n e) } ∷ roots_from [] k (drop (n + 1) (sizes_of words spaces))) (add-one n)
    ∙ ap (λ xs. map seen_root roots ++ roots_from [] n xs) (sym (sizes_drop words spaces n d e same h))
    ∙ before

sizes_end : (words : List ℕ) (spaces : List Space) (n : ℕ) → length words ≤ n → drop n (sizes_of words spaces) ≡ []
sizes_end [] spaces zero h = refl
sizes_end [] spaces (suc n) h = refl
sizes_end (w ∷ words) spaces zero h = absurd (omega arith)
sizes_end (w ∷ words) [] (suc n) h = refl
sizes_end (w ∷ words) (s ∷ spaces) (suc n) h = sizes_end words spaces n (omega arith)

nothing_after : (xs : List RootCells) → xs ++ [] ≡ xs
nothing_after [] = refl
nothing_after (x ∷ xs) = ap (λ ys. x ∷ ys) (nothing_after xs)

pub begin_end : (roots : List Root) (words : List ℕ) (spaces : List Space) (n : ℕ) → length words ≤ n
    → map seen_root roots ++ roots_from [] n (drop n (sizes_of words spaces)) ≡ roots_from [] 0 (sizes_of words spaces) → map seen_root roots ≡ roots_from [] 0 (sizes_of words spaces)
begin_end roots words spaces n h before =
    sym (nothing_after (map seen_root roots)) ∙ ap (λ xs. map seen_root roots ++ roots_from [] n xs) (sym (sizes_end words spaces n h)) ∙ before

-- ---- the races of a book

none_dropped : (roots : List Root) (n : ℕ) → length roots ≤ n → drop n roots ≡ []
none_dropped [] zero h = refl
none_dropped [] (suc n) h = refl
none_dropped (r ∷ roots) zero h = absurd (omega arith)
none_dropped (r ∷ roots) (suc n) h = none_dropped roots n (omega arith)

none_more : (races : List Race) → races ++ [] ≡ races
none_more [] = refl
none_more (x ∷ races) = ap (λ xs. x ∷ xs) (none_more races)

in_parts : (races more rest : List Race) → (races ++ more) ++ rest ≡ races ++ (more ++ rest)
in_parts [] more rest = refl
in_parts (x ∷ races) more rest = ap (λ xs. x ∷ xs) (in_parts races more rest)

root_next : (roots : List Root) (n : ℕ) (d : Root) → n < length roots → drop n roots ≡ get_or roots n d ∷ drop (suc n) roots
root_next [] n d h = absurd (omega arith)
root_next (root ∷ roots) zero d h = refl
root_next (root ∷ roots) (suc n) d h = root_next roots n d (omega arith)

-- one more root
pub races_more : (roots : List Root) (races now all : List Race) (n : ℕ) (root : Root) → n < length roots → root ≡ get_or roots n root → now ≡ races ++ word_races n 0 root.cells.items
    → races ++ root_races n (map seen_root (drop n roots)) ≡ all → now ++ root_races (n + 1) (map seen_root (drop (n + 1) roots)) ≡ all
races_more roots races now all n root h is made before =
    let next : drop n roots ≡ root ∷ drop (suc n) roots = root_next roots n root h ∙ ap (λ (r : Root). r ∷ drop (suc n) roots) (sym is) in
    ap (λ k. now ++ root_races k (map seen_root (drop k roots))) (add-one n)
    ∙ ap (λ xs. xs ++ root_races (suc n) (map seen_root (drop (suc n) roots))) made
    ∙ in_parts races (word_races n 0 root.cells.items) (root_races (suc n) (map seen_root (drop (suc n) roots)))
    ∙ ap (λ xs. races ++ root_races n (map seen_root xs)) (sym next)
    ∙ before

nothing_in : (races : List Race) → length races ≤ 0 → races ≡ []
nothing_in [] h = refl
nothing_in (x ∷ races) h = absurd (omega (arith, h))

either_by : (b : Bool) (len most n : ℕ) → leb len most ≡ b → min len most ≤ n → (len ≤ n) ⊎ (most ≤ n)
either_by true len most n e h = inl (subst (λ (k : ℕ). k ≤ n) (min-eq_left (leb-true len most e)) h)
either_by false len most n e h =
    let less : most < len = leb-false len most e in
    let least : most ≤ len = omega (arith, less) in
    inr (subst (λ (k : ℕ). k ≤ n) (min-eq_right least) h)

races_past : (roots : List Root) (races : List Race) (n : ℕ) → AreUnnamed roots → (length roots ≤ n) ⊎ (4294967296 ≤ n)
    → races ++ root_races n (map seen_root (drop n roots)) ≡ root_races 0 (map seen_root roots) → races ≡ root_races 0 (map seen_root roots)
races_past roots races n late (inl h) all = sym (none_more races) ∙ ap (λ xs. races ++ root_races n (map seen_root xs)) (sym (none_dropped roots n h)) ∙ all
races_past roots races n late (inr h) all = sym (none_more races) ∙ ap (λ xs. races ++ xs) (sym (nothing_in (root_races n (map seen_root (drop n roots))) (late n h))) ∙ all

-- at the end of the roots that are named all races are listed
pub races_end : (roots : List Root) (races : List Race) (n : ℕ) → AreUnnamed roots → min (length roots) 4294967296 ≤ n
    → races ++ root_races n (map seen_root (drop n roots)) ≡ root_races 0 (map seen_root roots) → races ≡ root_races 0 (map seen_root roots)
races_end roots races n late h all = races_past roots races n late (either_by (leb (length roots) 4294967296) (length roots) 4294967296 n refl h) all

-- ---- roots that no access names

blank_words : (r w k v n : ℕ) → word_races r w (row [] k v n) ≡ []
blank_words r w k v zero = refl
blank_words r w k v (suc n) = blank_words r (suc w) k (suc v) n

blank_roots : (r k : ℕ) (sizes : List Size) → root_races r (roots_from [] k sizes) ≡ []
blank_roots r k [] = refl
blank_roots r k (s ∷ sizes) = rw (blank_words r 0 k 0 s.words, blank_roots (suc r) (suc k) sizes) refl

late_roots : (r n k : ℕ) (sizes : List Size) → root_races r (drop n (roots_from [] k sizes)) ≡ []
late_roots r zero k sizes = blank_roots r k sizes
late_roots r (suc n) k [] = refl
late_roots r (suc n) k (s ∷ sizes) = late_roots r n (suc k) sizes

seen_drop : (n : ℕ) (roots : List Root) → map seen_root (drop n roots) ≡ drop n (map seen_root roots)
seen_drop zero roots = refl
seen_drop (suc n) [] = refl
seen_drop (suc n) (root ∷ roots) = seen_drop n roots

-- none has a race before any access
pub unnamed_begin : (roots : List Root) (sizes : List Size) → map seen_root roots ≡ roots_from [] 0 sizes → AreUnnamed roots
unnamed_begin roots sizes e n h =
    let none : root_races n (map seen_root (drop n roots)) ≡ [] = ap (root_races n) (seen_drop n roots ∙ ap (λ (xs : List RootCells). drop n xs) e) ∙ late_roots n n 0 sizes in
    let few : length (root_races n (map seen_root (drop n roots))) ≡ 0 = ap (λ (xs : List Race). length xs) none in
    omega (arith, few)

drop_set : (roots : List Root) (n m : ℕ) (new : Root) → n < m → drop m (slice_set roots n new) ≡ drop m roots
drop_set [] n m new h = refl
drop_set (root ∷ roots) n zero new h = absurd (omega arith)
drop_set (root ∷ roots) zero (suc m) new h = refl
drop_set (root ∷ roots) (suc n) (suc m) new h = drop_set roots n m new (omega arith)

-- nor after an access, which names another
pub unnamed_set : (roots : List Root) (k : ℕ) (new : Root) → k < 4294967296 → AreUnnamed roots → AreUnnamed (slice_set roots k new)
unnamed_set roots k new h late n above =
    subst (λ xs. length (root_races n (map seen_root xs)) ≤ 0) (sym (drop_set roots k n new (omega (arith, h, above)))) (late n above)
