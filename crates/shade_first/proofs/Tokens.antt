-- Phrases of single tokens.
use Rattle.std.proofs.Common.{◌≡◌, refl, sym, ap, ◌∙◌, subst, ℕ, ◌+◌, ◌<◌, ◌≤◌, ◌^◌, false, List, [], ◌∷◌, ◌++◌, length, map, drop, get_or, arith, codes, Some, slice_get}
use Rattle.std.specs.Fmt.{decimal}
use Rattle.std.proofs.Math.ListN.{drop_of_length-le}
use Rattle.std.proofs.lemmas.Fmt.{decimal_injective}
use Rattle.std.proofs.lemmas.List.{drop_more, append_cancel_right}
use Rattle.shade_base.specs.declared.place.Place.{Place}
use Rattle.shade_first.specs.declared.token.Kind.{Kind}
use Rattle.shade_first.specs.declared.token.Kind.TheVariants as kind
use Rattle.shade_first.specs.declared.token.Token.{Token}
use Rattle.shade_first.specs.declared.step.Step.{Step}
use Rattle.shade_first.specs.Reads.{Near, Reads, Fails}
use Rattle.shade_first.specs.Form.{token_of, Placed, Fixed, done, more, Sequence, Lanes, Limit, Name}
use Rattle.shade_first.specs.Reserved.{is_reserved}
use Rattle.shade_first.specs.Steps.{kind_of}
use Rattle.shade_first.specs.Tokens.{IsWord}
use Rattle.shade_first.proofs.Stages.{After, Ends, Closes, Stage, near_get, change, phrase, phrase_fails, finish, single, single_fails}

pub some_place : Place
some_place = record { offset = 0; line = 1; column = 1 }

pub placed_closes : (k : Kind) → Closes (Placed k)
placed_closes k = record { tree = some_place; more = token_of k some_place ∷ []; closed = λ w. record { is = refl } }

pub placed_reads : (tokens : List Token) (from : ℕ) (k : Kind) (p : Place) → slice_get tokens from ≡ Some (token_of k p) → Reads (Placed k) tokens from p (from + 1)
placed_reads tokens from k p is = single (Placed k) tokens from p (token_of k p) is (λ w. record { is = refl }) same
  where
    same : (q : Place) (ys w : List Token) → Placed k q (token_of k p ∷ ys) w → (q ≡ p) × (ys ≡ w)
    same q ys w g =
        let e : token_of k p ∷ ys ≡ token_of k q ∷ w = g.is in
        let t : token_of k p ≡ token_of k q = cc in
        let l : ys ≡ w = cc in
        (sym (ap (λ (x : Token). x.place) t), l)

pub placed_fails : (tokens : List Token) (from : ℕ) (k : Kind) → from ≤ length tokens → ((p : Place) → slice_get tokens from ≡ Some (token_of k p) → ⊥) → Fails (Placed k) tokens from from
placed_fails tokens from k h isnt = single_fails (Placed k) tokens from h (placed_closes k) (λ p ys w g near. isnt p (near_get tokens from (token_of k p) w (subst (λ x. Near x (drop from tokens)) g.is near)))

-- one token is another
pub record SameToken (k j : Kind) (p q : Place) (ys w : List Token) : Type 0 where
  pub kinds : k ≡ j
  pub places : p ≡ q
  pub rests : ys ≡ w

pub same_token : (k j : Kind) (p q : Place) (ys w : List Token) → token_of k p ∷ ys ≡ token_of j q ∷ w → SameToken k j p q ys w
same_token k j p q ys w e =
    let t : token_of k p ≡ token_of j q = cc in
    record { kinds = ap (λ (x : Token). x.kind) t; places = ap (λ (x : Token). x.place) t; rests = (cc) }

pub one_at : (tokens : List Token) (from : ℕ) (k j : Kind) (p q : Place) → slice_get tokens from ≡ Some (token_of k p) → slice_get tokens from ≡ Some (token_of j q) → k ≡ j
one_at tokens from k j p q a b = let t : token_of k p ≡ token_of j q = cc in ap (λ (x : Token). x.kind) t

-- lanes
pub lanes_closes : Closes Lanes
lanes_closes = record { tree = 1; more = token_of (kind.Number (decimal 1)) some_place ∷ []; closed = λ w. record { place = some_place; is = refl; least = omega arith; most = omega arith } }

pub lanes_reads : (tokens : List Token) (from n : ℕ) (text : List ℕ) (p : Place) → slice_get tokens from ≡ Some (token_of (kind.Number text) p) → text ≡ decimal n → 1 ≤ n → n ≤ 256 → Reads Lanes tokens from n (from + 1)
lanes_reads tokens from n text p is same least most =
    single Lanes tokens from n (token_of (kind.Number text) p) is
    (λ w. record { place = p; is = ap (λ (x : List ℕ). token_of (kind.Number x) p ∷ w) same; least = least; most = most })
    only
  where
    only : (s : ℕ) (ys w : List Token) → Lanes s (token_of (kind.Number text) p ∷ ys) w → (s ≡ n) × (ys ≡ w)
    only s ys w g =
        let e : SameToken (kind.Number text) (kind.Number (decimal s)) p g.place ys w = same_token _ _ _ _ _ _ g.is in
        let texts : text ≡ decimal s = (let k : kind.Number text ≡ kind.Number (decimal s) = e.kinds in cc) in
        let low : s ≤ 256 = g.most in
        (decimal_injective s n (omega arith) (omega arith) (sym texts ∙ same), e.rests)

pub lanes_fails : (tokens : List Token) (from : ℕ) → from ≤ length tokens → ((n : ℕ) (text : List ℕ) (p : Place) → slice_get tokens from ≡ Some (token_of (kind.Number text) p) → 1 ≤ n → n ≤ 256 → text ≡ decimal n → ⊥) → Fails Lanes tokens from from
lanes_fails tokens from h isnt = single_fails Lanes tokens from h lanes_closes (λ n ys w g near. isnt n (decimal n) g.place (near_get tokens from (token_of (kind.Number (decimal n)) g.place) w (subst (λ x. Near x (drop from tokens)) g.is near)) g.least g.most refl)

pub number_is : (tokens : List Token) (from : ℕ) (text other : List ℕ) (p q : Place) → slice_get tokens from ≡ Some (token_of (kind.Number text) p) → slice_get tokens from ≡ Some (token_of (kind.Number other) q) → text ≡ other
number_is tokens from text other p q a b = let k : kind.Number text ≡ kind.Number other = one_at tokens from _ _ p q a b in cc

-- limits
pub limit_closes : Closes Limit
limit_closes = record { tree = 0; more = token_of (kind.Number (decimal 0 ++ codes "u")) some_place ∷ []; closed = λ w. record { place = some_place; is = refl; most = omega arith } }

pub limit_reads : (tokens : List Token) (from n : ℕ) (text : List ℕ) (p : Place) → slice_get tokens from ≡ Some (token_of (kind.Number text) p) → text ≡ decimal n ++ codes "u" → n < 2 ^ 32 → Reads Limit tokens from n (from + 1)
limit_reads tokens from n text p is same most =
    single Limit tokens from n (token_of (kind.Number text) p) is
    (λ w. record { place = p; is = ap (λ (x : List ℕ). token_of (kind.Number x) p ∷ w) same; most = most })
    only
  where
    only : (s : ℕ) (ys w : List Token) → Limit s (token_of (kind.Number text) p ∷ ys) w → (s ≡ n) × (ys ≡ w)
    only s ys w g =
        let e : SameToken (kind.Number text) (kind.Number (decimal s ++ codes "u")) p g.place ys w = same_token _ _ _ _ _ _ g.is in
        let texts : text ≡ decimal s ++ codes "u" = (let k : kind.Number text ≡ kind.Number (decimal s ++ codes "u") = e.kinds in cc) in
        let low : s < 2 ^ 32 = g.most in
        let digits : decimal s ≡ decimal n = append_cancel_right (decimal s) (decimal n) (codes "u") (sym texts ∙ same) in
        (decimal_injective s n (omega arith) (omega arith) digits, e.rests)

pub limit_fails : (tokens : List Token) (from : ℕ) → from ≤ length tokens → ((n : ℕ) (text : List ℕ) (p : Place) → slice_get tokens from ≡ Some (token_of (kind.Number text) p) → n < 2 ^ 32 → text ≡ decimal n ++ codes "u" → ⊥) → Fails Limit tokens from from
limit_fails tokens from h isnt = single_fails Limit tokens from h limit_closes (λ n ys w g near. isnt n (decimal n ++ codes "u") g.place (near_get tokens from (token_of (kind.Number (decimal n ++ codes "u")) g.place) w (subst (λ x. Near x (drop from tokens)) g.is near)) g.most refl)

-- declared names
pub name_closes : Closes Name
name_closes = record { tree = (97 ∷ [], some_place); more = token_of (kind.Word (97 ∷ [])) some_place ∷ []; closed = λ w. record { is = refl; word = refl; free = refl } }

pub name_reads : (tokens : List Token) (from : ℕ) (text name : List ℕ) (p : Place) → slice_get tokens from ≡ Some (token_of (kind.Word text) p) → IsWord text → is_reserved text ≡ false → name ≡ text → Reads Name tokens from (name, p) (from + 1)
name_reads tokens from text name p is word free same =
    single Name tokens from (name, p) (token_of (kind.Word text) p) is
    (λ w. record { is = ap (λ (x : List ℕ). token_of (kind.Word x) p ∷ w) (sym same); word = subst IsWord (sym same) word; free = ap is_reserved same ∙ free })
    only
  where
    only : (s : List ℕ × Place) (ys w : List Token) → Name s (token_of (kind.Word text) p ∷ ys) w → (s ≡ (name, p)) × (ys ≡ w)
    only s ys w g =
        let e : SameToken (kind.Word text) (kind.Word s.0) p s.1 ys w = same_token _ _ _ _ _ _ g.is in
        let texts : text ≡ s.0 = (let k : kind.Word text ≡ kind.Word s.0 = e.kinds in cc) in
        (pair s.0 s.1 (sym texts ∙ sym same) (sym e.places), e.rests)
      where
        pair : (t : List ℕ) (q : Place) → t ≡ name → q ≡ p → ◌≡◌ {A = List ℕ × Place} (t, q) (name, p)
        pair t q a b = ap (λ (x : List ℕ). let r : List ℕ × Place = (x, q) in r) a ∙ ap (λ (x : Place). let r : List ℕ × Place = (name, x) in r) b

pub name_fails : (tokens : List Token) (from : ℕ) → from ≤ length tokens → ((text : List ℕ) (p : Place) → slice_get tokens from ≡ Some (token_of (kind.Word text) p) → is_reserved text ≡ false → ⊥) → Fails Name tokens from from
name_fails tokens from h isnt = single_fails Name tokens from h name_closes (λ s ys w g near. isnt s.0 s.1 (near_get tokens from (token_of (kind.Word s.0) s.1) w (subst (λ x. Near x (drop from tokens)) g.is near)) g.free)

pub word_is : (tokens : List Token) (from : ℕ) (text other : List ℕ) (p q : Place) → slice_get tokens from ≡ Some (token_of (kind.Word text) p) → slice_get tokens from ≡ Some (token_of (kind.Word other) q) → text ≡ other
word_is tokens from text other p q a b = let k : kind.Word text ≡ kind.Word other = one_at tokens from _ _ p q a b in cc

-- sequences
pub sequence_begin : (ks : List Kind) (k : Kind) (r : Unit {0}) (ys w : List Token) → Sequence (k ∷ ks) r ys w → After (Placed k) (λ p. Sequence ks) r ys w
sequence_begin ks k r ys w (more j p {us = us} g f) = record { part = p; others = us; phrase = g; rest = f }

pub sequence_back : (ks : List Kind) (k : Kind) (r : Unit {0}) (ys w : List Token) → After (Placed k) (λ p. Sequence ks) r ys w → Sequence (k ∷ ks) r ys w
sequence_back ks k r ys w a = more k a.part a.phrase a.rest

pub sequence_closes : (ks : List Kind) → Closes (Sequence ks)
sequence_closes [] = record { tree = tt; more = []; closed = λ w. done w }
sequence_closes (k ∷ ks) =
    let c : Closes (Sequence ks) = sequence_closes ks in
    record { tree = tt; more = token_of k some_place ∷ c.more; closed = λ w. more k some_place (record { is = refl }) (c.closed w) }

module _ (ks : List Kind) (tokens : List Token) (from at : ℕ) (k : Kind) (js : List Kind) (s : Stage (Sequence ks) tokens from at (Sequence (k ∷ js))) where
  split : Stage (Sequence ks) tokens from at (After (Placed k) (λ p. Sequence js))
  split = change (Sequence ks) tokens from at (Sequence (k ∷ js)) (After (Placed k) (λ p. Sequence js)) (λ r ys w g near. sequence_begin js k r ys w g) (λ r ys w a. sequence_back js k r ys w a) s

  pub sequence_fails : (to : ℕ) → Fails (Placed k) tokens at to → Fails (Sequence ks) tokens from to
  sequence_fails to f = phrase_fails (Sequence ks) tokens from (Placed k) (λ p. Sequence js) at to (λ p. sequence_closes js) split f

  pub sequence_more : (p : Place) (to : ℕ) → Reads (Placed k) tokens at p to → Stage (Sequence ks) tokens from to (Sequence js)
  sequence_more p to r = phrase (Sequence ks) tokens from (Placed k) (λ p. Sequence js) at to p split r

pub sequence_reads : (ks : List Kind) (tokens : List Token) (from at : ℕ) → Stage (Sequence ks) tokens from at (Sequence []) → Reads (Sequence ks) tokens from tt at
sequence_reads ks tokens from at s =
    finish (Sequence ks) tokens from at tt tt refl
    (change (Sequence ks) tokens from at (Sequence []) (Ends tt) (λ r ys w g near. record { same = refl; left = ended ys w g }) (λ r ys w e. subst (λ x. Fixed [] ys x) e.left (done ys)) s)
  where
    ended : (ys w : List Token) → Fixed [] ys w → ys ≡ w
    ended ys w (done ts) = refl

-- one step of a list of steps
module _ (steps : List Step) (tokens : List Token) (from at i : ℕ) (d : Step) (h : i < length steps) (s : Stage (Sequence (map kind_of steps)) tokens from at (Sequence (map kind_of (drop i steps)))) where
  steps_left : map kind_of (drop i steps) ≡ kind_of (get_or steps i d) ∷ map kind_of (drop (i + 1) steps)
  steps_left = ap (map kind_of) (drop_more steps i d h)

  headed : Stage (Sequence (map kind_of steps)) tokens from at (Sequence (kind_of (get_or steps i d) ∷ map kind_of (drop (i + 1) steps)))
  headed = subst (λ ks. Stage (Sequence (map kind_of steps)) tokens from at (Sequence ks)) steps_left s

  pub step_fails : (to : ℕ) → Fails (Placed (kind_of (get_or steps i d))) tokens at to → Fails (Sequence (map kind_of steps)) tokens from to
  step_fails to f = sequence_fails (map kind_of steps) tokens from at (kind_of (get_or steps i d)) (map kind_of (drop (i + 1) steps)) headed to f

  pub step_more : (p : Place) (to : ℕ) → Reads (Placed (kind_of (get_or steps i d))) tokens at p to → Stage (Sequence (map kind_of steps)) tokens from to (Sequence (map kind_of (drop (i + 1) steps)))
  step_more p to r = sequence_more (map kind_of steps) tokens from at (kind_of (get_or steps i d)) (map kind_of (drop (i + 1) steps)) headed p to r

pub steps_end : (steps : List Step) (tokens : List Token) (from at i : ℕ) → length steps ≤ i → Stage (Sequence (map kind_of steps)) tokens from at (Sequence (map kind_of (drop i steps))) → Reads (Sequence (map kind_of steps)) tokens from tt at
steps_end steps tokens from at i h s = sequence_reads (map kind_of steps) tokens from at (subst (λ ks. Stage (Sequence (map kind_of steps)) tokens from at (Sequence (map kind_of ks))) (drop_of_length-le steps h) s)
