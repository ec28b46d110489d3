-- A phrase while its parts are read one after another: the next part, what may follow it, and how it can be ended.
use Rattle.std.proofs.Common.{◌≡◌, refl, sym, ap, ◌∙◌, subst, ℕ, zero, suc, ◌+◌, ◌<◌, ◌≤◌, ◌⊎◌, inl, inr, Option, None, Some, List, [], ◌∷◌, ◌++◌, length, drop, arith, length-append, slice_get}
use Rattle.shade_base.specs.declared.place.Place.{Place}
use Rattle.shade_ast.specs.Lexemes.{Lexeme, Word}
use Rattle.shade_ast.specs.Shapes.{NameShape}
use Rattle.shade_ast.specs.Repeats.{Maybe, absent, present}
use Rattle.shade_ast.specs.Statements.{Name}
use Rattle.shade_ast.specs.Reads.{Near, Reads, Fails, rank, rank_of}
use Rattle.shade_ast.proofs.Stages.{Stage, Closes, near_get, one_token, change, consume, phrase, phrase_fails, phrase_or, phrase_or_fails, stuck, finish_ends, ends_stops, closes_after}
use Rattle.shade_ast.specs.Chains.{After, Ends, Placed}
use Rattle.shade_ast.proofs.Placed.{lexeme_place, placed_closes, placed_stops, name_begins}
use Rattle.shade_ast.proofs.Manys.{first_read}
use Rattle.shade_parse_simple.specs.Maybes.{Stands, ReadsMaybe}

-- what stands behind a phrase of this rank does not go on with it
abbrev pub Stops : {R : Type 0} → ℕ → ℕ → (R → List Lexeme → List Lexeme → Type 0) → Type 0
Stops {R} n m C = (r : R) (zs w : List Lexeme) → n < rank w → C r zs w → m < rank zs

-- what is left does not begin with this token
abbrev pub Avoids : {R : Type 0} → ℕ → Lexeme → (R → List Lexeme → List Lexeme → Type 0) → Type 0
Avoids {R} n t C = (r : R) (zs w : List Lexeme) → n < rank w → C r (t ∷ zs) w → ⊥

-- a phrase begins with a token of this kind
abbrev pub BeginsWith : {R : Type 0} → (Place → Lexeme) → (R → List Lexeme → List Lexeme → Type 0) → Type 0
BeginsWith {R} kind X = (r : R) (ts w : List Lexeme) → X r ts w → (p : Place) × (us : List Lexeme) × (ts ≡ kind p ∷ us)

module _ {R : Type 0} where
  pub end_stops : {e : R} (n m : ℕ) → m ≤ n → Stops n m (Ends e)
  end_stops {e = e} n m le r zs w stop c = ends_stops n m e r zs w le stop c

  pub token_stops : {C : Place → R → List Lexeme → List Lexeme → Type 0} (kind : Place → Lexeme) (n m : ℕ) → ((p : Place) → m < rank_of (kind p)) → Stops n m (After (Placed kind) C)
  token_stops kind n m low r zs w stop a = placed_stops kind m low a.part zs a.others a.phrase

  pub name_stops : {C : NameShape → R → List Lexeme → List Lexeme → Type 0} (n m : ℕ) → m < 9 → Stops n m (After Name C)
  name_stops n m low r zs w stop a = subst (λ x. m < rank x) (sym (name_begins a.part zs a.others a.phrase)) low

  pub maybe_stops : {S : Type 0} {C : Option S → R → List Lexeme → List Lexeme → Type 0} (kind : Place → Lexeme) (X : S → List Lexeme → List Lexeme → Type 0) → BeginsWith kind X → (n m : ℕ) → ((p : Place) → m < rank_of (kind p)) → Stops n m (C None) → Stops n m (After (Maybe X) C)
  maybe_stops {S = S} {C = C} kind X first n m low stops r zs w stop a = by a.part zs a.others a.phrase a.rest
    where
      by : (o : Option S) (ys us : List Lexeme) → Maybe X o ys us → C o r us w → m < rank ys
      by None ys us absent c = stops r ys w stop c
      by (Some x) ys us (present g) c = let f = first x ys us g in subst (λ l. m < rank l) (sym f.2) (low f.0)

  pub end_avoids : {e : R} (n : ℕ) (t : Lexeme) → rank_of t ≤ n → Avoids n t (Ends e)
  end_avoids {e = e} n t le r zs w stop c = let bad : n < rank_of t = subst (λ x. n < rank x) (sym c.left) stop in omega arith

  pub token_avoids : {C : Place → R → List Lexeme → List Lexeme → Type 0} (kind : Place → Lexeme) (n : ℕ) (t : Lexeme) → ((p : Place) → t ≡ kind p → ⊥) → Avoids n t (After (Placed kind) C)
  token_avoids kind n t other r zs w stop a = other a.part (let e : t ∷ zs ≡ kind a.part ∷ a.others = a.phrase.is in cc)

  pub name_avoids : {C : NameShape → R → List Lexeme → List Lexeme → Type 0} (n : ℕ) (t : Lexeme) → ((text : List ℕ) (p : Place) → t ≡ Word text p → ⊥) → Avoids n t (After Name C)
  name_avoids n t other r zs w stop a = other a.part.text a.part.place (let e : t ∷ zs ≡ Word a.part.text a.part.place ∷ a.others = name_begins a.part (t ∷ zs) a.others a.phrase in cc)

  pub maybe_avoids : {S : Type 0} {C : Option S → R → List Lexeme → List Lexeme → Type 0} (kind : Place → Lexeme) (X : S → List Lexeme → List Lexeme → Type 0) → BeginsWith kind X → (n : ℕ) (t : Lexeme) → ((p : Place) → t ≡ kind p → ⊥) → Avoids n t (C None) → Avoids n t (After (Maybe X) C)
  maybe_avoids {S = S} {C = C} kind X first n t other avoids r zs w stop a = by a.part (t ∷ zs) a.others a.phrase a.rest refl
    where
      by : (o : Option S) (ys us : List Lexeme) → Maybe X o ys us → C o r us w → ys ≡ t ∷ zs → ⊥
      by None ys us absent c e = avoids r zs w stop (subst (λ x. C None r x w) e c)
      by (Some x) ys us (present g) c e = let f = first x ys us g in other f.0 (let k : t ∷ zs ≡ kind f.0 ∷ f.1 = sym e ∙ f.2 in cc)

-- no token of this kind stands there
pub not_here : {R : Type 0} (n : ℕ) (tokens : List Lexeme) (at : ℕ) (kind : Place → Lexeme) (C : Place → R → List Lexeme → List Lexeme → Type 0) →
    ((p : Place) → slice_get tokens at ≡ Some (kind p) → ⊥) → (r : R) (ys w : List Lexeme) → n < rank w → After (Placed kind) C r ys w → Near ys (drop at tokens) → ⊥
not_here n tokens at kind C never r ys w stop a near = never a.part (near_get tokens at (kind a.part) a.others (subst (λ x. Near x (drop at tokens)) a.phrase.is near))

pub begins_not_here : {R S : Type 0} (n : ℕ) (tokens : List Lexeme) (at : ℕ) (kind : Place → Lexeme) (X : S → List Lexeme → List Lexeme → Type 0) → BeginsWith kind X →
    (C : S → R → List Lexeme → List Lexeme → Type 0) → ((p : Place) → slice_get tokens at ≡ Some (kind p) → ⊥) → (r : R) (ys w : List Lexeme) → n < rank w → After X C r ys w →
    Near ys (drop at tokens) → ⊥
begins_not_here n tokens at kind X first C never r ys w stop a near = let f = first a.part ys a.others a.phrase in never f.0 (near_get tokens at (kind f.0) f.1 (subst (λ x. Near x (drop at tokens)) f.2 near))

pub either_avoids : {R : Type 0} (C D : R → List Lexeme → List Lexeme → Type 0) (n : ℕ) (t : Lexeme) → Avoids n t C → Avoids n t D → Avoids n t (λ r ys w. C r ys w ⊎ D r ys w)
either_avoids C D n t c d r zs w stop e = elim e [ inl x ↦ c r zs w stop x | inr y ↦ d r zs w stop y ]

pub either_stops : {R : Type 0} (C D : R → List Lexeme → List Lexeme → Type 0) (n m : ℕ) → Stops n m C → Stops n m D → Stops n m (λ r ys w. C r ys w ⊎ D r ys w)
either_stops C D n m c d r zs w stop e = elim e [ inl x ↦ c r zs w stop x | inr y ↦ d r zs w stop y ]

pub maybe_closes : {S : Type 0} (X : S → List Lexeme → List Lexeme → Type 0) → Closes (Maybe X)
maybe_closes X = record { tree = None; more = []; closed = λ w. absent }

-- A phrase that begins with the token at a place does not fail at that place.
pub reached : (a b : ℕ) → a ≤ b → (a ≡ b) ⊎ (a < b)
reached zero zero h = inl refl
reached zero (suc b) h = inr (omega arith)
reached (suc a) zero h = absurd (omega arith)
reached (suc a) (suc b) h = elim (reached a b (omega arith)) [ inl e ↦ inl (ap suc e) | inr lt ↦ inr (omega arith) ]

pub nothing_read : (us rest : List Lexeme) → rest ≡ us ++ rest → us ≡ []
nothing_read [] rest e = refl
nothing_read (u ∷ us) rest e = absurd (let l : length rest ≡ length ((u ∷ us) ++ rest) = ap length e in let k : length (us ++ rest) ≡ length us + length rest = length-append us rest in omega arith)

pub fails_later : {R : Type 0} {X : R → List Lexeme → List Lexeme → Type 0} {n : ℕ} {tokens : List Lexeme} {at to : ℕ} {t : Lexeme} (r : R) (ys : List Lexeme) → n < 10 → slice_get tokens at ≡ Some t → X r (t ∷ ys) [] → Fails X n tokens at to → at < to
fails_later {X = X} {n = n} {tokens = tokens} {at = at} {to = to} {t = t} r ys small is x f =
    elim (reached at to f.low) [
      | inl e ↦
          (let none : f.us ≡ [] = nothing_read f.us (drop to tokens) (ap (λ i. drop i tokens) (sym e) ∙ f.spelled) in
          absurd (f.none r (t ∷ ys) [] (subst (λ l. X r (l ++ t ∷ ys) []) (sym none) x) small (subst (λ i. Near (t ∷ ys) (drop i tokens)) e (subst (Near (t ∷ ys)) (sym (one_token tokens at t is)) refl))))
      | inr lt ↦ lt
    ]

-- the tokens that were read begin with one that rules out what is left
pub ruled_out : {R : Type 0} (n : ℕ) (tokens : List Lexeme) (at to : ℕ) (kind : Place → Lexeme) (D : R → List Lexeme → List Lexeme → Type 0) → ((p : Place) → Avoids n (kind p) D) →
    (t : Stands kind tokens at) → at < to → to ≤ length tokens → (us : List Lexeme) → drop at tokens ≡ us ++ drop to tokens → (r : R) (ys w : List Lexeme) → n < rank w → D r (us ++ ys) w →
    Near ys (drop to tokens) → ⊥
ruled_out n tokens at to kind D avoids t lt high us spelled r ys w stop c near =
    let f : (vs : List Lexeme) × (us ≡ kind t.0 ∷ vs) = first_read tokens us at to (kind t.0) lt high spelled t.1 in
    avoids t.0 r (f.0 ++ ys) w stop (subst (λ x. D r (x ++ ys) w) f.1 c)

module _ {R : Type 0} {G : R → List Lexeme → List Lexeme → Type 0} {n : ℕ} {tokens : List Lexeme} {from : ℕ} where
  -- a phrase that is read
  pub next : {S : Type 0} {B : S → List Lexeme → List Lexeme → Type 0} {C : S → R → List Lexeme → List Lexeme → Type 0} {m at to : ℕ} {b : S} → ((b : S) → Stops n m (C b)) → Stage G n tokens from at (After B C) → Reads B m tokens at b to → Stage G n tokens from to (C b)
  next {B = B} {C = C} {m = m} {at = at} {to = to} {b = b} stops s p = phrase G n tokens from B m C stops at to b s p

  pub next_fails : {S : Type 0} {B : S → List Lexeme → List Lexeme → Type 0} {C : S → R → List Lexeme → List Lexeme → Type 0} {m at to : ℕ} → ((b : S) → Stops n m (C b)) → ((b : S) → Closes (C b)) → Stage G n tokens from at (After B C) → Fails B m tokens at to → Fails G n tokens from to
  next_fails {B = B} {C = C} {m = m} {at = at} {to = to} stops ends s f = phrase_fails G n tokens from B m C stops at to ends s f

  -- a token that stands there, or does not
  pub token : {kind : Place → Lexeme} {C : Place → R → List Lexeme → List Lexeme → Type 0} {at : ℕ} → ((p : Place) → lexeme_place (kind p) ≡ p) → (p : Place) → slice_get tokens at ≡ Some (kind p) → Stage G n tokens from at (After (Placed kind) C) → Stage G n tokens from (at + 1) (C p)
  token {kind = kind} {C = C} {at = at} back p is s =
      change G n tokens from (at + 1) (λ r zs w. After (Placed kind) C r (kind p ∷ zs) w) (C p)
      (λ r zs w stop near a.
      let e : kind p ∷ zs ≡ kind a.part ∷ a.others = a.phrase.is in
      let same : kind p ≡ kind a.part = cc in
      let rest : a.others ≡ zs = cc in
      let place : a.part ≡ p = sym (back a.part) ∙ ap lexeme_place (sym same) ∙ back p in
      subst (λ x. C x r zs w) place (subst (λ x. C a.part r x w) rest a.rest))
      (λ r zs w c. record { part = p; others = zs; phrase = record { is = refl }; rest = c })
      (consume G n tokens from at (After (Placed kind) C) (kind p) is s)

  -- the same where another way was open, which does not begin with the token
  pub token_or : {kind : Place → Lexeme} {C : Place → R → List Lexeme → List Lexeme → Type 0} {D : R → List Lexeme → List Lexeme → Type 0} {at : ℕ} →
      ((p : Place) → lexeme_place (kind p) ≡ p) → (p : Place) → slice_get tokens at ≡ Some (kind p) → Avoids n (kind p) D →
      Stage G n tokens from at (λ r ys w. After (Placed kind) C r ys w ⊎ D r ys w) → Stage G n tokens from (at + 1) (C p)
  token_or {kind = kind} {C = C} {D = D} {at = at} back p is avoids s =
      change G n tokens from (at + 1) (λ r zs w. After (Placed kind) C r (kind p ∷ zs) w ⊎ D r (kind p ∷ zs) w) (C p)
      (λ r zs w stop near e.
      elim e [
        | inl a ↦
            (let e : kind p ∷ zs ≡ kind a.part ∷ a.others = a.phrase.is in
            let same : kind p ≡ kind a.part = cc in
            let rest : a.others ≡ zs = cc in
            let place : a.part ≡ p = sym (back a.part) ∙ ap lexeme_place (sym same) ∙ back p in
            subst (λ x. C x r zs w) place (subst (λ x. C a.part r x w) rest a.rest))
        | inr d ↦ absurd (avoids r zs w stop d)
      ])
      (λ r zs w c. inl (record { part = p; others = zs; phrase = record { is = refl }; rest = c }))
      (consume G n tokens from at (λ r ys w. After (Placed kind) C r ys w ⊎ D r ys w) (kind p) is s)

  pub no_token : {kind : Place → Lexeme} {C : Place → R → List Lexeme → List Lexeme → Type 0} {at : ℕ} → ((p : Place) → Closes (C p)) → ((p : Place) → slice_get tokens at ≡ Some (kind p) → ⊥) → Stage G n tokens from at (After (Placed kind) C) → Fails G n tokens from at
  no_token {kind = kind} {C = C} {at = at} ends never s =
      stuck G n tokens from at (After (Placed kind) C) (closes_after (Placed kind) C (placed_closes kind) ends)
      (λ r ys w stop a near. never a.part (near_get tokens at (kind a.part) a.others (subst (λ x. Near x (drop at tokens)) a.phrase.is near)))
      s

  -- one of two ways is left
  pub left : {C D : R → List Lexeme → List Lexeme → Type 0} {at : ℕ} → ((r : R) (ys w : List Lexeme) → n < rank w → D r ys w → Near ys (drop at tokens) → ⊥) → Stage G n tokens from at (λ r ys w. C r ys w ⊎ D r ys w) → Stage G n tokens from at C
  left {C = C} {D = D} {at = at} never s = change G n tokens from at (λ r ys w. C r ys w ⊎ D r ys w) C (λ r ys w stop near e. elim e [ inl c ↦ c | inr d ↦ absurd (never r ys w stop d near) ]) (λ r ys w c. inl c) s

  pub right : {C D : R → List Lexeme → List Lexeme → Type 0} {at : ℕ} → ((r : R) (ys w : List Lexeme) → n < rank w → C r ys w → Near ys (drop at tokens) → ⊥) → Stage G n tokens from at (λ r ys w. C r ys w ⊎ D r ys w) → Stage G n tokens from at D
  right {C = C} {D = D} {at = at} never s = change G n tokens from at (λ r ys w. C r ys w ⊎ D r ys w) D (λ r ys w stop near e. elim e [ inl c ↦ absurd (never r ys w stop c near) | inr d ↦ d ]) (λ r ys w d. inr d) s

  -- nothing more
  pub ended : {e : R} {at : ℕ} → Stage G n tokens from at (Ends e) → Reads G n tokens from e at
  ended {e = e} {at = at} s = finish_ends G n tokens from at e e refl s

  -- an optional part
  module _ {S : Type 0} {C : Option S → R → List Lexeme → List Lexeme → Type 0} {at : ℕ} (kind : Place → Lexeme) (X : S → List Lexeme → List Lexeme → Type 0) (first : BeginsWith kind X) where
    or_none : Stage G n tokens from at (After (Maybe X) C) → Stage G n tokens from at (λ r ys w. After X (λ x. C (Some x)) r ys w ⊎ C None r ys w)
    or_none s =
        change G n tokens from at (After (Maybe X) C) (λ r ys w. After X (λ x. C (Some x)) r ys w ⊎ C None r ys w)
        (λ r ys w stop near a. there r w a.part ys a.others a.phrase a.rest)
        (λ r ys w c.
        elim c [
          | inl a ↦ record { part = Some a.part; others = a.others; phrase = present a.phrase; rest = a.rest }
          | inr d ↦ record { part = None; others = ys; phrase = absent; rest = d }
        ])
        s
      where
        there : (r : R) (w : List Lexeme) (o : Option S) (ys us : List Lexeme) → Maybe X o ys us → C o r us w → After X (λ x. C (Some x)) r ys w ⊎ C None r ys w
        there r w None ys us absent c = inr c
        there r w (Some x) ys us (present g) c = inl (record { part = x; others = us; phrase = g; rest = c })

    without : (Stands kind tokens at → ⊥) → Stage G n tokens from at (After (Maybe X) C) → Stage G n tokens from at (C None)
    without never s =
        change G n tokens from at (λ r ys w. After X (λ x. C (Some x)) r ys w ⊎ C None r ys w) (C None)
        (λ r ys w stop near c.
        elim c [
          | inl a ↦ (let f = first a.part ys a.others a.phrase in absurd (never (f.0, near_get tokens at (kind f.0) f.1 (subst (λ x. Near x (drop at tokens)) f.2 near))))
          | inr d ↦ d
        ])
        (λ r ys w d. inr d)
        (or_none s)

    module _ {m to : ℕ} (stops : (b : S) → Stops n m (C (Some b))) (avoids : (p : Place) → Avoids n (kind p) (C None)) where
      pub maybe : {o : Option S} → Stage G n tokens from at (After (Maybe X) C) → ReadsMaybe kind X m tokens at o to → Stage G n tokens from to (C o)
      maybe {o = o} s x = by o x
        where
          by : (o : Option S) → ReadsMaybe kind X m tokens at o to → Stage G n tokens from to (C o)
          by None x = subst (λ i. Stage G n tokens from i (C None)) (sym x.0) (without x.1 s)
          by (Some b) x = phrase_or G n tokens from X m (λ x. C (Some x)) stops at to (C None) (or_none s) b x.2 (ruled_out n tokens at to kind (C None) avoids x.0 x.1 x.2.high x.2.us x.2.spelled)

      pub maybe_fails : ((b : S) → Closes (C (Some b))) → Stage G n tokens from at (After (Maybe X) C) → Stands kind tokens at → at < to → Fails X m tokens at to → Fails G n tokens from to
      maybe_fails ends s t lt f = phrase_or_fails G n tokens from X m (λ x. C (Some x)) stops at to (C None) (or_none s) ends f (ruled_out n tokens at to kind (C None) avoids t lt f.high f.us f.spelled)
