-- A comma that may be left out, and the mark that closes.
use Rattle.std.proofs.Common.{◌≡◌, refl, sym, ap, ◌∙◌, subst, ℕ, ◌+◌, ◌<◌, ◌≤◌, ◌⊎◌, inl, inr, Bool, true, false, Option, None, Some, List, [], ◌∷◌, ◌++◌, length, drop, arith, slice_get}
use Rattle.shade_base.specs.declared.place.Place.{Place}
use Rattle.shade_ast.specs.declared.lexeme.Sign.{Sign}
use Rattle.shade_ast.specs.declared.lexeme.Sign.TheVariants as sign
use Rattle.shade_ast.specs.Lexemes.{Lexeme, Word, Mark}
use Rattle.shade_ast.specs.Shapes.{NameShape}
use Rattle.shade_ast.specs.Repeats.{Maybe, absent, present}
use Rattle.shade_ast.specs.Statements.{Name, name, CommaName, comma_name, MaybeMark, no_mark, some_mark}
use Rattle.shade_ast.specs.Reads.{Near, Reads, Fails, rank, rank_of}
use Rattle.shade_ast.proofs.Stages.{Stage, Closes, near_get, begin, change, closes_end, closes_after}
use Rattle.shade_ast.specs.Chains.{After, Ends, Placed}
use Rattle.shade_ast.proofs.Placed.{placed_closes, name_begins, some_place}
use Rattle.shade_parse_simple.specs.Rests.{Ending, ending, SpaceEnd, space_end}
use Rattle.shade_parse_simple.proofs.Steps.{Stops, end_stops, next, next_fails, token, no_token, ended, left, right, not_here}

module _ (closer : Sign) where
  abbrev CloseNow : Bool → List Lexeme → List Lexeme → Type 0
  CloseNow = After (Placed (Mark closer)) (λ p. Ends false)

  abbrev CloseThen : Bool → List Lexeme → List Lexeme → Type 0
  CloseThen = After (Placed (Mark sign.Comma)) (λ q. After (Placed (Mark closer)) (λ p. Ends true))

  mark_there : (b : Bool) (ts us : List Lexeme) → MaybeMark sign.Comma b ts us → (p : Place) (w : List Lexeme) → us ≡ Mark closer p ∷ w → CloseNow b ts w ⊎ CloseThen b ts w
  mark_there b ts us no_mark p w e = inl (record { part = p; others = w; phrase = record { is = e }; rest = record { same = refl; left = refl } })
  mark_there b ts us (some_mark q) p w e = inr (record { part = q; others = us; phrase = record { is = refl }; rest = record { part = p; others = w; phrase = record { is = e }; rest = record { same = refl; left = refl } } })

  ending_there : (r : Bool) (ts w : List Lexeme) → Ending closer r ts w → CloseNow r ts w ⊎ CloseThen r ts w
  ending_there r ts w (ending p g) = mark_there r ts (Mark closer p ∷ w) g p w refl

  now_back : (r : Bool) (ts w : List Lexeme) → CloseNow r ts w → Ending closer r ts w
  now_back r ts w a = subst (λ x. Ending closer x ts w) (sym a.rest.same) (subst (λ l. Ending closer false ts l) a.rest.left (subst (λ l. Ending closer false l a.others) (sym a.phrase.is) (ending a.part no_mark)))

  then_back : (r : Bool) (ts w : List Lexeme) → CloseThen r ts w → Ending closer r ts w
  then_back r ts w a =
      let b = a.rest in
      subst (λ x. Ending closer x ts w) (sym b.rest.same)
      (subst (λ l. Ending closer true ts l) b.rest.left
      (subst (λ l. Ending closer true l b.others) (sym (a.phrase.is ∙ ap (λ l. Mark sign.Comma a.part ∷ l) b.phrase.is)) (ending b.part (some_mark a.part))))

  pub ending_closes : Closes (Ending closer)
  ending_closes = record { tree = false; more = Mark closer some_place ∷ []; closed = λ w. ending some_place no_mark }

  then_closes : (q : Place) → Closes (After (Placed (Mark closer)) (λ p. Ends true))
  then_closes q = closes_after (Placed (Mark closer)) (λ p. Ends true) (placed_closes (Mark closer)) (λ p. closes_end true)

  module _ {tokens : List Lexeme} {from : ℕ} (h : from ≤ length tokens) where
    ending_begin : Stage (Ending closer) 0 tokens from from (λ r ys w. CloseNow r ys w ⊎ CloseThen r ys w)
    ending_begin = change (Ending closer) 0 tokens from from (Ending closer) (λ r ys w. CloseNow r ys w ⊎ CloseThen r ys w) (λ r ys w stop near g. ending_there r ys w g) (λ r ys w c. elim c [ inl a ↦ now_back r ys w a | inr a ↦ then_back r ys w a ]) (begin (Ending closer) 0 tokens from h)

    pub ending_now : (p : Place) → slice_get tokens from ≡ Some (Mark closer p) → (closer ≡ sign.Comma → ⊥) → Reads (Ending closer) 0 tokens from false (from + 1)
    ending_now p is other =
        ended (token (λ p. refl) p is (left (not_here 0 tokens from (Mark sign.Comma) (λ q. After (Placed (Mark closer)) (λ p. Ends true)) (λ q e. other (let f : Some (Mark closer p) ≡ Some (Mark sign.Comma q) = sym is ∙ e in cc))) ending_begin))

    module _ (unclosed : (p : Place) → slice_get tokens from ≡ Some (Mark closer p) → ⊥) where
      ending_then : Stage (Ending closer) 0 tokens from from CloseThen
      ending_then = right (not_here 0 tokens from (Mark closer) (λ p. Ends false) unclosed) ending_begin

      pub ending_stuck : ((p : Place) → slice_get tokens from ≡ Some (Mark sign.Comma p) → ⊥) → Fails (Ending closer) 0 tokens from from
      ending_stuck never = no_token then_closes never ending_then

      module _ (q : Place) (comma : slice_get tokens from ≡ Some (Mark sign.Comma q)) where
        pub ending_reads : (p : Place) → slice_get tokens (from + 1) ≡ Some (Mark closer p) → Reads (Ending closer) 0 tokens from true (from + 1 + 1)
        ending_reads p is = ended (token (λ p. refl) p is (token (λ p. refl) q comma ending_then))

        pub ending_open : ((p : Place) → slice_get tokens (from + 1) ≡ Some (Mark closer p) → ⊥) → Fails (Ending closer) 0 tokens from (from + 1)
        ending_open never = no_token (λ p. closes_end true) never (token (λ p. refl) q comma ending_then)

-- a second name, and the end
abbrev pub some_access : NameShape → Bool → Option NameShape × Bool
some_access n b = (Some n, b)

abbrev pub no_access : Bool → Option NameShape × Bool
no_access b = (None, b)

abbrev NameThen : Option NameShape × Bool → List Lexeme → List Lexeme → Type 0
NameThen = After Name (λ n. After (Ending sign.CloseTemplate) (λ t. Ends (some_access n t)))

abbrev SpaceNow : Option NameShape × Bool → List Lexeme → List Lexeme → Type 0
SpaceNow = After (Placed (Mark sign.CloseTemplate)) (λ p. Ends (no_access false))

abbrev SpaceComma : Option NameShape × Bool → List Lexeme → List Lexeme → Type 0
SpaceComma r ys w = After (Placed (Mark sign.CloseTemplate)) (λ p. Ends (no_access true)) r ys w ⊎ NameThen r ys w

abbrev SpaceThen : Option NameShape × Bool → List Lexeme → List Lexeme → Type 0
SpaceThen = After (Placed (Mark sign.Comma)) (λ q. SpaceComma)

access_there : (a : Option NameShape) (t : Bool) (ts us w : List Lexeme) → Maybe CommaName a ts us → Ending sign.CloseTemplate t us w → SpaceNow (a, t) ts w ⊎ SpaceThen (a, t) ts w
access_there None t ts us w absent e =
    elim (ending_there sign.CloseTemplate t ts w e) [
      | inl a ↦ inl (record { part = a.part; others = a.others; phrase = a.phrase; rest = record { same = ap no_access a.rest.same; left = a.rest.left } })
      | inr a ↦ inr (record { part = a.part; others = a.others; phrase = a.phrase; rest = inl (record { part = a.rest.part; others = a.rest.others; phrase = a.rest.phrase; rest = record { same = ap no_access a.rest.rest.same; left = a.rest.rest.left } }) })
    ]
access_there (Some n) t ts us w (present (comma_name p m)) e = inr
    (record {
      part = p;
      others = Word n.text n.place ∷ us;
      phrase = record { is = refl };
      rest = inr
          (record { part = n; others = us; phrase = name n; rest = record { part = t; others = w; phrase = e; rest = record { same = refl; left = refl } } });
    })

space_there : (r : Option NameShape × Bool) (ts w : List Lexeme) → SpaceEnd r ts w → SpaceNow r ts w ⊎ SpaceThen r ts w
space_there r ts w (space_end {access = a} {trailing = t} {us = us} m e) = access_there a t ts us w m e

now_space : (r : Option NameShape × Bool) (ts w : List Lexeme) → SpaceNow r ts w → SpaceEnd r ts w
now_space r ts w a = subst (λ x. SpaceEnd x ts w) (sym a.rest.same) (space_end absent (now_back sign.CloseTemplate false ts w (record { part = a.part; others = a.others; phrase = a.phrase; rest = record { same = refl; left = a.rest.left } })))

then_space : (r : Option NameShape × Bool) (ts w : List Lexeme) → SpaceThen r ts w → SpaceEnd r ts w
then_space r ts w a =
    elim a.rest [
      | inl b ↦ subst (λ x. SpaceEnd x ts w) (sym b.rest.same)
          (space_end absent
          (then_back sign.CloseTemplate true ts w
          (record {
            part = a.part;
            others = a.others;
            phrase = a.phrase;
            rest = record { part = b.part; others = b.others; phrase = b.phrase; rest = record { same = refl; left = b.rest.left } };
          })))
      | inr b ↦
          (let e = b.rest in
          subst (λ x. SpaceEnd x ts w) (sym e.rest.same)
          (subst (λ l. SpaceEnd (some_access b.part e.part) l w) (sym (a.phrase.is ∙ ap (λ l. Mark sign.Comma a.part ∷ l) (name_begins b.part a.others b.others b.phrase)))
          (space_end (present (comma_name a.part b.part)) (subst (λ l. Ending sign.CloseTemplate e.part b.others l) e.rest.left e.phrase))))
    ]

close_closes : (b : Bool) → Closes (After (Placed (Mark sign.CloseTemplate)) (λ p. Ends (no_access b)))
close_closes b = closes_after (Placed (Mark sign.CloseTemplate)) (λ p. Ends (no_access b)) (placed_closes (Mark sign.CloseTemplate)) (λ p. closes_end (no_access b))

comma_closes : (q : Place) → Closes SpaceComma
comma_closes q = let c = close_closes true in record { tree = c.tree; more = c.more; closed = λ w. inl (c.closed w) }

pub space_closes : Closes SpaceEnd
space_closes = let c = close_closes false in record { tree = c.tree; more = c.more; closed = λ w. now_space c.tree (c.more ++ w) w (c.closed w) }

ending_first : (closer : Sign) (m : ℕ) → ((p : Place) → m < rank_of (Mark closer p)) → m < 10 → (r : Bool) (ts w : List Lexeme) → Ending closer r ts w → m < rank ts
ending_first closer m low comma r ts w e =
    elim (ending_there closer r ts w e) [
      | inl a ↦ subst (λ l. m < rank l) (sym a.phrase.is) (low a.part)
      | inr a ↦ subst (λ l. m < rank l) (sym a.phrase.is) comma
    ]

-- what begins with a comma or the mark
pub ending_stops : {R : Type 0} {C : Bool → R → List Lexeme → List Lexeme → Type 0} (closer : Sign) (n m : ℕ) → ((p : Place) → m < rank_of (Mark closer p)) → m < 10 → Stops n m (After (Ending closer) C)
ending_stops closer n m low comma r zs w stop a = ending_first closer m low comma a.part zs a.others a.phrase

pub space_stops : {R : Type 0} {C : Option NameShape × Bool → R → List Lexeme → List Lexeme → Type 0} (n m : ℕ) → m < 10 → Stops n m (After SpaceEnd C)
space_stops n m low r zs w stop a =
    elim (space_there a.part zs a.others a.phrase) [
      | inl b ↦ subst (λ l. m < rank l) (sym b.phrase.is) low
      | inr b ↦ subst (λ l. m < rank l) (sym b.phrase.is) low
    ]

name_ends : (n : NameShape) → Closes (After (Ending sign.CloseTemplate) (λ t. Ends (some_access n t)))
name_ends n = closes_after (Ending sign.CloseTemplate) (λ t. Ends (some_access n t)) (ending_closes sign.CloseTemplate) (λ t. closes_end (some_access n t))

module _ {tokens : List Lexeme} {from : ℕ} (h : from ≤ length tokens) where
  space_begin : Stage SpaceEnd 0 tokens from from (λ r ys w. SpaceNow r ys w ⊎ SpaceThen r ys w)
  space_begin = change SpaceEnd 0 tokens from from SpaceEnd (λ r ys w. SpaceNow r ys w ⊎ SpaceThen r ys w) (λ r ys w stop near g. space_there r ys w g) (λ r ys w c. elim c [ inl a ↦ now_space r ys w a | inr a ↦ then_space r ys w a ]) (begin SpaceEnd 0 tokens from h)

  pub space_now : (p : Place) → slice_get tokens from ≡ Some (Mark sign.CloseTemplate p) → Reads SpaceEnd 0 tokens from (None, false) (from + 1)
  space_now p is = ended (token (λ p. refl) p is (left (not_here 0 tokens from (Mark sign.Comma) (λ q. SpaceComma) (λ q e. let f : Some (Mark sign.CloseTemplate p) ≡ Some (Mark sign.Comma q) = sym is ∙ e in cc)) space_begin))

  module _ (unclosed : (p : Place) → slice_get tokens from ≡ Some (Mark sign.CloseTemplate p) → ⊥) where
    space_then : Stage SpaceEnd 0 tokens from from SpaceThen
    space_then = right (not_here 0 tokens from (Mark sign.CloseTemplate) (λ p. Ends (no_access false)) unclosed) space_begin

    pub space_stuck : ((p : Place) → slice_get tokens from ≡ Some (Mark sign.Comma p) → ⊥) → Fails SpaceEnd 0 tokens from from
    space_stuck never = no_token comma_closes never space_then

    module _ (q : Place) (comma : slice_get tokens from ≡ Some (Mark sign.Comma q)) where
      space_comma : Stage SpaceEnd 0 tokens from (from + 1) SpaceComma
      space_comma = token (λ p. refl) q comma space_then

      pub space_comma_close : (p : Place) → slice_get tokens (from + 1) ≡ Some (Mark sign.CloseTemplate p) → Reads SpaceEnd 0 tokens from (None, true) (from + 1 + 1)
      space_comma_close p is =
          ended
          (token (λ p. refl) p is
          (left
          (λ r ys w stop b near. let e : slice_get tokens (from + 1) ≡ Some (Word b.part.text b.part.place) = near_get tokens (from + 1) (Word b.part.text b.part.place) b.others
          (subst (λ x. Near x (drop (from + 1) tokens)) (name_begins b.part ys b.others b.phrase) near) in let f : Some (Mark sign.CloseTemplate p) ≡ Some
          (Word b.part.text b.part.place) = sym is ∙ e in cc) space_comma))

      module _ (more : (p : Place) → slice_get tokens (from + 1) ≡ Some (Mark sign.CloseTemplate p) → ⊥) where
        space_name : Stage SpaceEnd 0 tokens from (from + 1) NameThen
        space_name = right (not_here 0 tokens (from + 1) (Mark sign.CloseTemplate) (λ p. Ends (no_access true)) more) space_comma

        pub space_name_fails : {to : ℕ} → Fails Name 0 tokens (from + 1) to → Fails SpaceEnd 0 tokens from to
        space_name_fails f = next_fails (λ n. ending_stops sign.CloseTemplate 0 0 (λ p. omega arith) (omega arith)) name_ends space_name f

        module _ {n : NameShape} {at : ℕ} (x : Reads Name 0 tokens (from + 1) n at) where
          space_named : Stage SpaceEnd 0 tokens from at (After (Ending sign.CloseTemplate) (λ t. Ends (some_access n t)))
          space_named = next (λ n. ending_stops sign.CloseTemplate 0 0 (λ p. omega arith) (omega arith)) space_name x

          pub space_end_fails : {to : ℕ} → Fails (Ending sign.CloseTemplate) 0 tokens at to → Fails SpaceEnd 0 tokens from to
          space_end_fails f = next_fails (λ t. end_stops 0 0 (omega arith)) (λ t. closes_end (some_access n t)) space_named f

          pub space_reads : {t : Bool} {to : ℕ} → Reads (Ending sign.CloseTemplate) 0 tokens at t to → Reads SpaceEnd 0 tokens from (Some n, t) to
          space_reads y = ended (next (λ t. end_stops 0 0 (omega arith)) space_named y)
