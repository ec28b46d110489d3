-- The last phrase of another, the mark behind a phrase, and what may be left out before a mark.
use Rattle.std.proofs.Common.{◌≡◌, refl, sym, ◌∙◌, subst, ℕ, ◌+◌, ◌≤◌, Option, None, Some, List, [], ◌∷◌, length, drop, arith, slice_get}
use Rattle.std.specs.Prelude.{option_map}
use Rattle.shade_base.specs.declared.place.Place.{Place}
use Rattle.shade_ast.specs.declared.lexeme.Sign.TheVariants as sign
use Rattle.shade_ast.specs.Lexemes.{Lexeme, Word, Mark}
use Rattle.shade_ast.specs.Shapes.{named, braces, no_stmts}
use Rattle.shade_ast.specs.Needs.{maybe_of as maybe_needs}
use Rattle.shade_ast.specs.Nodes.{maybe_of as maybe_nodes}
use Rattle.shade_ast.specs.Repeats.{Many, no_more, Maybe, absent, present}
use Rattle.shade_ast.specs.Expressions.{Expression, relational, shifted, additive, multiplicative, unary, operand, primary, typed, plain_type}
use Rattle.shade_ast.specs.Statements.{Block, block, no_statement}
use Rattle.shade_ast.specs.Reads.{Near}
use Rattle.shade_ast.specs.Chains.{After, Ends}
use Rattle.shade_ast.proofs.Stages.{Closes, closes_end, near_get}
use Rattle.shade_ast.proofs.Placed.{some_place, lexeme_place}
use Rattle.shade_parse_simple.specs.declared.read.Read.{Read}
use Rattle.shade_parse_simple.specs.Readings.{Seen}
use Rattle.shade_parse_stmt.specs.Follows.{Marked, ReadsBy, FailsBy, ReadsOfBy}
use Rattle.shade_parse_stmt.specs.StatementParts.{Until}
use Rattle.shade_parse_stmt.proofs.FollowSteps.{Step, begin, change, consume, mark, phrase, phrase_fails, stuck_mark, finish_ends, ends_stops, marked_stops, closes_marked}

pub expression_closes : Closes Expression
expression_closes = record { tree = named some_place []; more = Word [] some_place ∷ []; closed = λ w. relational (shifted (additive (multiplicative (unary (operand (primary (typed (plain_type some_place [])))))))) }

pub block_closes : Closes Block
block_closes = record { tree = braces some_place [] no_stmts some_place; more = Mark sign.OpenBrace some_place ∷ (Mark sign.CloseBrace some_place ∷ []); closed = λ w. block [] some_place some_place no_more no_statement }

pub many_closes : {R : Type 0} (G : R → List Lexeme → List Lexeme → Type 0) → Closes (Many G)
many_closes G = record { tree = []; more = []; closed = λ w. no_more }

pub maybe_closes : {R : Type 0} (G : R → List Lexeme → List Lexeme → Type 0) → Closes (Maybe G)
maybe_closes G = record { tree = None; more = []; closed = λ w. absent }

module _ {R : Type 0} (G : R → List Lexeme → List Lexeme → Type 0) (F : List Lexeme → Type 0) (tokens : List Lexeme) (from : ℕ) where
  -- the last phrase
  module _ {S : Type 0} (B : S → List Lexeme → List Lexeme → Type 0) (H : List Lexeme → Type 0) (f : S → R) (follows : (w : List Lexeme) → F w → H w) (at : ℕ) (s : Step G F tokens from at (After B (λ b. Ends (f b)))) (to : ℕ) where
    pub last_fails : FailsBy B H tokens at to → FailsBy G F tokens from to
    last_fails x = phrase_fails G F tokens from B H (λ b. Ends (f b)) (λ b r zs w stop c. ends_stops F H (f b) r zs w (follows w) stop c) at to (λ b. closes_end (f b)) s x

    pub last_reads : (b : S) → ReadsBy B H tokens at b to → ReadsBy G F tokens from (f b) to
    last_reads b x = finish_ends G F tokens from to (f b) (f b) refl (phrase G F tokens from B H (λ b. Ends (f b)) (λ b r zs w stop c. ends_stops F H (f b) r zs w (follows w) stop c) at to b s x)

  -- a phrase and the mark behind it, which is the last token
  module _ {S : Type 0} (B : S → List Lexeme → List Lexeme → Type 0) (H : List Lexeme → Type 0) (closer : Place → Lexeme) (is_place : (p : Place) → lexeme_place (closer p) ≡ p) (low : (p : Place) (ts : List Lexeme) → H (closer p ∷ ts)) (f : S → Place → R) (at : ℕ) (s : Step G F tokens from at (After B (λ b. Marked closer (λ p. Ends (f b p))))) (to : ℕ) where
    pub closed_fails : FailsBy B H tokens at to → FailsBy G F tokens from to
    closed_fails x = phrase_fails G F tokens from B H (λ b. Marked closer (λ p. Ends (f b p))) (λ b r zs w stop c. marked_stops H closer (λ p. Ends (f b p)) low r zs w c) at to (λ b. closes_marked closer (λ p. Ends (f b p)) (closes_end (f b some_place))) s x

    module _ (b : S) (x : ReadsBy B H tokens at b to) where
      closed_stage : Step G F tokens from to (Marked closer (λ p. Ends (f b p)))
      closed_stage = phrase G F tokens from B H (λ b. Marked closer (λ p. Ends (f b p))) (λ b r zs w stop c. marked_stops H closer (λ p. Ends (f b p)) low r zs w c) at to b s x

      pub closed_open : ((p : Place) → slice_get tokens to ≡ Some (closer p) → ⊥) → FailsBy G F tokens from to
      closed_open never = stuck_mark G F tokens from closer (λ p. Ends (f b p)) (closes_end (f b some_place)) to never closed_stage

      pub closed_reads : (p : Place) → slice_get tokens to ≡ Some (closer p) → ReadsBy G F tokens from (f b p) (to + 1)
      closed_reads p is = finish_ends G F tokens from (to + 1) (f b p) (f b p) refl (mark G F tokens from closer (λ p. Ends (f b p)) is_place to p is closed_stage)

-- what may be left out, and the mark behind it
abbrev pub maybe_seen : {T R : Type 0} → Seen T R → Seen (Option T) (Option R)
maybe_seen seen = record { shape = λ names. option_map (seen.shape names); needs = maybe_needs seen.needs; nodes = maybe_nodes seen.nodes }

module _ {S : Type 0} (closer : Place → Lexeme) (is_place : (p : Place) → lexeme_place (closer p) ≡ p) (B : S → List Lexeme → List Lexeme → Type 0) (H : List Lexeme → Type 0) (low : (p : Place) (ts : List Lexeme) → H (closer p ∷ ts)) (no_item : (s : S) (p : Place) (ts w : List Lexeme) → B s (closer p ∷ ts) w → ⊥) (F : List Lexeme → Type 0) (tokens : List Lexeme) (from : ℕ) (h : from ≤ length tokens) where
  abbrev Here : Option S → List Lexeme → List Lexeme → Type 0
  Here = Until closer B

  none_there : (p : Place) (r : Option S) (zs w : List Lexeme) → Here r (closer p ∷ zs) w → Ends None r zs w
  none_there p r zs w k = by k.part (closer p ∷ zs) k.others k.phrase refl k.rest.place k.rest.split k.rest.rest.same k.rest.rest.left
    where
      by : (o : Option S) (ts us : List Lexeme) → Maybe B o ts us → ts ≡ closer p ∷ zs → (q : Place) {vs : List Lexeme} → us ≡ closer q ∷ vs → r ≡ o → vs ≡ w → Ends None r zs w
      by o ts us absent e q {vs} split same left = record { same = same; left = (let both : closer p ∷ zs ≡ closer q ∷ vs = sym e ∙ split in let rest : zs ≡ vs = cc in rest ∙ left) }
      by o ts us (present {r = b} g) e q split same left = absurd (no_item b p zs us (subst (λ x. B b x us) e g))

  none_back : (p : Place) (r : Option S) (zs w : List Lexeme) → Ends None r zs w → Here r (closer p ∷ zs) w
  none_back p r zs w e = record { part = None; others = closer p ∷ zs; phrase = absent; rest = record { place = p; others = zs; split = refl; rest = e } }

  pub until_none : (p : Place) → slice_get tokens from ≡ Some (closer p) → ReadsBy Here F tokens from None (from + 1)
  until_none p is =
      finish_ends Here F tokens from (from + 1) None None refl
      (change Here F tokens from (from + 1) (λ r zs w. Here r (closer p ∷ zs) w) (Ends None) (λ r zs w stop near k. none_there p r zs w k) (none_back p)
      (consume Here F tokens from from Here (closer p) is (begin Here F tokens from h)))

  abbrev Present : Option S → List Lexeme → List Lexeme → Type 0
  Present = After B (λ b. Marked closer (λ p. Ends (Some b)))

  some_there : ((p : Place) → slice_get tokens from ≡ Some (closer p) → ⊥) → (r : Option S) (ys w : List Lexeme) → Near ys (drop from tokens) → Here r ys w → Present r ys w
  some_there never r ys w near k = by k.part ys k.others k.phrase near k.rest.place k.rest.split k.rest.rest.same k.rest.rest.left
    where
      by : (o : Option S) (ts us : List Lexeme) → Maybe B o ts us → Near ts (drop from tokens) → (q : Place) {vs : List Lexeme} → us ≡ closer q ∷ vs → r ≡ o → vs ≡ w → Present r ts w
      by o ts us absent near q {vs} split same left = absurd (never q (near_get tokens from (closer q) vs (subst (λ x. Near x (drop from tokens)) split near)))
      by o ts us (present {r = b} g) near q {vs} split same left = record { part = b; others = us; phrase = g; rest = record { place = q; others = vs; split = split; rest = record { same = same; left = left } } }

  some_back : (r : Option S) (ys w : List Lexeme) → Present r ys w → Here r ys w
  some_back r ys w k = record { part = Some k.part; others = k.others; phrase = present k.phrase; rest = k.rest }

  module _ (never : (p : Place) → slice_get tokens from ≡ Some (closer p) → ⊥) where
    some_stage : Step Here F tokens from from Present
    some_stage = change Here F tokens from from Here Present (λ r ys w stop near k. some_there never r ys w near k) some_back (begin Here F tokens from h)

    pub until_fails : (to : ℕ) → FailsBy B H tokens from to → FailsBy Here F tokens from to
    until_fails to x = closed_fails Here F tokens from B H closer is_place low (λ b p. Some b) from some_stage to x

    pub until_open : (to : ℕ) (b : S) → ReadsBy B H tokens from b to → ((p : Place) → slice_get tokens to ≡ Some (closer p) → ⊥) → FailsBy Here F tokens from to
    until_open to b x isnt = closed_open Here F tokens from B H closer is_place low (λ b p. Some b) from some_stage to b x isnt

    pub until_some : (to : ℕ) (b : S) → ReadsBy B H tokens from b to → (p : Place) → slice_get tokens to ≡ Some (closer p) → ReadsBy Here F tokens from (Some b) (to + 1)
    until_some to b x p is = closed_reads Here F tokens from B H closer is_place low (λ b p. Some b) from some_stage to b x p is

  module _ {T : Type 0} (seen : Seen T S) (names : List (List ℕ)) (node : ℕ) where
    pub none_tree : (p : Place) → slice_get tokens from ≡ Some (closer p) → ReadsOfBy (maybe_seen seen) Here F tokens names from node (record { tree = None; end = from + 1; node = node })
    none_tree p is = record { reads = until_none p is; known = omega arith; nodes = refl }

    pub some_tree : ((p : Place) → slice_get tokens from ≡ Some (closer p) → ⊥) → (r : Read T) → ReadsOfBy seen B H tokens names from node r → (p : Place) →
        slice_get tokens r.end ≡ Some (closer p) → ReadsOfBy (maybe_seen seen) Here F tokens names from node (record { tree = Some r.tree; end = r.end + 1; node = r.node })
    some_tree never r x p is = record { reads = until_some never r.end (seen.shape names r.tree) x.reads p is; known = x.known; nodes = x.nodes }
