-- Each lane follows one lane that has only what is low.
use Rattle.std.proofs.Common.{◌≡◌, ℕ, zero, suc, ◌+◌, Bool, true, false, List, Option, Some, None, refl, ap, sym, ◌∙◌, subst, add-zero, add-suc}
use Rattle.shade_values.specs.declared.value.Value.{Value as AValue}
use Rattle.shade_core.specs.declared.statement.Operand.{Operand}
use Rattle.shade_core.specs.declared.module.CoreFunction.{CoreFunction}
use Rattle.shade_core.specs.Behaviour.{next_only}
use Rattle.shade_core.specs.Code.{Plain, Jump, Code, done, plain, jump, call, branch, switch, loop, no_part, part}
use Rattle.shade_graph.specs.declared.node.Node.{Node}
use Rattle.shade_graph.specs.Graph
use Rattle.shade_lane.specs.Lane.{Rest, halt, seq, Place, Over, First, go, tested, Does, does, Lane, test_value, values_after, begin, step}
use Rattle.shade_sound.proofs.Closed.{Closed, operand_low}
use Rattle.shade_sound.proofs.Rests.{low_rest, rest_of, low_place, place_low, Live, Fits, StandsWell, place_itself, next_fits, low_next}
use Rattle.shade_sound.proofs.Moves.{go_fits, high_same, low_same}
use Rattle.shade_sound.proofs.Holds.{SameValues, SameParams, DoesKeep, does_low, test_same, values_high, values_low}

-- the lane that has only what is low, with these parameters
abbrev pub low_begin : (Node → Bool) → Code → Lane
low_begin low body = record { place = low_rest low (seq body halt); values = λ n. None }

abbrev pub low_step : (Node → Bool) → List (Option AValue) → Lane → Lane
low_step low ideal lane = record { place = low_rest low (go (test_value ideal lane.values (tested lane.place)) lane.place); values = values_after ideal lane.values (does lane.place) }

abbrev pub low_steps : (Node → Bool) → List (Option AValue) → ℕ → Lane → Lane
low_steps low ideal zero lane = lane
low_steps low ideal (suc n) lane = low_step low ideal (low_steps low ideal n lane)

-- a lane follows another that has only what is low
pub record Follows (f : CoreFunction) (low : Node → Bool) (lane other : Lane) : Type 0 where
  pub stands : StandsWell f low lane.place
  pub place : low_place low lane.place ≡ other.place
  pub values : SameValues low lane.values other.values

high_does : (low : Node → Bool) (p : Place) → place_low low p ≡ false → does_low low (does p) ≡ false
high_does low Over e = refl
high_does low (First (plain n act rest) k) e = e
high_does low (First done k) e = refl
high_does low (First (jump n act rest) k) e = refl
high_does low (First (call n g args rest) k) e = refl
high_does low (First (branch n cond one two rest) k) e = refl
high_does low (First (switch n selector parts rest) k) e = refl
high_does low (First (loop n body continuing leave rest) k) e = refl
high_does low (First no_part k) e = refl
high_does low (First (part n which keys fallback body others) k) e = refl

-- what a step does keeps the marking
pub keeps_of : (f : CoreFunction) (low : Node → Bool) (p : Place) → StandsWell f low p → DoesKeep f low (does p)
keeps_of f low Over h = tt
keeps_of f low (First (plain n act rest) k) h =
    let l : Live f low (plain n act rest) k = h.0 refl in
    record { rows = λ r. l.closed.rows (Graph.plain_row r); stands = λ g. l.closed.stands (Graph.plain_stands_value g) }
keeps_of f low (First done k) h = tt
keeps_of f low (First (jump n act rest) k) h = tt
keeps_of f low (First (call n g args rest) k) h = tt
keeps_of f low (First (branch n cond one two rest) k) h = tt
keeps_of f low (First (switch n selector parts rest) k) h = tt
keeps_of f low (First (loop n body continuing leave rest) k) h = tt
keeps_of f low (First no_part k) h = tt
keeps_of f low (First (part n which keys fallback body others) k) h = tt

-- before its first step
pub begins : (f : CoreFunction) (low : Node → Bool) (body : Code) → Fits f low next_only (seq body halt) → Follows f low (begin body) (low_begin low body)
begins f low body fits = record { stands = next_fits f low (seq body halt) fits; place = sym (low_next low (seq body halt)); values = λ n h. refl }

module _ (f : CoreFunction) (low : Node → Bool) (params ideal : List (Option AValue)) (same : SameParams low params ideal) where
  -- what is left after a step stands well
  stands_on : (lane : Lane) → StandsWell f low lane.place → StandsWell f low (step params lane).place
  stands_on lane h = next_fits f low (go (test_value params lane.values (tested lane.place)) lane.place) (go_fits f low (test_value params lane.values (tested lane.place)) lane.place h)

  -- A step whose control is not low.
  pub high_step : (lane other : Lane) → Follows f low lane other → place_low low lane.place ≡ false → Follows f low (step params lane) other
  high_step lane other h e = record {
    stands = stands_on lane h.stands;
    place = sym (low_next low (go (test_value params lane.values (tested lane.place)) lane.place)) ∙ (high_same f low (test_value params lane.values (tested lane.place)) lane.place h.stands e ∙ h.place);
    values = values_high low params ideal same f lane.values other.values (does lane.place) (keeps_of f low lane.place h.stands) (high_does low lane.place e) h.values;
  }

  agree : (lane : Lane) (values : ℕ → Option AValue) → SameValues low lane.values values → (o : Option Operand) (cond : Operand) → o ≡ Some cond → operand_low low cond ≡ true → test_value params lane.values o ≡ test_value ideal values o
  agree lane values same_values o cond e l = subst (λ z. test_value params lane.values z ≡ test_value ideal values z) (sym e) (test_same low params ideal same lane.values values cond same_values l)

  low_step_at : (lane : Lane) (place : Place) (values : ℕ → Option AValue) → lane.place ≡ place → StandsWell f low lane.place → SameValues low lane.values values → Follows f low (step params lane) (low_step low ideal (record { place = place; values = values }))
  low_step_at lane place values is stands same_values =
      subst (λ p. Follows f low (step params lane) (low_step low ideal (record { place = p; values = values }))) is
      (record {
        stands = stands_on lane stands;
        place = sym (low_next low (go (test_value params lane.values (tested lane.place)) lane.place))
            ∙ low_same f low (test_value params lane.values (tested lane.place)) (test_value ideal values (tested lane.place)) lane.place stands (λ o e l. agree lane values same_values (tested lane.place) o e l);
        values = values_low low params ideal same f lane.values values (does lane.place) (keeps_of f low lane.place stands) same_values;
      })

  -- A step whose control is low is a step of the other.
  pub follow_low : (lane other : Lane) → Follows f low lane other → place_low low lane.place ≡ true → Follows f low (step params lane) (low_step low ideal other)
  follow_low lane other h e = low_step_at lane other.place other.values (sym (place_itself low lane.place e) ∙ h.place) h.stands h.values

-- a lane that is over stays over
over_step : (low : Node → Bool) (ideal : List (Option AValue)) (lane : Lane) → lane.place ≡ Over → (low_step low ideal lane).place ≡ Over
over_step low ideal lane e = ap (λ p. low_rest low (go (test_value ideal lane.values (tested p)) p)) e

pub over_stays : (low : Node → Bool) (ideal : List (Option AValue)) (lane : Lane) (n d : ℕ) → (low_steps low ideal n lane).place ≡ Over → (low_steps low ideal (n + d) lane).place ≡ Over
over_stays low ideal lane n zero e = ap (λ k. (low_steps low ideal k lane).place) (add-zero n) ∙ e
over_stays low ideal lane n (suc d) e = ap (λ k. (low_steps low ideal k lane).place) (add-suc n d) ∙ over_step low ideal (low_steps low ideal (n + d) lane) (over_stays low ideal lane n d e)
