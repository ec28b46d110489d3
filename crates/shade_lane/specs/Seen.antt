-- What callers see of a lane, and the lane that it stands for.
use Rattle.std.specs.Prelude.{◌≡◌, ℕ, Bool, true, false, List, [], ◌∷◌, Option, None, refl, slice_get}
use Rattle.std.specs.Coded.{Coded, code_by, coded×, coded_ℕ, coded_list, coded_option}
use Rattle.shade_values.specs.declared.value.Value.{Value}
use Rattle.shade_values.specs.contracts.value.Value as value_row
use Rattle.shade_core.specs.declared.statement.CoreStatement.{CoreStatement}
use Rattle.shade_core.specs.contracts.statement.CoreStatement as statement_row
use Rattle.shade_core.specs.Code.{code_of}
use Rattle.shade_lane.specs.declared.state.LaneState.{LaneState}
use Rattle.shade_lane.specs.contracts.state.LaneState as state_row
use Rattle.shade_lane.specs.declared.state.LaneState.TheVariants.{Able, Waiting, Ended}
use Rattle.shade_lane.specs.declared.lane.LaneEvent.{LaneEvent}
use Rattle.shade_lane.specs.declared.lane.LaneEvent.TheVariants as lane_event
use Rattle.shade_lane.specs.Lane.{Rest, halt, seq, Place, next, known, step, is_over}
use Rattle.shade_lane.specs.Members.{Member, arrival, state_by}

-- the number of the entry, the values of the parameters, those that the statements gave, the open lists, the innermost first, and
-- the state
pub record Seen : Type 0 where
  pub entry : ℕ
  pub params : List (Option Value)
  pub slots : List (Option Value)
  pub lists : List (List CoreStatement)
  pub state : LaneState

abbrev pub seen_code : Coded Seen
seen_code =
    code_by (ℕ × (List (Option Value) × (List (Option Value) × (List (List CoreStatement) × LaneState))))
    (coded× coded_ℕ (coded× (coded_list (coded_option value_row.the_row.coded)) (coded× (coded_list (coded_option value_row.the_row.coded)) (coded× (coded_list (coded_list statement_row.the_row.coded)) state_row.the_row.coded))))
    (λ s. (s.entry, (s.params, (s.slots, (s.lists, s.state)))))
    (λ p. record { entry = p.0; params = p.1.0; slots = p.1.1.0; lists = p.1.1.1.0; state = p.1.1.1.1 }) (λ _. refl)

-- the open lists as what is left
abbrev pub rest_of : List (List CoreStatement) → Rest
rest_of [] = halt
rest_of (list ∷ lists) = seq (code_of list) (rest_of lists)

-- the value of a statement
abbrev pub slot_value : List (Option Value) → ℕ → Option Value
slot_value slots n = known (slice_get slots n)

-- where a lane with these open lists stands
abbrev pub place_of : List (List CoreStatement) → Place
place_of lists = next (rest_of lists)

-- the lane that is seen
abbrev pub member_of : Seen → Member
member_of s = record { entry = s.entry; params = s.params; lane = record { place = place_of s.lists; values = slot_value s.slots }; state = s.state }

-- what follows the first statement in its list
abbrev pub later_of : List (List CoreStatement) → List CoreStatement
later_of [] = []
later_of ([] ∷ lists) = []
later_of ((s ∷ list) ∷ lists) = list

-- the lists outside of the innermost
abbrev pub below_of : List (List CoreStatement) → List (List CoreStatement)
below_of [] = []
below_of (list ∷ lists) = lists

-- a statement is the first one left
abbrev pub HasFirst : CoreStatement → List (List CoreStatement) → Type 0
HasFirst s lists = lists ≡ (s ∷ later_of lists) ∷ below_of lists

abbrev pub has_first : List (List CoreStatement) → Bool
has_first [] = false
has_first ([] ∷ lists) = false
has_first ((s ∷ list) ∷ lists) = true

-- with these open lists and values
abbrev pub went : List (List CoreStatement) → (ℕ → Option Value) → Member → Member
went lists values m = record m { lane = record { place = place_of lists; values = values } }

-- one of two parts
abbrev pub part_of : Bool → List CoreStatement → List CoreStatement → List CoreStatement
part_of true first second = first
part_of false first second = second

-- after a step, but for its end where nothing is left
abbrev pub taken : Member → Member
taken m = record m { lane = step m.params m.lane; state = state_by (arrival m.entry m.lane.place) false }

abbrev pub finished_state : LaneState → Bool → LaneState
finished_state Able true = Ended
finished_state Able false = Able
finished_state (Waiting space instance) over = Waiting space instance
finished_state Ended over = Ended

-- ended where it is able and nothing is left
abbrev pub finished : Member → Member
finished m = record m { state = finished_state m.state (is_over m.lane.place) }

-- what a step answers that came to a state
abbrev pub event_by : LaneState → LaneEvent
event_by Able = lane_event.Ran None
event_by (Waiting space instance) = lane_event.Arrives
event_by Ended = lane_event.Ended
