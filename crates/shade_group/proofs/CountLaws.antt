-- A step leaves as many lanes as there were.
use Rattle.std.proofs.Common.{◌≡◌, refl, ap, ◌∙◌, ℕ, zero, suc, Bool, true, false, List, [], ◌∷◌, length, map, Option, None, Some}
use Rattle.std.specs.Prelude.{slice_get, slice_set}
use Rattle.std.proofs.lemmas.List.{length-map}
use Rattle.shade_values.specs.declared.types.Space.{Space}
use Rattle.shade_lane.specs.declared.state.LaneState.{LaneState}
use Rattle.shade_lane.specs.declared.state.LaneState.TheVariants.{Able, Waiting, Ended}
use Rattle.shade_lane.specs.Members.{Member, moved, freed}
use Rattle.shade_group.specs.Group.{Machine, all_wait, met, ended, waited, least_unlike, settled, counted, with_member, acts, step_by, step_of, step}

set_count : (members : List Member) (i : ℕ) (member : Member) → length (slice_set members i member) ≡ length members
set_count [] i member = refl
set_count (m ∷ members) zero member = refl
set_count (m ∷ members) (suc i) member = ap suc (set_count members i member)

met_count : (b : Bool) (space : Space) (instance : List ℕ) (m : Machine) → length (met b space instance m).members ≡ length m.members
met_count true space instance m = length-map m.members freed
met_count false space instance m = refl

ended_count : (number : ℕ) (other : Option ℕ) (m : Machine) → length (ended number other m).members ≡ length m.members
ended_count number None m = refl
ended_count number (Some other) m = refl

waited_count : (number : ℕ) (space : Space) (instance : List ℕ) (other : Option ℕ) (m : Machine) → length (waited number space instance other m).members ≡ length m.members
waited_count number space instance None m = met_count (all_wait m.members) space instance m
waited_count number space instance (Some other) m = refl

settled_count : (number : ℕ) (state : LaneState) (m : Machine) → length (settled number state m).members ≡ length m.members
settled_count number Able m = refl
settled_count number Ended m = ended_count number (least_unlike Ended m.members) m
settled_count number (Waiting space instance) m = waited_count number space instance (least_unlike (Waiting space instance) m.members) m

by_count : (b : Bool) (number : ℕ) (member : Member) (m : Machine) → length (step_by b number member m).members ≡ length m.members
by_count true number member m = settled_count number (moved member).state (with_member number (moved member) (counted m)) ∙ set_count m.members number (moved member)
by_count false number member m = refl

of_count : (number : ℕ) (member : Option Member) (m : Machine) → length (step_of number member m).members ≡ length m.members
of_count number None m = refl
of_count number (Some member) m = by_count (acts m member) number member m

pub lanes_kept : (m n : Machine) (number : ℕ) → n ≡ step m number → length n.members ≡ length m.members
lanes_kept m n number e = ap (λ (x : Machine). length x.members) e ∙ of_count number (slice_get m.members number) m
