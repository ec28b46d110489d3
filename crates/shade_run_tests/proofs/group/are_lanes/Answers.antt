use Rattle.std.proofs.Common.{◌≡◌, ◌∙◌, ℕ, zero, suc, ◌<◌, true, Bool, List, [], ◌∷◌, Option, None, Some, sym, ap, length, rules}
use Rattle.std.proofs.lemmas.Bool.{ltb-true}
use Rattle.std.specs.Prelude.{nat_lt, slice_get}
use Rattle.std.specs.List.{list_all}
use Rattle.shade_group.proofs.LaneLaws.{and_both}
use Rattle.shade_group.specs.Seen.{machine_of}
use Rattle.shade_run_tests.proofs.group.are_lanes.Goals as goal

abbrev below_some : Option ℕ → ℕ → Bool
below_some None count = true
below_some (Some n) count = nat_lt n count

below : (numbers : List ℕ) (count i n : ℕ) → list_all (λ m. nat_lt m count) numbers ≡ true → slice_get numbers i ≡ Some n → n < count
below [] count i n all found = cc
below (m ∷ numbers) count zero n all found = ltb-true n count (ap (λ o. below_some o count) (sym found) ∙ (and_both (nat_lt m count) (list_all (λ m. nat_lt m count) numbers) all).0)
below (m ∷ numbers) count (suc i) n all found = below numbers count i n (and_both (nat_lt m count) (list_all (λ m. nat_lt m count) numbers) all).1 found

pub returns : goal.returns
returns c holds i n found =
    let all : list_all (λ m. nat_lt m (length (machine_of c.args.group.now).members)) c.args.numbers.now ≡ true = search rules in
    below c.args.numbers.now (length (machine_of c.args.group.now).members) i n all found
