-- The sizes of workgroups, and their lanes at the start.
use Rattle.std.proofs.Common.{◌≡◌, ℕ, zero, suc, ◌+◌, ◌-◌, ◌*◌, ◌/◌, ◌%◌, ◌<◌, ◌≤◌, List, [], ◌∷◌, ◌++◌, Some, refl, ap, sym, ◌∙◌, length, arith, append_assoc, subst}
use Rattle.std.proofs.Math.Nat.{mul-le-mul, mul-le-mul_left, mul-le-mul_right, mul-one, one-mul, zero-mul, mul-zero, mod-le, div-le_self}
use Rattle.std.proofs.lemmas.List.{map_push}
use Rattle.std.specs.Prelude.{slice_get, slice_index}
use Rattle.shade_core.specs.declared.module.CoreFunction.{CoreFunction}
use Rattle.shade_core.specs.declared.module.CoreModule.{CoreModule}
use Rattle.shade_mem.specs.declared.inputs.Inputs.{Inputs}
use Rattle.shade_mem.specs.Inputs.{IsAllowed}
use Rattle.shade_lane.specs.Lane.{global_part}
use Rattle.shade_lane.specs.Members.{begin_member}
use Rattle.shade_lane.specs.Seen.{Seen, member_of}
use Rattle.shade_group.specs.Group.{IsRunnable, sized_runs, entry_runs, lane_count, builtins_of, members_from}
use Rattle.shade_group.specs.Inside.{members_of}

pub pos_left : (x c : ℕ) → 0 < x * c → 0 < x
pos_left zero c h = let e : zero * c ≡ 0 = zero-mul c in absurd (omega (arith, e, h))
pos_left (suc x) c h = omega arith

pub pos_right : (x c : ℕ) → 0 < x * c → 0 < c
pos_right x zero h = let e : x * zero ≡ 0 = mul-zero x in absurd (omega (arith, e, h))
pos_right x (suc c) h = omega arith

le_left : (x c : ℕ) → 0 < c → x ≤ x * c
le_left x c h = let m : x * 1 ≤ x * c = mul-le-mul_left x h in let e : x * 1 ≡ x = mul-one x in omega (arith, m, e)

le_right : (x c : ℕ) → 0 < x → c ≤ x * c
le_right x c h = let m : 1 * c ≤ x * c = mul-le-mul_right c h in let e : 1 * c ≡ c = one-mul c in omega (arith, m, e)

-- what the number of lanes says of the three parts
pub record Sizes (a b c : ℕ) : Type 0 where
  pub first : 0 < a
  pub second : 0 < b
  pub both : 0 < a * b
  pub flat : a * b ≤ 256
  pub most_first : a ≤ 256
  pub most_second : b ≤ 256
  pub most_third : c ≤ 256

pub sizes_of : (a b c : ℕ) → 1 ≤ a * b * c → a * b * c ≤ 256 → Sizes a b c
sizes_of a b c some most =
    let both : 0 < a * b = pos_left (a * b) c some in
    let third : 0 < c = pos_right (a * b) c some in
    let first : 0 < a = pos_left a b both in
    let second : 0 < b = pos_right a b both in
    let one : a * b ≤ a * b * c = le_left (a * b) c third in
    let two : a ≤ a * b = le_left a b second in
    let three : b ≤ a * b = le_right a b first in
    let four : c ≤ a * b * c = le_right (a * b) c both in
    record { first = first; second = second; both = both; flat = omega (arith, one, most); most_first = omega (arith, two, one, most); most_second = omega (arith, three, one, most); most_third = omega (arith, four, most) }

pub entry_is : (shader : CoreModule) (entry : ℕ) (f : CoreFunction) (size : List ℕ) → Some f ≡ slice_get shader.functions entry → f.entry ≡ Some size → IsRunnable shader entry → sized_runs f (Some size)
entry_is shader entry f size found sized runs = subst (λ e. sized_runs f e) sized (subst (λ o. entry_runs o) (sym found) runs.body)

part_small : (g s l : ℕ) → g ≤ 65535 → s ≤ 256 → l ≤ 256 → g * s + l < 4294967296
part_small g s l hg hs hl = let m : g * s ≤ 65535 * 256 = mul-le-mul hg hs in omega (arith, m, hl)

pub global_small : (shader : CoreModule) (inputs : Inputs) (size : List ℕ) → IsAllowed shader inputs → Sizes (slice_index size 0) (slice_index size 1) (slice_index size 2) → lane_count size ≤ 256
    → (n : ℕ) → n < lane_count size → (i : ℕ) → i < 3 → global_part (builtins_of inputs size n) i < 4294967296
global_small shader inputs size allowed sizes most n h zero lt =
    let low : slice_index inputs.group 0 < slice_index inputs.groups 0 = allowed.group 0 lt in
    let high : slice_index inputs.groups 0 ≤ 65535 = allowed.most 0 lt in
    let here : n % slice_index size 0 ≤ n = mod-le n (slice_index size 0) in
    part_small (slice_index inputs.group 0) (slice_index size 0) (n % slice_index size 0) (omega (arith, low, high)) sizes.most_first (omega (arith, here, h, most))
global_small shader inputs size allowed sizes most n h (suc zero) lt =
    let low : slice_index inputs.group 1 < slice_index inputs.groups 1 = allowed.group 1 lt in
    let high : slice_index inputs.groups 1 ≤ 65535 = allowed.most 1 lt in
    let here : (n / slice_index size 0) % slice_index size 1 ≤ n / slice_index size 0 = mod-le (n / slice_index size 0) (slice_index size 1) in
    let there : n / slice_index size 0 ≤ n = div-le_self n (slice_index size 0) in
    part_small (slice_index inputs.group 1) (slice_index size 1) ((n / slice_index size 0) % slice_index size 1) (omega (arith, low, high)) sizes.most_second (omega (arith, here, there, h, most))
global_small shader inputs size allowed sizes most n h (suc (suc zero)) lt =
    let low : slice_index inputs.group 2 < slice_index inputs.groups 2 = allowed.group 2 lt in
    let high : slice_index inputs.groups 2 ≤ 65535 = allowed.most 2 lt in
    let there : n / (slice_index size 0 * slice_index size 1) ≤ n = div-le_self n (slice_index size 0 * slice_index size 1) in
    part_small (slice_index inputs.group 2) (slice_index size 2) (n / (slice_index size 0 * slice_index size 1)) (omega (arith, low, high)) sizes.most_third (omega (arith, there, h, most))
global_small shader inputs size allowed sizes most n h (suc (suc (suc i))) lt = absurd (omega (arith, lt))

-- one more lane
pub one_more_lane : (inputs : Inputs) (f : CoreFunction) (size : List ℕ) (lanes : List Seen) (x : Seen) (n count : ℕ) → n < count → member_of x ≡ begin_member inputs.entry f (builtins_of inputs size n)
    → members_of (lanes ++ x ∷ []) ++ members_from inputs f size (n + 1) (count - (n + 1)) ≡ members_of lanes ++ members_from inputs f size n (count - n)
one_more_lane inputs f size lanes x n count h e =
    let shift : count - n ≡ suc (count - (n + 1)) = omega (arith, h) in
    ap (λ ms. ms ++ members_from inputs f size (n + 1) (count - (n + 1))) (map_push member_of lanes x)
    ∙ (append_assoc (members_of lanes) (member_of x ∷ []) (members_from inputs f size (n + 1) (count - (n + 1)))
    ∙ ap (λ ms. members_of lanes ++ ms) (ap (λ m. m ∷ members_from inputs f size (n + 1) (count - (n + 1))) e ∙ sym (ap (members_from inputs f size n) shift)))

pub length_push : {A : Type 0} (xs : List A) (x : A) → length (xs ++ x ∷ []) ≡ length xs + 1
length_push [] x = refl
length_push (y ∷ xs) x = let e : length (xs ++ x ∷ []) ≡ length xs + 1 = length_push xs x in omega (arith, e)
