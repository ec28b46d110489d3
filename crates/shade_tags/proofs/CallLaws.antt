-- An analysed call of a function is one of its calls.
use Rattle.std.proofs.Common.{◌≡◌, refl, ℕ, zero, suc, ◌+◌, ◌<◌, List, ◌∷◌, ◌++◌, length, arith}
use Rattle.std.specs.Prelude.{Contains}
use Rattle.std.proofs.lemmas.List.Elements.{Contains-append_left, Contains-append_right}
use Rattle.shade_core.specs.Code.{Code}
use Rattle.shade_core.specs.Chains.{calls_in}
use Rattle.shade_graph.specs.declared.node.Node.{Node}
use Rattle.shade_uniformity.specs.Structure.{Starts, plain_starts, jump_starts, call_starts, branch_starts, switch_starts, loop_starts, IsCase, this_case, other_case, HasPart, first_part, second_part, switch_part, body_part, continuing_part, Analysed, this, behind, within}

contains_behind : {A : Type 0} (y : A) (xs : List A) (x : A) → Contains xs x → Contains (y ∷ xs) x
contains_behind y xs x h = (suc h.0, omega (arith, h.1), h.2)

pub contains_first : {A : Type 0} (x : A) (xs : List A) → Contains (x ∷ xs) x
contains_first x xs = (zero, omega arith, refl)

in_one : {A : Type 0} (xs ys zs : List A) (x : A) → Contains xs x → Contains (xs ++ ys ++ zs) x
in_one xs ys zs x h = Contains-append_left (xs ++ ys) zs x (Contains-append_left xs ys x h)

in_two : {A : Type 0} (xs ys zs : List A) (x : A) → Contains ys x → Contains (xs ++ ys ++ zs) x
in_two xs ys zs x h = Contains-append_left (xs ++ ys) zs x (Contains-append_right xs ys x h)

in_three : {A : Type 0} (xs ys zs : List A) (x : A) → Contains zs x → Contains (xs ++ ys ++ zs) x
in_three xs ys zs x h = Contains-append_right (xs ++ ys) zs x h

-- a function is called in a list around which some loops stand
abbrev pub Called : Code → ℕ → ℕ → Type 0
Called c loops g = (l : ℕ) × Contains (calls_in loops c) (g, l)

behind_called : {c rest : Code} {n : ℕ} (loops g : ℕ) → Starts c n rest → Called rest loops g → Called c loops g
behind_called loops g plain_starts h = h
behind_called loops g jump_starts h = h
behind_called loops g (call_starts {g = f} {rest}) h = (h.0, contains_behind (f, loops) (calls_in loops rest) (g, h.0) h.1)
behind_called loops g (branch_starts {one} {two} {rest}) h = (h.0, in_three (calls_in loops one) (calls_in loops two) (calls_in loops rest) (g, h.0) h.1)
behind_called loops g (switch_starts {parts} {rest}) h = (h.0, Contains-append_right (calls_in loops parts) (calls_in loops rest) (g, h.0) h.1)
behind_called loops g (loop_starts {body} {continuing} {rest}) h = (h.0, in_three (calls_in (loops + 1) body) (calls_in (loops + 1) continuing) (calls_in loops rest) (g, h.0) h.1)

case_called : {parts found : Code} {n p : ℕ} (loops g : ℕ) → IsCase parts n p found → Called found loops g → Called parts loops g
case_called loops g (this_case {body} {others}) h = (h.0, Contains-append_left (calls_in loops body) (calls_in loops others) (g, h.0) h.1)
case_called loops g (other_case {body} {others} case) h = (let r = case_called loops g case h in (r.0, Contains-append_right (calls_in loops body) (calls_in loops others) (g, r.0) r.1))

within_called : {c body : Code} {n p : ℕ} (loops g : ℕ) → HasPart c n p body → ((l : ℕ) → Called body l g) → Called c loops g
within_called loops g (first_part {one} {two} {rest}) h = (let r = h loops in (r.0, in_one (calls_in loops one) (calls_in loops two) (calls_in loops rest) (g, r.0) r.1))
within_called loops g (second_part {one} {two} {rest}) h = (let r = h loops in (r.0, in_two (calls_in loops one) (calls_in loops two) (calls_in loops rest) (g, r.0) r.1))
within_called loops g (switch_part {parts} {rest} case) h = (let r = case_called loops g case (h loops) in (r.0, Contains-append_left (calls_in loops parts) (calls_in loops rest) (g, r.0) r.1))
within_called loops g (body_part {body} {continuing} {rest}) h = (let r = h (loops + 1) in (r.0, in_one (calls_in (loops + 1) body) (calls_in (loops + 1) continuing) (calls_in loops rest) (g, r.0) r.1))
within_called loops g (continuing_part {body} {continuing} {rest}) h = (let r = h (loops + 1) in (r.0, in_two (calls_in (loops + 1) body) (calls_in (loops + 1) continuing) (calls_in loops rest) (g, r.0) r.1))

-- what is called where an analysed list begins is called in the whole
pub analysed_called : {a b : Node} {c found : Code} (loops g : ℕ) → Analysed a c b found → ((l : ℕ) → Called found l g) → Called c loops g
analysed_called loops g (this starts) h = h loops
analysed_called loops g (behind starts next more) h = behind_called loops g starts (analysed_called loops g more h)
analysed_called loops g (within has more) h = within_called loops g has (λ l. analysed_called l g more h)
