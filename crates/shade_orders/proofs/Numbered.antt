-- Where statements are numbered in structure order, the space of a barrier is told by its number.
use Rattle.std.proofs.Common.{◌≡◌, ℕ, zero, suc, ◌+◌, Bool, true, List, [], ◌∷◌, ◌++◌, Option, None, Some, refl, ap, sym, ◌∙◌, subst, arith}
use Rattle.std.specs.Prelude.{◌==◌, IsTrue, slice_get}
use Rattle.std.proofs.lemmas.Bool.{eqb-true}
use Rattle.shade_base.specs.declared.severity.Severity.{Severity}
use Rattle.shade_values.specs.declared.types.Space.{Space}
use Rattle.shade_values.specs.declared.types.Space.TheVariants as spaces
use Rattle.shade_core.specs.Code.{Plain, Set, Load, Declare, Store, Atomic, Barrier, UniformLoad, Length, Code, done, plain, jump, call, branch, switch, loop, no_part, part, code_of}
use Rattle.shade_core.specs.Standing.{Standing, standing, Head, does, jumps, calls, branches, switches, loops, statements, are_numbered}
use Rattle.shade_core.specs.declared.module.CoreFunction.{CoreFunction}
use Rattle.shade_mem.specs.declared.inputs.Inputs.{Inputs}
use Rattle.shade_group.specs.Group as groups
use Rattle.shade_schedules.specs.Races.{Among, here, there}
use Rattle.shade_schedules.proofs.Lists.{and_parts, none_among, among_left, among_right}
use Rattle.shade_orders.specs.Orders.{is_numbered, OrdersAgree}
use Rattle.shade_orders.specs.Everywhere.{AllPlain, HasSpace}
use Rattle.shade_orders.proofs.Everywhere.{space_at, Good, spaced, function_all, begin_good}
use Rattle.shade_orders.proofs.Runs.{same}

-- a fact of a statement that has no parts, and of no other
abbrev holds : (ℕ → Plain → Type 0) → ℕ → Head → Type 0
holds P n (does act) = P n act
holds P n (jumps act) = Unit {0}
holds P n (calls function args) = Unit {0}
holds P n (branches cond) = Unit {0}
holds P n (switches selector cases) = Unit {0}
holds P n (loops leave) = Unit {0}

abbrev Each : (ℕ → Plain → Type 0) → List Standing → Type 0
Each P ss = (s : Standing) → Among s ss → holds P s.number s.head

left_of : (P : ℕ → Plain → Type 0) (xs ys : List Standing) → Each P (xs ++ ys) → Each P xs
left_of P xs ys e s h = e s (among_left ys h)

right_of : (P : ℕ → Plain → Type 0) (xs ys : List Standing) → Each P (xs ++ ys) → Each P ys
right_of P xs ys e s h = e s (among_right xs h)

later : (P : ℕ → Plain → Type 0) (x : Standing) (xs : List Standing) → Each P (x ∷ xs) → Each P xs
later P x xs e s h = e s (there h)

-- what holds of each statement that stands in some code holds in all of the code
all_plain : (P : ℕ → Plain → Type 0) (c : Code) → Each P (statements c) → AllPlain P c
all_plain P done e = tt
all_plain P (plain n act rest) e = (e (standing n (does act)) here, all_plain P rest (later P _ (statements rest) e))
all_plain P (jump n act rest) e = all_plain P rest (later P _ (statements rest) e)
all_plain P (call n g args rest) e = all_plain P rest (later P _ (statements rest) e)
all_plain P (branch n cond first second rest) e =
    let parts : Each P ((statements first ++ statements second) ++ statements rest) = later P _ _ e in
    let both : Each P (statements first ++ statements second) = left_of P (statements first ++ statements second) _ parts in
    (all_plain P first (left_of P (statements first) _ both), all_plain P second (right_of P (statements first) _ both), all_plain P rest (right_of P (statements first ++ statements second) _ parts))
all_plain P (switch n selector parts rest) e =
    let both : Each P (statements parts ++ statements rest) = later P _ _ e in
    (all_plain P parts (left_of P (statements parts) _ both), all_plain P rest (right_of P (statements parts) _ both))
all_plain P (loop n body continuing leave rest) e =
    let parts : Each P ((statements body ++ statements continuing) ++ statements rest) = later P _ _ e in
    let both : Each P (statements body ++ statements continuing) = left_of P (statements body ++ statements continuing) _ parts in
    (all_plain P body (left_of P (statements body) _ both), all_plain P continuing (right_of P (statements body) _ both), all_plain P rest (right_of P (statements body ++ statements continuing) _ parts))
all_plain P no_part e = tt
all_plain P (part n which keys fallback body others) e = (all_plain P body (left_of P (statements body) _ e), all_plain P others (right_of P (statements body) _ e))

-- a statement of numbered ones stands at its number
at_number : (n : ℕ) (ss : List Standing) → are_numbered n ss ≡ true → (s : Standing) → Among s ss → (i : ℕ) × (slice_get ss i ≡ Some s) × (s.number ≡ i + n)
at_number n [] e s h = none_among h
at_number n (x ∷ ss) e s here =
    let number : x.number ≡ n = eqb-true x.number n (and_parts (x.number == n) (are_numbered (n + 1) ss) e).0 in
    (0, refl, omega (arith, number))
at_number n (x ∷ ss) e s (there h) =
    let r : (i : ℕ) × (slice_get ss i ≡ Some s) × (s.number ≡ i + (n + 1)) = at_number (n + 1) ss (and_parts (x.number == n) (are_numbered (n + 1) ss) e).1 s h in
    (suc r.0, r.1, omega (arith, r.2))

abbrev act_space : Plain → Space
act_space (Barrier space severity) = space
act_space (Set op args) = spaces.Workgroup
act_space (Load view) = spaces.Workgroup
act_space (Declare local value) = spaces.Workgroup
act_space (Store view value) = spaces.Workgroup
act_space (Atomic op view args) = spaces.Workgroup
act_space (UniformLoad view severity) = spaces.Workgroup
act_space (Length view) = spaces.Workgroup

abbrev head_space : Head → Space
head_space (does act) = act_space act
head_space (jumps act) = spaces.Workgroup
head_space (calls function args) = spaces.Workgroup
head_space (branches cond) = spaces.Workgroup
head_space (switches selector cases) = spaces.Workgroup
head_space (loops leave) = spaces.Workgroup

abbrev standing_space : Option Standing → Space
standing_space None = spaces.Workgroup
standing_space (Some s) = head_space s.head

-- the space of the barrier that has a number, where one has it
abbrev told : List Standing → ℕ → Space
told ss n = standing_space (slice_get ss n)

has_space : (ss : List Standing) (n : ℕ) (h : Head) → told ss n ≡ head_space h → holds (HasSpace (told ss)) n h
has_space ss n (does act) e = λ space severity is. sym (e ∙ ap act_space is)
has_space ss n (jumps act) e = tt
has_space ss n (calls function args) e = tt
has_space ss n (branches cond) e = tt
has_space ss n (switches selector cases) e = tt
has_space ss n (loops leave) e = tt

each : (ss : List Standing) → are_numbered 0 ss ≡ true → Each (HasSpace (told ss)) ss
each ss e s h =
    let r : (i : ℕ) × (slice_get ss i ≡ Some s) × (s.number ≡ i + 0) = at_number 0 ss e s h in
    let number : s.number ≡ r.0 = omega (arith, r.2) in
    has_space ss s.number s.head (ap (told ss) number ∙ ap standing_space r.1)

abbrev all_of : Option CoreFunction → List Standing
all_of None = []
all_of (Some function) = statements (code_of function.body)

all_told : (o : Option CoreFunction) → is_numbered o → function_all (told (all_of o)) o
all_told None h = tt
all_told (Some function) h = all_plain (HasSpace (told (statements (code_of function.body)))) (code_of function.body) (each (statements (code_of function.body)) h)

pub orders_agree : OrdersAgree
orders_agree shader inputs reference steps numbered end =
    let at : ℕ → Space = told (all_of (slice_get shader.functions inputs.entry)) in
    same (space_at at) (Good at) (spaced at) (groups.begin shader inputs) reference steps refl
    (begin_good at shader inputs (all_told (slice_get shader.functions inputs.entry) numbered)) end
