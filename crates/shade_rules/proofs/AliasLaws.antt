-- The first alias of a list of statements, of a function and of a module.
use Rattle.std.proofs.Common.{◌≡◌, refl, sym, ap, ap₂, subst, ◌∙◌, ℕ, suc, ◌+◌, ◌<◌, ◌≤◌, Bool, true, false, List, ◌++◌, length, get_or, take, map, Option, None, Some, arith}
use Rattle.std.specs.Prelude.{All, slice_get}
use Rattle.std.specs.Option.{option_map}
use Rattle.std.proofs.lemmas.List.{take_all, length-map, length-append}
use Rattle.std.proofs.lemmas.List.Elements.{All-more}
use Rattle.std.proofs.lemmas.Option.{slice_get-get_or, slice_get-map, slice_get_within, get_or_from_slice_get}
use Rattle.shade_base.specs.declared.place.Place.{Place}
use Rattle.shade_core.specs.declared.statement.Argument.{Argument}
use Rattle.shade_core.specs.declared.module.CoreFunction.{CoreFunction}
use Rattle.shade_core.specs.Code.{Code, done, plain, jump, call, branch, switch, loop, no_part, part, code_of}
use Rattle.shade_core.specs.Places.{list_places}
use Rattle.shade_core.specs.Standing.{Standing, Head, does, jumps, calls, branches, switches, loops, statements}
use Rattle.shade_rules.specs.declared.aliasing.AliasPair.{AliasPair}
use Rattle.shade_rules.specs.declared.aliasing.AliasFault.{AliasFault}
use Rattle.shade_rules.specs.declared.aliasing.AliasFault.TheVariants.{Alias}
use Rattle.shade_rules.specs.declared.calls.CallAlias.{CallAlias}
use Rattle.shade_rules.specs.declared.statements.Finding.{Finding}
use Rattle.shade_rules.specs.declared.statements.Told.{Told}
use Rattle.shade_rules.specs.Aliases.{Conflict, HasNoAlias, AreFree, IsFirstOf, IsFirstAliasIn, IsFirstAlias}
use Rattle.shade_rules.specs.Findings.{findings, place_of, told_of}
use Rattle.shade_rules.specs.Gathered.{Rows, AreUsages}
use Rattle.shade_rules.specs.Found.{HasNoneAt, IsAliasIn, IsCallAt, IsFirstCall, IsFoundIn}
use Rattle.shade_rules.specs.Scans.{KnownAt, IsFirstAmong}
use Rattle.shade_rules.proofs.ScanLaws.{conflict_of, known_of, first_map, none_map}

none_some : {A : Type 0} (pair : AliasPair) → Some pair ≡ None → A
none_some pair e = let no_one : ⊥ = cc e in absurd no_one

-- ---- statements one after another

pub call_here : (rows : Rows) (list : List Standing) (n : ℕ) (s : Standing) (pair : AliasPair) → slice_get list n ≡ Some s → All (HasNoneAt rows) (take n list) → IsAliasIn rows s.head (Some pair) → IsCallAt rows list (record { call = n; pair = pair })
call_here rows list n s pair at before h = record { statement = s; at = at; before = before; alias = h }

pub none_here : (rows : Rows) (list : List Standing) (n : ℕ) (s : Standing) → slice_get list n ≡ Some s → All (HasNoneAt rows) (take n list) → HasNoneAt rows s → All (HasNoneAt rows) (take (n + 1) list)
none_here rows list n s at before h = All-more (HasNoneAt rows) list n s (slice_get_within list n s at) before (subst (HasNoneAt rows) (sym (get_or_from_slice_get list n s s at)) h)

pub none_of_all : (rows : Rows) (list : List Standing) (n : ℕ) → length list ≤ n → All (HasNoneAt rows) (take n list) → All (HasNoneAt rows) list
none_of_all rows list n past h = subst (All (HasNoneAt rows)) (take_all n list past) h

-- ---- the same over what the statements are seen of

module _ {X : Type 0} (f : X → Standing) (rows : Rows) (listed : List X) (n : ℕ) (x : X) where
  stands_at : n < length listed → x ≡ get_or listed n x → slice_get (map f listed) n ≡ Some (f x)
  stands_at lt is = slice_get-map f listed n ∙ ap (λ (o : Option X). option_map f o) (slice_get-get_or listed n x lt ∙ ap Some (sym is))

  pub call_found : (number : ℕ) (found : Option AliasPair) (pair : AliasPair) → number ≡ n → n < length listed → x ≡ get_or listed n x → All (HasNoneAt rows) (take n (map f listed)) → IsAliasIn rows (f x).head found → found ≡ Some pair
      → IsFirstCall rows (map f listed) (Some (record { call = number; pair = pair }))
  call_found number found pair same lt is before h e = record {
    some = subst (λ (k : ℕ). IsCallAt rows (map f listed) (record { call = k; pair = pair })) (sym same)
        (call_here rows (map f listed) n (f x) pair (stands_at lt is) before (subst (IsAliasIn rows (f x).head) e h));
    none = tt;
  }

  pub none_called : (found : Option AliasPair) → n < length listed → x ≡ get_or listed n x → All (HasNoneAt rows) (take n (map f listed)) → IsAliasIn rows (f x).head found → found ≡ None → All (HasNoneAt rows) (take (n + 1) (map f listed))
  none_called found lt is before h e = none_here rows (map f listed) n (f x) (stands_at lt is) before (subst (IsAliasIn rows (f x).head) e h)

pub none_of_calls : {X : Type 0} (f : X → Standing) (rows : Rows) (listed : List X) (n : ℕ) → length listed ≤ n → All (HasNoneAt rows) (take n (map f listed)) → IsFirstCall rows (map f listed) None
none_of_calls f rows listed n past h = record { some = tt; none = none_of_all rows (map f listed) n (let long : length (map f listed) ≡ length listed = length-map listed f in omega (arith, past, long)) h }

-- ---- where the statement of a place stands

two_long : (xs ys : List Told) (us vs : List Standing) → length xs ≡ length us → length ys ≡ length vs → length (xs ++ ys) ≡ length (us ++ vs)
two_long xs ys us vs e g = length-append xs ys ∙ (ap₂ (λ a b. a + b) e g ∙ sym (length-append us vs))

three_long : (xs ys zs : List Told) (us vs ws : List Standing) → length xs ≡ length us → length ys ≡ length vs → length zs ≡ length ws → length (xs ++ ys ++ zs) ≡ length (us ++ vs ++ ws)
three_long xs ys zs us vs ws e g h = two_long (xs ++ ys) zs (us ++ vs) ws (two_long xs ys us vs e g) h

findings_long : (b c : Bool) (list : Code) → length (findings b c list) ≡ length (statements list)
findings_long b c done = refl
findings_long b c (plain n act rest) = ap suc (findings_long b c rest)
findings_long b c (jump n act rest) = ap suc (findings_long b c rest)
findings_long b c (call n g args rest) = ap suc (findings_long b c rest)
findings_long b c (branch n cond first second rest) = ap suc (three_long _ _ _ _ _ _ (findings_long b c first) (findings_long b c second) (findings_long b c rest))
findings_long b c (switch n selector parts rest) = ap suc (two_long _ _ _ _ (findings_long true c parts) (findings_long b c rest))
findings_long b c (loop n body continuing leave rest) = ap suc (three_long _ _ _ _ _ _ (findings_long true true body) (findings_long true true continuing) (findings_long b c rest))
findings_long b c no_part = refl
findings_long b c (part n which keys fallback body others) = two_long _ _ _ _ (findings_long b c body) (findings_long b c others)

-- as many are found as stand there
pub found_within : (found : List Finding) (list : Code) (n : ℕ) → map told_of found ≡ findings false false list → n < length (statements list) → n < length found
found_within found list n is lt =
    let long : length found ≡ length (statements list) = sym (length-map found told_of) ∙ (ap length is ∙ findings_long false false list) in
    omega (arith, lt, long)

pub place_found : (found : List Finding) (places : List Place) (n : ℕ) (x : Finding) → map place_of found ≡ places → n < length found → x ≡ get_or found n x → slice_get places n ≡ Some (place_of x)
place_found found places n x same lt is = ap (λ ps. slice_get ps n) (sym same) ∙ (slice_get-map place_of found n ∙ ap (λ (o : Option Finding). option_map place_of o) (slice_get-get_or found n x lt ∙ ap Some (sym is)))

-- ---- a function

alias_call : (rows : Rows) (head : Head) (pair : AliasPair) → IsAliasIn rows head (Some pair) → (g : ℕ) × (args : List Argument) × (head ≡ calls g args) × IsFirstOf (KnownAt rows g) args pair.first pair.second
alias_call rows (calls g args) pair h = (g, args, refl, h.some)
alias_call rows (does act) pair h = none_some pair h
alias_call rows (jumps act) pair h = none_some pair h
alias_call rows (branches cond) pair h = none_some pair h
alias_call rows (switches selector cases) pair h = none_some pair h
alias_call rows (loops leave) pair h = none_some pair h

module _ (functions : List CoreFunction) (rows : Rows) (are : AreUsages functions rows) where
  free : (s : Standing) → HasNoneAt rows s → HasNoAlias functions s
  free s h g args e =
      let known : IsFirstAmong (KnownAt rows g) args None = subst (λ (head : Head). IsAliasIn rows head None) e h in
      none_map (KnownAt rows g) (Conflict functions g) args (known_of functions rows are g) known.none

  all_free : (list : List Standing) → All (HasNoneAt rows) list → All (HasNoAlias functions) list
  all_free list h k d lt = free (get_or list k d) (h k d lt)

pub found_none : (rows : Rows) (function : CoreFunction) → All (HasNoneAt rows) (statements (code_of function.body)) → IsFoundIn rows function None
found_none rows function h = record { some = tt; none = λ functions are. all_free functions rows are (statements (code_of function.body)) h }

pub found_some : (rows : Rows) (function : CoreFunction) (found : CallAlias) (place : Place) → IsCallAt rows (statements (code_of function.body)) found → slice_get (list_places function.body) found.call ≡ Some place
    → IsFoundIn rows function (Some (Alias place found.pair.first found.pair.second))
found_some rows function found place h stands =
    let a : (g : ℕ) × (args : List Argument) × (h.statement.head ≡ calls g args) × IsFirstOf (KnownAt rows g) args found.pair.first found.pair.second = alias_call rows h.statement.head found.pair h.alias in
    record {
      some = λ functions are. record {
        number = found.call;
        statement = h.statement;
        at = h.at;
        before = all_free functions rows are (take found.call (statements (code_of function.body))) h.before;
        callee = a.0;
        args = a.1;
        is_call = a.2;
        first = found.pair.first;
        second = found.pair.second;
        clash = first_map (KnownAt rows a.0) (Conflict functions a.0) a.1 found.pair.first found.pair.second (conflict_of functions rows are a.0) (known_of functions rows are a.0) a.3;
        place = place;
        stands = stands;
        is = refl;
      };
      none = tt;
    }

-- ---- the same by what is found of its statements

module _ (rows : Rows) (function : CoreFunction) (list : List Standing) (found : Option CallAlias) (same : list ≡ statements (code_of function.body)) (h : IsFirstCall rows list found) where
  moved : IsFirstCall rows (statements (code_of function.body)) found
  moved = subst (λ (l : List Standing). IsFirstCall rows l found) same h

  pub function_none : found ≡ None → IsFoundIn rows function None
  function_none e = let none : IsFirstCall rows (statements (code_of function.body)) None = subst (IsFirstCall rows (statements (code_of function.body))) e moved in found_none rows function none.none

  called : (r : CallAlias) → found ≡ Some r → IsCallAt rows (statements (code_of function.body)) r
  called r e = let some : IsFirstCall rows (statements (code_of function.body)) (Some r) = subst (IsFirstCall rows (statements (code_of function.body))) e moved in some.some

  pub call_within : (r : CallAlias) → found ≡ Some r → r.call < length (statements (code_of function.body))
  call_within r e = let c : IsCallAt rows (statements (code_of function.body)) r = called r e in slice_get_within (statements (code_of function.body)) r.call c.statement c.at

  pub function_some : (r : CallAlias) (place : Place) → found ≡ Some r → slice_get (list_places function.body) r.call ≡ Some place → IsFoundIn rows function (Some (Alias place r.pair.first r.pair.second))
  function_some r place e stands = found_some rows function r place (called r e) stands

-- ---- functions one after another

pub alias_here : (functions : List CoreFunction) (n : ℕ) (f : CoreFunction) (fault : AliasFault) → n < length functions → f ≡ get_or functions n f → All (AreFree functions) (take n functions) → IsFirstAliasIn functions f fault → IsFirstAlias functions fault
alias_here functions n f fault lt is before h = record { number = n; function = f; at = slice_get-get_or functions n f lt ∙ ap Some (sym is); before = before; first = h }

pub free_here : (functions : List CoreFunction) (n : ℕ) (f : CoreFunction) → n < length functions → f ≡ get_or functions n f → All (AreFree functions) (take n functions) → AreFree functions f → All (AreFree functions) (take (n + 1) functions)
free_here functions n f lt is before h = All-more (AreFree functions) functions n f lt before (subst (AreFree functions) is h)

pub free_of_all : (functions : List CoreFunction) (n : ℕ) → length functions ≤ n → All (AreFree functions) (take n functions) → All (AreFree functions) functions
free_of_all functions n past h = subst (All (AreFree functions)) (take_all n functions past) h

-- ---- the same by what is found of a function

module _ (functions : List CoreFunction) (rows : Rows) (are : AreUsages functions rows) (n : ℕ) (f : CoreFunction) (lt : n < length functions) (is : f ≡ get_or functions n f) (before : All (AreFree functions) (take n functions))
    (found : Option AliasFault) (h : IsFoundIn rows f found) where
  pub function_alias : (fault : AliasFault) → found ≡ Some fault → IsFirstAlias functions fault
  function_alias fault e = let some : IsFoundIn rows f (Some fault) = subst (IsFoundIn rows f) e h in alias_here functions n f fault lt is before (some.some functions are)

  pub function_free : found ≡ None → All (AreFree functions) (take (n + 1) functions)
  function_free e = let none : IsFoundIn rows f None = subst (IsFoundIn rows f) e h in free_here functions n f lt is before (none.none functions are)
