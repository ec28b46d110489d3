-- The list of a function's definitions: what stands in it, that all are there, and their order.
use Rattle.std.proofs.Common.{◌≡◌, ℕ, zero, suc, ◌+◌, ◌<◌, ◌≤◌, Bool, true, false, ◌&&◌, Some, List, [], ◌∷◌, ◌++◌, map, refl, ap, sym, ◌∙◌, arith, subst, inl, inr, append_assoc}
use Rattle.std.specs.Prelude.{slice_get, ◌⊎◌, if◌then◌else◌}
use Rattle.shade_core.specs.declared.statement.Base.{Base}
use Rattle.shade_core.specs.declared.statement.Base.TheVariants.{Pointee}
use Rattle.shade_core.specs.declared.statement.View.{View}
use Rattle.shade_core.specs.declared.statement.Argument.{Argument}
use Rattle.shade_core.specs.declared.statement.Argument.TheVariants as argument
use Rattle.shade_core.specs.declared.module.CoreFunction.{CoreFunction}
use Rattle.shade_core.specs.declared.module.CoreParam.{CoreParam}
use Rattle.shade_core.specs.Code.{Code, code_of}
use Rattle.shade_flow.proofs.Counts.{CountFrom, IsNumbered}
use Rattle.shade_flow.specs.declared.definition.Definition.{Definition}
use Rattle.shade_flow.specs.declared.definition.Definition.TheVariants as definition
use Rattle.shade_flow.specs.declared.definition.Defined.{Defined}
use Rattle.shade_flow.specs.declared.definition.Write.{Write}
use Rattle.shade_flow.specs.declared.point.Point.{Point}
use Rattle.shade_flow.specs.Lists.{In}
use Rattle.shade_flow.specs.Flow.{Mark, Nothing, Stores, Hands, is_whole, Reaches, entered, made_by, goes_by}
use Rattle.shade_flow.specs.Writes.{defined, write, call_writes, mark_writes, writes_of, statement_of}
use Rattle.shade_flow.specs.Chosen.{Precedes, DefinedAscend}
use Rattle.shade_flow.specs.Definitions.{points, points_there, tracked, entries_from, by_call, same_bool, kept, all_kept, definitions_of}
use Rattle.shade_flow.proofs.Members.{in_left, in_right, in_split}
use Rattle.shade_flow.proofs.Marks.{marks_of, number, marks_numbers, no_less, all_writes, writes_are, all_of, call_made, Own, marks_own, way_makes}

-- a definition stands at the entry or among the writes
abbrev pub StandsIn : List Write → Defined → Type 0
StandsIn writes d = ((k : ℕ) × (d ≡ defined (Pointee k) (definition.Entry k))) ⊎ ((w : Write) × In w writes × (w.defined ≡ d))

if_in : (b : Bool) (x d : Defined) → In d (if b then x ∷ [] else []) → (b ≡ true) × (x ≡ d)
if_in true x d (inl e) = (refl, sym e)
if_in true x d (inr m) = absurd m
if_in false x d m = absurd m

in_if : (b : Bool) (x : Defined) → b ≡ true → In x (if b then x ∷ [] else [])
in_if true x e = inl refl
in_if false x e = cc

both : (a b : Bool) → (a && b) ≡ true → (a ≡ true) × (b ≡ true)
both true true e = (refl, refl)
both true false e = cc
both false b e = cc

and_true : (a b : Bool) → a ≡ true → b ≡ true → (a && b) ≡ true
and_true true true e f = refl
and_true true false e f = cc
and_true false b e f = cc

same_is : (a b : Bool) → same_bool a b ≡ true → a ≡ b
same_is true true e = refl
same_is true false e = cc
same_is false true e = cc
same_is false false e = refl

is_same : (a b : Bool) → a ≡ b → same_bool a b ≡ true
is_same true true e = refl
is_same true false e = cc
is_same false true e = cc
is_same false false e = refl

-- what is kept of some writes
module _ (function : CoreFunction) (calls : Bool) where
  pub kept_of : (ws : List Write) (d : Defined) → In d (kept function calls ws) → (w : Write) × In w ws × (w.defined ≡ d) × (by_call d.by ≡ calls)
  kept_of [] d m = absurd m
  kept_of (x ∷ later) d m = elim (in_split d (if tracked function x.defined.variable && same_bool (by_call x.defined.by) calls then x.defined ∷ [] else []) (kept function calls later) m) [
    | inl here ↦ (let r : ((tracked function x.defined.variable && same_bool (by_call x.defined.by) calls) ≡ true) × (x.defined ≡ d) = if_in _ x.defined d here in
        let s : by_call x.defined.by ≡ calls = same_is _ _ (both _ _ r.0).1 in
        (x, inl refl, r.1, subst (λ (y : Defined). by_call y.by ≡ calls) r.1 s))
    | inr after ↦ (let r : (w : Write) × In w later × (w.defined ≡ d) × (by_call d.by ≡ calls) = kept_of later d after in (r.0, inr r.1, r.2, r.3))
  ]

  pub kept_all : (ws : List Write) (w : Write) → In w ws → tracked function w.defined.variable ≡ true → by_call w.defined.by ≡ calls → In w.defined (kept function calls ws)
  kept_all [] w m t c = absurd m
  kept_all (x ∷ later) w (inl e) t c = in_left w.defined _ (kept function calls later)
      (subst (λ (y : Write). In w.defined (if tracked function y.defined.variable && same_bool (by_call y.defined.by) calls then y.defined ∷ [] else [])) e (in_if _ w.defined (and_true _ _ t (is_same _ _ c))))
  kept_all (x ∷ later) w (inr m) t c = in_right w.defined (if tracked function x.defined.variable && same_bool (by_call x.defined.by) calls then x.defined ∷ [] else []) (kept function calls later) (kept_all later w m t c)

  kept_append : (xs ys : List Write) → kept function calls (xs ++ ys) ≡ kept function calls xs ++ kept function calls ys
  kept_append [] ys = refl
  kept_append (x ∷ xs) ys =
      let one : List Defined = if tracked function x.defined.variable && same_bool (by_call x.defined.by) calls then x.defined ∷ [] else [] in
      ap (λ (l : List Defined). one ++ l) (kept_append xs ys) ∙ sym (append_assoc one (kept function calls xs) (kept function calls ys))

entries_of : (i : ℕ) (ps : List CoreParam) (d : Defined) → In d (entries_from i ps) → (k : ℕ) × (i ≤ k) × (d ≡ defined (Pointee k) (definition.Entry k))
entries_of i [] d m = absurd m
entries_of i (p ∷ ps) d m = elim (in_split d (if points p then defined (Pointee i) (definition.Entry i) ∷ [] else []) (entries_from (i + 1) ps) m) [
  | inl here ↦ (i, omega arith, sym (if_in (points p) (defined (Pointee i) (definition.Entry i)) d here).1)
  | inr after ↦ (let r : (k : ℕ) × (i + 1 ≤ k) × (d ≡ defined (Pointee k) (definition.Entry k)) = entries_of (i + 1) ps d after in (r.0, omega (arith, r.1), r.2))
]

entries_all : (i : ℕ) (ps : List CoreParam) (k : ℕ) → points_there (slice_get ps k) ≡ true → In (defined (Pointee (i + k)) (definition.Entry (i + k))) (entries_from i ps)
entries_all i [] k e = cc
entries_all i (p ∷ ps) zero e =
    let same : i ≡ i + 0 = omega arith in
    in_left _ _ (entries_from (i + 1) ps) (subst (λ (j : ℕ). In (defined (Pointee j) (definition.Entry j)) (if points p then defined (Pointee i) (definition.Entry i) ∷ [] else [])) same (in_if (points p) (defined (Pointee i) (definition.Entry i)) e))
entries_all i (p ∷ ps) (suc k) e =
    let same : (i + 1) + k ≡ i + suc k = omega arith in
    in_right _ (if points p then defined (Pointee i) (definition.Entry i) ∷ [] else []) (entries_from (i + 1) ps) (subst (λ (j : ℕ). In (defined (Pointee j) (definition.Entry j)) (entries_from (i + 1) ps)) same (entries_all (i + 1) ps k e))

-- each definition of the list stands
pub all_stand : (function : CoreFunction) (ws : List Write) (d : Defined) → In d (all_kept function ws) → StandsIn ws d
all_stand function ws d m = elim (in_split d (entries_from 0 function.params) _ m) [
  | inl entry ↦ (let r : (k : ℕ) × (0 ≤ k) × (d ≡ defined (Pointee k) (definition.Entry k)) = entries_of 0 function.params d entry in inl (r.0, r.2))
  | inr others ↦ elim (in_split d (kept function false ws) (kept function true ws) others) [
    | inl store ↦ (let r : (w : Write) × In w ws × (w.defined ≡ d) × (by_call d.by ≡ false) = kept_of function false ws d store in inr (r.0, r.1, r.2))
    | inr hand ↦ (let r : (w : Write) × In w ws × (w.defined ≡ d) × (by_call d.by ≡ true) = kept_of function true ws d hand in inr (r.0, r.1, r.2))
  ]
]

write_there : (function : CoreFunction) (ws : List Write) (w : Write) → In w ws → tracked function w.defined.variable ≡ true → In w.defined (all_kept function ws)
write_there function ws w m t = in_right w.defined (entries_from 0 function.params) _ (by (by_call w.defined.by) refl)
  where
    by : (b : Bool) → by_call w.defined.by ≡ b → In w.defined (kept function false ws ++ kept function true ws)
    by false e = in_left w.defined (kept function false ws) (kept function true ws) (kept_all function false ws w m t e)
    by true e = in_right w.defined (kept function false ws) (kept function true ws) (kept_all function true ws w m t e)

-- a definition that reaches some point is there
pub reaching_there : (function : CoreFunction) → IsNumbered (code_of function.body) → (variable : Base) → tracked function variable ≡ true → (by : Definition) (point : Point)
    → Reaches (code_of function.body) variable by point → In (defined variable by) (definitions_of function)
reaching_there function numbered variable t by point (entered {i = i} v b) =
    let same : 0 + i ≡ i = omega arith in
    let there : In (defined (Pointee i) (definition.Entry i)) (entries_from 0 function.params) =
    subst (λ (j : ℕ). In (defined (Pointee j) (definition.Entry j)) (entries_from 0 function.params)) same (entries_all 0 function.params i (rw v at t)) in
    subst (λ (d : Defined). In d (definitions_of function)) (λ k. defined (sym v k) (sym b k)) (in_left _ (entries_from 0 function.params) _ there)
reaching_there function numbered variable t by point (made_by {u = u} {v = v} {m = m} f h) =
    let r = way_makes (code_of function.body) numbered u v m f variable by h in
    subst (λ (d : Defined). In d (definitions_of function)) r.5 (write_there function (writes_of (code_of function.body)) r.1 r.4 (subst (λ (d : Defined). tracked function d.variable ≡ true) (sym r.5) t))
reaching_there function numbered variable t by point (goes_by {u = u} {v = v} {m = m} r f s) = reaching_there function numbered variable t by u r

-- lists in order, one after the other
ascend_append : (xs ys : List Defined) → DefinedAscend xs → DefinedAscend ys → ((x y : Defined) → In x xs → In y ys → Precedes x.by y.by) → DefinedAscend (xs ++ ys)
ascend_append [] ys a b c = b
ascend_append (x ∷ xs) ys a b c = (λ other m. elim (in_split other xs ys m) [ inl l ↦ a.0 other l | inr r ↦ c x other (inl refl) r ], ascend_append xs ys a.1 b (λ u v m n. c u v (inr m) n))

single : (b : Bool) (d : Defined) → DefinedAscend (if b then d ∷ [] else [])
single true d = (λ other m. absurd m, tt)
single false d = tt

entries_ascend : (i : ℕ) (ps : List CoreParam) → DefinedAscend (entries_from i ps)
entries_ascend i [] = tt
entries_ascend i (p ∷ ps) = ascend_append (if points p then defined (Pointee i) (definition.Entry i) ∷ [] else []) (entries_from (i + 1) ps) (single (points p) (defined (Pointee i) (definition.Entry i))) (entries_ascend (i + 1) ps) cross
  where
    cross : (x y : Defined) → In x (if points p then defined (Pointee i) (definition.Entry i) ∷ [] else []) → In y (entries_from (i + 1) ps) → Precedes x.by y.by
    cross x y m n =
        let e : defined (Pointee i) (definition.Entry i) ≡ x = (if_in (points p) (defined (Pointee i) (definition.Entry i)) x m).1 in
        let r : (k : ℕ) × (i + 1 ≤ k) × (y ≡ defined (Pointee k) (definition.Entry k)) = entries_of (i + 1) ps y n in
        let less : i < r.0 = omega (arith, r.1) in
        subst (λ (d : Defined). Precedes d.by y.by) e (subst (λ (d : Defined). Precedes (definition.Entry i) d.by) (sym r.2) less)

calls_ascend : (function : CoreFunction) (calls : Bool) (n j : ℕ) (args : List Argument) → DefinedAscend (kept function calls (call_writes n j args))
calls_ascend function calls n j [] = tt
calls_ascend function calls n j (argument.Plain operand ∷ args) = calls_ascend function calls n (j + 1) args
calls_ascend function calls n j (argument.Pointer view ∷ args) =
    ascend_append (if tracked function view.base && same_bool true calls then defined view.base (definition.Argument n j) ∷ [] else []) (kept function calls (call_writes n (j + 1) args))
    (single (tracked function view.base && same_bool true calls) (defined view.base (definition.Argument n j))) (calls_ascend function calls n (j + 1) args) cross
  where
    cross : (x y : Defined) → In x (if tracked function view.base && same_bool true calls then defined view.base (definition.Argument n j) ∷ [] else []) → In y (kept function calls (call_writes n (j + 1) args)) → Precedes x.by y.by
    cross x y m o =
        let e : defined view.base (definition.Argument n j) ≡ x = (if_in _ (defined view.base (definition.Argument n j)) x m).1 in
        let r : (w : Write) × In w (call_writes n (j + 1) args) × (w.defined ≡ y) × (by_call y.by ≡ calls) = kept_of function calls (call_writes n (j + 1) args) y o in
        let c : (k : ℕ) × (other : View) × (slice_get args k ≡ Some (argument.Pointer other)) × (r.0 ≡ write other.base (definition.Argument n ((j + 1) + k)) (is_whole other.steps)) = call_made n (j + 1) args r.0 r.1 in
        let is : y.by ≡ definition.Argument n ((j + 1) + c.0) = ap (λ (d : Defined). d.by) (sym r.2) ∙ ap (λ (w : Write). w.defined.by) c.3 in
        let less : j < (j + 1) + c.0 = omega arith in
        subst (λ (d : Defined). Precedes d.by y.by) e (subst (λ (b : Definition). Precedes (definition.Argument n j) b) (sym is) (inr (refl, less)))

mark_ascend : (function : CoreFunction) (calls : Bool) (m : Mark) → DefinedAscend (kept function calls (mark_writes m))
mark_ascend function calls Nothing = tt
mark_ascend function calls (Stores n variable steps) = ascend_append _ [] (single (tracked function variable && same_bool false calls) (defined variable (definition.At n))) tt (λ x y m o. absurd o)
mark_ascend function calls (Hands n args) = calls_ascend function calls n 0 args

precedes_by : (calls : Bool) (d e : Definition) (i k : ℕ) → by_call d ≡ calls → by_call e ≡ calls → statement_of d ≡ Some i → statement_of e ≡ Some k → i < k → Precedes d e
precedes_by calls (definition.Entry n) e i k c b s t lt = cc
precedes_by calls (definition.At n) (definition.Entry m) i k c b s t lt = cc
precedes_by calls (definition.At n) (definition.At m) i k c b s t lt = let one : n ≡ i = cc in let two : m ≡ k = cc in omega (arith, one, two, lt)
precedes_by calls (definition.At n) (definition.Argument m j) i k c b s t lt = tt
precedes_by calls (definition.Argument n j) (definition.Entry m) i k c b s t lt = cc
precedes_by calls (definition.Argument n j) (definition.At m) i k c b s t lt = cc
precedes_by calls (definition.Argument n j) (definition.Argument m l) i k c b s t lt = let one : n ≡ i = cc in let two : m ≡ k = cc in inl (omega (arith, one, two, lt))

entry_first : (n : ℕ) (d : Definition) (k : ℕ) → statement_of d ≡ Some k → Precedes (definition.Entry n) d
entry_first n (definition.Entry m) k e = cc
entry_first n (definition.At m) k e = tt
entry_first n (definition.Argument m j) k e = tt

store_first : (d e : Definition) (k : ℕ) → statement_of d ≡ Some k → by_call d ≡ false → by_call e ≡ true → Precedes d e
store_first (definition.Entry n) e k s c b = cc
store_first (definition.At n) (definition.Entry m) k s c b = cc
store_first (definition.At n) (definition.At m) k s c b = cc
store_first (definition.At n) (definition.Argument m j) k s c b = tt
store_first (definition.Argument n j) e k s c b = cc

pub write_has : (ms : List (ℕ × Mark)) → ((x : ℕ × Mark) → In x ms → Own x) → (w : Write) → In w (all_writes ms) → (x : ℕ × Mark) × In x ms × (statement_of w.defined.by ≡ Some x.0)
write_has ms own w m = let r : (x : ℕ × Mark) × In x ms × In w (mark_writes x.1) = all_of ms w m in (r.0, r.1, own r.0 r.1 w r.2)

marks_ascend : (function : CoreFunction) (calls : Bool) (n : ℕ) (ms : List (ℕ × Mark)) → CountFrom n (map number ms) → ((x : ℕ × Mark) → In x ms → Own x) → DefinedAscend (kept function calls (all_writes ms))
marks_ascend function calls n [] count own = tt
marks_ascend function calls n (x ∷ ms) count own =
    subst DefinedAscend (sym (kept_append function calls (mark_writes x.1) (all_writes ms)))
    (ascend_append (kept function calls (mark_writes x.1)) (kept function calls (all_writes ms)) (mark_ascend function calls x.1) (marks_ascend function calls (n + 1) ms count.1 (λ y m. own y (inr m))) cross)
  where
    cross : (d e : Defined) → In d (kept function calls (mark_writes x.1)) → In e (kept function calls (all_writes ms)) → Precedes d.by e.by
    cross d e m o =
        let r : (w : Write) × In w (mark_writes x.1) × (w.defined ≡ d) × (by_call d.by ≡ calls) = kept_of function calls (mark_writes x.1) d m in
        let s : (w : Write) × In w (all_writes ms) × (w.defined ≡ e) × (by_call e.by ≡ calls) = kept_of function calls (all_writes ms) e o in
        let y : (y : ℕ × Mark) × In y ms × (statement_of s.0.defined.by ≡ Some y.0) = write_has ms (λ z g. own z (inr g)) s.0 s.1 in
        let low : n + 1 ≤ y.0.0 = no_less (n + 1) ms count.1 y.0.0 y.0.1 y.1 in
        let first : statement_of d.by ≡ Some x.0 = ap (λ (z : Defined). statement_of z.by) (sym r.2) ∙ own x (inl refl) r.0 r.1 in
        let second : statement_of e.by ≡ Some y.0.0 = ap (λ (z : Defined). statement_of z.by) (sym s.2) ∙ y.2 in
        precedes_by calls d.by e.by x.0 y.0.0 r.3 s.3 first second (omega (arith, count.0, low))

-- all definitions are in order
pub definitions_ascend : (function : CoreFunction) → IsNumbered (code_of function.body) → DefinedAscend (definitions_of function)
definitions_ascend function numbered =
    subst (λ (ws : List Write). DefinedAscend (all_kept function ws)) (sym (writes_are body))
    (ascend_append (entries_from 0 function.params) _ (entries_ascend 0 function.params) (ascend_append (kept function false ws) (kept function true ws) (ordered false) (ordered true) stores) entries)
  where
    body : Code
    body = code_of function.body

    ws : List Write
    ws = all_writes (marks_of body)

    ordered : (calls : Bool) → DefinedAscend (kept function calls ws)
    ordered calls = marks_ascend function calls 0 (marks_of body) (subst (λ (l : List ℕ). CountFrom 0 l) (sym (marks_numbers body)) numbered) (marks_own body)

    has : (calls : Bool) (d : Defined) → In d (kept function calls ws) → (k : ℕ) × (statement_of d.by ≡ Some k)
    has calls d m =
        let r : (w : Write) × In w ws × (w.defined ≡ d) × (by_call d.by ≡ calls) = kept_of function calls ws d m in
        let x : (x : ℕ × Mark) × In x (marks_of body) × (statement_of r.0.defined.by ≡ Some x.0) = write_has (marks_of body) (marks_own body) r.0 r.1 in
        (x.0.0, ap (λ (z : Defined). statement_of z.by) (sym r.2) ∙ x.2)

    stores : (x y : Defined) → In x (kept function false ws) → In y (kept function true ws) → Precedes x.by y.by
    stores x y m n = let k : (k : ℕ) × (statement_of x.by ≡ Some k) = has false x m in store_first x.by y.by k.0 k.1 (kept_of function false ws x m).3 (kept_of function true ws y n).3

    entries : (x y : Defined) → In x (entries_from 0 function.params) → In y (kept function false ws ++ kept function true ws) → Precedes x.by y.by
    entries x y m n =
        let r : (k : ℕ) × (0 ≤ k) × (x ≡ defined (Pointee k) (definition.Entry k)) = entries_of 0 function.params x m in
        let k : (k : ℕ) × (statement_of y.by ≡ Some k) = elim (in_split y (kept function false ws) (kept function true ws) n) [ inl l ↦ has false y l | inr r ↦ has true y r ] in
        subst (λ (d : Defined). Precedes d.by y.by) (sym r.2) (entry_first r.0 y.by k.0 k.1)
