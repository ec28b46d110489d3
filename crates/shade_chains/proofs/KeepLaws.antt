-- What the calls of a module are asked, by the events of its functions and the greatest sums over chains.
use Rattle.std.proofs.Common.{◌≡◌, refl, sym, ap, subst, ◌∙◌, ℕ, ◌+◌, ◌<◌, ◌≤◌, true, false, List, length, get_or, map, Option, Some, None, inl, inr, arith}
use Rattle.std.specs.Prelude.{◌↔◌, min, Contains, IfNone, IfSome, IsSome, slice_get}
use Rattle.std.specs.Option.{MatchOption}
use Rattle.std.specs.List.{list_all}
use Rattle.std.proofs.lemmas.Bool.{cases_lt}
use Rattle.std.proofs.lemmas.Bool.Decides.{Decides-ltb}
use Rattle.std.proofs.lemmas.List.{length-map}
use Rattle.std.proofs.lemmas.Option.{slice_get_within, slice_get_read}
use Rattle.shade_chains.specs.declared.events.Event.{Event}
use Rattle.shade_core.specs.declared.module.CoreFunction.{CoreFunction}
use Rattle.shade_core.specs.declared.module.CoreModule.{CoreModule}
use Rattle.shade_core.specs.Code.{code_of}
use Rattle.shade_core.specs.Views.{ValueTypes}
use Rattle.shade_core.specs.Chains.{CallsIn, Calls, LeadsBy, first as first_call, more as more_calls}
use Rattle.shade_core.specs.Limits.{AtMost, IsEntry}
use Rattle.shade_chains.specs.declared.chains.Measure.{Measure}
use Rattle.shade_chains.specs.Events.{event, events}
use Rattle.shade_chains.specs.Orders.{Rows, RowCalls, RowsLead, first, more, IsAcyclic, IsOrder}
use Rattle.shade_chains.specs.Tops.{cap, IsTop, top_at, CalleesStand, Sums, rows_in, HasEvents}
use Rattle.shade_chains.specs.Keeps.{CallsStand, HasBytes, MakeNoCycle, EntriesKeep, callee_below, stands_below}
use Rattle.shade_chains.proofs.CallLaws.{row_at, row_from, call_row, row_call}
use Rattle.shade_chains.proofs.OrderLaws.{all_contains, find_failed, order_acyclic}

-- ---- calls, and calls by events

to_row : (shader : CoreModule) (k g : ℕ) → Calls shader k g → RowCalls (rows_in shader.functions) k g
to_row shader k g c = record {
  row = events 0 (code_of c.stands.function.body);
  at = row_at shader.functions k c.stands.function c.stands.at;
  loops = min 255 c.loops;
  stands = call_row shader k g c.loops c.stands.function c.stands.at c.stands;
}

from_row : (shader : CoreModule) (k g : ℕ) → RowCalls (rows_in shader.functions) k g → Calls shader k g
from_row shader k g c =
    let f = row_from shader.functions k c.row c.at in
    let back = row_call shader k g c.loops f.0 f.1 (subst (λ r. Contains r (event c.loops (Some g))) f.2 c.stands) in
    record { loops = back.0; stands = back.1 }

to_rows : (shader : CoreModule) (k g : ℕ) → LeadsBy shader k g → RowsLead (rows_in shader.functions) k g
to_rows shader k g (first_call c) = first (to_row shader k g c)
to_rows shader k g (more_calls {g = m} l c) = more (to_rows shader k m l) (to_row shader m g c)

from_rows : (shader : CoreModule) (k g : ℕ) → RowsLead (rows_in shader.functions) k g → LeadsBy shader k g
from_rows shader k g (first c) = first_call (from_row shader k g c)
from_rows shader k g (more {g = m} l c) = more_calls (from_rows shader k m l) (from_row shader m g c)

pub acyclic_from : (shader : CoreModule) (rows : Rows) → rows ≡ rows_in shader.functions → IsAcyclic rows → (k : ℕ) → ¬ LeadsBy shader k k
acyclic_from shader rows is a k l = a k (subst (λ r. RowsLead r k k) (sym is) (to_rows shader k k l))

pub acyclic_to : (shader : CoreModule) (rows : Rows) → rows ≡ rows_in shader.functions → ((k : ℕ) → ¬ LeadsBy shader k k) → IsAcyclic rows
acyclic_to shader rows is a k l = a k (from_rows shader k k (subst (λ r. RowsLead r k k) is l))

pub stand_to : (shader : CoreModule) (rows : Rows) → rows ≡ rows_in shader.functions → CallsStand shader → CalleesStand rows
stand_to shader rows is stand k g c =
    let known = stand k g (from_row shader k g (subst (λ r. RowCalls r k g) is c)) in
    let long : length rows ≡ length shader.functions = ap length is ∙ length-map shader.functions _ in
    omega (arith, known, long)

pub has_events : (shader : CoreModule) (values : ℕ → ValueTypes) (bytes : List ℕ) (rows : Rows) → rows ≡ rows_in shader.functions → HasBytes shader values bytes → HasEvents shader values bytes rows
has_events shader values bytes rows is has = record { rows = is; bytes = has }

-- ---- a limit over chains

pub most_tells : (m : Measure) (shader : CoreModule) (values : ℕ → ValueTypes) (tops : List (Option ℕ)) (most : ℕ) → most < cap m
    → ((k : ℕ) → k < length shader.functions → IsTop (cap m) (Sums m shader values k) (top_at tops k)) → EntriesKeep shader.functions tops most ↔ AtMost shader (Sums m shader values) most
most_tells m shader values tops most small are = (
  λ keep k total entry adds.
      let top = (are k (slice_get_within shader.functions k entry.0 entry.1)).above total adds in
      omega (arith, small, keep k entry.0 entry.1 entry.2 top.0 top.1, top.2),
  λ bound k f at entry best is.
      let reached = (are k (slice_get_within shader.functions k f at)).reached best is in
      omega (arith, small, bound k reached.0 (f, at, entry) reached.1, reached.2),
)

-- ---- entries, one function after another

abbrev pub KeepBelow : List CoreFunction → List (Option ℕ) → ℕ → ℕ → Type 0
KeepBelow functions tops most i = (k : ℕ) (f : CoreFunction) → k < i → slice_get functions k ≡ Some f → IsSome f.entry → (best : ℕ) → top_at tops k ≡ Some best → best ≤ most

pub keep_more : (functions : List CoreFunction) (tops : List (Option ℕ)) (most i : ℕ) (f : CoreFunction) → slice_get functions i ≡ Some f → (IsSome f.entry → (best : ℕ) → top_at tops i ≡ Some best → best ≤ most)
    → KeepBelow functions tops most i → KeepBelow functions tops most (i + 1)
keep_more functions tops most i f at here below k g lt there entry best is = elim (cases_lt k i) [
  | inl earlier ↦ below k g earlier there entry best is
  | inr late ↦
      let same_place : k ≡ i = omega (arith, lt, late) in
      let same : g ≡ f = (let e : Some g ≡ Some f = sym there ∙ (ap (slice_get functions) same_place ∙ at) in cc) in
      here (subst (λ x. IsSome x.entry) same entry) best (ap (top_at tops) (sym same_place) ∙ is)
]

pub keep_all : (functions : List CoreFunction) (tops : List (Option ℕ)) (most i : ℕ) → length functions ≤ i → KeepBelow functions tops most i → EntriesKeep functions tops most
keep_all functions tops most i le below k f at entry best is = below k f (omega (arith, le, slice_get_within functions k f at)) at entry best is

-- ---- callees that are there

abbrev pub StandBelow : Rows → ℕ → ℕ → Type 0
StandBelow rows count i = (k : ℕ) (row : List Event) → k < i → slice_get rows k ≡ Some row → list_all (stands_below count) row ≡ true

pub stand_more : (rows : Rows) (count i : ℕ) (row : List Event) → slice_get rows i ≡ Some row → list_all (stands_below count) row ≡ true → StandBelow rows count i → StandBelow rows count (i + 1)
stand_more rows count i row at here below k other lt there = elim (cases_lt k i) [
  | inl earlier ↦ below k other earlier there
  | inr late ↦
      let same : row ≡ other = (let e : Some row ≡ Some other = sym at ∙ (ap (slice_get rows) (omega (arith, lt, late)) ∙ there) in cc) in
      ap (list_all (stands_below count)) (sym same) ∙ here
]

pub stand_all : (rows : Rows) (count i : ℕ) → count ≡ length rows → count ≤ i → StandBelow rows count i → CalleesStand rows
stand_all rows count i long le below k g c =
    let all = below k c.row (omega (arith, le, long, slice_get_within rows k c.row c.at)) c.at in
    let lt : g < count = (Decides-ltb g count).0 (all_contains (stands_below count) c.row (event c.loops (Some g)) all c.stands) in omega (arith, lt, long)

pub stand_never : (rows : Rows) (count k : ℕ) (row : List Event) → count ≡ length rows → slice_get rows k ≡ Some row → list_all (stands_below count) row ≡ false → CalleesStand rows → ⊥
stand_never rows count k row long at none stand =
    let f = find_failed (stands_below count) row none in by_callee f.0 f.0.callee refl f.1 f.2
  where
    by_callee : (e : Event) (callee : Option ℕ) → e.callee ≡ callee → Contains row e → stands_below count e ≡ false → ⊥
    by_callee e None is has failed = (let f : true ≡ false = ap (callee_below count) (sym is) ∙ failed in cc)
    by_callee e (Some g) is has failed =
        let call : RowCalls rows k g = record {
          row = row;
          at = at;
          loops = e.loops;
          stands = subst (Contains row) (λ i. event e.loops (is i)) has;
        } in
        let lt : g < count = omega (arith, stand k g call, long) in
        let f : true ≡ false = sym ((Decides-ltb g count).1 lt) ∙ (ap (callee_below count) (sym is) ∙ failed) in cc

pub stand_from : (shader : CoreModule) (rows : Rows) → rows ≡ rows_in shader.functions → CalleesStand rows → CallsStand shader
stand_from shader rows is stand k g c =
    let known = stand k g (subst (λ r. RowCalls r k g) (sym is) (to_row shader k g c)) in
    let long : length rows ≡ length shader.functions = ap length is ∙ length-map shader.functions _ in
    omega (arith, known, long)

-- ---- all at once

-- where no order is found calls make a cycle, and where one is they make none
pub none_cyclic : {A : Type 0} (shader : CoreModule) (rows : Rows) → rows ≡ rows_in shader.functions → (Q : A → Type 0) (found : Option A) → MatchOption found (¬ IsAcyclic rows) Q → IfNone found (¬ MakeNoCycle shader)
none_cyclic shader rows is Q None h = λ acyclic. h (acyclic_to shader rows is acyclic)
none_cyclic shader rows is Q (Some x) h = tt

pub some_acyclic : {A : Type 0} (shader : CoreModule) (rows : Rows) → rows ≡ rows_in shader.functions → (order : A → List ℕ) (found : Option A) → MatchOption found (¬ IsAcyclic rows) (λ x. IsOrder rows (order x)) → IfSome found (λ x. MakeNoCycle shader)
some_acyclic shader rows is order None h = tt
some_acyclic shader rows is order (Some x) h = acyclic_from shader rows is (order_acyclic rows (order x) h)

-- the greatest sums tell the limit of a measure
pub measure_tells : (m : Measure) (shader : CoreModule) (values : ℕ → ValueTypes) (bytes : List ℕ) (rows : Rows) (tops : List (Option ℕ)) (most : ℕ) → most < cap m → rows ≡ rows_in shader.functions → HasBytes shader values bytes
    → ((k : ℕ) → k < length rows → IsTop (cap m) (Sums m shader values k) (top_at tops k)) → EntriesKeep shader.functions tops most ↔ AtMost shader (Sums m shader values) most
measure_tells m shader values bytes rows tops most small is has are =
    let long : length rows ≡ length shader.functions = ap length is ∙ length-map shader.functions _ in
    most_tells m shader values tops most small (λ k lt. are k (omega (arith, lt, long)))

-- ---- an entry of a greater sum, and one of none

abbrev pub Exceeds : CoreFunction → Option ℕ → ℕ → Type 0
Exceeds f top most = IsSome f.entry × ((best : ℕ) × (top ≡ Some best) × (most < best))

pub exceeds_never : (functions : List CoreFunction) (tops : List (Option ℕ)) (most i : ℕ) (f : CoreFunction) → i < length functions → f ≡ get_or functions i f → Exceeds f (top_at tops i) most → EntriesKeep functions tops most → ⊥
exceeds_never functions tops most i f lt is e keep = omega (arith, e.1.2, keep i f (slice_get_read functions (length functions) i f refl lt is) e.0 e.1.0 e.1.1)

pub keep_next : (functions : List CoreFunction) (tops : List (Option ℕ)) (most i : ℕ) (f : CoreFunction) → i < length functions → f ≡ get_or functions i f → (Exceeds f (top_at tops i) most → ⊥) → KeepBelow functions tops most i → KeepBelow functions tops most (i + 1)
keep_next functions tops most i f lt is none below =
    keep_more functions tops most i f (slice_get_read functions (length functions) i f refl lt is) (λ entry best at. elim (cases_lt most best) [
      | inl above ↦ absurd (none (entry, (best, at, above)))
      | inr within ↦ within
    ]) below
