-- A table stays sound, and keeps what it says of each type, when a type or a struct is added.
use Rattle.std.proofs.Common.{◌≡◌, refl, sym, ap, subst, ◌∙◌, ℕ, zero, suc, ◌-◌, ◌^◌, ◌<◌, ◌≤◌, inl, inr, List, [], ◌∷◌, ◌++◌, length, map, Some, slice_get, get_or, Ok, Err, arith, length-append}
use Rattle.std.specs.Prelude.{Contains, Result, IfOk, IfErr, OnOk, OnErr, IsErrAnd}
use Rattle.std.proofs.Math.ListN.{get_or-map as get_or-map_same}
use Rattle.std.proofs.lemmas.Bool.Decides.{nat_tests}
use Rattle.std.proofs.lemmas.List.{map-append, get_or_at, length-map}
use Rattle.std.proofs.lemmas.List.Elements.{Contains-append_left, Contains-push}
use Rattle.std.proofs.lemmas.Option.{slice_get-get_or, slice_get_within}
use Rattle.std.proofs.Math.Nat.{eq-or-lt_of_le}
use Rattle.std.specs.List.{list_all}
use Rattle.shade_values.specs.declared.types.ShadeType.{ShadeType}
use Rattle.shade_values.specs.declared.types.ShadeType.TheVariants.{Struct}
use Rattle.shade_values.specs.declared.types.Layout.{Layout}
use Rattle.shade_values.specs.declared.table.TableFault.{TableFault}
use Rattle.shade_values.specs.declared.table.TableFault.TheVariants.{TooLarge, NoMemory}
use Rattle.shade_values.specs.declared.types.TypeId.{TypeId}
use Rattle.shade_values.specs.declared.entry.Entry.{Entry}
use Rattle.shade_values.specs.Table.{Table, StructView, members_at, no_struct, with_type, with_struct}
use Rattle.shade_values.specs.Shape.{pointer, spell, shapes}
use Rattle.shade_values.specs.Layouts.{layout, is_loadable, bytes, greatest_size, struct_layout, IsLarge}
use Rattle.shade_values.specs.Sound.{IsSound, IsOver, IsOf, AreKnown, Grows}
use Rattle.shade_values.specs.Kept.{IsKept, table_of, types_of, layouts_of, loads_of, layout_by, loads_by, laid, too_large, layout_in, load_in, struct_shape}
use Rattle.shade_values.proofs.Lists.{push_cases, contained, last, stays}
use Rattle.shade_values.proofs.ShapeLaws.{shapes-with_struct, layout-structure, are_loadable-members, over_more, shapes-with_type, layout-spell, is_loadable-spell, shape_is}

-- no type but the new one is new
distinct_more : (types : List ShadeType) (ty : ShadeType) → ((m n : ℕ) (x : ShadeType) → slice_get types m ≡ Some x → slice_get types n ≡ Some x → m ≡ n) → ¬ Contains types ty
    → (m n : ℕ) (x : ShadeType) → slice_get (types ++ ty ∷ []) m ≡ Some x → slice_get (types ++ ty ∷ []) n ≡ Some x → m ≡ n
distinct_more types ty distinct new m n x at_m at_n =
    elim (push_cases types ty x m at_m) as (λ _. m ≡ n) [
      | inl h ↦ elim (push_cases types ty x n at_n) as (λ _. m ≡ n) [
        | inl k ↦ distinct m n x h k
        | inr k ↦ absurd (new (subst (Contains types) (sym k.1) (contained types m x h)))
      ]
      | inr h ↦ elim (push_cases types ty x n at_n) as (λ _. m ≡ n) [
        | inl k ↦ absurd (new (subst (Contains types) (sym h.1) (contained types n x k)))
        | inr k ↦ h.0 ∙ sym k.0
      ]
    ]

pub sound_type : (t : Table) (ty : ShadeType) → IsSound t → IsOf t ty → ¬ Contains t.types ty → IsSound (with_type t ty)
sound_type t ty sound over new = record {
  over = λ n x e. elim (push_cases t.types ty x n e) as (λ _. IsOver n t.structs x) [
    | inl h ↦ sound.over n x h
    | inr h ↦ subst (λ k. IsOver k t.structs x) (sym h.0) (subst (IsOver (length t.types) t.structs) h.1 over)
  ];
  distinct = distinct_more t.types ty sound.distinct new;
  stand = λ k h. Contains-append_left t.types (ty ∷ []) (Struct k) (sound.stand k h);
  fewer = omega (arith, sound.fewer, length-append t.types (ty ∷ []));
}

-- the layouts that are kept are small
small_at : (entries : List Entry) (n : ℕ) → (get_or (layouts_of entries) n (bytes 0 1)).size ≤ greatest_size
small_at [] n = omega arith
small_at (e ∷ es) zero = e.sized
small_at (e ∷ es) (suc n) = small_at es n

-- no type of a table is too large
pub known_small : (entries : List Entry) (structs : List StructView) (n : ℕ) (ty : ShadeType) → IsKept entries structs → slice_get (types_of entries) n ≡ Some ty
    → (layout (spell structs (shapes (table_of entries structs)) ty)).size ≤ greatest_size
known_small entries structs n ty kept e =
    let t = table_of entries structs in
    let same : get_or (layouts_of entries) n (bytes 0 1) ≡ layout (spell structs (shapes t) ty) =
    ap (λ ls. get_or ls n (bytes 0 1)) kept.laid_out ∙ get_or-map_same layout (shapes t) n pointer ∙ ap layout (shape_is t kept.sound.over n ty e) in
    subst (λ l. l.size ≤ greatest_size) same (small_at entries n)

-- the layout and the test that are made for a new type
pub layout_made : (entries : List Entry) (structs : List StructView) (ty : ShadeType) → IsKept entries structs
    → layout_by (layouts_of entries) structs ty ≡ layout (spell structs (shapes (table_of entries structs)) ty)
layout_made entries structs ty kept = ap (λ ls. layout_by ls structs ty) kept.laid_out ∙ sym (layout-spell structs (shapes (table_of entries structs)) ty)

load_made : (entries : List Entry) (structs : List StructView) (ty : ShadeType) → IsKept entries structs
    → loads_by (loads_of entries) structs ty ≡ is_loadable (spell structs (shapes (table_of entries structs)) ty)
load_made entries structs ty kept = ap (λ ls. loads_by ls structs ty) kept.loads ∙ sym (is_loadable-spell structs (shapes (table_of entries structs)) ty)

pub kept_type : (entries : List Entry) (structs : List StructView) (e : Entry) → IsKept entries structs
    → e.layout ≡ layout_by (layouts_of entries) structs e.ty → e.loadable ≡ loads_by (loads_of entries) structs e.ty
    → IsOf (table_of entries structs) e.ty → ¬ Contains (types_of entries) e.ty
    → length (types_of entries) < 2 ^ 32 - 1 → IsKept (entries ++ e ∷ []) structs
kept_type entries structs e kept laid_out loads over new room =
    let t = table_of entries structs in
    let types : types_of (entries ++ e ∷ []) ≡ types_of entries ++ e.ty ∷ [] = map-append (λ x. x.ty) entries (e ∷ []) in
    let all : shapes (table_of (entries ++ e ∷ []) structs) ≡ shapes t ++ spell structs (shapes t) e.ty ∷ [] =
    ap (λ x. shapes (record { types = x; structs = structs })) types ∙ shapes-with_type t e.ty in
    record {
      laid_out =
          map-append (λ x. x.layout) entries (e ∷ [])
          ∙ ap (λ ls. ls ++ e.layout ∷ []) kept.laid_out
          ∙ ap (λ l. map layout (shapes t) ++ l ∷ []) (laid_out ∙ layout_made entries structs e.ty kept)
          ∙ sym (map-append layout (shapes t) (spell structs (shapes t) e.ty ∷ []))
          ∙ sym (ap (map layout) all);
      loads =
          map-append (λ x. x.loadable) entries (e ∷ [])
          ∙ ap (λ ls. ls ++ e.loadable ∷ []) kept.loads
          ∙ ap (λ l. map is_loadable (shapes t) ++ l ∷ []) (loads ∙ load_made entries structs e.ty kept)
          ∙ sym (map-append is_loadable (shapes t) (spell structs (shapes t) e.ty ∷ []))
          ∙ sym (ap (map is_loadable) all);
      sound = subst (λ x. IsSound (record { types = x; structs = structs })) (sym types) (sound_type t e.ty kept.sound over new);
      few = let short : length entries < 2 ^ 32 - 1 = rw length-map at room in omega (arith, length-append entries (e ∷ []));
    }

-- what `laid` answers
pub laid_ok : (l x : Layout) → laid l ≡ Ok x → (x ≡ l) × (l.size ≤ greatest_size)
laid_ok l x e = grind (arith, nat_tests)

pub laid_err : (l : Layout) (fault : TableFault) → laid l ≡ Err fault → (fault ≡ TooLarge l.size) × (greatest_size < l.size)
laid_err l fault e = grind (arith, nat_tests)

pub laid_large : (l : Layout) → greatest_size < l.size → laid l ≡ Err (TooLarge l.size)
laid_large l h = grind (arith, nat_tests)

-- what is answered where a new type's layout is refused, and where it is not
pub layout_refused : (entries : List Entry) (structs : List StructView) (ty : ShadeType) (fault : TableFault) → IsKept entries structs
    → laid (layout_by (layouts_of entries) structs ty) ≡ Err fault
    → (fault ≡ TooLarge (layout (spell structs (shapes (table_of entries structs)) ty)).size) × IsLarge (spell structs (shapes (table_of entries structs)) ty)
layout_refused entries structs ty fault kept e = laid_err _ fault (sym (ap laid (layout_made entries structs ty kept)) ∙ e)

pub layout_taken : (entries : List Entry) (structs : List StructView) (ty : ShadeType) (l : Layout) → IsKept entries structs
    → laid (layout_by (layouts_of entries) structs ty) ≡ Ok l → (l ≡ layout_by (layouts_of entries) structs ty) × ¬ IsLarge (spell structs (shapes (table_of entries structs)) ty)
layout_taken entries structs ty l kept e =
    let made = layout_made entries structs ty kept in
    let taken = laid_ok _ l (sym (ap laid made) ∙ e) in
    (taken.0 ∙ sym made, λ large. absurd (omega (arith, taken.1, large)))

pub err_is : (r : Result TypeId TableFault) (fault : TableFault) → IsErrAnd r (λ y. y ≡ fault) → r ≡ Err fault
err_is (Ok id) fault h = absurd h
err_is (Err y) fault h = ap Err h

-- the id of a type that was added
pub added_id : (r : Result TypeId TableFault) (old new : Table) (ty : ShadeType) → IfOk r (λ id. id.0 ≡ length old.types) → OnOk r (new ≡ with_type old ty)
    → IfOk r (λ id. slice_get new.types id.0 ≡ Some ty)
added_id (Ok id) old new ty at is = rw (is, at) (last old.types ty)
added_id (Err fault) old new ty at is = tt

-- a struct more
fresh : (t : Table) → IsSound t → ¬ Contains t.types (Struct (length t.structs))
fresh t sound (n, h, e) =
    let here : slice_get t.types n ≡ Some (Struct (length t.structs)) = slice_get-get_or t.types n (Struct (length t.structs)) h ∙ ap (λ x. Some x) e in
    absurd (omega (arith, (sound.over n (Struct (length t.structs)) here).0))

members_last : (structs : List StructView) (s : StructView) → members_at (structs ++ s ∷ []) (length structs) ≡ s.members
members_last structs s = ap (λ x. x.members) (get_or_at structs s [] no_struct (length structs) refl)

stand_more : (t : Table) (s : StructView) → ((k : ℕ) → k < length t.structs → Contains t.types (Struct k))
    → (k : ℕ) → k < length (t.structs ++ s ∷ []) → Contains (t.types ++ Struct (length t.structs) ∷ []) (Struct k)
stand_more t s stand k h =
    let near : k ≤ length t.structs = omega (arith, h, length-append t.structs (s ∷ [])) in
    elim (eq-or-lt_of_le near) as (λ _. Contains (t.types ++ Struct (length t.structs) ∷ []) (Struct k)) [
      | inr below ↦ Contains-append_left t.types (Struct (length t.structs) ∷ []) (Struct k) (stand k below)
      | inl same ↦ subst (λ j. Contains (t.types ++ Struct (length t.structs) ∷ []) (Struct j)) (sym same) (Contains-push t.types (Struct (length t.structs)))
    ]

sound_struct : (t : Table) (name : List ℕ) (ms : List (List ℕ × TypeId)) → IsSound t → 0 < length ms → AreKnown (length t.types) ms → IsSound (with_struct t name ms)
sound_struct t name ms sound some known =
    let s : StructView = record { name = name; members = ms } in
    let here : members_at (t.structs ++ s ∷ []) (length t.structs) ≡ ms = members_last t.structs s in
    let new : IsOver (length t.types) (t.structs ++ s ∷ []) (Struct (length t.structs)) =
    (omega (arith, length-append t.structs (s ∷ [])), subst (λ x. 0 < length x) (sym here) some, subst (AreKnown (length t.types)) (sym here) known) in
    record {
      over = λ n x e. elim (push_cases t.types (Struct (length t.structs)) x n e) as (λ _. IsOver n (t.structs ++ s ∷ []) x) [
        | inl h ↦ over_more t.structs s n x (sound.over n x h)
        | inr h ↦ subst (λ k. IsOver k (t.structs ++ s ∷ []) x) (sym h.0) (subst (IsOver (length t.types) (t.structs ++ s ∷ [])) h.1 new)
      ];
      distinct = distinct_more t.types (Struct (length t.structs)) sound.distinct (fresh t sound);
      stand = stand_more t s sound.stand;
      fewer = omega (arith, sound.fewer, length-append t.types (Struct (length t.structs) ∷ []), length-append t.structs (s ∷ []));
    }

struct_layout_made : (entries : List Entry) (structs : List StructView) (ms : List (List ℕ × TypeId)) → IsKept entries structs
    → struct_layout (map (λ m. layout_in (layouts_of entries) m.1) ms) ≡ layout (struct_shape (table_of entries structs) ms)
struct_layout_made entries structs ms kept =
    ap (λ ls. struct_layout (map (λ m. layout_in ls m.1) ms)) kept.laid_out ∙ sym (layout-structure (shapes (table_of entries structs)) ms)

struct_load_made : (entries : List Entry) (structs : List StructView) (ms : List (List ℕ × TypeId)) → IsKept entries structs
    → list_all (λ m. load_in (loads_of entries) m.1) ms ≡ is_loadable (struct_shape (table_of entries structs) ms)
struct_load_made entries structs ms kept =
    ap (λ ls. list_all (λ m. load_in ls m.1) ms) kept.loads ∙ sym (are_loadable-members (shapes (table_of entries structs)) ms)

pub kept_struct : (entries : List Entry) (structs : List StructView) (name : List ℕ) (ms : List (List ℕ × TypeId)) (e : Entry) → IsKept entries structs
    → e.ty ≡ Struct (length structs)
    → e.layout ≡ struct_layout (map (λ m. layout_in (layouts_of entries) m.1) ms) → e.loadable ≡ list_all (λ m. load_in (loads_of entries) m.1) ms
    → 0 < length ms → AreKnown (length (types_of entries)) ms → length (types_of entries) < 2 ^ 32 - 1 → IsKept (entries ++ e ∷ []) (structs ++ (record { name = name; members = ms }) ∷ [])
kept_struct entries structs name ms e kept ty laid_out loads some known room =
    let t = table_of entries structs in
    let more : List StructView = structs ++ (record { name = name; members = ms }) ∷ [] in
    let types : types_of (entries ++ e ∷ []) ≡ types_of entries ++ Struct (length structs) ∷ [] =
    map-append (λ x. x.ty) entries (e ∷ []) ∙ ap (λ x. types_of entries ++ x ∷ []) ty in
    let all : shapes (table_of (entries ++ e ∷ []) more) ≡ shapes t ++ struct_shape t ms ∷ [] =
    ap (λ x. shapes (record { types = x; structs = more })) types ∙ shapes-with_struct t name ms kept.sound.over in
    record {
      laid_out =
          map-append (λ x. x.layout) entries (e ∷ [])
          ∙ ap (λ ls. ls ++ e.layout ∷ []) kept.laid_out
          ∙ ap (λ l. map layout (shapes t) ++ l ∷ []) (laid_out ∙ struct_layout_made entries structs ms kept)
          ∙ sym (map-append layout (shapes t) (struct_shape t ms ∷ []))
          ∙ sym (ap (map layout) all);
      loads =
          map-append (λ x. x.loadable) entries (e ∷ [])
          ∙ ap (λ ls. ls ++ e.loadable ∷ []) kept.loads
          ∙ ap (λ l. map is_loadable (shapes t) ++ l ∷ []) (loads ∙ struct_load_made entries structs ms kept)
          ∙ sym (map-append is_loadable (shapes t) (struct_shape t ms ∷ []))
          ∙ sym (ap (map is_loadable) all);
      sound = subst (λ x. IsSound (record { types = x; structs = more })) (sym types) (sound_struct t name ms kept.sound some known);
      few = let short : length entries < 2 ^ 32 - 1 = rw length-map at room in omega (arith, length-append entries (e ∷ []));
    }

pub struct_refused : (entries : List Entry) (structs : List StructView) (ms : List (List ℕ × TypeId)) (fault : TableFault) → IsKept entries structs
    → laid (struct_layout (map (λ m. layout_in (layouts_of entries) m.1) ms)) ≡ Err fault
    → (fault ≡ TooLarge (layout (struct_shape (table_of entries structs) ms)).size) × IsLarge (struct_shape (table_of entries structs) ms)
struct_refused entries structs ms fault kept e = laid_err _ fault (sym (ap laid (struct_layout_made entries structs ms kept)) ∙ e)

pub struct_taken : (entries : List Entry) (structs : List StructView) (ms : List (List ℕ × TypeId)) (l : Layout) → IsKept entries structs
    → laid (struct_layout (map (λ m. layout_in (layouts_of entries) m.1) ms)) ≡ Ok l
    → (l ≡ struct_layout (map (λ m. layout_in (layouts_of entries) m.1) ms)) × ¬ IsLarge (struct_shape (table_of entries structs) ms)
struct_taken entries structs ms l kept e =
    let made = struct_layout_made entries structs ms kept in
    let taken = laid_ok _ l (sym (ap laid made) ∙ e) in
    (taken.0 ∙ sym made, λ large. absurd (omega (arith, taken.1, large)))

-- the same of a table that contracts see
module _ (entries : List Entry) (structs : List StructView) (t : Table) (ms : List (List ℕ × TypeId)) (view_is : table_of entries structs ≡ t) (kept : IsKept entries structs) where
  pub struct_refused_as : (fault : TableFault) (r : Result TypeId TableFault) → laid (struct_layout (map (λ m. layout_in (layouts_of entries) m.1) ms)) ≡ Err fault
      → IsErrAnd r (λ y. y ≡ fault) → r ≡ too_large (struct_shape t ms)
  struct_refused_as fault r e h =
      subst (λ x. r ≡ too_large (struct_shape x ms)) view_is (err_is r fault h ∙ ap (λ x. Err x) (struct_refused entries structs ms fault kept e).0)

  pub struct_is_large : (fault : TableFault) → laid (struct_layout (map (λ m. layout_in (layouts_of entries) m.1) ms)) ≡ Err fault → IsLarge (struct_shape t ms)
  struct_is_large fault e = subst (λ x. IsLarge (struct_shape x ms)) view_is (struct_refused entries structs ms fault kept e).1

  pub struct_not_large : (l : Layout) → laid (struct_layout (map (λ m. layout_in (layouts_of entries) m.1) ms)) ≡ Ok l → ¬ IsLarge (struct_shape t ms)
  struct_not_large l e = subst (λ x. ¬ IsLarge (struct_shape x ms)) view_is (struct_taken entries structs ms l kept e).1

pub grows_not : (t : Table) → Grows t t
grows_not t = record { stay = λ n ty e. e; longer = omega arith; by_one = omega arith; structs = refl }

grows_by : (t : Table) (ty : ShadeType) → Grows t (with_type t ty)
grows_by t ty = record {
  stay = λ n x e. stays t.types ty x n e;
  longer = omega (arith, length-append t.types (ty ∷ []));
  by_one = omega (arith, length-append t.types (ty ∷ []));
  structs = refl;
}

pub grows : (r : Result TypeId TableFault) (old new : Table) (ty : ShadeType) → OnOk r (new ≡ with_type old ty) → OnErr r (new ≡ old) → Grows old new
grows (Ok id) old new ty added refused = subst (Grows old) (sym added) (grows_by old ty)
grows (Err fault) old new ty added refused = subst (Grows old) (sym refused) (grows_not old)

-- what a table sees of what it keeps: a type over its ids, a type or a struct more, and nothing new after a refusal
pub over_entries : (entries : List Entry) (structs : List StructView) (ty : ShadeType) → IsOf (table_of entries structs) ty → IsOver (length entries) structs ty
over_entries entries structs ty over = subst (λ n. IsOver n structs ty) (length-map entries (λ e. e.ty)) over

pub view_with_type : (entries new : List Entry) (structs : List StructView) (e : Entry) → new ≡ entries ++ e ∷ [] → table_of new structs ≡ with_type (table_of entries structs) e.ty
view_with_type entries new structs e is =
    ap (λ x. table_of x structs) is ∙ ap (λ x. record { types = x; structs = structs }) (map-append (λ x. x.ty) entries (e ∷ []))

pub view_refused : (r : Result TypeId TableFault) (entries new : List Entry) (structs : List StructView) (t : Table) → table_of entries structs ≡ t → new ≡ entries
    → OnErr r (table_of new structs ≡ t)
view_refused (Ok id) entries new structs t view is = tt
view_refused (Err fault) entries new structs t view is = ap (λ x. table_of x structs) is ∙ view

pub no_memory : (r : Result TypeId TableFault) (fault : TableFault) → IsErrAnd r (λ y. y ≡ fault) → fault ≡ NoMemory → IfErr r (λ x. x ≡ NoMemory)
no_memory (Ok id) fault h is = absurd h
no_memory (Err y) fault h is = h ∙ is

pub known_entries : (entries : List Entry) (structs : List StructView) (ms : List (List ℕ × TypeId)) → AreKnown (length (types_of entries)) ms → AreKnown (length entries) ms
known_entries entries structs ms known = subst (λ n. AreKnown n ms) (length-map entries (λ e. e.ty)) known

pub view_with_struct : (entries new : List Entry) (structs more : List StructView) (e : Entry) (name : List ℕ) (ms : List (List ℕ × TypeId)) → new ≡ entries ++ e ∷ []
    → e.ty ≡ Struct (length structs) → more ≡ structs ++ (record { name = name; members = ms }) ∷ [] → table_of new more ≡ with_struct (table_of entries structs) name ms
view_with_struct entries new structs more e name ms is ty grown =
    ap (λ x. table_of x more) is
    ∙ ap (λ x. record { types = x; structs = more }) (map-append (λ x. x.ty) entries (e ∷ []) ∙ ap (λ x. types_of entries ++ x ∷ []) ty)
    ∙ ap (λ x. record { types = types_of entries ++ Struct (length structs) ∷ []; structs = x }) grown
