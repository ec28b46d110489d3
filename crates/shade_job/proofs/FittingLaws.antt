-- What a job states fits its module.
use Rattle.std.proofs.Common.{◌≡◌, refl, sym, ap, ◌∙◌, subst, ℕ, zero, suc, ◌^◌, ◌≤◌, ◌<◌, Bool, true, false, not, ◌&&◌, ◌||◌, ◌==◌, if◌then◌else◌, nat_lt, nat_le, List, [], ◌∷◌, ◌++◌, map, length, get_or, is_some, slice_get, Option, Some, None, option_and_then, Result, Ok, Err, IfOk, arith, MatchOption, MatchResult}
use Rattle.std.specs.Prelude.{codes}
use Rattle.std.specs.List.{position, list_all}
use Rattle.std.specs.Option.{option_to_list}
use Rattle.std.specs.Str.{bytes_eq}
use Rattle.std.proofs.Math.ListN.{get_or-map}
use Rattle.std.proofs.lemmas.List.{length-map}
use Rattle.std.proofs.lemmas.List.Quantifiers.{position-Some}
use Rattle.std.proofs.lemmas.Option.{slice_get-get_or}
use Rattle.std.proofs.lemmas.Bool.Decides.{nat_tests}
use Rattle.std.proofs.lemmas.Slice.Eq.{bytes_eq-Decides}
use Rattle.serde_json.specs.Data.{Data, null, Members, no_members, member}
use Rattle.serde_json.specs.Find.{get, as_str, as_object}
use Rattle.shade_core.specs.declared.module.CoreFunction.{CoreFunction}
use Rattle.shade_core.specs.declared.module.CoreModule.{CoreModule}
use Rattle.shade_core.specs.declared.module.Root.{Root}
use Rattle.shade_mem.specs.Inputs.{size_by, size_of}
use Rattle.shade_mem.specs.Fitting.{is_buffer, least_words, WordsFitBy, WordsFit, AllFit, IsFitting}
use Rattle.shade_job.specs.declared.numbers.NumberRange.{NumberRange}
use Rattle.shade_job.specs.declared.numbers.NumberRange.TheVariants.{Between, Below, Word}
use Rattle.shade_job.specs.declared.reading.Job.{Job}
use Rattle.shade_job.specs.declared.refusal.JobRefusal.{JobRefusal}
use Rattle.shade_job.specs.Json.{between, below, natural, number_of, by_ranges, items_in, sized_by, PartsAre, NumbersAre}
use Rattle.shade_job.specs.Rules.{is_entry, word_below, entry_named, entry_of, EntryIs, counts, GroupsAre, parts_of, GroupIs, other_in}
use Rattle.shade_job.specs.Buffers.{is_named, names_buffer, BuffersAre, given_words, member_named, is_given, are_given, has_words, are_words, IsBuffer, AreBuffers, words_in, stated_words, root_words}
use Rattle.shade_job.specs.JobOf.{IsStated}
use Rattle.shade_job.proofs.ListLaws.{numbers_length}

and_left : (a b : Bool) → (a && b) ≡ true → a ≡ true
and_left true b h = refl
and_left false b h = absurd (cc)

and_right : (a b : Bool) → (a && b) ≡ true → b ≡ true
and_right true b h = h
and_right false b h = absurd (cc)

and_both : (a b : Bool) → a ≡ true → b ≡ true → (a && b) ≡ true
and_both true b h k = k
and_both false b h k = absurd (cc)

if_then : (a b : Bool) → (not a || b) ≡ true → a ≡ true → b ≡ true
if_then true b h k = h
if_then false b h k = absurd (cc)

-- what a member that is there states
member_is : {A : Type 0} (o : Option Data) (Is : Data → A → Type 0) (a : A) → MatchOption o ⊥ (λ d. Is d a) → (d : Data) × Is d a
member_is None Is a h = absurd h
member_is (Some d) Is a h = (d, h)

-- ---- entry

entry_at : (name : List ℕ) (fs : List CoreFunction) (k : ℕ) → position (is_entry name) fs ≡ Some k → is_some (size_by (slice_get fs k)) ≡ true
entry_at name [] k found = absurd (cc)
entry_at name (f ∷ fs) k found =
    let at : (k < length (f ∷ fs)) × (is_entry name (get_or (f ∷ fs) k f) ≡ true) × ((j : ℕ) → j < k → is_entry name (get_or (f ∷ fs) j f) ≡ false) = position-Some (is_entry name) (f ∷ fs) k f found in
    ap (λ o. is_some (size_by o)) (slice_get-get_or (f ∷ fs) k f at.0) ∙ and_left (is_some (get_or (f ∷ fs) k f).entry) (bytes_eq (get_or (f ∷ fs) k f).name name) at.1

word_is : (o : Option ℕ) (n : ℕ) → option_and_then word_below o ≡ Some n → o ≡ Some n
word_is None n h = absurd (cc)
word_is (Some k) n h = by (nat_lt k (2 ^ 32)) h where
  by : (b : Bool) → (if b then Some k else None) ≡ Some n → Some k ≡ Some n
  by true is = is
  by false is = absurd (cc)

entry_fits_by : (shader : CoreModule) (o : Option (List ℕ)) (entry : ℕ) → option_and_then (entry_named shader) o ≡ Some entry → is_some (size_of shader entry) ≡ true
entry_fits_by shader None entry h = absurd (cc)
entry_fits_by shader (Some name) entry h = entry_at name shader.functions entry (word_is (position (is_entry name) shader.functions) entry h)

entry_fits : (shader : CoreModule) (value : Data) (entry : ℕ) → EntryIs shader value entry → is_some (size_of shader entry) ≡ true
entry_fits shader value entry is =
    let at : (d : Data) × (entry_of shader d ≡ Some entry) = member_is (get (codes "entry") value) (λ d n. entry_of shader d ≡ Some n) entry is in
    entry_fits_by shader (as_str at.0) entry at.1

-- ---- groups

between_is : (least most : ℕ) (o : Option ℕ) (n : ℕ) → option_and_then (between least most) o ≡ Some n → (least ≤ n) × (n ≤ most)
between_is least most None n h = absurd (cc)
between_is least most (Some m) n h = by (nat_le least m) (nat_le m most) refl refl h where
  by : (a b : Bool) → nat_le least m ≡ a → nat_le m most ≡ b → (if a && b then Some m else None) ≡ Some n → (least ≤ n) × (n ≤ most)
  by true true low high is = let same : m ≡ n = cc in let from : least ≤ m = grind (arith, nat_tests) in let to : m ≤ most = grind (arith, nat_tests) in (omega arith, omega arith)
  by true false low high is = absurd (cc)
  by false b low high is = absurd (cc)

below_is : (end : ℕ) (o : Option ℕ) (n : ℕ) → option_and_then (below end) o ≡ Some n → n < end
below_is end None n h = absurd (cc)
below_is end (Some m) n h = by (nat_lt m end) refl h where
  by : (b : Bool) → nat_lt m end ≡ b → (if b then Some m else None) ≡ Some n → n < end
  by true lt is = let same : m ≡ n = cc in let under : m < end = grind (arith, nat_tests) in omega arith
  by false lt is = absurd (cc)

number_at : (ranges : List NumberRange) (ds : List Data) (ns : List ℕ) (i : ℕ) (r : NumberRange) (d : Data) → by_ranges ranges ds ≡ map (λ n. Some n) ns → i < length ns → number_of (get_or ranges i r) (get_or ds i d) ≡ Some (get_or ns i 0)
number_at ranges ds [] i r d e lt = absurd (omega arith)
number_at [] ds (n ∷ ns) i r d e lt = absurd (cc)
number_at (q ∷ ranges) [] (n ∷ ns) i r d e lt = absurd (cc)
number_at (q ∷ ranges) (x ∷ ds) (n ∷ ns) zero r d e lt = cc
number_at (q ∷ ranges) (x ∷ ds) (n ∷ ns) (suc i) r d e lt = let rest : by_ranges ranges ds ≡ map (λ (m : ℕ). Some m) ns = cc in number_at ranges ds ns i r d rest (omega arith)

numbers_hold : (ranges : List NumberRange) (d : Data) (ns : List ℕ) → NumbersAre ranges d ns → (i : ℕ) (r : NumberRange) → i < length ns → (x : Data) × (number_of (get_or ranges i r) x ≡ Some (get_or ns i 0))
numbers_hold ranges d ns are i r lt = of_items (items_in d) are where
  of_sized : (ds : List Data) (b : Bool) → PartsAre (by_ranges ranges) (if b then Some ds else None) ns → (x : Data) × (number_of (get_or ranges i r) x ≡ Some (get_or ns i 0))
  of_sized ds true is = (get_or ds i null, number_at ranges ds ns i r null is lt)
  of_sized ds false is = absurd is

  of_items : (o : Option (List Data)) → PartsAre (by_ranges ranges) (sized_by (λ n. n == length ranges) o) ns → (x : Data) × (number_of (get_or ranges i r) x ≡ Some (get_or ns i 0))
  of_items None is = absurd is
  of_items (Some ds) is = of_sized ds (length ds == length ranges) is

count_range : (i : ℕ) → get_or counts i (Between 1 65535) ≡ Between 1 65535
count_range zero = refl
count_range (suc zero) = refl
count_range (suc (suc zero)) = refl
count_range (suc (suc (suc i))) = refl

module _ (value : Data) (groups : List ℕ) (are : GroupsAre value groups) where
  stated : (d : Data) × NumbersAre counts d groups
  stated = member_is (get (codes "groups") value) (NumbersAre counts) groups are

  three : length groups ≡ 3
  three = numbers_length counts stated.0 groups stated.1

  groups_fit : (i : ℕ) → i < 3 → (1 ≤ get_or groups i 0) × (get_or groups i 0 ≤ 65535)
  groups_fit i lt =
      let at : (x : Data) × (number_of (get_or counts i (Between 1 65535)) x ≡ Some (get_or groups i 0)) = numbers_hold counts stated.0 groups stated.1 i (Between 1 65535) (omega (arith, three)) in
      between_is 1 65535 (natural at.0) (get_or groups i 0) (ap (λ r. number_of r at.0) (sym (count_range i)) ∙ at.1)

  group_fits : (group : List ℕ) → GroupIs groups value group → (i : ℕ) → i < 3 → get_or group i 0 < get_or groups i 0
  group_fits group is i lt =
      let own : (d : Data) × NumbersAre (parts_of groups) d group = member_is (get (codes "group") value) (NumbersAre (parts_of groups)) group is in
      let as_many : length group ≡ length (parts_of groups) = numbers_length (parts_of groups) own.0 group own.1 in
      let parts : length (parts_of groups) ≡ length groups = length-map groups Below in
      let at : (x : Data) × (number_of (get_or (parts_of groups) i (Below 0)) x ≡ Some (get_or group i 0)) = numbers_hold (parts_of groups) own.0 group own.1 i (Below 0) (omega (arith, three)) in
      below_is (get_or groups i 0) (natural at.0) (get_or group i 0) (ap (λ r. number_of r at.0) (sym (get_or-map Below groups i 0)) ∙ at.1)

-- ---- words

words_length : (ds : List Data) → are_words ds ≡ true → length (words_in ds) ≡ length ds
words_length [] all = refl
words_length (d ∷ ds) all = first (number_of Word d) (words_in ds) (and_left (is_some (number_of Word d)) (are_words ds) all) ∙ ap suc (words_length ds (and_right (is_some (number_of Word d)) (are_words ds) all)) where
  first : (o : Option ℕ) (ws : List ℕ) → is_some o ≡ true → length (option_to_list o ++ ws) ≡ suc (length ws)
  first None ws some = absurd (cc)
  first (Some n) ws some = refl

same_name : (a b : List ℕ) → bytes_eq a b ≡ true → bytes_eq b a ≡ true
same_name a b e = (bytes_eq-Decides b a).1 (sym ((bytes_eq-Decides a b).0 e))

-- the buffer of a name
named_is : (shader : CoreModule) (members : Members) (name : List ℕ) (d : Data) → member_named name members ≡ Some d → AreBuffers shader members → (other : List ℕ) × (bytes_eq other name ≡ true) × IsBuffer shader other d
named_is shader no_members name d found are = absurd (cc)
named_is shader (member other x more) name d found are = by (bytes_eq other name) refl found (λ later. named_is shader more name d later are.1) where
  by : (b : Bool) → bytes_eq other name ≡ b → (if b then Some x else member_named name more) ≡ Some d → (member_named name more ≡ Some d → (o : List ℕ) × (bytes_eq o name ≡ true) × IsBuffer shader o d) → (o : List ℕ) × (bytes_eq o name ≡ true) × IsBuffer shader o d
  by true same is rest = let here : x ≡ d = cc in (other, same, subst (IsBuffer shader other) here are.0)
  by false same is rest = rest is

-- a variable whose buffers of its name are long enough
abbrev Enough : CoreModule → Root → Type 0
Enough shader root = (name : List ℕ) (n : ℕ) → has_words shader name n ≡ true → (not (is_named name root) || nat_le (least_words shader root) n) ≡ true

enough_words : (shader : CoreModule) (root : Root) (other : List ℕ) (d : Data) → Enough shader root → is_buffer root ≡ true → bytes_eq root.name other ≡ true → IsBuffer shader other d → least_words shader root ≤ length (stated_words (Some d))
enough_words shader root other d enough shared same is = of_items (items_in d) is where
  of_sized : (ds : List Data) (b : Bool) → has_words shader other (length ds) ≡ b → MatchOption (if b then Some ds else None) ⊥ (λ xs. are_words xs ≡ true) → least_words shader root ≤ length (words_in ds)
  of_sized ds true has are =
      let test : nat_le (least_words shader root) (length ds) ≡ true = if_then (is_named other root) (nat_le (least_words shader root) (length ds)) (enough other (length ds) has) (and_both (is_buffer root) (bytes_eq root.name other) shared same) in
      let most : least_words shader root ≤ length ds = grind (arith, nat_tests) in
      omega (arith, words_length ds are)
  of_sized ds false has are = absurd are

  of_items : (o : Option (List Data)) → MatchOption (sized_by (has_words shader other) o) ⊥ (λ xs. are_words xs ≡ true) → least_words shader root ≤ length (given_words o)
  of_items None are = absurd are
  of_items (Some ds) are = of_sized ds (has_words shader other (length ds)) refl are

module _ (shader : CoreModule) (members : Members) (are : AreBuffers shader members) where
  root_fits : (root : Root) → is_given members root ≡ true → Enough shader root → WordsFit shader root (root_words members root)
  root_fits root given enough = by (is_buffer root) refl where
    of_member : (o : Option Data) → member_named root.name members ≡ o → is_some o ≡ true → is_buffer root ≡ true → least_words shader root ≤ length (stated_words o)
    of_member None found some shared = absurd (cc)
    of_member (Some d) found some shared =
        let named : (other : List ℕ) × (bytes_eq other root.name ≡ true) × IsBuffer shader other d = named_is shader members root.name d found are in
        enough_words shader root named.0 d enough shared (same_name named.0 root.name named.1) named.2

    by : (b : Bool) → is_buffer root ≡ b → WordsFitBy b (least_words shader root) (if b then stated_words (member_named root.name members) else [])
    by false shared = refl
    by true shared = of_member (member_named root.name members) refl (if_then (is_buffer root) (is_some (member_named root.name members)) given shared) shared

  all_fit : (roots : List Root) → list_all (is_given members) roots ≡ true → ((name : List ℕ) (n : ℕ) → has_words shader name n ≡ true → list_all (λ root. not (is_named name root) || nat_le (least_words shader root) n) roots ≡ true) → AllFit shader roots (map (root_words members) roots)
  all_fit [] given enough = tt
  all_fit (root ∷ roots) given enough = (root_fits root first_given first_enough, all_fit roots rest_given rest_enough) where
    first_given : is_given members root ≡ true
    first_given = and_left (is_given members root) (list_all (is_given members) roots) given

    rest_given : list_all (is_given members) roots ≡ true
    rest_given = and_right (is_given members root) (list_all (is_given members) roots) given

    first_enough : Enough shader root
    first_enough name n has = and_left (not (is_named name root) || nat_le (least_words shader root) n) (list_all (λ other. not (is_named name other) || nat_le (least_words shader other) n) roots) (enough name n has)

    rest_enough : (name : List ℕ) (n : ℕ) → has_words shader name n ≡ true → list_all (λ other. not (is_named name other) || nat_le (least_words shader other) n) roots ≡ true
    rest_enough name n has = and_right (not (is_named name root) || nat_le (least_words shader root) n) (list_all (λ other. not (is_named name other) || nat_le (least_words shader other) n) roots) (enough name n has)

-- ---- all

given_all : (shader : CoreModule) (value : Data) (members : Members) → BuffersAre shader value members → are_given shader members ≡ true
given_all shader value members is = let at : (d : Data) × ((as_object d ≡ Some members) × (other_in (names_buffer shader) members ≡ None) × (are_given shader members ≡ true)) = member_is (get (codes "buffers") value) (λ d ms. (as_object d ≡ Some ms) × (other_in (names_buffer shader) ms ≡ None) × (are_given shader ms ≡ true)) members is in at.1.2

pub stated_fits : (shader : CoreModule) (value : Data) (job : Job) → IsStated shader value job → IsFitting shader job.inputs
stated_fits shader value job s = record {
  entry = entry_fits shader value job.inputs.entry s.entry;
  some = λ i lt. (groups_fit value job.inputs.groups s.groups i lt).0;
  most = λ i lt. (groups_fit value job.inputs.groups s.groups i lt).1;
  group = group_fits value job.inputs.groups s.groups job.inputs.group s.group;
  words = subst (λ (words : List (List ℕ)). AllFit shader shader.roots words) (sym s.words.are) (all_fit shader s.members s.words.each shader.roots (given_all shader value s.members s.buffers) (λ name n has. has));
  few = s.words.few;
}

-- the job of a result
pub result_fits : (shader : CoreModule) (value : Data) (result : Result Job JobRefusal) (Why : JobRefusal → Type 0) → MatchResult result (IsStated shader value) Why → IfOk result (λ job. IsFitting shader job.inputs)
result_fits shader value (Ok job) Why h = stated_fits shader value job h
result_fits shader value (Err refusal) Why h = tt
