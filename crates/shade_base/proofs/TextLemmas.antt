use Rattle.std.proofs.Common.{◌≡◌, ℕ, List, [], ◌∷◌, map, Option, Some, None, refl, subst, Bool, true, false, cond, Vec, Global, String, Bor}
use Rattle.std.specs.Option.{option_map, option_copied}
use Rattle.std.specs.Map.{lookup}
use Rattle.std.specs.String.{string_bytes}
use Rattle.std.specs.Cmp.Lexicographic.{slice_cmp}
use Rattle.std.proofs.Common.{nat_cmp}
use Rattle.std.specs.Ordering.{is_eq}
use Rattle.std.proofs.lemmas.Map.Text.{is_eq-slice_cmp}
use Rattle.shade_base.specs.MemoryShelf.{text_of}

-- a test of the first entry, looked up in the entries and in what they show
one_entry : {V : Type 0} (b b' : Bool) (f : V → List ℕ) (v : V) (o : Option V) (o' : Option (List ℕ)) → b ≡ b' → option_map f o ≡ o' → option_map f (cond b (Some v) o) ≡ cond b' (Some (f v)) o'
one_entry true b' f v o o' e h = subst (λ (x : Bool). option_map f (cond true (Some v) o) ≡ cond x (Some (f v)) o') e refl
one_entry false b' f v o o' e h = subst (λ (x : Bool). option_map f (cond false (Some v) o) ≡ cond x (Some (f v)) o') e h

-- a text looked up among a map's entries by their order is the one found by its name
pub text_of-entries : (name : List ℕ) (es : List (String Global × Vec ℕ Global)) →
    option_map (λ text. text.items) (lookup (λ k. is_eq (slice_cmp nat_cmp name (string_bytes k))) es) ≡ text_of (map (λ e. (string_bytes e.0, e.1.items)) es) name
text_of-entries name [] = refl
text_of-entries name (e ∷ es) = one_entry _ _ (λ text. text.items) e.1 _ _ (is_eq-slice_cmp name (string_bytes e.0)) (text_of-entries name es)

-- what is lent, looked at through the loan
pub items-copied : (r : Option (Bor (Vec ℕ Global))) → option_map (λ text. text.now.items) r ≡ option_map (λ text. text.items) (option_copied r)
items-copied None = refl
items-copied (Some text) = refl
