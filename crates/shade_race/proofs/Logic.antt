-- Tests and options.
use Rattle.std.proofs.Common.{◌≡◌, Bool, true, false, ◌&&◌, Option, Some, None, refl, sym}
use Rattle.shade_race.specs.declared.access.LaneAccess.{LaneAccess}
use Rattle.shade_race.specs.Word.{or_else, when}

pub false_true : (b : Bool) {C : Type 0} → b ≡ false → b ≡ true → C
false_true true f t = let no_one : ⊥ = cc f in absurd no_one
false_true false f t = let no_one : ⊥ = cc t in absurd no_one

pub not_true : (b : Bool) → (b ≡ true → ⊥) → b ≡ false
not_true true f = absurd (f refl)
not_true false f = refl

pub and_parts : (a b : Bool) → (a && b) ≡ true → (a ≡ true) × (b ≡ true)
and_parts true b e = (refl, e)
and_parts false b e = false_true false refl e

pub no_some : {A : Type 0} (x : A) {C : Type 0} → None ≡ Some x → C
no_some x e = let no_one : ⊥ = cc e in absurd no_one

pub or_none : {A : Type 0} (o : Option A) → or_else o None ≡ o
or_none None = refl
or_none (Some x) = refl

pub none_when : (b : Bool) (a : LaneAccess) → when b a ≡ None → b ≡ false
none_when true a e = no_some a (sym e)
none_when false a e = refl

pub some_when : (b : Bool) (a x : LaneAccess) → when b a ≡ Some x → (b ≡ true) × (a ≡ x)
some_when true a x e = (refl, cc e)
some_when false a x e = no_some x e
