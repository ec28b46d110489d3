-- The first of faults, of two lists and of their parts.
use Rattle.std.proofs.Common.{◌≡◌, refl, sym, ap, ◌∙◌, ℕ, Bool, true, false, List, [], ◌∷◌, ◌++◌, Option, Some, None, arith}
use Rattle.std.proofs.lemmas.Bool.Decides.{nat_tests}
use Rattle.std.specs.Prelude.{nat_le, if◌then◌else◌}
use Rattle.shade_scope.specs.declared.fault.ScopeFault.{ScopeFault}
use Rattle.shade_scope.specs.Faults.{key, earlier, least_of}

le_trans : (a b c : ℕ) → nat_le a b ≡ true → nat_le b c ≡ true → nat_le a c ≡ true
le_trans a b c p q = grind (arith, nat_tests)

gt_trans : (a b c : ℕ) → nat_le a b ≡ false → nat_le b c ≡ false → nat_le a c ≡ false
gt_trans a b c p q = grind (arith, nat_tests)

turned : (ab bc : Bool) (a b c : ScopeFault) → nat_le (key a) (key b) ≡ ab → nat_le (key b) (key c) ≡ bc
    → earlier (if ab then Some a else Some b) (Some c) ≡ earlier (Some a) (if bc then Some b else Some c)
turned true true a b c p q = rw (p, le_trans (key a) (key b) (key c) p q) refl
turned true false a b c p q = refl
turned false true a b c p q = rw (p, q) refl
turned false false a b c p q = rw (q, gt_trans (key a) (key b) (key c) p q) refl

ended : (x : Bool) (a b : ScopeFault) → earlier (if x then Some a else Some b) None ≡ (if x then Some a else Some b)
ended true a b = refl
ended false a b = refl

pub earlier_assoc : (a b c : Option ScopeFault) → earlier (earlier a b) c ≡ earlier a (earlier b c)
earlier_assoc None b c = refl
earlier_assoc (Some a) None c = refl
earlier_assoc (Some a) (Some b) None = ended (nat_le (key a) (key b)) a b
earlier_assoc (Some a) (Some b) (Some c) = turned (nat_le (key a) (key b)) (nat_le (key b) (key c)) a b c refl refl

pub earlier_none : (a : Option ScopeFault) → earlier a None ≡ a
earlier_none None = refl
earlier_none (Some a) = refl

pub least_more : (fs gs : List ScopeFault) → least_of (fs ++ gs) ≡ earlier (least_of fs) (least_of gs)
least_more [] gs = refl
least_more (f ∷ fs) gs = ap (earlier (Some f)) (least_more fs gs) ∙ sym (earlier_assoc (Some f) (least_of fs) (least_of gs))

-- one more list of faults is taken in
pub least_turn : (old f new : Option ScopeFault) (fs gs : List ScopeFault) {all : Option ScopeFault}
    → f ≡ least_of fs → new ≡ earlier old f → earlier old (least_of (fs ++ gs)) ≡ all → earlier new (least_of gs) ≡ all
least_turn old f new fs gs is_f is_new h =
    ap (λ z. earlier z (least_of gs)) (is_new ∙ ap (earlier old) is_f)
    ∙ earlier_assoc old (least_of fs) (least_of gs) ∙ ap (earlier old) (sym (least_more fs gs)) ∙ h

pub least_end : (a : Option ScopeFault) {all : Option ScopeFault} → earlier a None ≡ all → a ≡ all
least_end a h = sym (earlier_none a) ∙ h
