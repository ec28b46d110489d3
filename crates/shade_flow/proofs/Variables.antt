-- When two variables are the same.
use Rattle.std.proofs.Common.{◌≡◌, ℕ, true, nat_eq, refl, ap, inl, inr}
use Rattle.std.proofs.lemmas.Bool.Decides.{eqb_tells}
use Rattle.shade_core.specs.declared.statement.Base.{Base}
use Rattle.shade_core.specs.declared.statement.Base.TheVariants.{Local, Module, Pointee}
use Rattle.shade_flow.specs.Flow.{same_var}

equal : (i j : ℕ) → nat_eq i j ≡ true → i ≡ j
equal i j e = elim (eqb_tells i j) [ inl s ↦ s.1 | inr o ↦ cc (o.0, e) ]

itself : (i : ℕ) → nat_eq i i ≡ true
itself i = elim (eqb_tells i i) [ inl s ↦ s.0 | inr o ↦ absurd (o.1 refl) ]

pub same_is : (a b : Base) → same_var a b ≡ true → a ≡ b
same_is (Local i) (Local j) e = ap (λ (k : ℕ). Local k) (equal i j e)
same_is (Local i) (Module j) e = cc
same_is (Local i) (Pointee j) e = cc
same_is (Module i) (Local j) e = cc
same_is (Module i) (Module j) e = ap (λ (k : ℕ). Module k) (equal i j e)
same_is (Module i) (Pointee j) e = cc
same_is (Pointee i) (Local j) e = cc
same_is (Pointee i) (Module j) e = cc
same_is (Pointee i) (Pointee j) e = ap (λ (k : ℕ). Pointee k) (equal i j e)

pub same_self : (a : Base) → same_var a a ≡ true
same_self (Local i) = itself i
same_self (Module i) = itself i
same_self (Pointee i) = itself i
