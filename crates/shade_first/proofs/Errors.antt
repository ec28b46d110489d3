-- What a `?` hands on, and a test that failed.
use Rattle.std.proofs.Common.{◌≡◌, ◌↔◌, sym, subst, ℕ, List, true, false, IsTrue, Result, Ok, Err, MatchResult}
use Rattle.std.specs.Result.{IsErrAnd}
use Rattle.shade_first.specs.declared.token.Token.{Token}
use Rattle.shade_first.specs.declared.phrase.SyntaxFault.{SyntaxFault}
use Rattle.shade_first.specs.declared.phrase.SyntaxFault.TheVariants.{Unexpected, NoMemory}
use Rattle.shade_first.specs.Reads.{Fails, Faults}

pub errs : {T : Type 0} (r : Result T SyntaxFault) (f : SyntaxFault) (P : T → Type 0) (Q : SyntaxFault → Type 0) → IsErrAnd r (λ e. e ≡ f) → Q f → MatchResult r P Q
errs (Ok x) f P Q k q = absurd k
errs (Err e) f P Q k q = subst Q (sym k) q

pub faults : {R S : Type 0} (G : R → List Token → List Token → Type 0) (B : S → List Token → List Token → Type 0) (tokens : List Token) (from at : ℕ) (f : SyntaxFault) → ((to : ℕ) → Fails B tokens at to → Fails G tokens from to) → Faults B tokens at f → Faults G tokens from f
faults G B tokens from at (Unexpected to) k x = k to x
faults G B tokens from at NoMemory k x = tt

pub isnt : {P : Type 0} → IsTrue false ↔ P → P → ⊥
isnt e p = let bad : false ≡ true = e.1 p in cc
