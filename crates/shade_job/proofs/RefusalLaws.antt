-- Refusals handed on.
use Rattle.std.proofs.Common.{◌≡◌, sym, subst, ℕ, List, [], Option, None, Some, Result, Ok, Err, IsErrAnd, MatchOption, MatchResult}
use Rattle.serde_json.specs.Data.{Data}
use Rattle.shade_job.specs.declared.refusal.JobRule.{JobRule}
use Rattle.shade_job.specs.declared.refusal.JobRefusal.{JobRefusal}
use Rattle.shade_job.specs.declared.refusal.JobRefusal.TheVariants.{Rule, NoMemory}
use Rattle.shade_job.specs.Refusals.{Refuses}
use Rattle.shade_job.specs.ByRule.{RefusesBy}

-- a refusal for one reason is one for another
pub refuses_for : (F G : List ℕ → JobRule → Type 0) (refusal : JobRefusal) → ((p : List ℕ) (r : JobRule) → F p r → G p r) → Refuses F refusal → Refuses G refusal
refuses_for F G (Rule p r) f h = f p r h
refuses_for F G NoMemory f h = tt

pub refuses_by : (rule : JobRule) (F G : List ℕ → Type 0) (refusal : JobRefusal) → ((p : List ℕ) → F p → G p) → RefusesBy rule F refusal → RefusesBy rule G refusal
refuses_by rule F G refusal f h = refuses_for (λ p r. (r ≡ rule) × F p) (λ p r. (r ≡ rule) × G p) refusal (λ p r k. (k.0, f p k.1)) h

-- an exit by `?`
pub errs : {T : Type 0} (r : Result T JobRefusal) (f : JobRefusal) (P : T → Type 0) (Q : JobRefusal → Type 0) → IsErrAnd r (λ e. e ≡ f) → Q f → MatchResult r P Q
errs (Ok x) f P Q k q = absurd k
errs (Err e) f P Q k q = subst Q (sym k) q

-- ---- members

pub has : (o : Option Data) (x : Data) (Is : Data → Type 0) → o ≡ Some x → Is x → MatchOption o ⊥ Is
has o x Is e h = subst (λ (m : Option Data). MatchOption m ⊥ Is) (sym e) h

pub lacks : (o : Option Data) (Fails : Data → List ℕ → Type 0) (p : List ℕ) → o ≡ None → p ≡ [] → MatchOption o (p ≡ []) (λ d. Fails d p)
lacks o Fails p e h = subst (λ (m : Option Data). MatchOption m (p ≡ []) (λ d. Fails d p)) (sym e) h

pub is_wrong : (o : Option Data) (x : Data) (Fails : Data → List ℕ → Type 0) (p : List ℕ) → o ≡ Some x → Fails x p → MatchOption o (p ≡ []) (λ d. Fails d p)
is_wrong o x Fails p e h = subst (λ (m : Option Data). MatchOption m (p ≡ []) (λ d. Fails d p)) (sym e) h
