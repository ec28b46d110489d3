-- Buffers one after another.
use Rattle.std.proofs.Common.{◌≡◌, refl, ℕ, suc, ◌<◌, inl, inr, Bool, true, false, ◌&&◌, List, [], ◌∷◌, length, get_or, is_some, arith, None}
use Rattle.serde_json.specs.Data.{Data, Members, member}
use Rattle.shade_job.specs.declared.numbers.NumberRange.TheVariants.{Word}
use Rattle.shade_job.specs.Json.{number_of, by_range}
use Rattle.shade_core.specs.declared.module.CoreModule.{CoreModule}
use Rattle.shade_job.specs.Buffers.{IsBuffer, AreBuffers, BufferFails, FirstBuffer, are_words}

-- all buffers before the rest are right
pub record Passed (shader : CoreModule) (rest all : Members) : Type 0 where
  pub first : (p : List ℕ) → FirstBuffer shader rest p → FirstBuffer shader all p
  pub each : AreBuffers shader rest → AreBuffers shader all

pub passed_none : (shader : CoreModule) (all : Members) → Passed shader all all
passed_none shader all = record { first = λ p h. h; each = λ h. h }

pub passed_more : (shader : CoreModule) (name : List ℕ) (d : Data) (more all : Members) → Passed shader (member name d more) all → IsBuffer shader name d → Passed shader more all
passed_more shader name d more all so_far is = record { first = λ p h. so_far.first p (inr (is, h)); each = λ h. so_far.each (is, h) }

pub passed_wrong : (shader : CoreModule) (name : List ℕ) (d : Data) (more all : Members) (p : List ℕ) → Passed shader (member name d more) all → BufferFails shader name d p → FirstBuffer shader all p
passed_wrong shader name d more all p so_far wrong = so_far.first p (inl wrong)

-- items of which each is a word
pub words_all : (ds : List Data) → ((k : ℕ) → k < length ds → is_some (get_or (by_range Word ds) k None) ≡ true) → are_words ds ≡ true
words_all [] each = refl
words_all (d ∷ ds) each = both (is_some (number_of Word d)) (are_words ds) (each 0 (omega arith)) (words_all ds (λ k lt. each (suc k) (omega arith))) where
  both : (a b : Bool) → a ≡ true → b ≡ true → (a && b) ≡ true
  both true b one other = other
  both false b one other = absurd (cc)
