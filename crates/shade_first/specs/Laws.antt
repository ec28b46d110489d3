-- Laws of texts of the first form.
use Rattle.std.specs.Prelude.{◌≡◌, ℕ, ◌<◌, List, length}
use Rattle.shade_core.specs.declared.module.CoreModule.{CoreModule}
use Rattle.shade_first.specs.FirstForm.{StandsFor, LeavesAt}

-- a text stands for one module at most
abbrev pub OneModule : Type 0
OneModule = (text : List ℕ) (m n : CoreModule) → StandsFor text m → StandsFor text n → m ≡ n

-- a text leaves the form at one place at most
abbrev pub OnePlace : Type 0
OnePlace = (text : List ℕ) (a b : ℕ) → LeavesAt text a → LeavesAt text b → a ≡ b

-- a text that stands for a module does not leave the form
abbrev pub NeverBoth : Type 0
NeverBoth = (text : List ℕ) (m : CoreModule) (at : ℕ) → StandsFor text m → LeavesAt text at → ⊥

-- a module has fewer statements, its last Return aside, than the text that stands for it has bytes
abbrev pub FewStatements : Type 0
FewStatements = (text : List ℕ) (m : CoreModule) → (s : StandsFor text m) → s.stands.next < length text
