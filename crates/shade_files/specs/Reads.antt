-- What was read of some files.
use Rattle.std.specs.Prelude.{◌≡◌, ℕ, List, [], ◌∷◌, ◌++◌, Result, Ok, Err, Option, None, Some, IfSome, Vec}
use Rattle.std.specs.Option.{option_map}
use Rattle.std.specs.declared.alloc.Global.{Global}
use Rattle.shade_base.specs.Shelf.{front_of}
use Rattle.shade_files.specs.Changes.{ShelfChange}

-- a file, and the greatest number of bytes that it may have
pub record File : Type 0 where
  pub name : List ℕ
  pub limit : ℕ

-- Some files were read, each once and one after another, from the first on. A read gave the first bytes of the file's text, if the
-- texts are told; or nothing, and then the file's name joined the failed names. No other name did.
abbrev pub AreReads : Option (List ℕ → Option (List ℕ)) → List File → List (Option (List ℕ)) → List (List ℕ) → List (List ℕ) → Type 0
AreReads texts files [] failed failed' = failed' ≡ failed
AreReads texts [] (read ∷ reads) failed failed' = ⊥
AreReads texts (file ∷ files) (None ∷ reads) failed failed' = AreReads texts files reads (failed ++ file.name ∷ []) failed'
AreReads texts (file ∷ files) (Some bytes ∷ reads) failed failed' = IfSome texts (λ texts. front_of texts file.name file.limit ≡ Some bytes) × AreReads texts files reads failed failed'

-- a read of one file: what it gave, or want of memory, which leaves the failed names
abbrev pub IsReadBy : {E : Type 0} → ShelfChange → File → Result (Option (Vec ℕ Global)) E → Type 0
IsReadBy shelf file (Ok read) = AreReads shelf.texts (file ∷ []) (option_map (λ bytes. bytes.items) read ∷ []) shelf.failed shelf.failed'
IsReadBy shelf file (Err _) = shelf.failed' ≡ shelf.failed
