-- The key of a text: what the hashes of its names begin with. A rule of speed alone: no answer depends on it.
use Rattle.std.specs.Prelude.{ℕ, List}
use Rattle.std.specs.declared.hash.DefaultHasher.{DefaultHasher}
use Rattle.std.specs.Hash.DefaultHasher.{initial, write}
use Rattle.sha2.specs.Sha256.{sha256}
use Rattle.shade_ast.specs.declared.name_key.NameKey.{NameKey}

-- the digest of a whole text
abbrev pub digest_of : List ℕ → List ℕ
digest_of text = sha256 text

abbrev pub digest : NameKey → List ℕ
digest key = key.digest

-- the hasher that each name begins with
abbrev pub first_hasher : NameKey → DefaultHasher
first_hasher key = write initial key.digest
