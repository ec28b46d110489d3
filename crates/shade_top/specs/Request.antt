-- What the words of the program ask for, and which files it may read.
use Rattle.std.specs.Prelude.{ℕ, List, [], ◌∷◌, map, if◌then◌else◌, Option, None, Some, codes, String, string_bytes}
use Rattle.std.specs.declared.alloc.Global.{Global}
use Rattle.std.specs.Str.{bytes_eq}
use Rattle.shade_files.specs.Reads.{File}

-- `check FILE`, or `run FILE JOB`
pub data Request : Type 0 where
  Check : List ℕ → Request
  Run : List ℕ → List ℕ → Request

-- words, each as its bytes
abbrev pub texts_of : List (String Global) → List (List ℕ)
texts_of words = map (λ word. string_bytes word) words

-- the request that the words make, where they fit a form
abbrev pub request_of : List (List ℕ) → Option Request
request_of (verb ∷ file ∷ []) = if bytes_eq verb (codes "check") then Some (Check file) else None
request_of (verb ∷ file ∷ job ∷ []) = if bytes_eq verb (codes "run") then Some (Run file job) else None
request_of _ = None

-- the text of a shader
abbrev pub shader_file : List ℕ → File
shader_file name = record { name = name; limit = 1048576 }

abbrev pub job_file : List ℕ → File
job_file name = record { name = name; limit = 16777216 }

-- the files of a request, in the order in which they are read
abbrev pub files : Request → List File
files (Check file) = shader_file file ∷ []
files (Run file job) = shader_file file ∷ job_file job ∷ []

abbrev pub requested : Option Request → List File
requested None = []
requested (Some request) = files request

-- the files that the words name
abbrev pub files_of : List (List ℕ) → List File
files_of words = requested (request_of words)
