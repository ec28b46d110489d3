-- Trees that are made of their parts.
use Rattle.std.specs.Prelude.{◌≡◌, ℕ, ◌+◌, true, false, Result, MatchResult}
use Rattle.shade_base.specs.declared.place.Place.{Place}
use Rattle.shade_ast.specs.declared.expr.ExprKind.{ExprKind}
use Rattle.shade_ast.specs.declared.expr.Named.{Named}
use Rattle.shade_cursor.specs.declared.part.Part.{Part}
use Rattle.shade_cursor.specs.declared.part.Fault.{Fault}
use Rattle.shade_cursor.specs.declared.part.Fault.TheVariants as fault

-- an expression of a kind, with its place, the number of the token behind it and its own number
abbrev pub made : ExprKind → Place → ℕ → ℕ → Part
made kind place end node = record { expr = record { node = node; place = place; kind = kind }; end = end; node = node + 1; bare = true }

-- the same, of two expressions and the operator between them
abbrev pub made_infix : ExprKind → Place → ℕ → ℕ → Part
made_infix kind place end node = record { expr = record { node = node; place = place; kind = kind }; end = end; node = node + 1; bare = false }

-- the name of a part, with its number as a node and its place
abbrev pub named : ℕ → Place → ℕ → Named
named node place name = record { node = node; place = place; name = name }

-- the part is made, or its tree finds no memory
abbrev pub Makes : Part → Result Part Fault → Type 0
Makes part result = MatchResult result (λ p. p ≡ part) (λ f. f ≡ fault.NoMemory)
