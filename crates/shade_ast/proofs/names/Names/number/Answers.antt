use Rattle.std.proofs.Common.{ap, ◌∙◌, sym, subst, map}
use Rattle.std.specs.Prelude.{string_bytes}
use Rattle.shade_ast.specs.Names.{IsDistinct}
use Rattle.shade_ast.proofs.NameLaws.{known_number, known_names, new_number, new_names, distinct_more}
use Rattle.shade_ast.proofs.names.Names.number.Goals as goal

pub returns-in-Some-clause-number : goal.returns-in-Some-clause-number
returns-in-Some-clause-number c =
    rw (← c.self.view_is) (known_number string_bytes c.args.text.now c.self.inside.texts.keys c.in-Some.at c.in-Some.ensures.index)

pub returns-in-Some-clause-names : goal.returns-in-Some-clause-names
returns-in-Some-clause-names c =
    rw (← c.self.view_is) (known_names string_bytes c.args.text.now c.self.inside.texts.keys c.in-Some.ensures.found)

pub returns-clause-number : goal.returns-clause-number
returns-clause-number c =
    rw (← c.self.view_is, ← c.in_ok-owned.ensures.ok) (c.in_ok-at.ensures.index ∙ new_number string_bytes (string_bytes c.in_ok-owned.owned) c.self.inside.texts.keys)

pub returns-clause-names : goal.returns-clause-names
returns-clause-names c =
    rw (← c.self.view_is, ← c.in_ok-owned.ensures.ok) (ap (λ ks. map string_bytes ks) c.in_ok-at.ensures.keys ∙ new_names string_bytes c.self.inside.texts.keys c.in_ok-owned.owned)

pub invariant_of-self-2 : goal.invariant_of-self-2
invariant_of-self-2 c =
    subst IsDistinct (sym (ap (λ ks. map string_bytes ks) c.in_ok-at.ensures.keys ∙ new_names string_bytes c.self.inside.texts.keys c.in_ok-owned.owned)) (distinct_more (map string_bytes c.self.inside.texts.keys) (string_bytes c.in_ok-owned.owned) c.self.invariant)

pub returns-clause-distinct : goal.returns-clause-distinct
returns-clause-distinct c =
    subst IsDistinct (sym (ap (λ ks. map string_bytes ks) c.in_ok-at.ensures.keys ∙ new_names string_bytes c.self.inside.texts.keys c.in_ok-owned.owned)) (distinct_more (map string_bytes c.self.inside.texts.keys) (string_bytes c.in_ok-owned.owned) c.self.invariant)
