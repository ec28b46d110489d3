-- The role of the type of a member, by what is left of the list of members behind it.
use Rattle.std.proofs.Common.{◌≡◌, ◌<◌, ◌≤◌, refl, ap, ℕ, zero, suc, List, [], ◌∷◌, drop, length, arith}
use Rattle.std.proofs.lemmas.List.{drop_all}
use Rattle.shade_ast.specs.declared.tree.Member.{Member}
use Rattle.shade_steps.specs.declared.step.TypeRole.TheVariants as role
use Rattle.shade_steps.specs.Declarations.{member_role}

pub last_role : (ms : List Member) (n : ℕ) → length ms ≤ n → member_role (drop n ms) ≡ role.LastMember
last_role ms n past = ap member_role (drop_all n ms past)

pub other_role : (ms : List Member) (n : ℕ) → n < length ms → member_role (drop n ms) ≡ role.Other
other_role [] n within = absurd (omega (arith, within))
other_role (m ∷ ms) zero within = refl
other_role (m ∷ ms) (suc n) within = other_role ms n (omega (arith, within))
