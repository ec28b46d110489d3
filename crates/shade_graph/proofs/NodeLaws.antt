-- How nodes are compared: as their kind, their parameter or statement, and their part or argument are.
use mathlib.Core.Bool.{true≢false}
use Rattle.std.proofs.Common.{◌≡◌, ℕ, ◌<◌, refl, ap, sym, ◌∙◌, subst, arith, inl, inr, Bool, true}
use Rattle.std.specs.Prelude.{nat_eq, ◌⊎◌}
use Rattle.std.specs.declared.cmp.Ordering.{Ordering}
use Rattle.std.specs.declared.cmp.Ordering.TheVariants.{Less, Equal, Greater}
use Rattle.std.specs.Ordering.{nat_cmp, ordering_then, eq_by_cmp}
use Rattle.std.specs.Cmp.{IsTotalOrder, IsEquivalence, then_total, on_total, nat_cmp_total, both_tied, first_so, second_so}
use Rattle.std.proofs.lemmas.Cmp.{eq_by_cmp_equiv}
use Rattle.std.proofs.lemmas.Bool.Decides.{nat_tests}
use Rattle.shade_base.specs.declared.severity.Severity.TheVariants.{Error, Warning, Info, Off}
use Rattle.shade_graph.specs.declared.node.Node.{Node}
use Rattle.shade_graph.specs.declared.node.Node.TheVariants.{Required, NonUniform, Start, Param, ContentsIn, ContentsOut, Returned, Before, After, Part, Value, Stored}
use Rattle.shade_graph.specs.contracts.node.NodeOrd.TheImpl.{ghosts as order}
use Rattle.shade_graph.specs.contracts.node.NodePartialEq.TheImpl.{ghosts as equality}
use Rattle.shade_graph.specs.Order.{rank, first_key, second_key, NodeLess}

-- how the program compares nodes
abbrev pub node_cmp : Node → Node → Ordering
node_cmp = order.cmp

abbrev pub node_eq : Node → Node → Bool
node_eq = equality.eq

abbrev Key : Type 0
Key = ℕ × (ℕ × ℕ)

abbrev key : Node → Key
key u = (rank u, (first_key u, second_key u))

abbrev key_cmp : Key → Key → Ordering
key_cmp x y = ordering_then (nat_cmp x.0 y.0) (ordering_then (nat_cmp x.1.0 y.1.0) (nat_cmp x.1.1 y.1.1))

then_equal : (o : Ordering) → o ≡ ordering_then o Equal
then_equal Less = refl
then_equal Equal = refl
then_equal Greater = refl

cmp_is : (u v : Node) → node_cmp u v ≡ key_cmp (key u) (key v)
cmp_is (Required Error) (Required Error) = refl
cmp_is (Required Error) (Required Warning) = refl
cmp_is (Required Error) (Required Info) = refl
cmp_is (Required Error) (Required Off) = refl
cmp_is (Required Warning) (Required Error) = refl
cmp_is (Required Warning) (Required Warning) = refl
cmp_is (Required Warning) (Required Info) = refl
cmp_is (Required Warning) (Required Off) = refl
cmp_is (Required Info) (Required Error) = refl
cmp_is (Required Info) (Required Warning) = refl
cmp_is (Required Info) (Required Info) = refl
cmp_is (Required Info) (Required Off) = refl
cmp_is (Required Off) (Required Error) = refl
cmp_is (Required Off) (Required Warning) = refl
cmp_is (Required Off) (Required Info) = refl
cmp_is (Required Off) (Required Off) = refl
cmp_is (Param i) (Param j) = then_equal (nat_cmp i j)
cmp_is (ContentsIn i) (ContentsIn j) = then_equal (nat_cmp i j)
cmp_is (ContentsOut i) (ContentsOut j) = then_equal (nat_cmp i j)
cmp_is (Before i) (Before j) = then_equal (nat_cmp i j)
cmp_is (After i) (After j) = then_equal (nat_cmp i j)
cmp_is (Value i) (Value j) = then_equal (nat_cmp i j)
cmp_is NonUniform NonUniform = refl
cmp_is Start Start = refl
cmp_is Returned Returned = refl
cmp_is (Part i p) (Part j q) = refl
cmp_is (Stored i p) (Stored j q) = refl
cmp_is (Required Error) _ = refl
cmp_is _ (Required Error) = refl
cmp_is (Required Warning) _ = refl
cmp_is _ (Required Warning) = refl
cmp_is (Required Info) _ = refl
cmp_is _ (Required Info) = refl
cmp_is (Required Off) _ = refl
cmp_is _ (Required Off) = refl
cmp_is _ _ = refl

key_total : IsTotalOrder key_cmp
key_total = then_total (on_total (λ (p : Key). p.0) nat_cmp_total) (then_total (on_total (λ (p : Key). p.1.0) nat_cmp_total) (on_total (λ (p : Key). p.1.1) nat_cmp_total))

pub node_total : IsTotalOrder node_cmp
node_total =
    let same : (λ (u v : Node). key_cmp (key u) (key v)) ≡ node_cmp = λ i u v. sym (cmp_is u v) i in
    subst (λ (c : Node → Node → Ordering). IsTotalOrder c) same (on_total key key_total)

nat_ties : (a b : ℕ) → nat_eq a b ≡ eq_by_cmp nat_cmp a b
nat_ties a b = grind (arith, nat_tests)

pub node_ties : (u v : Node) → node_eq u v ≡ eq_by_cmp node_cmp u v
node_ties (Required Error) (Required Error) = refl
node_ties (Required Error) (Required Warning) = refl
node_ties (Required Error) (Required Info) = refl
node_ties (Required Error) (Required Off) = refl
node_ties (Required Warning) (Required Error) = refl
node_ties (Required Warning) (Required Warning) = refl
node_ties (Required Warning) (Required Info) = refl
node_ties (Required Warning) (Required Off) = refl
node_ties (Required Info) (Required Error) = refl
node_ties (Required Info) (Required Warning) = refl
node_ties (Required Info) (Required Info) = refl
node_ties (Required Info) (Required Off) = refl
node_ties (Required Off) (Required Error) = refl
node_ties (Required Off) (Required Warning) = refl
node_ties (Required Off) (Required Info) = refl
node_ties (Required Off) (Required Off) = refl
node_ties (Param i) (Param j) = nat_ties i j
node_ties (ContentsIn i) (ContentsIn j) = nat_ties i j
node_ties (ContentsOut i) (ContentsOut j) = nat_ties i j
node_ties (Before i) (Before j) = nat_ties i j
node_ties (After i) (After j) = nat_ties i j
node_ties (Value i) (Value j) = nat_ties i j
node_ties (Part i p) (Part j q) = both_tied _ _ _ _ (nat_ties i j) (nat_ties p q)
node_ties (Stored i p) (Stored j q) = both_tied _ _ _ _ (nat_ties i j) (nat_ties p q)
node_ties NonUniform NonUniform = refl
node_ties Start Start = refl
node_ties Returned Returned = refl
node_ties _ _ = refl

nat_same : (a b : ℕ) → nat_eq a b ≡ true → a ≡ b
nat_same a b e = grind (arith, nat_tests)

pub node_same : (u v : Node) → node_eq u v ≡ true → u ≡ v
node_same (Required Error) (Required Error) e = refl
node_same (Required Warning) (Required Warning) e = refl
node_same (Required Info) (Required Info) e = refl
node_same (Required Off) (Required Off) e = refl
node_same NonUniform NonUniform e = refl
node_same Start Start e = refl
node_same Returned Returned e = refl
node_same (Param i) (Param j) e = ap Param (nat_same i j e)
node_same (ContentsIn i) (ContentsIn j) e = ap ContentsIn (nat_same i j e)
node_same (ContentsOut i) (ContentsOut j) e = ap ContentsOut (nat_same i j e)
node_same (Before i) (Before j) e = ap Before (nat_same i j e)
node_same (After i) (After j) e = ap After (nat_same i j e)
node_same (Value i) (Value j) e = ap Value (nat_same i j e)
node_same (Part i p) (Part j q) e = λ k. Part (nat_same i j (first_so _ _ e) k) (nat_same p q (second_so _ _ e) k)
node_same (Stored i p) (Stored j q) e = λ k. Stored (nat_same i j (first_so _ _ e) k) (nat_same p q (second_so _ _ e) k)
node_same _ _ e = absurd (true≢false (sym e))

nat_less : (a c : ℕ) → nat_cmp a c ≡ Less → a < c
nat_less a c e = grind (arith, nat_tests)

nat_equal : (a c : ℕ) → nat_cmp a c ≡ Equal → a ≡ c
nat_equal a c e = grind (arith, nat_tests)

then_less : (a c : ℕ) (o p : Ordering) → nat_cmp a c ≡ o → ordering_then o p ≡ Less → (a < c) ⊎ ((a ≡ c) × (p ≡ Less))
then_less a c Less p e h = inl (nat_less a c e)
then_less a c Equal p e h = inr (nat_equal a c e, h)
then_less a c Greater p e h = cc

pub less_is : (u v : Node) → node_cmp u v ≡ Less → NodeLess u v
less_is u v e =
    elim (then_less (rank u) (rank v) _ _ refl (sym (cmp_is u v) ∙ e)) [
      | inl less ↦ inl less
      | inr rest ↦ inr (
        rest.0,
        elim (then_less (first_key u) (first_key v) _ _ refl rest.1) [
          | inl less ↦ inl less
          | inr last ↦ inr (last.0, nat_less (second_key u) (second_key v) last.1)
        ],
      )
    ]

pub node_equiv : IsEquivalence node_eq
node_equiv =
    let same : (λ (u v : Node). eq_by_cmp node_cmp u v) ≡ node_eq = λ i u v. sym (node_ties u v) i in
    subst (λ (e : Node → Node → Bool). IsEquivalence e) same (eq_by_cmp_equiv node_total)
