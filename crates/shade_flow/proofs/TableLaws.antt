-- The search over numbers is the search over points.
use Rattle.std.proofs.Common.{◌≡◌, ℕ, List, refl, ap, sym, ◌∙◌, arith, subst}
use Rattle.shade_core.specs.declared.statement.Base.{Base}
use Rattle.shade_core.specs.Code.{Code}
use Rattle.shade_flow.specs.declared.definition.Definition.{Definition}
use Rattle.shade_flow.specs.declared.point.Point.{Point}
use Rattle.shade_flow.specs.declared.point.Point.TheVariants.{At, Turn, Past}
use Rattle.shade_flow.specs.Bits.{Has, at, begins, made, goes, BitArrives, AreReached}
use Rattle.shade_flow.specs.Flow.{entry, Reaches, entered, made_by, goes_by}
use Rattle.shade_flow.specs.Tables.{number, AreWays, IsBitOf}

-- points have different numbers
pub same_point : (u v : Point) → number u ≡ number v → u ≡ v
same_point Past Past e = refl
same_point Past (At n) e = absurd (omega (arith, e))
same_point Past (Turn n) e = absurd (omega (arith, e))
same_point (At n) Past e = absurd (omega (arith, e))
same_point (At n) (At m) e = let s : n ≡ m = omega (arith, e) in ap (λ (k : ℕ). At k) s
same_point (At n) (Turn m) e = absurd (omega (arith, e))
same_point (Turn n) Past e = absurd (omega (arith, e))
same_point (Turn n) (At m) e = absurd (omega (arith, e))
same_point (Turn n) (Turn m) e = let s : n ≡ m = omega (arith, e) in ap (λ (k : ℕ). Turn k) s

module _ (body : Code) (edges : List (ℕ × ℕ)) (ways : AreWays body edges) (var : Base) (def : Definition) (bit : ℕ) (starts makes passes : List ℕ) (is : IsBitOf body var def bit starts makes passes) where
  -- what the bits reach, the definition reaches
  pub bit_reaches : (i : ℕ) → BitArrives edges starts makes passes bit i → (p : Point) → number p ≡ i → Reaches body var def p
  bit_reaches i (begins {point = j} h) p e =
      let b = is.starts_back i h in
      let same : p ≡ entry body Past = same_point p (entry body Past) (e ∙ b.3) in
      subst (λ (q : Point). Reaches body var def q) (sym same) (entered b.1 b.2)
  bit_reaches i (made {from = f} {to = t} h x) p e =
      let w = ways.back f i x in
      let same : w.1 ≡ p = same_point w.1 p (w.5 ∙ sym e) in
      subst (λ (q : Point). Reaches body var def q) same (made_by w.3 (is.makes_back w.0 w.1 w.2 w.3 (subst (λ (k : ℕ). Has (at makes k) bit) (sym w.4) h)))
  bit_reaches i (goes {from = f} {to = t} r h x) p e =
      let w = ways.back f i x in
      let same : w.1 ≡ p = same_point w.1 p (w.5 ∙ sym e) in
      subst (λ (q : Point). Reaches body var def q) same (goes_by (bit_reaches f r w.0 w.4) w.3 (is.passes_back w.0 w.1 w.2 w.3 (subst (λ (k : ℕ). Has (at passes k) bit) (sym w.4) h)))

  -- what the definition reaches, the bits reach
  pub reaches_bit : (p : Point) → Reaches body var def p → BitArrives edges starts makes passes bit (number p)
  reaches_bit p (entered {i = i} e d) = begins (is.starts_there i e d)
  reaches_bit p (made_by {u = u} {v = v} {m = m} w h) = made (is.makes_there u v m w h) (ways.there u v m w)
  reaches_bit p (goes_by {u = u} {v = v} {m = m} r w s) = goes (reaches_bit u r) (is.passes_there u v m w s) (ways.there u v m w)

  -- so rows that the search gave hold exactly the definition
  pub rows_tell : (rows : List ℕ) → AreReached edges starts makes passes rows → (p : Point) → (Has (at rows (number p)) bit → Reaches body var def p) × (Reaches body var def p → Has (at rows (number p)) bit)
  rows_tell rows r p = (λ h. bit_reaches (number p) (r.sound bit (number p) h) p refl, λ h. r.complete bit (number p) (reaches_bit p h))
