use Rattle.std.proofs.Common.{refl, sym, ◌∙◌, arith}
use Rattle.std.proofs.lemmas.List.{length-map}
use Rattle.shade_chains.proofs.OrderLaws.{row_here}
use Rattle.shade_chains.proofs.KeepLaws.{stand_more, stand_all, stand_never}
use Rattle.shade_chains.proofs.keeps.rows_stand.Goals as goal

pub returns-then-not-row_stands : goal.returns-then-not-row_stands
returns-then-not-row_stands c = (
  λ f. absurd (cc),
  λ stand. absurd (stand_never _ _ c.rows.row-index c.row-item.result.items (sym (length-map c.args.rows.now _)) (row_here _ c.args.rows.now c.rows.row-index c.row-item.result c.rows-test.true c.row-item.is)
      (sym (rw c.deref.ensures.value at c.row_stands.ensures) ∙ c.if-not-row_stands.true) stand),
)

pub rows-preserved : goal.rows-preserved
rows-preserved c =
    stand_more _ _ c.rows.row-index c.row-item.result.items (row_here _ c.args.rows.now c.rows.row-index c.row-item.result c.rows-test.true c.row-item.is)
    (sym (rw c.deref.ensures.value at c.row_stands.ensures) ∙ c.if-not-row_stands.false) c.rows.invariant

pub returns : goal.returns
returns c = (λ t. stand_all _ _ c.rows.row-index (sym (length-map c.args.rows.now _)) (omega (arith, c.rows-test.false)) c.rows.invariant, λ stand. refl)
