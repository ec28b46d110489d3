use Rattle.std.proofs.Common.{◌≡◌, ap}
use Rattle.shade_base.specs.declared.place.Place.{Place}
use Rattle.shade_base.specs.Lines.{line_at, column_at}
use Rattle.shade_base.proofs.PlaceLemmas.{line_at-small, column_at-small}
use Rattle.shade_base.proofs.lines.place_after.Goals as goal

pub loop-at-init : goal.loop-at-init
loop-at-init c =
    let line : c.args.start.line ≡ line_at c.args.text.now c.args.start.offset = ap (λ (p : Place). p.line) c.requires.start in
    let column : c.args.start.column ≡ column_at c.args.text.now c.args.start.offset = ap (λ (p : Place). p.column) c.requires.start in
    record {
      line_is = line;
      column_is = column;
      line_small = rw line (line_at-small c.args.text.now c.args.start.offset);
      column_small = rw column (column_at-small c.args.text.now c.args.start.offset);
    }
