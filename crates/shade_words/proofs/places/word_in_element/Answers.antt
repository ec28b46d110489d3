use Rattle.std.proofs.Common.{◌/◌, ◌<◌, arith}
use Rattle.std.proofs.Math.Nat.{div-add-mod}
use Rattle.std.proofs.lemmas.Nat.{mod_below}
use Rattle.shade_words.proofs.places.word_in_element.Goals as goal

pub returns-clause-some : goal.returns-clause-some
returns-clause-some c =
    let positive : 0 < c.args.stride = omega (arith, c.if-stride-eq0.false) in (
      c.args.word / c.args.stride,
      omega (arith, c.if-count-word.false),
      omega (arith, div-add-mod c.args.word c.args.stride),
      mod_below c.args.word c.args.stride positive,
    )
