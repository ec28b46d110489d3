use Rattle.std.proofs.Common.{◌≡◌, ◌≤◌, ◌++◌, ◌∷◌, [], length, ap, arith, rules}
use Rattle.shade_race.specs.History.{sizes_of}
use Rattle.shade_race.proofs.RootLaws.{begin_more, begin_end, unnamed_begin}
use Rattle.shade_race.proofs.book.RaceBook.begin.Goals as goal

pub loop-number-preserved : goal.loop-number-preserved
loop-number-preserved c =
    let pushed : c.push.new.self.items ≡ c.loop-number.roots.items ++ c.in_ok-root.root ∷ [] = search rules in
    begin_more c.loop-number.roots.items c.push.new.self.items c.in_ok-root.root c.args.words.now c.args.spaces.now c.loop-number.number _ _ c.requires c.loop-number-test.true pushed c.in_ok-root.ensures c.loop-number.invariant

pub returns-clause-model : goal.returns-clause-model
returns-clause-model c =
    let past : length c.args.words.now ≤ c.loop-number.number = omega arith in
    ap (λ roots. record { roots = roots; epochs = record { workgroup = 0; storage = 0 } })
    (begin_end c.loop-number.roots.items c.args.words.now c.args.spaces.now c.loop-number.number past c.loop-number.invariant)

pub returns-clause-stands : goal.returns-clause-stands
returns-clause-stands c = record { steps = tt; cells = returns-clause-model c }

pub invariant_of-result : goal.invariant_of-result
invariant_of-result c =
    let past : length c.args.words.now ≤ c.loop-number.number = omega arith in
    record {
      unnamed =
          unnamed_begin c.loop-number.roots.items (sizes_of c.args.words.now c.args.spaces.now)
          (begin_end c.loop-number.roots.items c.args.words.now c.args.spaces.now c.loop-number.number past c.loop-number.invariant);
    }
