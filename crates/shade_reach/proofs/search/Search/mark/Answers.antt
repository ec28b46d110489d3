use Rattle.std.proofs.Common.{sym, ◌∙◌, arith}
use Rattle.std.proofs.lemmas.Option.{slice_get_read}
use Rattle.shade_reach.proofs.SearchLaws.{marked_already, marked_now}
use Rattle.shade_reach.proofs.search.Search.mark.Goals as goal

pub returns-then-is_some : goal.returns-then-is_some
returns-then-is_some c =
    let distances = c.args.self.now.distances in
    marked_already distances.items c.args.self.now.found.items c.args.node c.args.distance c.index.result.now
    (slice_get_read distances.items distances.len c.args.node c.index.result.now (omega (arith, distances.ok.0)) c.requires c.index.ensures) (sym c.is_some.ensures ∙ c.if-is_some.true)

pub returns : goal.returns
returns c =
    let distances = c.args.self.now.distances in
    marked_now distances.items c.args.self.now.found.items c.push.new.self.items c.args.node c.args.distance c.index.result.now
    (slice_get_read distances.items distances.len c.args.node c.index.result.now (omega (arith, distances.ok.0)) c.requires c.index.ensures) (sym c.is_some.ensures ∙ c.if-is_some.false)
    c.in_ok-push.ensures.items
