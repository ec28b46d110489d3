use Rattle.shade_scope.proofs.IndexLaws.{kept_more, mapped_more}
use Rattle.shade_scope.proofs.scopes.keep.Goals as goal

pub returns-clause-indexed : goal.returns-clause-indexed
returns-clause-indexed c = kept_more _ _ c.args.bound _ _ _ _ _ c.requires c.as_slice.ensures c.before-before.ensures c.in_ok-push.ensures.ok c.len-place.ensures c.put.ensures

pub returns-clause-bounds : goal.returns-clause-bounds
returns-clause-bounds c = mapped_more _ _ _ c.in_ok-push.ensures.ok
