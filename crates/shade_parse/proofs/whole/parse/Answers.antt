use Rattle.shade_parse.proofs.WholeLaws.{refusal_told, tree_told}
use Rattle.shade_parse.proofs.whole.parse.Goals as goal

pub tree-requires : goal.tree-requires
tree-requires c = rw c.deref.ensures.value c.in-Ok.ensures.few

pub returns-in-Ok-tree : goal.returns-in-Ok-tree
returns-in-Ok-tree c = tree_told _ _ _ _ _ c.deref.ensures.value c.in-Ok.ensures.are _ c.in-Ok-tree.ensures

pub returns : goal.returns
returns c = refusal_told _ _ _ _ _ c.deref.ensures.value c.in-Ok.ensures.are _ _ c.fault_of.ensures c.in-Err.ensures
