use Rattle.std.proofs.lemmas.Result.{IfOk-weaker}
use Rattle.shade_chains.proofs.KeepLaws.{none_cyclic, some_acyclic}
use Rattle.shade_chains.proofs.keeps.order_of_calls.Goals as goal

pub returns-clause-cyclic : goal.returns-clause-cyclic
returns-clause-cyclic c = IfOk-weaker c.order_of.result _ _ (λ found h. none_cyclic c.args.module.now _ c.requires.events _ found h) c.order_of.ensures

pub returns-clause-acyclic : goal.returns-clause-acyclic
returns-clause-acyclic c = IfOk-weaker c.order_of.result _ _ (λ found h. some_acyclic c.args.module.now _ c.requires.events (λ order. order.items) found h) c.order_of.ensures
