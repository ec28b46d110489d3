use Rattle.std.proofs.Common.{map}
use Rattle.shade_values.specs.declared.types.Scalar.TheVariants.{Bool}
use Rattle.shade_values.specs.declared.types.ShadeType.TheVariants as type
use Rattle.shade_core.specs.Code.{Atomic, Barrier, Break, Continue, Declare, Length, Load, Return, Set, Store, UniformLoad}
use Rattle.shade_core.specs.Fits.{IsBarrierSpace}
use Rattle.shade_core.specs.Standing.{branches, calls, case_of, does, jumps, loops, switches}
use Rattle.shade_typed.specs.Contexts.{fit_in}
use Rattle.shade_typed.specs.Fitting.{Declares, Returns, Stores, Switches}
use Rattle.shade_typed.specs.Places.{HasType}
use Rattle.shade_typed.proofs.ActLaws.{by_head, by_head_ok, nothing_alone, nothing_as, nothing_asked, head_Atomic, head_Barrier, head_Break, head_Call, head_Continue, head_Declare, head_If, head_Length, head_Load, head_Loop, head_Return, head_Set, head_Store, head_Switch, head_UniformLoad}
use Rattle.shade_typed.proofs.acts.act_fit.Goals as goal

pub returns-in-Set-clause-fit : goal.returns-in-Set-clause-fit
returns-in-Set-clause-fit c = by_head_ok c.args.context.now c.args.act.now (does (Set c.in-Set.op c.in-Set.args)) c.set_fit.result (head_Set c.args.act.now c.in-Set.op c.in-Set.args c.in-Set.is) (rw c.as_slice.ensures at c.set_fit.ensures.fit)

pub returns-in-Atomic-clause-fit : goal.returns-in-Atomic-clause-fit
returns-in-Atomic-clause-fit c = by_head_ok c.args.context.now c.args.act.now (does (Atomic c.in-Atomic.op c.in-Atomic.view c.in-Atomic.args)) c.atomic_fit.result (head_Atomic c.args.act.now c.in-Atomic.op c.in-Atomic.view c.in-Atomic.args c.in-Atomic.is) (rw c.as_slice-in-Atomic.ensures at c.atomic_fit.ensures.fit)

pub returns-in-Call-clause-fit : goal.returns-in-Call-clause-fit
returns-in-Call-clause-fit c = by_head c.args.context.now c.args.act.now (calls c.in-Call.function c.in-Call.args) (fit_in c.call_fit-fit.result) (head_Call c.args.act.now c.in-Call.function c.in-Call.args c.in-Call.is) (rw c.as_slice-in-Call.ensures at c.call_fit-fit.ensures.fit)

pub returns-in-Load-clause-fit : goal.returns-in-Load-clause-fit
returns-in-Load-clause-fit c = by_head c.args.context.now c.args.act.now (does (Load c.in-Load.view)) (fit_in c.load_fit-fit.result) (head_Load c.args.act.now c.in-Load.view c.in-Load.is) c.load_fit-fit.ensures.fit

pub returns-in-UniformLoad-clause-fit : goal.returns-in-UniformLoad-clause-fit
returns-in-UniformLoad-clause-fit c = by_head c.args.context.now c.args.act.now (does (UniformLoad c.in-UniformLoad.view c.in-UniformLoad.severity)) (fit_in c.uniform_load_fit-fit.result) (head_UniformLoad c.args.act.now c.in-UniformLoad.view c.in-UniformLoad.severity c.in-UniformLoad.is) (c.uniform_load_fit-fit.ensures.fit c.in-UniformLoad.severity)

pub returns-in-Length-clause-fit : goal.returns-in-Length-clause-fit
returns-in-Length-clause-fit c = by_head c.args.context.now c.args.act.now (does (Length c.in-Length.view)) (fit_in c.length_fit-fit.result) (head_Length c.args.act.now c.in-Length.view c.in-Length.is) c.length_fit-fit.ensures.fit

pub returns-in-Declare-clause-fit : goal.returns-in-Declare-clause-fit
returns-in-Declare-clause-fit c = by_head c.args.context.now c.args.act.now (does (Declare c.in-Declare.local c.in-Declare.value)) (fit_in c.nothing-fit.result) (head_Declare c.args.act.now c.in-Declare.local c.in-Declare.value c.in-Declare.is) (nothing_as c.declares.result (Declares c.args.context.now c.in-Declare.local c.in-Declare.value) (fit_in c.nothing-fit.result) c.declares.ensures c.nothing-fit.ensures.fit)

pub returns-in-Store-clause-fit : goal.returns-in-Store-clause-fit
returns-in-Store-clause-fit c = by_head c.args.context.now c.args.act.now (does (Store c.in-Store.view c.in-Store.value)) (fit_in c.nothing-fit-in-Store.result) (head_Store c.args.act.now c.in-Store.view c.in-Store.value c.in-Store.is) (nothing_as c.stores.result (Stores c.args.context.now c.in-Store.view c.in-Store.value) (fit_in c.nothing-fit-in-Store.result) c.stores.ensures c.nothing-fit-in-Store.ensures.fit)

pub returns-in-Barrier-clause-fit : goal.returns-in-Barrier-clause-fit
returns-in-Barrier-clause-fit c = by_head c.args.context.now c.args.act.now (does (Barrier c.in-Barrier.space c.in-Barrier.severity)) (fit_in c.nothing-fit-in-Barrier.result) (head_Barrier c.args.act.now c.in-Barrier.space c.in-Barrier.severity c.in-Barrier.is) (nothing_as c.is_barrier_space.result (IsBarrierSpace c.in-Barrier.space) (fit_in c.nothing-fit-in-Barrier.result) c.is_barrier_space.ensures c.nothing-fit-in-Barrier.ensures.fit)

pub returns-in-If-clause-fit : goal.returns-in-If-clause-fit
returns-in-If-clause-fit c = by_head c.args.context.now c.args.act.now (branches c.in-If.cond) (fit_in c.nothing-fit-in-If.result) (head_If c.args.act.now c.in-If.cond c.in-If.yes c.in-If.no c.in-If.is) (nothing_as c.is_truth.result (HasType c.args.context.now c.in-If.cond (type.Plain Bool)) (fit_in c.nothing-fit-in-If.result) c.is_truth.ensures c.nothing-fit-in-If.ensures.fit)

pub returns-in-Switch-clause-fit : goal.returns-in-Switch-clause-fit
returns-in-Switch-clause-fit c = by_head c.args.context.now c.args.act.now (switches c.in-Switch.selector (map case_of c.in-Switch.parts)) (fit_in c.nothing-fit-in-Switch.result) (head_Switch c.args.act.now c.in-Switch.selector c.in-Switch.parts c.in-Switch.is) (nothing_as c.switches.result (Switches c.args.context.now c.in-Switch.selector (map case_of c.in-Switch.parts)) (fit_in c.nothing-fit-in-Switch.result) (rw c.as_slice-in-Switch.ensures at c.switches.ensures) c.nothing-fit-in-Switch.ensures.fit)

pub returns-in-Return-clause-fit : goal.returns-in-Return-clause-fit
returns-in-Return-clause-fit c = by_head c.args.context.now c.args.act.now (jumps (Return c.in-Return.value)) (fit_in c.nothing-fit-in-Return.result) (head_Return c.args.act.now c.in-Return.value c.in-Return.is) (nothing_as c.returns.result (Returns c.args.context.now c.in-Return.value) (fit_in c.nothing-fit-in-Return.result) c.returns.ensures c.nothing-fit-in-Return.ensures.fit)

pub returns-in-Loop-clause-fit : goal.returns-in-Loop-clause-fit
returns-in-Loop-clause-fit c = by_head c.args.context.now c.args.act.now (loops c.in-Loop.leave) (fit_in c.nothing-fit-in-Loop.result) (head_Loop c.args.act.now c.in-Loop.body c.in-Loop.continuing c.in-Loop.leave c.in-Loop.is) (nothing_alone (fit_in c.nothing-fit-in-Loop.result) c.nothing-fit-in-Loop.ensures.fit)

pub returns-in-Break-clause-fit : goal.returns-in-Break-clause-fit
returns-in-Break-clause-fit c = by_head c.args.context.now c.args.act.now (jumps Break) (fit_in c.nothing-fit-in-Break.result) (head_Break c.args.act.now c.in-Break.is) (nothing_asked (fit_in c.nothing-fit-in-Break.result) c.nothing-fit-in-Break.ensures.fit)

pub returns-in-Continue-clause-fit : goal.returns-in-Continue-clause-fit
returns-in-Continue-clause-fit c = by_head c.args.context.now c.args.act.now (jumps Continue) (fit_in c.nothing-fit-in-Continue.result) (head_Continue c.args.act.now c.in-Continue.is) (nothing_asked (fit_in c.nothing-fit-in-Continue.result) c.nothing-fit-in-Continue.ensures.fit)
