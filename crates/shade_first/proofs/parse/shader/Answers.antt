use Rattle.std.proofs.Common.{ℕ, List, subst}
use Rattle.shade_first.specs.Form.{Sequence, Lanes, Name, Body, opening, before_name, before_parameter, before_body, Shader}
use Rattle.shade_first.specs.Reads.{Reads, Faults}
use Rattle.shade_first.proofs.Errors.{errs, faults}
use Rattle.shade_first.proofs.Shaders.{opening_fails, lanes_fail, before_name_fails, name_fail, before_parameter_fails, parameter_fails, before_body_fails, body_fail, shader_reads}
use Rattle.shade_first.proofs.parse.shader.Goals as goal

pub returns-in_err-at : goal.returns-in_err-at
returns-in_err-at c = errs _ c.in_err-at.field-0.0 _ _ c.from_residual.ensures.1 (faults Shader (Sequence opening) c.args.tokens.now c.args.from c.args.from c.in_err-at.field-0.0 (λ to f. opening_fails c.args.tokens.now c.args.from c.requires.within to f) c.in_err-at.ensures)

pub returns-in_err-size : goal.returns-in_err-size
returns-in_err-size c = errs _ c.in_err-size.field-0.0 _ _ c.from_residual-in_err-size.ensures.1 (faults Shader Lanes c.args.tokens.now c.args.from c.in_ok-at.at c.in_err-size.field-0.0 (λ to f. lanes_fail c.args.tokens.now c.args.from c.requires.within c.in_ok-at.at c.in_ok-at.ensures to f) c.in_err-size.ensures)

pub returns-in_err-at-2 : goal.returns-in_err-at-2
returns-in_err-at-2 c = errs _ c.in_err-at-2.field-0.0 _ _ c.from_residual-in_err-at-2.ensures.1 (faults Shader (Sequence before_name) c.args.tokens.now c.args.from c.in_ok-size.at c.in_err-at-2.field-0.0 (λ to f. before_name_fails c.args.tokens.now c.args.from c.requires.within c.in_ok-at.at c.in_ok-at.ensures c.in_ok-size.size c.in_ok-size.at c.in_ok-size.ensures to f) c.in_err-at-2.ensures)

pub returns-in_err-name : goal.returns-in_err-name
returns-in_err-name c = errs _ c.in_err-name.field-0.0 _ _ c.from_residual-in_err-name.ensures.1 (faults Shader Name c.args.tokens.now c.args.from c.in_ok-at-2.at c.in_err-name.field-0.0 (λ to f. name_fail c.args.tokens.now c.args.from c.requires.within c.in_ok-at.at c.in_ok-at.ensures c.in_ok-size.size c.in_ok-size.at c.in_ok-size.ensures c.in_ok-at-2.at c.in_ok-at-2.ensures to f) c.in_err-name.ensures)

pub returns-in_err-at-3 : goal.returns-in_err-at-3
returns-in_err-at-3 c = errs _ c.in_err-at-3.field-0.0 _ _ c.from_residual-in_err-at-3.ensures.1 (faults Shader (Sequence before_parameter) c.args.tokens.now c.args.from c.in_ok-name.at c.in_err-at-3.field-0.0 (λ to f. before_parameter_fails c.args.tokens.now c.args.from c.requires.within c.in_ok-at.at c.in_ok-at.ensures c.in_ok-size.size c.in_ok-size.at c.in_ok-size.ensures c.in_ok-at-2.at c.in_ok-at-2.ensures c.in_ok-name.name c.in_ok-name.place c.in_ok-name.at c.in_ok-name.ensures to f) c.in_err-at-3.ensures)

pub returns-in_err-parameter : goal.returns-in_err-parameter
returns-in_err-parameter c = errs _ c.in_err-parameter.field-0.0 _ _ c.from_residual-in_err-parameter.ensures.1 (faults Shader Name c.args.tokens.now c.args.from c.in_ok-at-3.at c.in_err-parameter.field-0.0 (λ to f. parameter_fails c.args.tokens.now c.args.from c.requires.within c.in_ok-at.at c.in_ok-at.ensures c.in_ok-size.size c.in_ok-size.at c.in_ok-size.ensures c.in_ok-at-2.at c.in_ok-at-2.ensures c.in_ok-name.name c.in_ok-name.place c.in_ok-name.at c.in_ok-name.ensures c.in_ok-at-3.at c.in_ok-at-3.ensures to f) c.in_err-parameter.ensures)

pub returns-in_err-at-4 : goal.returns-in_err-at-4
returns-in_err-at-4 c = errs _ c.in_err-at-4.field-0.0 _ _ c.from_residual-in_err-at-4.ensures.1 (faults Shader (Sequence before_body) c.args.tokens.now c.args.from c.in_ok-parameter.at c.in_err-at-4.field-0.0 (λ to f. before_body_fails c.args.tokens.now c.args.from c.requires.within c.in_ok-at.at c.in_ok-at.ensures c.in_ok-size.size c.in_ok-size.at c.in_ok-size.ensures c.in_ok-at-2.at c.in_ok-at-2.ensures c.in_ok-name.name c.in_ok-name.place c.in_ok-name.at c.in_ok-name.ensures c.in_ok-at-3.at c.in_ok-at-3.ensures c.in_ok-parameter.parameter _ c.in_ok-parameter.at c.in_ok-parameter.ensures to f) c.in_err-at-4.ensures)

pub returns-in_err-items : goal.returns-in_err-items
returns-in_err-items c = errs _ c.in_err-items.field-0.0 _ _ c.from_residual-in_err-items.ensures.1 (faults Shader (Body c.in_ok-parameter.parameter 1) c.args.tokens.now c.args.from c.in_ok-at-4.at c.in_err-items.field-0.0 (λ to f. body_fail c.args.tokens.now c.args.from c.requires.within c.in_ok-at.at c.in_ok-at.ensures c.in_ok-size.size c.in_ok-size.at c.in_ok-size.ensures c.in_ok-at-2.at c.in_ok-at-2.ensures c.in_ok-name.name c.in_ok-name.place c.in_ok-name.at c.in_ok-name.ensures c.in_ok-at-3.at c.in_ok-at-3.ensures c.in_ok-parameter.parameter _ c.in_ok-parameter.at c.in_ok-parameter.ensures c.in_ok-at-4.at c.in_ok-at-4.ensures to f) (subst (λ (x : List ℕ). Faults (Body x 1) c.args.tokens.now c.in_ok-at-4.at c.in_err-items.field-0.0) c.as_slice.ensures c.in_err-items.ensures))

pub returns : goal.returns
returns c = shader_reads c.args.tokens.now c.args.from c.requires.within c.in_ok-at.at c.in_ok-at.ensures c.in_ok-size.size c.in_ok-size.at c.in_ok-size.ensures c.in_ok-at-2.at c.in_ok-at-2.ensures c.in_ok-name.name c.in_ok-name.place c.in_ok-name.at c.in_ok-name.ensures c.in_ok-at-3.at c.in_ok-at-3.ensures c.in_ok-parameter.parameter _ c.in_ok-parameter.at c.in_ok-parameter.ensures c.in_ok-at-4.at c.in_ok-at-4.ensures c.in_ok-items.items c.in_ok-items.end c.in_ok-items.next (subst (λ (x : List ℕ). Reads (Body x 1) c.args.tokens.now c.in_ok-at-4.at (c.in_ok-items.items, c.in_ok-items.end) c.in_ok-items.next) c.as_slice.ensures c.in_ok-items.ensures)
