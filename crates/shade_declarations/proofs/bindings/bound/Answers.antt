use Rattle.shade_declarations.proofs.Declaring.{bound_so, bound_of_type, given_is_of}
use Rattle.shade_declarations.proofs.bindings.bound.Goals as goal

pub returns-in-Some-clause-answer : goal.returns-in-Some-clause-answer
returns-in-Some-clause-answer c =
    bound_so c.args.known.now c.args.value c.args.to c.in-Some.ty c.converted.result c.bound_found.result c.in-Some.is c.converted.ensures c.bound_found.ensures

pub returns-in-Some-clause-of : goal.returns-in-Some-clause-of
returns-in-Some-clause-of c =
    bound_of_type c.args.known.now.types c.in-Some.ty c.converted.result c.bound_found.result
    (given_is_of c.args.known.now.types c.args.to c.in-Some.ty c.in-Some.is c.requires) c.bound_found.ensures
