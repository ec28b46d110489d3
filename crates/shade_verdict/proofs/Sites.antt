-- What is asked for is control before a statement, and that statement alone asks for it.
use Rattle.std.proofs.Common.{◌≡◌, refl, sym, ap, subst, ◌∙◌, ℕ, ◌<◌, arith}
use Rattle.shade_base.specs.declared.severity.Severity.{Severity}
use Rattle.shade_core.specs.declared.module.CoreFunction.{CoreFunction}
use Rattle.shade_core.specs.Code.{Code, code_of}
use Rattle.shade_graph.specs.declared.node.Node.{Node}
use Rattle.shade_graph.specs.declared.node.Node.TheVariants.{Required, Start, Before}
use Rattle.shade_graph.specs.Order.{first_key, severity_rank}
use Rattle.shade_graph.specs.Graph
use Rattle.shade_graph.specs.Graph.{Row, Stands, IsNode, Gives, Edge}
use Rattle.shade_verdict.specs.Violations.{IsSite}

required_row : (a : Node) (c : Code) (s : ℕ) (severity : Severity) (v : Node) → Row a c s (Required severity) v → v ≡ Before s
required_row a _ s severity v (Graph.plain_row Graph.barrier_required) = refl
required_row a _ s severity v (Graph.plain_rest h) = required_row _ _ s severity v h
required_row a _ s severity v (Graph.branch_in_one h) = required_row _ _ s severity v h
required_row a _ s severity v (Graph.branch_in_two h) = required_row _ _ s severity v h
required_row a _ s severity v (Graph.branch_rest next h) = required_row _ _ s severity v h

-- which statement asks
pub asked_before : (f : CoreFunction) (severity : Severity) (v : Node) → Edge f (Required severity) v → (s : ℕ) × (v ≡ Before s) × Gives f s (Required severity) v
asked_before f severity v (Graph.given {s = s} g) = (s, required_row Start (code_of f.body) s severity v g.row, g)

same_statement : (v : Node) (s n : ℕ) → v ≡ Before s → v ≡ Before n → s ≡ n
same_statement v s n p q = ap first_key (sym p ∙ q)

pub site_is : (f : CoreFunction) (severity : Severity) (v : Node) (n : ℕ) → Edge f (Required severity) v → v ≡ Before n → IsSite f (Required severity) v n
site_is f severity v n e at =
    let asked = asked_before f severity v e in
    record {
      gives = subst (λ (s : ℕ). Gives f s (Required severity) v) (same_statement v asked.0 n asked.1 at) asked.2;
      least = λ other g. (let same : other ≡ n = same_statement v other n (required_row Start (code_of f.body) other severity v g.row) at in omega (arith, same));
    }

stands_not_required : (c : Code) (severity : Severity) → Stands c (Required severity) → ⊥
stands_not_required _ severity (Graph.plain_stands_rest h) = stands_not_required _ severity h
stands_not_required _ severity (Graph.branch_stands_in_one h) = stands_not_required _ severity h
stands_not_required _ severity (Graph.branch_stands_in_two h) = stands_not_required _ severity h
stands_not_required _ severity (Graph.branch_stands_rest next h) = stands_not_required _ severity h

-- nothing is asked for with the severity Off
pub required_rank : (f : CoreFunction) (severity : Severity) → IsNode f (Required severity) → severity_rank severity < 3
required_rank f _ Graph.required_error = omega arith
required_rank f _ Graph.required_warning = omega arith
required_rank f _ Graph.required_info = omega arith
required_rank f severity (Graph.of_statement h) = absurd (stands_not_required (code_of f.body) severity h)
