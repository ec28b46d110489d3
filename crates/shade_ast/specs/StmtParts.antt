-- Parts of statements by themselves: what they spell, how many names they need, and the numbers of their nodes.
use Rattle.std.specs.Prelude.{ℕ, List}
use Rattle.shade_base.specs.declared.place.Place.{Place}
use Rattle.shade_ast.specs.declared.stmt.Arm.{Arm, fold-Arm}
use Rattle.shade_ast.specs.declared.stmt.Clause.{Clause, fold-Clause}
use Rattle.shade_ast.specs.declared.stmt.Continuing.{Continuing, fold-Continuing}
use Rattle.shade_ast.specs.declared.stmt.Otherwise.{Otherwise, fold-Otherwise}
use Rattle.shade_ast.specs.Shapes.{StmtShape, BlockShape, ArmShapes, ClauseShapes, ContinuingShape}
use Rattle.shade_ast.specs.Shaped.{clause_step, stmt_kind_step, arm_step, block_step, continuing_step, otherwise_step, stmt_step}
use Rattle.shade_ast.specs.Needs.{clause_needs, stmt_kind_needs, arm_needs, block_layer_needs, continuing_needs, otherwise_needs, stmt_layer_needs}
use Rattle.shade_ast.specs.Nodes.{clause_nodes, stmt_kind_nodes, arm_nodes, block_layer_nodes, continuing_nodes, otherwise_nodes, stmt_layer_nodes}

-- clauses and arms are spelled before others
abbrev pub clause_shaped : List (List ℕ) → Clause → ClauseShapes → ClauseShapes
clause_shaped names = fold-Clause (ClauseShapes → ClauseShapes) (Place → StmtShape) (ArmShapes → ArmShapes) BlockShape ContinuingShape ArmShapes StmtShape (clause_step names) (stmt_kind_step names) (arm_step names) (block_step names) (continuing_step names) otherwise_step stmt_step

abbrev pub arm_shaped : List (List ℕ) → Arm → ArmShapes → ArmShapes
arm_shaped names = fold-Arm (ClauseShapes → ClauseShapes) (Place → StmtShape) (ArmShapes → ArmShapes) BlockShape ContinuingShape ArmShapes StmtShape (clause_step names) (stmt_kind_step names) (arm_step names) (block_step names) (continuing_step names) otherwise_step stmt_step

abbrev pub continuing_shaped : List (List ℕ) → Continuing → ContinuingShape
continuing_shaped names = fold-Continuing (ClauseShapes → ClauseShapes) (Place → StmtShape) (ArmShapes → ArmShapes) BlockShape ContinuingShape ArmShapes StmtShape (clause_step names) (stmt_kind_step names) (arm_step names) (block_step names) (continuing_step names) otherwise_step stmt_step

abbrev pub otherwise_shaped : List (List ℕ) → Otherwise → ArmShapes
otherwise_shaped names = fold-Otherwise (ClauseShapes → ClauseShapes) (Place → StmtShape) (ArmShapes → ArmShapes) BlockShape ContinuingShape ArmShapes StmtShape (clause_step names) (stmt_kind_step names) (arm_step names) (block_step names) (continuing_step names) otherwise_step stmt_step

abbrev pub clause_count : Clause → ℕ
clause_count = fold-Clause ℕ ℕ ℕ ℕ ℕ ℕ ℕ clause_needs stmt_kind_needs arm_needs block_layer_needs continuing_needs otherwise_needs stmt_layer_needs

abbrev pub arm_count : Arm → ℕ
arm_count = fold-Arm ℕ ℕ ℕ ℕ ℕ ℕ ℕ clause_needs stmt_kind_needs arm_needs block_layer_needs continuing_needs otherwise_needs stmt_layer_needs

abbrev pub continuing_count : Continuing → ℕ
continuing_count = fold-Continuing ℕ ℕ ℕ ℕ ℕ ℕ ℕ clause_needs stmt_kind_needs arm_needs block_layer_needs continuing_needs otherwise_needs stmt_layer_needs

abbrev pub otherwise_count : Otherwise → ℕ
otherwise_count = fold-Otherwise ℕ ℕ ℕ ℕ ℕ ℕ ℕ clause_needs stmt_kind_needs arm_needs block_layer_needs continuing_needs otherwise_needs stmt_layer_needs

abbrev pub clause_numbers : Clause → List ℕ
clause_numbers = fold-Clause (List ℕ) (List ℕ) (List ℕ) (List ℕ) (List ℕ) (List ℕ) (List ℕ) clause_nodes stmt_kind_nodes arm_nodes block_layer_nodes continuing_nodes otherwise_nodes stmt_layer_nodes

abbrev pub arm_numbers : Arm → List ℕ
arm_numbers = fold-Arm (List ℕ) (List ℕ) (List ℕ) (List ℕ) (List ℕ) (List ℕ) (List ℕ) clause_nodes stmt_kind_nodes arm_nodes block_layer_nodes continuing_nodes otherwise_nodes stmt_layer_nodes

abbrev pub continuing_numbers : Continuing → List ℕ
continuing_numbers = fold-Continuing (List ℕ) (List ℕ) (List ℕ) (List ℕ) (List ℕ) (List ℕ) (List ℕ) clause_nodes stmt_kind_nodes arm_nodes block_layer_nodes continuing_nodes otherwise_nodes stmt_layer_nodes

abbrev pub otherwise_numbers : Otherwise → List ℕ
otherwise_numbers = fold-Otherwise (List ℕ) (List ℕ) (List ℕ) (List ℕ) (List ℕ) (List ℕ) (List ℕ) clause_nodes stmt_kind_nodes arm_nodes block_layer_nodes continuing_nodes otherwise_nodes stmt_layer_nodes
