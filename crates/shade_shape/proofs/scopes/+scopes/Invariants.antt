use Rattle.std.proofs.Common.{◌≡◌, ◌≤◌, drop, map, take, length}
use Rattle.shade_core.specs.Code.{code_of, part_code, parts_from}
use Rattle.shade_core.specs.Scopes.{in_scope}
use Rattle.shade_shape.proofs.scopes.+scopes.Given as goal

abbrev pub invariant-list_in_scope-statements : goal.invariant-list_in_scope-statements
invariant-list_in_scope-statements l = record {
  tells : in_scope l.seen (code_of (drop l.statement-index l.statement-items)) ≡ in_scope l.initial.seen (code_of l.statement-items);
  count : l.count ≡ length l.initial.seen;
  front : take l.count l.seen ≡ l.initial.seen;
  long : l.count ≤ length l.seen;
}

abbrev pub invariant-parts_in_scope-parts : goal.invariant-parts_in_scope-parts
invariant-parts_in_scope-parts l = record {
  tells : in_scope l.initial.seen (parts_from 0 0 (map part_code (drop l.part-index l.part-items))) ≡ in_scope l.initial.seen (parts_from 0 0 (map part_code l.part-items));
  same : l.seen ≡ l.initial.seen;
}
