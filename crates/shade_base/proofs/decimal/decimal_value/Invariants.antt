use Rattle.std.proofs.Common.{◌≡◌, ◌<◌, ◌^◌, drop}
use Rattle.std.specs.Str.{all_ascii_digits}
use Rattle.shade_base.proofs.Numbers.{read_on}
use Rattle.shade_base.proofs.decimal.decimal_value.Given as goal

abbrev pub invariant-digits : goal.invariant-digits
invariant-digits l = record {
  value : read_on l.value (drop l.byte-index l.text) ≡ read_on 0 l.text;
  small : l.value < 2 ^ 32;
  digits : all_ascii_digits (drop l.byte-index l.text) ≡ all_ascii_digits l.text;
}
