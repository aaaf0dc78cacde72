-- the values so far
use Rattle.std.proofs.Common.{◌≡◌, ◌++◌, take, codes}
use Rattle.std.specs.List.{flat_map}
use Rattle.blz_value.specs.Text.{value_text, BeginsWith}
use Rattle.blz_value.proofs.write.push_later_values.Given as goal

abbrev pub invariant-loop-value : goal.invariant-loop-value
invariant-loop-value l = record {
  written : l.into.items ≡ l.initial.into.items ++ flat_map (λ value. codes ", " ++ value_text value) (take l.value-index l.values);
  begins : BeginsWith l.initial.into.items l.into.items;
}
