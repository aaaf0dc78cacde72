-- Values that are lent.
use Rattle.blz_value.specs.declared.value.Value.{Value}
use Rattle.blz_value.specs.declared.value.Value.TheVariants.{Int, Text}
use Rattle.blz_set.specs.declared.value_ref.ValueRef.{ValueRef}
use Rattle.blz_set.specs.declared.value_ref.ValueRef.TheVariants.{Number, Letters}

-- the value that is lent
abbrev pub value_of : ValueRef → Value
value_of (Number n) = Int n
value_of (Letters t) = Text t.now
