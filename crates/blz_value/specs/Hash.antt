-- What a hasher is fed of a value and of a record: of a record 8 bytes, its own hash.
use Rattle.std.specs.Prelude.{ℕ, ◌+◌, ◌*◌, ◌^◌}
use Rattle.std.specs.Int.{cast_unsigned, w64}
use Rattle.std.specs.Hash.{HashWrites, str, u64, u128}
use Rattle.std.specs.Hash.DefaultHasher as sip
use Rattle.std.specs.List.{flat_map, fold}
use Rattle.blz_value.specs.declared.value.Value.{Value}
use Rattle.blz_value.specs.declared.value.Value.TheVariants.{Int, Text}
use Rattle.blz_value.specs.Record.{Row}

-- a number as 16 bytes: 0xFE, which no UTF-8 has, seven of 0, and its own 8 bytes; a text as its bytes and 0xFF
abbrev pub value_writes : Value → HashWrites
value_writes (Int n) = u128 (2 ^ 64 * cast_unsigned w64 n + 254)
value_writes (Text bytes) = str bytes

-- a record, value by value
abbrev pub record_writes : Row → HashWrites
record_writes row = flat_map value_writes row

-- the hash of a record, by SipHash
abbrev pub row_hash : Row → ℕ
row_hash row = sip.finish (fold sip.write sip.initial (record_writes row))

-- what a table is fed of a record: the 8 bytes of its hash
abbrev pub row_writes : Row → HashWrites
row_writes row = u64 (row_hash row)
