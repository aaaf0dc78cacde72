-- The key under which tables hash is a digest of records: other records give another key.
use Rattle.std.specs.Prelude.{ℕ, List}
use Rattle.std.specs.Hash.{u64}
use Rattle.std.specs.Hash.DefaultHasher as sip
use Rattle.std.specs.Hash.FoldHasher as folding
use Rattle.std.specs.List.{flat_map, fold}
use Rattle.blz_value.specs.Hash.{row_writes}
use Rattle.blz_value.specs.Record.{Row}
use Rattle.blz_value.specs.declared.hash_key.HashKey.{HashKey}

-- the key of no records
abbrev pub first_key : HashKey
first_key = record { hasher = folding.initial }

-- the SipHash of a key and of the hashes of some records
abbrev pub digest : HashKey → List Row → ℕ
digest key rows = sip.finish (fold sip.write (fold sip.write sip.initial (u64 (folding.finish key.hasher))) (flat_map row_writes rows))

-- the key of the records of a key and of more behind them
abbrev pub key_with : HashKey → List Row → HashKey
key_with key rows = record { hasher = fold folding.write folding.initial (u64 (digest key rows)) }
