-- The key under which tables hash what sources hold comes from all records and partitions.
use Rattle.std.specs.List.{fold}
use Rattle.blz_value.specs.HashKey.{first_key, key_with}
use Rattle.blz_value.specs.declared.hash_key.HashKey.{HashKey}
use Rattle.topo_forms.specs.Data.{Data, SourceData}

-- a key with what one source more holds
abbrev pub with_held : HashKey → SourceData → HashKey
with_held key held = key_with (key_with key held.rows) held.parts

-- the key of what all sources hold
abbrev pub hash_key_of : Data → HashKey
hash_key_of sources = fold with_held first_key sources
