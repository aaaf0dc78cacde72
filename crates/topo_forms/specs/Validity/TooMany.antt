-- The kind TooMany: a part with which a count passes its limit. No other kind is asked before it.
use Rattle.std.specs.Prelude.{ℕ, ℤ, pos, negsuc, ◌+◌, ◌==◌, ◌||◌, ◌&&◌, not, Bool, false, nat_lt, nat_le, List, [], length, take, sum_by}
use Rattle.std.specs.List.{list_any}
use Rattle.bloom_forms.specs.Query.{Name}
use Rattle.topo_forms.specs.declared.topology.SourceEntry.{SourceEntry}
use Rattle.topo_forms.specs.declared.topology.Side.{Side}
use Rattle.topo_forms.specs.Attributes.{with_columns, side_columns}
use Rattle.topo_forms.specs.Sites.{Site, attributes_in}
use Rattle.topo_forms.specs.ViewOf.{count_from}

-- more than eight columns
abbrev pub is_wide : List Name → Bool
is_wide columns = nat_lt 8 (length columns)

-- a port or an output with more than eight columns
abbrev pub has_wide : List Side → Bool
has_wide sides = list_any (λ s. is_wide s.columns) sides

-- more than eight ports or outputs
abbrev pub are_many : List Side → Bool
are_many sides = nat_lt 8 (length sides)

-- the columns bring the attributes so far above 64
abbrev pub passes_attributes : List Name → List Name → Bool
passes_attributes attributes columns = nat_lt 64 (length (with_columns attributes columns))

-- one to eight replicas
abbrev pub is_replica_count : ℤ → Bool
is_replica_count (pos n) = nat_le 1 n && nat_le n 8
is_replica_count (negsuc n) = false

-- how many replicas some components have
abbrev pub replica_sum : List Site → ℕ
replica_sum sites = sum_by (λ site. count_from site.entry.replicas) sites

-- the 65th source; more than eight columns; the 65th attribute
abbrev pub too_many_source : (attributes : List Name) → ℕ → SourceEntry → Bool
too_many_source attributes i s = i == 64 || (is_wide s.columns || passes_attributes attributes s.columns)

-- a port or output of more than eight columns; the 33rd component; fewer than one replica or more than eight; more than eight ports or outputs; the replicas so far above 64; the 65th attribute
abbrev pub too_many_component : (attributes : List Name) → (replicas : ℕ) → ℕ → Site → Bool
too_many_component attributes replicas i site =
    has_wide site.ports || (has_wide site.outputs
    || (i == 32
    || (not (is_replica_count site.entry.replicas)
    || (are_many site.ports || (are_many site.outputs
    || (nat_lt 64 (replicas + count_from site.entry.replicas)
    || passes_attributes attributes (side_columns site.ports)))))))

-- the stream brings the sources and the streams so far above 64
abbrev pub too_many_stream : (sources : ℕ) → ℕ → Bool
too_many_stream sources i = nat_lt 64 (sources + i + 1)

-- the 65th dependency
abbrev pub too_many_fd : ℕ → Bool
too_many_fd i = i == 64

-- ---- by their numbers among all

-- the source with a number, after the attributes of those before it
abbrev pub large_source : List SourceEntry → ℕ → SourceEntry → Bool
large_source sources i s = too_many_source (attributes_in (take i sources) []) i s

-- the component with a number, after the attributes and the replicas of those before it
abbrev pub large_component : List SourceEntry → List Site → ℕ → Site → Bool
large_component sources sites i site = too_many_component (attributes_in sources (take i sites)) (replica_sum (take i sites)) i site
