-- Uses: what a rule of an output makes of a port.
use Rattle.std.specs.Prelude.{ℕ, ◌&&◌, Bool, if◌then◌else◌, Option, None, Some, List, [], ◌∷◌}
use Rattle.std.specs.List.{list_any}
use Rattle.blz_value.specs.Bits.{bit_of, meets}
use Rattle.blz_value.specs.Closure.{closure}
use Rattle.bloom_forms.specs.declared.module.Kind.TheVariants.{Table}
use Rattle.bloom_forms.specs.declared.module.Collection.{Collection}
use Rattle.bloom_forms.specs.Form.{RuleForm}
use Rattle.bloom_forms.specs.Query.{Query}
use Rattle.bloom_forms.specs.Reads.{arrows, direct, is_momentary}
use Rattle.bloom_forms.specs.KindNumbers.{numbers_of_kind}
use Rattle.bloom_forms.specs.Plain.{is_free}
use Rattle.bloom_forms.specs.declared.note.Note.{Note}
use Rattle.bloom_forms.specs.declared.note.Note.TheVariants.{CR, CW, OR, OW}
use Rattle.bloom_forms.specs.Good.{reads_good, reads_table}
use Rattle.bloom_forms.specs.Note.{combine}

-- two uses of one port, of which each may be missing
abbrev pub both_uses : Option Note → Option Note → Option Note
both_uses None b = b
both_uses (Some a) None = Some a
both_uses (Some a) (Some b) = Some (combine a b)

-- all of some uses of one port
abbrev pub all_uses : List (Option Note) → Option Note
all_uses [] = None
all_uses (note ∷ notes) = both_uses note (all_uses notes)

-- a use where the test holds
abbrev pub use_if : Bool → Note → Option Note
use_if holds note = if holds then Some note else None

-- an expression reads a port
abbrev pub reads_port : List Collection → List RuleForm → (port : ℕ) → Query → Bool
reads_port cs rules port q = meets (bit_of port) (direct cs rules q)

-- a port feeds a table: a rule of the table reads it, or reads a table that it feeds
abbrev pub feeds : List Collection → List RuleForm → (port table : ℕ) → Bool
feeds cs rules port table = meets (bit_of port) (closure (bit_of table) (arrows cs rules))

-- a port feeds a table that an expression reads
abbrev pub feeds_read : List Collection → List RuleForm → (port : ℕ) → Query → Bool
feeds_read cs rules port q = list_any (λ table. meets (bit_of table) (direct cs rules q) && feeds cs rules port table) (numbers_of_kind Table cs)

-- W, and C where a test holds, else O with a gate
abbrev pub writes : Bool → (gate : ℕ) → Note
writes confluent gate = if confluent then CW else OW (record { bits = gate })

-- a momentary rule that reads no table: the ports that it reads get CR
abbrev pub linear_use : List Collection → List RuleForm → (port : ℕ) → Query → Option Note
linear_use cs rules port q = use_if (reads_port cs rules port q) CR

-- a momentary rule that reads tables: the ports that it reads get OR with the gate; those that feed the tables get CW where these are good, else OW with the gate
abbrev pub asking_use : List Collection → List RuleForm → (good gate port : ℕ) → Query → Option Note
asking_use cs rules good gate port q = both_uses
    (use_if (reads_port cs rules port q) (OR (record { bits = gate })))
    (use_if (feeds_read cs rules port q) (writes (reads_good cs rules good q) gate))

-- a table-only rule: the ports that feed the tables that it reads get CW where it is free of group and notin and these tables are good, else OW with the gate
abbrev pub summing_use : List Collection → List RuleForm → (good gate port : ℕ) → Query → Option Note
summing_use cs rules good gate port q = use_if (feeds_read cs rules port q) (writes (is_free cs rules q && reads_good cs rules good q) gate)

-- what a rule with this body and this gate gives to a port, where these tables are good
abbrev pub use_of : List Collection → List RuleForm → (good gate port : ℕ) → Query → Option Note
use_of cs rules good gate port q =
    if is_momentary cs rules q
    then (if reads_table cs rules q then asking_use cs rules good gate port q else linear_use cs rules port q)
    else summing_use cs rules good gate port q
