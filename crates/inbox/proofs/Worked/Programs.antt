-- The programs of the worked files, and short words for their rows.
use Rattle.std.proofs.Common.{ℕ, pos, List, [], ◌∷◌, codes, map, Option, Some, None, true, false}
use Rattle.std.specs.List.{range_with_len}
use Rattle.blz_value.specs.declared.value.Value.{Value}
use Rattle.blz_value.specs.declared.value.Value.TheVariants.{Int}
use Rattle.blz_value.specs.declared.test.Op.TheVariants.{Lt}
use Rattle.blz_value.specs.Record.{Row}
use Rattle.blz_value.specs.declared.attrs.Attrs.{Attrs}
use Rattle.bloom_forms.specs.declared.module.Kind.TheVariants.{Input, Output, Table, Scratch}
use Rattle.bloom_forms.specs.declared.expr.NamedAgg.TheVariants.{Count}
use Rattle.bloom_forms.specs.declared.expr.Term.TheVariants.{Column, Literal}
use Rattle.bloom_forms.specs.declared.program.Program.{Program}
use Rattle.bloom_forms.specs.declared.program.Program.TheVariants.{Module, Split, Latest, Number}
use Rattle.bloom_forms.specs.Form.{Form}
use Rattle.bloom_forms.specs.Query.{Name}
use Rattle.bloom_forms.specs.Query.Formula.{compare}
use Rattle.bloom_forms.specs.Query.Query.{base, select, join, group}
use Rattle.topo_forms.specs.Feeds.{Feed}
use Rattle.topo_forms.specs.View.{End, Stream}
use Rattle.inbox.specs.Instances.{PortKey}
use Rattle.inbox.specs.Events.{Part, Event, deliver}

-- ---- rows

abbrev pub int : ℕ → Value
int n = Int (pos n)

abbrev pub one_of : Value → Row
one_of a = a ∷ []

abbrev pub two_of : Value → Value → Row
two_of a b = a ∷ b ∷ []

abbrev pub three_of : Value → Value → Value → Row
three_of a b c = a ∷ b ∷ c ∷ []

abbrev pub four_of : Value → Value → Value → Value → Row
four_of a b c d = a ∷ b ∷ c ∷ d ∷ []

-- ---- parts of instances, and events

-- a set of one attribute
abbrev pub just : ℕ → Attrs
just bits = record { bits = bits }

-- a source of records with the attributes 0, 1, .., and the stream of the one output of a component
abbrev pub source : (width : ℕ) → Option Attrs → List End → Stream
source width key to = record { name = []; origin = None; columns = map Some (range_with_len 0 width); key = key; to = to }

abbrev pub made_by : (component : ℕ) → List End → Stream
made_by component to = record { name = []; origin = Some (component, 0); columns = []; key = None; to = to }

-- a port that carries the key, and one that doesn't, where the key has these places
abbrev pub carrying : List ℕ → PortKey
carrying places = record { places = Some places; carries = true }

abbrev pub plain : Option (List ℕ) → PortKey
plain places = record { places = places; carries = false }

-- the one sending replica of a stream, at a port
abbrev pub feed : (port stream : ℕ) → Feed
feed port stream = record { port = port; stream = stream; sender = 0 }

-- a message of the one sending replica of a stream goes to a port
abbrev pub part : (stream index port : ℕ) → Part
part stream index port = record { sent = record { stream = stream; replica = 0; index = index }; port = port }

-- it goes to the one replica of a component
abbrev pub send : (stream index component port : ℕ) → Event
send stream index component port = deliver (part stream index port) component 0

-- ---- tally

abbrev clicks : Name
clicks = codes "clicks"

abbrev seen : Name
seen = codes "seen"

abbrev sums : Name
sums = codes "sums"

abbrev campaign : Name
campaign = codes "campaign"

abbrev id : Name
id = codes "id"

abbrev n : Name
n = codes "n"

abbrev tally_form : Form
tally_form = record {
  name = codes "tally";
  collections =
      record { kind = Input; name = clicks; columns = campaign ∷ id ∷ [] }
      ∷ record { kind = Table; name = seen; columns = campaign ∷ id ∷ [] }
      ∷ record { kind = Output; name = sums; columns = campaign ∷ n ∷ [] }
      ∷ [];
  rules = (seen, base clicks) ∷ (sums, group (base seen) (campaign ∷ []) Count n) ∷ [];
}

abbrev pub tally : Program
tally = Module (record { form = tally_form; heads = 1 ∷ 2 ∷ [] })

-- ---- campaign

abbrev requests : Name
requests = codes "requests"

abbrev response : Name
response = codes "response"

abbrev poor : Name
poor = codes "poor"

abbrev report_form : Form
report_form = record {
  name = codes "report";
  collections =
      record { kind = Input; name = clicks; columns = campaign ∷ id ∷ codes "uid" ∷ [] }
      ∷ record { kind = Input; name = requests; columns = id ∷ campaign ∷ [] }
      ∷ record { kind = Output; name = response; columns = id ∷ campaign ∷ n ∷ [] }
      ∷ record { kind = Table; name = seen; columns = campaign ∷ id ∷ codes "uid" ∷ [] }
      ∷ record { kind = Scratch; name = poor; columns = id ∷ campaign ∷ n ∷ [] }
      ∷ [];
  rules =
      (seen, base clicks)
      ∷ (poor, select (group (base seen) (id ∷ campaign ∷ []) Count n) (compare (Column n) Lt (Literal (int 100))))
      ∷ (response, join (base requests) (base poor) ((id, id) ∷ (campaign, campaign) ∷ []))
      ∷ [];
}

abbrev pub report : Program
report = Module (record { form = report_form; heads = 3 ∷ 4 ∷ 2 ∷ [] })

-- ---- stock bodies

abbrev pub latest : Program
latest = Latest (codes "word" ∷ n ∷ []) (0 ∷ [])

abbrev pub number : Program
number = Number (codes "x" ∷ [])

-- ---- word count

abbrev words : Name
words = codes "words"

abbrev counts : Name
counts = codes "counts"

abbrev counted : List Name
counted = codes "word" ∷ codes "batch" ∷ n ∷ []

abbrev worded : List Name
worded = id ∷ codes "batch" ∷ codes "at" ∷ codes "word" ∷ []

abbrev count_form : Form
count_form = record {
  name = codes "count_words";
  collections =
      record { kind = Input; name = words; columns = worded }
      ∷ record { kind = Output; name = counts; columns = counted }
      ∷ record { kind = Table; name = seen; columns = worded }
      ∷ [];
  rules = (seen, base words) ∷ (counts, group (base seen) (codes "word" ∷ codes "batch" ∷ []) Count n) ∷ [];
}

abbrev commit_form : Form
commit_form = record {
  name = codes "commit";
  collections =
      record { kind = Input; name = counts; columns = counted }
      ∷ record { kind = Output; name = codes "commits"; columns = counted }
      ∷ record { kind = Table; name = codes "committed"; columns = counted }
      ∷ [];
  rules = (codes "committed", base counts) ∷ (codes "commits", base (codes "committed")) ∷ [];
}

abbrev pub split : Program
split = Split (id ∷ codes "text" ∷ codes "batch" ∷ []) 1

abbrev pub count : Program
count = Module (record { form = count_form; heads = 2 ∷ 1 ∷ [] })

abbrev pub commit : Program
commit = Module (record { form = commit_form; heads = 2 ∷ 1 ∷ [] })
