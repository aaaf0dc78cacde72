-- The word count that is built in: its files, and its checks over them.
use Rattle.std.specs.Prelude.{codes, if◌then◌else◌, ◌++◌}
use Rattle.std.specs.Str.{bytes_eq}
use Rattle.coord_modes.specs.Plan.{planned}
use Rattle.topo_forms.specs.Valid.{Validated}
use Rattle.topo_forms.specs.View.{View}
use Rattle.command_checks.specs.Script.{Bytes, Script, ◌>>=◌}
use Rattle.command_checks.specs.Checks as check

-- batches of tweets are split into words, three replicas count them, and three keep the counts
abbrev pub topology_text : Bytes
topology_text = codes "format = 1\n"
    ++ codes "[[source]]\nname = \"tweets\"\ncolumns = [\"id\", \"text\", \"batch\"]\nseal = [\"batch\"]\nto = [\"split.in\"]\n"
    ++ codes "[[component]]\nname = \"split\"\nstock = \"split\"\ncolumns = [\"id\", \"text\", \"batch\"]\nsplit = \"text\"\n"
    ++ codes "[[component]]\nname = \"count\"\nmodule = \"count.bloom\"\nreplicas = 3\n"
    ++ codes "[[component]]\nname = \"commit\"\nmodule = \"commit.bloom\"\nreplicas = 3\n"
    ++ codes "[[stream]]\nname = \"words\"\nfrom = \"split.out\"\nto = [\"count.words\"]\n"
    ++ codes "[[stream]]\nname = \"counts\"\nfrom = \"count.counts\"\nto = [\"commit.counts\"]\n"
    ++ codes "[[stream]]\nname = \"commits\"\nfrom = \"commit.commits\"\n"

-- the words of each batch are counted
abbrev pub count_text : Bytes
count_text = codes "module count_words;\ninput words(id, batch, at, word);\noutput counts(word, batch, n);\n"
    ++ codes "table seen(id, batch, at, word);\nseen <= words;\ncounts <= group(seen, [word, batch], count as n);\n"

-- the counts are kept
abbrev pub commit_text : Bytes
commit_text = codes "module commit;\ninput counts(word, batch, n);\noutput commits(word, batch, n);\n"
    ++ codes "table committed(word, batch, n);\ncommitted <= counts;\ncommits <= committed;\n"

-- the built-in files by their names: the topology, and the modules of count and of commit; it names no others
abbrev pub built_in : Bytes → Bytes
built_in name = if bytes_eq name (codes "wc.toml") then topology_text else (if bytes_eq name (codes "count.bloom") then count_text else commit_text)

-- a script over files that are all there: each read gives the bytes of the name
abbrev pub over : {A : Type 0} → (files : Bytes → Bytes) → Script A → Script A
over files (Script.gives x) = Script.gives x
over files (Script.refuses line) = Script.refuses line
over files (Script.reads name next) = over files (next (files name))

-- the topology, by the checks of one in files
unfoldable pub word_count : Script Validated
word_count = over built_in (check.valid_topology (codes "wc.toml"))

-- and under its plan
unfoldable pub planned_count : Script View
planned_count = do
  seen ← word_count
  Script.gives (planned seen.view)
