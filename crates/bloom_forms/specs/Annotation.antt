-- The roots, the gate and the notes of a program's outputs: of a module by its rules, of each stock body as it is.
use Rattle.std.specs.Prelude.{ℕ, ◌==◌, if◌then◌else◌, Option, None, Some, List, [], ◌∷◌, ◌++◌, map, length, slice_index_or}
use Rattle.std.specs.List.{list_any, enumerate_from, range_with_len, remove}
use Rattle.blz_value.specs.Names.{place_of}
use Rattle.bloom_forms.specs.declared.module.Kind.TheVariants.{Input, Output}
use Rattle.bloom_forms.specs.declared.program.Program.{Program}
use Rattle.bloom_forms.specs.declared.program.Program.TheVariants.{Module, Split, Latest, Number}
use Rattle.bloom_forms.specs.Form.{RuleForm, Accepted}
use Rattle.bloom_forms.specs.Program.{port_columns, output_columns}
use Rattle.bloom_forms.specs.Query.{Name}
use Rattle.bloom_forms.specs.Step.{rules_at}
use Rattle.bloom_forms.specs.KindNumbers.{number_in_kind}
use Rattle.bloom_forms.specs.declared.note.Note.{Note}
use Rattle.bloom_forms.specs.declared.note.Note.TheVariants.{CR, OR, OW}
use Rattle.bloom_forms.specs.Gates.{all_attributes, set_of_roots, query_gate, head_gate}
use Rattle.bloom_forms.specs.Good.{good_tables}
use Rattle.bloom_forms.specs.HeadRoots.{attribute_roots, roots_numbered, roots_table}
use Rattle.bloom_forms.specs.Roots.{Roots}
use Rattle.bloom_forms.specs.Uses.{use_of, all_uses}

-- ---- modules

-- the gate of a rule
abbrev pub rule_gate : (names : List Name) → Accepted → RuleForm → ℕ
rule_gate names a rule = query_gate names a.form (roots_table names a) rule.1

-- what a rule gives to a port
abbrev pub rule_use : (names : List Name) → Accepted → RuleForm → (port : ℕ) → Option Note
rule_use names a rule port =
    use_of a.form.collections a.form.rules (good_tables a) (rule_gate names a rule) (number_in_kind Input a.form.collections port) rule.1

-- the note of a path through a module: what all rules of the output give to the port
abbrev pub module_note : (names : List Name) → Accepted → (port output : ℕ) → Option Note
module_note names a port output =
    all_uses (map (λ rule. rule_use names a rule port) (rules_at a.form.collections a.form.rules (number_in_kind Output a.form.collections output)))

-- ---- stock bodies

-- key columns have their roots, and no others
abbrev pub latest_roots : (names columns : List Name) → (keys : List ℕ) → Roots
latest_roots names columns keys = map (λ place. if list_any (λ key. key == place.0) keys then place_of names place.1 else None) (enumerate_from 0 columns)

-- the set of the key columns
abbrev pub key_set : (names columns : List Name) → (keys : List ℕ) → ℕ
key_set names columns keys = set_of_roots (latest_roots names columns keys)

-- what `put` gets is OW, what `ask` gets OR, each with the keys
abbrev pub latest_note : (keys : ℕ) → (port : ℕ) → Note
latest_note keys port = if port == 0 then OW (record { bits = keys }) else OR (record { bits = keys })

-- ---- programs

-- the root of each column of an output
abbrev pub roots_of_output : (names : List Name) → Program → (output : ℕ) → Roots
roots_of_output names (Module a) output = roots_numbered (roots_table names a) (number_in_kind Output a.form.collections output)
roots_of_output names (Split columns split) output = attribute_roots names (remove columns split) ++ None ∷ None ∷ []
roots_of_output names (Latest columns keys) output = latest_roots names columns keys
roots_of_output names (Number columns) output = attribute_roots names columns ++ None ∷ []

-- the gate of an output
abbrev pub gate_of_output : (names : List Name) → Program → (output : ℕ) → ℕ
gate_of_output names (Module a) output = head_gate names a.form (roots_table names a) (number_in_kind Output a.form.collections output)
gate_of_output names (Split columns split) output = all_attributes names
gate_of_output names (Latest columns keys) output = key_set names columns keys
gate_of_output names (Number columns) output = 0

-- the note of a path from a port to an output; nothing where no rule of the output uses the port
abbrev pub note_of : (names : List Name) → Program → (port output : ℕ) → Option Note
note_of names (Module a) port output = module_note names a port output
note_of names (Split columns split) port output = Some CR
note_of names (Latest columns keys) port output = Some (latest_note (key_set names columns keys) port)
note_of names (Number columns) port output = Some (OW (record { bits = 0 }))

-- the notes of all paths: for each port those to each output
abbrev pub notes_of : (names : List Name) → Program → List (List (Option Note))
notes_of names program = map (λ port. map (note_of names program port) (range_with_len 0 (length (output_columns program)))) (range_with_len 0 (length (port_columns program)))

-- one of these notes, and nothing past the end
abbrev pub note_at : List (List (Option Note)) → (port output : ℕ) → Option Note
note_at notes port output = slice_index_or (slice_index_or notes port []) output None
