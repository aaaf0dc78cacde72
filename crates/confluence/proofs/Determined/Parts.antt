-- An output is made of parts, the rules of a module or a stock body as one, and the laws on rows hold of each.
use Rattle.std.proofs.Common.{◌⊎◌, ◌≡◌, ◌<◌, ◌==◌, ℕ, Bool, true, false, Option, None, Some, IfSome, List, [], ◌∷◌, length, map, refl, subst, inl, inr}
use Rattle.std.specs.Prelude.{is_some, if◌then◌else◌}
use Rattle.blz_value.specs.Members.{Has, IsWithin}
use Rattle.blz_value.specs.Record.{Row}
use Rattle.blz_value.proofs.Membership.{Has-map}
use Rattle.bloom_forms.specs.declared.program.Program.{Program}
use Rattle.bloom_forms.specs.declared.program.Program.TheVariants.{Module, Split, Latest, Number}
use Rattle.bloom_forms.specs.declared.module.Kind.TheVariants.{Input}
use Rattle.bloom_forms.specs.Form.{RuleForm, Accepted}
use Rattle.bloom_forms.specs.Program.{output_columns}
use Rattle.bloom_forms.specs.Step.{Sets, rules_at}
use Rattle.bloom_forms.specs.Checks.{IsChecked}
use Rattle.bloom_forms.specs.declared.note.Note.{Note}
use Rattle.bloom_forms.specs.declared.note.Note.TheVariants.{OR, OW}
use Rattle.bloom_forms.specs.Annotation.{note_of, gate_of_output, key_set, latest_note}
use Rattle.bloom_forms.specs.Good.{good_tables}
use Rattle.bloom_forms.specs.KindNumbers.{number_in_kind}
use Rattle.bloom_forms.specs.Uses.{both_uses, all_uses}
use Rattle.bloom_forms.proofs.Combining.Using.{uses_have_gate}
use Rattle.bloom_forms.proofs.Combining.CoversLaw.{covers_law, combine_law}
use Rattle.blz_value.specs.declared.attrs.Attrs.{Attrs}
use Rattle.topo_forms.proofs.Views.ValidViews.{self_covered}
use Rattle.topo_forms.specs.Data.{Data}
use Rattle.topo_forms.specs.Valid.{IsCovered}
use Rattle.topo_forms.specs.View.{View, program_of}
use Rattle.messages.specs.Messages.{Batch}
use Rattle.inbox.specs.Executions.{Execution}
use Rattle.confluence.specs.Partitions.{IsSealing, AreCarrying, IsWaiting, IsAtOnce}
use Rattle.confluence.proofs.Honest.PartitionLaw.{partitions_of_rules, partitions_of_outputs}
use Rattle.bloom_forms.specs.Confluence.{IsConfluent}
use Rattle.bloom_forms.specs.Ports.{SeesItsPorts, IsSilent}
use Rattle.bloom_forms.specs.Runs.{query_rows, output_rows, output_over, rows_over}
use Rattle.bloom_forms.specs.Splitting.{SplitsByClass}
use Rattle.bloom_forms.proofs.Confluent.ConfluentLaw.{rules_confluent, all_confluent}
use Rattle.bloom_forms.proofs.Ports.Outputs.{outputs_by_rules}
use Rattle.bloom_forms.proofs.Ports.Rules.{rules_see}
use Rattle.bloom_forms.proofs.Ports.PortsLaw.{outputs_see, stock_silent}
use Rattle.bloom_forms.proofs.Split.SplitLaw.{all_rules_split, all_split}
use Rattle.bloom_forms.proofs.Rows.Outputs.{number}
use Rattle.bloom_forms.proofs.Reach.ReadsLemmas.{rule_stands}
use Rattle.bloom_forms.specs.Proper.{IsProper, HasDistinctColumns}
use Rattle.bloom_forms.specs.Given.{AreAllC}
use Rattle.bloom_forms.specs.Annotation.{rule_gate, rule_use}
use Rattle.bloom_forms.specs.Note.{own_gate}

-- ---- covers

pub covered_on : (a b c : Option Note) → IsCovered a b → IsCovered b c → IsCovered a c
covered_on a b None p q = tt
covered_on a None (Some c) p q = absurd q
covered_on None (Some b) (Some c) p q = absurd p
covered_on (Some a) (Some b) (Some c) p q = covers_law.transitive a b c p q

both_first : (a b : Option Note) → IsCovered (both_uses a b) a
both_first None b = tt
both_first (Some a) None = covers_law.reflexive a
both_first (Some a) (Some b) = (combine_law a b).first

both_second : (a b : Option Note) → IsCovered (both_uses a b) b
both_second None b = self_covered b
both_second (Some a) None = tt
both_second (Some a) (Some b) = (combine_law a b).second

-- all uses of a port cover each
all_cover : (uses : List (Option Note)) (one : Option Note) → Has one uses → IsCovered (all_uses uses) one
all_cover [] one h = absurd h
all_cover (first ∷ uses) one (inl e) = subst (λ (o : Option Note). IsCovered (both_uses first (all_uses uses)) o) e (both_first first (all_uses uses))
all_cover (first ∷ uses) one (inr h) = covered_on (both_uses first (all_uses uses)) (all_uses uses) one (both_second first (all_uses uses)) (all_cover uses one h)

-- ---- parts

-- rows, with what the ports are given and a gate, are a part of an output
pub record IsPart (v : View) (program : Program) (output : ℕ) (rows : Sets → Sets → List Row) (given : ℕ → Option Note) (gate : ℕ) : Type 0 where
  pub confluent : AreAllC program given → IsConfluent program (rows_over program rows)
  pub splits : SplitsByClass v.attributes program rows (λ port. is_some (given port)) gate
  pub sees : SeesItsPorts program given (rows_over program rows)
  pub silent : IsSilent program given (rows_over program rows)
  -- the note of a path covers what the port is given
  pub covered : (port : ℕ) → IsCovered (note_of v.attributes program port output) (given port)
  pub gated : (port : ℕ) → IfSome (given port) (λ note. IfSome (own_gate note) (λ own. own.bits ≡ gate))
  -- of a partition the rows are none, or those of one timestep with all of it
  pub partitions : (d : Data) (x : Execution) (c j : ℕ) (key : Attrs) (batches : List Batch) (value : Row) → IsSealing v d x c j key batches → program_of v c ≡ Some program → AreCarrying v c key given
      → IsWaiting v d x c j key program batches value (rows_over program rows) ⊎ IsAtOnce v d x c j key program batches value (rows_over program rows)

-- a fact of rows over timesteps holds of an output where it holds of each of its parts
abbrev pub ByParts : (v : View) → Program → (output : ℕ) → Type 0
ByParts v program output = (nows others : List Sets)
    → ((rows : Sets → Sets → List Row) (given : ℕ → Option Note) (gate : ℕ) → IsPart v program output rows given gate → IsWithin (rows_over program rows nows) (rows_over program rows others))
    → IsWithin (output_over program output nows) (output_over program output others)

rule_part : (v : View) (a : Accepted) (checked : IsChecked a.form a.heads) (output : ℕ) (rule : RuleForm) → Has rule (rules_at a.form.collections a.form.rules (number a checked output))
    → IsPart v (Module a) output (query_rows a rule.1) (rule_use v.attributes a rule) (rule_gate v.attributes a rule)
rule_part v a checked output rule of_head =
    let stands = (rule_stands a checked (number a checked output) rule of_head).0 in
    let see = rules_see v.attributes a checked rule stands in
    record {
      confluent = rules_confluent v.attributes a checked rule stands;
      splits = all_rules_split v.attributes a checked rule stands;
      sees = see.0;
      silent = see.1;
      covered = λ port. all_cover (map (λ (r : RuleForm). rule_use v.attributes a r port) (rules_at a.form.collections a.form.rules (number a checked output))) (rule_use v.attributes a rule port) (Has-map (λ (r : RuleForm). rule_use v.attributes a r port) rule (rules_at a.form.collections a.form.rules (number a checked output)) of_head);
      gated = λ port. uses_have_gate a.form (good_tables a) (rule_gate v.attributes a rule) (number_in_kind Input a.form.collections port) rule.1;
      partitions = λ d x c j key batches value sealing body carrying. partitions_of_rules v d x c j key batches a value sealing body rule stands carrying;
    }

latest_gated : (keys port : ℕ) → IfSome (own_gate (latest_note keys port)) (λ own. own.bits ≡ keys)
latest_gated keys port = by (port == 0)
  where
    by : (put : Bool) → IfSome (own_gate (if put then OW (record { bits = keys }) else OR (record { bits = keys }))) (λ own. own.bits ≡ keys)
    by true = refl
    by false = refl

-- the output of a stock body is one part
stock_part : (v : View) (program : Program) (output : ℕ) → IsProper program → HasDistinctColumns program → IsSilent program (λ port. note_of v.attributes program port output) (output_over program output)
    → ((port : ℕ) → IfSome (note_of v.attributes program port output) (λ note. IfSome (own_gate note) (λ own. own.bits ≡ gate_of_output v.attributes program output)))
    → IsPart v program output (output_rows program output) (λ port. note_of v.attributes program port output) (gate_of_output v.attributes program output)
stock_part v program output proper distinct silent gated = record {
  confluent = all_confluent v.attributes program proper output;
  splits = all_split v.attributes program proper distinct output;
  sees = outputs_see v.attributes program proper output;
  silent = silent;
  covered = λ port. self_covered (note_of v.attributes program port output);
  gated = gated;
  partitions = λ d x c j key batches value sealing body carrying. partitions_of_outputs v d x c j key batches program value sealing body output carrying;
}

pub by_parts : (v : View) (program : Program) (output : ℕ) → IsProper program → HasDistinctColumns program → output < length (output_columns program) → ByParts v program output
by_parts v (Module a) output proper distinct there nows others each row h =
    let f = (outputs_by_rules a proper output there nows row).0 h in
    (outputs_by_rules a proper output there others row).1 (f.0, f.1, each (query_rows a f.0.1) (rule_use v.attributes a f.0) (rule_gate v.attributes a f.0) (rule_part v a proper output f.0 f.1) row f.2)
by_parts v (Split columns split) output proper distinct there nows others each row h =
    each (output_rows (Split columns split) output) (λ port. note_of v.attributes (Split columns split) port output) (gate_of_output v.attributes (Split columns split) output)
    (stock_part v (Split columns split) output proper distinct (stock_silent v.attributes (Split columns split) output) (λ port. tt)) row h
by_parts v (Latest columns keys) output proper distinct there nows others each row h =
    each (output_rows (Latest columns keys) output) (λ port. note_of v.attributes (Latest columns keys) port output) (gate_of_output v.attributes (Latest columns keys) output)
    (stock_part v (Latest columns keys) output proper distinct (stock_silent v.attributes (Latest columns keys) output) (latest_gated (key_set v.attributes columns keys))) row h
by_parts v (Number columns) output proper distinct there nows others each row h =
    each (output_rows (Number columns) output) (λ port. note_of v.attributes (Number columns) port output) (gate_of_output v.attributes (Number columns) output)
    (stock_part v (Number columns) output proper distinct (stock_silent v.attributes (Number columns) output) (λ port. refl)) row h
