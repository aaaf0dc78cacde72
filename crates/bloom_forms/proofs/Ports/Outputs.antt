-- An output of a module sees no more than the ports that its rules use.
use Rattle.std.proofs.Common.{◌≡◌, ◌++◌, ◌||◌, ℕ, Bool, true, false, Option, None, Some, List, [], ◌∷◌, map, refl, ◌∙◌, sym, subst, inl, inr, ◌⊎◌}
use Rattle.std.specs.Prelude.{is_some}
use Rattle.std.specs.List.{AllZip}
use Rattle.std.proofs.lemmas.Bool.{true≢false}
use Rattle.blz_value.specs.Members.{Has, IsWithin}
use Rattle.blz_value.specs.Record.{Row}
use Rattle.blz_value.proofs.Membership.{Has-map}
use Rattle.blz_value.proofs.RowSets.{same_set_of}
use Rattle.blz_value.proofs.SetLaws.{Has-set_of, Has-from_set_of}
use Rattle.blz_value.specs.declared.attrs.Attrs.{Attrs}
use Rattle.bloom_forms.specs.declared.program.Program.{Program}
use Rattle.bloom_forms.specs.declared.program.Program.TheVariants.{Module}
use Rattle.bloom_forms.specs.Checks.{IsChecked}
use Rattle.bloom_forms.specs.Form.{RuleForm, Accepted}
use Rattle.bloom_forms.specs.ProgramStep.{empty_tables}
use Rattle.bloom_forms.specs.Query.{Name}
use Rattle.bloom_forms.specs.Step.{Sets, rules_at}
use Rattle.bloom_forms.proofs.Reach.ReadsLemmas.{rule_stands}
use Rattle.bloom_forms.proofs.Ends.StepsLemmas.{before, arrives}
use Rattle.bloom_forms.specs.declared.note.Note.{Note}
use Rattle.bloom_forms.specs.Annotation.{note_of, rule_use}
use Rattle.bloom_forms.specs.Note as notes
use Rattle.bloom_forms.specs.Uses.{both_uses, all_uses}
use Rattle.bloom_forms.specs.Given.{is_w}
use Rattle.bloom_forms.specs.Ports.{AreSameAt, SeesItsPorts}
use Rattle.bloom_forms.specs.Runs.{query_rows, output_rows, query_over, output_over, over_steps, at_once, OutputsByRules}
use Rattle.bloom_forms.proofs.Rows.Closed.{none_is}
use Rattle.bloom_forms.proofs.Rows.Outputs.{number, from_output, in_output, in_output_there}
use Rattle.bloom_forms.proofs.Ports.Rules.{rule_sees}
use Rattle.bloom_forms.proofs.Split.Outputs.{some_use}
use Rattle.bloom_forms.proofs.Rows.RunsLemmas.{from_steps, in_steps}

-- ---- combined notes that are W

made_w : (w : Bool) (gate : Option Attrs) → notes.is_write (notes.note_with w gate) ≡ w
made_w true None = refl
made_w false None = refl
made_w true (Some gate) = refl
made_w false (Some gate) = refl

either : (a b : Bool) → (a ≡ true) ⊎ (b ≡ true) → (a || b) ≡ true
either true b h = refl
either false b (inl h) = absurd (true≢false (sym h))
either false b (inr h) = h

both_w : (a b : Option Note) → (is_w a ≡ true) ⊎ (is_w b ≡ true) → is_w (both_uses a b) ≡ true
both_w None b (inl h) = absurd (true≢false (sym h))
both_w None b (inr h) = h
both_w (Some a) None (inl h) = h
both_w (Some a) None (inr h) = absurd (true≢false (sym h))
both_w (Some a) (Some b) h = made_w (notes.is_write a || notes.is_write b) (notes.common_gate (notes.own_gate a) (notes.own_gate b)) ∙ either (notes.is_write a) (notes.is_write b) h

pub w_use : (uses : List (Option Note)) (one : Option Note) → Has one uses → is_w one ≡ true → is_w (all_uses uses) ≡ true
w_use [] one h t = absurd h
w_use (first ∷ uses) one (inl e) t = both_w first (all_uses uses) (inl (rw e t))
w_use (first ∷ uses) one (inr h) t = both_w first (all_uses uses) (inr (w_use uses one h t))

-- ---- fewer ports

fewer_same : (program : Program) (test fewer : ℕ → Bool) → ((port : ℕ) → fewer port ≡ true → test port ≡ true)
    → (nows others : List Sets) → AllZip (AreSameAt program test) nows others
    → AllZip (AreSameAt program fewer) nows others
fewer_same program test fewer less [] [] same = tt
fewer_same program test fewer less [] (o ∷ others) same = same
fewer_same program test fewer less (n ∷ nows) [] same = same
fewer_same program test fewer less (n ∷ nows) (o ∷ others) same = ((λ port lt t. same.0 port lt (less port t)), fewer_same program test fewer less nows others same.1)

module _ (names : List Name) (a : Accepted) (checked : IsChecked a.form a.heads) (output : ℕ) where
  abbrev start : Sets
  start = empty_tables (Module a)

  abbrev rules : List RuleForm
  rules = rules_at a.form.collections a.form.rules (number a checked output)

  abbrev given : ℕ → Option Note
  given port = note_of names (Module a) port output

  used_by : (rule : RuleForm) → Has rule rules → (port : ℕ) → is_some (rule_use names a rule port) ≡ true → is_some (given port) ≡ true
  used_by rule of_head port t = some_use (map (λ (r : RuleForm). rule_use names a r port) rules) (rule_use names a rule port) (Has-map (λ (r : RuleForm). rule_use names a r port) rule rules of_head) t

  w_by : (rule : RuleForm) → Has rule rules → (port : ℕ) → is_w (rule_use names a rule port) ≡ true → is_w (given port) ≡ true
  w_by rule of_head port t = w_use (map (λ (r : RuleForm). rule_use names a r port) rules) (rule_use names a rule port) (Has-map (λ (r : RuleForm). rule_use names a r port) rule rules of_head) t

  -- where no rule loses a row the output doesn't
  by_rules : (nows others : List Sets)
      → ((rule : RuleForm) → Has rule rules → IsWithin (query_over a rule.1 nows) (query_over a rule.1 others))
      → IsWithin (output_over (Module a) output nows) (output_over (Module a) output others)
  by_rules nows others each row h =
      let s = from_steps (Module a) (output_rows (Module a) output) start nows row (Has-from_set_of row (over_steps (Module a) (output_rows (Module a) output) start nows) h) in
      let f = from_output a checked output (before (Module a) start nows s.0) (arrives (Module a) start nows s.0) row s.1 in
      let here = Has-set_of row (over_steps (Module a) (query_rows a f.rule.1) start nows) (in_steps (Module a) (query_rows a f.rule.1) start nows row s.0 f.stands) in
      let t = from_steps (Module a) (query_rows a f.rule.1) start others row (Has-from_set_of row (over_steps (Module a) (query_rows a f.rule.1) start others) (each f.rule f.of_head row here)) in
      let there = in_output a checked output (before (Module a) start others t.0) (arrives (Module a) start others t.0) (before (Module a) start nows s.0) (arrives (Module a) start nows s.0) row row s.1 (record { rule = f.rule; of_head = f.of_head; stands = t.1 }) in
      Has-set_of row (over_steps (Module a) (output_rows (Module a) output) start others) (in_steps (Module a) (output_rows (Module a) output) start others row t.0 there)

  same_by_rules : (nows others : List Sets)
      → ((rule : RuleForm) → Has rule rules → query_over a rule.1 nows ≡ query_over a rule.1 others)
      → output_over (Module a) output nows ≡ output_over (Module a) output others
  same_by_rules nows others each =
      let to = by_rules nows others (λ rule of_head row h. subst (λ (x : List Row). Has row x) (each rule of_head) h) in
      let from = by_rules others nows (λ rule of_head row h. subst (λ (x : List Row). Has row x) (sym (each rule of_head)) h) in
      let xs = over_steps (Module a) (output_rows (Module a) output) start nows in
      let ys = over_steps (Module a) (output_rows (Module a) output) start others in
      same_set_of xs ys (λ row h. Has-from_set_of row ys (to row (Has-set_of row xs h)), λ row h. Has-from_set_of row xs (from row (Has-set_of row ys h)))

  pub output_sees : SeesItsPorts (Module a) (λ port. note_of names (Module a) port output) (output_over (Module a) output)
  output_sees =
      let sees : (rule : RuleForm) → Has rule rules → SeesItsPorts (Module a) (rule_use names a rule) (query_over a rule.1) = λ rule of_head. rule_sees names a checked rule (rule_stands a checked (number a checked output) rule of_head).0 in
      record {
        only = λ nows others same. same_by_rules nows others (λ rule of_head. (sees rule of_head).only nows others (fewer_same (Module a) (λ port. is_some (given port)) (λ port. is_some (rule_use names a rule port)) (used_by rule of_head) nows others same));
        none = λ nows silent. none_is (output_over (Module a) output nows) (λ row h. by_rules nows [] (λ rule of_head r g. absurd (subst (λ (x : List Row). Has r x) ((sees rule of_head).none nows (λ n came port lt t. silent n came port lt (used_by rule of_head port t))) g)) row h);
        partition = λ earlier later arriving early late. same_by_rules (earlier ++ arriving ∷ later) (at_once (Module a) (earlier ++ arriving ∷ later) ∷ [])
            (λ rule of_head. (sees rule of_head).partition earlier later arriving (λ n h port lt t. early n h port lt (used_by rule of_head port t)) (λ n h port lt t. late n h port lt (w_by rule of_head port t)));
        late = λ fewer more inside same. by_rules (fewer ∷ []) (more ∷ []) (λ rule of_head. (sees rule of_head).late fewer more (λ port lt t. inside port lt (used_by rule of_head port t)) (λ port lt t. same port lt (w_by rule of_head port t)));
      }

-- over any timesteps an output has the rows of its rules
pub outputs_by_rules : (a : Accepted) → IsChecked a.form a.heads → OutputsByRules a
outputs_by_rules a checked output lt nows row =
    let start = empty_tables (Module a) in
    let outs = over_steps (Module a) (output_rows (Module a) output) start nows in (
      λ h.
          let s = from_steps (Module a) (output_rows (Module a) output) start nows row (Has-from_set_of row outs h) in
          let f = from_output a checked output (before (Module a) start nows s.0) (arrives (Module a) start nows s.0) row s.1 in
          (f.rule, f.of_head, Has-set_of row (over_steps (Module a) (query_rows a f.rule.1) start nows) (in_steps (Module a) (query_rows a f.rule.1) start nows row s.0 f.stands)),
      λ p.
          let s = from_steps (Module a) (query_rows a p.0.1) start nows row (Has-from_set_of row (over_steps (Module a) (query_rows a p.0.1) start nows) p.2) in
          Has-set_of row outs (in_steps (Module a) (output_rows (Module a) output) start nows row s.0
          (in_output_there a checked output lt (before (Module a) start nows s.0) (arrives (Module a) start nows s.0) row (record { rule = p.0; of_head = p.1; stands = s.1 }))),
    )
