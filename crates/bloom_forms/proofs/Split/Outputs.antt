-- An output of a module splits by what lies in the closure of its gate.
use Rattle.std.proofs.Common.{◌≡◌, ◌++◌, ℕ, Bool, true, Option, None, Some, List, [], ◌∷◌, map, refl, inl, inr}
use Rattle.std.specs.Prelude.{is_some}
use Rattle.blz_value.specs.Members.{Has}
use Rattle.blz_value.specs.Record.{Row}
use Rattle.blz_value.proofs.Membership.{Has-map}
use Rattle.blz_value.specs.declared.attrs.Fd.{Fd}
use Rattle.blz_value.specs.Closure.{within, closure}
use Rattle.blz_value.proofs.Least.{closure-least}
use Rattle.blz_value.proofs.Members.{in-within, member_small}
use Rattle.blz_value.proofs.Reached.{least-monotone}
use Rattle.bloom_forms.specs.declared.program.Program.{Program}
use Rattle.bloom_forms.specs.declared.program.Program.TheVariants.{Module}
use Rattle.bloom_forms.specs.Checks.{IsChecked}
use Rattle.bloom_forms.specs.Form.{RuleForm, Accepted}
use Rattle.bloom_forms.specs.Query.{Name}
use Rattle.bloom_forms.specs.Step.{Sets, rules_at}
use Rattle.bloom_forms.specs.Steps.{tables_after_steps}
use Rattle.bloom_forms.proofs.Reach.ReadsLemmas.{rule_stands}
use Rattle.bloom_forms.specs.declared.note.Note.{Note}
use Rattle.bloom_forms.specs.Annotation.{note_of, gate_of_output, rule_gate, rule_use}
use Rattle.bloom_forms.specs.Uses.{both_uses, all_uses}
use Rattle.bloom_forms.proofs.Combining.GateSets.{head_within}
use Rattle.bloom_forms.specs.Classes.{IsInClosure, Arriving, AreKeyed, of_class}
use Rattle.bloom_forms.specs.Splitting.{StepsSplit}
use Rattle.bloom_forms.specs.Runs.{query_rows}
use Rattle.bloom_forms.proofs.Split.SplittingLemmas.{OutputsSplitByStep}
use Rattle.bloom_forms.proofs.Rows.Outputs.{number, from_output, in_output}
use Rattle.bloom_forms.proofs.Split.Rules.{rules_split}

-- what holds of the records at some ports holds of those at fewer
fewer_used : (names : List Name) (program : Program) (nows : List Sets) (used other : ℕ → Bool) (fds : List Fd) (key : List ℕ)
    → ((port : ℕ) → other port ≡ true → used port ≡ true) → AreKeyed names program nows used fds key
    → AreKeyed names program nows other fds key
fewer_used names program nows used other fds key fewer keyed =
    let up : Arriving program nows other → Arriving program nows used = λ x. record { port = x.port; used = fewer x.port x.used; now = x.now; came = x.came; row = x.row; stands = x.stands } in
    record {
      keyed = λ x. keyed.keyed (up x);
      whole = λ x fd stands from. keyed.whole (up x) fd stands from;
      hold = λ x y fd stands xf xt yf yt same. keyed.hold (up x) (up y) fd stands xf xt yf yt same;
    }

smaller_gate : (key : List ℕ) (gate more : ℕ) (fds : List Fd) → within gate more ≡ true → IsInClosure key gate fds
    → IsInClosure key more fds
smaller_gate key gate more fds inside closed n h =
    let there = closed n h in
    in-within n (closure gate fds) (closure more fds) (member_small n (closure gate fds) there) there (least-monotone gate more fds (closure gate fds) (closure more fds) inside (closure-least gate fds) (closure-least more fds))

either_some : (a b : Option Note) → (is_some a ≡ true) → is_some (both_uses a b) ≡ true
either_some None b h = cc
either_some (Some a) None h = refl
either_some (Some a) (Some b) h = refl

other_some : (a b : Option Note) → (is_some b ≡ true) → is_some (both_uses a b) ≡ true
other_some None b h = h
other_some (Some a) None h = cc
other_some (Some a) (Some b) h = refl

pub some_use : (uses : List (Option Note)) (one : Option Note) → Has one uses → is_some one ≡ true → is_some (all_uses uses) ≡ true
some_use [] one h s = absurd h
some_use (first ∷ uses) one (inl e) s = either_some first (all_uses uses) (rw e s)
some_use (first ∷ uses) one (inr h) s = other_some first (all_uses uses) (some_use uses one h s)

-- each rule of an output splits by what lies in the closure of the output's gate
rule_split : (names : List Name) (a : Accepted) (checked : IsChecked a.form a.heads) (output : ℕ) (rule : RuleForm)
    → Has rule (rules_at a.form.collections a.form.rules (number a checked output))
    → StepsSplit names (Module a) (query_rows a rule.1) (λ port. is_some (note_of names (Module a) port output)) (gate_of_output names (Module a) output)
rule_split names a checked output rule of_head earlier arriving fds key class_of arrivals keyed closed =
    let rules = rules_at a.form.collections a.form.rules (number a checked output) in
    let uses : ℕ → List (Option Note) = λ port. map (λ (r : RuleForm). rule_use names a r port) rules in
    rules_split names a checked rule (rule_stands a checked (number a checked output) rule of_head).0 earlier arriving fds key class_of arrivals
    (fewer_used names (Module a) (earlier ++ arriving ∷ []) (λ port. is_some (note_of names (Module a) port output)) (λ port. is_some (rule_use names a rule port)) fds key
    (λ port s. some_use (uses port) (rule_use names a rule port) (Has-map (λ (r : RuleForm). rule_use names a r port) rule rules of_head) s) keyed)
    (smaller_gate key (gate_of_output names (Module a) output) (rule_gate names a rule) fds (head_within names a (number a checked output) rule of_head) closed)

pub outputs_split : (names : List Name) (a : Accepted) → IsChecked a.form a.heads → OutputsSplitByStep names (Module a)
outputs_split names a checked output earlier arriving fds key class_of arrivals keyed closed row =
    let kept : Row → Sets = λ class. tables_after_steps (Module a) (map (of_class names (Module a) key class_of class) earlier) in
    let part : Row → Sets = λ class. of_class names (Module a) key class_of class arriving in
    let whole = tables_after_steps (Module a) earlier in (
      λ h.
          let f = from_output a checked output whole arriving row h in
          let s = (rule_split names a checked output f.rule f.of_head earlier arriving fds key class_of arrivals keyed closed row).0 f.stands in
          (s.0, in_output a checked output (kept s.0) (part s.0) whole arriving row row h (record { rule = f.rule; of_head = f.of_head; stands = s.1 })),
      λ p.
          let f = from_output a checked output (kept p.0) (part p.0) row p.1 in
          let s = (rule_split names a checked output f.rule f.of_head earlier arriving fds key class_of arrivals keyed closed row).1 (p.0, f.stands) in
          in_output a checked output whole arriving (kept p.0) (part p.0) row row p.1 (record { rule = f.rule; of_head = f.of_head; stands = s }),
    )
