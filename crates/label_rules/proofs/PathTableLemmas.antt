-- Each row of the table goes up from label to label.
use Rattle.std.proofs.Common.{◌≡◌, ◌<◌, ◌≤◌, Bool, true, false, ◌&&◌, if◌then◌else◌, refl, arith, List}
use Rattle.blz_value.specs.Closure.{compatible}
use Rattle.blz_value.specs.declared.attrs.Attrs.{Attrs}
use Rattle.blz_value.specs.declared.attrs.Fd.{Fd}
use Rattle.bloom_forms.specs.declared.note.Note.{Note}
use Rattle.bloom_forms.specs.declared.note.Note.TheVariants.{CR, CW, OR, OW}
use Rattle.bloom_forms.specs.declared.mode.Mode.{Mode}
use Rattle.label_rules.specs.declared.label.Label.{Label}
use Rattle.label_rules.specs.declared.label.Label.TheVariants.{Seal, Async, Run, Inst, Diverge}
use Rattle.label_rules.specs.declared.label.Base.{Base}
use Rattle.label_rules.specs.declared.label.Base.TheVariants as base
use Rattle.label_rules.specs.declared.label.PathLabel.{PathLabel}
use Rattle.label_rules.specs.declared.label.PathLabel.TheVariants as path
use Rattle.label_rules.specs.Label.{severity}
use Rattle.label_rules.specs.PathTable.{is_awaited, gate_read, over_confluent_read, over_confluent_write, over_ordered_read, over_ordered_write, over}
use Rattle.label_rules.specs.Reconciliation.{base_label, settled_taint, settled_read, settled, is_covered}
use Rattle.label_rules.proofs.LabelLemmas.{greatest_severity}

-- in place of the second path label the first protects no less, and becomes nothing worse
pub record IsAsGood (fds : List Fd) (a b : PathLabel) : Type 0 where
  pub covers : (key : Attrs) → is_covered key fds b ≡ true → is_covered key fds a ≡ true
  pub settles : (protected replicated : Bool) → severity (settled protected replicated a) ≤ severity (settled protected replicated b)

pub good-refl : (fds : List Fd) (a : PathLabel) → IsAsGood fds a a
good-refl fds a = record {
  covers = λ key h. h;
  settles = λ protected replicated. omega arith;
}

good-trans : (fds : List Fd) (a b c : PathLabel) → IsAsGood fds a b → IsAsGood fds b c → IsAsGood fds a c
good-trans fds a b c p q = record {
  covers = λ key h. p.covers key (q.covers key h);
  settles = λ protected replicated. omega (arith, p.settles protected replicated, q.settles protected replicated);
}

-- a row that goes up from label to label
pub record Ascends (fds : List Fd) (row : Label → PathLabel) : Type 0 where
  pub to_async : (key : Attrs) → IsAsGood fds (row (Seal key)) (row Async)
  pub to_run : IsAsGood fds (row Async) (row Run)
  pub to_inst : IsAsGood fds (row Run) (row Inst)
  pub to_diverge : IsAsGood fds (row Inst) (row Diverge)

pub ascends-lt : (fds : List Fd) (row : Label → PathLabel) → Ascends fds row → (a b : Label) → severity a < severity b → IsAsGood fds (row a) (row b)
ascends-lt fds row up (Seal key) Async h = up.to_async key
ascends-lt fds row up (Seal key) Run h = good-trans fds _ _ _ (up.to_async key) up.to_run
ascends-lt fds row up (Seal key) Inst h = good-trans fds _ _ _ (up.to_async key) (good-trans fds _ _ _ up.to_run up.to_inst)
ascends-lt fds row up (Seal key) Diverge h = good-trans fds _ _ _ (up.to_async key) (good-trans fds _ _ _ up.to_run (good-trans fds _ _ _ up.to_inst up.to_diverge))
ascends-lt fds row up Async Run h = up.to_run
ascends-lt fds row up Async Inst h = good-trans fds _ _ _ up.to_run up.to_inst
ascends-lt fds row up Async Diverge h = good-trans fds _ _ _ up.to_run (good-trans fds _ _ _ up.to_inst up.to_diverge)
ascends-lt fds row up Run Inst h = up.to_inst
ascends-lt fds row up Run Diverge h = good-trans fds _ _ _ up.to_inst up.to_diverge
ascends-lt fds row up Inst Diverge h = up.to_diverge
ascends-lt fds row up a b h = absurd (omega (arith, greatest_severity b))

-- where the second covers nothing, and becomes nothing better whatever holds of the output
good_from : (fds : List Fd) (a b : PathLabel) → ((key : Attrs) → is_covered key fds b ≡ false) → ((protected replicated : Bool) → severity (settled protected replicated a) ≤ severity (settled protected replicated b)) → IsAsGood fds a b
good_from fds a b bare settles = record {
  covers = λ key h. (let never = bare key in cc);
  settles = settles;
}

confluent_read_ascends : (fds : List Fd) → Ascends fds over_confluent_read
confluent_read_ascends fds = record {
  to_async = λ key. good_from fds _ _ (λ other. refl) (λ protected replicated. omega arith);
  to_run = good_from fds _ _ (λ other. refl) (λ protected replicated. omega arith);
  to_inst = good_from fds _ _ (λ other. refl) (λ protected replicated. omega arith);
  to_diverge = good_from fds _ _ (λ other. refl) (λ protected replicated. omega arith);
}

taint_severity : (replicated : Bool) → 3 ≤ severity (settled_taint replicated)
taint_severity true = omega arith
taint_severity false = omega arith

taint_severity_le : (replicated : Bool) → severity (settled_taint replicated) ≤ 5
taint_severity_le true = omega arith
taint_severity_le false = omega arith

confluent_write_ascends : (fds : List Fd) → Ascends fds over_confluent_write
confluent_write_ascends fds = record {
  to_async = λ key. good_from fds _ _ (λ other. refl) (λ protected replicated. omega arith);
  to_run = good_from fds _ _ (λ other. refl) (λ protected replicated. omega arith);
  to_inst = good_from fds _ _ (λ other. refl) (λ protected replicated. taint_severity replicated);
  to_diverge = good_from fds _ _ (λ other. refl) (λ protected replicated. taint_severity_le replicated);
}

-- reads of a better and of a worse base
read_settles : (better worse : Base) → severity (base_label better) ≤ severity (base_label worse) → (protected replicated : Bool) → severity (settled_read protected replicated better) ≤ severity (settled_read protected replicated worse)
read_settles better worse h true replicated = h
read_settles better worse h false replicated = omega arith

read_severity_le : (kept : Base) → severity (base_label kept) ≤ 3 → (protected replicated : Bool) → severity (settled_read protected replicated kept) ≤ 4
read_severity_le kept h true replicated = omega arith
read_severity_le kept h false true = omega arith
read_severity_le kept h false false = omega arith

good_read : (fds : List Fd) (gate : Attrs) (better worse : Base) → severity (base_label better) ≤ severity (base_label worse) → IsAsGood fds (path.NdRead gate better) (path.NdRead gate worse)
good_read fds gate better worse h = record {
  covers = λ key covered. covered;
  settles = read_settles better worse h;
}

ordered_read_ascends : (fds : List Fd) (gate : Attrs) → Ascends fds (over_ordered_read gate)
ordered_read_ascends fds gate = record {
  to_async = λ key. good_read fds gate (base.Seal key) base.Async (omega arith);
  to_run = good_read fds gate base.Async base.Run (omega arith);
  to_inst = good_from fds _ _ (λ other. refl) (read_severity_le base.Run (omega arith));
  to_diverge = good_from fds _ _ (λ other. refl) (λ protected replicated. omega arith);
}

-- a sealed read becomes nothing worse than state that depends on the order
read_below_taint : (key : Attrs) (protected replicated : Bool) → severity (settled_read protected replicated (base.Seal key)) ≤ severity (settled_taint replicated)
read_below_taint key true true = omega arith
read_below_taint key true false = omega arith
read_below_taint key false true = omega arith
read_below_taint key false false = omega arith

-- the first cell of the row OW, by its test
sealed_write_good : (fds : List Fd) (gate key : Attrs) (fits : Bool) → IsAsGood fds (if fits then path.NdRead gate (base.Seal key) else path.Taint) path.Taint
sealed_write_good fds gate key true = good_from fds _ _ (λ other. refl) (read_below_taint key)
sealed_write_good fds gate key false = good-refl fds path.Taint

ordered_write_ascends : (mode : Mode) (fds : List Fd) (gate : Attrs) → Ascends fds (over_ordered_write mode fds gate)
ordered_write_ascends mode fds gate = record {
  to_async = λ key. sealed_write_good fds gate key (is_awaited mode key && compatible gate.bits key.bits fds);
  to_run = good-refl fds path.Taint;
  to_inst = good-refl fds path.Taint;
  to_diverge = good_from fds _ _ (λ other. refl) (λ protected replicated. taint_severity_le replicated);
}

pub over_ascends : (mode : Mode) (fds : List Fd) (columns : Attrs) (note : Note) → Ascends fds (over mode fds columns note)
over_ascends mode fds columns CR = confluent_read_ascends fds
over_ascends mode fds columns CW = confluent_write_ascends fds
over_ascends mode fds columns (OR gate) = ordered_read_ascends fds (gate_read mode columns gate)
over_ascends mode fds columns (OW gate) = ordered_write_ascends mode fds (gate_read mode columns gate)
