-- A cell of the table of paths tells of the label and the note that it stands for.
use Rattle.std.proofs.Common.{◌≡◌, ◌<◌, ◌≤◌, ◌⊎◌, inl, inr, ℕ, Bool, true, false, ◌&&◌, nat_eq, if◌then◌else◌, None, Some, List, refl, arith, ap, sym, ◌∙◌}
use Rattle.std.proofs.lemmas.Bool.{eqb-true, true≢false}
use Rattle.blz_value.specs.declared.attrs.Attrs.{Attrs}
use Rattle.blz_value.specs.declared.attrs.Fd.{Fd}
use Rattle.blz_value.specs.Closure.{compatible}
use Rattle.bloom_forms.specs.declared.note.Note.{Note}
use Rattle.bloom_forms.specs.declared.note.Note.TheVariants.{CR, CW, OR, OW}
use Rattle.bloom_forms.specs.Note.{own_gate}
use Rattle.bloom_forms.specs.declared.mode.Mode.{Mode}
use Rattle.bloom_forms.specs.declared.mode.Mode.TheVariants as mode
use Rattle.topo_forms.specs.Carried.{is_confluent}
use Rattle.label_rules.specs.declared.label.Label.{Label}
use Rattle.label_rules.specs.declared.label.Label.TheVariants.{Seal, Async, Run, Inst, Diverge}
use Rattle.label_rules.specs.declared.label.Base.{Base}
use Rattle.label_rules.specs.declared.label.Base.TheVariants as base
use Rattle.label_rules.specs.declared.label.PathLabel.TheVariants as path
use Rattle.label_rules.specs.Label.{severity}
use Rattle.label_rules.specs.PathTable.{is_awaited, label_read, gate_read, over_ordered_read, over_ordered_write, over, pass_path}
use Rattle.label_rules.specs.Reconciliation.{base_label, settled_taint, settled_read, settled, is_covered}
use Rattle.confluence.specs.LabelMeaning.{is_ordered_read}

-- ---- what a path label becomes

-- what an NdRead becomes where the output isn't protected: no path with an O note becomes anything better
abbrev pub unprotected : Bool → Label
unprotected replicated = if replicated then Inst else Run

-- the label is no worse than this, and the note is C unless the output is protected
pub record Tells (label : Label) (note : Note) (protected : Bool) (worst : ℕ) : Type 0 where
  pub labelled : severity label ≤ worst
  pub kept : (protected ≡ true) ⊎ (is_confluent note ≡ true)

pub two_less : (replicated : Bool) → 2 < severity (unprotected replicated)
two_less true = omega arith
two_less false = omega arith

pub three_less : (replicated : Bool) → replicated ≡ true → 3 < severity (unprotected replicated)
three_less true e = omega arith
three_less false e = absurd (true≢false (sym e))

taint_bad : {P : Type 0} (replicated : Bool) (n : ℕ) → n < severity (unprotected replicated) → severity (settled_taint replicated) ≤ n → P
taint_bad true n lt h = absurd (omega arith)
taint_bad false n lt h = absurd (omega arith)

inst_bad : {P : Type 0} (replicated : Bool) (n : ℕ) → n < severity (unprotected replicated) → 4 ≤ n → P
inst_bad true n lt h = absurd (omega arith)
inst_bad false n lt h = absurd (omega arith)

read_tells : (protected replicated : Bool) (kept : Base) (n : ℕ) → n < severity (unprotected replicated) → severity (settled_read protected replicated kept) ≤ n → (severity (base_label kept) ≤ n) × (protected ≡ true)
read_tells true replicated kept n lt h = (h, refl)
read_tells false true kept n lt h = absurd (omega arith)
read_tells false false kept n lt h = absurd (omega arith)

module _ (mode : Mode) (fds : List Fd) (columns : Attrs) (protected replicated : Bool) (n : ℕ) (some : 2 ≤ n) (lt : n < severity (unprotected replicated)) where
  from_read : (gate : Attrs) (label : Label) → severity (settled protected replicated (over_ordered_read gate label)) ≤ n → Tells label (OR gate) protected n
  from_read gate (Seal key) h = let t = read_tells protected replicated (base.Seal key) n lt h in record { labelled = omega arith; kept = inl t.1 }
  from_read gate Async h = let t = read_tells protected replicated base.Async n lt h in record { labelled = omega arith; kept = inl t.1 }
  from_read gate Run h = let t = read_tells protected replicated base.Run n lt h in record { labelled = t.0; kept = inl t.1 }
  from_read gate Inst h = inst_bad replicated n lt h
  from_read gate Diverge h = inst_bad replicated n lt (omega arith)

  from_write : (gate : Attrs) (label : Label) → severity (settled protected replicated (over_ordered_write mode fds gate label)) ≤ n → Tells label (OW gate) protected n
  from_write gate (Seal key) h = by (is_awaited mode key && compatible gate.bits key.bits fds) h
    where
      by : (fits : Bool) → severity (settled protected replicated (if fits then path.NdRead gate (base.Seal key) else path.Taint)) ≤ n → Tells (Seal key) (OW gate) protected n
      by true h = let t = read_tells protected replicated (base.Seal key) n lt h in record { labelled = omega arith; kept = inl t.1 }
      by false h = taint_bad replicated n lt h
  from_write gate Async h = taint_bad replicated n lt h
  from_write gate Run h = taint_bad replicated n lt h
  from_write gate Inst h = taint_bad replicated n lt h
  from_write gate Diverge h = inst_bad replicated n lt (omega arith)

  over_tells : (note : Note) (label : Label) → severity (settled protected replicated (over mode fds columns note label)) ≤ n → Tells label note protected n
  over_tells CR (Seal key) h = record { labelled = h; kept = inr refl }
  over_tells CR Async h = record { labelled = h; kept = inr refl }
  over_tells CR Run h = record { labelled = h; kept = inr refl }
  over_tells CR Inst h = record { labelled = h; kept = inr refl }
  over_tells CR Diverge h = record { labelled = h; kept = inr refl }
  over_tells CW (Seal key) h = record { labelled = h; kept = inr refl }
  over_tells CW Async h = record { labelled = h; kept = inr refl }
  over_tells CW Run h = record { labelled = h; kept = inr refl }
  over_tells CW Inst h = taint_bad replicated n lt h
  over_tells CW Diverge h = record { labelled = h; kept = inr refl }
  over_tells (OR gate) label h = let t = from_read (gate_read mode columns gate) label h in record { labelled = t.labelled; kept = gateless t.kept }
    where
      gateless : (protected ≡ true) ⊎ (false ≡ true) → (protected ≡ true) ⊎ (false ≡ true)
      gateless k = k
  over_tells (OW gate) label h = let t = from_write (gate_read mode columns gate) label h in record { labelled = t.labelled; kept = t.kept }

  -- a Seal that is read as Async is no worse than that
  read_back : (label : Label) → severity (label_read mode label) ≤ n → severity label ≤ n
  read_back (Seal key) h = omega arith
  read_back Async h = h
  read_back Run h = h
  read_back Inst h = h
  read_back Diverge h = h

  -- a path label that becomes nothing worse than this
  pub path_tells : (note : Note) (label : Label) → severity (settled protected replicated (pass_path label note columns mode fds)) ≤ n → Tells label note protected n
  path_tells note label h = let t = over_tells note (label_read mode label) h in record { labelled = read_back label t.labelled; kept = t.kept }

-- ---- covered path labels

-- the label is Seal of the key unless the note is OR, and the key is compatible with the note's gate as it is read
pub record IsCovered (key : Attrs) (fds : List Fd) (columns : Attrs) (note : Note) (label : Label) : Type 0 where
  pub sealed : (is_ordered_read note ≡ true) ⊎ (label ≡ Seal key)
  pub gated : (gate : Attrs) → own_gate note ≡ Some gate → compatible (gate_read (mode.Seal key) columns gate).bits key.bits fds ≡ true

one_key : (a b : Attrs) → nat_eq a.bits b.bits ≡ true → Seal b ≡ Seal a
one_key a b e = ap (λ (n : ℕ). Seal (record { bits = n })) (sym (eqb-true a.bits b.bits e))

no_gate : {P : Type 0} (gate : Attrs) → None ≡ Some gate → P
no_gate gate e = absurd cc

module _ (key : Attrs) (fds : List Fd) (columns : Attrs) where
  abbrev cell : Note → Label → Bool
  cell note label = is_covered key fds (over (mode.Seal key) fds columns note label)

  -- an OR cell that is covered
  read_cell : (g : Attrs) (label : Label) → compatible (gate_read (mode.Seal key) columns g).bits key.bits fds ≡ true → IsCovered key fds columns (OR g) label
  read_cell g label h = record { sealed = inl refl; gated = λ gate e. (let z : g ≡ gate = cc in ap (λ (x : Attrs). compatible (gate_read (mode.Seal key) columns x).bits key.bits fds) (sym z) ∙ h) }

  covered_seal : (note : Note) (other : Attrs) → nat_eq key.bits other.bits ≡ true → cell note (Seal other) ≡ true → IsCovered key fds columns note (Seal other)
  covered_seal CR other same h = record { sealed = inr (one_key key other same); gated = λ gate e. no_gate gate e }
  covered_seal CW other same h = record { sealed = inr (one_key key other same); gated = λ gate e. no_gate gate e }
  covered_seal (OR g) other same h = read_cell g (Seal other) h
  covered_seal (OW g) other same h = by (is_awaited (mode.Seal key) other && compatible (gate_read (mode.Seal key) columns g).bits other.bits fds) h
    where
      by : (fits : Bool) → is_covered key fds (if fits then path.NdRead (gate_read (mode.Seal key) columns g) (base.Seal other) else path.Taint) ≡ true → IsCovered key fds columns (OW g) (Seal other)
      by true h = record { sealed = inr (one_key key other same); gated = λ gate e. (let z : g ≡ gate = cc in ap (λ (x : Attrs). compatible (gate_read (mode.Seal key) columns x).bits key.bits fds) (sym z) ∙ h) }
      by false h = absurd (true≢false (sym h))

  covered_async : (note : Note) (label : Label) → cell note Async ≡ true → IsCovered key fds columns note label
  covered_async CR label h = absurd (true≢false (sym h))
  covered_async CW label h = absurd (true≢false (sym h))
  covered_async (OR g) label h = read_cell g label h
  covered_async (OW g) label h = absurd (true≢false (sym h))

  covered_run : (note : Note) (label : Label) → cell note Run ≡ true → IsCovered key fds columns note label
  covered_run CR label h = absurd (true≢false (sym h))
  covered_run CW label h = absurd (true≢false (sym h))
  covered_run (OR g) label h = read_cell g label h
  covered_run (OW g) label h = absurd (true≢false (sym h))

  covered_inst : {P : Type 0} (note : Note) → cell note Inst ≡ true → P
  covered_inst CR h = absurd (true≢false (sym h))
  covered_inst CW h = absurd (true≢false (sym h))
  covered_inst (OR g) h = absurd (true≢false (sym h))
  covered_inst (OW g) h = absurd (true≢false (sym h))

  covered_diverge : {P : Type 0} (note : Note) → cell note Diverge ≡ true → P
  covered_diverge CR h = absurd (true≢false (sym h))
  covered_diverge CW h = absurd (true≢false (sym h))
  covered_diverge (OR g) h = absurd (true≢false (sym h))
  covered_diverge (OW g) h = absurd (true≢false (sym h))

  pub covered_tells : (note : Note) (label : Label) → is_covered key fds (pass_path label note columns (mode.Seal key) fds) ≡ true → IsCovered key fds columns note label
  covered_tells note (Seal other) h = by (nat_eq key.bits other.bits) refl h
    where
      by : (same : Bool) → nat_eq key.bits other.bits ≡ same → cell note (if same then Seal other else Async) ≡ true → IsCovered key fds columns note (Seal other)
      by true e h = covered_seal note other e h
      by false e h = covered_async note (Seal other) h
  covered_tells note Async h = covered_async note Async h
  covered_tells note Run h = covered_run note Run h
  covered_tells note Inst h = covered_inst note h
  covered_tells note Diverge h = covered_diverge note h

-- ---- in mode Free nothing becomes Seal

taint_never : (replicated : Bool) (key : Attrs) → settled_taint replicated ≡ Seal key → ⊥
taint_never true key h = absurd cc
taint_never false key h = absurd cc

read_never : (replicated : Bool) (key : Attrs) → unprotected replicated ≡ Seal key → ⊥
read_never true key h = absurd cc
read_never false key h = absurd cc

pub free_never_seal : (columns : Attrs) (fds : List Fd) (replicated : Bool) (note : Note) (label : Label) (key : Attrs) → settled false replicated (pass_path label note columns mode.Free fds) ≡ Seal key → ⊥
free_never_seal columns fds replicated CR (Seal k) key h = absurd cc
free_never_seal columns fds replicated CR Async key h = absurd cc
free_never_seal columns fds replicated CR Run key h = absurd cc
free_never_seal columns fds replicated CR Inst key h = absurd cc
free_never_seal columns fds replicated CR Diverge key h = absurd cc
free_never_seal columns fds replicated CW (Seal k) key h = absurd cc
free_never_seal columns fds replicated CW Async key h = absurd cc
free_never_seal columns fds replicated CW Run key h = absurd cc
free_never_seal columns fds replicated CW Inst key h = taint_never replicated key h
free_never_seal columns fds replicated CW Diverge key h = absurd cc
free_never_seal columns fds replicated (OR gate) (Seal k) key h = read_never replicated key h
free_never_seal columns fds replicated (OR gate) Async key h = read_never replicated key h
free_never_seal columns fds replicated (OR gate) Run key h = read_never replicated key h
free_never_seal columns fds replicated (OR gate) Inst key h = absurd cc
free_never_seal columns fds replicated (OR gate) Diverge key h = absurd cc
free_never_seal columns fds replicated (OW gate) (Seal k) key h = taint_never replicated key h
free_never_seal columns fds replicated (OW gate) Async key h = taint_never replicated key h
free_never_seal columns fds replicated (OW gate) Run key h = taint_never replicated key h
free_never_seal columns fds replicated (OW gate) Inst key h = taint_never replicated key h
free_never_seal columns fds replicated (OW gate) Diverge key h = absurd cc
