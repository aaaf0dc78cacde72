-- A protected output waits for its key at each port.
use Rattle.std.proofs.Common.{◌≡◌, ◌<◌, inl, inr, ℕ, Bool, true, false, not, nat_eq, if◌then◌else◌, Some, List, length, refl, sym, subst, ◌∙◌}
use Rattle.std.specs.List.{list_all}
use Rattle.std.proofs.lemmas.Bool.{cases_Bool, true≢false}
use Rattle.blz_value.specs.Members.{Has}
use Rattle.blz_value.specs.declared.attrs.Attrs.{Attrs}
use Rattle.blz_value.specs.declared.attrs.Fd.{Fd}
use Rattle.blz_value.specs.Closure.{within, closure, compatible}
use Rattle.blz_value.proofs.Within.{within-trans, within-empty}
use Rattle.bloom_forms.specs.declared.note.Note.{Note}
use Rattle.bloom_forms.specs.declared.note.Note.TheVariants.{CR, CW, OR, OW}
use Rattle.bloom_forms.specs.declared.mode.Mode.{Mode}
use Rattle.bloom_forms.specs.declared.mode.Mode.TheVariants as mode
use Rattle.topo_forms.specs.Carried.{carries_key}
use Rattle.topo_forms.specs.Dependencies.{usable_fds}
use Rattle.topo_forms.specs.Valid.{IsValid}
use Rattle.topo_forms.specs.View.{View, End, no_attrs, mode_of, note_at, has_stream, port_attrs, streams_to}
use Rattle.label_rules.specs.declared.label.Label.{Label}
use Rattle.label_rules.specs.declared.label.Label.TheVariants.{Seal}
use Rattle.label_rules.specs.declared.label.PathLabel.{PathLabel}
use Rattle.label_rules.specs.PathTable.{pass_path}
use Rattle.label_rules.specs.Reconciliation.{is_covered, is_protected}
use Rattle.label_walk.specs.Labels.{AreLabels}
use Rattle.label_walk.specs.Paths.{label_at, path_label, output_paths}
use Rattle.confluence.specs.LabelMeaning.{IsPath, IsGuarded, WaitsFor, is_ordered_read}
use Rattle.confluence.specs.Laws.{ProtectedMeansGuarded}
use Rattle.confluence.proofs.Labels.Cells.{IsCovered, covered_tells}
use Rattle.confluence.proofs.Labels.Paths.{has_path}
use Rattle.confluence.proofs.Labels.SealLaw.{seal_carries}
use Rattle.blz_value.proofs.Membership.{all_member, all_from}
use Rattle.blz_value.proofs.Booleans.{and_true, both_true}
use Rattle.inbox.proofs.Streams.IntoPorts.{Leads, leads, some_stream, has_some, into_port, attrs_into}
use Rattle.inbox.proofs.Streams.CarriedKeys.{stream_key_law, carries-from}
use Rattle.inbox.proofs.Dependencies.JointLaw.{closure_law}

-- a compatible key lies in the closure
compatible_within : (gate key : ℕ) (fds : List Fd) → compatible gate key fds ≡ true → within key (closure gate fds) ≡ true
unfolding compatible
compatible_within gate key fds e = (both_true (not (nat_eq key 0)) (within key (closure gate fds)) e).1

module _ (v : View) (labels : List Label) (output : End) (valid : IsValid v) (are : AreLabels v labels) (key : Attrs)
    (covered : (one : PathLabel) → Has one (output_paths v labels output.0 output.1) → is_covered key (usable_fds v output.0) one ≡ true) (sealed : mode_of v output.0 ≡ mode.Seal key) where
  abbrev c : ℕ
  c = output.0

  -- each path is covered
  path_covered : (p : ℕ) (note : Note) (s : ℕ) → IsPath v output p note s → IsCovered key (usable_fds v c) (port_attrs v c p) note (label_at labels s)
  path_covered p note s path = covered_tells key (usable_fds v c) (port_attrs v c p) note (label_at labels s)
      (subst (λ (m : Mode). is_covered key (usable_fds v c) (pass_path (label_at labels s) note (port_attrs v c p) m (usable_fds v c)) ≡ true) sealed
      (covered (path_label v labels c p note s) (has_path v valid labels output p note s path)))

  -- a stream that is Seal of the key carries it
  seal_here : (s : ℕ) → s < length v.streams → label_at labels s ≡ Seal key → carries_key v key.bits s ≡ true
  seal_here s lt e = (carries-from v s key (seal_carries v valid labels s key are lt e)).1

  -- the port has the columns of the key
  has_columns : (p : ℕ) (note : Note) (s : ℕ) → IsPath v output p note s → within key.bits (port_attrs v c p).bits ≡ true
  has_columns p note s path =
      let l = leads v c p s path.leads in
      let told = path_covered p note s path in
      elim told.sealed [
        | inr seal ↦ subst (λ (n : ℕ). within key.bits n ≡ true) (sym (attrs_into v valid c p s l.stands l.goes)) (stream_key_law v key.bits s valid l.stands (seal_here s l.stands seal))
        | inl read ↦ elim (cases_Bool (within key.bits (port_attrs v c p).bits)) [
          | inl there ↦ there
          | inr lacks ↦ read_columns note told read lacks
        ]
      ]
    where
      l : Leads v c p s
      l = leads v c p s path.leads

      -- the gate of an OR note would be read as empty
      read_columns : (note : Note) → IsCovered key (usable_fds v c) (port_attrs v c p) note (label_at labels s) → is_ordered_read note ≡ true → within key.bits (port_attrs v c p).bits ≡ false → within key.bits (port_attrs v c p).bits ≡ true
      read_columns CR told read lacks = absurd (true≢false (sym read))
      read_columns CW told read lacks = absurd (true≢false (sym read))
      read_columns (OW gate) told read lacks = absurd (true≢false (sym read))
      read_columns (OR gate) told read lacks =
          let fits : compatible (if within key.bits (port_attrs v c p).bits then gate else no_attrs).bits key.bits (usable_fds v c) ≡ true = told.gated gate refl in
          let empty : compatible 0 key.bits (usable_fds v c) ≡ true = subst (λ (b : Bool). compatible (if b then gate else no_attrs).bits key.bits (usable_fds v c) ≡ true) lacks fits in
          within-trans key.bits (closure 0 (usable_fds v c)) (port_attrs v c p).bits (compatible_within 0 key.bits (usable_fds v c) empty) (closure_law v c p 0 valid (has_some v c p s l) (within-empty (port_attrs v c p).bits))

  waits : (p : ℕ) (note : Note) → has_stream v c p ≡ true → note_at v c p output.1 ≡ Some note → WaitsFor v c p note key
  waits p note has noted =
      let one = some_stream v c p has in
      let path : IsPath v output p note one.0 = record { noted = noted; leads = into_port v c p one.0 one.1.stands one.1.goes } in
      let columns = has_columns p note one.0 path in
      let told = path_covered p note one.0 path in
      record {
        columns = columns;
        carrying = elim (cases_Bool (is_ordered_read note)) [
          | inl read ↦ inr read
          | inr other ↦ inl (and_true (has_stream v c p) (list_all (carries_key v key.bits) (streams_to v c p)) has (all_from (carries_key v key.bits) (streams_to v c p) (λ s leads_in.
              elim (path_covered p note s (record { noted = noted; leads = leads_in })).sealed [
                | inl read ↦ absurd (true≢false (sym read ∙ other))
                | inr seal ↦ seal_here s (leads v c p s leads_in).stands seal
              ])))
        ];
        gated = λ gate is.
            let fits : compatible (if within key.bits (port_attrs v c p).bits then gate else no_attrs).bits key.bits (usable_fds v c) ≡ true = told.gated gate is in
            compatible_within gate.bits key.bits (usable_fds v c) (subst (λ (b : Bool). compatible (if b then gate else no_attrs).bits key.bits (usable_fds v c) ≡ true) columns fits);
      }

pub protected_guarded : ProtectedMeansGuarded
protected_guarded v labels output valid are kept = by (mode_of v output.0) refl kept
  where
    by : (m : Mode) → mode_of v output.0 ≡ m → is_protected (output_paths v labels output.0 output.1) m (usable_fds v output.0) ≡ true → IsGuarded v output
    by mode.Free q h = absurd (true≢false (sym h))
    by (mode.Pass key) q h = absurd (true≢false (sym h))
    by (mode.Seal key) q h = record {
      key = key;
      sealed = q;
      waits = waits v labels output valid are key (λ one has. all_member (is_covered key (usable_fds v output.0)) (output_paths v labels output.0 output.1) one h has) q;
    }
    by mode.Order q h = absurd (true≢false (sym h))
