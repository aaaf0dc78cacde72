-- Word count, planned, with two replicas of count and commit: it is valid, each of its streams has the label Seal, and its data hold its dependencies.
use Rattle.std.proofs.Common.{◌≡◌, ◌<◌, refl, subst, ℕ, zero, suc, pos, length, List, [], ◌∷◌, inl, inr, None, Some, codes, arith}
use Rattle.std.proofs.lemmas.List.Elements.{All-nil, All-from_recursion}
use Rattle.blz_value.specs.declared.value.Value.{Value}
use Rattle.blz_value.specs.declared.value.Value.TheVariants as value
use Rattle.blz_value.specs.Members.{Has}
use Rattle.blz_value.specs.Bits.{bit_of, meets}
use Rattle.blz_value.specs.Closure.{within, closure, step, compatible}
use Rattle.bloom_forms.specs.Checks.{IsChecked}
use Rattle.bloom_forms.specs.Form.{Accepted}
use Rattle.topo_forms.specs.declared.topology.Body.TheVariants as body
use Rattle.topo_forms.specs.declared.topology.ColumnType.TheVariants as column
use Rattle.topo_forms.specs.declared.topology.ModeName.TheVariants as written
use Rattle.topo_forms.specs.declared.topology.Topology.{Topology}
use Rattle.topo_forms.specs.Carried.{carries, carriers}
use Rattle.topo_forms.specs.Data.{Data, IsData, Holds, FitsSource, source_data, key_width}
use Rattle.topo_forms.specs.Dependencies.{usable_fds, upholders}
use Rattle.topo_forms.specs.Regions.{region_set, regions, is_in_cycle}
use Rattle.topo_forms.specs.Valid.{IsValid, AreModules}
use Rattle.topo_forms.specs.Validity.{fault_of}
use Rattle.topo_forms.specs.View.{View, stream_at}
use Rattle.topo_forms.specs.ViewOf.{view_of}
use Rattle.topo_forms.proofs.Views.ValidViews.{valid_law}
use Rattle.topo_forms.proofs.Worked.WordCount.{word_count, word_count_with, sealed_at, batch, count_module, commit_module, splitting, bodied, spot}
use Rattle.label_rules.specs.declared.label.Label.{Label}
use Rattle.label_rules.specs.declared.label.Label.TheVariants.{Seal}
use Rattle.label_walk.specs.Labels.{AreLabels, labels_of}
use Rattle.label_walk.proofs.Labelling.RegionByRegion.{has_labels}
use Rattle.confluence.proofs.Worked.Modules.{count_checked, commit_checked}

abbrev pub modules : List Accepted
modules = count_module ∷ commit_module ∷ []

abbrev by_batch : List (List ℕ)
by_batch = codes "batch" ∷ []

-- split and commit pass the seals of batch, and count waits for them
abbrev pub planned : Topology
planned = record word_count {
  sources = record { name = codes "tweets"; columns = codes "id" ∷ codes "text" ∷ codes "batch" ∷ []; types = column.Int ∷ column.Text ∷ column.Int ∷ []; seal = by_batch; to = spot (codes "split") (codes "in") ∷ [] } ∷ [];
  components =
      record splitting { mode = written.Pass; key = by_batch }
      ∷ record (bodied (codes "count") (body.Module (codes "count.bloom"))) { replicas = pos 2; mode = written.Seal; key = by_batch }
      ∷ record (bodied (codes "commit") (body.Module (codes "commit.bloom"))) { replicas = pos 2; mode = written.Pass; key = by_batch }
      ∷ [];
}

-- its view
abbrev pub v : View
v = word_count_with (sealed_at 2)

view_is : view_of planned modules ≡ v
unfolding view_of bit_of meets within closure step
view_is = refl

no_fault : fault_of planned modules ≡ None
unfolding fault_of view_of is_in_cycle region_set bit_of meets within closure step
no_fault = refl

are_modules : AreModules planned modules
are_modules = record { each = refl; checked = each }
  where
    each : (m : Accepted) → Has m modules → IsChecked m.form m.heads
    each m (inl e) = subst (λ (a : Accepted). IsChecked a.form a.heads) e count_checked
    each m (inr (inl e)) = subst (λ (a : Accepted). IsChecked a.form a.heads) e commit_checked
    each m (inr (inr none)) = absurd none

pub valid : IsValid v
valid = subst IsValid view_is (valid_law planned modules refl are_modules no_fault)

-- ---- labels

abbrev pub labels : List Label
labels = Seal batch ∷ Seal batch ∷ Seal batch ∷ Seal batch ∷ []

computed : labels_of v ≡ labels
unfolding labels_of regions region_set is_in_cycle carries carriers usable_fds upholders compatible bit_of meets within closure step
computed = refl

pub are_labels : AreLabels v labels
are_labels = subst (AreLabels v) computed (has_labels v valid)

-- ---- data

abbrev pub int : ℕ → Value
int n = value.Int (pos n)

abbrev pub text : List ℕ → Value
text t = value.Text t

-- three tweets in two batches
abbrev pub tweets : Data
tweets = record { rows = (int 1 ∷ text (codes "a b a") ∷ int 1 ∷ []) ∷ (int 2 ∷ text (codes "b") ∷ int 1 ∷ []) ∷ (int 3 ∷ text (codes "a") ∷ int 2 ∷ []) ∷ []; parts = [] } ∷ []

pub is_data : IsData v tweets
is_data = record { each = refl; fit = fits }
  where
    fits : (s : ℕ) → s < 1 → FitsSource (stream_at v s) (source_data tweets s)
    fits zero lt = record {
      rows = All-from_recursion (λ row. length row ≡ 3) (source_data tweets 0).rows (refl, (refl, (refl, tt)));
      parts = All-nil (λ part. length part ≡ key_width (stream_at v 0).key);
      none = λ e. let bad : Some batch ≡ None = e in cc;
    }
    fits (suc s) lt = absurd (omega (arith, lt))

-- no dependency is declared
pub holds : Holds v tweets
holds fd h = absurd h
