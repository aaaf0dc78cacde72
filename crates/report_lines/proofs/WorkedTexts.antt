-- The texts of worked topologies.
use Rattle.std.proofs.Common.{◌≡◌, refl, arith, ◌++◌, [], ◌∷◌}
use Rattle.std.specs.Prelude.{codes}
use Rattle.std.specs.Fmt.{decimal}
use Rattle.std.proofs.lemmas.Fmt.{decimal_digit}
use Rattle.blz_value.specs.Bits.{bit_of, meets}
use Rattle.blz_value.specs.Closure.{within, closure, step, compatible}
use Rattle.topo_forms.specs.Carried.{carries, carriers}
use Rattle.topo_forms.specs.Dependencies.{usable_fds, upholders}
use Rattle.topo_forms.specs.Regions.{region_set, regions, is_in_cycle}
use Rattle.topo_forms.specs.ViewOf.{view_of}
use Rattle.topo_forms.proofs.Worked.Gossip.{gossip, telling, grouping}
use Rattle.topo_forms.proofs.Worked.WordCount.{word_count_with, free_at, sealed_at}
use Rattle.label_walk.specs.Labels.{labels_of}
use Rattle.report_lines.specs.DeriveText.{derive_text, region_uses, cycle_line}
use Rattle.report_lines.specs.LabelText.{label_text}
use Rattle.report_lines.specs.Words.{set_text}

one : decimal 1 ≡ 49 ∷ []
one = decimal_digit 1 (omega arith)

three : decimal 3 ≡ 51 ∷ []
three = decimal_digit 3 (omega arith)

-- word count at one replica
pub word_count_labels : label_text (word_count_with (free_at 1)) (labels_of (word_count_with (free_at 1)))
    ≡ codes "tweets Seal[batch]\nwords Async\ncounts Run\ncommits Run\n"
unfolding set_text region_uses cycle_line labels_of regions region_set is_in_cycle carries carriers usable_fds upholders compatible bit_of meets within closure step
word_count_labels = refl

pub word_count_derived : derive_text (word_count_with (free_at 1)) (labels_of (word_count_with (free_at 1)))
    ≡ codes "source tweets Seal[batch]\ncomponent split free 1\n  path in out CR\n  use tweets Seal[batch] in CR kept\n  out words Async\n"
    ++ codes "component count free 1\n  path words counts OW[batch, word]\n  use words Async words OW[batch, word] rule 2\n  out counts Run\n"
    ++ codes "component commit free 1\n  path counts commits CW\n  use counts Run counts CW kept\n  out commits Run\n"
unfolding set_text region_uses cycle_line labels_of regions region_set is_in_cycle carries carriers usable_fds upholders compatible bit_of meets within closure step
word_count_derived = rw one refl

-- planned, at three replicas
pub word_count_planned : derive_text (word_count_with (sealed_at 3)) (labels_of (word_count_with (sealed_at 3)))
    ≡ codes "source tweets Seal[batch]\ncomponent split pass[batch] 1\n  path in out CR\n  use tweets Seal[batch] in CR kept\n  out words Seal[batch]\n"
    ++ codes "component count seal[batch] 3\n  path words counts OW[batch, word]\n  use words Seal[batch] words OW[batch, word] rule 5\n  out counts Seal[batch] protected\n"
    ++ codes "component commit pass[batch] 3\n  path counts commits CW\n  use counts Seal[batch] counts CW kept\n  out commits Seal[batch]\n"
unfolding set_text region_uses cycle_line labels_of regions region_set is_in_cycle carries carriers usable_fds upholders compatible bit_of meets within closure step
word_count_planned = rw (one, three) refl

-- a cycle with a member that groups
pub gossip_derived : derive_text (view_of gossip (telling ∷ grouping ∷ [])) (labels_of (view_of gossip (telling ∷ grouping ∷ [])))
    ≡ codes "source news Async\n"
    ++ codes "component a free 1\n  path told tells CW\n  cycle a b\n  use news Async told OW[] rule 2\n  out ta Run\n"
    ++ codes "component b free 1\n  path told tells OW[item]\n  cycle a b\n  use news Async told OW[] rule 2\n  out tb Run\n"
unfolding set_text region_uses cycle_line view_of labels_of regions region_set is_in_cycle carries carriers usable_fds upholders compatible bit_of meets within closure step
gossip_derived = rw one refl
