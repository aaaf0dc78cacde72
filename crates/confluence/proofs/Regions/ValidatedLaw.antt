-- What validation has accepted is valid, and so its labels are sound.
use Rattle.std.proofs.Common.{List, subst, sym}
use Rattle.bloom_forms.specs.Form.{Accepted}
use Rattle.topo_forms.specs.Valid.{IsValid, Validated, IsValidated}
use Rattle.topo_forms.proofs.Views.ValidViews.{valid_law}
use Rattle.confluence.specs.Laws.{ValidatedLabelsAreSound, ValidatedLabelsSurviveRestarts}
use Rattle.confluence.proofs.Regions.RegionLaw.{region_law}
use Rattle.confluence.proofs.Regions.Induction.{strong_law}

pub validated_is_valid : (modules : List Accepted) (seen : Validated) → IsValidated modules seen → IsValid seen.view
validated_is_valid modules seen h = subst IsValid (sym h.is) (valid_law seen.topology modules h.allowed h.given h.clean)

pub sound_labels : ValidatedLabelsAreSound
sound_labels modules seen labels h are = region_law seen.view labels (validated_is_valid modules seen h) are

pub restart_labels : ValidatedLabelsSurviveRestarts
restart_labels modules seen labels h are = strong_law seen.view labels (validated_is_valid modules seen h) are
