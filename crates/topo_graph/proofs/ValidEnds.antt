-- In a valid topology streams go between components that are there.
use Rattle.topo_forms.specs.Found.{HasEnds}
use Rattle.topo_forms.specs.Valid.{IsValid}
use Rattle.topo_forms.specs.View.{View}

pub has_ends : (v : View) → IsValid v → HasEnds v
has_ends v valid = record {
  few_streams = valid.numbered.few_streams;
  few_components = valid.numbered.few_components;
  origins = λ s output lt is. (valid.numbered.origins s output lt is).0;
  ends = λ s end lt has. (valid.numbered.ends s end lt has).0;
}
