-- What is found of a view is what its definitions say, step by step as the code finds it.
use Rattle.std.proofs.Common.{◌≡◌, ℕ, Bool, Option, List, map, ap, ◌∙◌}
use Rattle.std.specs.List.{enumerate_from}
use Rattle.blz_value.specs.declared.attrs.Attrs.{Attrs}
use Rattle.topo_graph.specs.declared.dependencies.Holding.{Holding}
use Rattle.topo_graph.specs.declared.lines.Line.{Line}
use Rattle.blz_value.specs.declared.carried.Path.{Path}
use Rattle.topo_forms.specs.Carried.{carries}
use Rattle.topo_forms.specs.Found.{HasEnds, usable_at}
use Rattle.topo_graph.specs.Code.Lines.{all_into, lines_by, upholders_by, good_set, usable_by, holding_by}
use Rattle.topo_graph.specs.Code.Paths.{paths_by}
use Rattle.blz_value.specs.Carried.{carried_by}
use Rattle.blz_value.proofs.Lists.{map_same, map_twice}
use Rattle.topo_graph.specs.Code.Ports.{all_rows}
use Rattle.topo_forms.specs.Dependencies.{upholders}
use Rattle.topo_forms.specs.Regions.{is_in_cycle}
use Rattle.topo_forms.specs.View.{View, component_numbers, stream_numbers}
use Rattle.topo_graph.proofs.LinesFound.{lines, upholders-same, usable-same}
use Rattle.topo_graph.proofs.PathsFound.{carried-same}

module _ (v : View) (given : HasEnds v) where
  lines_are : (cs : List Bool) (into : List ℕ) (ls : List Line) → cs ≡ map (is_in_cycle v) (component_numbers v) → into ≡ all_into v → ls ≡ lines_by v cs into → ls ≡ lines v given
  lines_are cs into ls one two made = made ∙ (λ i. lines_by v (one i) (two i))

  abbrev Held : (into : List ℕ) → List Line → List Holding → Type 0
  Held into ls held = held ≡ map (holding_by ls into) v.fds

  pub upheld_found : (cs : List Bool) (into : List ℕ) (ls : List Line) (held : List Holding) (upheld : List ℕ) → cs ≡ map (is_in_cycle v) (component_numbers v) → into ≡ all_into v → ls ≡ lines_by v cs into
      → Held into ls held → upheld ≡ map (λ h. h.upheld) held → upheld ≡ map (upholders v) v.fds
  upheld_found cs into ls held upheld one two made found are =
      are
      ∙ ap (map (λ (h : Holding). h.upheld)) found
      ∙ map_twice (λ (h : Holding). h.upheld) (holding_by ls into) v.fds
      ∙ ap (λ (l : List Line). map (upholders_by l) v.fds) (lines_are cs into ls one two made)
      ∙ map_same (upholders_by (lines v given)) (upholders v) (upholders-same v given) v.fds

  pub usable_found : (cs : List Bool) (into : List ℕ) (ls : List Line) (held : List Holding) (usable : List ℕ) → cs ≡ map (is_in_cycle v) (component_numbers v) → into ≡ all_into v → ls ≡ lines_by v cs into
      → Held into ls held → usable ≡ map (λ h. h.usable) held → usable ≡ map (usable_at v) v.fds
  usable_found cs into ls held usable one two made found are =
      are
      ∙ ap (map (λ (h : Holding). h.usable)) found
      ∙ map_twice (λ (h : Holding). h.usable) (holding_by ls into) v.fds
      ∙ ap (λ (l : List Line). map (λ fd. usable_by into (good_set l fd (upholders_by l fd))) v.fds) (lines_are cs into ls one two made)
      ∙ ap (λ (n : List ℕ). map (λ fd. usable_by n (good_set (lines v given) fd (upholders_by (lines v given) fd))) v.fds) two
      ∙ map_same (λ fd. usable_by (all_into v) (good_set (lines v given) fd (upholders_by (lines v given) fd))) (usable_at v) (usable-same v given) v.fds

  pub carried_found : (rows : List (List ℕ)) (found : List ℕ) (ps : List Path) (keys : List (Option Attrs)) → rows ≡ all_rows v → found ≡ map (usable_at v) v.fds → ps ≡ paths_by v rows found → keys ≡ map (carried_by ps) (enumerate_from 0 ps)
      → keys ≡ map (carries v) (stream_numbers v)
  carried_found rows found ps keys one two made are =
      are ∙ ap (λ (p : List Path). map (carried_by p) (enumerate_from 0 p)) (made ∙ (λ i. paths_by v (one i) (two i))) ∙ carried-same v given
