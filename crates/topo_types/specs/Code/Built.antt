-- Components with their bodies as the code holds them, and what the making of a view asks of them.
use Rattle.std.specs.Prelude.{◌≡◌, ◌≤◌, Option, None, Some, List, map, length}
use Rattle.bloom_forms.specs.declared.program.Program.{Program}
use Rattle.bloom_forms.specs.Program.{IsStock}
use Rattle.topo_types.specs.declared.view.sites.Site as declared
use Rattle.topo_forms.specs.Sites.{Site, ports_with, outputs_with}
use Rattle.topo_forms.specs.ViewOf.{count_from}

abbrev pub site_seen : declared.Site → Site
site_seen site = record { entry = site.entry.now; program = site.program; ports = site.ports; outputs = site.outputs }

abbrev pub sites_seen : List declared.Site → List Site
sites_seen sites = map site_seen sites

-- a stock body has at most eight columns, and what it names is among them
abbrev pub RunsStock : Option Program → Type 0
RunsStock None = Unit {0}
RunsStock (Some program) = IsStock program

-- a component has its program's ports and outputs, or those declared, and few of them, and few replicas
pub record IsBuilt (site : Site) : Type 0 where
  pub ports : site.ports ≡ ports_with site.entry site.program
  pub outputs : site.outputs ≡ outputs_with site.entry site.program
  pub few_ports : length site.ports ≤ 8
  pub few_outputs : length site.outputs ≤ 8
  pub few_replicas : count_from site.entry.replicas ≤ 8
  pub stock : RunsStock site.program
