-- What a report holds, without its references.
use Rattle.std.specs.Prelude.{List}
use Rattle.topo_forms.specs.View.{View}
use Rattle.label_rules.specs.declared.label.Label.{Label}
use Rattle.report_lines.specs.declared.report.Report.{Report}

abbrev pub view_in : Report → View
view_in report = report.valid.now.view

abbrev pub labels_in : Report → List Label
labels_in report = report.labels.now
