use Rattle.std.proofs.Common.{◌≡◌, ◌≤◌, IfSome, length, vec_len, arith}
use Rattle.blz_outside.specs.Counts.{Rose}
use Rattle.blz_outside.specs.Files.{told_bytes}
use Rattle.command_checks.specs.Ends.{source}
use Rattle.command_checks.proofs.FileLemmas.{file_whole, on_whole, told_after, more_told, stop_longer, on_failed, none_told, stop_failed}
use Rattle.command_checks.proofs.file.read_file.Goals as goal

pub returns-in-Ok-Whole : goal.returns-in-Ok-Whole
returns-in-Ok-Whole g c =
    let name = c.args.name.now in
    let a = source (g.F.Files.held c.args.files.now) (g.F.Files.steady c.args.files.now) (g.F.Files.faults c.args.files.now) in
    let b = source (g.F.Files.held c.read.new.self) (g.F.Files.steady c.read.new.self) (g.F.Files.faults c.read.new.self) in
    let told = told_bytes (g.F.Files.held c.args.files.now) name in
    let end = c.in-Ok-Whole.field-0 in
    let bytes = c.read.new.into.items in
    let short : vec_len c.read.new.into ≤ c.args.most = on_whole end (vec_len c.read.new.into ≤ c.args.most) c.in-Ok-Whole.field-0-is c.in-Ok-Whole.ensures.whole_within in
    let few : length bytes ≤ c.args.most = omega (arith, short, c.read.new.into.ok.0) in
    record {
      ran = file_whole a b c.args.most name bytes (λ i. record { held = c.read.ensures.held i; steady = c.read.ensures.steady i }) c.in-Ok-Whole.ensures.others_keep few
          (on_whole end (IfSome told (λ held. bytes ≡ held)) c.in-Ok-Whole.field-0-is c.in-Ok-Whole.ensures.whole_bytes)
          (λ steady. told_after told end (c.in-Ok-Whole.ensures.steady_absent steady));
      within = few;
    }

pub returns-in-Ok-More-clause-ran : goal.returns-in-Ok-More-clause-ran
returns-in-Ok-More-clause-ran g c =
    let name = c.args.name.now in
    let a = source (g.F.Files.held c.args.files.now) (g.F.Files.steady c.args.files.now) (g.F.Files.faults c.args.files.now) in
    let b = source (g.F.Files.held c.read.new.self) (g.F.Files.steady c.read.new.self) (g.F.Files.faults c.read.new.self) in
    let told = told_bytes (g.F.Files.held c.args.files.now) name in
    stop_longer a b c.args.most name c.too_long.result c.too_long.ensures
    (λ i. record { held = c.read.ensures.held i; steady = c.read.ensures.steady i }) c.in-Ok-More.ensures.others_keep
    (more_told told c.args.most c.in-Ok-More.field-0 c.in-Ok-More.field-0-is c.in-Ok-More.ensures.more_longer)
    (λ steady. told_after told c.in-Ok-More.field-0 (c.in-Ok-More.ensures.steady_absent steady))

pub returns-in-Err-Failed-clause-ran : goal.returns-in-Err-Failed-clause-ran
returns-in-Err-Failed-clause-ran g c =
    let name = c.args.name.now in
    let a = source (g.F.Files.held c.args.files.now) (g.F.Files.steady c.args.files.now) (g.F.Files.faults c.args.files.now) in
    let b = source (g.F.Files.held c.read.new.self) (g.F.Files.steady c.read.new.self) (g.F.Files.faults c.read.new.self) in
    let told = told_bytes (g.F.Files.held c.args.files.now) name in
    let fault = c.in-Err-Failed.field-0 in
    stop_failed a b c.args.most name c.failed.result c.failed.ensures (λ i. record { held = c.read.ensures.held i; steady = c.read.ensures.steady i })
    (on_failed fault (Rose a.faults b.faults) c.in-Err-Failed.field-0-is c.in-Err-Failed.ensures.failed_rose)
    (λ steady. none_told told fault c.in-Err-Failed.field-0-is (c.in-Err-Failed.ensures.steady_held steady))
