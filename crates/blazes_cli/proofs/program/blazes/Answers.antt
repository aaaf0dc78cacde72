use Rattle.std.proofs.Common.{◌≡◌, ◌≢◌, None, map, string_bytes, subst}
use Rattle.blz_outside.specs.Counts.{Rose}
use Rattle.blazes_commands.specs.Runs.Bench.{bench_states}
use Rattle.command_checks.specs.Ran.{answer_of}
use Rattle.command_checks.specs.Ends.{files_states, source}
use Rattle.blazes_cli.specs.Outcome.{sink_states, IsSaid, IsUsageOrLost, IsReadFaultOrLost, Misses}
use Rattle.blazes_words.specs.Words.{request_of}
use Rattle.command_checks.specs.declared.status.Status.TheVariants.{Usage, ReadFault}
use Rattle.blazes_cli.proofs.ReplyLemmas as lem
use Rattle.blazes_cli.proofs.program.blazes.Goals as goal

pub returns-in-Ok : goal.returns-in-Ok
returns-in-Ok g c =
    let words = map string_bytes c.args.words.now in
    let asked = request_of words in
    let held = g.F.Files.held c.args.files.now in
    let files = files_states (source held (g.F.Files.steady c.args.files.now) (g.F.Files.faults c.args.files.now))
    (source (g.F.Files.held c.reply_to.new.files) (g.F.Files.steady c.reply_to.new.files) (g.F.Files.faults c.reply_to.new.files)) in
    let sink = sink_states (g.K.Sink.written c.args.out.now) (g.K.Sink.written c.say.new.out) (g.K.Sink.room c.args.out.now) (g.K.Sink.room c.say.new.out)
    (g.K.Sink.faults c.args.out.now) (g.K.Sink.faults c.say.new.out) in
    let bench = bench_states (map (λ b. (goal.Component-dyn g (b.vtable, b.value)).kind b.value) c.args.bench.now.items) (map (λ b. (goal.Component-dyn g (b.vtable, b.value)).kind b.value) c.reply_to.new.bench.items) (map (λ b. (goal.Component-dyn g (b.vtable, b.value)).program b.value) c.reply_to.new.bench.items) (map (λ b. (goal.Component-dyn g (b.vtable, b.value)).kept b.value) c.reply_to.new.bench.items) in
    let answer = answer_of c.in-Ok.reply in
    let result = c.say.result in
    let reply = c.in-Ok.ensures.reply in
    let counts = lem.reply_counts asked files bench answer reply in
    let said = subst (λ text. IsSaid sink answer.status text result) c.deref.ensures.value c.say.ensures in
    record {
      outcome = lem.outcome words files bench sink answer result reply said;
      bench = λ some. c.in-Ok.ensures.kinds;
      usage = lem.said (λ s. s ≡ Usage → asked ≡ None) sink answer.status answer.text result said (lem.reply_usage asked files bench answer reply) (λ is. absurd (cc));
      unmatched = λ none. lem.said IsUsageOrLost sink answer.status answer.text result said (lem.reply_unmatched asked files bench answer reply none) tt;
      read = lem.said (λ s. s ≡ ReadFault → Rose files.before.faults files.after.faults) sink answer.status answer.text result said
          (lem.rose files answer.status counts) (λ is. absurd (cc));
      read_counted = λ more. lem.said IsReadFaultOrLost sink answer.status answer.text result said (lem.counted files answer.status counts more) tt;
      steady_held = λ steady. lem.if_told held (λ held. ¬ Misses bench.kinds held words → result ≢ ReadFault) (λ held is missed.
          lem.said (λ s. s ≢ ReadFault) sink answer.status answer.text result said (lem.reply_held asked files bench answer held reply steady is missed) (λ is. absurd (cc)));
      steady_absent = λ steady. lem.if_told held (λ held. Misses bench.kinds held words → IsReadFaultOrLost result) (λ held is missed.
          lem.said IsReadFaultOrLost sink answer.status answer.text result said (lem.reply_absent asked files bench answer held reply steady is missed) tt);
      write = lem.write_rose files sink answer.status answer.text result counts said;
      write_counted = lem.write_counted sink answer.status answer.text result said;
    }
