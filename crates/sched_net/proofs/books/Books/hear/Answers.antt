use Rattle.std.proofs.Common.{◌<◌, [], ◌∷◌, ℕ, List, length, refl, subst, ap, arith}
use Rattle.std.specs.Prelude.{Result, Ok, Err, IfErr}
use Rattle.inbox.specs.Events.{Part}
use Rattle.messages.specs.Ids.{message_with_id}
use Rattle.inbox.specs.Wiring.{instance_for, feeds_for}
use Rattle.inbox.specs.SetOffs.{set_off_read}
use Rattle.inbox.specs.declared.set_off.SetOffIds.{SetOffIds}
use Rattle.messages.specs.declared.message.Message.{Message}
use Rattle.messages.specs.Lists.{read_lists}
use Rattle.messages.specs.declared.fault.EventFault.{EventFault}
use Rattle.messages.proofs.FaultLemmas.{handed_on}
use Rattle.sched_net.specs.Code.Hearing.{OneHears}
use Rattle.sched_net.specs.Code.Parts.{PairAnswers, PairsAnswer, StandsAt}
use Rattle.sched_net.specs.declared.parts.Pairs.{Pairs}
use Rattle.inbox.specs.Places.{instance_place}
use Rattle.sched_net.proofs.PartsFound.{refused_alone, refused_alike, pair_alone, all_pushed}
use Rattle.sched_net.proofs.books.Books.hear.Goals as goal

pub returns-in_err-pair-clause-refused : goal.returns-in_err-pair-clause-refused
returns-in_err-pair-clause-refused c =
    handed_on (λ (r : Result SetOffIds EventFault). IfErr r (λ fault. PairsAnswer c.args.valid.now.view c.args.self.now c.args.component c.args.replica c.args.parts.now (Err fault) (λ (pairs : List (ℕ × Message)). pairs))) c.from_residual.result c.in_err-pair.field-0.0 c.from_residual.ensures.1
    (refused_alone c.args.valid.now.view c.args.self.now c.args.component c.args.replica c.args.parts.now c.part-item.result (omega (arith, c.in-len1.len_at_least)) c.part-item.is (λ (pairs : List (ℕ × Message)). pairs) c.in_err-pair.field-0.0
    (subst (λ (p : Part). PairAnswers c.args.valid.now.view c.args.self.now c.args.component c.args.replica p (Err c.in_err-pair.field-0.0)) c.part.view_is c.in_err-pair.ensures.pair))

-- one part is heard
pub returns-in-len1-clause-heard : goal.returns-in-len1-clause-heard
returns-in-len1-clause-heard c =
    let pair = c.in_ok-pair.pair in
    record {
      pairs = pair ∷ [];
      indexes = (pair.0, c.part.inside.index) ∷ [];
      are = pair_alone c.args.valid.now.view c.args.self.now c.args.component c.args.replica c.args.parts.now c.part-item.result (omega (arith, c.in-len1.len_at_least)) c.part-item.is pair.0 pair.1 c.part.inside.index (omega (arith, c.in-len1.len_below))
          (subst (λ (p : Part). PairAnswers c.args.valid.now.view c.args.self.now c.args.component c.args.replica p (Ok pair)) c.part.view_is c.in_ok-pair.ensures.pair)
          (subst (λ (p : Part). StandsAt c.args.valid.now.view (instance_for c.args.valid.now.view c.args.component c.args.replica) (read_lists c.args.self.now.lists) pair.0 p.sent.index (message_with_id c.args.self.now.lists.records pair.1)) c.part.view_is c.in_ok-pair.ensures.index)
          (ap (λ (p : Part). p.sent.index) c.part.view_is);
      feeds = all_pushed (λ (p : ℕ × Message). p.0 < length (feeds_for c.args.valid.now.view c.args.component c.args.replica)) [] (pair ∷ []) pair refl (λ k d less. absurd (omega (arith, less))) c.in_ok-pair.ensures.feed;
      heard = c.in_ok-hear_pairs.ensures.seats;
    }

-- the first of several that is refused
pub returns-in_err-heard-clause-refused : goal.returns-in_err-heard-clause-refused
returns-in_err-heard-clause-refused c =
    handed_on (λ (r : Result SetOffIds EventFault). IfErr r (λ fault. PairsAnswer c.args.valid.now.view c.args.self.now c.args.component c.args.replica c.args.parts.now (Err fault) (λ (pairs : List (ℕ × Message)). pairs))) c.from_residual-in_err-heard.result c.in_err-heard.field-0.0 c.from_residual-in_err-heard.ensures.1
    (refused_alike c.args.valid.now.view c.args.self.now c.args.component c.args.replica c.args.parts.now (λ (all : Pairs). all.pairs.items) (λ (pairs : List (ℕ × Message)). pairs) c.in_err-heard.field-0.0 c.in_err-heard.ensures.pairs)

-- several parts are heard
pub returns-clause-heard : goal.returns-clause-heard
returns-clause-heard c =
    let heard = c.in_ok-heard.heard in
    record {
      pairs = heard.pairs.items;
      indexes = heard.indexes.items;
      are = record { are = c.in_ok-heard.ensures.pairs; indexes_are = c.in_ok-heard.ensures.indexes };
      feeds = c.in_ok-heard.ensures.feeds;
      heard = subst (λ (pairs : List (ℕ × Message)). OneHears c.args.self.now.lists.records pairs heard.indexes.items (set_off_read c.args.self.now.lists.records c.in_ok-hear_pairs-2.field-0) (instance_place c.args.valid.now.view c.args.component c.args.replica) c.args.self.now.seats.items c.hear_pairs-2.new.self.seats.items) c.deref.ensures.value
          (subst (λ (indexes : List (ℕ × ℕ)). OneHears c.args.self.now.lists.records c.deref.result.now indexes (set_off_read c.args.self.now.lists.records c.in_ok-hear_pairs-2.field-0) (instance_place c.args.valid.now.view c.args.component c.args.replica) c.args.self.now.seats.items c.hear_pairs-2.new.self.seats.items) c.deref-2.ensures.value
          c.in_ok-hear_pairs-2.ensures.seats);
    }
