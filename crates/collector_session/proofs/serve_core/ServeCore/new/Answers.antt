use Rattle.std.proofs.Common.{List, [], ◌++◌, ℕ, refl, sym, ap, subst, ◌∙◌}
use Rattle.std.specs.Prelude.{IsTrue}
use Rattle.pb_batch.specs.Written.{written}
use Rattle.pb_batch.specs.declared.kind.BatchKind.TheVariants as kinds
use Rattle.pb_machine.specs.Table.{may_send, sent}
use Rattle.session_rules.specs.Messages.{client_batch}
use Rattle.collector_session.specs.declared.standing.Standing.{Standing}
use Rattle.collector_session.proofs.Beginning.{new_begins, new_core}
use Rattle.collector_session.proofs.serve_core.ServeCore.new.Goals as goal

pub begin-requires : goal.begin-requires
begin-requires c = record { may = subst (λ (s : Standing). IsTrue (may_send s.machine kinds.Cdata)) (sym c.new-standing.ensures.made) refl }

pub returns-clause-stood : goal.returns-clause-stood
returns-clause-stood c =
    new_begins c.args.config.now c.begin.new.machine c.begin.new.out (c.in_ok-begin.ensures.sent ∙ ap (λ (s : Standing). sent s.machine kinds.Cdata) c.new-standing.ensures.made)
    c.new-standing.result c.new-feed.result c.new-standing.ensures.made c.new-feed.ensures.made
    (c.in_ok-begin.ensures.written ∙ ap (λ (o : List ℕ). o ++ written (client_batch kinds.Cdata [])) c.new-out.ensures.empty)

pub returns-clause-live : goal.returns-clause-live
returns-clause-live c = ap (λ (s : Standing). s.over) c.new-standing.ensures.made

pub invariant_of-result : goal.invariant_of-result
invariant_of-result c =
    new_core c.args.config.now c.begin.new.machine c.begin.new.out (c.in_ok-begin.ensures.sent ∙ ap (λ (s : Standing). sent s.machine kinds.Cdata) c.new-standing.ensures.made)
    c.new-standing.result c.new-feed.result c.new-standing.ensures.made c.new-feed.ensures.made c.requires.max c.requires.idle c.requires.octets
