use Rattle.std.proofs.Common.{Some, [], ap, refl}
use Rattle.std.specs.Prelude.{nat_le}
use Rattle.pb_batch.specs.declared.kind.BatchKind.TheVariants as kinds
use Rattle.pb_batch.specs.Written.{written}
use Rattle.pb_machine.proofs.Sending.{may_close}
use Rattle.pb_machine.specs.Table.{Position}
use Rattle.session_rules.specs.declared.end.SessionEnd.TheVariants as end
use Rattle.session_rules.specs.Following.{ends}
use Rattle.session_rules.specs.FollowRules.{closes_if, sends}
use Rattle.session_rules.specs.Messages.{server_batch}
use Rattle.validator_session.specs.Standing.{stand_of}
use Rattle.validator_session.proofs.Ruling.{is_le, not_le}
use Rattle.validator_session.proofs.Sizes.{close_batch}
use Rattle.validator_session.proofs.Speaking.{nothing, wrote_all}
use Rattle.validator_session.proofs.writing.close_if_last.Goals as goal

pub write-requires-clause-batch : goal.write-requires-clause-batch
write-requires-clause-batch c = rw c.new.ensures.empty (close_batch kinds.Close)

pub write-requires-clause-may : goal.write-requires-clause-may
write-requires-clause-may c = may_close c.args.standing.now.machine.role c.args.standing.now.machine.state c.requires.live

pub returns-then-standing-config-clause-goes : goal.returns-then-standing-config-clause-goes
returns-then-standing-config-clause-goes c mirror =
    let s = stand_of c.args.standing.now mirror in
    nothing c.args.out.now c.args.out.now (closes_if s (nat_le c.args.config.now.rounds c.args.standing.now.rounds)) s s
    (ap (closes_if s) (not_le c.args.config.now.rounds c.args.standing.now.rounds c.if-standing-config.true)) refl refl

pub returns-clause-goes : goal.returns-clause-goes
returns-clause-goes c mirror =
    let s = stand_of c.args.standing.now mirror in
    let next = record s { machine = c.write.new.machine; over = Some end.Closed } in
    wrote_all c.args.out.now c.write.new.out (written (server_batch kinds.Close [])) (closes_if s (nat_le c.args.config.now.rounds c.args.standing.now.rounds)) (ends (sends s kinds.Close) end.Closed) next
    (ap (closes_if s) (is_le c.args.config.now.rounds c.args.standing.now.rounds c.if-standing-config.false)) (rw c.new.ensures.empty at c.in_ok-write.ensures.written)
    (ap (λ (m : Position). record s { machine = m; over = Some end.Closed }) c.in_ok-write.ensures.sent)
