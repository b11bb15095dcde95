-- A core before the first turn, and once octets were carried away.
use Rattle.std.proofs.Common.{◌≡◌, ◌≢◌, ℕ, ◌+◌, ◌≤◌, ◌<◌, false, List, [], ◌++◌, length, refl, sym, ap, subst, ◌∙◌, append_assoc, arith, length-append, length-take}
use Rattle.std.specs.Prelude.{drop, is_some, min, take, ◌-◌, ◌^◌}
use Rattle.std.proofs.lemmas.List.{take-append-drop}
use Rattle.wire_base.specs.Feeding.{More, fresh}
use Rattle.wire_base.specs.Turns.{Turn}
use Rattle.pb_batch.specs.Feeding.{Feed}
use Rattle.pb_batch.specs.Front.{front_of}
use Rattle.pb_batch.proofs.Fronts.{front_none}
use Rattle.pb_machine.specs.declared.machine.Role.TheVariants.{Server}
use Rattle.pb_machine.specs.declared.machine.State.{State}
use Rattle.pb_machine.specs.declared.machine.State.TheVariants.{End, Init}
use Rattle.pb_machine.specs.Table.{Position}
use Rattle.validator_core.specs.Held.{Held}
use Rattle.session_hear.specs.Hearing.{Hears}
use Rattle.session_rules.specs.declared.config.FollowConfig.{FollowConfig}
use Rattle.session_rules.specs.Following.{begin}
use Rattle.validator_session.specs.declared.inner.Inner.{Inner as Core}
use Rattle.validator_session.specs.Core.{Fell, IsCore, Stood, counted_octets, over_of, received_of}
use Rattle.validator_session.specs.Noting.{IsNoted}
use Rattle.validator_session.specs.Standing.{notes_of, stand_of}

-- ---- before the first turn

pub new_stood : (c : FollowConfig) (core : Core) (mirror : Held) → core.end.out ≡ [] → stand_of core.end.standing mirror ≡ begin mirror → core.feed ≡ record { from_server = false; feeding = fresh } → core.quiet ≡ 0
    → core.end.standing.notes.record.sent ≡ 0 → received_of core ≡ 0 → Stood c mirror [] [] core mirror
new_stood c core mirror out stand feed quiet sent received = record {
  gives = λ replies. (refl, out, stand);
  hears = λ on. sym (ap (λ (f : Feed). Hears f.feeding.octets core.quiet (received_of core)) feed ∙ ap (λ (n : ℕ). Hears [] n (received_of core)) quiet ∙ ap (λ (n : ℕ). Hears [] 0 n) received);
  sent = sent;
  received = received;
}

not_at_end : (state : State) → state ≡ Init → state ≢ End
not_at_end state is end = let both : Init ≡ End = sym is ∙ end in absurd cc

pub new_core : (core : Core) → core.feed ≡ record { from_server = false; feeding = fresh } → core.quiet ≡ 0 → received_of core ≡ 0 → core.end.standing.machine ≡ record { role = Server; state = Init } → core.end.standing.rounds ≡ 0
    → IsNoted core.end.standing.notes → 0 < core.end.config.rounds → 0 < core.end.config.idle → 0 < core.end.config.octets → IsCore core
new_core core feed quiet received machine rounds noted some_rounds some_idle some_octets = record {
  client = ap (λ (f : Feed). f.from_server) feed;
  torn = subst (λ (f : Feed). front_of f.from_server f.feeding.octets ≡ More) (sym feed) (front_none false);
  noted = noted;
  live = λ on. record {
    feeding = ap (λ (f : Feed). f.feeding.stopped) feed;
    room = omega (arith, received, some_octets);
    calm = omega (arith, quiet, some_idle);
    ready = record {
      role = ap (λ (p : Position). p.role) machine;
      live = not_at_end core.end.standing.machine.state (ap (λ (p : Position). p.state) machine);
      rounds_left = omega (arith, rounds, some_rounds);
    };
  };
}

-- ---- octets that were carried away

module _ (c : FollowConfig) (mirror : Held) (turns : List Turn) (carried : List ℕ) (old new : Core) (now : Held) (count : ℕ) (within : count ≤ length old.end.out)
    (out : new.end.out ≡ drop count old.end.out) (feed : new.feed ≡ old.feed) (quiet : new.quiet ≡ old.quiet) (received : received_of new ≡ received_of old)
    (sent : new.end.standing.notes.record.sent ≡ min (old.end.standing.notes.record.sent + count) (2 ^ 64 - 1)) where
  all_octets : (carried ++ take count old.end.out) ++ new.end.out ≡ carried ++ old.end.out
  all_octets =
      append_assoc carried (take count old.end.out) new.end.out
      ∙ ap (λ (o : List ℕ). carried ++ (take count old.end.out ++ o)) out
      ∙ ap (λ (o : List ℕ). carried ++ o) (take-append-drop count old.end.out)

  all_sent : old.end.standing.notes.record.sent ≡ counted_octets carried → new.end.standing.notes.record.sent ≡ counted_octets (carried ++ take count old.end.out)
  all_sent before = omega (arith, before, sent, within, length-append carried (take count old.end.out), length-take count old.end.out)

  pub carried_stood : stand_of new.end.standing now ≡ stand_of old.end.standing now → over_of new ≡ over_of old → Stood c mirror turns carried old now → Stood c mirror turns (carried ++ take count old.end.out) new now
  carried_stood stand over stood = record {
    gives = λ replies. rw (all_octets, stand) (stood.gives replies);
    hears = λ on. stood.hears (sym (ap is_some over) ∙ on) ∙ sym (ap (λ (f : Feed). Hears f.feeding.octets new.quiet (received_of new)) feed ∙ ap (λ (n : ℕ). Hears old.feed.feeding.octets n (received_of new)) quiet ∙ ap (λ (n : ℕ). Hears old.feed.feeding.octets old.quiet n) received);
    sent = all_sent stood.sent;
    received = received ∙ stood.received;
  }

  pub carried_fell : notes_of new.end.standing.notes now ≡ notes_of old.end.standing.notes now → over_of new ≡ over_of old → Fell c mirror turns carried old now → Fell c mirror turns (carried ++ take count old.end.out) new now
  carried_fell notes over fell = record {
    over = over ∙ fell.over;
    breaks = λ replies. rw (all_octets, notes) (fell.breaks replies);
    sent = all_sent fell.sent;
    received = received ∙ fell.received;
  }
