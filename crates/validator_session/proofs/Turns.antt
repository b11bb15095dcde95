-- A core after an idle turn, and once the link has ended.
use Rattle.std.proofs.Common.{◌≡◌, ℕ, ◌+◌, true, false, List, [], ◌∷◌, ◌++◌, Option, Some, None, length, inl, inr, refl, sym, ap, subst, ◌∙◌, append-nil}
use Rattle.std.specs.Prelude.{is_some}
use Rattle.wire_base.specs.Turns.{Turn, Idle, Ended}
use Rattle.validator_core.specs.Held.{Held}
use Rattle.session_talk.specs.Course.{Gives, Breaks}
use Rattle.session_hear.specs.Step.{Step, Quiet, Cut}
use Rattle.session_hear.specs.Hearing.{Hears}
use Rattle.session_rules.specs.declared.end.SessionEnd.{SessionEnd}
use Rattle.session_rules.specs.declared.end.SessionEnd.TheVariants as end
use Rattle.session_rules.specs.Clauses.{Spoke}
use Rattle.session_rules.specs.Following.{Stand}
use Rattle.session_rules.specs.FollowRules.{Follows, cut_off, idles, react, steps, steps_unless}
use Rattle.session_rules.specs.Taking.{NoQuestion, NoReply}
use Rattle.session_rules.specs.declared.config.FollowConfig.{FollowConfig}
use Rattle.validator_session.specs.declared.inner.Inner.{Inner as Core}
use Rattle.validator_session.specs.Core.{StandsOn, Turned, over_of, received_of}
use Rattle.validator_session.specs.Standing.{notes_of, stand_of}
use Rattle.validator_session.proofs.Coring.{falls, lost_one, moved, no_octets, says_one, stands}

-- What is not there.
pub none_is : (over : Option SessionEnd) → is_some over ≡ false → over ≡ None
none_is None is = refl
none_is (Some by) is = absurd cc

-- A step of a session that is not over.
pub reacts : (c : FollowConfig) (s : Stand) (step : Step) → is_some s.over ≡ false → steps c s step ≡ react c s step
reacts c s step live = sym (ap (steps_unless c s step) (none_is s.over live))

module _ (core next : Core) (here : Held) (live : is_some (over_of core) ≡ false) (feed : next.feed ≡ core.feed)
    (sent : next.end.standing.notes.record.sent ≡ core.end.standing.notes.record.sent) (received : received_of next ≡ received_of core) where
  abbrev before : Stand
  before = stand_of core.end.standing here

  -- What the rules say to a step was done.
  stepped : (mark : Turn) (step : Step) → Spoke {Q = NoQuestion} {R = NoReply} core.end.out next.end.out (λ replies out. Gives replies (steps core.end.config before step) [] out (stand_of next.end.standing here)) → (carried : List ℕ)
      → Spoke {Q = NoQuestion} {R = NoReply} (carried ++ core.end.out) (carried ++ next.end.out) (λ replies out. Gives replies (react core.end.config before step) [] out (stand_of next.end.standing here))
  stepped mark step so carried = moved carried core.end.out next.end.out _
      (subst (λ (talk : Follows). Spoke {Q = NoQuestion} {R = NoReply} core.end.out next.end.out (λ replies out. Gives replies talk [] out (stand_of next.end.standing here))) (reacts core.end.config before step live) so)

  pub idle_stood : next.quiet ≡ core.quiet + 1 → Spoke {Q = NoQuestion} {R = NoReply} core.end.out next.end.out (λ replies out. Gives replies (idles core.end.config before (core.quiet + 1)) [] out (stand_of next.end.standing here))
      → Turned core here (Idle ∷ []) next here
  idle_stood quiet so mirror turns carried stood = inl (
      stands core.end.config mirror turns (Idle ∷ []) carried core here stood live next here
      (says_one core.end.config (carried ++ core.end.out) (carried ++ next.end.out) before (stand_of next.end.standing here) (Quiet (core.quiet + 1)) (stepped Idle (Quiet (core.quiet + 1)) so carried))
      (λ on. ap (λ (n : ℕ). Hears core.feed.feeding.octets n (received_of core)) (sym quiet) ∙ ap (λ (n : ℕ). Hears core.feed.feeding.octets next.quiet n) (sym received)
      ∙ ap (λ (f : _). Hears f.feeding.octets next.quiet (received_of next)) (sym feed))
      sent (received ∙ stood.received ∙ sym (no_octets turns (Idle ∷ []) refl))
      )

  pub idle_fell : over_of next ≡ Some end.Memory → Spoke {Q = NoQuestion} {R = NoReply} core.end.out next.end.out (λ replies out. Breaks replies (notes_of core.end.standing.notes here) (idles core.end.config before (core.quiet + 1)) [] out (notes_of next.end.standing.notes here))
      → Turned core here (Idle ∷ []) next here
  idle_fell over so mirror turns carried stood = inr (
      falls core.end.config mirror turns (Idle ∷ []) carried core here stood live next here
      (lost_one core.end.config (carried ++ core.end.out) (carried ++ next.end.out) before (stand_of next.end.standing here) (Quiet (core.quiet + 1))
      (moved carried core.end.out next.end.out _
      (subst (λ (talk : Follows). Spoke {Q = NoQuestion} {R = NoReply} core.end.out next.end.out (λ replies out. Breaks replies (notes_of core.end.standing.notes here) talk [] out (notes_of next.end.standing.notes here))) (reacts core.end.config before (Quiet (core.quiet + 1)) live) so)))
      over sent (received ∙ stood.received ∙ sym (no_octets turns (Idle ∷ []) refl))
      )

  pub cut_stood : is_some (over_of next) ≡ true → next.end.out ≡ core.end.out → stand_of next.end.standing here ≡ cut_off before (length core.feed.feeding.octets) → StandsOn core here (Ended ∷ []) next here
  cut_stood over out same mirror turns carried stood =
      stands core.end.config mirror turns (Ended ∷ []) carried core here stood live next here
      (says_one core.end.config (carried ++ core.end.out) (carried ++ next.end.out) before (stand_of next.end.standing here) (Cut (length core.feed.feeding.octets))
      (stepped Ended (Cut (length core.feed.feeding.octets)) (record { out = []; is = out ∙ sym (append-nil core.end.out); gives = λ replies. (refl, refl, same) }) carried))
      (λ on. let lost : true ≡ false = sym over ∙ on in absurd cc)
      sent (received ∙ stood.received ∙ sym (no_octets turns (Ended ∷ []) refl))
