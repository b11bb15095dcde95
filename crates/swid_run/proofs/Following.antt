-- Mirrors that follow, by what their pool answered.
use Rattle.std.proofs.Common.{◌≡◌, ◌++◌, ◌∙◌, ℕ, List, inl, inr, Option, Result, Ok, Err, drop, length, take, sym, ap, subst, append-nil, drop_of_length-le, take_all, true≢false, arith}
use Rattle.wire_base.specs.Turns.{Turn}
use Rattle.wire_base.specs.declared.outside.stopped.Stopped.{Stopped}
use Rattle.wire_base.specs.declared.outside.stopped.Stopped.TheVariants as stopped
use Rattle.wire_base.specs.declared.values.memory.Memory.{Memory}
use Rattle.validator_core.specs.Held.{Held}
use Rattle.session_rules.specs.declared.config.FollowConfig.{FollowConfig}
use Rattle.session_door.specs.declared.work.Work.{Work}
use Rattle.session_door.specs.Visits.{DoorState}
use Rattle.session_pool.specs.declared.follow_pool.Followed.{Followed}
use Rattle.session_pool.specs.declared.stand.Stand.{Stand}
use Rattle.session_pool.specs.Followers.{AnswersFollowed, FollowsAll, FollowsDoors}
use Rattle.command_options.specs.declared.follow.FollowOptions.{FollowOptions}
use Rattle.command_text.specs.declared.ending.Ending.{Ending}
use Rattle.swid_run.specs.Ends.{OutputState}
use Rattle.swid_run.specs.Following.{Follows, PrintsFollowed, PrintsIfFollowed, RunsFollow, follow_config, new_mirrors}

-- What was written over a whole list is what is there then.
written_over : (held items : List Held) (len : ℕ) → length held ≡ length items → len ≡ length items → take len (held ++ drop (length held) items) ≡ held
written_over held items len same all =
    ap (λ (rest : List Held). take len (held ++ rest)) (drop_of_length-le items (omega (arith, same)))
    ∙ ap (take len) (append-nil held)
    ∙ take_all len held (omega (arith, same, all))

module _ {D L : Type 0} (taken : L → Option (List Turn)) (given : L → Option (List ℕ)) (faults : L → ℕ) (state : D → DoorState L) where
  follows : (c : FollowOptions) (before after : List (Stand D)) (output later : OutputState) (ended : Result Ending Stopped) (held : List Held) (works : List Work) (followed : Result Followed Memory)
      → FollowsDoors taken given faults state (follow_config c) c.sessions (new_mirrors c) before held after works → AnswersFollowed works followed
      → PrintsIfFollowed followed held output later ended → Follows taken given faults state c before after output later ended
  follows c before after output later ended held works followed doors answers prints = record { held = held; works = works; followed = followed; follows = doors; answers = answers; prints = prints }

  -- ---- by what the pool answered

  module _ (c : FollowOptions) (before after : List (Stand D)) (output later : OutputState) (ended : Result Ending Stopped) (config : FollowConfig) (mirrors held : List Held)
      (configured : config ≡ follow_config c) (new : mirrors ≡ new_mirrors c) where
    abbrev FollowsFrom : FollowConfig → List Held → Result Followed Memory → Type 0
    FollowsFrom configs from followed = FollowsAll taken given faults state configs c.sessions from before held after followed

    from_new : (followed : Result Followed Memory) → FollowsFrom config mirrors followed → FollowsFrom (follow_config c) (new_mirrors c) followed
    from_new followed all = subst (λ (f : FollowConfig). FollowsFrom f (new_mirrors c) followed) configured (subst (λ (m : List Held). FollowsFrom config m followed) new all)

    -- There are as many as before.
    as_many : (followed : Result Followed Memory) → FollowsFrom config mirrors followed → length held ≡ length mirrors
    as_many followed all = elim all [
      | inl done ↦ done.1.held_count ∙ sym done.1.mirrors_count
      | inr none ↦ ap length none.1
    ]

    -- What came of it was printed.
    pub follows_ok : (all : Followed) (shown items : List Held) (len : ℕ) → FollowsFrom config mirrors (Ok all) → mirrors ≡ items → length mirrors ≡ len → shown ≡ take len (held ++ drop (length held) items)
        → PrintsFollowed all shown output later ended → RunsFollow taken given faults state c before after output later ended
    follows_ok all shown items len so here count same prints =
        let back : shown ≡ held = same ∙ written_over held items len (as_many (Ok all) so ∙ ap length here) (sym count ∙ ap length here) in
        elim (from_new (Ok all) so) [
          | inl done ↦ inl (follows c before after output later ended held done.0 (Ok all) done.1 done.2 (subst (λ (h : List Held). PrintsFollowed all h output later ended) back prints))
          | inr none ↦ absurd (true≢false (sym none.0))
        ]

    -- Memory ran out, for a worker or before anything was done.
    pub follows_err : (memory : Memory) → FollowsFrom config mirrors (Err memory) → later ≡ output → ended ≡ Err stopped.Memory → RunsFollow taken given faults state c before after output later ended
    follows_err memory so same out = elim (from_new (Err memory) so) [
      | inl done ↦ inl (follows c before after output later ended held done.0 (Err memory) done.1 done.2 (same, out))
      | inr none ↦ inr (out, none.2, same)
    ]
