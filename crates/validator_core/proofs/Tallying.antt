-- A tally after one event more.
use Rattle.std.proofs.Common.{◌≡◌, ℕ, ◌+◌, ◌<◌, eqb, ltb, cond, Bool, true, false, List, [], ◌∷◌, ◌++◌, length, get_or, take, drop, Option, Some, None, refl, sym, ap, ap₂, ◌∙◌, subst, arith}
use Rattle.std.specs.Prelude.{is_some, option_to_list}
use Rattle.std.specs.BTreeMap.{get, is_at}
use Rattle.std.specs.List.Sorted.{IsStrictlyIncreasing}
use Rattle.std.specs.Option.{option_copied}
use Rattle.std.specs.Ordering.{nat_cmp}
use Rattle.std.proofs.lemmas.Bool.{cond-true, cond-false, lt-ltb}
use Rattle.std.proofs.lemmas.Bool.Decides.{nat_tests}
use Rattle.std.proofs.lemmas.List.{drop_more}
use Rattle.std.proofs.lemmas.List.Elements.{filter_more}
use Rattle.swima_model.specs.declared.event.Event.{Event}
use Rattle.swima_model.specs.declared.record.Record.{Record}
use Rattle.swima_model.specs.History.{contradicts, is_contradiction}
use Rattle.swima_model.specs.InOrder.{ids}
use Rattle.swima_model.specs.Live.{by_mention, later_or, live, record_of}
use Rattle.swima_model.specs.Size.{records_octets}
use Rattle.swima_model.proofs.Living.{live_more, live_none, live_of, live_rises, mention_push}
use Rattle.swima_model.proofs.Weighing.{but, count_after, count_of_one, octets_after, octets_of_one}
use Rattle.validator_core.specs.declared.mirror.Taken.{Taken}
use Rattle.validator_core.specs.declared.mirror.Taken.TheVariants as taken
use Rattle.validator_core.specs.declared.tally.Tally.{Tally}
use Rattle.validator_core.specs.Following.{events_above, first_misfit, first_misfit_after, or_later, too_large}
use Rattle.validator_core.specs.Tally.{AreFew, Follows, IsTally, too_many}
use Rattle.validator_core.specs.Weighed.{AreWeighed}
use denote.Ref.{Bor}

-- ---- mentions

pub at_eqb : (m n : ℕ) → is_at (nat_cmp m) n ≡ eqb m n
at_eqb m n = grind (arith, nat_tests)

mentioned_step : (here : Bool) (event : Bor Event) (found : Option (Bor Event))
    → option_copied (cond here (Some event) found) ≡ later_or (cond here (Some event.now) None) (option_copied found)
mentioned_step true event found = refl
mentioned_step false event found = refl

-- ---- what is live of a record

pub held_is : (id : ℕ) (base : List Record) (before : List Event) (tally : Tally) (last : Option (Bor Event)) → IsTally base before tally → last ≡ get nat_cmp tally.mentions id
    → by_mention (record_of id tally.records.now) (option_copied last) ≡ record_of id (live base before)
held_is id base before tally last is found = ap₂ by_mention (ap (record_of id) is.records) (ap option_copied found ∙ is.mentions id) ∙ sym (live_of id base before)

-- ---- one event more

-- A tally before, and what is live of the event's record then.
module _ (base : List Record) (before : List Event) (event : Event) (now : Tally) (held : Option Record) (is : IsTally base before now)
    (found : held ≡ record_of event.subject.id (live base before)) where
  rises : IsStrictlyIncreasing (ids (live base before))
  rises = live_rises base before is.rising

  -- What is live of the record was counted.
  pub gone_counted : (gone : ℕ) → gone ≡ length (option_to_list held) → length (but event.subject.id (live base before)) + gone ≡ now.count
  gone_counted gone e =
      ap (λ (n : ℕ). length (but event.subject.id (live base before)) + n) (e ∙ ap (λ (o : Option Record). length (option_to_list o)) found)
      ∙ count_of_one event.subject.id (live base before) rises ∙ sym is.count

  pub gone_octets : (gone : ℕ) → gone ≡ records_octets (option_to_list held) → records_octets (but event.subject.id (live base before)) + gone ≡ now.octet_count
  gone_octets gone e =
      ap (λ (n : ℕ). records_octets (but event.subject.id (live base before)) + n) (e ∙ ap (λ (o : Option Record). records_octets (option_to_list o)) found)
      ∙ octets_of_one event.subject.id (live base before) rises ∙ sym is.octets

  contradicts_is : contradicts (live base before) event ≡ is_contradiction event.action held event.subject.content
  contradicts_is = ap (λ (o : Option Record). is_contradiction event.action o event.subject.content) (sym found)

  -- An event that contradicts what is live.
  pub unfit : (after : Tally) → true ≡ is_contradiction event.action held event.subject.content → Follows base before event (Some (taken.Contradiction event.eid)) after
  unfit after e = (
    sym (cond-true (contradicts (live base before) event) (Some (taken.Contradiction event.eid)) (too_large (live base (before ++ event ∷ []))) (contradicts_is ∙ sym e)),
    λ none. absurd cc,
  )

  -- One that does not.
  module _ (after : Tally) (put : Bor Event) (same : put.now ≡ event) (records : after.records.now ≡ now.records.now)
      (mentions : (id : ℕ) → get nat_cmp after.mentions id ≡ cond (is_at (nat_cmp event.subject.id) id) (Some put) (get nat_cmp now.mentions id))
      (come gone : ℕ × ℕ) (came : (come.0 ≡ length (option_to_list (by_mention None (Some event)))) × (come.1 ≡ records_octets (option_to_list (by_mention None (Some event)))))
      (went : (gone.0 ≡ length (option_to_list held)) × (gone.1 ≡ records_octets (option_to_list held)))
      (count : after.count + gone.0 ≡ now.count + come.0) (octets : after.octet_count + gone.1 ≡ now.octet_count + come.1) where
    more : live (live base before) (event ∷ []) ≡ live base (before ++ event ∷ [])
    more = live_more base before (event ∷ []) is.rising

    pub tally_after : IsTally base (before ++ event ∷ []) after
    tally_after = record {
      rising = is.rising;
      records = records ∙ is.records;
      mentions = λ id.
          ap option_copied (mentions id) ∙ mentioned_step (is_at (nat_cmp event.subject.id) id) put (get nat_cmp now.mentions id)
          ∙ ap₂ (λ (here : Bool) (e : Event). later_or (cond here (Some e) None) (option_copied (get nat_cmp now.mentions id))) (at_eqb event.subject.id id) same
          ∙ ap (later_or (cond (eqb event.subject.id id) (Some event) None)) (is.mentions id)
          ∙ sym (mention_push id before event);
      count = omega (
        arith,
        count,
        came.0,
        went.0,
        is.count,
        ap (λ (o : Option Record). length (option_to_list o)) found,
        count_after (live base before) event rises,
        ap length more,
      );
      octets = omega (
        arith,
        octets,
        came.1,
        went.1,
        is.octets,
        ap (λ (o : Option Record). records_octets (option_to_list o)) found,
        octets_after (live base before) event rises,
        ap records_octets more,
      );
    }

    pub fit : (said : Option Taken) → false ≡ is_contradiction event.action held event.subject.content → said ≡ too_many after.count after.octet_count → Follows base before event said after
    fit said e large = (
      large
          ∙ ap₂ too_many tally_after.count tally_after.octets
          ∙ sym (cond-false (contradicts (live base before) event) (Some (taken.Contradiction event.eid)) (too_large (live base (before ++ event ∷ []))) (contradicts_is ∙ sym e)),
      λ none. tally_after,
    )

-- ---- none yet

pub begins : (base : List Record) (tally : Tally) → IsStrictlyIncreasing (ids base) → tally.records.now ≡ base → ((id : ℕ) → get nat_cmp tally.mentions id ≡ None)
    → tally.count ≡ length base → tally.octet_count ≡ records_octets base → IsTally base [] tally
begins base tally up is none count octets = record {
  rising = up;
  records = is;
  mentions = λ id. ap option_copied (none id);
  count = count ∙ ap length (sym (live_none base up));
  octets = octets ∙ ap records_octets (sym (live_none base up));
}

-- ---- event by event

none_where : (said : Option Taken) → is_some said ≡ false → said ≡ None
none_where None is = refl
none_where (Some answer) is = absurd cc

-- The next event, which is above the one that is held.
module _ (eid : ℕ) (events : List Event) (i : ℕ) (event : Event) (within : i < length events) (is : event ≡ get_or events i event) (above : eid < event.eid) where
  gone_over : events_above eid (take (i + 1) events) ≡ events_above eid (take i events) ++ event ∷ []
  gone_over =
      filter_more (λ (e : Event). ltb eid e.eid) events i event within
      ∙ ap (λ (e : Event). events_above eid (take i events) ++ cond (ltb eid e.eid) (e ∷ []) []) (sym is)
      ∙ ap (λ (es : List Event). events_above eid (take i events) ++ es) (cond-true (ltb eid event.eid) (event ∷ []) [] (lt-ltb eid event.eid above))

  left : events_above eid (drop i events) ≡ event ∷ events_above eid (drop (i + 1) events)
  left =
      ap (events_above eid) (drop_more events i event within)
      ∙ ap (λ (e : Event). events_above eid (e ∷ drop (i + 1) events)) (sym is)
      ∙ cond-true (ltb eid event.eid) (event ∷ events_above eid (drop (i + 1) events)) (events_above eid (drop (i + 1) events)) (lt-ltb eid event.eid above)

  -- Where nothing is to be said of it, what is said first is what is said first after it.
  pub goes_on : (base : List Record) (said : Option Taken) (after : Tally) → Follows base (events_above eid (take i events)) event said after → false ≡ is_some said
      → first_misfit_after base (events_above eid (take i events)) (events_above eid (drop i events)) ≡ first_misfit base (events_above eid events)
      → (said ≡ None)
      × (first_misfit_after base (events_above eid (take (i + 1) events)) (events_above eid (drop (i + 1) events)) ≡ first_misfit base (events_above eid events))
      × IsTally base (events_above eid (take (i + 1) events)) after
  goes_on base said after follows fits rest =
      let later : List Event = events_above eid (drop (i + 1) events) in
      let none : said ≡ None = none_where said (sym fits) in (
        none,
        ap (λ (es : List Event). first_misfit_after base es later) gone_over
            ∙ sym (ap (λ (now : Option Taken). or_later now (first_misfit_after base (events_above eid (take i events) ++ event ∷ []) later)) (sym follows.0 ∙ none))
            ∙ sym (ap (first_misfit_after base (events_above eid (take i events))) left)
            ∙ rest,
        subst (λ (es : List Event). IsTally base es after) (sym gone_over) (follows.1 none),
      )

-- ---- what a mirror has then

pub weighed_after : (base : List Record) (events : List Event) (tally : Tally) (records : List Record) → IsTally base events tally → AreFew tally
    → IsStrictlyIncreasing (ids records) → records ≡ live base events → AreWeighed records tally.octet_count
weighed_after base events tally records is few up lives = record {
  rising = up;
  few = omega (arith, few.0, is.count, ap (λ (rs : List Record). length rs) lives);
  counted = is.octets ∙ ap records_octets (sym lives);
  within = few.1;
}
