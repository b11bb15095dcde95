-- How far a report reaches.
use Rattle.std.proofs.Common.{◌≡◌, ℕ, ◌<◌, ◌^◌, ◌||◌, Bool, true, false, cond, nat_lt, length, max, drop, subst, arith}
use Rattle.std.specs.Prelude.{◌==◌}
use Rattle.swima_model.specs.declared.report.Report.{Report}
use Rattle.swima_request.specs.declared.request.Request.{Request}
use Rattle.collector_core.specs.declared.answer.Answer.TheVariants as answer
use Rattle.collector_core.specs.Answering.{answer_at, consulted_before, events_at, front_fits, if_fits, inventory_at, longest, told_at}
use Rattle.collector_core.specs.Chronicle.{Chronicle, first_kept, last_eid, point_of}
use Rattle.collector_core.specs.Legal.{IsLegal}
use Rattle.collector_core.proofs.Answered.{fits_is}
use Rattle.collector_core.proofs.Chronicles.{current_honest}
use Rattle.session_rules.specs.Answering.{reach_of}
use Rattle.session_rules.proofs.Running.{within_last}

module _ (chronicle : Chronicle) (legal : IsLegal chronicle) (request : Request) (most : ℕ) (report : Report) where
  reach_by : (test : Bool) → cond test (if_fits most (inventory_at chronicle request)) (if_fits most (told_at chronicle request most)) ≡ answer.Report report → (reach_of report).eid < 2 ^ 32
  reach_by true is = subst (λ (r : Report). (reach_of r).eid < 2 ^ 32) (fits_is most (inventory_at chronicle request) report is) (current_honest chronicle legal).few
  reach_by false is =
      subst (λ (r : Report). (reach_of r).eid < 2 ^ 32) (fits_is most (told_at chronicle request most) report is)
      (within_four (max 1 (longest (front_fits request (point_of chronicle) (events_at chronicle request) most) (length (events_at chronicle request)))))
    where
      within_four : (count : ℕ) → consulted_before (drop count (events_at chronicle request)) (last_eid chronicle) < 2 ^ 32
      within_four count = omega (arith, within_last chronicle legal request count, (current_honest chronicle legal).few)

  -- The event identifier that a report reaches is one of four octets.
  pub reach_below : answer_at chronicle request most ≡ answer.Report report → (reach_of report).eid < 2 ^ 32
  reach_below is = reach_by (request.earliest == 0 || nat_lt request.earliest (first_kept chronicle)) is
