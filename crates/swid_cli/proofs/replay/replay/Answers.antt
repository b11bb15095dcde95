use Rattle.std.proofs.Common.{List, ℕ, refl, subst}
use Rattle.std.proofs.lemmas.Result.{err_from_is_err_and}
use Rattle.session_script.specs.Replay.{SCRIPT_OCTETS, ReplayTells}
use Rattle.swid_cli.proofs.ReplayTelling.{replay_wide}
use Rattle.swid_cli.proofs.Telling.{ran_front, ran_nothing, ran_whole}
use Rattle.swid_cli.proofs.replay.replay.Goals as goal

pub returns-in_err-fill-clause-printed : goal.returns-in_err-fill-clause-printed
returns-in_err-fill-clause-printed g c =
    let p = err_from_is_err_and c.from_residual.result c.from_residual.ensures.1 in
    ran_nothing SCRIPT_OCTETS ReplayTells _ _ _ _ c.from_residual.result p.0 p.1 refl

pub returns-in_err-answer-clause-printed : goal.returns-in_err-answer-clause-printed
returns-in_err-answer-clause-printed g c =
    let p = err_from_is_err_and c.from_residual-in_err-answer.result c.from_residual-in_err-answer.ensures.1 in
    ran_nothing SCRIPT_OCTETS ReplayTells _ _ _ _ c.from_residual-in_err-answer.result p.0 p.1 refl

pub returns-in_err-write_all-clause-printed : goal.returns-in_err-write_all-clause-printed
returns-in_err-write_all-clause-printed g c =
    let p = err_from_is_err_and c.from_residual-in_err-write_all.result c.from_residual-in_err-write_all.ensures.1 in
    ran_front SCRIPT_OCTETS ReplayTells replay_wide _ _ _ _ _ _ _ _ _ c.from_residual-in_err-write_all.result p.0 p.1 refl c.new-held.ensures.empty c.in_ok-fill.ensures.fills
    (subst (λ (o : List ℕ). ReplayTells o c.in_ok-answer.answer.text c.in_ok-answer.answer.ending) c.as_slice.ensures.items c.in_ok-answer.ensures.told) (rw c.as_slice-2.ensures.items at c.in_err-write_all.ensures.front)

pub returns-clause-printed : goal.returns-clause-printed
returns-clause-printed g c =
    ran_whole SCRIPT_OCTETS ReplayTells replay_wide _ _ _ _ _ _ _ _ _ refl c.new-held.ensures.empty c.in_ok-fill.ensures.fills
    (subst (λ (o : List ℕ). ReplayTells o c.in_ok-answer.answer.text c.in_ok-answer.answer.ending) c.as_slice.ensures.items c.in_ok-answer.ensures.told) (rw c.as_slice-2.ensures.items at c.in_ok-write_all.ensures.whole)
