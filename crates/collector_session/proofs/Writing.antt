-- What was written and noted of a batch, by what the calls said.
use Rattle.std.proofs.Common.{◌≡◌, ℕ, false, Some, List, [], ◌++◌, Result, Ok, Err, inl, inr, refl, sym, ap, ◌∙◌, append-nil}
use Rattle.std.specs.Result.{IsErr}
use Rattle.pb_batch.specs.declared.kind.BatchKind.TheVariants as kinds
use Rattle.pb_batch.specs.declared.fault.PbFault.{PbFault}
use Rattle.pb_batch.specs.Written.{fault_batch_of, written}
use Rattle.pb_machine.specs.Table.{Position, sent}
use Rattle.session_talk.specs.Talk.{Done, Note, Write}
use Rattle.session_talk.specs.Course.{Gives}
use Rattle.session_rules.specs.declared.record.SessionRecord.{SessionRecord}
use Rattle.session_rules.specs.Clauses.{Spoke, Spoken}
use Rattle.session_rules.specs.Messages.{client_batch}
use Rattle.session_rules.specs.Questions.{Question, Reply}
use Rattle.session_rules.specs.ServeRules.{Serves, refuses, sends, writes_draft}
use Rattle.session_rules.specs.Serving.{Notes, Stand, ends, with_errors, with_reports}
use Rattle.session_rules.specs.declared.end.SessionEnd.TheVariants as end
use Rattle.collector_session.specs.declared.draft.Draft.{Draft}
use Rattle.collector_session.specs.declared.standing.Standing.{Standing}
use Rattle.collector_session.specs.Standing.{Noted, draft_of, notes_of, stand_of}

-- Memory ran out before the octets were written.
unwritten : {T E : Type 0} (waits now octets : List ℕ) (last : Notes) (talk : Serves) (value : Stand) (result : Result T E) → IsErr result → now ≡ waits → Spoken {Q = Question} {R = Reply} waits now last (Write octets talk) value last result
unwritten waits now octets last talk value (Ok done) is same = absurd cc
unwritten waits now octets last talk value (Err error) is same = record { out = []; is = same ∙ sym (append-nil waits); gives = λ replies. inl (refl, refl, refl) }

-- ---- a fault

pub fault_so : (old : Standing) (fault : PbFault) (m : Position) (waits now : List ℕ) → m ≡ sent old.machine kinds.Close → now ≡ waits ++ written (fault_batch_of false fault)
    → Spoke {Q = Question} {R = Reply} waits now (λ replies out. Gives replies (refuses (stand_of old) fault) [] out (stand_of (record old { machine = m; over = Some (end.Refused fault.code fault.offset) })))
fault_so old fault m waits now is put = record {
  out = written (fault_batch_of false fault);
  is = put;
  gives = λ replies. ([], sym (append-nil (written (fault_batch_of false fault))), (refl, refl, ap (λ (p : Position). stand_of (record old { machine = p; over = Some (end.Refused fault.code fault.offset) })) is));
}

pub fault_lost : {T E : Type 0} (old : Standing) (fault : PbFault) (waits now : List ℕ) (result : Result T E) → IsErr result → now ≡ waits
    → Spoken {Q = Question} {R = Reply} waits now (notes_of old.record) (refuses (stand_of old) fault) (stand_of old) (notes_of old.record) result
fault_lost old fault waits now result is same =
    unwritten waits now (written (fault_batch_of false fault)) (notes_of old.record) (Done (ends (sends (stand_of old) kinds.Close) (end.Refused fault.code fault.offset))) (stand_of old) result is same

-- ---- a draft

pub draft_lost : {T E : Type 0} (old : Standing) (d : Draft) (m : Position) (waits now : List ℕ) (result : Result T E) → IsErr result → now ≡ waits
    → Spoken {Q = Question} {R = Reply} waits now (notes_of old.record) (writes_draft (stand_of old) (draft_of d)) (stand_of (record old { machine = m })) (notes_of old.record) result
draft_lost old d m waits now result is same =
    let errors : Notes = with_errors (notes_of old.record) (draft_of d) in
    let all : Notes = with_reports errors (draft_of d) in
    unwritten waits now (written (client_batch kinds.Cdata d.messages)) (notes_of old.record) (Note errors (Note all (Done (record (sends (stand_of old) kinds.Cdata) { subs = d.subs; numbered = d.numbered; notes = all })))) (stand_of (record old { machine = m })) result is same

-- A draft was written, and the codes and the points in it were noted.
pub draft_so : {T E : Type 0} (old : Standing) (d : Draft) (m : Position) (after : SessionRecord) (waits now : List ℕ) (result : Result T E) → m ≡ sent old.machine kinds.Cdata → now ≡ waits ++ written (client_batch kinds.Cdata d.messages)
    → Noted old.record d.errors d.points after result
    → Spoken {Q = Question} {R = Reply} waits now (notes_of old.record) (writes_draft (stand_of old) (draft_of d)) (stand_of (record old { machine = m; subs = d.subs; numbered = d.numbered; «record» = after })) (notes_of after) result
draft_so old d m after waits now (Ok done) is put noted = record {
  out = written (client_batch kinds.Cdata d.messages);
  is = put;
  gives = λ replies. (
    [],
    sym (append-nil (written (client_batch kinds.Cdata d.messages))),
    (
      refl,
      refl,
      ap (λ (p : Position). stand_of (record old { machine = p; subs = d.subs; numbered = d.numbered; «record» = after })) is
          ∙ ap (λ (r : SessionRecord). stand_of (record old { machine = sent old.machine kinds.Cdata; subs = d.subs; numbered = d.numbered; «record» = r })) noted,
    ),
  );
}
draft_so old d m after waits now (Err error) is put noted = record {
  out = written (client_batch kinds.Cdata d.messages);
  is = put;
  gives = λ replies. inr (
    [],
    sym (append-nil (written (client_batch kinds.Cdata d.messages))),
    elim noted [
      | inl none ↦ inl (refl, refl, ap notes_of none)
      | inr coded ↦ inr (inl (refl, refl, ap notes_of coded))
    ],
  );
}
