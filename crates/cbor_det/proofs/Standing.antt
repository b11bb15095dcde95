-- Where a reader stands is where the machine is.
use Rattle.std.proofs.Common.{◌≡◌, ℕ, zero, suc, ◌+◌, ◌-◌, ◌*◌, ◌<◌, ◌≤◌, List, [], ◌∷◌, ◌++◌, length, refl, sym, ap, ◌∙◌, arith, subst, length-append}
use Rattle.std.proofs.lemmas.List.{append-nil}
use Rattle.cbor_det.specs.declared.frame.Frame.{Frame}
use Rattle.cbor_det.specs.declared.frame.Phase.{Phase}
use Rattle.cbor_det.specs.declared.frame.Phase.TheVariants as phase
use Rattle.cbor_det.specs.declared.initial.Beginning.TheVariants.{Argument}
use Rattle.cbor_det.specs.declared.initial.Initial.{Initial}
use Rattle.cbor_det.specs.declared.initial.Major.{Major}
use Rattle.cbor_det.specs.declared.initial.Major.TheVariants.{String}
use Rattle.cbor_det.specs.declared.string_kind.StringKind.{StringKind}
use Rattle.cbor_det.specs.declared.limits.Limits.{Limits}
use Rattle.cbor_det.specs.Faults.{Place, top, start}
use Rattle.cbor_det.specs.Standing.{place, AdmitsHead, BeginsHead, InArgument, InContent, IsAt, Stands}
use Rattle.cbor_det.specs.Machine.{State, due, argument, content, begun, opened, string_begun, step, run}
use Rattle.cbor_det.specs.Frames.{phase_state}
use Rattle.cbor_det.proofs.Heads.{joined, head_reads}
use Rattle.cbor_det.proofs.Initials.{head_opens, long_initial}
use Rattle.cbor_det.proofs.Outcome.{Same}
use Rattle.cbor_det.proofs.Runs.{content_part}
use Rattle.cbor_det.proofs.Shown.{upto_runs, not_long}
use Rattle.cbor_det.proofs.Sound.{Holds}

module _ (limits : Limits) where
  -- a head that begins with this octet, and the octets of its argument that came
  argument_begins : (p : Place) (m : Major) (size lead i : ℕ) (rest : List ℕ) → AdmitsHead limits p m → BeginsHead m size lead
      → run limits i (due p) (lead ∷ rest) ≡ run limits (i + 1) (argument p i m size 0) rest
  unfolding step opened
  argument_begins p m size lead i rest ready begins =
      ap (λ (s : State). run limits (i + 1) s rest) (ap (λ (x : Initial). begun limits i p x) (long_initial m size lead begins) ∙ head_opens limits p i m (Argument m size) ready refl)

  argument_part : (p : Place) (at : ℕ) (m : Major) (left i number : ℕ) (came : List ℕ) → length came < left
      → run limits i (argument p at m left number) came ≡ (argument p at m (left - length came) (joined number came), [])
  unfolding step
  argument_part p at m left i number [] lt =
      let e : left ≡ left - 0 = omega arith in
      let P : ℕ → Type 0 = λ k. Same (run limits i (argument p at m left number) []) (argument p at m k number, []) in
      subst P e refl
  argument_part p at m zero i number (b ∷ bs) lt = absurd (omega arith)
  argument_part p at m (suc zero) i number (b ∷ bs) lt = absurd (omega arith)
  argument_part p at m (suc (suc k)) i number (b ∷ bs) lt =
      let e : suc k - length bs ≡ suc (suc k) - suc (length bs) = omega arith in
      let P : ℕ → Type 0 = λ j. Same (run limits (i + 1) (argument p at m (suc k) (256 * number + b)) bs) (argument p at m j (joined (256 * number + b) bs), []) in
      subst P e (argument_part p at m (suc k) (i + 1) (256 * number + b) bs (omega arith))

  argument_runs : (o : List ℕ) (p : Place) (at : ℕ) (m : Major) (left number : ℕ) → length o ≤ limits.octets → InArgument limits o p at m left number
      → run limits 0 (due top) o ≡ (argument p at m left number, [])
  argument_runs o p at m left number short w =
      let l = length-append w.before (w.lead ∷ w.came) in
      let lo : length o ≡ length (w.before ++ (w.lead ∷ w.came)) = ap length w.parts in
      let len = w.len in
      let some = w.some in
      let e : w.size - length w.came ≡ left = omega (arith, len) in
      let P : ℕ → Type 0 = λ k. Same (run limits 0 (due top) o) (argument p k m left number, []) in
      let Q : ℕ → Type 0 = λ k. Same (run limits 0 (due top) o) (argument p (length w.before) m k number, []) in
      let R : ℕ → Type 0 = λ k. Same (run limits 0 (due top) o) (argument p (length w.before) m (w.size - length w.came) k, []) in
      subst P (sym w.at_is) (subst Q e (subst R (sym w.stand_for)
      (ap (λ (x : List ℕ). run limits 0 (due top) x) w.parts
      ∙ upto_runs limits p w.before w.upto (omega (arith, l, lo, short)) (w.lead ∷ w.came)
      ∙ argument_begins p m w.size w.lead (length w.before) w.came w.ready w.begins
      ∙ argument_part p (length w.before) m w.size (length w.before + 1) 0 w.came (omega (arith, len, some)))))

  -- a string's head, and the octets of the string that came
  content_begins : (p : Place) (at : ℕ) (kind : StringKind) (n : ℕ) → 1 ≤ n → string_begun p at kind n ≡ content p at kind n []
  content_begins p at kind zero some = absurd (omega arith)
  content_begins p at kind (suc n) some = refl

  content_runs : (o : List ℕ) (p : Place) (at : ℕ) (kind : StringKind) (left : ℕ) (came : List ℕ) → length o ≤ limits.octets → InContent limits o p at kind left came
      → run limits 0 (due top) o ≡ (content p at kind left came, [])
  content_runs o p at kind left came short w =
      let l = length-append w.before (w.h ++ came) in
      let lo : length o ≡ length (w.before ++ (w.h ++ came)) = ap length w.parts in
      let len = w.len in
      let some = w.some in
      let e : w.all - length came ≡ left = omega (arith, len) in
      let i : ℕ = length w.before + length w.h in
      let P : ℕ → Type 0 = λ k. Same (run limits 0 (due top) o) (content p k kind left came, []) in
      let Q : ℕ → Type 0 = λ k. Same (run limits 0 (due top) o) (content p (length w.before) kind k came, []) in
      subst P (sym w.at_is) (subst Q e
      (ap (λ (x : List ℕ). run limits 0 (due top) x) w.parts
      ∙ upto_runs limits p w.before w.upto (omega (arith, l, lo, short)) (w.h ++ came)
      ∙ head_reads limits p (String kind) w.all w.h (length w.before) came w.ready w.is
      ∙ ap (λ (σ : State). run limits (length w.before + length w.h) σ came) (not_long limits (length w.before + length w.h) (length w.before) w.all p kind w.room)
      ∙ ap (λ (σ : State). run limits (length w.before + length w.h) σ came) (content_begins p (length w.before) kind w.all (omega (arith, len, some)))
      ∙ ap (λ (x : List ℕ). run limits (length w.before + length w.h) (content p (length w.before) kind w.all []) x) (sym (append-nil came))
      ∙ content_part limits p (length w.before) kind w.all (length w.before + length w.h) [] came [] (omega (arith, len, some))))

  phase_runs : (p : Place) (f : Phase) (o : List ℕ) → length o ≤ limits.octets → IsAt limits p f o → run limits 0 (due top) o ≡ (phase_state p f, [])
  phase_runs p phase.Due o short reads =
      ap (λ (x : List ℕ). run limits 0 (due top) x) (sym (append-nil o)) ∙ upto_runs limits p o reads short []
  phase_runs p (phase.Head head) o short reads = argument_runs o p head.at head.major head.left head.number short reads
  phase_runs p (phase.String string) o short reads = content_runs o p string.at string.kind string.left string.came short reads

  -- where a reader stands, the machine is
  pub stands_run : (fs : List Frame) (f : Phase) (taken : ℕ) (before : List ℕ) → Stands limits fs f taken before → run limits 0 (due top) before ≡ (phase_state (place fs) f, [])
  stands_run fs f taken before stands = phase_runs (place fs) f before stands.short stands.reads

  -- and where the machine is, a reader stands
  pub at_of : (p : Place) (f : Phase) (o : List ℕ) → Holds limits o (phase_state p f) → IsAt limits p f o
  at_of p phase.Due o holds = holds
  at_of p (phase.Head head) o holds = holds
  at_of p (phase.String string) o holds = holds

-- A reader that has taken nothing: an initial byte is due outside of all.
pub stands_first : (limits : Limits) (fs : List Frame) → fs ≡ [] → Stands limits fs phase.Due 0 []
stands_first limits fs none =
    let P : List Frame → Type 0 = λ x. Stands limits x phase.Due 0 [] in
    subst P (sym none) (record { are = λ i. omega arith; short = omega arith; taken_is = refl; reads = start })
