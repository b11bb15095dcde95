-- What the machine says after one octet more, and after a whole run.
use Rattle.std.proofs.Common.{◌≡◌, ℕ, zero, suc, ◌+◌, ◌*◌, ◌<◌, List, [], ◌∷◌, ◌++◌, length, refl, sym, ap, ◌∙◌, arith, subst, true, false, append_assoc, length-append}
use Rattle.std.proofs.lemmas.List.{append-nil}
use Rattle.std.proofs.lemmas.List.Sums.{fold_push}
use Rattle.std.proofs.lemmas.Bool.{cond_both, both_ways}
use Rattle.wire_base.specs.Numbers.{number_of}
use Rattle.wire_base.specs.Layout.{AreOctets}
use Rattle.cbor_det.specs.declared.string_kind.StringKind.{StringKind}
use Rattle.cbor_det.specs.declared.string_kind.StringKind.TheVariants.{ByteString, TextString}
use Rattle.cbor_det.specs.declared.limits.Limits.{Limits}
use Rattle.cbor_det.specs.declared.initial.Major.{Major}
use Rattle.cbor_det.specs.declared.initial.Major.TheVariants.{Unsigned, Negative, String, Array, Map, Tag}
use Rattle.cbor_det.specs.declared.initial.Beginning.{Beginning}
use Rattle.cbor_det.specs.declared.initial.Beginning.TheVariants as beginning
use Rattle.cbor_det.specs.declared.initial.Initial.{Initial}
use Rattle.cbor_det.specs.declared.initial.Initial.TheVariants.{Item, Break, Float, Simple, Malformed}
use Rattle.cbor_det.specs.Initial.{initial_of}
use Rattle.cbor_det.specs.Spelling.{IsHead, stop, opening, major_of, string, indefinite_string}
use Rattle.cbor_det.specs.Faults.{Place, top, at_chunk, at_element, at_key, at_value, at_content, IsNoChunk, Upto, chunk_due, Shows, malformed}
use Rattle.cbor_det.specs.Machine.{State, due, argument, content, whole, faulty, item_ended, string_ended, argued, opened, begun, chunk_begun, is_string, string_head, same_kind, step, run, is_over}
use Rattle.cbor_det.proofs.Told.{Tells, tells, chunk_told, long_begins}
use Rattle.cbor_det.proofs.Completes.{string_depth, chunks_part, string_item, string_ends}
use Rattle.cbor_det.specs.Standing.{InArgument, InContent}
use Rattle.cbor_det.proofs.LongHeads.{are_push, long_head}
use Rattle.cbor_det.proofs.Sound.{Holds, moved, item_ended_holds, argued_holds, ended_holds, direct_head, starts_argument, item_holds}

same_is : (kind other : StringKind) → same_kind kind other ≡ true → other ≡ kind
same_is ByteString ByteString e = refl
same_is ByteString TextString e = absurd (both_ways false refl e)
same_is TextString ByteString e = absurd (both_ways false refl e)
same_is TextString TextString e = refl

string_is : (kind : StringKind) (m : Major) → is_string kind m ≡ true → m ≡ String kind
string_is kind Unsigned e = absurd (both_ways false refl e)
string_is kind Negative e = absurd (both_ways false refl e)
string_is kind Array e = absurd (both_ways false refl e)
string_is kind Map e = absurd (both_ways false refl e)
string_is kind Tag e = absurd (both_ways false refl e)
string_is kind (String other) e = ap (λ (k : StringKind). String k) (same_is kind other e)

module _ (limits : Limits) where
  -- a break after chunks
  chunks_end : (a : ℕ) (kind : StringKind) (s : List ℕ) (p : Place) (q : List ℕ) (b : ℕ) → Upto limits (at_chunk a kind s p) q → b ≡ stop → Holds limits (q ++ b ∷ []) (string_ended p a kind s)
  chunks_end a kind s p q b (chunk_due r k o u y upto admits parts) is =
      let P : State → Type 0 = λ σ. Holds limits ((o ++ opening (major_of k) ∷ y) ++ b ∷ []) σ in
      let d = string_depth k u in
      let e : string_ended r (length o) k u ≡ item_ended r (length o) (string k u) = string_ends limits r (length o) k u (chunks_part k u y parts) ∙ string_item limits r (length o) k u admits.0 in
      subst P (sym e)
      (moved limits (item_ended r (length o) (string k u)) ((o ++ opening (major_of k) ∷ y) ++ b ∷ []) (o ++ (opening (major_of k) ∷ (y ++ stop ∷ [])))
      (append_assoc o (opening (major_of k) ∷ y) (b ∷ []) ∙ ap (λ (z : ℕ). o ++ (opening (major_of k) ∷ (y ++ z ∷ []))) is)
      (item_ended_holds limits r o upto (opening (major_of k) ∷ (y ++ stop ∷ [])) (string k u) (length o) (admits.0, omega (arith, d, admits.1)) (indefinite_string k u y parts) refl))

  chunk_fault : (a : ℕ) (kind : StringKind) (s : List ℕ) (p : Place) (q : List ℕ) (b : ℕ) → Upto limits (at_chunk a kind s p) q → IsNoChunk kind b → Shows limits (q ++ b ∷ []) 2 (length q)
  chunk_fault a kind s p q b upto is = malformed (at_chunk a kind s p) q b upto is

  chunk_opened_holds : (a : ℕ) (kind : StringKind) (s : List ℕ) (p : Place) (q : List ℕ) (b : ℕ) (x : Beginning) → Upto limits (at_chunk a kind s p) q → string_head kind (Item x) ≡ true → Tells b (Item x)
      → Holds limits (q ++ b ∷ []) (opened limits (length q) (at_chunk a kind s p) x)
  unfolding opened
  chunk_opened_holds a kind s p q b (beginning.Argued m n) upto e t = argued_holds limits (at_chunk a kind s p) q (b ∷ []) m n upto (string_is kind m e) (direct_head limits m n b t)
  chunk_opened_holds a kind s p q b (beginning.Argument m left) upto e t = starts_argument limits (at_chunk a kind s p) q b m left upto (string_is kind m e) (long_begins m left b t)
  chunk_opened_holds a kind s p q b (beginning.Chunks k) upto e t = absurd (both_ways false refl e)
  chunk_opened_holds a kind s p q b beginning.Elements upto e t = absurd (both_ways false refl e)
  chunk_opened_holds a kind s p q b beginning.Members upto e t = absurd (both_ways false refl e)
  chunk_opened_holds a kind s p q b (beginning.Bool v) upto e t = absurd (both_ways false refl e)

  chunk_begun_holds : (a : ℕ) (kind : StringKind) (s : List ℕ) (p : Place) (q : List ℕ) (b : ℕ) (x : Initial) → Upto limits (at_chunk a kind s p) q → initial_of b ≡ x
      → Holds limits (q ++ b ∷ []) (chunk_begun limits (length q) a kind s p x)
  unfolding opened
  chunk_begun_holds a kind s p q b Break upto is = chunks_end a kind s p q b upto (tells b Break is)
  chunk_begun_holds a kind s p q b Malformed upto is = chunk_fault a kind s p q b upto ((chunk_told kind b Malformed is).1 refl)
  chunk_begun_holds a kind s p q b Float upto is = chunk_fault a kind s p q b upto ((chunk_told kind b Float is).1 refl)
  chunk_begun_holds a kind s p q b Simple upto is = chunk_fault a kind s p q b upto ((chunk_told kind b Simple is).1 refl)
  chunk_begun_holds a kind s p q b (Item x) upto is =
      cond_both (string_head kind (Item x)) _ _ (Holds limits (q ++ b ∷ []))
      (λ e. chunk_opened_holds a kind s p q b x upto e (tells b (Item x) is))
      (λ e. chunk_fault a kind s p q b upto ((chunk_told kind b (Item x) is).1 e))

  begun_holds : (p : Place) (q : List ℕ) (b : ℕ) (x : Initial) → Upto limits p q → b < 256 → initial_of b ≡ x → Holds limits (q ++ b ∷ []) (begun limits (length q) p x)
  unfolding begun
  begun_holds top q b x upto small is = item_holds limits top q b x upto (λ e. e) small is
  begun_holds (at_chunk a k s p) q b x upto small is = chunk_begun_holds a k s p q b x upto is
  begun_holds (at_element a all ts p) q b x upto small is = item_holds limits (at_element a all ts p) q b x upto (λ e. e) small is
  begun_holds (at_key a all ps p) q b x upto small is = item_holds limits (at_key a all ps p) q b x upto (λ e. e) small is
  begun_holds (at_value a all ps k p) q b x upto small is = item_holds limits (at_value a all ps k p) q b x upto (λ e. e) small is
  begun_holds (at_content a n p) q b x upto small is = item_holds limits (at_content a n p) q b x upto (λ e. e) small is

  number_more : (came : List ℕ) (b n : ℕ) → n ≡ number_of came → 256 * n + b ≡ number_of (came ++ b ∷ [])
  number_more came b n e = ap (λ (k : ℕ). 256 * k + b) e ∙ sym (fold_push (λ (number : ℕ) (o : ℕ). 256 * number + o) 0 came b)

  argument_ends : (o : List ℕ) (b : ℕ) (p : Place) (at : ℕ) (m : Major) (n : ℕ) → b < 256 → InArgument limits o p at m (suc zero) n
      → Holds limits (o ++ b ∷ []) (argued limits (length o + 1) p at m (256 * n + b))
  argument_ends o b p at m n small w =
      let l = length-append w.came (b ∷ []) in
      let e : o ++ b ∷ [] ≡ w.before ++ (w.lead ∷ (w.came ++ b ∷ [])) = ap (λ (z : List ℕ). z ++ b ∷ []) w.parts ∙ append_assoc w.before (w.lead ∷ w.came) (b ∷ []) in
      let lo : length o ≡ length (w.before ++ (w.lead ∷ w.came)) = ap length w.parts in
      let lp = length-append w.before (w.lead ∷ w.came) in
      let i : length w.before + length (w.lead ∷ (w.came ++ b ∷ [])) ≡ length o + 1 = omega (arith, l, lo, lp) in
      let held = argued_holds limits p w.before (w.lead ∷ (w.came ++ b ∷ [])) m (number_of (w.came ++ b ∷ [])) w.upto w.ready
      (long_head m w.size w.lead (w.came ++ b ∷ []) w.begins (let len = w.len in omega (arith, l, len)) (are_push w.came b w.are small)) in
      let P : ℕ → Type 0 = λ k. Holds limits (o ++ b ∷ []) (argued limits k p (length w.before) m (number_of (w.came ++ b ∷ []))) in
      let Q : ℕ → Type 0 = λ a. Holds limits (o ++ b ∷ []) (argued limits (length o + 1) p a m (number_of (w.came ++ b ∷ []))) in
      let R : ℕ → Type 0 = λ k. Holds limits (o ++ b ∷ []) (argued limits (length o + 1) p at m k) in
      subst R (sym (number_more w.came b n w.stand_for)) (subst Q (sym w.at_is) (subst P i
      (moved limits (argued limits (length w.before + length (w.lead ∷ (w.came ++ b ∷ []))) p (length w.before) m (number_of (w.came ++ b ∷ []))) (o ++ b ∷ []) (w.before ++ (w.lead ∷ (w.came ++ b ∷ []))) e held)))

  argument_goes : (o : List ℕ) (b : ℕ) (p : Place) (at : ℕ) (m : Major) (left n : ℕ) → b < 256 → InArgument limits o p at m (suc (suc left)) n
      → InArgument limits (o ++ b ∷ []) p at m (suc left) (256 * n + b)
  argument_goes o b p at m left n small w =
      let l = length-append w.came (b ∷ []) in
      record {
        before = w.before;
        lead = w.lead;
        came = w.came ++ b ∷ [];
        size = w.size;
        upto = w.upto;
        ready = w.ready;
        begins = w.begins;
        parts = ap (λ (z : List ℕ). z ++ b ∷ []) w.parts ∙ append_assoc w.before (w.lead ∷ w.came) (b ∷ []);
        at_is = w.at_is;
        len = (let len = w.len in omega (arith, l, len));
        some = omega arith;
        stand_for = number_more w.came b n w.stand_for;
        are = are_push w.came b w.are small;
      }

  content_ends : (o : List ℕ) (b : ℕ) (p : Place) (at : ℕ) (kind : StringKind) (s : List ℕ) → InContent limits o p at kind (suc zero) s → Holds limits (o ++ b ∷ []) (string_ended p at kind (s ++ b ∷ []))
  content_ends o b p at kind s w =
      let l = length-append s (b ∷ []) in
      let all : w.all ≡ length (s ++ b ∷ []) = (let len = w.len in omega (arith, l, len)) in
      let P : ℕ → Type 0 = λ k. IsHead (major_of kind) k w.h in
      moved limits (string_ended p at kind (s ++ b ∷ [])) (o ++ b ∷ []) (w.before ++ (w.h ++ (s ++ b ∷ [])))
      (ap (λ (z : List ℕ). z ++ b ∷ []) w.parts ∙ append_assoc w.before (w.h ++ s) (b ∷ []) ∙ ap (λ (z : List ℕ). w.before ++ z) (append_assoc w.h s (b ∷ [])))
      (ended_holds limits p w.before kind (s ++ b ∷ []) w.h at w.upto w.ready (subst P all w.is) w.at_is)

  content_goes : (o : List ℕ) (b : ℕ) (p : Place) (at : ℕ) (kind : StringKind) (left : ℕ) (s : List ℕ) → InContent limits o p at kind (suc (suc left)) s → InContent limits (o ++ b ∷ []) p at kind (suc left) (s ++ b ∷ [])
  content_goes o b p at kind left s w =
      let l = length-append s (b ∷ []) in
      record {
        before = w.before;
        h = w.h;
        all = w.all;
        upto = w.upto;
        ready = w.ready;
        is = w.is;
        room = w.room;
        parts = ap (λ (z : List ℕ). z ++ b ∷ []) w.parts ∙ append_assoc w.before (w.h ++ s) (b ∷ []) ∙ ap (λ (z : List ℕ). w.before ++ z) (append_assoc w.h s (b ∷ []));
        at_is = w.at_is;
        len = (let len = w.len in omega (arith, l, len));
        some = omega arith;
      }

  pub step_holds : (σ : State) (o : List ℕ) (b : ℕ) → b < 256 → is_over σ ≡ false → Holds limits o σ → Holds limits (o ++ b ∷ []) (step limits (length o) σ b)
  unfolding step
  step_holds (due p) o b small going h = begun_holds p o b (initial_of b) h small refl
  step_holds (argument p at m zero n) o b small going h = absurd (let some = h.some in omega (arith, some))
  step_holds (argument p at m (suc zero) n) o b small going h = argument_ends o b p at m n small h
  step_holds (argument p at m (suc (suc left)) n) o b small going h = argument_goes o b p at m left n small h
  step_holds (content p at kind zero s) o b small going h = absurd (let some = h.some in omega (arith, some))
  step_holds (content p at kind (suc zero) s) o b small going h = content_ends o b p at kind s h
  step_holds (content p at kind (suc (suc left)) s) o b small going h = content_goes o b p at kind left s h
  step_holds (whole t) o b small going h = absurd (both_ways true going refl)
  step_holds (faulty k a) o b small going h = absurd (both_ways true going refl)

  -- what a run took, and what it left
  pub record Ran (o bs : List ℕ) (end : State × List ℕ) : Type 0 where
    pub front : List ℕ
    pub parts : bs ≡ front ++ end.1
    pub holds : Holds limits (o ++ front) end.0
    pub all : is_over end.0 ≡ false → end.1 ≡ []

  run_goes : (o : List ℕ) (b : ℕ) (bs : List ℕ) (end : State × List ℕ) → Ran (o ++ b ∷ []) bs end → Ran o (b ∷ bs) end
  run_goes o b bs end w =
      record {
        front = b ∷ w.front;
        parts = ap (λ (z : List ℕ). b ∷ z) w.parts;
        holds = moved limits end.0 (o ++ b ∷ w.front) ((o ++ b ∷ []) ++ w.front) (sym (append_assoc o (b ∷ []) w.front)) w.holds;
        all = w.all;
      }

  pub run_holds : (bs : List ℕ) (σ : State) (o : List ℕ) (i : ℕ) → i ≡ length o → AreOctets bs → Holds limits o σ → Ran o bs (run limits i σ bs)
  run_holds [] σ o i e are h =
      record { front = []; parts = refl; holds = moved limits σ (o ++ []) o (append-nil o) h; all = λ x. refl }
  run_holds (b ∷ bs) σ o i e are h =
      cond_both (is_over σ) _ _ (Ran o (b ∷ bs))
      (λ over. record { front = []; parts = refl; holds = moved limits σ (o ++ []) o (append-nil o) h; all = λ x. absurd (both_ways _ x over) })
      (λ going.
      let l = length-append o (b ∷ []) in
      let P : ℕ → Type 0 = λ k. Ran o (b ∷ bs) (run limits (k + 1) (step limits k σ b) bs) in
      subst P (sym e) (run_goes o b bs (run limits (length o + 1) (step limits (length o) σ b) bs)
      (run_holds bs (step limits (length o) σ b) (o ++ b ∷ []) (length o + 1) (omega (arith, l)) (λ j. are (suc j)) (step_holds σ o b (are 0) going h))))
