-- Each character makes a longer part or an octet, or is the first fault.
use Rattle.std.proofs.Common.{◌≡◌, ℕ, Option, Some, None, List, [], Bool, cond, get_or, length, false, sym, ap, subst, ◌∙◌, arith}
use Rattle.std.specs.Prelude.{◌==◌, IsTrue, ◌↔◌}
use Rattle.std.specs.Bool.{one_answer}
use Rattle.std.proofs.lemmas.Bool.{eqb-true}
use Rattle.std.proofs.lemmas.List.{nil_from_length}
use Rattle.wire_base.specs.Escaped.{escaped}
use Rattle.wire_base.specs.Layout.{AreOctets}
use Rattle.wire_base.specs.Spelling.{Goes, character_after, is_end}
use Rattle.wire_base.specs.Texts.{StopsAt}
use Rattle.wire_base.specs.declared.values.unescape.Part.{Part}
use Rattle.wire_base.proofs.Unescaping.{steps}
use Rattle.wire_base.proofs.TextFaults.{goes_on, stops_at_end, stops_within}
use Rattle.wire_base.proofs.values.unescape.read_escaped.Goals as goal

goes_none : (octets longer : List ℕ) (before : Part) (c : ℕ) (follows : Option Part) → follows ≡ None → Goes octets before c longer follows → character_after (octets, before) c ≡ None
goes_none octets longer before c follows e g = subst (λ (f : Option Part). Goes octets before c longer f) e g

goes_some : (octets longer : List ℕ) (before after : Part) (c : ℕ) (follows : Option Part) → follows ≡ Some after → Goes octets before c longer follows → character_after (octets, before) c ≡ Some (longer, after)
goes_some octets longer before after c follows e g = subst (λ (f : Option Part). Goes octets before c longer f) e g

empty_is : (octets : List ℕ) (empty : Bool) → IsTrue empty ↔ (octets ≡ []) → empty ≡ (length octets == 0)
empty_is octets empty e = one_answer empty (length octets == 0) e ((λ t. nil_from_length octets (eqb-true (length octets) 0 t)), λ n. ap (λ (o : List ℕ). length o == 0) n)

pub returns-in_default : goal.returns-in_default
returns-in_default c =
    let i = c.loop-character.invariant in
    record {
      octets = subst (λ (k : ℕ). StopsAt escaped AreOctets c.args.text.now k) (sym i.place)
          (stops_within steps c.args.text.now c.loop-character.character-index (c.loop-character.octets, c.loop-character.part) i.so_far i.gone_over c.loop-character-test.true
          (goes_none c.loop-character.octets c.put_character.new.octets c.loop-character.part (get_or c.args.text.now c.loop-character.character-index 0) c.in_ok-longer.field-0 c.in_default.is c.in_ok-longer.ensures.next));
    }

pub loop-character-preserved : goal.loop-character-preserved
loop-character-preserved c =
    let i = c.loop-character.invariant in
    let g = goes_on steps c.args.text.now c.loop-character.character-index (c.loop-character.octets, c.loop-character.part) (c.put_character.new.octets, c.in-Some.longer) i.so_far i.gone_over c.loop-character-test.true
    (goes_some c.loop-character.octets c.put_character.new.octets c.loop-character.part c.in-Some.longer (get_or c.args.text.now c.loop-character.character-index 0) c.in_ok-longer.field-0 c.in-Some.is c.in_ok-longer.ensures.next) in
    record { place = omega (arith, i.place); so_far = g.0; gone_over = g.1 }

pub returns-else-is_end : goal.returns-else-is_end
returns-else-is_end c =
    let i = c.loop-character.invariant in
    let end : c.loop-character.character-index ≡ length c.args.text.now = omega (arith, c.loop-character-test.false, c.loop-character.auto.character-index-end) in
    let empty = empty_is c.loop-character.octets c.is_empty.result c.is_empty.ensures.empty in
    let open_part : is_end c.loop-character.part (length c.loop-character.octets == 0) ≡ false = ap (λ (b : Bool). is_end c.loop-character.part b) (sym empty) ∙ sym c.is_end.ensures.end ∙ c.if-is_end.false in
    record {
      octets = subst (λ (k : ℕ). StopsAt escaped AreOctets c.args.text.now k) (sym i.place)
          (stops_at_end steps c.args.text.now c.loop-character.character-index (c.loop-character.octets, c.loop-character.part) i.so_far i.gone_over end
          (ap (λ (b : Bool). cond b (Some c.loop-character.octets) None) open_part));
    }
