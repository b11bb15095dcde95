-- What each answer on what stands first means.
use Rattle.std.proofs.Common.{◌≡◌, ℕ, zero, suc, ◌<◌, ◌≤◌, ◌⊎◌, inl, inr, Bool, true, false, cond, eqb, List, [], ◌∷◌, length, take, drop, Option, Some, refl, sym, ap, subst, ◌∙◌, arith, length-take}
use Rattle.std.specs.Prelude.{nat_lt, ◌==◌, ◌||◌}
use Rattle.std.proofs.lemmas.Bool.{eqb-true, eqb-false, le-ltb, ltb-false, ltb-true}
use Rattle.std.proofs.lemmas.List.{take_all, take-append-drop}
use Rattle.wire_base.specs.Layout.{AreOctets}
use Rattle.wire_base.proofs.Spelled.{AreOctets-front}
use Rattle.pa_attrs.specs.declared.attr.Attr.{Attr}
use Rattle.pa_attrs.specs.declared.fault.AttrFault.{AttrFault}
use Rattle.pa_attrs.specs.declared.header.Header.{Header}
use Rattle.pa_attrs.specs.Numbers.{HEADER, INVALID_PARAMETER, MOST_OCTETS, NO_TYPE, NO_VENDOR, UNSUPPORTED_ATTRIBUTE}
use Rattle.pa_attrs.specs.Header.{header_of}
use Rattle.pa_attrs.specs.AttrForm.{header_for}
use Rattle.pa_attrs.specs.Faults.{fault, row, first_shown, header_rows, is_refused}
use Rattle.pa_attrs.specs.Stream.{Front as Begun, More, Bad, Whole, front_of}
use Rattle.pa_attrs.proofs.AttrLaws.{whole_is_attribute as first_is_attribute}
use Rattle.pa_attrs.proofs.FirstFaults.{stream_err, stream_shown}
use Rattle.pa_attrs.proofs.Headers.{stream_good}
use Rattle.pa_attrs.proofs.Fronts.{front_bad, front_none, bad_is, whole_is, whole_less, whole_more, whole_within}
use Rattle.swid_cli.specs.declared.mirror.first_attribute.Front.{Front}
use Rattle.swid_cli.specs.declared.mirror.first_attribute.Front.TheVariants as front
use Rattle.swid_cli.specs.Front.{REPORT_TYPES, begins, cut, first_of, shows_refused}
use Rattle.swid_cli.specs.FirstLaws.{Shows, IsUnfinished, EndIsNothing, TornIsUnfinished, LimitIsBeyond, FaultyShows, WholeIsAttribute}
use Rattle.swid_cli.proofs.Fronts.{first_begins, first_refused, long_shows, short_open}
use Rattle.swid_cli.proofs.Wanting.{cut_limit, cut_torn}

-- ---- what shows

-- The octets may become anything.
record IsOpen (octets : List ℕ) : Type 0 where
  passed : shows_refused octets ≡ false
  more : front_of octets ≡ More

refused_by : (octets : List ℕ) (short : Bool) → nat_lt (length octets) HEADER ≡ short → cond short false (is_refused REPORT_TYPES (header_of octets)) ≡ true
    → (HEADER ≤ length octets) × (is_refused REPORT_TYPES (header_of octets) ≡ true)
refused_by octets true is shows = absurd cc
refused_by octets false is shows = (ltb-false (length octets) HEADER is, shows)

-- One that is refused is the first fault of the table.
refused_shows : (octets : List ℕ) → shows_refused octets ≡ true → Shows (fault UNSUPPORTED_ATTRIBUTE 0) octets
refused_shows octets shows =
    let r = refused_by octets (nat_lt (length octets) HEADER) refl shows in
    record { header = r.0; first = rw r.1 refl }

-- So is a fault of any stream, where none is refused.
bad_shows : (octets : List ℕ) (bad : AttrFault) → shows_refused octets ≡ false → front_of octets ≡ Bad bad → Shows bad octets
bad_shows octets bad passed is =
    let b = bad_is octets bad is in
    let known : is_refused REPORT_TYPES (header_of octets) ≡ false = sym (long_shows octets b.0) ∙ passed in
    record { header = b.0; first = rw known (stream_shown octets bad b.1) }

near_by : (a b c : Bool) (bad : AttrFault) → first_shown (row a INVALID_PARAMETER 1 ∷ row b INVALID_PARAMETER 4 ∷ row c INVALID_PARAMETER 8 ∷ []) ≡ Some bad → bad.at < HEADER
near_by true b c bad e = let same : fault INVALID_PARAMETER 1 ≡ bad = cc in omega (arith, ap (λ (f : AttrFault). f.at) (sym same))
near_by false true c bad e = let same : fault INVALID_PARAMETER 4 ≡ bad = cc in omega (arith, ap (λ (f : AttrFault). f.at) (sym same))
near_by false false true bad e = let same : fault INVALID_PARAMETER 8 ≡ bad = cc in omega (arith, ap (λ (f : AttrFault). f.at) (sym same))
near_by false false false bad e = absurd cc

-- A fault of any stream lies in the header.
pub bad_near : (octets : List ℕ) (bad : AttrFault) → front_of octets ≡ Bad bad → bad.at < HEADER
bad_near octets bad is =
    let h : Header = header_of octets in
    near_by (h.vendor == NO_VENDOR) (h.kind == NO_TYPE) (nat_lt h.length HEADER || nat_lt MOST_OCTETS h.length) bad (stream_shown octets bad (bad_is octets bad is).1)

same_fault : (test : Bool) (one : AttrFault) (others : Option AttrFault) (bad : AttrFault) → cond test (Some one) others ≡ Some bad → ((test ≡ true) × (one ≡ bad)) ⊎ ((test ≡ false) × (others ≡ Some bad))
same_fault true one others bad e = inl (refl, cc)
same_fault false one others bad e = inr (refl, e)

-- And nothing else is one.
shows_is : (octets : List ℕ) (bad : AttrFault) → Shows bad octets → ((shows_refused octets ≡ true) × (fault UNSUPPORTED_ATTRIBUTE 0 ≡ bad)) ⊎ ((shows_refused octets ≡ false) × (front_of octets ≡ Bad bad))
shows_is octets bad shows =
    elim (same_fault (is_refused REPORT_TYPES (header_of octets)) (fault UNSUPPORTED_ATTRIBUTE 0) (first_shown (header_rows MOST_OCTETS (header_of octets))) bad shows.first) [
      | inl one ↦ inl (long_shows octets shows.header ∙ one.0, one.1)
      | inr others ↦ inr (long_shows octets shows.header ∙ others.0, front_bad octets bad shows.header (stream_err octets bad others.1))
    ]

more_bad : (bad : AttrFault) → ◌≡◌ {A = Begun} More (Bad bad) → ⊥
more_bad bad e = cc

more_whole : (attr : Attr) (len : ℕ) → ◌≡◌ {A = Begun} More (Whole attr len) → ⊥
more_whole attr len e = cc

false_true : false ≡ true → ⊥
false_true e = cc

-- What may become anything shows nothing, and what shows nothing may.
unfinished : (octets : List ℕ) → AreOctets octets → IsOpen octets → IsUnfinished octets
unfinished octets are is = record {
  no_fault = λ bad shows. elim (shows_is octets bad shows) [
    | inl one ↦ false_true (sym is.passed ∙ one.0)
    | inr others ↦ more_bad bad (sym is.more ∙ others.1)
  ];
  no_attribute = λ attr len first. more_whole attr len (sym is.more ∙ (first_is_attribute octets attr len are).1 first);
}

open_by : (octets : List ℕ) → AreOctets octets → IsUnfinished octets → (refused : Bool) → shows_refused octets ≡ refused → (begun : Begun) → front_of octets ≡ begun → IsOpen octets
open_by octets are none true shows begun is = absurd (none.no_fault (fault UNSUPPORTED_ATTRIBUTE 0) (refused_shows octets shows))
open_by octets are none false passed More is = record { passed = passed; more = is }
open_by octets are none false passed (Bad bad) is = absurd (none.no_fault bad (bad_shows octets bad passed is))
open_by octets are none false passed (Whole attr len) is = absurd (none.no_attribute attr len ((first_is_attribute octets attr len are).0 is))

is_open : (octets : List ℕ) → AreOctets octets → IsUnfinished octets → IsOpen octets
is_open octets are none = open_by octets are none (shows_refused octets) refl (front_of octets) refl

-- ---- what each answer says

abbrev Says : ℕ → List ℕ → Front → Type 0
Says room octets front.End = octets ≡ []
Says room octets (front.Torn have) = (length octets ≡ have) × (0 < have) × (have ≤ room) × IsOpen (take room octets)
Says room octets front.Limit = (room < length octets) × IsOpen (take room octets)
Says room octets (front.Faulty bad) = Shows bad (take room octets)
Says room octets (front.Whole attr len) = (shows_refused (take room octets) ≡ false) × (front_of (take room octets) ≡ Whole attr len)

nil_of : (octets : List ℕ) → length octets ≡ 0 → octets ≡ []
nil_of [] none = refl
nil_of (octet ∷ octets) none = absurd (omega (arith, none))

positive : (n : ℕ) → eqb n 0 ≡ false → 0 < n
positive n is = let not-none = eqb-false n 0 is in elim (zero_or n) [ inl none ↦ absurd (not-none none) | inr some ↦ some ]
  where
    zero_or : (n : ℕ) → (n ≡ 0) ⊎ (0 < n)
    zero_or zero = inl refl
    zero_or (suc n) = inr (omega arith)

cut_says : (room : ℕ) (octets : List ℕ) (over none : Bool) → nat_lt room (length octets) ≡ over → eqb (length octets) 0 ≡ none → IsOpen (take room octets)
    → Says room octets (cond over front.Limit (cond none front.End (front.Torn (length octets))))
cut_says room octets true none over is still-open = (ltb-true room (length octets) over, still-open)
cut_says room octets false true within is still-open = nil_of octets (eqb-true (length octets) 0 is)
cut_says room octets false false within is still-open = (refl, positive (length octets) is, ltb-false room (length octets) within, still-open)

says_by : (room : ℕ) (octets : List ℕ) (refused : Bool) → shows_refused (take room octets) ≡ refused → (begun : Begun) → front_of (take room octets) ≡ begun
    → Says room octets (cond refused (front.Faulty (fault UNSUPPORTED_ATTRIBUTE 0)) (begins room (length octets) begun))
says_by room octets true shows begun is = refused_shows (take room octets) shows
says_by room octets false passed More is = cut_says room octets (nat_lt room (length octets)) (eqb (length octets) 0) refl refl (record { passed = passed; more = is })
says_by room octets false passed (Bad bad) is = bad_shows (take room octets) bad passed is
says_by room octets false passed (Whole attr len) is = (passed, is)

says : (room : ℕ) (octets : List ℕ) → Says room octets (first_of room octets)
unfolding first_of
says room octets = says_by room octets (shows_refused (take room octets)) refl (front_of (take room octets)) refl

said : (room : ℕ) (octets : List ℕ) (first : Front) → first_of room octets ≡ first → Says room octets first
said room octets first is = subst (λ (f : Front). Says room octets f) is (says room octets)

-- ---- the laws

are_seen : (room : ℕ) (octets : List ℕ) → AreOctets octets → AreOctets (take room octets)
are_seen room octets are = AreOctets-front octets (take room octets) (drop room octets) (sym (take-append-drop room octets)) are

cut_of : (room : ℕ) (octets : List ℕ) → IsOpen (take room octets) → first_of room octets ≡ cut room (length octets)
cut_of room octets still-open = first_begins room octets More still-open.passed still-open.more

pub end_is_nothing : EndIsNothing
end_is_nothing room octets = (said room octets front.End, λ none. subst (λ (o : List ℕ). first_of room o ≡ front.End) (sym none) (nothing room))
  where
    nothing : (room : ℕ) → first_of room [] ≡ front.End
    nothing room =
        let all : take room [] ≡ [] = take_all room [] (omega arith) in
        cut_of room [] (record { passed = ap shows_refused all ∙ short_open [] (omega arith); more = ap front_of all ∙ front_none }) ∙ rw (le-ltb room 0 (omega arith)) refl

pub torn_is_unfinished : TornIsUnfinished
torn_is_unfinished room octets have are = (
  λ e. let s = said room octets (front.Torn have) e in
      let all : take room octets ≡ octets = take_all room octets (omega (arith, s.0, s.2)) in
      record { count = s.0; some = s.1; within = s.2; unfinished = subst IsUnfinished all (unfinished (take room octets) (are_seen room octets are) s.3) },
  λ torn. let all : take room octets ≡ octets = take_all room octets (omega (arith, torn.count, torn.within)) in
      cut_of room octets (subst IsOpen (sym all) (is_open octets are torn.unfinished))
      ∙ cut_torn room (length octets) (omega (arith, torn.count, torn.some)) (omega (arith, torn.count, torn.within)) ∙ ap (λ (n : ℕ). front.Torn n) torn.count,
)

pub limit_is_beyond : LimitIsBeyond
limit_is_beyond room octets are = (
  λ e. let s = said room octets front.Limit e in record { beyond = s.0; unfinished = unfinished (take room octets) (are_seen room octets are) s.1 },
  λ limit. cut_of room octets (is_open (take room octets) (are_seen room octets are) limit.unfinished) ∙ cut_limit room (length octets) limit.beyond,
)

pub faulty_shows : FaultyShows
faulty_shows room octets bad = (
  said room octets (front.Faulty bad),
  λ shows. elim (shows_is (take room octets) bad shows) [
    | inl one ↦ first_refused room octets one.0 ∙ ap (λ (f : AttrFault). front.Faulty f) one.1
    | inr others ↦ first_begins room octets (Bad bad) others.0 others.1
  ],
)

-- An attribute that stands first is passed exactly as its header is.
passed_is : (octets : List ℕ) (attr : Attr) (len : ℕ) → front_of octets ≡ Whole attr len → is_refused REPORT_TYPES (header_for attr) ≡ is_refused REPORT_TYPES (header_of octets)
passed_is octets attr len e =
    let w = whole_is octets attr len e in
    let g = stream_good octets w.h w.good in
    ap (λ (a : Attr). is_refused REPORT_TYPES (header_for a)) (sym w.attr-is) ∙ ap (is_refused REPORT_TYPES) (sym g.is)

pub whole_is_attribute : WholeIsAttribute
whole_is_attribute room octets attr len are = (
  λ e. let s = said room octets (front.Whole attr len) e in
      let within = whole_within (take room octets) attr len s.1 in
      let whole : front_of octets ≡ Whole attr len = ap front_of (sym (take-append-drop room octets)) ∙ whole_more (take room octets) (drop room octets) attr len s.1 in
      record {
        first = (first_is_attribute octets attr len are).0 whole;
        within = omega (arith, within.2, length-take room octets);
        passed = passed_is (take room octets) attr len s.1 ∙ sym (long_shows (take room octets) (omega (arith, within.0, within.2))) ∙ s.0;
      },
  λ taken. let whole : front_of octets ≡ Whole attr len = (first_is_attribute octets attr len are).1 taken.first in
      let within = whole_within octets attr len whole in
      let seen : len ≤ length (take room octets) = omega (arith, within.2, taken.within, length-take room octets) in
      let there : front_of (take room octets) ≡ Whole attr len = whole_less (take room octets) (drop room octets) attr len (ap front_of (take-append-drop room octets) ∙ whole) seen in
      let still-open : shows_refused (take room octets) ≡ false = long_shows (take room octets) (omega (arith, within.0, seen)) ∙ sym (passed_is (take room octets) attr len there) ∙ taken.passed in
      first_begins room octets (Whole attr len) still-open there,
)
