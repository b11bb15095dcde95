-- The texts, numbers and words of the arguments of words that pass.
use Rattle.std.proofs.Common.{◌≡◌, ◌≤◌, ◌<◌, ◌^◌, ◌∙◌, ◌∷◌, ◌&&◌, ◌==◌, [], ℕ, Bool, List, Option, Some, None, Result, Ok, Err, cond, true, false, refl, sym, ap, subst, length, nat_lt, arith, eqb-true, ltb-false}
use Rattle.std.specs.Prelude.{option_and_then, option_map, slice_get, unwrap_or}
use Rattle.std.specs.Str.Parse.{ParsesUnsigned, digits_value, without_leading_plus}
use Rattle.clap.specs.Facts.{parser_of_value, unwrap_or_range}
use Rattle.clap.specs.Kinds.{range_kinds}
use Rattle.clap.specs.ValueTests.{accepts}
use Rattle.clap.specs.Values.{Accepts, IsUnsignedIn, read_as, reading_of}
use Rattle.clap.specs.Matches.{ReadsOne}
use Rattle.clap.specs.Takes.{is_given}
use Rattle.clap.specs.Walk.{Row, Rule, Text, arg_by_id, first_of, has_row, most_values, one_of, reading_by, row_text}
use Rattle.clap.specs.declared.builder.value_parser.ValueParser.{ValueParser}
use Rattle.clap.specs.declared.builder.value_parser.ValueParser.TheVariants as parser
use Rattle.clap.specs.declared.error.kind.ErrorKind.{ErrorKind}
use Rattle.clap.specs.declared.error.kind.ErrorKind.TheVariants as kind
use Rattle.clap.proofs.ValueTestLemmas.{accepts-Accepts}
use Rattle.command_options.specs.Arguments.{MOST_NUMBER}
use Rattle.command_options.specs.Given.{IsNumber, number, number_of, texts_of}
use Rattle.command_options.proofs.RowsFit.{Each, Fits, or_none}
use Rattle.command_options.proofs.TakenRows.{FitsRule, TakenRows, fits_rule, given_found, row_at, there_found}

-- ---- how many values

range_cases : (least most n : ℕ) (empty one this few many : Bool) → (least == most) ≡ one → (least == n) ≡ this → nat_lt n least ≡ few → nat_lt most n ≡ many
    → cond empty (kind.InvalidValue ∷ []) (cond one (cond this [] (kind.WrongNumberOfValues ∷ []))
    (cond few (kind.TooFewValues ∷ []) (cond many (kind.TooManyValues ∷ []) []))) ≡ []
    → (least ≤ n) × (n ≤ most)
range_cases least most n true one this few many a b c d e = cc
range_cases least most n false true true few many a b c d e =
    let equal : least ≡ most = eqb-true _ _ a in
    let same : least ≡ n = eqb-true _ _ b in
    (omega arith, omega arith)
range_cases least most n false true false few many a b c d e = cc
range_cases least most n false false this true many a b c d e = cc
range_cases least most n false false this false true a b c d e = cc
range_cases least most n false false this false false a b c d e = (ltb-false _ _ c, ltb-false _ _ d)

pub ranged : (least most n : ℕ) → range_kinds least most n ≡ [] → (least ≤ n) × (n ≤ most)
ranged least most n e = range_cases least most n (nat_lt 0 least && n == 0) (least == most) (least == n) (nat_lt n least) (nat_lt most n) refl refl refl refl e

-- ---- a text

abbrev pub least_of : Rule → ℕ
least_of a = (unwrap_or_range a.range).start_inclusive

-- The argument has a text, which passes it.
pub record HasText (id : Text) (a : Rule) (rows : List Row) : Type 0 where
  pub text : Text
  pub first : first_of id rows ≡ Some text
  pub read : one_of id rows ≡ Some (read_as (reading_by a) text)
  pub passes : accepts a.ignore_case (parser_of_value a.parser) text ≡ true

accepted : (b : Bool) (k : ErrorKind) → cond b [] (k ∷ []) ≡ [] → b ≡ true
accepted true k e = refl
accepted false k e = cc

first_fits : (id : Text) (a : Rule) (rows : List Row) (r : Row) (vs : List Text) → r.values ≡ vs → 1 ≤ least_of a → FitsRule a r → row_at id rows ≡ Some r
    → HasText id a rows
first_fits id a rows r [] is some fit there =
    let none = (ranged (least_of a) (most_values a) 0 (rw is at fit.count)).0 in
    absurd (omega arith)
first_fits id a rows r (v ∷ vs) is some fit there = record {
  text = v;
  first = ap (option_and_then (λ (x : Row). slice_get x.values 0)) there ∙ ap (λ (xs : List Text). slice_get xs 0) is;
  read = ap (option_and_then row_text) there ∙ ap (λ (xs : List Text). option_map (read_as r.reading) (slice_get xs 0)) is
      ∙ ap (λ how. Some (read_as how v)) fit.reading;
  passes = accepted _ _ (or_none _ _ (rw is at fit.passes)).0;
}

pub text_there : (id : Text) (a : Rule) (rows : List Row) (r : Row) → 1 ≤ least_of a → FitsRule a r → row_at id rows ≡ Some r → HasText id a rows
text_there id a rows r some fit there = first_fits id a rows r r.values refl some fit there

module _ (c : List Rule) (rows : List Row) (t : TakenRows c rows) where
  pub given_text : (id : Text) (a : Rule) → arg_by_id c id ≡ Some a → 1 ≤ least_of a → is_given id rows ≡ true → HasText id a rows
  given_text id a known some given =
      let found = given_found id rows given in
      text_there id a rows found.0 some (fits_rule c rows id a found.0 t.fits known found.1) found.1

  pub default_text : (id : Text) (a : Rule) → arg_by_id c id ≡ Some a → 1 ≤ least_of a → has_row id rows ≡ true → HasText id a rows
  default_text id a known some there =
      let found = there_found id rows there in
      text_there id a rows found.0 some (fits_rule c rows id a found.0 t.fits known found.1) found.1

-- ---- a number

-- The argument has a number, which is not above `most`.
pub record HasNumber (id : Text) (rows : List Row) (most : ℕ) : Type 0 where
  pub here : IsNumber id rows
  pub within : number here.text ≤ most

pub number_there : (id : Text) (a : Rule) (rows : List Row) (most : ℕ) → parser_of_value a.parser ≡ parser.Unsigned 1 most → most ≤ MOST_NUMBER → HasText id a rows
    → HasNumber id rows most
number_there id a rows most is small has =
    let taken : IsUnsignedIn 1 most has.text =
    subst (λ (p : ValueParser). Accepts a.ignore_case p has.text) is (accepts-Accepts a.ignore_case (parser_of_value a.parser) has.text has.passes) in
    let upper = taken.3 in
    record {
      here = record {
        text = has.text;
        first = has.first;
        read = has.read ∙ ap (λ (p : ValueParser). Some (read_as (reading_of p) has.text)) is;
        number = (taken.0, taken.1, taken.2, omega arith);
      };
      within = upper;
    }

same_number : (m n : ℕ) → Some m ≡ Some n → m ≡ n
same_number m n e = ap (λ (o : Option ℕ). unwrap_or o m) e

pub number_is : (id : Text) (rows : List Row) (here : IsNumber id rows) → number_of id rows ≡ Some (number here.text)
number_is id rows here = ap (option_map number) here.first

pub number_within : (id : Text) (rows : List Row) (most n : ℕ) → HasNumber id rows most → number_of id rows ≡ Some n → (1 ≤ n) × (n ≤ most)
number_within id rows most n has is =
    let same : number has.here.text ≡ n = same_number _ _ (sym (number_is id rows has.here) ∙ is) in
    let lower = has.here.number.2 in
    let upper = has.within in
    (omega arith, omega arith)

-- The text of a number is read as it.
pub number_read : (E : Type 0) (G : List ℕ → Result ℕ E → Type 0) (text : List ℕ) (r : Option ℕ) → ReadsOne G text r
    → ((u : List ℕ) (x : Result ℕ E) → G u x → ParsesUnsigned 32 10 u x) → IsUnsignedIn 1 MOST_NUMBER text → r ≡ Some (number text)
number_read E G text (Some v) h only fits =
    let parsed = only text (Ok v) h in
    ap (λ (n : ℕ). Some n) parsed.1
number_read E G text None h only fits =
    let upper = fits.3 in
    let small : digits_value 10 (without_leading_plus text) < 2 ^ 32 = omega arith in
    absurd (only text (Err h.0) h.1 (fits.0, small))

-- ---- words

abbrev words_of : Option Row → List Text
words_of o = unwrap_or (option_map (λ (r : Row). r.values) o) []

words_at : (c : List Rule) (id : Text) (a : Rule) (rows : List Row) (o : Option Row) → row_at id rows ≡ o → Each (Fits c) rows → arg_by_id c id ≡ Some a
    → length (words_of o) ≤ most_values a
words_at c id a rows None is fits known = omega arith
words_at c id a rows (Some r) is fits known = (ranged (least_of a) (most_values a) (length r.values) (fits_rule c rows id a r fits known is).count).1

pub words_within : (c : List Rule) (id : Text) (a : Rule) (rows : List Row) → Each (Fits c) rows → arg_by_id c id ≡ Some a → length (texts_of id rows) ≤ most_values a
words_within c id a rows fits known = words_at c id a rows (row_at id rows) refl fits known

pub words_there : (c : List Rule) (id : Text) (a : Rule) (rows : List Row) → TakenRows c rows → arg_by_id c id ≡ Some a → is_given id rows ≡ true
    → least_of a ≤ length (texts_of id rows)
words_there c id a rows t known given =
    let found = given_found id rows given in
    rw found.1 (ranged (least_of a) (most_values a) (length found.0.values) (fits_rule c rows id a found.0 t.fits known found.1).count).0
