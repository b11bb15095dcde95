-- A line has one meaning: its words spell one value each.
use Rattle.std.proofs.Common.{◌≡◌, ℕ, ◌++◌, List, [], ◌∷◌, Option, Ok, sym, ap, ap₂, ◌∙◌, pos}
use Rattle.std.specs.Prelude.{codes}
use Rattle.jiff_core.proofs.DateLemmas.{epoch_day_injective}
use Rattle.jiff_core.proofs.DateTimeLemmas.{civil_nanos_injective, time_nanos_injective}
use Rattle.swima_model.specs.declared.record.Content.{Content}
use Rattle.wire_base.specs.Stamp.{IsStampAt, digits}
use Rattle.line_words.specs.Reading.{FindsExactly, IsNumber}
use Rattle.line_words.proofs.Finding.{content_same, found_one, one_hex, one_number, one_text}
use Rattle.session_script.specs.declared.header.Header.{Header}
use Rattle.session_script.specs.declared.line.Line.{Line}
use Rattle.session_script.specs.Script.{HeaderIs, IsContent, IsNumberWithin, LineIs, alters, answer_of, creates, header_by, kind_of, named, numbered, within}

-- ---- words

number_one : (word : List ℕ) (one other : Option ℕ) → FindsExactly (IsNumber word) one → FindsExactly (IsNumber word) other → one ≡ other
number_one word one other this that = found_one (IsNumber word) (one_number word) one other this that

within_one : (least most : ℕ) (word : List ℕ) (one other : Option ℕ) → IsNumberWithin least most word one → IsNumberWithin least most word other → one ≡ other
within_one least most word one other this that = this.2 ∙ ap (within least most) (number_one word this.0 that.0 this.1 that.1) ∙ sym that.2

one_content : (text digits : List ℕ) (one other : Content) → IsContent text digits one → IsContent text digits other → one ≡ other
one_content text digits one other a b =
    content_same one other (a.model ∙ sym b.model) (a.source ∙ sym b.source) (one_text 65535 text one.ident other.ident a.ident b.ident) (a.locator ∙ sym b.locator)
    (a.body.is ∙ one_hex digits a.octets b.octets a.hex b.hex ∙ sym b.body.is)

content_one : (text digits : List ℕ) (one other : Option Content) → FindsExactly (IsContent text digits) one → FindsExactly (IsContent text digits) other → one ≡ other
content_one text digits one other this that = found_one (IsContent text digits) (one_content text digits) one other this that

-- ---- lines

pub header_one : (words : List (List ℕ)) (one other : Option Header) → HeaderIs words one → HeaderIs words other → one ≡ other
header_one [] one other this that = this ∙ sym that
header_one (a ∷ []) one other this that = this ∙ sym that
header_one (a ∷ b ∷ []) one other this that = this ∙ sym that
header_one (a ∷ b ∷ c ∷ []) one other this that = this ∙ sym that
header_one (a ∷ b ∷ c ∷ d ∷ []) one other this that = this ∙ sym that
header_one (a ∷ b ∷ c ∷ d ∷ e ∷ []) one other this that = this ∙ sym that
header_one (name ∷ epoch ∷ most ∷ room ∷ kind ∷ subscribe ∷ []) one other (e, is_e, (c, is_c, (m, is_m, this))) (f, is_f, (d, is_d, (n, is_n, that))) =
    this
    ∙ ap (λ (k : Option ℕ). named name (header_by k c m (kind_of kind) (answer_of subscribe))) (within_one 1 4294967295 epoch e f is_e is_f)
    ∙ ap (λ (k : Option ℕ). named name (header_by f k m (kind_of kind) (answer_of subscribe))) (within_one 1 4096 most c d is_c is_d)
    ∙ ap (λ (k : Option ℕ). named name (header_by f d k (kind_of kind) (answer_of subscribe))) (within_one 64 16000000 room m n is_m is_n)
    ∙ sym that
header_one (a ∷ b ∷ c ∷ d ∷ e ∷ f ∷ g ∷ more) one other this that = this ∙ sym that

pub line_one : (words : List (List ℕ)) (one other : Option Line) → LineIs words one → LineIs words other → one ≡ other
line_one [] one other this that = this ∙ sym that
line_one (name ∷ []) one other this that = this ∙ sym that
line_one (name ∷ number ∷ []) one other (n, is_n, this) (m, is_m, that) = this ∙ ap (numbered name) (number_one number n m is_n is_m) ∙ sym that
line_one (name ∷ ident ∷ body ∷ []) one other (c, is_c, this) (d, is_d, that) = this ∙ ap (creates name) (content_one ident body c d is_c is_d) ∙ sym that
line_one (name ∷ id ∷ ident ∷ body ∷ []) one other (n, is_n, (c, is_c, this)) (m, is_m, (d, is_d, that)) =
    this ∙ ap₂ (λ (k : Option ℕ) (e : Option Content). alters name k e) (number_one id n m is_n is_m) (content_one ident body c d is_c is_d) ∙ sym that
line_one (a ∷ b ∷ c ∷ d ∷ e ∷ more) one other this that = this ∙ sym that

-- ---- stamps

same_pos : (m n : ℕ) → pos m ≡ pos n → m ≡ n
same_pos m n same = cc

abbrev text_of : ℕ → ℕ → ℕ → ℕ → ℕ → ℕ → List ℕ
text_of year month day hour minute second =
    digits 4 year ++ codes "-" ++ digits 2 month ++ codes "-" ++ digits 2 day ++ codes "T"
    ++ digits 2 hour ++ codes ":" ++ digits 2 minute ++ codes ":" ++ digits 2 second ++ codes "Z"

-- A second has one stamp: a clock shows one moment then.
pub stamp_one : (second : ℕ) (one other : List ℕ) → IsStampAt second (Ok one) → IsStampAt second (Ok other) → one ≡ other
stamp_one second one other (below, m, (clock, at, shows), this) (also, n, (dial, then_at, looks), that) =
    let days = civil_nanos_injective clock dial (at ∙ sym then_at) in
    let date = epoch_day_injective clock.date dial.date days.0 in
    let time = time_nanos_injective clock.time dial.time days.1 in
    this
    ∙ ap (λ (k : ℕ). text_of k m.month m.day m.hour m.minute m.second) (same_pos m.year n.year (sym shows.year ∙ date.0 ∙ looks.year))
    ∙ ap (λ (k : ℕ). text_of n.year k m.day m.hour m.minute m.second) (sym shows.month ∙ date.1 ∙ looks.month)
    ∙ ap (λ (k : ℕ). text_of n.year n.month k m.hour m.minute m.second) (sym shows.day ∙ date.2 ∙ looks.day)
    ∙ ap (λ (k : ℕ). text_of n.year n.month n.day k m.minute m.second) (sym shows.hour ∙ time.0 ∙ looks.hour)
    ∙ ap (λ (k : ℕ). text_of n.year n.month n.day n.hour k m.second) (sym shows.minute ∙ time.1 ∙ looks.minute)
    ∙ ap (λ (k : ℕ). text_of n.year n.month n.day n.hour n.minute k) (sym shows.second ∙ time.2 ∙ looks.second)
    ∙ sym that
