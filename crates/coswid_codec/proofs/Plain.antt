-- The forms of single values.
use Rattle.std.proofs.Common.{◌≡◌, inl, inr, ℕ, ℤ, pos, Bool, List, ◌==◌, length, None, refl, sym, ap, ◌∙◌, subst, arith}
use Rattle.std.proofs.lemmas.Bool.{eqb-true, eq-eqb}
use Rattle.cbor_det.specs.Term.{Term, Terms, integer, octets, text, array, tagged, boolean, no_terms, term}
use Rattle.coswid_res.specs.declared.resources.hash.HashEntry.{HashEntry}
use Rattle.coswid_res.specs.Schema.{one, a_text, a_boolean, an_integer, an_unsigned, an_identifier, a_code, a_uri, a_time, a_hash}
use Rattle.coswid_res.specs.Fault.{field_fault, hash_fault, under, unless_wrong, is_integer, is_octets}
use Rattle.coswid_res.specs.Items.{unsigned_item, uri_item, time_item, hash_item}
use Rattle.coswid_res.specs.Words.{Text, Boolean, Integer, Unsigned, Uri, Time, Hash}
use Rattle.coswid_res.proofs.Maps.{or_none}
use Rattle.coswid_tag.specs.declared.value.CodeValue.{CodeValue}
use Rattle.coswid_tag.specs.declared.value.CodeValue.TheVariants as code
use Rattle.coswid_tag.specs.declared.value.TagId.{TagId}
use Rattle.coswid_tag.specs.declared.value.TagId.TheVariants as identifier
use Rattle.coswid_codec.specs.Parts.{Identifier, identifier_item, Code, code_item}
use Rattle.coswid_codec.proofs.Lawful.{Told, Lawful, wrong, right}

-- what is written just as it is read
as_read : {A : Type 0} (field : _) (Is : A → Term → Type 0) (item : A → Term) (v : A) (t : Term) → Is v (item v) → field_fault field (item v) ≡ None → t ≡ item v
    → Told field Is item 0 v t
as_read {A} field Is item v t again none is =
    let P : Term → Type 0 = λ u. Told field Is item 0 v u in
    subst P (sym is) (record { none = none; again = again; proper = λ p. p; within = λ n le d. d; few = λ n le. omega (arith, le) })

-- texts

text_some : (t : Term) → field_fault (one a_text) t ≡ None → (s : List ℕ) × Text s t
text_some (text s) none = (s, refl)
text_some t none = wrong none

pub text_same : (s r : List ℕ) (t : Term) → Text s t → Text r t → s ≡ r
text_same s r t first second = let e : text s ≡ text r = sym first ∙ second in cc

pub text_law : Lawful (one a_text) Text text 0
text_law = record {
  told = λ s t is. as_read (one a_text) Text text s t refl refl is;
  same = text_same;
  some = text_some;
}

-- false and true

boolean_some : (t : Term) → field_fault (one a_boolean) t ≡ None → (b : Bool) × Boolean b t
boolean_some (boolean b) none = (b, refl)
boolean_some t none = wrong none

boolean_same : (b c : Bool) (t : Term) → Boolean b t → Boolean c t → b ≡ c
boolean_same b c t first second = let e : boolean b ≡ boolean c = sym first ∙ second in cc

pub boolean_law : Lawful (one a_boolean) Boolean boolean 0
boolean_law = record {
  told = λ b t is. as_read (one a_boolean) Boolean boolean b t refl refl is;
  same = boolean_same;
  some = boolean_some;
}

-- integers

integer_some : (t : Term) → field_fault (one an_integer) t ≡ None → (z : ℤ) × Integer z t
integer_some (integer z) none = (z, refl)
integer_some t none = wrong none

integer_same : (z y : ℤ) (t : Term) → Integer z t → Integer y t → z ≡ y
integer_same z y t first second = let e : integer z ≡ integer y = sym first ∙ second in cc

pub integer_law : Lawful (one an_integer) Integer integer 0
integer_law = record {
  told = λ z t is. as_read (one an_integer) Integer integer z t refl refl is;
  same = integer_same;
  some = integer_some;
}

-- integers that are not below 0

unsigned_some : (t : Term) → field_fault (one an_unsigned) t ≡ None → (n : ℕ) × Unsigned n t
unsigned_some (integer (pos n)) none = (n, refl)
unsigned_some t none = wrong none

unsigned_same : (n m : ℕ) (t : Term) → Unsigned n t → Unsigned m t → n ≡ m
unsigned_same n m t first second = let e : integer (pos n) ≡ integer (pos m) = sym first ∙ second in cc

pub unsigned_law : Lawful (one an_unsigned) Unsigned unsigned_item 0
unsigned_law = record {
  told = λ n t is. as_read (one an_unsigned) Unsigned unsigned_item n t refl refl is;
  same = unsigned_same;
  some = unsigned_some;
}

-- identifiers

identifier_told : (i : TagId) (t : Term) → Identifier i t → Told (one an_identifier) Identifier identifier_item 0 i t
identifier_told (identifier.Text s) t is = as_read (one an_identifier) Identifier identifier_item (identifier.Text s) t refl refl is
identifier_told (identifier.Uuid s) t is =
    let none : field_fault (one an_identifier) (octets s) ≡ None = ap (λ (b : Bool). unless_wrong b) (eq-eqb (length s) 16 is.0) in
    as_read (one an_identifier) Identifier identifier_item (identifier.Uuid s) t (is.0, refl) none is.1

octets_same : (s r : List ℕ) (t : Term) → t ≡ octets s → t ≡ octets r → s ≡ r
octets_same s r t first second = let e : octets s ≡ octets r = sym first ∙ second in cc

text_no_octets : {A : Type 0} (s r : List ℕ) (t : Term) → t ≡ text s → t ≡ octets r → A
text_no_octets s r t first second = let e : text s ≡ octets r = sym first ∙ second in absurd cc

identifier_same : (i j : TagId) (t : Term) → Identifier i t → Identifier j t → i ≡ j
identifier_same (identifier.Text s) (identifier.Text r) t first second = ap identifier.Text (text_same s r t first second)
identifier_same (identifier.Uuid s) (identifier.Uuid r) t first second = ap identifier.Uuid (octets_same s r t first.1 second.1)
identifier_same (identifier.Text s) (identifier.Uuid r) t first second = text_no_octets s r t first second.1
identifier_same (identifier.Uuid s) (identifier.Text r) t first second = text_no_octets r s t second first.1

identifier_some : (t : Term) → field_fault (one an_identifier) t ≡ None → (i : TagId) × Identifier i t
identifier_some (text s) none = (identifier.Text s, refl)
identifier_some (octets s) none = (identifier.Uuid s, (eqb-true (length s) 16 (right (length s == 16) none), refl))
identifier_some t none = wrong none

pub identifier_law : Lawful (one an_identifier) Identifier identifier_item 0
identifier_law = record {
  told = identifier_told;
  same = identifier_same;
  some = identifier_some;
}

-- codes

code_told : (c : CodeValue) (t : Term) → Code c t → Told (one a_code) Code code_item 0 c t
code_told (code.Int z) t is = as_read (one a_code) Code code_item (code.Int z) t refl refl is
code_told (code.Text s) t is = as_read (one a_code) Code code_item (code.Text s) t refl refl is

integer_no_text : {A : Type 0} (z : ℤ) (s : List ℕ) (t : Term) → t ≡ integer z → t ≡ text s → A
integer_no_text z s t first second = let e : integer z ≡ text s = sym first ∙ second in absurd cc

code_same : (c d : CodeValue) (t : Term) → Code c t → Code d t → c ≡ d
code_same (code.Int z) (code.Int y) t first second = ap code.Int (integer_same z y t first second)
code_same (code.Text s) (code.Text r) t first second = ap code.Text (text_same s r t first second)
code_same (code.Int z) (code.Text s) t first second = integer_no_text z s t first second
code_same (code.Text s) (code.Int z) t first second = integer_no_text z s t second first

code_some : (t : Term) → field_fault (one a_code) t ≡ None → (c : CodeValue) × Code c t
code_some (text s) none = (code.Text s, refl)
code_some (integer z) none = (code.Int z, refl)
code_some t none = wrong none

pub code_law : Lawful (one a_code) Code code_item 0
code_law = record {
  told = code_told;
  same = code_same;
  some = code_some;
}

-- URIs

bare : (s : List ℕ) → Told (one a_uri) Uri uri_item 2 s (text s)
bare s = record { none = refl; again = inl refl; proper = λ p. (omega arith, p); within = λ n le d. le; few = λ n le. omega (arith, le) }

tagged_uri : (s : List ℕ) → Told (one a_uri) Uri uri_item 2 s (tagged 32 (text s))
tagged_uri s = record { none = refl; again = inl refl; proper = λ p. p; within = λ n le d. d; few = λ n le. omega (arith, le) }

uri_told : (s : List ℕ) (t : Term) → Uri s t → Told (one a_uri) Uri uri_item 2 s t
uri_told s t (inl is) = let P : Term → Type 0 = λ u. Told (one a_uri) Uri uri_item 2 s u in subst P (sym is) (tagged_uri s)
uri_told s t (inr is) = let P : Term → Type 0 = λ u. Told (one a_uri) Uri uri_item 2 s u in subst P (sym is) (bare s)

uri_same : (s r : List ℕ) (t : Term) → Uri s t → Uri r t → s ≡ r
uri_same s r t (inl first) (inl second) = let e : tagged 32 (text s) ≡ tagged 32 (text r) = sym first ∙ second in cc
uri_same s r t (inr first) (inr second) = text_same s r t first second
uri_same s r t (inl first) (inr second) = let e : tagged 32 (text s) ≡ text r = sym first ∙ second in absurd cc
uri_same s r t (inr first) (inl second) = let e : text s ≡ tagged 32 (text r) = sym first ∙ second in absurd cc

under_32 : (n : ℕ) (s : List ℕ) → unless_wrong (n == 32) ≡ None → Uri s (tagged n (text s))
under_32 n s none = inl (ap (λ (m : ℕ). tagged m (text s)) (eqb-true n 32 (right (n == 32) none)))

uri_some : (t : Term) → field_fault (one a_uri) t ≡ None → (s : List ℕ) × Uri s t
uri_some (text s) none = (s, inr refl)
uri_some (tagged n (text s)) none = (s, under_32 n s none)
uri_some t none = wrong none

pub uri_law : Lawful (one a_uri) Uri uri_item 2
uri_law = record { told = uri_told; same = uri_same; some = uri_some }

-- times

bare_time : (z : ℤ) → Told (one a_time) Time time_item 2 z (integer z)
bare_time z = record { none = refl; again = inl refl; proper = λ p. (omega arith, p); within = λ n le d. le; few = λ n le. omega arith }

tagged_time : (z : ℤ) → Told (one a_time) Time time_item 2 z (tagged 1 (integer z))
tagged_time z = record { none = refl; again = inl refl; proper = λ p. p; within = λ n le d. d; few = λ n le. omega arith }

time_told : (z : ℤ) (t : Term) → Time z t → Told (one a_time) Time time_item 2 z t
time_told z t (inl is) = let P : Term → Type 0 = λ u. Told (one a_time) Time time_item 2 z u in subst P (sym is) (tagged_time z)
time_told z t (inr is) = let P : Term → Type 0 = λ u. Told (one a_time) Time time_item 2 z u in subst P (sym is) (bare_time z)

time_same : (z y : ℤ) (t : Term) → Time z t → Time y t → z ≡ y
time_same z y t (inl first) (inl second) = let e : tagged 1 (integer z) ≡ tagged 1 (integer y) = sym first ∙ second in cc
time_same z y t (inr first) (inr second) = integer_same z y t first second
time_same z y t (inl first) (inr second) = let e : tagged 1 (integer z) ≡ integer y = sym first ∙ second in absurd cc
time_same z y t (inr first) (inl second) = let e : integer z ≡ tagged 1 (integer y) = sym first ∙ second in absurd cc

under_1 : (n : ℕ) (z : ℤ) → unless_wrong (n == 1) ≡ None → Time z (tagged n (integer z))
under_1 n z none = inl (ap (λ (m : ℕ). tagged m (integer z)) (eqb-true n 1 (right (n == 1) none)))

time_some : (t : Term) → field_fault (one a_time) t ≡ None → (z : ℤ) × Time z t
time_some (integer z) none = (z, inr refl)
time_some (tagged n (integer z)) none = (z, under_1 n z none)
time_some t none = wrong none

pub time_law : Lawful (one a_time) Time time_item 2
time_law = record { told = time_told; same = time_same; some = time_some }

-- hashes

integer_first : (t : Term) → under 0 (unless_wrong (is_integer t)) ≡ None → (z : ℤ) × (t ≡ integer z)
integer_first (integer z) none = (z, refl)
integer_first t none = absurd cc

octets_second : (t : Term) → under 1 (unless_wrong (is_octets t)) ≡ None → (s : List ℕ) × (t ≡ octets s)
octets_second (octets s) none = (s, refl)
octets_second t none = absurd cc

parts_some : (ts : Terms) → hash_fault ts ≡ None → (h : HashEntry) × Hash h (array ts)
parts_some (term a (term v no_terms)) none =
    let both = or_none (under 0 (unless_wrong (is_integer a))) (under 1 (unless_wrong (is_octets v))) none in
    let first = integer_first a both.0 in
    let second = octets_second v both.1 in (
      record { algorithm = first.0; value = second.0 },
      ap (λ (u : Term). array (term u (term v no_terms))) first.1 ∙ ap (λ (u : Term). array (term (integer first.0) (term u no_terms))) second.1,
    )
parts_some ts none = wrong none

hash_some : (t : Term) → field_fault (one a_hash) t ≡ None → (h : HashEntry) × Hash h t
hash_some (array ts) none = parts_some ts none
hash_some t none = wrong none

abbrev fields : HashEntry → HashEntry
fields h = record { algorithm = h.algorithm; value = h.value }

hash_same : (h i : HashEntry) (t : Term) → Hash h t → Hash i t → h ≡ i
hash_same h i t first second =
    let e : hash_item h ≡ hash_item i = sym first ∙ second in
    let algorithm : h.algorithm ≡ i.algorithm = cc in
    let value : h.value ≡ i.value = cc in
    let alike : fields h ≡ fields i = cc in
    alike

pub hash_law : Lawful (one a_hash) Hash hash_item 0
hash_law = record {
  told = λ h t is. as_read (one a_hash) Hash hash_item h t refl refl is;
  same = hash_same;
  some = hash_some;
}
