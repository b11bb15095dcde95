-- What joined octets begin with (Feeding.antt): by how much of a value is there, and when more
-- octets come.
use Rattle.std.proofs.Common.{◌≡◌, ℕ, ◌≤◌, ◌<◌, Bool, cond, List, [], ◌++◌, length, Result, Ok, Err, refl, sym, ap, ◌∙◌, inl, inr, arith, length-append}
use Rattle.std.proofs.lemmas.Bool.{cases_lt, lt-ltb, le-ltb}
use Rattle.wire_base.specs.Feeding.{Front, More, Bad, Whole, Headed, valued, after_header, front}

-- ---- the four cases

-- What the octets begin with, by how much of a value is there.
pub data Seen {H V F : Type 0} (values : Headed H V F) (octets : List ℕ) (is : Front V F) : Type 0 where
  Short : length octets < values.size → is ≡ More → Seen values octets is
  Torn : (fault : F) → values.size ≤ length octets → values.header octets ≡ Err fault → is ≡ Bad fault → Seen values octets is
  Waits : (h : H) → values.size ≤ length octets → values.header octets ≡ Ok h → length octets < values.len h → is ≡ More → Seen values octets is
  Full : (h : H) → values.size ≤ length octets → values.header octets ≡ Ok h → values.len h ≤ length octets → is ≡ valued (values.len h) (values.value h octets) → Seen values octets is

module _ {H V F : Type 0} (values : Headed H V F) where
  -- A header that is not whole.
  pub short_front : (octets : List ℕ) → length octets < values.size → front values octets ≡ More
  short_front octets short = rw (lt-ltb (length octets) values.size short) refl

  headed : (octets : List ℕ) → values.size ≤ length octets → front values octets ≡ after_header values octets (values.header octets)
  headed octets long = rw (le-ltb (length octets) values.size long) refl

  -- A header with a fault.
  pub torn_front : (octets : List ℕ) (fault : F) → values.size ≤ length octets → values.header octets ≡ Err fault → front values octets ≡ Bad fault
  torn_front octets fault long err = headed octets long ∙ ap (λ (r : Result H F). after_header values octets r) err

  -- A header that counts more octets than are there.
  pub waiting_front : (octets : List ℕ) (h : H) → values.size ≤ length octets → values.header octets ≡ Ok h → length octets < values.len h → front values octets ≡ More
  waiting_front octets h long ok short =
      headed octets long ∙ ap (λ (r : Result H F). after_header values octets r) ok
      ∙ ap (λ (b : Bool). cond b More (valued (values.len h) (values.value h octets))) (lt-ltb (length octets) (values.len h) short)

  -- All octets that the header counts.
  pub full_front : (octets : List ℕ) (h : H) → values.size ≤ length octets → values.header octets ≡ Ok h → values.len h ≤ length octets → front values octets ≡ valued (values.len h) (values.value h octets)
  full_front octets h long ok all =
      headed octets long ∙ ap (λ (r : Result H F). after_header values octets r) ok
      ∙ ap (λ (b : Bool). cond b More (valued (values.len h) (values.value h octets))) (le-ltb (length octets) (values.len h) all)

  seen_by : (octets : List ℕ) (said : Result H F) → values.size ≤ length octets → values.header octets ≡ said → Seen values octets (front values octets)
  seen_by octets (Err fault) long is = Torn fault long is (torn_front octets fault long is)
  seen_by octets (Ok h) long is =
      elim (cases_lt (length octets) (values.len h)) [
        | inl short ↦ Waits h long is short (waiting_front octets h long is short)
        | inr all ↦ Full h long is all (full_front octets h long is all)
      ]

  pub seen : (octets : List ℕ) → Seen values octets (front values octets)
  seen octets =
      elim (cases_lt (length octets) values.size) [
        | inl short ↦ Short short (short_front octets short)
        | inr long ↦ seen_by octets (values.header octets) long refl
      ]

-- ---- what a value that was read says

pub valued_whole : {V F : Type 0} (len : ℕ) (read : Result V F) (value : V) (n : ℕ) → valued len read ≡ Whole value n → (len ≡ n) × (read ≡ Ok value)
valued_whole len (Ok other) value n e = (cc, cc)
valued_whole len (Err fault) value n e = absurd cc

pub valued_bad : {V F : Type 0} (len : ℕ) (read : Result V F) (fault : F) → valued len read ≡ Bad fault → read ≡ Err fault
valued_bad len (Ok value) fault e = absurd cc
valued_bad len (Err other) fault e = cc

pub valued_not_more : {A V F : Type 0} (len : ℕ) (read : Result V F) → valued len read ≡ More → A
valued_not_more len (Ok value) e = absurd cc
valued_not_more len (Err fault) e = absurd cc

-- ---- more octets

-- What values have for their prefixes to stay. A header, and a value of which all octets are there,
-- are the same whatever follows. A value has at least the octets of its header, which are some.
pub record IsLasting {H V F : Type 0} (values : Headed H V F) : Type 0 where
  pub some : 0 < values.size
  pub header : (octets more : List ℕ) → values.size ≤ length octets → values.header (octets ++ more) ≡ values.header octets
  pub least : (octets : List ℕ) (h : H) → values.header octets ≡ Ok h → values.size ≤ values.len h
  pub value : (octets more : List ℕ) (h : H) → values.header octets ≡ Ok h → values.size ≤ length octets → values.len h ≤ length octets → values.value h (octets ++ more) ≡ values.value h octets

module _ {H V F : Type 0} (values : Headed H V F) (lasting : IsLasting values) where
  -- No octet is no value yet.
  pub none_front : front values [] ≡ More
  none_front = short_front values [] (omega (arith, lasting.some))

  -- All octets that the header counts make the same, whatever follows.
  pub full_more : (octets more : List ℕ) (h : H) → values.size ≤ length octets → values.header octets ≡ Ok h → values.len h ≤ length octets → front values (octets ++ more) ≡ valued (values.len h) (values.value h octets)
  full_more octets more h long ok all =
      full_front values (octets ++ more) h (omega (arith, length-append octets more, long)) (lasting.header octets more long ∙ ok) (omega (arith, length-append octets more, all))
      ∙ ap (λ (r : Result V F). valued (values.len h) r) (lasting.value octets more h ok long all)

  whole_more_by : (octets more : List ℕ) (value : V) (n : ℕ) → Seen values octets (front values octets) → front values octets ≡ Whole value n → front values (octets ++ more) ≡ Whole value n
  whole_more_by octets more value n (Short short is) e = absurd cc
  whole_more_by octets more value n (Torn fault long err is) e = absurd cc
  whole_more_by octets more value n (Waits h long ok short is) e = absurd cc
  whole_more_by octets more value n (Full h long ok all is) e = full_more octets more h long ok all ∙ sym is ∙ e

  -- A whole value stays.
  pub whole_more : (octets more : List ℕ) (value : V) (n : ℕ) → front values octets ≡ Whole value n → front values (octets ++ more) ≡ Whole value n
  whole_more octets more value n e = whole_more_by octets more value n (seen values octets) e

  bad_more_by : (octets more : List ℕ) (fault : F) → Seen values octets (front values octets) → front values octets ≡ Bad fault → front values (octets ++ more) ≡ Bad fault
  bad_more_by octets more fault (Short short is) e = absurd cc
  bad_more_by octets more fault (Torn other long err is) e = torn_front values (octets ++ more) other (omega (arith, length-append octets more, long)) (lasting.header octets more long ∙ err) ∙ sym is ∙ e
  bad_more_by octets more fault (Waits h long ok short is) e = absurd cc
  bad_more_by octets more fault (Full h long ok all is) e = full_more octets more h long ok all ∙ sym is ∙ e

  -- A fault that shows goes on to show.
  pub bad_more : (octets more : List ℕ) (fault : F) → front values octets ≡ Bad fault → front values (octets ++ more) ≡ Bad fault
  bad_more octets more fault e = bad_more_by octets more fault (seen values octets) e

  whole_within_by : (octets : List ℕ) (value : V) (n : ℕ) → Seen values octets (front values octets) → front values octets ≡ Whole value n → (values.size ≤ n) × (n ≤ length octets)
  whole_within_by octets value n (Short short is) e = absurd cc
  whole_within_by octets value n (Torn fault long err is) e = absurd cc
  whole_within_by octets value n (Waits h long ok short is) e = absurd cc
  whole_within_by octets value n (Full h long ok all is) e =
      let w = valued_whole (values.len h) (values.value h octets) value n (sym is ∙ e) in
      (omega (arith, lasting.least octets h ok, w.0), omega (arith, all, w.0))

  -- A whole value has at least the octets of a header, and at most those that are there.
  pub whole_within : (octets : List ℕ) (value : V) (n : ℕ) → front values octets ≡ Whole value n → (values.size ≤ n) × (n ≤ length octets)
  whole_within octets value n e = whole_within_by octets value n (seen values octets) e

  whole_len_by : (octets : List ℕ) (value : V) (n : ℕ) (h : H) → values.header octets ≡ Ok h → Seen values octets (front values octets) → front values octets ≡ Whole value n → values.len h ≡ n
  whole_len_by octets value n h ok (Short short is) e = absurd cc
  whole_len_by octets value n h ok (Torn fault long err is) e = absurd cc
  whole_len_by octets value n h ok (Waits g long also short is) e = absurd cc
  whole_len_by octets value n h ok (Full g long also all is) e =
      let same : Ok g ≡ Ok h = sym also ∙ ok in
      let one : g ≡ h = cc in
      ap (λ (x : H). values.len x) (sym one) ∙ (valued_whole (values.len g) (values.value g octets) value n (sym is ∙ e)).0

  whole_longer_by : (octets more : List ℕ) (value : V) (n : ℕ) → Seen values octets (front values octets) → front values octets ≡ More → front values (octets ++ more) ≡ Whole value n → length octets < n
  whole_longer_by octets more value n (Short short is) e whole =
      let w = whole_within (octets ++ more) value n whole in
      omega (arith, short, w.0)
  whole_longer_by octets more value n (Torn fault long err is) e whole = absurd cc
  whole_longer_by octets more value n (Waits h long ok short is) e whole =
      let len = whole_len_by (octets ++ more) value n h (lasting.header octets more long ∙ ok) (seen values (octets ++ more)) whole in
      omega (arith, short, len)
  whole_longer_by octets more value n (Full h long ok all is) e whole = valued_not_more (values.len h) (values.value h octets) (sym is ∙ e)

  -- A value that more octets make whole is longer than the octets before them, which were none yet.
  pub whole_longer : (octets more : List ℕ) (value : V) (n : ℕ) → front values octets ≡ More → front values (octets ++ more) ≡ Whole value n → length octets < n
  whole_longer octets more value n e whole = whole_longer_by octets more value n (seen values octets) e whole

  more_below_by : (most : ℕ) → values.size ≤ most → ((octets : List ℕ) (h : H) → values.header octets ≡ Ok h → values.len h ≤ most) → (octets : List ℕ) → Seen values octets (front values octets) → front values octets ≡ More
      → length octets < most
  more_below_by most least bound octets (Short short is) e = omega (arith, short, least)
  more_below_by most least bound octets (Torn fault long err is) e = absurd cc
  more_below_by most least bound octets (Waits h long ok short is) e = omega (arith, short, bound octets h ok)
  more_below_by most least bound octets (Full h long ok all is) e = valued_not_more (values.len h) (values.value h octets) (sym is ∙ e)

  -- Octets that are no value yet are fewer than a value may have.
  pub more_below : (most : ℕ) → values.size ≤ most → ((octets : List ℕ) (h : H) → values.header octets ≡ Ok h → values.len h ≤ most) → (octets : List ℕ) → front values octets ≡ More → length octets < most
  more_below most least bound octets e = more_below_by most least bound octets (seen values octets) e
