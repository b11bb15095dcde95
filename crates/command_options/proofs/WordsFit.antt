-- What a word that passes makes of the rows before it.
use Rattle.std.proofs.Common.{◌≡◌, ◌∷◌, ◌&&◌, [], ℕ, zero, suc, Bool, List, Option, Some, None, cond, true, false, refl, sym, subst, length}
use Rattle.std.specs.Prelude.{drop, encode_utf8, find, slice_get}
use Rattle.std.specs.Option.{option_map_or}
use Rattle.std.specs.Str.{bytes_eq, chars}
use Rattle.clap.specs.Faults.{bundle_fault, bundle_step_fault, flag_word_fault, flags_fault, long_fault, other_fault, positional_fault, settle_fault, short_fault, step_fault, word_fault}
use Rattle.clap.specs.Kinds.{Kinds}
use Rattle.clap.specs.Lexer.{long_of, short_of}
use Rattle.clap.specs.Simple.{Shape}
use Rattle.clap.specs.Walk.{Held, Names, Outcome, Rule, Step, Text, Waiting, Walk, after_flag, after_step, arg_by_id, arg_by_index, arg_by_long, arg_by_short, attached_value, bundle, bundle_met, bundle_step, done, idle, is_pending, long_met, long_or_other, next, option, option_word, plain, plain_word, positional, refused, settled, short_met, short_or_plain, subcommand, subcommand_met, subcommand_or_other, takes_several, to_positional, trailing, value, waits, word_met}
use Rattle.command_options.proofs.RowsFit.{Each, Fits, IsFine, found_one, option_fits, settled_fits}

-- ---- words that change no rows

option_rows : (o : Option Rule) (id word : Text) (h : Held) → (option_word o id word h).0.rows ≡ h.rows
option_rows None id word h = refl
option_rows (Some a) id word h = refl

plain_rows : (c : List Rule) (waiting : Waiting) (word : Text) (h : Held) → (plain_word c waiting word h).0.rows ≡ h.rows
plain_rows c idle word h = refl
plain_rows c (option id) word h = option_rows (arg_by_id c id) id word h
plain_rows c positional word h = refl

after_rows : (c : List Rule) (waiting : Waiting) (word : Text) (h : Held) (o : Outcome) → (after_flag c waiting word h o).0.rows ≡ h.rows
after_rows c waiting word h done = refl
after_rows c waiting word h (waits id) = refl
after_rows c waiting word h plain = plain_rows c waiting word h
after_rows c waiting word h refused = plain_rows c waiting word h

module _ (c : List Rule) (fine : Each (IsFine c) c) where
  -- ---- flags

  known_one : (p : Rule → Bool) (a : Rule) → find p c ≡ Some a → IsFine c a
  known_one p a is = (found_one (IsFine c) p c a fine is).0

  long_fits : (o : Option Rule) (v : Option Text) (h : Held) → ((a : Rule) → o ≡ Some a → IsFine c a) → long_fault c false o v h ≡ [] → Each (Fits c) h.rows
      → Each (Fits c) (long_met c o v h).0.rows
  long_fits None v h known fault fits = cc
  long_fits (Some a) v h known fault fits =
      let takes = (known a refl).takes in
      rw takes (option_fits c fine a v h (known a refl) (rw takes at fault) fits)

  short_fits : (o : Option Rule) (rest : Text) (h : Held) (faults : Held → Kinds) (more : Held → Held × Outcome) → ((a : Rule) → o ≡ Some a → IsFine c a)
      → short_fault c false o rest h faults ≡ [] → Each (Fits c) h.rows → Each (Fits c) (short_met c o rest h more).0.rows
  short_fits None rest h faults more known fault fits = cc
  short_fits (Some a) rest h faults more known fault fits =
      let takes = (known a refl).takes in
      rw takes (option_fits c fine a (attached_value rest) h (known a refl) (rw takes at fault) fits)

  character_fits : (x : Option ℕ) (flags : Text) (skip : ℕ) (so_far : Outcome) (h : Held) (faults : Text → ℕ → Held → Kinds)
      (more : Text → ℕ → Outcome → Held → Held × Outcome)
      → ((t : Text) (s : ℕ) (o : Outcome) (g : Held) → faults t s g ≡ [] → Each (Fits c) g.rows → Each (Fits c) (more t s o g).0.rows)
      → bundle_step_fault c false x flags skip h faults ≡ [] → Each (Fits c) h.rows → Each (Fits c) (bundle_step c x flags skip so_far h more).0.rows
  character_fits None flags skip so_far h faults more rest fault fits = fits
  character_fits (Some x) flags zero so_far h faults more rest fault fits =
      short_fits (arg_by_short c x) (drop (length (encode_utf8 x)) flags) h (faults (drop (length (encode_utf8 x)) flags) 0)
      (more (drop (length (encode_utf8 x)) flags) 0 done) (λ a is. known_one _ a is) fault fits
  character_fits (Some x) flags (suc skip) so_far h faults more rest fault fits = rest (drop (length (encode_utf8 x)) flags) skip so_far h fault fits

  bundle_fits : (k : ℕ) (flags : Text) (skip : ℕ) (so_far : Outcome) (h : Held) → flags_fault c false k flags skip h ≡ [] → Each (Fits c) h.rows
      → Each (Fits c) (bundle_met c k flags skip so_far h).0.rows
  unfolding bundle_met flags_fault
  bundle_fits zero flags skip so_far h fault fits = fits
  bundle_fits (suc k) flags skip so_far h fault fits =
      character_fits (slice_get (chars flags) 0) flags skip so_far h (flags_fault c false k) (bundle_met c k) (bundle_fits k) fault fits

  short_word_fits : (o : Option Text) (waiting : Waiting) (word : Text) (h : Held) → option_map_or (λ flags. bundle_fault c false flags h) o [] ≡ []
      → Each (Fits c) h.rows → Each (Fits c) (short_or_plain c waiting word o h).0.rows
  short_word_fits None waiting word h fault fits = subst (Each (Fits c)) (sym (plain_rows c waiting word h)) fits
  short_word_fits (Some flags) waiting word h fault fits =
      subst (Each (Fits c)) (sym (after_rows c waiting word (bundle c flags h).0 (bundle c flags h).1))
      (bundle_fits (length flags) flags h.skip plain (record h { skip = 0 }) fault fits)

  flag_word_fits : (o : Option (Text × Option Text)) (waiting : Waiting) (word : Text) (h : Held) → flag_word_fault c false o word h ≡ []
      → Each (Fits c) h.rows → Each (Fits c) (long_or_other c waiting word o h).0.rows
  flag_word_fits (Some p) waiting word h fault fits =
      subst (Each (Fits c)) (sym (after_rows c waiting word (long_met c (arg_by_long c p.0) p.1 h).0 (long_met c (arg_by_long c p.0) p.1 h).1))
      (long_fits (arg_by_long c p.0) p.1 h (λ a is. known_one _ a is) fault fits)
  flag_word_fits None waiting word h fault fits = short_word_fits (short_of word) waiting word h fault fits

  -- ---- where a value goes

  pub positional_fits : (b : Bool) (h : Held) → cond b [] (settle_fault c false h) ≡ [] → Each (Fits c) h.rows → Each (Fits c) (cond b h (settled c h)).rows
  positional_fits true h fault fits = fits
  positional_fits false h fault fits = settled_fits c fine h.pending h.rows fault fits

module _ (s : Shape) (over : s.args_override_self ≡ false) (fine : Each (IsFine s.rules) s.rules) where
  -- ---- a word before it goes to a positional

  dashes_fit : (b : Bool) (waiting : Waiting) (position : ℕ) (word : Text) (h : Held)
      → cond b [] (flag_word_fault s.rules s.args_override_self (long_of word) word h) ≡ [] → Each (Fits s.rules) h.rows
      → Each (Fits s.rules) (cond b (h, trailing position) (long_or_other s.rules waiting word (long_of word) h)).0.rows
  dashes_fit true waiting position word h fault fits = fits
  dashes_fit false waiting position word h fault fits = flag_word_fits s.rules fine (long_of word) waiting word h (rw over at fault) fits

  other_fits : (o : Option Text) (waiting : Waiting) (position : ℕ) (word : Text) (h : Held) → other_fault s o word h ≡ [] → Each (Fits s.rules) h.rows
      → Each (Fits s.rules) (subcommand_or_other s.rules o waiting position word h).0.rows
  other_fits (Some name) waiting position word h fault fits = fits
  other_fits None waiting position word h fault fits = dashes_fit (bytes_eq word (45 ∷ 45 ∷ [])) waiting position word h fault fits

  pub word_fits : (names : Names) (is_trailing : Bool) (waiting : Waiting) (position : ℕ) (word : Text) (h : Held) → word_fault s names is_trailing waiting word h ≡ []
      → Each (Fits s.rules) h.rows → Each (Fits s.rules) (word_met s.rules names is_trailing waiting position word h).0.rows
  word_fits names true waiting position word h fault fits = fits
  word_fits names false waiting position word h fault fits = other_fits (subcommand_met names waiting word) waiting position word h fault fits

  -- ---- and after

  value_fits : (o : Option Rule) (w : Walk) (word : Text) (h : Held) (stray : Kinds)
      → option_map_or (λ a. positional_fault s.rules s.args_override_self a h) o stray ≡ [] → Each (Fits s.rules) h.rows
      → Each (Fits s.rules) (to_positional s.rules o word w h).held.rows
  value_fits None w word h stray fault fits = fits
  value_fits (Some a) w word h stray fault fits = positional_fits s.rules fine (is_pending a h.pending && takes_several a) h (rw over at fault) fits

  pub step_fits : (w : Walk) (word : Text) (h : Held) (step : Step) → step_fault s w.position h step ≡ [] → Each (Fits s.rules) h.rows
      → Each (Fits s.rules) (after_step s.rules word w h step).held.rows
  step_fits w word h (next waiting) fault fits = fits
  step_fits w word h (trailing position) fault fits = fits
  step_fits w word h (subcommand name) fault fits = fits
  step_fits w word h value fault fits = value_fits (arg_by_index s.rules w.position) w word h _ fault fits
