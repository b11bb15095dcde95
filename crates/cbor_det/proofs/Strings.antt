-- Strings and heads as the code takes them, as the machine does.
use Rattle.std.proofs.Common.{◌≡◌, ℕ, ◌-◌, ◌<◌, length, get_or, set, List, [], ◌∷◌, ◌++◌, refl, sym, ap, ◌∙◌, subst, Bool, true, false, Some, None}
use Rattle.std.specs.Prelude.{◌≢◌, Result, Ok, Err}
use Rattle.std.specs.Result.{OnOk}
use Rattle.std.specs.Str.{IsUtf8, is_utf8}
use Rattle.std.specs.String.{string_bytes, string_vec}
use Rattle.std.specs.declared.string.String.{String}
use Rattle.std.specs.declared.vec.Vec.{Vec}
use Rattle.std.specs.declared.alloc.Global.{Global}
use Rattle.std.proofs.Common.{rules}
use Rattle.std.proofs.lemmas.Str.{IsUtf8-from_is_utf8, is_utf8-from_IsUtf8, IsUtf8-string_bytes}
use Rattle.std.proofs.lemmas.Bool.{cond-true, cond-false, false_from_ne_true, false≢true}
use Rattle.cbor_det.specs.declared.string_kind.StringKind.{StringKind}
use Rattle.cbor_det.specs.declared.string_kind.StringKind.TheVariants.{ByteString, TextString}
use Rattle.cbor_det.specs.declared.item.Item.{the_lemmas}
use Rattle.cbor_det.specs.declared.item.Item.TheVariants as code
use Rattle.cbor_det.specs.declared.frame.Frame.{Frame}
use Rattle.cbor_det.specs.Term.{Term, octets, text}
use Rattle.cbor_det.specs.View.{view}
use Rattle.cbor_det.specs.Spelling.{string}
use Rattle.cbor_det.specs.Faults.{Place, top, at_chunk, at_element, at_key, at_value, at_content}
use Rattle.cbor_det.specs.Machine.{State, due, faulty, item_ended, is_part, string_given, string_ended}
use Rattle.cbor_det.specs.Standing.{inside, place}
use Rattle.cbor_det.specs.Frames.{chunk_kind, chunk_joined}
use Rattle.cbor_det.proofs.Closing.{within_last, round, last_there, last_put}

view_bytes : (s : List ℕ) → view (code.Bytes s) ≡ octets s
view_bytes s = search (rules, the_lemmas)

view_text : (s : List ℕ) → view (code.Text s) ≡ text s
view_text s = search (rules, the_lemmas)

pub no_chunk : (k : StringKind) → Some k ≡ None → ⊥
no_chunk k e = cc

given_item : (p : Place) (at : ℕ) (kind : StringKind) (s : List ℕ) → chunk_kind p ≡ None → string_given p at kind s ≡ item_ended p at (string kind s)
given_item (at_chunk a k t p) at kind s none = absurd (no_chunk k none)
given_item top at kind s none = refl
given_item (at_element a all ts p) at kind s none = refl
given_item (at_key a all ps p) at kind s none = refl
given_item (at_value a all ps k p) at kind s none = refl
given_item (at_content a n p) at kind s none = refl

good : (p : Place) (at : ℕ) (kind : StringKind) (s : List ℕ) → is_part kind s ≡ true → string_ended p at kind s ≡ string_given p at kind s
unfolding string_ended
good p at kind s part = cond-true _ _ _ part

pub bad : (p : Place) (at : ℕ) (kind : StringKind) (s x : List ℕ) (r : Bool) → r ≡ is_part kind x → x ≡ s → r ≡ false → faulty 7 at ≡ string_ended p at kind s
unfolding string_ended
bad p at kind s x r part is lie = sym (cond-false _ _ _ (ap (λ (o : List ℕ). is_part kind o) (sym is) ∙ sym part ∙ lie))

pub bytes_item : (p : Place) (at : ℕ) (kind : StringKind) (s : List ℕ) (σ : State) → chunk_kind p ≡ None → kind ≡ ByteString → σ ≡ item_ended p at (view (code.Bytes s)) → σ ≡ string_ended p at kind s
bytes_item p at kind s σ none is given =
    given ∙ ap (λ (t : Term). item_ended p at t) (view_bytes s) ∙ sym (given_item p at ByteString s none) ∙ sym (good p at ByteString s refl) ∙ ap (λ (k : StringKind). string_ended p at k s) (sym is)

pub text_item : (p : Place) (at : ℕ) (kind : StringKind) (s made : List ℕ) (σ : State) → chunk_kind p ≡ None → kind ≡ TextString → (made ≡ s) × (is_utf8 s ≡ true)
    → σ ≡ item_ended p at (view (code.Text made)) → σ ≡ string_ended p at kind s
text_item p at kind s made σ none is utf8 given =
    given ∙ ap (λ (t : Term). item_ended p at t) (view_text made) ∙ ap (λ (o : List ℕ). item_ended p at (text o)) utf8.0
    ∙ sym (given_item p at TextString s none) ∙ sym (good p at TextString s utf8.1) ∙ ap (λ (k : StringKind). string_ended p at k s) (sym is)

pub text_bad : (p : Place) (at : ℕ) (kind : StringKind) (s : List ℕ) → kind ≡ TextString → is_utf8 s ≡ false → faulty 7 at ≡ string_ended p at kind s
text_bad p at kind s is lie = bad p at TextString s s (is_utf8 s) refl refl lie ∙ ap (λ (k : StringKind). string_ended p at k s) (sym is)

pub part_true : (kind : StringKind) (s : List ℕ) → kind ≡ TextString → IsUtf8 s → true ≡ is_part kind s
part_true kind s is utf8 = sym (ap (λ (k : StringKind). is_part k s) is ∙ is_utf8-from_IsUtf8 s utf8)

pub part_false : (kind : StringKind) (s : List ℕ) → kind ≡ TextString → (IsUtf8 s → ⊥) → false ≡ is_part kind s
part_false kind s is not = sym (ap (λ (k : StringKind). is_part k s) is ∙ false_from_ne_true (is_utf8 s) (λ e. not (IsUtf8-from_is_utf8 s e)))

pub text_is : (t : String Global) (v : Vec ℕ Global) (s made : List ℕ) → string_vec t ≡ v → v.items ≡ s → made ≡ string_bytes t → (made ≡ s) × (is_utf8 s ≡ true)
text_is t v s made same items is =
    let e : string_bytes t ≡ s = ap (λ (x : Vec ℕ Global). x.items) same ∙ items in
    let P : List ℕ → Type 0 = λ o. IsUtf8 o in
    (is ∙ e, is_utf8-from_IsUtf8 s (subst P e (IsUtf8-string_bytes t)))

pub text_not : (v : Vec ℕ Global) (s : List ℕ) → (IsUtf8 v.items → false ≡ true) → v.items ≡ s → is_utf8 s ≡ false
text_not v s not items =
    let P : List ℕ → Type 0 = λ o. IsUtf8 o in
    false_from_ne_true (is_utf8 s) (λ e. false≢true (not (subst P (sym items) (IsUtf8-from_is_utf8 s e))))

pub pushed_place : (gs hs : List Frame) (f : Frame) → hs ≡ gs ++ f ∷ [] → place hs ≡ inside (place gs) f
pushed_place gs hs f is = ap (λ (fs : List Frame). place fs) is ∙ within_last top gs f

-- A chunk goes after those of the string that is open.
pub joined_last : {T E : Type 0} (r : Result T E) (fs : List Frame) (len : ℕ) (f g : Frame) (o : List ℕ) → len ≡ length fs → 0 < length fs → f ≡ get_or fs (len - 1) f
    → OnOk r ((p : Place) → inside p g ≡ chunk_joined (inside p f) o) → OnOk r (place (set fs (len - 1) g) ≡ chunk_joined (place fs) o)
joined_last (Ok t) fs len f g o is some at joins =
    pushed_place (round fs len) (set fs (len - 1) g) g (last_put fs len f g is some at) ∙ joins (place (round fs len))
    ∙ ap (λ (p : Place). chunk_joined p o) (sym (pushed_place (round fs len) fs f (last_there fs len f g is some at)))
joined_last (Err e) fs len f g o is some at joins = tt

pub chunk_put : (p q : Place) (at : ℕ) (kind : StringKind) (x y s : List ℕ) (r : Bool) → chunk_kind p ≢ None → q ≡ chunk_joined p x → x ≡ s → r ≡ is_part kind y → y ≡ s → r ≡ true
    → due q ≡ string_ended p at kind s
chunk_put (at_chunk a k t p) q at kind x y s r chunk is same part here so =
    ap (λ (z : Place). due z) is ∙ ap (λ (o : List ℕ). due (at_chunk a k (t ++ o) p)) same
    ∙ sym (good (at_chunk a k t p) at kind s (ap (λ (o : List ℕ). is_part kind o) (sym here) ∙ sym part ∙ so))
chunk_put top q at kind x y s r chunk is same part here so = absurd (chunk refl)
chunk_put (at_element a all ts p) q at kind x y s r chunk is same part here so = absurd (chunk refl)
chunk_put (at_key a all ps p) q at kind x y s r chunk is same part here so = absurd (chunk refl)
chunk_put (at_value a all ps k p) q at kind x y s r chunk is same part here so = absurd (chunk refl)
chunk_put (at_content a n p) q at kind x y s r chunk is same part here so = absurd (chunk refl)
