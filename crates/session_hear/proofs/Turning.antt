-- A turn after others, of any end.
use Rattle.std.proofs.Common.{◌≡◌, ℕ, ◌+◌, ◌≤◌, ◌<◌, Bool, true, false, eqb, List, [], ◌∷◌, ◌++◌, length, ◌⊎◌, inl, inr, refl, sym, ap, subst, ◌∙◌, arith}
use Rattle.std.proofs.lemmas.Bool.{eq-eqb}
use Rattle.wire_base.specs.Turns.{Turn, turns_of}
use Rattle.session_hear.specs.Step.{Step, Spent}
use Rattle.session_hear.specs.Hearing.{Hearing, Hears, Deaf, Heard, settle_at, heard_from, heard_octets, heard}
use Rattle.session_hear.proofs.Hearing.{heard_append}
use Rattle.session_hear.proofs.Limits.{spent_if, settles, settle_below}

-- What is heard after other turns.
pub hearing_more : (server : Bool) (limit : ℕ) (turns more : List Turn) (hearing : Hearing) → (heard server limit turns).1 ≡ hearing
    → (heard server limit (turns ++ more)).1 ≡ (heard_from server limit hearing more).1
hearing_more server limit turns more hearing is =
    ap (λ (h : Heard). h.1) (heard_append server limit (Hears [] 0 0) turns more) ∙ ap (λ (g : Hearing). (heard_from server limit g more).1) is

-- The steps of turns and of others after them.
steps_more : (server : Bool) (limit : ℕ) (turns more : List Turn) (hearing : Hearing) → (heard server limit turns).1 ≡ hearing
    → (heard server limit (turns ++ more)).0 ≡ (heard server limit turns).0 ++ (heard_from server limit hearing more).0
steps_more server limit turns more hearing is =
    ap (λ (h : Heard). h.0) (heard_append server limit (Hears [] 0 0) turns more) ∙ ap (λ (g : Hearing). (heard server limit turns).0 ++ (heard_from server limit g more).0) is

module _ {S O : Type 0} (server : Bool) (limit : ℕ) (did : S → O → List Step → S → O → Bool → Type 0)
    (joins : (one two three : S) (first second third : O) (steps later : List Step) (well : Bool) → did one first steps two second true → did two second later three third well → did one first (steps ++ later) three third well)
    (broke : (one two : S) (first second : O) (steps later : List Step) → did one first steps two second false → did one first (steps ++ later) two second false) where
  -- What was done to turns, and then to others, was done to all.
  pub turns_join : (start now next : S) (begun here there : O) (turns more : List Turn) (hearing : Hearing) (well : Bool) → (heard server limit turns).1 ≡ hearing
      → did start begun (heard server limit turns).0 now here true → did now here (heard_from server limit hearing more).0 next there well → did start begun (heard server limit (turns ++ more)).0 next there well
  turns_join start now next begun here there turns more hearing well is first second =
      subst (λ (steps : List Step). did start begun steps next there well) (sym (steps_more server limit turns more hearing is))
      (joins start now next begun here there (heard server limit turns).0 (heard_from server limit hearing more).0 well first second)

  -- ---- a piece of octets

  -- The steps of a piece, and after them the last octet of the limit, if it was among them.
  settled_if : (is_last : Bool) (steps : List Step) (hearing : Hearing) → ((spent_if is_last steps hearing).0 ≡ steps) ⊎ ((spent_if is_last steps hearing).0 ≡ steps ++ Spent ∷ [])
  settled_if true steps hearing = inr refl
  settled_if false steps hearing = inl refl

  settled_parts : (steps : List Step) (hearing : Hearing) → ((settle_at limit steps hearing).0 ≡ steps) ⊎ ((settle_at limit steps hearing).0 ≡ steps ++ Spent ∷ [])
  settled_parts steps Deaf = inl refl
  settled_parts steps (Hears held quiet count) = settled_if (eqb count limit) steps (Hears held quiet count)

  -- Memory ran out among the octets of a piece.
  pub piece_breaks : (now next : S) (here there : O) (held : List ℕ) (quiet count : ℕ) (piece : List ℕ) → count < limit → count + length piece ≤ limit
      → did now here (heard_octets server (Hears held quiet count) piece).0 next there false → did now here (heard_from server limit (Hears held quiet count) (turns_of piece)).0 next there false
  piece_breaks now next here there held quiet count piece below within so =
      let octets : Heard = heard_octets server (Hears held quiet count) piece in
      let same : (heard_from server limit (Hears held quiet count) (turns_of piece)).0 ≡ (settle_at limit octets.0 octets.1).0 = ap (λ (h : Heard). h.0) (settles server limit held quiet count piece below within) in
      elim (settled_parts octets.0 octets.1) [
        | inl is ↦ subst (λ (steps : List Step). did now here steps next there false) (sym (same ∙ is)) so
        | inr is ↦ subst (λ (steps : List Step). did now here steps next there false) (sym (same ∙ is)) (broke now next here there octets.0 (Spent ∷ []) so)
      ]

  -- After the octets of a piece something is left of the limit.
  pub piece_within : (now next : S) (here there : O) (held after : List ℕ) (quiet count : ℕ) (piece : List ℕ) → count < limit → count + length piece < limit
      → did now here (heard_octets server (Hears held quiet count) piece).0 next there true → (heard_octets server (Hears held quiet count) piece).1 ≡ Hears after 0 (count + length piece)
      → did now here (heard_from server limit (Hears held quiet count) (turns_of piece)).0 next there true
  piece_within now next here there held after quiet count piece below less so hears =
      let octets : Heard = heard_octets server (Hears held quiet count) piece in
      subst (λ (steps : List Step). did now here steps next there true)
      (sym (ap (λ (h : Heard). h.0) (settles server limit held quiet count piece below (omega (arith, less)))
      ∙ ap (λ (g : Hearing). (settle_at limit octets.0 g).0) hears
      ∙ ap (λ (h : Heard). h.0) (settle_below limit octets.0 after 0 (count + length piece) less))) so

  -- The last octet of a piece is the last of the limit, and the end was informed of that.
  pub piece_spent : (now next last : S) (here there : O) (held after : List ℕ) (quiet count : ℕ) (piece : List ℕ) → count < limit → count + length piece ≡ limit
      → did now here (heard_octets server (Hears held quiet count) piece).0 next there true → (heard_octets server (Hears held quiet count) piece).1 ≡ Hears after 0 (count + length piece)
      → did next there (Spent ∷ []) last there true → did now here (heard_from server limit (Hears held quiet count) (turns_of piece)).0 last there true
  piece_spent now next last here there held after quiet count piece below all so hears spent =
      let octets : Heard = heard_octets server (Hears held quiet count) piece in
      subst (λ (steps : List Step). did now here steps last there true)
      (sym (ap (λ (h : Heard). h.0) (settles server limit held quiet count piece below (omega (arith, all)))
      ∙ ap (λ (g : Hearing). (settle_at limit octets.0 g).0) hears
      ∙ ap (λ (b : Bool). (spent_if b octets.0 (Hears after 0 (count + length piece))).0) (eq-eqb (count + length piece) limit all)))
      (joins now next last here there there octets.0 (Spent ∷ []) true so spent)

  -- The session ended within the piece.
  pub piece_over : (now next : S) (here there : O) (held : List ℕ) (quiet count : ℕ) (piece : List ℕ) → ((steps : List Step) → did next there steps next there true) → count < limit → count + length piece ≤ limit
      → did now here (heard_octets server (Hears held quiet count) piece).0 next there true → did now here (heard_from server limit (Hears held quiet count) (turns_of piece)).0 next there true
  piece_over now next here there held quiet count piece rests below within so =
      let octets : Heard = heard_octets server (Hears held quiet count) piece in
      let same : (heard_from server limit (Hears held quiet count) (turns_of piece)).0 ≡ (settle_at limit octets.0 octets.1).0 = ap (λ (h : Heard). h.0) (settles server limit held quiet count piece below within) in
      elim (settled_parts octets.0 octets.1) [
        | inl is ↦ subst (λ (steps : List Step). did now here steps next there true) (sym (same ∙ is)) so
        | inr is ↦ subst (λ (steps : List Step). did now here steps next there true) (sym (same ∙ is)) (joins now next next here there there octets.0 (Spent ∷ []) true so (rests (Spent ∷ [])))
      ]

-- Where the end stands after a piece that leaves something of the limit.
pub piece_hears : (server : Bool) (limit : ℕ) (held after : List ℕ) (quiet count : ℕ) (piece : List ℕ) → count < limit → count + length piece < limit
    → (heard_octets server (Hears held quiet count) piece).1 ≡ Hears after 0 (count + length piece)
    → (heard_from server limit (Hears held quiet count) (turns_of piece)).1 ≡ Hears after 0 (count + length piece)
piece_hears server limit held after quiet count piece below less hears =
    let octets : Heard = heard_octets server (Hears held quiet count) piece in
    ap (λ (h : Heard). h.1) (settles server limit held quiet count piece below (omega (arith, less)))
    ∙ ap (λ (g : Hearing). (settle_at limit octets.0 g).1) hears
    ∙ ap (λ (h : Heard). h.1) (settle_below limit octets.0 after 0 (count + length piece) less)
