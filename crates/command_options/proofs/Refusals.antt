-- How a refusal goes up.
use Rattle.std.proofs.Common.{◌≡◌, List, Result, Ok, Err, IfOk, IsErrAnd, sym, subst}
use Rattle.clap.specs.Words.{App, Text}
use Rattle.command_options.specs.Given.{Finds, Reads, Takes}
use Rattle.command_options.specs.declared.refused.OptionsRefused.{OptionsRefused}
use Rattle.command_options.specs.declared.refused.OptionsRefused.TheVariants as refused

refused_reads : {A : Type 0} (Means : A → Type 0) (app : App) (words : List Text) (e : OptionsRefused) → Finds app words (Err e)
    → Reads (λ options. Takes app words × Means options) (Err e)
refused_reads Means app words refused.Usage h = λ options says. h says.0
refused_reads Means app words refused.Memory h = tt

pub refused_up : {A : Type 0} (Means : A → Type 0) (app : App) (words : List Text) (r : Result A OptionsRefused) (e : OptionsRefused) → IsErrAnd r (λ y. y ≡ e)
    → Finds app words (Err e) → Reads (λ options. Takes app words × Means options) r
refused_up Means app words (Ok x) e is h = absurd is
refused_up Means app words (Err y) e is h = refused_reads Means app words y (subst (λ (z : OptionsRefused). Finds app words (Err z)) (sym is) h)

pub never_ok : {A E : Type 0} (r : Result A E) (Q : E → Type 0) (P : A → Type 0) → IsErrAnd r Q → IfOk r P
never_ok (Ok x) Q P is = absurd is
never_ok (Err y) Q P is = tt

-- Options that are what was found are those of the words, where `clap` takes them.
pub options_up : {A : Type 0} (Means Says : A → Type 0) (r : Result A OptionsRefused) → Reads Means r → ((options : A) → Means options → Says options)
    → ((options : A) → Says options → Means options) → Reads Says r
options_up Means Says (Ok options) h up down = up options h
options_up Means Says (Err refused.Usage) h up down = λ options says. h options (down options says)
options_up Means Says (Err refused.Memory) h up down = tt

pub within_up : {A : Type 0} (Says Within : A → Type 0) (r : Result A OptionsRefused) → Reads Says r → ((options : A) → Says options → Within options) → IfOk r Within
within_up Says Within (Ok options) h within = within options h
within_up Says Within (Err e) h within = tt
