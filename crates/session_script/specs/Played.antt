-- What a script that is being played stands for.
use Rattle.std.specs.Prelude.{◌≡◌, ◌++◌, ℕ, Bool, true, false, List, Some, None}
use Rattle.std.specs.List.{flat_map}
use Rattle.session_world.specs.Lines.{Told}
use Rattle.session_world.specs.World.{World}
use Rattle.session_world.specs.Standing.{WorldView, StandsFor as WorldStandsFor}
use Rattle.command_text.specs.declared.answer.Answer.{Answer}
use Rattle.session_script.specs.declared.line.Line.{Line}
use Rattle.session_script.specs.declared.playing.Playing.{Playing as PlayingView}
use Rattle.session_script.specs.Replay.{IsPlayed, Played, Playing, Plays, telling_line}
use Rattle.session_script.specs.Script.{LineIs, words_of}

pub record StandsFor (view : PlayingView) (p : Playing) : Type 0 where
  pub world : WorldStandsFor view.world p.world
  pub changes : view.changes ≡ p.changes

-- What the lines after the first make of it.
abbrev pub PlaysAll : Bool → Playing → List ℕ → Answer → Type 0
PlaysAll goes_on p octets answer = Plays 99999 2 goes_on p octets answer

-- What a line said, and what it made.
pub record PlaysSo (p : Playing) (said : Line) (text : List ℕ) (after : PlayingView) : Type 0 where
  pub made : Played
  pub is : IsPlayed p said made
  pub stands : StandsFor after made.0
  pub text_is : text ≡ made.1

abbrev pub PlaysOne : Playing → List ℕ → List ℕ → Bool → PlayingView → List ℕ → Type 0
PlaysOne p octets out false after out_after = LineIs (words_of octets) None × (out_after ≡ out)
PlaysOne p octets out true after out_after = (said : Line) × LineIs (words_of octets) (Some said) × ((text : List ℕ) × (out_after ≡ out ++ text) × PlaysSo p said text after)

-- What a call of the world reported, as it is printed.
abbrev pub Acts : (World → Told) → WorldView → WorldView → List ℕ → Type 0
Acts act before after text = (w : World) → WorldStandsFor before w → WorldStandsFor after (act w).0 × (text ≡ flat_map telling_line (act w).1)
