-- The lines of a script of both ends of sessions: which words they have.
use Rattle.std.specs.Prelude.{◌≡◌, ◌==◌, ◌&&◌, ◌≤◌, ◌+◌, ℕ, Bool, true, false, List, [], ◌∷◌, Option, Some, None, take, drop, codes, nat_le, option_map, if◌then◌else◌}
use Rattle.std.specs.List.{position}
use Rattle.std.specs.Str.{bytes_eq}
use Rattle.swima_model.specs.declared.record.Content.{Content}
use Rattle.swima_model.specs.declared.report.Kind.{Kind}
use Rattle.swima_model.specs.declared.report.Kind.TheVariants.{Ids, Full}
use Rattle.line_words.specs.Reading.{FindsExactly, IsHex, IsNumber, IsText, IsWithin}
use Rattle.line_words.specs.Words.{words}
use Rattle.session_script.specs.declared.header.Header.{Header}
use Rattle.session_script.specs.declared.line.Line.{Line}
use Rattle.session_script.specs.declared.line.Line.TheVariants as line

-- ---- words

-- The octets before the first of these, and those after it.
abbrev pub split_once : ℕ → List ℕ → Option (List ℕ × List ℕ)
split_once separator octets = option_map (λ (place : ℕ). (take place octets, drop (place + 1) octets)) (position (λ (octet : ℕ). octet == separator) octets)

-- No line has more than six words: those after the seventh are not looked at.
abbrev pub words_of : List ℕ → List (List ℕ)
words_of line = take 7 (words line)

-- A number within bounds.
abbrev pub within : ℕ → ℕ → Option ℕ → Option ℕ
within least most None = None
within least most (Some number) = if nat_le least number && nat_le number most then Some number else None

abbrev pub IsNumberWithin : ℕ → ℕ → List ℕ → Option ℕ → Type 0
IsNumberWithin least most word number = (read : Option ℕ) × FindsExactly (IsNumber word) read × (number ≡ within least most read)

-- ---- the first line

abbrev pub kind_of : List ℕ → Option Kind
kind_of word = if bytes_eq word (codes "ids") then Some Ids else (if bytes_eq word (codes "full") then Some Full else None)

abbrev pub answer_of : List ℕ → Option Bool
answer_of word = if bytes_eq word (codes "yes") then Some true else (if bytes_eq word (codes "no") then Some false else None)

abbrev pub header_by : Option ℕ → Option ℕ → Option ℕ → Option Kind → Option Bool → Option Header
header_by (Some epoch) (Some cap) (Some max) (Some kind) (Some subscribe) = Some (record { epoch = epoch; cap = cap; max = max; kind = kind; subscribe = subscribe })
header_by epoch cap max kind subscribe = None

abbrev pub named : List ℕ → Option Header → Option Header
named name header = if bytes_eq name (codes "replay") then header else None

-- The words are `replay`, the epoch of the inventory, how many events it keeps, the most octets of
-- the reports in a batch, the kind of the mirror, and whether the validator subscribes.
abbrev pub HeaderIs : List (List ℕ) → Option Header → Type 0
HeaderIs (name ∷ epoch ∷ cap ∷ max ∷ kind ∷ subscribe ∷ []) header =
    (e : Option ℕ) × IsNumberWithin 1 4294967295 epoch e × ((c : Option ℕ) × IsNumberWithin 1 4096 cap c × ((m : Option ℕ) × IsNumberWithin 64 16000000 max m
    × (header ≡ named name (header_by e c m (kind_of kind) (answer_of subscribe)))))
HeaderIs words header = header ≡ None

-- The numbers of a first line are within their bounds.
pub record IsHeader (h : Header) : Type 0 where
  pub epoch : 1 ≤ h.epoch
  pub cap : 1 ≤ h.cap
  pub cap_most : h.cap ≤ 4096
  pub max : h.max ≤ 16000000

-- ---- the lines after it

-- A line of one word.
abbrev pub alone : List ℕ → Option Line
alone name =
    if bytes_eq name (codes "open") then Some line.Open
    else (if bytes_eq name (codes "run") then Some line.Run
    else (if bytes_eq name (codes "idle") then Some line.Idle
    else (if bytes_eq name (codes "cut") then Some line.Cut
    else (if bytes_eq name (codes "again") then Some line.Again
    else (if bytes_eq name (codes "waits") then Some line.Waits
    else (if bytes_eq name (codes "show") then Some line.Show
    else None))))))

-- No epoch has the number 0.
abbrev pub epoch_line : ℕ → Option Line
epoch_line number = if number == 0 then None else Some (line.Epoch number)

-- A line of a word and a number.
abbrev pub with_number : List ℕ → ℕ → Option Line
with_number name number =
    if bytes_eq name (codes "epoch") then epoch_line number
    else (if bytes_eq name (codes "delete") then Some (line.Delete number)
    else (if bytes_eq name (codes "trim") then Some (line.Trim number)
    else (if bytes_eq name (codes "up") then Some (line.Up number)
    else (if bytes_eq name (codes "down") then Some (line.Down number)
    else None))))

abbrev pub numbered : List ℕ → Option ℕ → Option Line
numbered name None = None
numbered name (Some number) = with_number name number

-- The content of a record, by the text of its identifier and the digits of its body: a CoSWID tag
-- without a locator, of source 0.
pub record IsContent (text digits : List ℕ) (content : Content) : Type 0 where
  pub model : content.model ≡ record { pen = 0; kind = 2 }
  pub source : content.source ≡ 0
  pub ident : IsText 65535 text content.ident
  pub locator : content.locator ≡ []
  pub octets : List ℕ
  pub hex : IsHex digits octets
  pub body : IsWithin 1048576 octets content.body

abbrev pub creates : List ℕ → Option Content → Option Line
creates name None = None
creates name (Some content) = if bytes_eq name (codes "create") then Some (line.Create content) else None

abbrev pub alters : List ℕ → Option ℕ → Option Content → Option Line
alters name (Some id) (Some content) = if bytes_eq name (codes "alter") then Some (line.Alter id content) else None
alters name id content = None

-- What the words say, if they say anything.
abbrev pub LineIs : List (List ℕ) → Option Line → Type 0
LineIs (name ∷ []) said = said ≡ alone name
LineIs (name ∷ number ∷ []) said = (n : Option ℕ) × FindsExactly (IsNumber number) n × (said ≡ numbered name n)
LineIs (name ∷ ident ∷ digits ∷ []) said = (c : Option Content) × FindsExactly (IsContent ident digits) c × (said ≡ creates name c)
LineIs (name ∷ id ∷ ident ∷ digits ∷ []) said = (n : Option ℕ) × FindsExactly (IsNumber id) n × ((c : Option Content) × FindsExactly (IsContent ident digits) c × (said ≡ alters name n c))
LineIs words said = said ≡ None
