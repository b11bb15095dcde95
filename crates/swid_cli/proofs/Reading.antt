-- Tags that are read one after another.
use Rattle.std.proofs.Common.{◌≡◌, ℕ, ◌+◌, List, [], ◌∷◌, ◌++◌, drop, length, sym, ap, subst, ◌∙◌, length-append}
use Rattle.std.specs.List.{All}
use Rattle.std.proofs.lemmas.List.Elements.{All-push}
use Rattle.coswid_tag.specs.declared.tag.Tag.{Tag}
use Rattle.coswid_codec.specs.Answers.{BeginsTag}
use Rattle.swid_cli.specs.TagList.{BeginsTags, no_tags, one_more}

pub none_read : (octets : List ℕ) (gs : List Tag) → gs ≡ [] → BeginsTags octets gs octets
none_read octets gs is = subst (λ (fs : List Tag). BeginsTags octets fs octets) (sym is) no_tags

pub more_read : (octets rest others : List ℕ) (gs fs : List Tag) (g : Tag) (len : ℕ) → BeginsTags octets gs rest → BeginsTag rest g len → fs ≡ gs ++ g ∷ [] → others ≡ drop len rest → BeginsTags octets fs others
more_read octets rest others gs fs g len begins tag tags behind =
    subst (λ (o : List ℕ). BeginsTags octets fs o) (sym behind) (subst (λ (hs : List Tag). BeginsTags octets hs (drop len rest)) (sym tags) (one_more gs rest g len begins tag))

pub one_more_holds : (P : Tag → Type 0) (gs fs : List Tag) (g : Tag) → All P gs → P g → fs ≡ gs ++ g ∷ [] → All P fs
one_more_holds P gs fs g are is tags = subst (λ (hs : List Tag). All P hs) (sym tags) (All-push P gs g are is)

pub one_longer : (gs fs : List Tag) (g : Tag) → fs ≡ gs ++ g ∷ [] → length fs ≡ length gs + 1
one_longer gs fs g tags = ap (λ (hs : List Tag). length hs) tags ∙ length-append gs (g ∷ [])
