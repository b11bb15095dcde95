-- Prefixes of chronicles.
use Rattle.std.proofs.Common.{ap, take-append-drop}
use Rattle.std.proofs.lemmas.List.{take-append-le}
use Rattle.std.specs.Prelude.{List}
use Rattle.collector_core.specs.declared.chronicle.Entry.{Entry}
use Rattle.collector_core.specs.Meaning.{PrefixesExtend, PrefixesStay}

pub prefixes_stay : PrefixesStay
prefixes_stay chronicle further count within =
    ap (λ (xs : List Entry). record { start = chronicle.start; entries = xs }) (take-append-le count chronicle.entries further within)

pub prefixes_extend : PrefixesExtend
prefixes_extend chronicle count =
    ap (λ (xs : List Entry). record { start = chronicle.start; entries = xs }) (take-append-drop count chronicle.entries)
