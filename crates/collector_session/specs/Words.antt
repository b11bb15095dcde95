-- What a message says to a collector.
use Rattle.std.specs.Prelude.{◌≤◌, ◌<◌, ◌^◌, Some, None, length}
use Rattle.pa_attrs.specs.ErrorForm.{written_error}
use Rattle.pa_attrs.specs.Numbers.{MOST_ATTRIBUTES}
use Rattle.session_rules.specs.declared.word.CollectorWord.{CollectorWord}
use Rattle.session_rules.specs.Saying.{Said, Says, Refused}

-- It has no more words than a message has attributes, and its Error is a short one of a vendor.
abbrev pub FewWords : Said CollectorWord → Type 0
FewWords (Says words) = length words ≤ MOST_ATTRIBUTES
FewWords (Refused None) = Unit {0}
FewWords (Refused (Some error)) = (error.vendor < 2 ^ 24) × (length (written_error error) ≤ 24)
