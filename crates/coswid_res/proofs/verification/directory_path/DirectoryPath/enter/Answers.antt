-- The path may be cut where the parts of the directory begin.
use Rattle.std.proofs.Common.{◌∙◌, ℕ, List, ap, length, string_bytes}
use Rattle.std.proofs.lemmas.Str.{IsUtf8-string_bytes}
use Rattle.coswid_res.specs.Listing.{with_part}
use Rattle.coswid_res.proofs.Entered.{may_be_cut}
use Rattle.coswid_res.proofs.verification.directory_path.DirectoryPath.enter.Goals as goal

pub returns-clause-boundary : goal.returns-clause-boundary
returns-clause-boundary c =
    may_be_cut (string_bytes c.self.inside.path) c.part.result.now c.as_str.result.now (string_bytes c.push_part-2.new.path) (length c.as_str-len.result.now)
    (IsUtf8-string_bytes c.self.inside.path) (IsUtf8-string_bytes c.push_part-2.new.path) (ap (λ (p : List ℕ). length p) c.as_str-len.ensures.value)
    (c.in_ok-push_part-2.ensures.part ∙ ap (λ (p : List ℕ). with_part p c.as_str.result.now) c.in_ok-push_part.ensures.part)
