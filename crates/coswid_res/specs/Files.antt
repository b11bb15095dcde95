-- Files: RFC 9393, section 2.9.2.
use Rattle.std.specs.Prelude.{[], ◌∷◌}
use Rattle.cbor_det.specs.Term.{text, boolean}
use Rattle.coswid_res.specs.declared.resources.file.FileEntry.{FileEntry}
use Rattle.coswid_res.specs.Columns.{Table, required, optional}
use Rattle.coswid_res.specs.Items.{unsigned_item, hash_item}
use Rattle.coswid_res.specs.Keys as keys
use Rattle.coswid_res.specs.Words.{Text, Boolean, Unsigned, Hash}

abbrev pub file_table : Table FileEntry
file_table = record {
  columns =
      optional keys.hash Hash hash_item (λ f. f.hash)
      ∷ optional keys.size Unsigned unsigned_item (λ f. f.size)
      ∷ optional keys.file_version Text text (λ f. f.file_version)
      ∷ optional keys.key Boolean boolean (λ f. f.key)
      ∷ optional keys.location Text text (λ f. f.location)
      ∷ required keys.fs_name Text text (λ f. f.fs_name)
      ∷ optional keys.root Text text (λ f. f.root)
      ∷ [];
  extras = λ f. f.extras;
}
