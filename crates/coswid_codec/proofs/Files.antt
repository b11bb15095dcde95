-- Files: RFC 9393, section 2.9.2.
use Rattle.std.proofs.Common.{refl}
use Rattle.cbor_det.specs.declared.item.Pairs as code
use Rattle.coswid_res.specs.Columns.{Values, MapOf, maps_of, ◌⨾◌}
use Rattle.coswid_res.specs.Files.{file_table}
use Rattle.coswid_res.specs.Schema as schema
use Rattle.coswid_res.specs.Schema.{one_or_more, a_map}
use Rattle.coswid_res.specs.Words.{OneOrMore}
use Rattle.coswid_res.specs.declared.resources.file.FileEntry.{FileEntry}
use Rattle.coswid_codec.proofs.Columns.{Laws, known, several_by}
use Rattle.coswid_codec.proofs.Lawful.{Lawful}
use Rattle.coswid_codec.proofs.Plain.{boolean_law, hash_law, text_law, unsigned_law}

abbrev laws : Laws file_table.columns
laws = known hash_law ⨾ known unsigned_law ⨾ known text_law ⨾ known boolean_law ⨾ known text_law ⨾ known text_law ⨾ known text_law ⨾ tt

abbrev make : Values file_table.columns → code.Pairs → FileEntry
make (hash, (size, (file_version, (key, (location, (fs_name, (root, none))))))) extras = record { hash = hash; size = size; file_version = file_version; key = key; location = location; fs_name = fs_name; root = root; extras = extras }

pub files_law : Lawful (one_or_more (a_map schema.file)) (OneOrMore (MapOf file_table)) (maps_of file_table) 0
files_law = several_by schema.file file_table 0 laws make refl refl (λ f. refl) (λ vs xs. (refl, refl))
