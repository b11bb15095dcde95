-- Directories and what they hold, in one another: RFC 9393, section 2.9.2.
use Rattle.std.proofs.Common.{◌≡◌, ◌≤◌, ℕ, zero, suc, ◌+◌, List, [], ◌∷◌, Option, Some, None, refl, sym, ap, ◌∙◌, subst, arith}
use Rattle.std.specs.Option.{option_map}
use Rattle.cbor_det.specs.Laid.{put_rows}
use Rattle.cbor_det.specs.Lookup.{value_under, other_than}
use Rattle.cbor_det.specs.Term.{Term, Terms, Pairs, array, map, no_terms, term, depth, terms_depth, pairs_depth}
use Rattle.cbor_det.specs.View.{pairs_view}
use Rattle.coswid_res.specs.declared.resources.directory.DirEntry.{DirEntry, out-DirEntry}
use Rattle.coswid_res.specs.declared.resources.directory.PathElements.{PathElements, out-PathElements}
use Rattle.coswid_res.specs.declared.resources.directory.DirEntry.TheOpen.{DirEntry-F, PathElements-F}
use Rattle.coswid_res.specs.declared.resources.directory.DirEntry.TheViews as views
use Rattle.coswid_res.specs.declared.resources.directory.DirEntry.TheViews.{roll-DirEntry, roll-PathElements}
use Rattle.coswid_res.specs.Columns.{◌⨾◌}
use Rattle.coswid_res.specs.Directories.{DirectoryKeys, PathKeys, DirectoryPairs, directory, PathUnder, no_path, path, PathPairs, path_elements, DirectoriesUnder, no_directories, alone, several, EachDirectory, no_more, one_more, DirectoryMap, PathMap}
use Rattle.coswid_res.specs.DirectoryItems.{directory_pairs, path_pairs, directory_item, path_item, directories_item}
use Rattle.coswid_res.specs.Fault.{field_fault, elements_fault, under, wrong_form}
use Rattle.coswid_res.specs.Reading.{keys_fault, value_fault}
use Rattle.coswid_res.specs.Schema as schema
use Rattle.coswid_res.specs.Schema.{table, keys_of, one, one_or_more, a_map}
use Rattle.coswid_res.specs.Words.{Agree, Each, OneOrMore}
use Rattle.coswid_res.proofs.DirectoryReads.{path_under, directories_under, directory_made, path_made, path_agrees, directories_agree}
use Rattle.coswid_res.proofs.DirectoryWrites.{directory_rows, path_rows, directory_written, path_written}
use Rattle.coswid_res.proofs.Maps.{map_told, or_none}
use Rattle.coswid_codec.proofs.Extras.{extras_some, extras_same}
use Rattle.coswid_codec.proofs.Files.{files_law}
use Rattle.coswid_codec.proofs.Lawful.{Told, Lawful, MapTold, MapLawful, under_none, wrong}
use Rattle.coswid_codec.proofs.Lines.{line_none, required_same, required_some, optional_again, optional_same, optional_some, again_by, pairs_told, map_law}
use Rattle.coswid_codec.proofs.Plain.{boolean_law, text_law}
use Rattle.coswid_codec.proofs.Several.{array_told, one_told, filled, several_law}
use Rattle.coswid_codec.proofs.Facts.{Facts, required_fact, optional_fact, told_fact, under_within}
use Rattle.coswid_codec.proofs.Tables.{made, made_told}

-- What is known of a directory in an item, of what one holds, and of several.

abbrev DirectoryTold : DirEntry → Term → Type 0
DirectoryTold d t = Told (one (a_map schema.directory)) DirectoryMap directory_item 0 d t

abbrev PathTold : PathElements → Term → Type 0
PathTold p t = Told (one (a_map schema.path_elements)) PathMap path_item 0 p t

abbrev DirectoriesTold : List DirEntry → Term → Type 0
DirectoriesTold ds t = Told (one_or_more (a_map schema.directory)) (OneOrMore DirectoryMap) directories_item 0 ds t

-- A directory, where what it holds is known.

directory_facts : (d : DirEntry) (ps : Pairs) → DirectoryKeys (out-DirEntry d) ps → Agree PathTold (out-DirEntry d).path_elements (value_under 26 ps)
    → Facts 0 ps (table schema.directory) (directory_rows d)
directory_facts d ps keys held =
    optional_fact 0 22 (out-DirEntry d).key ps boolean_law (omega arith) keys.key
    ⨾ optional_fact 0 23 (out-DirEntry d).location ps text_law (omega arith) keys.location
    ⨾ required_fact 0 24 (out-DirEntry d).fs_name ps text_law (omega arith) keys.fs_name
    ⨾ optional_fact 0 25 (out-DirEntry d).root ps text_law (omega arith) keys.root
    ⨾ told_fact (one (a_map schema.path_elements)) PathMap path_item 0 0 26 (out-DirEntry d).path_elements ps (omega arith) held
    ⨾ tt

directory_by : (d : DirEntry) (ps : Pairs) → DirectoryKeys (out-DirEntry d) ps → Agree PathTold (out-DirEntry d).path_elements (value_under 26 ps)
    → MapTold schema.directory DirectoryPairs directory_pairs 0 d ps
directory_by d ps keys held =
    let o = out-DirEntry d in
    let qs : Pairs = put_rows (directory_rows d) (pairs_view o.extras) in
    let e : directory_pairs d ≡ qs = directory_written d in
    let all = made schema.directory (directory_rows d) (pairs_view o.extras) 0 ps (directory_facts d ps keys held) keys.extras in
    let again : DirectoryKeys o qs = record {
      key = optional_again 22 o.key ps qs boolean_law keys.key all.holds.0;
      location = optional_again 23 o.location ps qs text_law keys.location all.holds.1.0;
      fs_name = optional_again 24 (Some o.fs_name) ps qs text_law keys.fs_name all.holds.1.1.0;
      root = optional_again 25 o.root ps qs text_law keys.root all.holds.1.1.1.0;
      extras = all.rest;
    } in
    let P : Option Term → Type 0 = λ u. PathUnder o.path_elements u in
    let inside : PathUnder o.path_elements (value_under 26 qs) =
    subst P (sym all.holds.1.1.1.1.0) (path_under o.path_elements (option_map path_item o.path_elements)
    (again_by (one (a_map schema.path_elements)) PathMap path_item 0 o.path_elements (value_under 26 ps) held)) in
    let I : Pairs → Type 0 = λ rs. DirectoryPairs d rs in
    made_told all (sym e) (subst I (sym e) (directory d qs again inside))

-- What a directory holds, where the directories in it are known.

path_facts : (p : PathElements) (ps : Pairs) → PathKeys (out-PathElements p) ps → Agree DirectoriesTold (out-PathElements p).directory (value_under 16 ps)
    → Facts 0 ps (table schema.path_elements) (path_rows p)
path_facts p ps keys held =
    told_fact (one_or_more (a_map schema.directory)) (OneOrMore DirectoryMap) directories_item 0 0 16 (out-PathElements p).directory ps (omega arith) held
    ⨾ optional_fact 0 17 (out-PathElements p).file ps files_law (omega arith) keys.file
    ⨾ tt

path_by : (p : PathElements) (ps : Pairs) → PathKeys (out-PathElements p) ps → Agree DirectoriesTold (out-PathElements p).directory (value_under 16 ps)
    → MapTold schema.path_elements PathPairs path_pairs 0 p ps
path_by p ps keys held =
    let o = out-PathElements p in
    let qs : Pairs = put_rows (path_rows p) (pairs_view o.extras) in
    let e : path_pairs p ≡ qs = path_written p in
    let all = made schema.path_elements (path_rows p) (pairs_view o.extras) 0 ps (path_facts p ps keys held) keys.extras in
    let again : PathKeys o qs = record {
      file = optional_again 17 o.file ps qs files_law keys.file all.holds.1.0;
      extras = all.rest;
    } in
    let P : Option Term → Type 0 = λ u. DirectoriesUnder o.directory u in
    let inside : DirectoriesUnder o.directory (value_under 16 qs) =
    subst P (sym all.holds.0) (directories_under o.directory (option_map directories_item o.directory)
    (again_by (one_or_more (a_map schema.directory)) (OneOrMore DirectoryMap) directories_item 0 o.directory (value_under 16 ps) held)) in
    let I : Pairs → Type 0 = λ rs. PathPairs p rs in
    made_told all (sym e) (subst I (sym e) (path_elements p qs again inside))

-- By what is read, from the outside in.
mutual
  directory_told : (d : DirEntry) (ps : Pairs) → DirectoryPairs d ps → MapTold schema.directory DirectoryPairs directory_pairs 0 d ps
  directory_told d ps (directory e qs keys inside) = directory_by e qs keys (path_under_told (out-DirEntry e).path_elements (value_under 26 qs) inside)

  path_under_told : (x : Option PathElements) (o : Option Term) → PathUnder x o → Agree PathTold x o
  path_under_told x o no_path = tt
  path_under_told x o (path p ps is) = pairs_told schema.path_elements PathPairs path_pairs 0 p ps (path_told p ps is)

  path_told : (p : PathElements) (ps : Pairs) → PathPairs p ps → MapTold schema.path_elements PathPairs path_pairs 0 p ps
  path_told p ps (path_elements q qs keys inside) = path_by q qs keys (directories_under_told (out-PathElements q).directory (value_under 16 qs) inside)

  directories_under_told : (x : Option (List DirEntry)) (o : Option Term) → DirectoriesUnder x o → Agree DirectoriesTold x o
  directories_under_told x o no_directories = tt
  directories_under_told x o (alone d ps is) =
      one_told (a_map schema.directory) DirectoryMap directory_item 0 (λ e. tt) d (map ps) refl (pairs_told schema.directory DirectoryPairs directory_pairs 0 d ps (directory_told d ps is))
  directories_under_told x o (several ds ts some each) = array_told (a_map schema.directory) DirectoryMap directory_item 0 (λ e. tt) ds ts some (each_told ds ts each)

  each_told : (ds : List DirEntry) (ts : Terms) → EachDirectory ds ts → Each DirectoryTold ds ts
  each_told ds ts no_more = tt
  each_told ds ts (one_more d es ps us is rest) = (pairs_told schema.directory DirectoryPairs directory_pairs 0 d ps (directory_told d ps is), each_told es us rest)

-- From one map one directory is read.

directory_fields : (d e : DirEntry) → out-DirEntry d ≡ out-DirEntry e → d ≡ e
directory_fields d e same = sym (views.roll-out-DirEntry d) ∙ ap (λ (l : DirEntry-F DirEntry PathElements). roll-DirEntry l) same ∙ views.roll-out-DirEntry e

path_fields : (p q : PathElements) → out-PathElements p ≡ out-PathElements q → p ≡ q
path_fields p q same = sym (views.roll-out-PathElements p) ∙ ap (λ (l : PathElements-F DirEntry PathElements). roll-PathElements l) same ∙ views.roll-out-PathElements q

abbrev of_directory : DirEntry-F DirEntry PathElements → DirEntry-F DirEntry PathElements
of_directory d = record { key = d.key; location = d.location; fs_name = d.fs_name; root = d.root; path_elements = d.path_elements; extras = d.extras }

directory_same_by : (a b : DirEntry-F DirEntry PathElements) (ps : Pairs) → DirectoryKeys a ps → DirectoryKeys b ps → a.path_elements ≡ b.path_elements → a ≡ b
directory_same_by a b ps first second held =
    let key : a.key ≡ b.key = optional_same 22 a.key b.key ps boolean_law first.key second.key in
    let location : a.location ≡ b.location = optional_same 23 a.location b.location ps text_law first.location second.location in
    let fs_name : a.fs_name ≡ b.fs_name = required_same 24 a.fs_name b.fs_name ps text_law first.fs_name second.fs_name in
    let root : a.root ≡ b.root = optional_same 25 a.root b.root ps text_law first.root second.root in
    let extras : a.extras ≡ b.extras = extras_same a.extras b.extras (first.extras ∙ sym second.extras) in
    let alike : of_directory a ≡ of_directory b = cc in
    alike

abbrev of_path : PathElements-F DirEntry PathElements → PathElements-F DirEntry PathElements
of_path p = record { directory = p.directory; file = p.file; extras = p.extras }

path_same_by : (a b : PathElements-F DirEntry PathElements) (ps : Pairs) → PathKeys a ps → PathKeys b ps → a.directory ≡ b.directory → a ≡ b
path_same_by a b ps first second held =
    let file : a.file ≡ b.file = optional_same 17 a.file b.file ps files_law first.file second.file in
    let extras : a.extras ≡ b.extras = extras_same a.extras b.extras (first.extras ∙ sym second.extras) in
    let alike : of_path a ≡ of_path b = cc in
    alike

-- what is read of a map, as keys and what stands under the key of the part
keys_of_directory : (d : DirEntry) (ps : Pairs) → DirectoryPairs d ps → DirectoryKeys (out-DirEntry d) ps × PathUnder (out-DirEntry d).path_elements (value_under 26 ps)
keys_of_directory d ps (directory e qs keys inside) = (keys, inside)

keys_of_path : (p : PathElements) (ps : Pairs) → PathPairs p ps → PathKeys (out-PathElements p) ps × DirectoriesUnder (out-PathElements p).directory (value_under 16 ps)
keys_of_path p ps (path_elements q qs keys inside) = (keys, inside)

mutual
  directory_same : (d e : DirEntry) (ps : Pairs) → DirectoryPairs d ps → DirectoryPairs e ps → d ≡ e
  directory_same d e ps (directory f qs keys inside) second =
      let other = keys_of_directory e qs second in
      let held = path_under_same (out-DirEntry f).path_elements (out-DirEntry e).path_elements (value_under 26 qs) inside (path_agrees (out-DirEntry e).path_elements (value_under 26 qs) other.1) in
      directory_fields f e (directory_same_by (out-DirEntry f) (out-DirEntry e) qs keys other.0 held)

  path_under_same : (x y : Option PathElements) (o : Option Term) → PathUnder x o → Agree PathMap y o → x ≡ y
  path_under_same x None o no_path second = refl
  path_under_same x (Some q) o (path p ps is) second = ap (λ (r : PathElements). Some r) (path_same p q ps is second)
  path_under_same x y o first second = absurd second

  path_same : (p q : PathElements) (ps : Pairs) → PathPairs p ps → PathPairs q ps → p ≡ q
  path_same p q ps (path_elements r qs keys inside) second =
      let other = keys_of_path q qs second in
      let held = directories_under_same (out-PathElements r).directory (out-PathElements q).directory (value_under 16 qs) inside (directories_agree (out-PathElements q).directory (value_under 16 qs) other.1) in
      path_fields r q (path_same_by (out-PathElements r) (out-PathElements q) qs keys other.0 held)

  directories_under_same : (x y : Option (List DirEntry)) (o : Option Term) → DirectoriesUnder x o → Agree (OneOrMore DirectoryMap) y o → x ≡ y
  directories_under_same x None o no_directories second = refl
  directories_under_same x (Some (e ∷ [])) o (alone d ps is) second = ap (λ (f : DirEntry). Some (f ∷ [])) (directory_same d e ps is second)
  directories_under_same x (Some es) o (several ds ts some each) second = ap (λ (fs : List DirEntry). Some fs) (each_same ds es ts each second.1)
  directories_under_same x y o first second = absurd second

  each_same : (ds es : List DirEntry) (ts : Terms) → EachDirectory ds ts → Each DirectoryMap es ts → ds ≡ es
  each_same ds [] ts no_more second = refl
  each_same ds (e ∷ es) ts (one_more d rs ps us is rest) second =
      ap (λ (f : DirEntry). f ∷ rs) (directory_same d e ps is second.0) ∙ ap (λ (fs : List DirEntry). e ∷ fs) (each_same rs es us rest second.1)
  each_same ds es ts first second = absurd second

-- A map without a fault is read as a directory: by how deep it is.

abbrev PathBelow : ℕ → Type 0
PathBelow n = (qs : Pairs) → pairs_depth qs + 1 ≤ n → keys_fault schema.path_elements qs ≡ None → (p : PathElements) × PathPairs p qs

abbrev DirectoryBelow : ℕ → Type 0
DirectoryBelow n = (qs : Pairs) → pairs_depth qs + 1 ≤ n → keys_fault schema.directory qs ≡ None → (d : DirEntry) × DirectoryPairs d qs

path_under_some : (n : ℕ) (o : Option Term) → PathBelow n → ((t : Term) → o ≡ Some t → depth t ≤ n) → value_fault 26 (one (a_map schema.path_elements)) o ≡ None
    → (x : Option PathElements) × Agree PathMap x o
path_under_some n None below bound none = (None, tt)
path_under_some n (Some (map qs)) below bound none =
    let found = below qs (bound (map qs) refl) (sym (map_told schema.path_elements qs) ∙ under_none 26 (field_fault (one (a_map schema.path_elements)) (map qs)) none) in
    (Some found.0, found.1)
path_under_some n o below bound none = wrong (under_none 26 wrong_form none)

each_some : (n : ℕ) (ts : Terms) (i : ℕ) → DirectoryBelow n → terms_depth ts ≤ n → elements_fault (a_map schema.directory) i ts ≡ None → (ds : List DirEntry) × Each DirectoryMap ds ts
each_some n no_terms i below deep none = ([], tt)
each_some n (term (map qs) ts) i below deep none =
    let both = or_none (under i (field_fault (one (a_map schema.directory)) (map qs))) (elements_fault (a_map schema.directory) (i + 1) ts) none in
    let first = below qs (omega (arith, deep)) (sym (map_told schema.directory qs) ∙ under_none i (field_fault (one (a_map schema.directory)) (map qs)) both.0) in
    let rest = each_some n ts (i + 1) below (omega (arith, deep)) both.1 in
    (first.0 ∷ rest.0, (first.1, rest.1))
each_some n (term t ts) i below deep none = wrong (under_none i wrong_form (or_none (under i wrong_form) (elements_fault (a_map schema.directory) (i + 1) ts) none).0)

directories_under_some : (n : ℕ) (o : Option Term) → DirectoryBelow n → ((t : Term) → o ≡ Some t → depth t ≤ n) → value_fault 16 (one_or_more (a_map schema.directory)) o ≡ None
    → (x : Option (List DirEntry)) × Agree (OneOrMore DirectoryMap) x o
directories_under_some n None below bound none = (None, tt)
directories_under_some n (Some (map qs)) below bound none =
    let found = below qs (bound (map qs) refl) (sym (map_told schema.directory qs) ∙ under_none 16 (field_fault (one (a_map schema.directory)) (map qs)) none) in
    (Some (found.0 ∷ []), found.1)
directories_under_some n (Some (array (term t ts))) below bound none =
    let deep : depth (array (term t ts)) ≤ n = bound (array (term t ts)) refl in
    let found = each_some n (term t ts) 0 below (omega (arith, deep)) (under_none 16 (elements_fault (a_map schema.directory) 0 (term t ts)) none) in
    (Some found.0, (filled DirectoryMap found.0 t ts found.1, found.1))
directories_under_some n o below bound none = wrong (under_none 16 wrong_form none)

directory_step : (n : ℕ) (ps : Pairs) → PathBelow n → pairs_depth ps ≤ n → keys_fault schema.directory ps ≡ None → (d : DirEntry) × DirectoryPairs d ps
directory_step n ps below deep none =
    let no = line_none schema.directory ps none in
    let key = optional_some 22 ps boolean_law no.0 in
    let location = optional_some 23 ps text_law no.1.0 in
    let fs_name = required_some 24 ps text_law no.1.1.0 in
    let root = optional_some 25 ps text_law no.1.1.1.0 in
    let held = path_under_some n (value_under 26 ps) below (λ t e. under_within 26 ps t n e deep) no.1.1.1.1.0 in
    let extras = extras_some (other_than (keys_of (table schema.directory)) ps) in
    let d : DirEntry-F DirEntry PathElements = record { key = key.0; location = location.0; fs_name = fs_name.0; root = root.0; path_elements = held.0; extras = extras.0 } in
    (roll-DirEntry d, directory_made d ps (record { key = key.1; location = location.1; fs_name = fs_name.1; root = root.1; extras = extras.1 }) held.1)

path_step : (n : ℕ) (ps : Pairs) → DirectoryBelow n → pairs_depth ps ≤ n → keys_fault schema.path_elements ps ≡ None → (p : PathElements) × PathPairs p ps
path_step n ps below deep none =
    let no = line_none schema.path_elements ps none in
    let held = directories_under_some n (value_under 16 ps) below (λ t e. under_within 16 ps t n e deep) no.0 in
    let file = optional_some 17 ps files_law no.1.0 in
    let extras = extras_some (other_than (keys_of (table schema.path_elements)) ps) in
    let p : PathElements-F DirEntry PathElements = record { directory = held.0; file = file.0; extras = extras.0 } in
    (roll-PathElements p, path_made p ps (record { file = file.1; extras = extras.1 }) held.1)

some_to : (n : ℕ) → DirectoryBelow (n + 1) × PathBelow (n + 1)
some_to zero = (
  (λ ps deep none. directory_step 0 ps (λ qs less no. absurd (omega (arith, less))) (omega (arith, deep)) none),
  (λ ps deep none. path_step 0 ps (λ qs less no. absurd (omega (arith, less))) (omega (arith, deep)) none),
)
some_to (suc m) =
    let below = some_to m in (
      (λ ps deep none. directory_step (m + 1) ps below.1 (omega (arith, deep)) none),
      (λ ps deep none. path_step (m + 1) ps below.0 (omega (arith, deep)) none),
    )

pub directory_law : MapLawful schema.directory DirectoryPairs directory_pairs 0
directory_law = record { told = directory_told; same = directory_same; some = λ ps none. (some_to (pairs_depth ps)).0 ps (omega arith) none }

pub directories_law : Lawful (one_or_more (a_map schema.directory)) (OneOrMore DirectoryMap) directories_item 0
directories_law = several_law (a_map schema.directory) DirectoryMap directory_item 0 (map_law schema.directory DirectoryPairs directory_pairs 0 directory_law) (λ d. tt)
