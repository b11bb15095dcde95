-- The keys of the maps of a tag, each with its number and its form: RFC 9393, section 2.
use Rattle.std.specs.Prelude.{ℕ}
use Rattle.coswid_res.specs.Fields.{Field, one, one_or_more, a_text, a_boolean, an_integer, an_unsigned, an_identifier, a_code, a_uri, a_time, a_hash, a_map}
use Rattle.coswid_res.specs.Fields as map

-- The keys, by name. Two have a longer name than in the standard: `resource_type` is `type`, and
-- `link_use` is `use`.
pub data Key : Type 0 where
  tag_id : Key
  software_name : Key
  entity : Key
  evidence : Key
  link : Key
  software_meta : Key
  payload : Key
  hash : Key
  corpus : Key
  patch : Key
  media : Key
  supplemental : Key
  tag_version : Key
  software_version : Key
  version_scheme : Key
  lang : Key
  directory : Key
  file : Key
  process : Key
  resource : Key
  size : Key
  file_version : Key
  key : Key
  location : Key
  fs_name : Key
  root : Key
  path_elements : Key
  process_name : Key
  pid : Key
  resource_type : Key
  entity_name : Key
  reg_id : Key
  role : Key
  thumbprint : Key
  date : Key
  device_id : Key
  artifact : Key
  href : Key
  ownership : Key
  rel : Key
  media_type : Key
  link_use : Key
  activation_status : Key
  channel_type : Key
  colloquial_version : Key
  description : Key
  edition : Key
  entitlement_data_required : Key
  entitlement_key : Key
  generator : Key
  persistent_id : Key
  product : Key
  product_family : Key
  revision : Key
  summary : Key
  unspsc_code : Key
  unspsc_version : Key

-- The table of keys: the number of each, and what stands under it. A key has one row, also where it
-- is a key of several maps.
abbrev pub row : Key → ℕ × Field
row tag_id = (0, one an_identifier)
row software_name = (1, one a_text)
row entity = (2, one_or_more (a_map map.entity))
row evidence = (3, one (a_map map.evidence))
row link = (4, one_or_more (a_map map.link))
row software_meta = (5, one_or_more (a_map map.software_meta))
row payload = (6, one (a_map map.payload))
row hash = (7, one a_hash)
row corpus = (8, one a_boolean)
row patch = (9, one a_boolean)
row media = (10, one a_text)
row supplemental = (11, one a_boolean)
row tag_version = (12, one an_integer)
row software_version = (13, one a_text)
row version_scheme = (14, one a_code)
row lang = (15, one a_text)
row directory = (16, one_or_more (a_map map.directory))
row file = (17, one_or_more (a_map map.file))
row process = (18, one_or_more (a_map map.process))
row resource = (19, one_or_more (a_map map.resource))
row size = (20, one an_unsigned)
row file_version = (21, one a_text)
row key = (22, one a_boolean)
row location = (23, one a_text)
row fs_name = (24, one a_text)
row root = (25, one a_text)
row path_elements = (26, one (a_map map.path_elements))
row process_name = (27, one a_text)
row pid = (28, one an_integer)
row resource_type = (29, one a_text)
row entity_name = (31, one a_text)
row reg_id = (32, one a_uri)
row role = (33, one_or_more a_code)
row thumbprint = (34, one a_hash)
row date = (35, one a_time)
row device_id = (36, one a_text)
row artifact = (37, one a_text)
row href = (38, one a_uri)
row ownership = (39, one a_code)
row rel = (40, one a_code)
row media_type = (41, one a_text)
row link_use = (42, one a_code)
row activation_status = (43, one a_text)
row channel_type = (44, one a_text)
row colloquial_version = (45, one a_text)
row description = (46, one a_text)
row edition = (47, one a_text)
row entitlement_data_required = (48, one a_boolean)
row entitlement_key = (49, one a_text)
row generator = (50, one an_identifier)
row persistent_id = (51, one a_text)
row product = (52, one a_text)
row product_family = (53, one a_text)
row revision = (54, one a_text)
row summary = (55, one a_text)
row unspsc_code = (56, one a_text)
row unspsc_version = (57, one a_text)

abbrev pub number : Key → ℕ
number k = (row k).0

abbrev pub field : Key → Field
field k = (row k).1
