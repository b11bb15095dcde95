-- What may stand under a key of the maps of a tag: RFC 9393, section 2.

-- The maps, by name: sections 2.3 and 2.6 to 2.9.
pub data Name : Type 0 where
  tag : Name
  entity : Name
  link : Name
  software_meta : Name
  payload : Name
  evidence : Name
  directory : Name
  -- what a directory holds
  path_elements : Name
  file : Name
  process : Name
  resource : Name

-- What one value is written as.
pub data Form : Type 0 where
  a_text : Form
  a_boolean : Form
  an_integer : Form
  -- an integer that is not below 0
  an_unsigned : Form
  -- a text, or the 16 octets of a UUID
  an_identifier : Form
  -- a number of a registry, or a text
  a_code : Form
  -- a text under tag 32, or alone
  a_uri : Form
  -- an integer under tag 1, or alone
  a_time : Form
  -- an array of an algorithm's number and octets: section 2.9.1
  a_hash : Form
  a_map : Name → Form
  -- what stands under a key that is not listed
  anything : Form

-- What stands under a key: one value, or one or more as the standard writes them, an array or one
-- value alone.
pub data Field : Type 0 where
  one : Form → Field
  one_or_more : Form → Field
