-- A message in which the URI of its document is in the plain form (LSP 3.17, "TextDocumentIdentifier").
use Rattle.std.specs.Prelude.{ℕ, List, codes, if◌then◌else◌, option_map}
use Rattle.std.specs.Str.{bytes_eq}
use Rattle.serde_json.specs.Data.{Data, Members, null, boolean, number, string, array, object, member, no_members}
use Rattle.pq_frame.specs.Messages.{MessageModel, bad_json, invalid, ask, notice, response}
use Rattle.pq_session.specs.Uri.{plain_uri}

-- `with_change name change ms` is the members `ms`, where the value of the one of the name `name` is
-- what `change` makes of it. All others stay.
abbrev pub with_change : List ℕ → (Data → Data) → Members → Members
with_change name change no_members = no_members
with_change name change (member key d ms) = if bytes_eq name key then member key (change d) ms else member key d (with_change name change ms)

-- `within name change d` is `d`, if it is an object, with `change` made of its member `name`. Any other
-- value is itself.
abbrev pub within : List ℕ → (Data → Data) → Data → Data
within name change null = null
within name change (boolean b) = boolean b
within name change (number n) = number n
within name change (string text) = string text
within name change (array ds) = array ds
within name change (object ms) = object (with_change name change ms)

-- `plain_string d` is the plain form of the URI `d`, if it is a string. Any other value is itself.
abbrev pub plain_string : Data → Data
plain_string null = null
plain_string (boolean b) = boolean b
plain_string (number n) = number n
plain_string (string text) = string (plain_uri text)
plain_string (array ds) = array ds
plain_string (object ms) = object ms

-- `plain_document d` is the document `d` with its member `uri` in the plain form.
abbrev pub plain_document : Data → Data
plain_document d = within (codes "uri") plain_string d

-- `plain_params d` is the parameters `d` with the URI of their member `textDocument` in the plain form.
abbrev pub plain_params : Data → Data
plain_params d = within (codes "textDocument") plain_document d

-- `plain_message message` is `message` with the URI of its document in the plain form. All else is as
-- it was.
abbrev pub plain_message : MessageModel → MessageModel
plain_message bad_json = bad_json
plain_message (invalid label) = invalid label
plain_message (ask label method params) = ask label method (option_map plain_params params)
plain_message (notice method params) = notice method (option_map plain_params params)
plain_message response = response
