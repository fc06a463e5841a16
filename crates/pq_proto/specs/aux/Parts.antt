-- Auxiliary: the tokens of a message before and after those of the messages in it.
use Rattle.std.specs.Prelude.{ℕ, false, List, [], ◌∷◌, ◌++◌, codes}
use Rattle.json.specs.Token.{Token, begin_object, end_object, begin_array, end_array, key, string, boolean}
use Rattle.pq_schema.specs.declared.queries.resolved.ResolvedReference.{ResolvedReference}
use Rattle.pq_proto.specs.Bodies.{Body}
use Rattle.pq_proto.specs.Lists.{list_data}
use Rattle.pq_proto.specs.Settings.{options_data, settings_in}
use Rattle.pq_proto.specs.Reserved.{names_data, ranges_data}
use Rattle.pq_proto.specs.Descriptor.{enums_in, fields_in, oneofs_data, greatest_field}
use Rattle.pq_proto.specs.aux.Printed.{tokens_of}

-- `message_front references full body` is the tokens of the message `full` with the body `body` up
-- to those of the messages in it
abbrev pub message_front : List ResolvedReference → List ℕ → Body → List Token
message_front references full body =
    begin_object ∷ key (codes "enums") ∷ (tokens_of (list_data (enums_in full body))
    ++ key (codes "fields") ∷ (tokens_of (list_data (fields_in references full body))
    ++ key (codes "fullName") ∷ string full ∷ key (codes "mapEntry") ∷ boolean false ∷ key (codes "messages") ∷ begin_array ∷ []))

-- `message_back name body` is the tokens of the message `name` with the body `body` after those of
-- the messages in it
abbrev pub message_back : List ℕ → Body → List Token
message_back name body =
    end_array ∷ key (codes "name") ∷ string name ∷ key (codes "oneofs") ∷ (tokens_of (oneofs_data body)
    ++ key (codes "options") ∷ (tokens_of (options_data (settings_in body))
    ++ key (codes "reservedNames") ∷ (tokens_of (names_data body)
    ++ key (codes "reservedRanges") ∷ (tokens_of (ranges_data greatest_field body)
    ++ end_object ∷ []))))
